-- What the walks over a response say in the definition's words. Table 0 is the body's own row, 1 the brokers, 2 topics, 3 partitions, 4 replicas, 5 in-sync replicas.
use Rattle.std.specs.Prelude.{List, [], ◌++◌, ◌∷◌, ℕ, Result, Ok, Err}
use Rattle.layout.specs.Reading.{Res, bad, ok}
use Rattle.primitives.specs.Answers.{Read, of_read, of_refusal}
use Rattle.primitives.specs.declared.Refusal.{Refusal}
use Rattle.body_reading.specs.Store.{State, Tab, own, tab}
use Rattle.metadata_response.specs.TopicWalks.{in_topics, no_marks}
use Rattle.body_reading.specs.Cells.{field_cells, versioned_cells}
use Rattle.metadata_response.specs.Answers.{of_response}
use Rattle.metadata_response.specs.declared.body.Middle.{Middle}
use Rattle.metadata_response.specs.declared.body.Tail.{Tail}
use Rattle.metadata_response.specs.declared.body.Walked.{Walked}

abbrev pub middle_cells : Middle → List ℕ
middle_cells x = field_cells x.cluster ++ versioned_cells x.controller

abbrev pub of_middle : Read Middle → Res (List ℕ)
of_middle r = of_read middle_cells r

-- the own row so far and the brokers: they may be anything
abbrev pub behind_brokers : List ℕ → List ℕ → List ℕ → List ℕ → List ℕ × Tab → State
behind_brokers ts ps rs is e = in_topics ts ps rs is no_marks (own e.0, e.1)

abbrev pub of_tail : List ℕ → List ℕ → List ℕ → List ℕ → Result Tail Refusal → List ℕ × Tab → Res State
of_tail ts ps rs is (Ok t) e = ok (in_topics ts ps rs is t.marks (own (e.0 ++ (field_cells t.cluster ++ (versioned_cells t.controller ++ (t.topics ∷ [])))), e.1)) t.next
of_tail ts ps rs is (Err c) e = bad (of_refusal c)

abbrev pub of_walked : List ℕ → List ℕ → List ℕ → List ℕ → List ℕ → Result Walked Refusal → Res State
of_walked bs ts ps rs is (Ok w) = ok (in_topics ts ps rs is w.marks (own (of_response w.body), tab bs w.brokers)) w.next
of_walked bs ts ps rs is (Err e) = bad (of_refusal e)
