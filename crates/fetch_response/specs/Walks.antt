-- What the walk over a response says in the definition's words. Table 0 is the body's own row, 1 the topics, 2 partitions, 3 aborted transactions.
use Rattle.std.specs.Prelude.{List, ℕ, Result, Ok, Err}
use Rattle.layout.specs.Reading.{Res, bad, ok}
use Rattle.primitives.specs.Answers.{of_refusal}
use Rattle.primitives.specs.declared.Refusal.{Refusal}
use Rattle.body_reading.specs.Store.{State, own}
use Rattle.fetch_response.specs.TopicWalks.{in_topics}
use Rattle.fetch_response.specs.Answers.{of_response}
use Rattle.fetch_response.specs.declared.body.Walked.{Walked}

abbrev pub of_walked : List ℕ → List ℕ → List ℕ → Result Walked Refusal → Res State
of_walked ts ps xs (Ok w) = ok (in_topics ts ps xs w.marks (own (of_response w.body))) w.next
of_walked ts ps xs (Err e) = bad (of_refusal e)
