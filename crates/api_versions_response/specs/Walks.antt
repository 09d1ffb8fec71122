-- What the walks over a response say in the definition's words. Table 0 is the body's own row, 1 the items, 2 the tags.
use Rattle.std.specs.Prelude.{Bool, ◌&&◌, List, [], ◌++◌, ◌∷◌, ℕ, ltb, Result, Ok, Err}
use Rattle.layout.specs.Reading.{Res, bad, ok}
use Rattle.primitives.specs.Answers.{of_refusal}
use Rattle.primitives.specs.declared.Refusal.{Refusal}
use Rattle.body_reading.specs.Store.{State, Tab, own, tab}
use Rattle.body_reading.specs.Cells.{versioned_cells}
use Rattle.api_versions_response.specs.Answers.{of_response}
use Rattle.api_versions_response.specs.declared.reading.Tail.{Tail}
use Rattle.api_versions_response.specs.declared.reading.Measured.{Measured}

-- what was read before the tail: it may be anything
pub record Before : Type 0 where
  pub whole : Bool
  pub error : ℕ
  pub count : ℕ
  pub items : Tab

abbrev pub behind_items : List ℕ → ℕ → Before → State
behind_items ts t e = own (e.error ∷ e.count ∷ []) ∷ e.items ∷ tab ts t ∷ []

abbrev pub of_tail : List ℕ → Result Tail Refusal → Before → Res State
of_tail ts (Ok t) e = ok (own (e.error ∷ e.count ∷ (versioned_cells t.throttle ++ (t.tags ∷ []))) ∷ e.items ∷ tab ts t.mark ∷ []) t.next
of_tail ts (Err c) e = bad (of_refusal c)

abbrev pub of_measured : List ℕ → List ℕ → Result Measured Refusal → Res State
of_measured is ts (Ok m) = ok (own (of_response m.body) ∷ tab is m.items ∷ tab ts m.tags ∷ []) m.next
of_measured is ts (Err e) = bad (of_refusal e)

-- the body, from what was read before its tail and the tail
abbrev pub finish : ℕ → ℕ → ℕ → Result Tail Refusal → Result Measured Refusal
finish e k i (Ok t) = Ok (record { body = record { error = e; items = k; throttle = t.throttle; tags = t.tags }; next = t.next; items = i; tags = t.mark })
finish e k i (Err c) = Err c

-- a whole read ended at q, of z bytes
unfoldable pub is_left : Bool → ℕ → ℕ → Bool
is_left w q z = w && ltb q z
