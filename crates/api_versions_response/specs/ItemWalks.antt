-- What the walks over items say in the definition's words. Table 0 is the body's own row, 1 the items, 2 the tags.
use Rattle.std.specs.Prelude.{Bool, false, true, List, [], ◌∷◌, ◌≡◌, ◌+◌, ◌<◌, ℕ, get_or, length, Result, Ok, Err}
use Rattle.layout.specs.Reading.{Res, bad, ok}
use Rattle.layout.specs.Rows.{Value}
use Rattle.layout.specs.Read.{by_place, read}
use Rattle.layout.specs.Tables.{Span}
use Rattle.primitives.specs.Answers.{Read, of_read, of_refusal}
use Rattle.primitives.specs.declared.Refusal.{Refusal}
use Rattle.body_reading.specs.Store.{State, own, store, tab}
use Rattle.body_reading.specs.Walk.{on}
use Rattle.api_versions_response.specs.ItemShapes.{key_front}
use Rattle.api_versions_response.specs.declared.items.Key.{Key}
use Rattle.api_versions_response.specs.declared.items.Rows.{Rows}

abbrev pub of_key : Read Key → Res (Value Span key_front)
of_key r = of_read (λ k. (k.key, (k.min, (k.max, tt)))) r

-- the tables of a walk over items: whether it is a whole read, and the own row, may be anything
abbrev pub in_tables : List ℕ → ℕ → List ℕ → ℕ → Bool × List ℕ → State
in_tables is i ts t e = own e.1 ∷ tab is i ∷ tab ts t ∷ []

abbrev pub rows_is : List ℕ → List ℕ → Result Rows Refusal → Bool × List ℕ → Res State
rows_is is ts (Ok r) e = ok (in_tables is r.items ts r.tags e) r.next
rows_is is ts (Err c) e = bad (of_refusal c)

-- the place n after some items, and the marks i and t of the tables
abbrev pub rows_at : ℕ → ℕ → ℕ → Result Rows Refusal
rows_at n i t = Ok (record { next = n; items = i; tags = t })

-- the table l of items with the row of the one at place p, which has no tags, behind the mark k
pub record Bare (s : List ℕ) (p : ℕ) (l : List ℕ) (k : ℕ) (l' : List ℕ) (k' : ℕ) : Type 0 where
  pub key : ℕ
  pub min : ℕ
  pub max : ℕ
  pub reads : ok (key, (min, (max, tt))) (p + 6) ≡ on (read (by_place false) key_front) s p
  pub stored : tab l' k' ≡ store (tab l k) (key ∷ min ∷ max ∷ 0 ∷ [])

-- r tells no more than that at place p stands an item without tags, with all of its bytes, and that the version has tags
pub record IsBare (f : Bool) (s : List ℕ) (p : ℕ) (r : Bool) : Type 0 where
  pub flexible : r ≡ true → f ≡ true
  pub whole : r ≡ true → p + 6 < length s
  pub empty : r ≡ true → get_or s (p + 6) 0 ≡ 0
