-- What the answers of walks over one table say in the definition's words, wherever the table stands among the others.
use Rattle.std.specs.Prelude.{List, [], ◌∷◌, ℕ, Result, Ok, Err}
use Rattle.layout.specs.Reading.{Res, bad, ok}
use Rattle.primitives.specs.Answers.{of_refusal}
use Rattle.primitives.specs.declared.Refusal.{Refusal}
use Rattle.body_reading.specs.Store.{State, Tab, store, tab}
use Rattle.body_reading.specs.Walk.{Place, Places, in_place}
use Rattle.body_reading.specs.declared.walks.Counted.{Counted}
use Rattle.body_reading.specs.declared.walks.Filled.{Filled}

-- the place n after some rows, and the mark k of their table
abbrev pub filled : ℕ → ℕ → Result Filled Refusal
filled n k = Ok (record { next = n; mark = k })

abbrev pub filled_is : List ℕ → Result Filled Refusal → Place → Res State
filled_is l (Ok f) e = ok (in_place l f.mark e) f.next
filled_is l (Err c) e = bad (of_refusal c)

-- c items, the place n after them, and the mark k of their table
abbrev pub counted_at : ℕ → ℕ → ℕ → Result Counted Refusal
counted_at c n k = Ok (record { count = c; next = n; mark = k })

-- beside the row that they belong to, which has their number
abbrev pub beside_is : List ℕ → Result Counted Refusal → Places × Tab → Res State
beside_is l (Ok r) e = ok (e.0.h (store e.1 (r.count ∷ [])) (tab l r.mark)) r.next
beside_is l (Err c) e = bad (of_refusal c)
