-- The front of a body: a throttle time, which the version may lack, and the number of items of the array behind it.
use Rattle.std.specs.Prelude.{Bool, false, List, [], ◌∷◌, ℕ, Result, Ok, Err}
use Rattle.layout.specs.Reading.{Reader, Res, bad, give, ok, then}
use Rattle.layout.specs.Primitives.{empty, fixed, w32}
use Rattle.layout.specs.Rows.{end, number, optional, stands}
use Rattle.primitives.specs.Answers.{of_refusal}
use Rattle.primitives.specs.declared.Refusal.{Refusal}
use Rattle.body_reading.specs.Walk.{item_count, row_from}
use Rattle.body_reading.specs.Cells.{versioned_cells}
use Rattle.body_reading.specs.declared.versioned.Front.{Front}

-- the throttle time's cells, and the number
unfoldable pub front_of : Bool → Reader (List ℕ × ℕ)
front_of there = then (row_from [] (stands there (optional (0 ∷ []) (number w32)) end)) (λ cs. then (item_count false (fixed w32 empty)) (λ n. give (cs, n)))

abbrev pub of_front : Result Front Refusal → Res (List ℕ × ℕ)
of_front (Ok f) = ok (versioned_cells f.throttle, f.count) f.next
of_front (Err e) = bad (of_refusal e)
