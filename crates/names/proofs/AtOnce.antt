-- Rows of tags that are begun at once, by a sum.
use Rattle.std.proofs.Common.{◌≡◌, ℕ, zero, suc, ◌+◌, ◌-◌, ◌<◌, ◌≤◌, List, get_or, sym, refl, ap, ◌∙◌, arith}
use Rattle.layout.specs.Reading.{bad, loop, ok}
use Rattle.layout.specs.Names.{begun, found, seek}
use Rattle.layout.specs.Primitives.{plain}
use Rattle.layout.specs.Rows.{blob, end, field, natural}
use Rattle.body_reading.specs.Tagged.{tag_shape}
use Rattle.body_reading.specs.Walk.{on}
use Rattle.names.specs.AtOnce.{InAnyRow, of_tag}
use Rattle.std.specs.Prelude.{Result, Ok, Err, Some, None, ok_or, Option as Maybe}
use Rattle.names.specs.Walks.{element, ends, found_at, many_begun, of_passed}
use Rattle.names.proofs.Ways.{field_goes, field_stops, turns_done, turns_found, turns_next, walk_end}

-- ---- tags, whose rows are counted at the end: c are those begun before, and so is b

one_more : (j t : ℕ) (c : List ℕ) → begun t (many_begun j t c) ≡ many_begun (suc j) t c
unfolding many_begun
one_more zero t c = refl
one_more (suc j) t c = one_more j t (begun t c)

pub tags_start : (q t count : ℕ) (c s : List ℕ) (p : ℕ) → on (loop count (element q tag_shape t) c) s p ≡ on (loop (count - 0) (element q tag_shape t) (many_begun 0 t c)) s p
unfolding many_begun
tags_start q t count c s p = ap (λ (j : ℕ). on (loop j (element q tag_shape t) c) s p) (let o : count ≡ count - 0 = omega arith in o)

module _ (q t count : ℕ) (c s : List ℕ) (p₀ i p : ℕ) (inv : on (loop count (element q tag_shape t) c) s p₀ ≡ on (loop (count - i) (element q tag_shape t) (many_begun i t c)) s p) where
  abbrev so_far : List ℕ
  so_far = many_begun i t c

  pub tags_done : i ≤ count → count ≤ i → (b : List ℕ) → b ≡ c → (d : List ℕ) → d ≡ many_begun count t b → ok d p ≡ on (loop count (element q tag_shape t) c) s p₀
  tags_done g h b e d f = let z : count ≡ i = omega arith in (λ j. ok ((f ∙ (λ k. many_begun (z k) t (e k))) j) p) ∙ turns_done q tag_shape t count c s p₀ i p so_far inv h

  module _ (h : i < count) (r : Result ℕ ℕ) (w : InAnyRow q s p r) where
    pub tags_next : (n : ℕ) → r ≡ Ok n → on (loop count (element q tag_shape t) c) s p₀ ≡ on (loop (count - (i + 1)) (element q tag_shape t) (many_begun (i + 1) t c)) s n
    tags_next n e =
        let z : suc i ≡ i + 1 = omega arith in
        turns_next q tag_shape t count c s p₀ i p so_far inv h (get_or so_far t 0) refl (begun t so_far) refl (begun t so_far) (Ok n) (ap (of_tag (get_or so_far t 0) (begun t so_far)) (sym e) ∙ w.law (get_or so_far t 0) (begun t so_far)) n refl
        ∙ ap (λ (k : List ℕ). on (loop (count - (i + 1)) (element q tag_shape t) k) s n) (one_more i t c ∙ ap (λ (j : ℕ). many_begun j t c) z)

    pub tags_found : (f : ℕ) → r ≡ Err f → (b : List ℕ) → b ≡ c → (d : List ℕ) → d ≡ many_begun i t b → (row : ℕ) → row ≡ get_or d t 0 → bad (found row f) ≡ on (loop count (element q tag_shape t) c) s p₀
    tags_found f e b g d z row j =
        turns_found q tag_shape t count c s p₀ i p so_far inv h row (j ∙ ap (λ (k : List ℕ). get_or k t 0) (z ∙ ap (many_begun i t) g)) (begun t so_far) refl (begun t so_far) (found_at row f) (ap (of_tag row (begun t so_far)) (sym e) ∙ w.law row (begun t so_far)) (record { row = row; field = f }) refl

-- ---- a tag and its data are two fields, whatever the row

module _ (q : ℕ) (s : List ℕ) (p : ℕ) (x : Maybe ℕ) (m : of_passed x ≡ ends q natural s p) where
  pub in_tag : x ≡ None → (r : Result ℕ ℕ) → r ≡ Err 0 → InAnyRow q s p r
  in_tag e r g = record { law = λ row c. ap (of_tag row c) g ∙ field_stops q row 0 c s p natural (field (blob plain) end) x m e }

  pub in_data : (n : ℕ) → x ≡ Some n → (y : Maybe ℕ) → of_passed y ≡ ends q (blob plain) s n → (r : Result ℕ ℕ) → r ≡ ok_or y 1 → InAnyRow q s p r
  in_data n e y d r g = record { law = λ row c. ap (of_tag row c) g ∙ field_goes q row 0 c s p natural (field (blob plain) end) x m n e (of_tag row c (ok_or y 1)) (last row c y d) }
    where
      last : (row : ℕ) (c : List ℕ) (y : Maybe ℕ) → of_passed y ≡ ends q (blob plain) s n → of_tag row c (ok_or y 1) ≡ on (seek q (field (blob plain) end) row 1 c) s n
      last row c None d = field_stops q row 1 c s n (blob plain) end None d refl
      last row c (Some u) d = field_goes q row 1 c s n (blob plain) end (Some u) d u refl (ok c u) (walk_end q row 2 c s u)
