-- The walk to a field, step by step: at a field, at an array, and over its elements.
use Rattle.std.proofs.Common.{◌≡◌, ℕ, zero, suc, ◌+◌, ◌-◌, ◌<◌, ◌≤◌, Bool, true, false, eqb, ltb, List, [], ◌∷◌, length, get_or, drop, set, sym, refl, ap, ◌∙◌, subst, arith}
use mathlib.Core.Option.{Option, none, some}
use lib.ListN.{get_or-eq_default}
use Rattle.layout.specs.Reading.{Reader, Refusal, Res, bad, give, loop, ok, pick, single, then}
use Rattle.layout.specs.Primitives.{Size, admits, checked, empty, fixed, kept, length_of, plain, refusal, unsigned, w32}
use Rattle.layout.specs.Rows.{Basic, BasicValue, Shape, array, end, field}
use Rattle.layout.specs.Read.{by_place, read_basic}
use Rattle.layout.specs.Tables.{Span}
use Rattle.layout.specs.Names.{begun, found, seek, stop}
use Rattle.layout.proofs.Steps.{by_result, not_ok}
use Rattle.layout.proofs.Tests.{by_test, lt-false, lt-true, of_ge, of_lt}
use Rattle.body_reading.specs.Moved.{array_items}
use Rattle.body_reading.specs.Tagged.{tag_shape, tags_if}
use Rattle.body_reading.specs.Walk.{item_count, on}
use Rattle.body_reading.proofs.Chains.{give_took, loop_done, loop_next, loop_no, same_end, then_no, then_took}
use Rattle.body_reading.proofs.DataAt.{length_no, length_took}
use Rattle.std.specs.Prelude.{Result, Ok, Err, Some, None, ok_or, Option as Maybe}
use Rattle.primitives.specs.declared.Taken.{Taken}
use Rattle.names.specs.declared.Found.{Found}
use Rattle.names.specs.Walks.{Sought, count_up_to, element, ends, of_counted, of_passed, of_sought}

-- ---- a reader at which the walk may stop

module _ {A : Type 0} (q row f : ℕ) (r : Reader A) (s : List ℕ) (p : ℕ) where
  pub stop_no : (c : Refusal) → bad c ≡ on r s p → bad (found row f) ≡ on (stop q row f r) s p
  unfolding on stop
  stop_no c e = by_result (r p (drop p s)) (λ x n d. not_ok (rw d at e)) (λ b d. rw d)

  pub stop_in : (x : A) (n : ℕ) → ok x n ≡ on r s p → q < n → bad (found row f) ≡ on (stop q row f r) s p
  unfolding on stop
  stop_in x n e h = by_result (r p (drop p s)) (λ y m d. let g : ok x n ≡ ok y (p + m) = rw d at e in let i = same_end g in rw (d, lt-true q (p + m) (omega arith))) (λ b d. rw d)

  pub stop_by : (x : A) (n : ℕ) → ok x n ≡ on r s p → n ≤ q → ok x n ≡ on (stop q row f r) s p
  unfolding on stop
  stop_by x n e h = by_result (r p (drop p s)) (λ y m d. let g : ok x n ≡ ok y (p + m) = rw d at e in let i = same_end g in rw (d, lt-false q (p + m) (omega arith)) g) (λ b d. not_ok (sym (rw d at e)))

none_some : {A X : Type 0} {x : A} → ◌≡◌ {A = Option A} none (some x) → X
none_some h = let z : ◌≡◌ {A = ℕ} 0 1 = cc in absurd (omega arith)

-- ---- what `ok_or` makes of a field at which the walk stops, and of one that it passes

module _ {T E : Type 0} where
  pub stopped : (x : Maybe T) (e d : E) → ok_or x e ≡ Err d → (x ≡ None) × (d ≡ e)
  stopped None e d h = (refl, cc)
  stopped (Some n) e d h = absurd cc

  pub went : (x : Maybe T) (e : E) (n : T) → ok_or x e ≡ Ok n → x ≡ Some n
  went None e n h = absurd cc
  went (Some m) e n h = cc

module _ (q row f : ℕ) (c s : List ℕ) (p : ℕ) where
  pub walk_end : ok c p ≡ on (seek q end row f c) s p
  unfolding seek
  walk_end = give_took c s p

  -- ---- a field

  module _ (k : Basic) (r : Shape) (x : Maybe ℕ) (m : of_passed x ≡ ends q k s p) where
    abbrev one : Reader (BasicValue Span k)
    one = read_basic (by_place false) k

    pub field_stops : x ≡ None → bad (found row f) ≡ on (seek q (field k r) row f c) s p
    unfolding seek ends
    field_stops e = then_no (stop q row f one) _ s p (by_result (on one s p) (λ y n d. by_test (ltb q n) (λ t. stop_in q row f one s p y n (sym d) (of_lt q n t)) (λ t. none_some {x = n} (sym (ap of_passed e) ∙ m ∙ rw (d, t)))) (λ b d. stop_no q row f one s p b (sym d)))

    pub field_goes : (n : ℕ) → x ≡ Some n → (z : Res (List ℕ)) → z ≡ on (seek q r row (suc f) c) s n → z ≡ on (seek q (field k r) row f c) s p
    unfolding seek ends
    field_goes n e z g =
        by_result (on one s p)
        (λ y j d. by_test (ltb q j) (λ t. none_some {x = n} (sym (sym (ap of_passed e) ∙ m ∙ rw (d, t))))
        (λ t. let i : some n ≡ some j = sym (ap of_passed e) ∙ m ∙ rw (d, t) in let h : n ≡ j = cc in then_took (stop q row f one) _ s p (stop_by q row f one s p y j (sym d) (of_ge q j t)) (g ∙ ap (λ (w : ℕ). on (seek q r row (suc f) c) s w) h)))
        (λ b d. none_some {x = n} (sym (sym (ap of_passed e) ∙ m ∙ rw d)))

    -- the same where `ok_or` gives the field's name to a `?`
    module _ (y : Result ℕ Found) (v : y ≡ ok_or x (record { row = row; field = f })) where
      pub field_out : (d : Found) → y ≡ Err d → bad (found d.row d.field) ≡ on (seek q (field k r) row f c) s p
      field_out d e = let h = stopped x _ d (sym v ∙ e) in ap (λ (a : Found). bad (found a.row a.field)) h.1 ∙ field_stops h.0

  -- ---- an array, by the number of its elements

  module _ (z : Size) (t : ℕ) (i r : Shape) (x : Maybe (Taken ℕ)) (m : of_counted x ≡ count_up_to q (on (item_count false z) s p)) where
    abbrev head : Reader ℕ
    head = checked (admits false z) (refusal z) (length_of unsigned z)

    abbrev rest : ℕ → Reader (List ℕ)
    rest o = then (loop o (element q i t) c) (λ d. seek q r row (suc f) d)

    pub array_stops : x ≡ None → bad (found row f) ≡ on (seek q (array z t i r) row f c) s p
    unfolding seek element item_count
    array_stops e =
        then_no (stop q row f head) (λ n. rest (n - 1)) s p
        (by_result (on head s p)
        (λ y n d. let j = then_took head (λ u. give (u - 1)) s p (sym d) (give_took (y - 1) s n) in by_test (ltb q n) (λ h. stop_in q row f head s p y n (sym d) (of_lt q n h)) (λ h. none_some {x = (y - 1, n)} (sym (ap of_counted e) ∙ m ∙ sym (ap (count_up_to q) j) ∙ rw h)))
        (λ b d. stop_no q row f head s p b (sym d)))

    pub array_goes : (a : Taken ℕ) → x ≡ Some a → (y : Res (List ℕ)) → y ≡ on (rest a.value) s a.next → y ≡ on (seek q (array z t i r) row f c) s p
    unfolding seek element item_count
    array_goes a e y g =
        by_result (on head s p)
        (λ u j d.
        let b = then_took head (λ o. give (o - 1)) s p (sym d) (give_took (u - 1) s j) in
        by_test (ltb q j) (λ h. none_some {x = (a.value, a.next)} (sym (sym (ap of_counted e) ∙ m ∙ sym (ap (count_up_to q) b) ∙ rw h)))
        (λ h.
        let i : ◌≡◌ {A = Option (ℕ × ℕ)} (some (a.value, a.next)) (some (u - 1, j)) = sym (ap of_counted e) ∙ m ∙ sym (ap (count_up_to q) b) ∙ rw h in
        let v : ◌≡◌ {A = ℕ × ℕ} (a.value, a.next) (u - 1, j) = cc in
        then_took (stop q row f head) (λ o. rest (o - 1)) s p (stop_by q row f head s p u j (sym d) (of_ge q j h)) (g ∙ (λ w. on (rest (v w).0) s (v w).1))))
        (λ b d. none_some {x = (a.value, a.next)} (sym (sym (ap of_counted e) ∙ m ∙ sym (ap (count_up_to q) (then_no head (λ o. give (o - 1)) s p (sym d))))))

    -- where `ok_or` gives the array's name to a `?`
    module _ (y : Result (Taken ℕ) Found) (v : y ≡ ok_or x (record { row = row; field = f })) where
      pub array_out : (d : Found) → y ≡ Err d → bad (found d.row d.field) ≡ on (seek q (array z t i r) row f c) s p
      array_out d e = let h = stopped x _ d (sym v ∙ e) in ap (λ (a : Found). bad (found a.row a.field)) h.1 ∙ array_stops h.0

    -- the walk over the elements, and what follows the array
    module _ (a : Taken ℕ) (e : x ≡ Some a) (c' : List ℕ) (o : Sought) (w : of_sought c' o ≡ on (loop a.value (element q i t) c) s a.next) where
      pub array_found : (b : Found) → o ≡ Err b → bad (found b.row b.field) ≡ on (seek q (array z t i r) row f c) s p
      array_found b d = array_goes a e _ (then_no (loop a.value (element q i t) c) _ s a.next (sym (ap (of_sought c') d) ∙ w))

      pub array_past : (u : ℕ) → o ≡ Ok u → (y : Res (List ℕ)) → y ≡ on (seek q r row (suc f) c') s u → y ≡ on (seek q (array z t i r) row f c) s p
      array_past u d y g = array_goes a e y (then_took (loop a.value (element q i t) c) _ s a.next (sym (ap (of_sought c') d) ∙ w) g)

-- a field that ends its row
module _ (q row f : ℕ) (c s : List ℕ) (p : ℕ) (k : Basic) (x : Maybe ℕ) (m : of_passed x ≡ ends q k s p) where
  last_of : (w : Maybe ℕ) → x ≡ w → of_sought c (ok_or w (record { row = row; field = f })) ≡ on (seek q (field k end) row f c) s p
  last_of (Some n) e = field_goes q row f c s p k end x m n e _ (walk_end q row (suc f) c s n)
  last_of None e = field_stops q row f c s p k end x m e

  pub field_last : (y : Sought) → y ≡ ok_or x (record { row = row; field = f }) → of_sought c y ≡ on (seek q (field k end) row f c) s p
  field_last y v = ap (of_sought c) v ∙ last_of x refl

-- an array that ends its row
module _ (q row f : ℕ) (c s : List ℕ) (p : ℕ) (z : Size) (t : ℕ) (i : Shape) (x : Maybe (Taken ℕ)) (m : of_counted x ≡ count_up_to q (on (item_count false z) s p)) (a : Taken ℕ) (e : x ≡ Some a) where
  pub array_last : (y : Res (List ℕ)) → y ≡ on (loop a.value (element q i t) c) s a.next → y ≡ on (seek q (array z t i end) row f c) s p
  array_last y w =
      array_goes q row f c s p z t i end x m a e y
      (by_result (on (loop a.value (element q i t) c) s a.next)
      (λ d u g. w ∙ g ∙ then_took (loop a.value (element q i t) c) (λ d. seek q end row (suc f) d) s a.next (sym g) (walk_end q row (suc f) d s u))
      (λ b g. w ∙ g ∙ then_no (loop a.value (element q i t) c) (λ d. seek q end row (suc f) d) s a.next (sym g)))

-- ---- rows that were begun

module _ (c : List ℕ) (t : ℕ) where
  pub no_table : length c ≤ t → 0 ≡ get_or c t 0
  no_table h = sym (get_or-eq_default c 0 h)

  pub none_begun : length c ≤ t → c ≡ begun t c
  none_begun h = sym (outside c t _ h)
    where
      outside : (c : List ℕ) (t k : ℕ) → length c ≤ t → set c t k ≡ c
      outside [] t k h = refl
      outside (x ∷ c) zero k h = absurd (omega arith)
      outside (x ∷ c) (suc t) k h = ap (λ z. x ∷ z) (outside c t k (omega arith))

-- ---- the loop over elements, of which i are passed: what is left from here is what was asked at the start

module _ (q : ℕ) (l : Shape) (t count : ℕ) (k₀ s : List ℕ) (p₀ i p : ℕ) (k : List ℕ) (inv : on (loop count (element q l t) k₀) s p₀ ≡ on (loop (count - i) (element q l t) k) s p) where
  pub turns_done : count ≤ i → ok k p ≡ on (loop count (element q l t) k₀) s p₀
  turns_done h = loop_done (element q l t) s (count - i) p k (omega arith) inv

  module _ (h : i < count) (row : ℕ) (e : row ≡ get_or k t 0) (k₁ : List ℕ) (d : k₁ ≡ begun t k) (k₂ : List ℕ) (r : Sought) (w : of_sought k₂ r ≡ on (seek q l row 0 k₁) s p) where
    one_element : of_sought k₂ r ≡ on (element q l t k) s p
    unfolding element
    one_element = w ∙ (λ j. on (seek q l (e j) 0 (d j)) s p)

    pub turns_found : (a : Found) → r ≡ Err a → bad (found a.row a.field) ≡ on (loop count (element q l t) k₀) s p₀
    turns_found a g = loop_no (element q l t) s (count - i) p k (omega arith) inv (sym (ap (of_sought k₂) g) ∙ one_element)

    pub turns_next : (n : ℕ) → r ≡ Ok n → on (loop count (element q l t) k₀) s p₀ ≡ on (loop (count - (i + 1)) (element q l t) k₂) s n
    turns_next n g =
        let o : count - i - 1 ≡ count - (i + 1) = omega arith in
        loop_next (element q l t) s (count - i) p k (omega arith) inv (sym (ap (of_sought k₂) g) ∙ one_element) ∙ ap (λ (j : ℕ). on (loop j (element q l t) k₂) s n) o

-- ---- the number of tags is a varint

pub tag_count : (s : List ℕ) (p : ℕ) (o : Res ℕ) → o ≡ on unsigned s p → o ≡ on (item_count false plain) s p
unfolding item_count
tag_count s p (ok n q) d = let m : n + 1 - 1 ≡ n = omega arith in then_took (checked false 6 (length_of unsigned plain)) _ s p (length_took s p n q d) (subst (λ (j : ℕ). ok n q ≡ on (give j) s q) (sym m) (give_took n s q))
tag_count s p (bad e) d = then_no (checked false 6 (length_of unsigned plain)) _ s p (length_no s p e d)

-- ---- tagged fields, where the version has them

module _ (q row f : ℕ) (c s : List ℕ) (p : ℕ) (b : Bool) (t : ℕ) where
  pub tags_lacking : b ≡ false → ok c p ≡ on (seek q (tags_if b t) row f c) s p
  unfolding tags_if seek
  tags_lacking e = give_took c s p ∙ ap (λ (x : Bool). on (seek q (tags_if x t) row f c) s p) (sym e)

  pub tags_there : b ≡ true → (z : Res (List ℕ)) → z ≡ on (seek q (array plain t tag_shape end) row f c) s p → z ≡ on (seek q (tags_if b t) row f c) s p
  unfolding tags_if
  tags_there e z g = g ∙ ap (λ (x : Bool). on (seek q (tags_if x t) row f c) s p) (sym e)

-- ---- an array that has a null of its own is counted as any other

-- where null is taken, the number that would refuse it has no part
any_number : (d e : ℕ) (len : Reader ℕ) (q : ℕ) (t : List ℕ) → checked true d len q t ≡ checked true e len q t
unfolding checked single then pick
any_number d e len q t = by_result (len q t) (λ n m i. by_test (eqb n 0) (λ b. rw (i, b)) (λ b. rw (i, b))) (λ b i. rw i)

pub null_is_none : (s : List ℕ) (p : ℕ) → on (array_items false false) s p ≡ on (item_count false (fixed w32 kept)) s p
unfolding array_items item_count checked single length_of
null_is_none s p = λ i. on (then (λ q t. any_number (refusal (fixed w32 empty)) (refusal (fixed w32 kept)) (length_of unsigned (fixed w32 empty)) q t i) (λ n. give (n - 1))) s p

-- the next position, as code adds it
pub next_field : (q : ℕ) (l : Shape) (row f : ℕ) (c s : List ℕ) (p : ℕ) (z : Res (List ℕ)) → z ≡ on (seek q l row (f + 1) c) s p → z ≡ on (seek q l row (suc f) c) s p
next_field q l row f c s p z g = g ∙ ap (λ (j : ℕ). on (seek q l row j c) s p) (let o : f + 1 ≡ suc f = omega arith in o)
