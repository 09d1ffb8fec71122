-- Elements that are some numbers of one width each: which number a place lies in.
use Rattle.std.proofs.Common.{◌≡◌, ℕ, zero, suc, ◌+◌, ◌-◌, ◌*◌, ◌/◌, ◌%◌, ◌^◌, ◌<◌, ◌≤◌, min, true, false, cond, ltb, ◌≢◌, List, length, get_or, take, drop, set, sym, refl, ap, ◌∙◌, le_trans, add-zero, mul-le-mul_right, mod-eq_of_lt, mul_assoc, suc-mul, zero-add, zero-mul, div-le_self, div-mul-le_self, arith, length-drop, length-set, get_or-set_same, set-set}
use native.Mathlib.Nat.{add-mod_right, add-mul-div_right, div-eq_of_lt, mod-add-mod}
use Rattle.layout.specs.Reading.{Res, bad, because, give, loop, more, ok, then}
use Rattle.layout.specs.Primitives.{Width, be, cell, cell_of, int, signed, size, w16, w32, w64, w8}
use Rattle.layout.specs.Rows.{Shape, field, number}
use Rattle.layout.specs.Read.{read_basic}
use Rattle.layout.specs.Names.{begun, found, seek, stop}
use Rattle.layout.proofs.Steps.{int_bad, int_ok, then_bad, then_ok}
use Rattle.layout.proofs.Tests.{by_test, lt-false, lt-true, of_ge, of_lt}
use Rattle.body_reading.specs.Walk.{on}
use Rattle.body_reading.proofs.Chains.{give_took, then_no, then_took}
use Rattle.names.specs.Walks.{element, element_shape, many_begun, numbers, numbers_of, width_of}
use Rattle.names.specs.declared.runs.Element.{Element}
use Rattle.names.proofs.Ways.{none_begun, stop_by, stop_in, stop_no}

-- the bytes from p on that are there, up to q
abbrev upto : ℕ → List ℕ → ℕ → ℕ
upto q s p = min (q - p) (length s - p)

-- a number of n bytes at p: there, or cut
module _ (w : Width) (s : List ℕ) (p : ℕ) where
  record There : Type 0 where
    value : ℕ
    is : ok value (p + size w) ≡ on (cell w) s p

  there : size w ≤ length s - p → There
  unfolding on cell give
  there h =
      let l = length-drop p s in
      let e = then_ok (int (size w)) _ p (drop p s) _ (size w) (int_ok (size w) p (drop p s) (omega arith)) in
      let v : ℕ = cell_of (signed w (be 0 (take (size w) (drop p s)))) in
      record { value = v; is = sym (ap (more p) e ∙ ap (λ (n : ℕ). ok v (p + n)) (add-zero (size w))) }

  cut : length s - p < size w → bad (because 3 p) ≡ on (cell w) s p
  unfolding on cell
  cut h = let l = length-drop p s in sym (ap (more p) (then_bad (int (size w)) _ p (drop p s) (because 3 p) (int_bad (size w) p (drop p s) (omega arith))))

-- ---- one number in front of others

pub wide : (w : Width) → 0 < size w
wide w8 = omega arith
wide w16 = omega arith
wide w32 = omega arith
wide w64 = omega arith

module _ (q row f : ℕ) (c s : List ℕ) (p : ℕ) (w : Width) (l : Shape) where
  -- q lies in it, or it is cut
  pub number_in : upto q s p < size w → bad (found row f) ≡ on (seek q (field (number w) l) row f c) s p
  unfolding seek read_basic
  number_in h =
      then_no (stop q row f (cell w)) _ s p
      (by_test (ltb (length s - p) (size w)) (λ t. stop_no q row f (cell w) s p (because 3 p) (cut w s p (of_lt (length s - p) (size w) t)))
      (λ t. let y = there w s p (of_ge (length s - p) (size w) t) in stop_in q row f (cell w) s p y.value (p + size w) y.is (let g = of_ge (length s - p) (size w) t in omega arith)))

  pub number_past : size w ≤ upto q s p → (z : Res (List ℕ)) → z ≡ on (seek q l row (suc f) c) s (p + size w) → z ≡ on (seek q (field (number w) l) row f c) s p
  unfolding seek read_basic
  number_past h z g = let o = wide w in let y = there w s p (omega arith) in then_took (stop q row f (cell w)) _ s p (stop_by q row f (cell w) s p y.value (p + size w) y.is (omega arith)) g

-- ---- one element

module _ (q : ℕ) (w : Width) (n : ℕ) (is : n ≡ size w) (some : 0 < n) (s : List ℕ) where
  -- the number in which q lies, from p on; the one that is cut, where q is after the bytes
  abbrev index : ℕ → ℕ
  index p = upto q s p / n

  short : (p : ℕ) → upto q s p < n → index p ≡ 0
  short p h = div-eq_of_lt h

  long : (p : ℕ) → n ≤ upto q s p → index p ≡ suc (index (p + n))
  long p h =
      let x : ℕ = upto q s (p + n) in
      let e : upto q s p ≡ x + 1 * n = omega arith in
      ap (λ (y : ℕ). y / n) e ∙ add-mul-div_right x 1 some ∙ (let o : x / n + 1 ≡ suc (x / n) = omega arith in o)

  abbrev one_by_one : (k row f : ℕ) (c : List ℕ) (p : ℕ) → Res (List ℕ)
  one_by_one k row f c p = cond (ltb (index p) k) (bad (found row (f + index p))) (ok c (p + k * n))

  pub one_element : (k row f : ℕ) (c : List ℕ) (p : ℕ) → on (seek q (numbers k w) row f c) s p ≡ one_by_one k row f c p
  unfolding seek numbers read_basic
  one_element zero row f c p = sym (rw (lt-false (index p) 0 (omega arith)) (ap (λ (j : ℕ). ok c j) (let o : p + 0 * n ≡ p = omega (arith, zero-mul n) in o) ∙ give_took c s p))
  one_element (suc k) row f c p =
      by_test (ltb (upto q s p) n)
      (λ t. let h = of_lt (upto q s p) n t in let z = short p h in sym (rw (lt-true (index p) (suc k) (omega arith)) (ap (λ (j : ℕ). bad (found row (f + j))) z ∙ ap (λ (j : ℕ). bad (found row j)) (add-zero f) ∙ here p h)))
      (λ t. let h = of_ge (upto q s p) n t in on_past p h (one_element k row (suc f) c (p + n)))
    where
      here : (p : ℕ) → upto q s p < n → bad (found row f) ≡ on (then (stop q row f (cell w)) (λ x. seek q (numbers k w) row (suc f) c)) s p
      here p h =
          then_no (stop q row f (cell w)) _ s p
          (by_test (ltb (length s - p) n) (λ t. let l = of_lt (length s - p) n t in stop_no q row f (cell w) s p (because 3 p) (cut w s p (omega arith)))
          (λ t. let l = of_ge (length s - p) n t in let y = there w s p (omega arith) in stop_in q row f (cell w) s p y.value (p + size w) y.is (omega arith)))

      on_past : (p : ℕ) → n ≤ upto q s p → on (seek q (numbers k w) row (suc f) c) s (p + n) ≡ one_by_one k row (suc f) c (p + n) → on (then (stop q row f (cell w)) (λ x. seek q (numbers k w) row (suc f) c)) s p ≡ one_by_one (suc k) row f c p
      on_past p h ih =
          let y = there w s p (omega arith) in
          let a = stop_by q row f (cell w) s p y.value (p + size w) y.is (omega arith) in
          let e : p + size w ≡ p + n = omega arith in
          sym (then_took (stop q row f (cell w)) (λ x. seek q (numbers k w) row (suc f) c) s p a refl) ∙ ap (λ (j : ℕ). on (seek q (numbers k w) row (suc f) c) s j) e ∙ ih ∙ same (index p) (index (p + n)) (long p h)
        where
          same : (i j : ℕ) → i ≡ suc j → cond (ltb j k) (bad (found row (suc f + j))) (ok c (p + n + k * n)) ≡ cond (ltb i (suc k)) (bad (found row (f + i))) (ok c (p + suc k * n))
          same i j e =
              by_test (ltb j k)
              (λ t. let g = of_lt j k t in rw (t, lt-true i (suc k) (omega arith)) (ap (λ (x : ℕ). bad (found row x)) (let o : suc f + j ≡ f + i = omega arith in o)))
              (λ t. let g = of_ge j k t in rw (t, lt-false i (suc k) (omega arith)) (ap (λ (x : ℕ). ok c x) (let o : p + n + k * n ≡ p + suc k * n = omega (arith, suc-mul k n) in o)))

  -- ---- elements of k numbers each, one after the other

  module _ (k : ℕ) (more-than : 0 < k) (t : ℕ) where
    past_one : (p : ℕ) → k ≤ index p → index p ≡ index (p + k * n) + k
    past_one p h =
        let a : k * n ≤ upto q s p = le_trans (mul-le-mul_right n h) (div-mul-le_self (upto q s p) n) in
        let x : ℕ = upto q s (p + k * n) in
        let e : upto q s p ≡ x + k * n = omega arith in
        ap (λ (y : ℕ). y / n) e ∙ add-mul-div_right x k some

    abbrev all_by_one : (m : ℕ) (c : List ℕ) (p : ℕ) → Res (List ℕ)
    all_by_one m c p = cond (ltb (index p / k) m) (bad (found (get_or (many_begun (index p / k) t c) t 0) (index p % k))) (ok (many_begun m t c) (p + m * (k * n)))

    pub all_elements : (m : ℕ) (c : List ℕ) (p : ℕ) → on (loop m (element q (numbers k w) t) c) s p ≡ all_by_one m c p
    unfolding loop element many_begun
    all_elements zero c p = sym (rw (lt-false (index p / k) 0 (omega arith)) (ap (λ (j : ℕ). ok c j) (let o : p + 0 * (k * n) ≡ p = omega (arith, zero-mul (k * n)) in o) ∙ give_took c s p))
    all_elements (suc m) c p =
        by_test (ltb (index p) k) (λ b. in_first b)
        (λ b. on_rest b (all_elements m (begun t c) (p + k * n)))
      where
        first : on (seek q (numbers k w) (get_or c t 0) 0 (begun t c)) s p ≡ one_by_one k (get_or c t 0) 0 (begun t c) p
        first = one_element k (get_or c t 0) 0 (begun t c) p

        in_first : ltb (index p) k ≡ true → on (then (seek q (numbers k w) (get_or c t 0) 0 (begun t c)) (λ d. loop m (element q (numbers k w) t) d)) s p ≡ all_by_one (suc m) c p
        in_first b =
            let h = of_lt (index p) k b in
            let i : index p / k ≡ 0 = div-eq_of_lt h in
            let j : index p % k ≡ index p = mod-eq_of_lt h in
            (let g : on (seek q (numbers k w) (get_or c t 0) 0 (begun t c)) s p ≡ bad (found (get_or c t 0) (index p)) = first ∙ rw (b, zero-add (index p)) in sym (then_no (seek q (numbers k w) (get_or c t 0) 0 (begun t c)) (λ d. loop m (element q (numbers k w) t) d) s p (sym g)))
            ∙ sym (rw (i, j, lt-true 0 (suc m) (omega arith)))

        later : (i j : ℕ) → i ≡ j + k → cond (ltb (j / k) m) (bad (found (get_or (many_begun (j / k) t (begun t c)) t 0) (j % k))) (ok (many_begun m t (begun t c)) (p + k * n + m * (k * n))) ≡ cond (ltb (i / k) (suc m)) (bad (found (get_or (many_begun (i / k) t c) t 0) (i % k))) (ok (many_begun m t (begun t c)) (p + suc m * (k * n)))
        later i j e =
            let d : i / k ≡ suc (j / k) = ap (λ (x : ℕ). x / k) (e ∙ (let o : j + k ≡ j + 1 * k = omega arith in o)) ∙ add-mul-div_right j 1 more-than ∙ (let o : j / k + 1 ≡ suc (j / k) = omega arith in o) in
            let r : i % k ≡ j % k = ap (λ (x : ℕ). x % k) e ∙ add-mod_right j k in
            by_test (ltb (j / k) m)
            (λ b. let g = of_lt (j / k) m b in rw (d, r, b, lt-true (suc (j / k)) (suc m) (omega arith)))
            (λ b. let g = of_ge (j / k) m b in rw (d, r, b, lt-false (suc (j / k)) (suc m) (omega arith)) (ap (λ (x : ℕ). ok (many_begun m t (begun t c)) x) (let o : p + k * n + m * (k * n) ≡ p + suc m * (k * n) = omega (arith, suc-mul m (k * n)) in o)))

        on_rest : ltb (index p) k ≡ false → on (loop m (element q (numbers k w) t) (begun t c)) s (p + k * n) ≡ all_by_one m (begun t c) (p + k * n) → on (then (seek q (numbers k w) (get_or c t 0) 0 (begun t c)) (λ d. loop m (element q (numbers k w) t) d)) s p ≡ all_by_one (suc m) c p
        on_rest b ih =
            let e = past_one p (of_ge (index p) k b) in
            let g : on (seek q (numbers k w) (get_or c t 0) 0 (begun t c)) s p ≡ ok (begun t c) (p + k * n) = first ∙ rw b in
            sym (then_took (seek q (numbers k w) (get_or c t 0) 0 (begun t c)) (λ d. loop m (element q (numbers k w) t) d) s p (sym g) refl)
            ∙ ih
            ∙ later (index p) (index (p + k * n)) e

-- ---- rows that are begun at once

module _ (t : ℕ) where
  pub advanced : (c : List ℕ) (n k : ℕ) → t < length c → n ≢ 0 → k ≡ (get_or c t 0 + n) % 2 ^ 64 → set c t k ≡ many_begun n t c
  unfolding many_begun
  advanced c zero k h z e = absurd (z refl)
  advanced c (suc zero) k h z e = ap (set c t) e
  advanced c (suc (suc n)) k h z e =
      let x : ℕ = (get_or c t 0 + 1) % 2 ^ 64 in
      let g : get_or (set c t x) t 0 ≡ x = get_or-set_same c t x 0 h in
      let m : k ≡ (get_or (set c t x) t 0 + suc n) % 2 ^ 64 = e ∙ (let o : get_or c t 0 + suc (suc n) ≡ get_or c t 0 + 1 + suc n = omega arith in ap (λ (y : ℕ). y % 2 ^ 64) o) ∙ sym (mod-add-mod (get_or c t 0 + 1) (2 ^ 64) (suc n)) ∙ ap (λ (y : ℕ). (y + suc n) % 2 ^ 64) (sym g) in
      sym (set-set c t x k) ∙ advanced (set c t x) (suc n) k (omega (arith, length-set c t x)) (λ i. omega arith) m

  pub advanced_none : (c : List ℕ) (n : ℕ) → n ≡ 0 → c ≡ many_begun n t c
  unfolding many_begun
  advanced_none c n e = sym (ap (λ (j : ℕ). many_begun j t c) e)

  pub advanced_out : (c : List ℕ) (n : ℕ) → length c ≤ t → c ≡ many_begun n t c
  unfolding many_begun
  advanced_out c zero h = refl
  advanced_out c (suc n) h = advanced_out c n h ∙ ap (many_begun n t) (none_begun c t h)

-- as many elements as that are in x bytes
module _ (each width count x : ℕ) (h : count ≤ x / width / each) where
  pub each_fits : count * each ≤ x
  each_fits = le_trans (le_trans (mul-le-mul_right each h) (div-mul-le_self (x / width) each)) (div-le_self x width)

  pub run_fits : count * each * width ≤ x
  run_fits = le_trans (mul-le-mul_right width (le_trans (mul-le-mul_right each h) (div-mul-le_self (x / width) each))) (div-mul-le_self x width)

-- ---- what the walk over all of them comes to: x is the bytes that are there, up to q

pub some_numbers : (y : Element) → 0 < numbers_of y
some_numbers Element.Int32 = omega arith
some_numbers Element.Int64Pair = omega arith
some_numbers Element.Int16Triple = omega arith

pub some_bytes : (y : Element) → 0 < size (width_of y)
some_bytes Element.Int32 = omega arith
some_bytes Element.Int64Pair = omega arith
some_bytes Element.Int16Triple = omega arith

module _ (q t count : ℕ) (c s : List ℕ) (p : ℕ) (y : Element) (each : ℕ) (is-each : each ≡ numbers_of y) (width : ℕ) (is-width : width ≡ size (width_of y)) (x : ℕ) (e : x ≡ min (q - p) (length s - p)) where
  abbrev walk : Res (List ℕ)
  walk = on (loop count (element q (element_shape y) t) c) s p

  all_are : walk ≡ cond (ltb (x / width / each) count) (bad (found (get_or (many_begun (x / width / each) t c) t 0) (x / width % each))) (ok (many_begun count t c) (p + count * (each * width)))
  all_are =
      all_elements q (width_of y) (size (width_of y)) refl (some_bytes y) s (numbers_of y) (some_numbers y) t count c p
      ∙ (λ j. cond (ltb (sym e j / sym is-width j / sym is-each j) count) (bad (found (get_or (many_begun (sym e j / sym is-width j / sym is-each j) t c) t 0) (sym e j / sym is-width j % sym is-each j))) (ok (many_begun count t c) (p + count * (sym is-each j * sym is-width j))))

  pub in_run : x / width / each < count → (d : List ℕ) → d ≡ many_begun (x / width / each) t c → (row : ℕ) → row ≡ get_or d t 0 → bad (found row (x / width % each)) ≡ walk
  in_run h d g row f = (λ j. bad (found ((f ∙ ap (λ (z : List ℕ). get_or z t 0) g) j) (x / width % each))) ∙ sym (all_are ∙ rw (lt-true (x / width / each) count h))

  pub past_run : count ≤ x / width / each → (d : List ℕ) → d ≡ many_begun count t c → ok d (p + count * each * width) ≡ walk
  past_run h d g = (λ j. ok (g j) (p + mul_assoc count each width j)) ∙ sym (all_are ∙ rw (lt-false (x / width / each) count h))
