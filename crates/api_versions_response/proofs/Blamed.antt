-- The walk over a response to the first field with a fault, from what its functions find: an item, the throttle time, and the whole from its parts.
use mathlib.Core.Bool.{Bool, cond, false, true}
use mathlib.Core.List.{List, [], ◌∷◌}
use mathlib.Core.Logic.{◌≢◌}
use mathlib.Core.Path.{◌∙◌, ◌≡◌, ap, sym}
use Prim.Native.Nat.{◌*◌, ◌+◌, ◌/◌, ◌<◌, ℕ}
use native.Mathlib.Nat.{add-zero}
use lib.Dec.{eqb, lit<}
use lib.ListN.{drop, get_or, length}
use borrow.Author.Tests.{eq-eqb, ne_eqb}
use Rattle.layout.specs.Names.{Sought, blame, else, past, there}
use Rattle.layout.specs.Primitives.{holds, w16, w32}
use Rattle.layout.specs.Reading.{nowhere}
use Rattle.layout.specs.Rows as Rows
use Rattle.layout.specs.Rows.{end, number}
use Rattle.layout.specs.Tables.{basic_of, chosen, pop, rows_of, value_of, width}
use Rattle.layout.specs.Write.{basic_fault, unless}
use Rattle.layout.proofs.Chunks.{row_cell}
use Rattle.primitives_put.specs.Answers.{within}
use Rattle.body_reading.proofs.Front.{Flat}
use Rattle.std.specs.Prelude.{Err, Ok}
use Rattle.names.specs.declared.Found.{Found}
use Rattle.body_writing.specs.Blames.{Blamed, blame_at, of_blamed, row_blame, rows_blame}
use Rattle.body_writing.proofs.Blaming.{any_counts, number_here, number_next}
use Rattle.api_versions_response.specs.Blames.{response_blame}
use Rattle.api_versions_response.specs.ItemShapes.{key_front}
use Rattle.api_versions_response.specs.Shapes.{throttle_shape}

-- as code finds the fault of a number of 16 bits
abbrev pub fault_of : ℕ → ℕ
fault_of n = unless (within 32768 n) 11

-- ---- an item, row i of its table

module _ (e : ℕ) (items : List ℕ) (i : ℕ) (h : i < length items / 4) (row : ℕ) where
  abbrev cs : List ℕ
  cs = get_or (rows_of 4 items) i []

  abbrev sought : Sought
  sought = row_blame [] e key_front row 0 [] cs

  -- cell j of the row
  in_row : (j : ℕ) → j < 4 → (n : ℕ) → n ≡ fault_of (get_or items (i * 4 + j) 0) → n ≡ fault_of (get_or cs j 0)
  in_row j l n q = q ∙ ap fault_of (sym (row_cell 4 items i h j l))

  module _ (a : ℕ) (q : a ≡ fault_of (get_or items (i * 4) 0)) where
    first : a ≡ fault_of (get_or cs 0 0)
    first = in_row 0 (lit< tt) a (q ∙ ap (λ (k : ℕ). fault_of (get_or items k 0)) (sym (add-zero (i * 4))))

    pub key_here : a ≡ e → there row 0 ≡ sought
    key_here g = number_here [] e row 0 [] cs 0 w16 _ a first g

    module _ (g : a ≢ e) (b : ℕ) (p : b ≡ fault_of (get_or items (i * 4 + 1) 0)) where
      key_next : sought ≡ row_blame [] e (Rows.field (number w16) (Rows.field (number w16) end)) row 1 [] (drop 1 cs)
      key_next = number_next [] e row 0 [] cs 0 w16 _ a first g

      pub minimum_here : b ≡ e → there row 1 ≡ sought
      minimum_here u = number_here [] e row 1 [] cs 1 w16 _ b (in_row 1 (lit< tt) b p) u ∙ sym key_next

      module _ (u : b ≢ e) (d : ℕ) (s : d ≡ fault_of (get_or items (i * 4 + 2) 0)) where
        minimum_next : sought ≡ row_blame [] e (Rows.field (number w16) end) row 2 [] (drop 2 cs)
        minimum_next = key_next ∙ number_next [] e row 1 [] cs 1 w16 _ b (in_row 1 (lit< tt) b p) u

        pub maximum_here : d ≡ e → there row 2 ≡ sought
        maximum_here v = number_here [] e row 2 [] cs 2 w16 _ d (in_row 2 (lit< tt) d s) v ∙ sym minimum_next

        pub item_past : d ≢ e → past [] ≡ sought
        unfolding row_blame blame_at blame
        item_past v = sym (minimum_next ∙ number_next [] e row 2 [] cs 2 w16 end d (in_row 2 (lit< tt) d s) v)

-- ---- the throttle time

module _ (e n : ℕ) (t : Bool) where
  abbrev timed : Sought
  timed = row_blame [] e (throttle_shape t end) nowhere 2 [] (2 ∷ n ∷ [])

  pub throttle_lacking : t ≡ false → past [] ≡ timed
  unfolding row_blame blame_at blame
  throttle_lacking h = sym (ap (λ (b : Bool). row_blame [] e (throttle_shape b end) nowhere 2 [] (2 ∷ n ∷ [])) h)

  module _ (h : t ≡ true) (a : ℕ) (q : a ≡ unless (holds w32 n) 11) where
    is_there : timed ≡ cond (eqb a e) (there nowhere 2) (past [])
    unfolding row_blame blame_at blame basic_fault value_of pop width basic_of chosen
    is_there = ap (λ (b : Bool). row_blame [] e (throttle_shape b end) nowhere 2 [] (2 ∷ n ∷ [])) h ∙ ap (λ (k : ℕ). cond (eqb k e) (there nowhere 2) (past [])) (sym q)

    pub throttle_here : a ≡ e → there nowhere 2 ≡ timed
    throttle_here g = sym (is_there ∙ rw (eq-eqb a e g))

    pub throttle_past : a ≢ e → past [] ≡ timed
    throttle_past g = sym (is_there ∙ rw (ne_eqb a e g))

-- ---- the body, from its parts

module _ (e : ℕ) (t : Bool) (error n : ℕ) (items c : List ℕ) (a : ℕ) (q : a ≡ fault_of error) where
  abbrev parts : Sought
  parts = response_blame e t error n items c

  pub error_here : a ≡ e → there nowhere 0 ≡ parts
  unfolding response_blame
  error_here g = sym (rw (← number_here [] e nowhere 0 c (error ∷ []) 0 w16 end a q g))

  module _ (g : a ≢ e) (c' : List ℕ) (x : Blamed) (h : of_blamed c' x ≡ rows_blame [] e key_front 4 1 items c) where
    error_next : else (of_blamed c' x) (λ d. row_blame [] e (throttle_shape t end) nowhere 2 d (2 ∷ n ∷ [])) ≡ parts
    unfolding response_blame row_blame blame_at blame
    error_next =
        ap (λ (s : Sought). else s (λ d. row_blame [] e (throttle_shape t end) nowhere 2 d (2 ∷ n ∷ []))) h
        ∙ sym (ap (λ (s : Sought). else s (λ c₁. else (rows_blame [] e key_front 4 1 items c₁) (λ c₂. row_blame [] e (throttle_shape t end) nowhere 2 c₂ (2 ∷ n ∷ [])))) (number_next [] e nowhere 0 c (error ∷ []) 0 w16 end a q g))

    pub items_here : (a : Found) → x ≡ Err a → there a.row a.field ≡ parts
    items_here a p = sym (ap (λ (y : Blamed). else (of_blamed c' y) (λ d. row_blame [] e (throttle_shape t end) nowhere 2 d (2 ∷ n ∷ []))) p) ∙ error_next

    flat_throttle : (b : Bool) → Flat (throttle_shape b end)
    flat_throttle true = tt
    flat_throttle false = tt

    pub items_past : (o : Unit {0}) → x ≡ Ok o → (y : Blamed) → of_blamed [] y ≡ row_blame [] e (throttle_shape t end) nowhere 2 [] (2 ∷ n ∷ []) → of_blamed c' y ≡ parts
    items_past o p y u = any_counts [] e (throttle_shape t end) (flat_throttle t) nowhere 2 (2 ∷ n ∷ []) y u c' ∙ sym (ap (λ (y : Blamed). else (of_blamed c' y) (λ d. row_blame [] e (throttle_shape t end) nowhere 2 d (2 ∷ n ∷ []))) p) ∙ error_next
