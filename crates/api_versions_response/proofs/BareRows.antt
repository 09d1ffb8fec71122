-- An item into the tables: each way out of the walk over it; and one without tags whose bytes are there, of which the byte behind its numbers is 0.
use mathlib.Core.Bool.{Bool, false, true}
use mathlib.Core.List.{List, [], ◌∷◌}
use mathlib.Core.Path.{◌∙◌, ◌≡◌, ap, refl, sym}
use Prim.Native.Nat.{◌+◌, ◌-◌, ◌≤◌, suc, zero, ℕ}
use native.Mathlib.Omega.{arith}
use lib.ListN.{drop, length, length-drop, take}
use lib.Seq.{drop-drop, length-take-le, take-take}
use Rattle.layout.specs.Reading.{Reader, Refusal, Res, bad, ok}
use Rattle.layout.specs.Primitives.{be, cell, cell_of, signed, w16}
use Rattle.layout.specs.Rows.{Shape, Value, end, field, number}
use Rattle.layout.specs.Read.{by_place, read, read_basic}
use Rattle.layout.specs.Tables.{Span, cells}
use Rattle.primitives.specs.Answers.{of_refusal}
use Rattle.primitives.specs.declared.Refusal as Code
use Rattle.body_reading.specs.Store.{Tab, add, own, step, store, tab}
use Rattle.body_reading.specs.Tagged.{tags_if}
use Rattle.body_reading.specs.Walk.{Places, Runs, on, walk}
use Rattle.tagged_fields.specs.Read as Tags
use Rattle.body_reading.specs.Walked.{counted_at}
use Rattle.body_reading.specs.declared.walks.Counted.{Counted}
use Rattle.std.specs.Prelude.{Result, Ok, Err}
use Rattle.api_versions_response.specs.ItemShapes.{key_front, key_shape}
use Rattle.api_versions_response.specs.ItemWalks.{Bare, IsBare, in_tables, rows_at, rows_is}
use Rattle.layout.proofs.Contents.{row_cells}
use Rattle.body_reading.proofs.Front.{front_no, front_took, reads_end, reads_no, reads_took}
use Rattle.body_reading.proofs.Chains.{same_value}
use Rattle.body_reading.proofs.Stores.{four_out, store_append}
use Rattle.layout.proofs.Local.{not_ok}
use Rattle.body_reading.proofs.FrontAt.{cell_at}
use Rattle.tagged_fields.proofs.Replies.{buffer_empty, tags_there}

-- ---- its numbers

module _ (s : List ℕ) (p : ℕ) where
  abbrev two : Shape
  two = field (number w16) (field (number w16) end)

  abbrev one : Shape
  one = field (number w16) end

  pub key_no : (c : Refusal) → bad c ≡ on (cell w16) s p → bad c ≡ on (read (by_place false) key_front) s p
  unfolding read_basic
  key_no c e = reads_no false (number w16) two s p c e

  module _ (a q : ℕ) (d : ok a q ≡ on (cell w16) s p) where
    pub min_no : (c : Refusal) → bad c ≡ on (cell w16) s q → bad c ≡ on (read (by_place false) key_front) s p
    unfolding read_basic
    min_no c e = reads_took false (number w16) two s p a q d (bad c) (reads_no false (number w16) one s q c e)

    module _ (b u : ℕ) (g : ok b u ≡ on (cell w16) s q) where
      pub max_no : (c : Refusal) → bad c ≡ on (cell w16) s u → bad c ≡ on (read (by_place false) key_front) s p
      unfolding read_basic
      max_no c e = reads_took false (number w16) two s p a q d (bad c) (reads_took false (number w16) one s q b u g (bad c) (reads_no false (number w16) end s u c e))

      pub key_took : (c n : ℕ) → ok c n ≡ on (cell w16) s u → ok (a, (b, (c, tt))) n ≡ on (read (by_place false) key_front) s p
      unfolding read_basic
      key_took c n e =
          reads_took false (number w16) two s p a q d (ok (b, (c, tt)) n)
          (reads_took false (number w16) one s q b u g (ok (c, tt) n) (reads_took false (number w16) end s u c n e (ok tt n) (reads_end false s n)))

-- numbers are read alike in a whole read
any_whole : (w : Bool) → read (by_place false) key_front ≡ read (by_place w) key_front
unfolding read read_basic
any_whole w = refl

-- ---- the item

-- the items' table and that of their tags, behind the own row
between : List ℕ → Places
unfolding add
between cs = record { h = λ x y. own cs ∷ x ∷ y ∷ []; o = 1; t = 2; row_law = λ x y ds. refl; items_law = λ x y ds. refl }

module _ (f : Bool) (s : List ℕ) (p : ℕ) (is : List ℕ) (i : ℕ) (ts : List ℕ) (t : ℕ) where
  here_is : (o : Res (Value Span key_front)) → o ≡ on (read (by_place false) key_front) s p → (w : Bool) → o ≡ on (read (by_place w) key_front) s p
  here_is o h w = h ∙ ap (λ (y : Reader (Value Span key_front)). on y s p) (any_whole w)

  pub item_no : (c : Refusal) → bad c ≡ on (read (by_place false) key_front) s p → Runs (λ e. walk e.0 (key_shape f) 1) s p (in_tables is i ts t) (λ e. bad c)
  unfolding key_shape
  item_no c d = record { law = λ e. front_no e.0 (tags_if f 2) 1 key_front tt (in_tables is i ts t e) s p c (here_is (bad c) d e.0) }

  module _ (a b c n : ℕ) (d : ok (a, (b, (c, tt))) n ≡ on (read (by_place false) key_front) s p) (ts' : List ℕ) (z : Result Counted Code.Refusal) (l : Runs (λ e. walk e.0 (tags_if f e.1.t) e.1.o) s n (Tags.in_tables ts t) (Tags.in_tables_is ts' z)) where
    -- the items' table once the numbers are stored
    abbrev numbered : Tab
    numbered = store (tab is i) (a ∷ b ∷ c ∷ [])

    from_key : (e : Bool × List ℕ) → Tags.in_tables_is ts' z (e.0, between e.1, numbered) ≡ on (walk e.0 (key_shape f) 1 (in_tables is i ts t e)) s p
    unfolding between key_shape row_cells cells add
    from_key e = front_took e.0 (tags_if f 2) 1 key_front tt (in_tables is i ts t e) s p (a, (b, (c, tt))) n (here_is (ok (a, (b, (c, tt))) n) d e.0) _ (l.law (e.0, between e.1, numbered))

    pub item_no_tags : (c : Code.Refusal) → z ≡ Err c → Runs (λ e. walk e.0 (key_shape f) 1) s p (in_tables is i ts t) (λ e. bad (of_refusal c))
    item_no_tags c j = record { law = λ e. ap (λ y. Tags.in_tables_is ts' y (e.0, between e.1, numbered)) (sym j) ∙ from_key e }

    pub item_took : (y : Counted) → z ≡ Ok y → (is' : List ℕ) (m : ℕ) → tab is' m ≡ store (tab is i) (a ∷ b ∷ c ∷ y.count ∷ []) → Runs (λ e. walk e.0 (key_shape f) 1) s p (in_tables is i ts t) (rows_is is' ts' (rows_at y.next m y.mark))
    unfolding between
    item_took y j is' m g = record {
      law = λ e.
          (λ x. ok (own e.1 ∷ (g ∙ sym (store_append (tab is i) (a ∷ b ∷ c ∷ []) (y.count ∷ []))) x ∷ tab ts' y.mark ∷ []) y.next)
          ∙ ap (λ y. Tags.in_tables_is ts' y (e.0, between e.1, numbered)) (sym j)
          ∙ from_key e;
    }

module _ (s : List ℕ) (p : ℕ) (h : p + 6 ≤ length s) where
  -- the number at a place
  abbrev num : ℕ → ℕ
  num q = cell_of (signed w16 (be 0 (take 2 (drop q s))))

  there : ok (num p, (num (p + 2), (num (p + 2 + 2), tt))) (p + 6) ≡ on (read (by_place false) key_front) s p
  there =
      let e : p + 6 ≡ p + 2 + 2 + 2 = omega arith in
      ap (ok (num p, (num (p + 2), (num (p + 2 + 2), tt)))) e
      ∙ key_took s p _ (p + 2) (cell_at w16 s p (omega arith)) _ (p + 2 + 2) (cell_at w16 s (p + 2) (omega arith)) _ (p + 2 + 2 + 2) (cell_at w16 s (p + 2 + 2) (omega arith))

  pub bare_out : (l : List ℕ) (k n : ℕ) → n ≡ step (step (step (step k))) → length l ≤ k → Bare s p l k l n
  bare_out l k n e i = record { key = num p; min = num (p + 2); max = num (p + 2 + 2); reads = there; stored = four_out l k _ _ _ 0 n e i }

-- a part of a part
inside : (k q n : ℕ) (l : List ℕ) → q + k ≤ n → take k (drop q (take n l)) ≡ take k (drop q l)
inside k zero n l h = take-take k n l (omega arith)
inside k (suc q) zero l h = absurd (omega arith)
inside k (suc q) (suc n) [] h = refl
inside k (suc q) (suc n) (x ∷ l) h = inside k q n l (omega arith)

-- read on just its bytes
module _ (s : List ℕ) (p : ℕ) (h : p + 6 ≤ length s) where
  abbrev part : List ℕ
  part = take (p + 6 - p) (drop p s)

  same : (q t : ℕ) → p + q ≡ t → q + 2 ≤ 6 → be 0 (take 2 (drop q part)) ≡ be 0 (take 2 (drop t s))
  same q t e l =
      let n : p + 6 - p ≡ 6 = omega arith in
      ap (λ (k : ℕ). be 0 (take 2 (drop q (take k (drop p s))))) n ∙ ap (be 0) (inside 2 q 6 (drop p s) l ∙ ap (take 2) (drop-drop q p s ∙ ap (λ (k : ℕ). drop k s) e))

  -- the numbers are those at place p
  on_part : on (read (by_place false) key_front) part 0 ≡ ok (num s p h p, (num s p h (p + 2), (num s p h (p + 2 + 2), tt))) 6
  on_part =
      let l : length part ≡ p + 6 - p = length-take-le (p + 6 - p) (drop p s) (omega (arith, length-drop p s)) in
      sym (there part 0 (omega arith)) ∙ (λ i. ok (cell_of (signed w16 (same 0 p (omega arith) (omega arith) i)), (cell_of (signed w16 (same 2 (p + 2) (omega arith) (omega arith) i)), (cell_of (signed w16 (same 4 (p + 2 + 2) (omega arith) (omega arith) i)), tt))) 6)

  pub bare_stored : (a b c n : ℕ) → ok (a, (b, (c, tt))) n ≡ on (read (by_place false) key_front) part 0 → (l : List ℕ) (k : ℕ) (l' : List ℕ) (m : ℕ) → tab l' m ≡ store (tab l k) (a ∷ b ∷ c ∷ 0 ∷ []) → Bare s p l k l' m
  bare_stored a b c n d l k l' m i = record { key = a; min = b; max = c; reads = ap (λ (v : Value Span key_front). ok v (p + 6)) (same_value (d ∙ on_part)) ∙ there s p h; stored = i }

  pub bare_never : {X : Type 0} (e : Refusal) → bad e ≡ on (read (by_place false) key_front) part 0 → X
  bare_never e d = not_ok (d ∙ on_part)

pub never : {X : Type 0} → false ≡ true → X
never r = let z : ◌≡◌ {A = ℕ} 0 1 = cc in absurd (omega arith)

pub bare_item : (f : Bool) (s : List ℕ) (p : ℕ) (is : List ℕ) (i : ℕ) (ts : List ℕ) (t : ℕ) (r : Bool) → IsBare f s p r → r ≡ true → (is' : List ℕ) (m : ℕ) → Bare s p is i is' m →
    Runs (λ e. walk e.0 (key_shape f) 1) s p (in_tables is i ts t) (rows_is is' ts (rows_at (p + 7) m t))
bare_item f s p is i ts t r d g is' m b =
    let n : p + 6 + 1 ≡ p + 7 = omega arith in
    item_took f s p is i ts t b.key b.min b.max (p + 6) b.reads ts (counted_at 0 (p + 6 + 1) t)
    (tags_there f s (p + 6) ts t (d.flexible g) ts (counted_at 0 (p + 6 + 1) t) (buffer_empty s (p + 6) ts t (d.whole g) (sym (d.empty g)))) (record { count = 0; next = p + 7; mark = t }) (ap (λ (u : ℕ). counted_at 0 u t) n) is' m b.stored
