-- Tags read: the row of one, their number and the tags at the end of a row, and the whole reply of the call, from what the measuring and the filling walk came to.
use mathlib.Core.Bool.{Bool, false, true}
use mathlib.Core.List.{List, [], ◌++◌, ◌∷◌}
use mathlib.Core.Path.{◌∙◌, ◌≡◌, ap, refl, subst, sym}
use Prim.Native.Nat.{◌+◌, ◌-◌, ◌/◌, ◌<◌, ◌≤◌, ℕ}
use native.Mathlib.Omega.{arith}
use lib.ListN.{get_or, length}
use lib.IntN.{pos}
use Rattle.layout.specs.Reading.{Reader, Refusal, Res, bad, because, loop, no_room, ok, pair}
use Rattle.layout.specs.Primitives.{minus, plain, unsigned}
use Rattle.layout.specs.Rows.{Shape, Value, at, blob, end, standing, stands, tag_rows}
use Rattle.layout.specs.Read.{by_place, read, read_basic, read_blob}
use Rattle.layout.specs.Tables.{Span, all, arrays, cells, count_cell, from, kind_in, kind_of, read_rows, row_width, span, width}
use Rattle.body_reading.specs.Store.{State, Tab, add, own, put, store, tab}
use Rattle.body_reading.specs.Tagged.{tag_shape, tags_if, tags_shape}
use Rattle.body_reading.specs.Walk.{Place, Places, Runs, on, walk}
use Rattle.std.specs.Prelude.{Err, Ok, Result}
use Rattle.primitives.specs.Answers.{Read, of_refusal}
use Rattle.primitives.specs.declared.Refusal as Code
use Rattle.layout.specs.Answers.{accepted, prefix_read, refused, shape, tags_alone, widths}
use Rattle.body_reading.specs.Walked.{counted_at, filled}
use Rattle.body_reading.specs.declared.walks.Counted.{Counted}
use Rattle.body_reading.specs.declared.walks.Filled.{Filled}
use Rattle.tagged_fields.specs.Read.{in_table, in_table_is, in_tables, in_tables_is, of_tagged}
use Rattle.layout.proofs.Contents.{row_cells}
use Rattle.body_reading.proofs.Front.{placed_took, row_no}
use Rattle.body_reading.proofs.Chains.{give_took, then_no, then_took}
use Rattle.body_reading.proofs.Arrays.{array_no, array_no_count, array_took, row_end}
use Rattle.body_reading.proofs.DataAt.{length_no, length_took}
use Rattle.body_reading.proofs.FrontAt.{byte_at}
use Rattle.layout.proofs.Local.{not_ok}
use Rattle.layout.proofs.Proper.{avoids, eats, proper, sound, width_at}
use Rattle.body_reading.proofs.Bound.{lean, slim, taken}
use Rattle.body_reading.proofs.Close.{slices}
use Rattle.body_reading.proofs.OneTable.{alone, one_needs, one_no, one_took}
use Rattle.body_reading.proofs.Reply.{answers_long}

module _ (s : List ℕ) (p : ℕ) where
  pub tag_no : (c : Refusal) → bad c ≡ on unsigned s p → bad c ≡ on (read (by_place false) tag_shape) s p
  unfolding read read_basic pair
  tag_no c e = then_no unsigned _ s p e

  module _ (t q : ℕ) (d : ok t q ≡ on unsigned s p) where
    pub tag_no_data : (c : Refusal) → bad c ≡ on (read_basic (by_place false) (blob plain)) s q → bad c ≡ on (read (by_place false) tag_shape) s p
    unfolding read read_basic pair
    tag_no_data c e = then_took unsigned _ s p d (then_no _ _ s q (then_no _ _ s q e))

    pub tag_took : (x : Span) (n : ℕ) → ok x n ≡ on (read_basic (by_place false) (blob plain)) s q → ok (t, (x, tt)) n ≡ on (read (by_place false) tag_shape) s p
    unfolding read read_basic pair
    tag_took x n e = then_took unsigned _ s p d (then_took _ _ s q (then_took _ _ s q e (then_took _ _ s n (give_took tt s n) (give_took (x, tt) s n))) (give_took (t, (x, tt)) s n))

-- a tag is read alike in a whole read
any_whole : (w : Bool) → read (by_place false) tag_shape ≡ read (by_place w) tag_shape
unfolding read read_basic read_blob
any_whole w = refl

module _ (s : List ℕ) (p : ℕ) (l : List ℕ) (k : ℕ) where
  here_is : (o : Res (Value Span tag_shape)) → o ≡ on (read (by_place false) tag_shape) s p → (w : Bool) → o ≡ on (read (by_place w) tag_shape) s p
  here_is o h w = h ∙ ap (λ (y : Reader (Value Span tag_shape)). on y s p) (any_whole w)

  pub in_no : (c : Code.Refusal) → bad (of_refusal c) ≡ on (read (by_place false) tag_shape) s p → (l' : List ℕ) (r : Result Filled Code.Refusal) → r ≡ Err c →
      Runs (λ e. walk e.0 tag_shape e.1.o) s p (in_table l k) (in_table_is l' r)
  in_no c d l' r i = record { law = λ e. ap (λ y. in_table_is l' y e) i ∙ row_no e.0 tag_shape e.1.o (e.1.h (tab l k)) s p (of_refusal c) (here_is (bad (of_refusal c)) d e.0) }

  pub in_took : (t a n q : ℕ) → ok (t, ((a, n), tt)) q ≡ on (read (by_place false) tag_shape) s p → (l' : List ℕ) (m : ℕ) → tab l' m ≡ store (tab l k) (t ∷ a ∷ n ∷ []) →
      Runs (λ e. walk e.0 tag_shape e.1.o) s p (in_table l k) (in_table_is l' (filled q m))
  unfolding row_cells cells span
  in_took t a n q d l' m i = record { law = λ e. placed_took e.0 tag_shape tt e.1 (tab l k) (tab l' m) s p (t, ((a, n), tt)) q (here_is (ok (t, ((a, n), tt)) q) d e.0) i }

-- the table of tags, where the row has their number
behind : Places → Tab → ℕ → Place
behind w x n = record { h = λ y. w.h (store x (n ∷ [])) y; o = w.t; law = λ y cs. w.items_law (store x (n ∷ [])) y cs }

module _ (s : List ℕ) (p : ℕ) (l : List ℕ) (k : ℕ) where
  pub buffer_no_count : (c : Code.Refusal) → bad (of_refusal c) ≡ on unsigned s p → (l' : List ℕ) (z : Result Counted Code.Refusal) → z ≡ Err c →
      Runs (λ e. walk e.0 (tags_shape true e.1.t) e.1.o) s p (in_tables l k) (in_tables_is l' z)
  buffer_no_count c h l' z i = record { law = λ e. ap (λ y. in_tables_is l' y e) i ∙ array_no_count e.0 plain e.1.t tag_shape end e.1.o (in_tables l k e) s p (of_refusal c) (length_no s p (of_refusal c) h) }

  module _ (n q : ℕ) (d : ok n q ≡ on unsigned s p) (l' : List ℕ) (r : Result Filled Code.Refusal) (h : Runs (λ e. loop n (walk e.0 tag_shape e.1.o)) s q (in_table l k) (in_table_is l' r)) where
    looped : (e : Bool × Places × Tab) → in_table_is l' r (e.0, behind e.1 e.2 n) ≡ on (loop (n + 1 - 1) (walk e.0 tag_shape e.1.t) (add e.1.o (count_cell false (n + 1) ∷ []) (in_tables l k e))) s q
    unfolding behind count_cell
    looped e =
        let m : n ≡ n + 1 - 1 = omega arith in
        h.law (e.0, behind e.1 e.2 n)
        ∙ ap (λ (y : State). on (loop n (walk e.0 tag_shape e.1.t) y) s q) (sym (e.1.row_law e.2 (tab l k) (n ∷ [])))
        ∙ ap (λ (j : ℕ). on (loop j (walk e.0 tag_shape e.1.t) (add e.1.o (j ∷ []) (in_tables l k e))) s q) m

    pub buffer_no : (c : Code.Refusal) → r ≡ Err c → (z : Result Counted Code.Refusal) → z ≡ Err c → Runs (λ e. walk e.0 (tags_shape true e.1.t) e.1.o) s p (in_tables l k) (in_tables_is l' z)
    buffer_no c i z j = record { law = λ e. ap (λ y. in_tables_is l' y e) j ∙ array_no e.0 plain e.1.t tag_shape end e.1.o (in_tables l k e) s p (n + 1) q (length_took s p n q d) (of_refusal c) (ap (λ y. in_table_is l' y (e.0, behind e.1 e.2 n)) (sym i) ∙ looped e) }

    pub buffer_took : (u j : ℕ) → r ≡ filled u j → Runs (λ e. walk e.0 (tags_shape true e.1.t) e.1.o) s p (in_tables l k) (in_tables_is l' (counted_at n u j))
    unfolding behind
    buffer_took u j i = record {
      law = λ e. array_took e.0 plain e.1.t tag_shape end e.1.o (in_tables l k e) s p (n + 1) q (length_took s p n q d) _ u _ (ap (λ y. in_table_is l' y (e.0, behind e.1 e.2 n)) (sym i) ∙ looped e) (row_end e.0 e.1.o (in_tables_is_state e j) s u);
    }
      where
        in_tables_is_state : Bool × Places × Tab → ℕ → State
        in_tables_is_state e j = e.1.h (store e.2 (n ∷ [])) (tab l' j)

  -- the byte 0 is no tags
  pub buffer_empty : p < length s → 0 ≡ get_or s p 0 → Runs (λ e. walk e.0 (tags_shape true e.1.t) e.1.o) s p (in_tables l k) (in_tables_is l (counted_at 0 (p + 1) k))
  unfolding loop
  buffer_empty h e = buffer_took 0 (p + 1) (byte_at s p 0 e h (omega arith)) l (filled (p + 1) k) (record { law = λ z. give_took (in_table l k z) s (p + 1) }) (p + 1) k refl

-- what the laws of all messages ask of this one, computed
is_proper : proper tags_alone ≡ true
unfolding proper sound avoids eats width_at all from kind_of kind_in arrays row_width width shape at stands standing tag_rows
is_proper = refl

is_slim : slim tags_alone ≡ true
unfolding slim all from lean taken row_width width shape at stands standing tag_rows
is_slim = refl

tag_width : widths tags_alone ≡ 3 ∷ []
unfolding widths from kind_of kind_in arrays row_width width shape at stands standing tag_rows
tag_width = refl

tags_shape_lem : tags_shape true 1 ≡ shape tags_alone 0
unfolding shape at stands standing tag_rows
tags_shape_lem = refl

pub reply_long : (s l : List ℕ) (c : Refusal) → c ≡ because 2 0 → 1048576 < length s → (refused c, l ∷ []) ≡ prefix_read tags_alone (pos 0) (l ∷ []) s
unfolding prefix_read
reply_long s l c e h = answers_long tags_alone false 0 s (l ∷ []) c e (omega arith) h

-- what a walk comes to, with the own row in front of the table
module _ (s t t' : List ℕ) (r : Result Counted Code.Refusal) (h : Runs (λ e. walk e.0 (tags_shape true e.1.t) e.1.o) s 0 (in_tables t 0) (in_tables_is t' r)) where
  run_is : in_tables_is t' r (false, alone, own []) ≡ on (walk false (shape tags_alone 0) 0 (own [] ∷ tab t 0 ∷ [])) s 0
  run_is = h.law (false, alone, own []) ∙ ap (λ (y : Shape). on (walk false y 0 (own [] ∷ tab t 0 ∷ [])) s 0) tags_shape_lem

  run_no : (c : Code.Refusal) → r ≡ Err c → bad (of_refusal c) ≡ on (walk false (shape tags_alone 0) 0 (own [] ∷ tab t 0 ∷ [])) s 0
  run_no c e = ap (λ y. in_tables_is t' y (false, alone, own [])) (sym e) ∙ run_is

  run_took : (n q k : ℕ) → r ≡ counted_at n q k → ok (own (n ∷ []) ∷ tab t' k ∷ []) q ≡ on (walk false (shape tags_alone 0) 0 (own [] ∷ tab t 0 ∷ [])) s 0
  unfolding store put
  run_took n q k e = ap (λ y. in_tables_is t' y (false, alone, own [])) (sym e) ∙ run_is

module _ (s l : List ℕ) (size : length s ≤ 1048576) (t₀ t₁ : List ℕ) (r : Result Counted Code.Refusal) (first : Runs (λ e. walk e.0 (tags_shape true e.1.t) e.1.o) s 0 (in_tables t₀ 0) (in_tables_is t₁ r)) (empty : length t₁ ≡ 0) where
  pub reply_no : (c : Code.Refusal) → r ≡ Err c → (z : Read ℕ) → z ≡ Err c → (of_tagged z, (t₁ ++ l) ∷ []) ≡ prefix_read tags_alone (pos 0) (l ∷ []) s
  reply_no c e z i = ap (λ y. (of_tagged y, (t₁ ++ l) ∷ [])) i ∙ one_no tags_alone is_proper is_slim refl 3 tag_width 0 (omega arith) s l size t₀ t₁ empty (of_refusal c) (run_no s t₀ t₁ r first c e)

  module _ (n q k : ℕ) (e : r ≡ counted_at n q k) where
    pub reply_needs : length (t₁ ++ l) / 3 < k / 3 → (c : Refusal) → c ≡ no_room (k / 3) → (refused c, (t₁ ++ l) ∷ []) ≡ prefix_read tags_alone (pos 0) (l ∷ []) s
    reply_needs h c i = one_needs tags_alone is_proper is_slim refl 3 tag_width 0 (omega arith) s l size t₀ t₁ empty (n ∷ []) q k (run_took s t₀ t₁ r first n q k e) h c i

    pub reply_took : k / 3 ≤ length (t₁ ++ l) / 3 → (l₂ : List ℕ) (r₂ : Result Counted Code.Refusal) → Runs (λ e. walk e.0 (tags_shape true e.1.t) e.1.o) s 0 (in_tables (t₁ ++ l) 0) (in_tables_is l₂ r₂) → (accepted (n ∷ []) q, l₂ ∷ []) ≡ prefix_read tags_alone (pos 0) (l ∷ []) s
    unfolding store put
    reply_took h l₂ r₂ d = one_took tags_alone is_proper is_slim refl 3 tag_width 0 (omega arith) s l size t₀ t₁ empty (n ∷ []) q k (run_took s t₀ t₁ r first n q k e) h l₂ (in_tables_is l₂ r₂ (false, alone, own [])) (λ x m i. holds r₂ x m i) (run_is s (t₁ ++ l) l₂ r₂ d)
      where
        holds : (r₂ : Result Counted Code.Refusal) (x : State) (m : ℕ) → in_tables_is l₂ r₂ (false, alone, own []) ≡ ok x m → slices x ≡ l₂ ∷ []
        holds (Ok a) x m i = let y : own (a.count ∷ []) ∷ tab l₂ a.mark ∷ [] ≡ x = cc in ap slices (sym y)
        holds (Err c) x m i = not_ok i

-- ---- tags, where the version has them

module _ (f : Bool) (s : List ℕ) (p : ℕ) (l : List ℕ) (k : ℕ) where
  of_flag_lem : (b : Bool) → f ≡ b → (g : Bool × Places × Tab → Res State) → Runs (λ e. walk e.0 (tags_if b e.1.t) e.1.o) s p (in_tables l k) g → Runs (λ e. walk e.0 (tags_if f e.1.t) e.1.o) s p (in_tables l k) g
  of_flag_lem b e g h = subst (λ (x : Bool). Runs (λ e. walk e.0 (tags_if x e.1.t) e.1.o) s p (in_tables l k) g) (sym e) h

  pub tags_there : f ≡ true → (l' : List ℕ) (r : Result Counted Code.Refusal) → Runs (λ e. walk e.0 (tags_shape true e.1.t) e.1.o) s p (in_tables l k) (in_tables_is l' r) →
      Runs (λ e. walk e.0 (tags_if f e.1.t) e.1.o) s p (in_tables l k) (in_tables_is l' r)
  unfolding tags_if standing stands
  tags_there e l' r h = of_flag_lem true e (in_tables_is l' r) (record { law = λ e. h.law e })

  pub tags_lacking : f ≡ false → Runs (λ e. walk e.0 (tags_if f e.1.t) e.1.o) s p (in_tables l k) (in_tables_is l (counted_at minus p k))
  unfolding tags_if standing read_rows
  tags_lacking e = of_flag_lem false e (in_tables_is l (counted_at minus p k)) (record {
    law = λ e. ap (λ (u : State). ok u p) (sym (e.1.row_law e.2 (tab l k) (minus ∷ []))) ∙ row_end e.0 e.1.o (add e.1.o (minus ∷ []) (in_tables l k e)) s p;
  })
