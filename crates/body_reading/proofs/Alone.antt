-- A field that the version may lack, read alone: each way out, for every kind of field and then for those that code reads.
use mir.Val.{bool_byte}
use mathlib.Core.Bool.{Bool, cond, false, true}
use mathlib.Core.List.{List, [], ◌∷◌}
use mathlib.Core.Option.{Option, none, some}
use mathlib.Core.Path.{◌∙◌, ◌≡◌, ap, refl, subst, sym}
use Prim.Native.Nat.{ℕ}
use native.Mathlib.Omega.{arith}
use Rattle.layout.specs.Reading.{Refusal, Res, bad, ok}
use Rattle.layout.specs.Primitives.{cell, fixed, flag, kept, minus, w16, w32, w64}
use Rattle.layout.specs.Read.{by_place, read_basic}
use Rattle.layout.specs.Rows.{Basic, BasicValue, boolean, end, number, optional, stands, text}
use Rattle.layout.specs.Tables.{Span, absent_cells, cells, span, width}
use Rattle.primitives.specs.Parts.{of_field, of_nullable, there}
use Rattle.primitives.specs.declared.Field.{Field}
use Rattle.std.specs.Option.{unwrap_or}
use Rattle.std.specs.Prelude.{Ok, Err, Some, None, Option as Maybe}
use Rattle.primitives.specs.Answers.{Read}
use Rattle.primitives.specs.Answers.{of_number, of_refusal}
use Rattle.body_reading.specs.Walk.{on, row_from}
use Rattle.body_reading.proofs.RowCells.{cells_absent, cells_end, cells_no, cells_took}
use Rattle.body_reading.specs.Cells.{given, field_cells, of_cell, of_text}

module _ (b : Bool) (k : Basic) (s : List ℕ) (p : ℕ) where
  abbrev asked : Bool → Res (List ℕ)
  asked f = on (row_from [] (stands f k end)) s p

  lacks : b ≡ false → ok (absent_cells k) p ≡ asked b
  unfolding stands
  lacks e = subst (λ (f : Bool). ok (absent_cells k) p ≡ asked f) (sym e) (cells_absent [] k end s p _ (cells_end (absent_cells k) s p))

  has_no : b ≡ true → (c : Refusal) → bad c ≡ on (read_basic (by_place false) k) s p → bad c ≡ asked b
  unfolding stands
  has_no e c d = subst (λ (f : Bool). bad c ≡ asked f) (sym e) (cells_no [] k end s p c d)

  has_took : b ≡ true → (x : BasicValue Span k) (q : ℕ) → ok x q ≡ on (read_basic (by_place false) k) s p → ok (cells k x) q ≡ asked b
  unfolding stands
  has_took e x q d = subst (λ (f : Bool). ok (cells k x) q ≡ asked f) (sym e) (cells_took [] k end s p x q d _ (cells_end (cells k x) s q))

module _ (b : Bool) (s : List ℕ) (p : ℕ) where
  -- ---- a number that may also be unset

  pub int32_lacks : b ≡ false → ok (0 ∷ 0 ∷ []) p ≡ on (row_from [] (stands b (optional (0 ∷ []) (number w32)) end)) s p
  unfolding absent_cells width
  int32_lacks e = lacks b (optional (0 ∷ []) (number w32)) s p e

  pub int32_no : b ≡ true → (c : Refusal) → bad c ≡ on (cell w32) s p → bad c ≡ on (row_from [] (stands b (optional (0 ∷ []) (number w32)) end)) s p
  unfolding read_basic
  int32_no e c d = has_no b (optional (0 ∷ []) (number w32)) s p e c d

  pub int32_took : b ≡ true → (n q : ℕ) → ok n q ≡ on (cell w32) s p → ok (2 ∷ n ∷ []) q ≡ on (row_from [] (stands b (optional (0 ∷ []) (number w32)) end)) s p
  unfolding read_basic cells
  int32_took e n q d = has_took b (optional (0 ∷ []) (number w32)) s p e n q d

  -- ---- a number that the version has or not

  pub int64_lacks : b ≡ false → ok (minus ∷ []) p ≡ on (row_from [] (stands b (number w64) end)) s p
  unfolding absent_cells
  int64_lacks e = lacks b (number w64) s p e

  pub int64_there : b ≡ true → (r : Read ℕ) → of_number r ≡ on (cell w64) s p → of_cell r ≡ on (row_from [] (stands b (number w64) end)) s p
  unfolding read_basic cells
  int64_there e (Ok t) d = has_took b (number w64) s p e t.value t.next d
  int64_there e (Err c) d = has_no b (number w64) s p e (of_refusal c) d

  -- ---- a Boolean

  pub boolean_lacks : b ≡ false → ok (minus ∷ []) p ≡ on (row_from [] (stands b boolean end)) s p
  unfolding absent_cells
  boolean_lacks e = lacks b boolean s p e

  pub boolean_no : b ≡ true → (c : Refusal) → bad c ≡ on flag s p → bad c ≡ on (row_from [] (stands b boolean end)) s p
  unfolding read_basic
  boolean_no e c d = has_no b boolean s p e c d

  pub boolean_took : b ≡ true → (x : Bool) (q : ℕ) → ok x q ≡ on flag s p → (f : Bool) → x ≡ f → ok (cond f 1 0 ∷ []) q ≡ on (row_from [] (stands b boolean end)) s p
  unfolding read_basic cells
  boolean_took e x q d f g = ap (λ (y : Bool). ok (cond y 1 0 ∷ []) q) (sym g) ∙ has_took b boolean s p e x q d

  -- ---- a text that may be null

  abbrev kind : Basic
  kind = text (fixed w16 kept)

  pub text_lacks : b ≡ false → ok (0 ∷ 0 ∷ 0 ∷ []) p ≡ on (row_from [] (stands b kind end)) s p
  unfolding absent_cells width
  text_lacks e = lacks b kind s p e

  -- the cells of a field that is there are those of its text
  there_cells : (f : Field) (x : Option Span) → of_field f ≡ some x → field_cells f ≡ cells kind x
  unfolding cells span
  there_cells Field.Absent x e = absurd (let z : ◌≡◌ {A = ℕ} 0 1 = cc in omega arith)
  there_cells Field.Null none e = refl
  there_cells Field.Null (some y) e = absurd (let z : ◌≡◌ {A = ℕ} 0 1 = cc in omega arith)
  there_cells (Field.Present v) none e = absurd (let z : ◌≡◌ {A = ℕ} 0 1 = cc in omega arith)
  there_cells (Field.Present v) (some y) e =
      let g : v.start ≡ y.0 = cc in
      let h : v.len ≡ y.1 = cc in
      λ i. 2 ∷ g i ∷ h i ∷ []

  pub text_there : b ≡ true → (r : Read Field) → of_nullable r ≡ there (on (read_basic (by_place false) kind) s p) → of_text r ≡ on (row_from [] (stands b kind end)) s p
  text_there e r d = go r (on (read_basic (by_place false) kind) s p) refl d
    where
      go : (r : Read Field) (o : Res (Option Span)) → on (read_basic (by_place false) kind) s p ≡ o → of_nullable r ≡ there o → of_text r ≡ on (row_from [] (stands b kind end)) s p
      go (Ok t) (ok x q) g d =
          let h : of_field t.value ≡ some x = cc in
          let m : t.next ≡ q = cc in
          (λ i. ok (there_cells t.value x h i) (m i)) ∙ has_took b kind s p e x q (sym g)
      go (Ok t) (bad c) g d = absurd (let z : ◌≡◌ {A = ℕ} 0 1 = cc in omega arith)
      go (Err c) (ok x q) g d = absurd (let z : ◌≡◌ {A = ℕ} 0 1 = cc in omega arith)
      go (Err c) (bad a) g d =
          let h : of_refusal c ≡ a = cc in
          ap bad h ∙ has_no b kind s p e a (sym g)

-- a number, or what is taken where there is none
pub given_is : (x : Maybe ℕ) (d : ℕ) → unwrap_or x d ≡ given d x
given_is None d = refl
given_is (Some n) d = refl

-- a Boolean as a number
pub bit_is : (b : Bool) → bool_byte b ≡ cond b 1 0
bit_is true = refl
bit_is false = refl
