-- The name of a refused write of a request: its texts decide it, one after the other, since tags have no fault.
use mathlib.Core.Bool.{Bool, cond, false, true}
use mathlib.Core.List.{List, [], ◌++◌, ◌∷◌}
use mathlib.Core.Logic.{◌≢◌}
use mathlib.Core.Path.{◌∙◌, ◌≡◌, ap, refl, sym}
use Prim.Native.Nat.{◌≤◌, ℕ}
use native.Mathlib.Omega.{arith}
use lib.Dec.{eqb, leb}
use lib.IntN.{ℤ}
use borrow.Author.Tests.{eq-eqb, ne_eqb}
use Rattle.std.specs.Prelude.{None, Some}
use Rattle.layout.specs.Answers.{meant, named_fault, none_yet}
use Rattle.layout.specs.Messages.ApiVersions.{request}
use Rattle.layout.specs.Names.{Sought, blame, name_fault, past, there}
use Rattle.layout.specs.Reading.{Refusal, nowhere}
use Rattle.layout.specs.Rows.{Shape, end}
use Rattle.layout.specs.Tables.{pop, value_of, width}
use Rattle.layout.specs.Utf8.{utf8}
use Rattle.layout.specs.Write.{basic_fault, or, sized_fault, too_long, unless}
use Rattle.primitives.specs.Answers.{version_of}
use Rattle.primitives.proofs.Versions.{known}
use Rattle.body_writing.specs.Blames.{blame_at, row_blame}
use Rattle.body_writing.proofs.Counts.{Cells}
use Rattle.tagged_fields.proofs.Blamed.{front_named}
use Rattle.api_versions_request.specs.Answers.{Text, of_text}
use Rattle.api_versions_request.specs.Shapes.{request_shape, texts_if, texts_shape}
use Rattle.api_versions_request.proofs.Request.{is_shape, text_of, texts_value}

-- ---- the texts in their order

module _ (lent : List ℕ) (n : ℕ) (f : Bool) (name version : Text) where
  abbrev sought : Sought
  sought = row_blame lent n (texts_if f) nowhere 0 none_yet (of_text name ++ of_text version)

  pub texts_lacking : f ≡ false → past none_yet ≡ sought
  unfolding row_blame blame_at blame
  texts_lacking h = sym (ap (λ (g : Bool). row_blame lent n (texts_if g) nowhere 0 none_yet (of_text name ++ of_text version)) h)

  in_order : f ≡ true → sought ≡ cond (eqb (unless (utf8 (text_of lent name)) 7) n) (there nowhere 0) (cond (eqb (unless (utf8 (text_of lent version)) 7) n) (there nowhere 1) (past none_yet))
  unfolding row_blame blame_at blame basic_fault sized_fault too_long unless or value_of pop width
  in_order h = ap (λ (g : Bool). row_blame lent n (texts_if g) nowhere 0 none_yet (of_text name ++ of_text version)) h ∙ go name version
    where
      go : (x y : Text) → row_blame lent n (texts_if true) nowhere 0 none_yet (of_text x ++ of_text y) ≡ cond (eqb (unless (utf8 (text_of lent x)) 7) n) (there nowhere 0) (cond (eqb (unless (utf8 (text_of lent y)) 7) n) (there nowhere 1) (past none_yet))
      go None None = refl
      go None (Some b) = refl
      go (Some a) None = refl
      go (Some a) (Some b) = refl

  -- a and b are their faults, as code finds them
  module _ (h : f ≡ true) {x : List ℕ} (u : x ≡ text_of lent name) (a : ℕ) (i : a ≡ unless (utf8 x) 7) where
    first : a ≡ unless (utf8 (text_of lent name)) 7
    first = i ∙ ap (λ (y : List ℕ). unless (utf8 y) 7) u

    pub name_here : a ≡ n → there nowhere 0 ≡ sought
    name_here t = sym (in_order h ∙ rw (← first, eq-eqb a n t))

    module _ (t : a ≢ n) {y : List ℕ} (v : y ≡ text_of lent version) (b : ℕ) (j : b ≡ unless (utf8 y) 7) where
      second : b ≡ unless (utf8 (text_of lent version)) 7
      second = j ∙ ap (λ (z : List ℕ). unless (utf8 z) 7) v

      pub version_here : b ≡ n → there nowhere 1 ≡ sought
      version_here s = sym (in_order h ∙ rw (← first, ne_eqb a n t, ← second, eq-eqb b n s))

      pub texts_past : b ≢ n → past none_yet ≡ sought
      texts_past s = sym (in_order h ∙ rw (← first, ne_eqb a n t, ← second, ne_eqb b n s))

-- ---- with the tags, at a version as it was asked for

module _ (lent tags : List ℕ) (cells : Cells tags) (x : Refusal) (some : x.number ≢ 0) (name version : Text) (own : ℕ) where
  abbrev row : List ℕ
  row = of_text name ++ (of_text version ++ (own ∷ []))

  alone : (a b : Text) → (value_of lent (texts_shape end) 0 ((of_text a ++ of_text b) ∷ [])).0 ≡ (text_of lent a, (text_of lent b, tt))
  unfolding value_of pop width
  alone None None = refl
  alone None (Some b) = refl
  alone (Some a) None = refl
  alone (Some a) (Some b) = refl

  whole : (f : Bool) → name_fault 1 (texts_if f) none_yet (meant lent ((of_text name ++ of_text version) ∷ []) (texts_if f)) x ≡ name_fault 1 (request_shape f) none_yet (meant lent (row ∷ tags ∷ []) (request_shape f)) x
  unfolding name_fault blame meant
  whole true =
      ap (λ y. name_fault 1 (texts_shape end) none_yet y x) (alone name version ∙ sym (λ i. (texts_value lent name version own tags i).0))
      ∙ front_named lent (texts_shape end) tt true row tags cells 1 none_yet x some
  whole false = refl

  pub request_named : (v : ℕ) → v ≤ 3 → (z : ℤ) → v ≡ version_of z → (r : Refusal) → r ≡ name_fault 1 (texts_if (leb 3 v)) none_yet (meant lent ((of_text name ++ of_text version) ∷ []) (texts_if (leb 3 v))) x → r ≡ named_fault request z lent (row ∷ tags ∷ []) x
  unfolding named_fault
  request_named v h z i r e =
      e
      ∙ whole (leb 3 v)
      ∙ ap (λ (s : Shape). name_fault 1 s none_yet (meant lent (row ∷ tags ∷ []) s) x) (sym (is_shape v h))
      ∙ ap (λ (y : ℤ). named_fault request y lent (row ∷ tags ∷ []) x) (known request z v i h (omega arith))
