-- Own rows: of a request as it is lent, and of a response as its fields show it.
use mathlib.Core.List.{List, [], ◌++◌, ◌∷◌}
use mathlib.Core.Path.{◌∙◌, ◌≡◌, ap, refl, sym}
use Prim.Native.Nat.{ℕ, suc, zero}
use lib.IntN.{ℤ}
use lib.ListN.{get_or}
use mir.Facts.{to_z-of_z}
use mir.Syntax.{w64}
use mir.Val.{SFits, of_z, to_z}
use Rattle.layout.specs.Answers.{accepted, refused}
use Rattle.layout.specs.Lookup.{Host, lookup}
use Rattle.layout.specs.Reading.{Refusal}
use Rattle.primitives.specs.declared.Field.{Field}
use Rattle.body_reading.specs.Cells.{field_cells, given, versioned_cells}
use Rattle.std.specs.Prelude.{Bool, cond, Option, Some, None}
use Rattle.primitives.specs.Answers.{is_set}
use Rattle.gateway.specs.Replies.{numbers}
use Rattle.gateway.specs.declared.Numbers.{Numbers}
use Rattle.gateway_metadata.specs.Replies.{creation_row, host_numbers, metadata_numbers}
use Rattle.gateway_metadata.specs.declared.HostNumbers.{HostNumbers}
use Rattle.gateway_metadata.specs.declared.MetadataNumbers.{MetadataNumbers}

-- ---- auto-creation as it is lent: any kind but 0 is set, any flag but 0 is true

module _ (k b : ℕ) where
  pub unset_row : k ≡ 0 → 0 ∷ 0 ∷ [] ≡ creation_row k b
  unfolding creation_row
  unset_row e = ap (λ (j : ℕ). creation_row j b) (sym e)

  pub set_row : (k ≡ 0 → ⊥) → (f : Bool) → f ≡ is_set b → 2 ∷ cond f 1 0 ∷ [] ≡ creation_row k b
  unfolding creation_row is_set
  set_row h f e = ap (λ (x : Bool). 2 ∷ cond x 1 0 ∷ []) e ∙ go k b h
    where
      go : (k b : ℕ) → (k ≡ 0 → ⊥) → 2 ∷ cond (is_set b) 1 0 ∷ [] ≡ creation_row k b
      go zero b g = absurd (g refl)
      go (suc j) zero g = refl
      go (suc j) (suc a) g = refl

-- ---- a response that was read: the cells of its fields, one behind the other

module _ (b k : ℕ) where
  abbrev shown : Numbers → ℕ → ℕ → ℕ → ℕ → ℕ → ℕ → ℕ → MetadataNumbers
  shown r a c d e g h i = record { answer = r; timed = a; throttle = c; brokers = b; clustered = d; cstart = e; clength = g; controlled = h; controller = i; topics = k }

  module _ (n : ℕ) where
    by_fields : (t : Option ℕ) (f : Field) (o : Option ℕ) →
        shown (numbers (accepted [] n)) (get_or (versioned_cells t) 0 0) (given 0 t) (get_or (field_cells f) 0 0) (get_or (field_cells f) 1 0) (get_or (field_cells f) 2 0) (get_or (versioned_cells o) 0 0) (given 0 o)
        ≡ metadata_numbers (accepted (versioned_cells t ++ (b ∷ (field_cells f ++ (versioned_cells o ++ (k ∷ []))))) n)
    by_fields None Field.Absent None = refl
    by_fields None Field.Absent (Some y) = refl
    by_fields None Field.Null None = refl
    by_fields None Field.Null (Some y) = refl
    by_fields None (Field.Present p) None = refl
    by_fields None (Field.Present p) (Some y) = refl
    by_fields (Some x) Field.Absent None = refl
    by_fields (Some x) Field.Absent (Some y) = refl
    by_fields (Some x) Field.Null None = refl
    by_fields (Some x) Field.Null (Some y) = refl
    by_fields (Some x) (Field.Present p) None = refl
    by_fields (Some x) (Field.Present p) (Some y) = refl

    module _ (t : Option ℕ) (f : Field) (o : Option ℕ) where
      pub fields_told :
          (r : Numbers) (a c d e g h i : ℕ) → r ≡ numbers (accepted [] n) → a ≡ get_or (versioned_cells t) 0 0 → c ≡ given 0 t → d ≡ get_or (field_cells f) 0 0 → e ≡ get_or (field_cells f) 1 0 → g ≡ get_or (field_cells f) 2 0 → h ≡ get_or (versioned_cells o) 0 0 → i ≡ given 0 o
          → shown r a c d e g h i ≡ metadata_numbers (accepted (versioned_cells t ++ (b ∷ (field_cells f ++ (versioned_cells o ++ (k ∷ []))))) n)
      fields_told r a c d e g h i j l m p q s u v = (λ x. shown (j x) (l x) (m x) (p x) (q x) (s x) (u x) (v x)) ∙ by_fields t f o

-- and of a refusal: none
pub none_told : (e : Refusal) (r : Numbers) → r ≡ numbers (refused e) → shown 0 0 r 0 0 0 0 0 0 0 ≡ metadata_numbers (refused e)
none_told e r h = ap (λ (x : Numbers). shown 0 0 x 0 0 0 0 0 0 0) h

-- ---- a host, at a version that passed an argument

pub host_told : (node : ℕ) (z : ℤ) → SFits w64 z → (s : List ℕ) (h : Host) → h ≡ lookup node (to_z w64 (of_z w64 z)) s → (r : HostNumbers) → r ≡ host_numbers h → r ≡ host_numbers (lookup node z s)
host_told node z g s h d r e = e ∙ ap host_numbers (d ∙ ap (λ (y : ℤ). lookup node y s) (to_z-of_z g))
