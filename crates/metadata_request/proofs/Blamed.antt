-- The walk over the names finds the field that the definition blames in a whole request; and the name that a call gives of its own row, from that of the row that is walked over.
use mathlib.Core.Bool.{Bool, false, true}
use mathlib.Core.List.{List, [], ◌∷◌}
use mathlib.Core.Logic.{◌≢◌}
use mathlib.Core.Path.{◌∙◌, ◌≡◌, ap, refl, sym}
use Prim.Native.Nat.{◌/◌, ◌<◌, ◌^◌, ◌≤◌, ℕ}
use native.Mathlib.Omega.{arith}
use lib.Dec.{leb, lit<}
use lib.IntN.{ℤ}
use lib.ListN.{length}
use Rattle.layout.specs.Answers.{meant, named_fault, none_yet}
use Rattle.layout.specs.Messages.Metadata.{request}
use Rattle.layout.specs.Names.{blame, blame_each, name_fault, past}
use Rattle.layout.specs.Primitives.{fixed, kept, w32}
use Rattle.layout.specs.Reading.{Refusal, nowhere}
use Rattle.layout.specs.Rows.{end}
use Rattle.layout.specs.Tables.{Tables, chunks, count, row_width, rows_of, width}
use Rattle.layout.specs.Write.{basic_fault, too_long}
use Rattle.primitives.specs.Answers.{version_of}
use Rattle.body_writing.specs.Blames.{Cause, blame_at, items_blame, row_blame, rows_blame}
use Rattle.body_writing.proofs.Blaming.{array_blame, else_past, else_same, field_next, items_blame_lem}
use Rattle.body_writing.proofs.Counts.{few_told}
use Rattle.body_writing.proofs.NamedFaults.{called_name, cause_good}
use Rattle.metadata_request.specs.Answers.{of_creation}
use Rattle.metadata_request.specs.Shapes.{creation_field, creation_shape, name_shape, request_shape}
use Rattle.std.specs.Prelude.{Option}
use Rattle.metadata_request.proofs.Request.{good_rows, is_shape, refusal}

module _ (lent : List ℕ) (e : ℕ) (some : e ≢ 0) where
  -- auto-creation has no fault
  creation_past : (f : Bool) (st : Tables) (row g : ℕ) (c : List ℕ) → blame_at lent e (creation_shape f) 0 st row g c ≡ past c
  unfolding basic_fault blame_at blame
  creation_past true st row g c = field_next lent e row g c 0 st creation_field end 0 refl (λ d. some (sym d))
  creation_past false st row g c = refl

  -- nor has the number of names
  request_blame : (f : Bool) (c : ℕ) (cs topics k : List ℕ) → count c ≡ length topics / 2 → blame_at lent e (request_shape f) 0 ((c ∷ cs) ∷ topics ∷ []) nowhere 0 k ≡ rows_blame lent e name_shape 2 1 topics k
  unfolding rows_blame rows_of too_long row_width width
  request_blame f c cs topics k n =
      array_blame lent e nowhere 0 k 0 ((c ∷ cs) ∷ topics ∷ []) (fixed w32 kept) 1 name_shape (creation_shape f) (λ d. some (sym d))
      ∙ else_same (items_blame lent e name_shape (count c) 1 (cs ∷ topics ∷ []) k) _ past (λ d. creation_past f _ nowhere 1 d)
      ∙ else_past _
      ∙ items_blame_lem lent e name_shape tt 2 refl (count c) 1 (cs ∷ topics ∷ []) (lit< tt) k
      ∙ ap (λ (j : ℕ). blame_each (λ j d r. row_blame lent e name_shape j 0 d r) 1 (chunks j 2 topics) k) n

  module _ (topics : List ℕ) (s : length topics < 2 ^ 64) where
    -- the row that is walked over
    pub names_blame : (k : List ℕ) → rows_blame lent e name_shape 2 1 topics k ≡ blame e (request_shape false) nowhere 0 k (meant lent ((length topics / 2 ∷ 2 ∷ 1 ∷ []) ∷ topics ∷ []) (request_shape false))
    unfolding meant blame_at
    names_blame k = sym (request_blame false (length topics / 2) (2 ∷ 1 ∷ []) topics k (few_told (length topics / 2) (omega arith)))

-- the name that the call gives, whatever its row says of auto-creation
pub request_named : (lent : List ℕ) (c : ℕ) (topics : List ℕ) → length topics < 2 ^ 64 → (v : ℕ) → v ≤ 4 → (q : Option Bool) (z : ℤ) → v ≡ version_of z → (e : Refusal) → Cause e.number (refusal lent c topics) → (r : Refusal) →
    r ≡ name_fault 3 (request_shape false) none_yet (meant lent ((length topics / 2 ∷ 2 ∷ 1 ∷ []) ∷ topics ∷ []) (request_shape false)) e → r ≡ named_fault request z lent ((c ∷ of_creation q) ∷ topics ∷ []) e
request_named lent c topics s v h q z i e t r w =
    called_name request z v i h (omega arith) lent ((c ∷ of_creation q) ∷ topics ∷ []) e (request_shape false) (meant lent ((length topics / 2 ∷ 2 ∷ 1 ∷ []) ∷ topics ∷ []) (request_shape false)) r w
    (λ f.
    sym (names_blame lent e.number t.some topics s none_yet)
    ∙ sym (request_blame lent e.number t.some (leb 4 v) c (of_creation q) topics none_yet (good_rows (length lent) c topics (cause_good lent 1 (request_shape false) (request_shape false) ((c ∷ 2 ∷ 1 ∷ []) ∷ topics ∷ []) e.number t f)))
    ∙ ap (λ l. blame_at lent e.number l 0 ((c ∷ of_creation q) ∷ topics ∷ []) nowhere 0 none_yet) (sym (is_shape v h)))
