-- The whole reply of a read, from what the measuring and the filling walk came to.
use mathlib.Core.Bool.{false, true}
use mathlib.Core.List.{List, [], ◌∷◌}
use mathlib.Core.Path.{◌∙◌, ◌≡◌, ap, refl, sym}
use Prim.Native.Nat.{◌/◌, ◌<◌, ◌≤◌, ℕ}
use lib.IntN.{pos, ℤ}
use lib.ListN.{length}
use Rattle.layout.specs.Reading.{Refusal, Res, no_room, ok}
use Rattle.layout.specs.Rows.{Shape, at, standing, stands}
use Rattle.layout.specs.Tables.{Tables, all, arrays, from, kind_in, kind_of, row_width, width}
use Rattle.layout.specs.Answers.{accepted, prefix_read, refused, seen, shape, widths}
use Rattle.layout.specs.Messages.Fetch as Fetch
use Rattle.layout.proofs.Local.{not_ok}
use Rattle.layout.proofs.Proper.{fetch_response_lem}
use Rattle.primitives.proofs.Up.{up}
use Rattle.primitives.specs.Answers.{Read, of_refusal, version_of}
use Rattle.primitives.specs.declared.Refusal as Code
use Rattle.body_reading.specs.Meter.{lengths, metered, short}
use Rattle.body_reading.specs.Store.{State, own, tab}
use Rattle.body_reading.specs.Walk.{on, walk}
use Rattle.body_reading.proofs.Bound.{lean, slim, taken}
use Rattle.body_reading.proofs.Close.{slices, tabs}
use Rattle.body_reading.proofs.Metered.{is_known, measured_no, measured_took, metered_fits, metered_no, metered_short}
use Rattle.body_reading.proofs.Reply.{short_here, short_next, short_none, up_to_four}
use Rattle.fetch_response.specs.TopicShapes.{aborted_shape, partition_shape, topic_shape}
use Rattle.fetch_response.specs.declared.marks.Marks.{Marks}
use Rattle.fetch_response.specs.Answers.{of_measure, of_response, of_response_reply, of_room, sizes}
use Rattle.fetch_response.specs.Shapes.{body_shape}
use Rattle.fetch_response.specs.Walks.{of_walked}
use Rattle.fetch_response.specs.declared.ResponseBody.{ResponseBody}
use Rattle.fetch_response.specs.declared.body.Walked.{Walked}
use Rattle.std.specs.Prelude.{Result, Ok, Err, IsErr, IsErrAnd, Some, None, Option as Maybe}

-- ---- what the laws of all messages ask of this one, computed

is_slim : slim Fetch.response ≡ true
unfolding slim all from lean taken row_width width shape at stands standing Fetch.aborted_rows Fetch.partition_rows Fetch.topic_rows Fetch.response_rows
is_slim = refl

row_widths : widths Fetch.response ≡ 3 ∷ 7 ∷ 2 ∷ []
unfolding widths from kind_of kind_in arrays row_width width shape at stands standing Fetch.aborted_rows Fetch.partition_rows Fetch.topic_rows Fetch.response_rows
row_widths = refl

-- the layout of a version, by what sets it apart
pub shape_is : (v : ℕ) → v ≤ 4 → shape Fetch.response v ≡ body_shape v
unfolding shape at stands standing Fetch.aborted_rows Fetch.partition_rows Fetch.topic_rows Fetch.response_rows body_shape topic_shape partition_shape aborted_shape
shape_is = up_to_four (λ v. shape Fetch.response v ≡ body_shape v) refl refl refl refl refl

-- ---- room, in table order

module _ (m : Marks) (t p a : ℕ) where
  abbrev Lacks : Maybe ℕ → Type 0
  Lacks o = of_room o ≡ short (widths Fetch.response) (sizes m) (t ∷ p ∷ a ∷ [])

  pub short_topics : t / 3 < m.topics / 3 → Lacks (Some (m.topics / 3))
  short_topics h = simp (row_widths, short_here)

  module _ (f : m.topics / 3 ≤ t / 3) where
    pub short_partitions : p / 7 < m.partitions / 7 → Lacks (Some (m.partitions / 7))
    short_partitions h = simp (row_widths, short_next, short_here)

    module _ (g : m.partitions / 7 ≤ p / 7) where
      pub short_aborted : a / 2 < m.aborted / 2 → Lacks (Some (m.aborted / 2))
      short_aborted h = simp (row_widths, short_next, short_here)

      pub short_nowhere : m.aborted / 2 ≤ a / 2 → Lacks None
      short_nowhere h = simp (row_widths, short_next, short_none)

-- ---- the measure

module _ (v : ℕ) (s ts ps xs : List ℕ) where
  -- the walk of code over these tables
  abbrev walked : Res State
  walked = on (walk false (body_shape v) 0 (own [] ∷ tab ts 0 ∷ tab ps 0 ∷ tab xs 0 ∷ [])) s 0

  as_shape : v ≤ 4 → walked ≡ on (walk false (shape Fetch.response v) 0 (own [] ∷ tabs (ts ∷ ps ∷ xs ∷ []) [])) s 0
  as_shape h = ap (λ (l : Shape). on (walk false l 0 (own [] ∷ tab ts 0 ∷ tab ps 0 ∷ tab xs 0 ∷ [])) s 0) (sym (shape_is v h))

  pub measured : v ≤ 4 → length s ≤ 1048576 → (ts' ps' xs' : List ℕ) (r : Result Walked Code.Refusal) → of_walked ts' ps' xs' r ≡ walked → of_measure r ≡ metered (seen false Fetch.response (pos v) s)
  measured h size ts' ps' xs' (Ok w) e =
      measured_took Fetch.response fetch_response_lem is_slim v h s size (ts ∷ ps ∷ xs ∷ []) refl (of_response w.body) (tab ts' w.marks.topics ∷ tab ps' w.marks.partitions ∷ tab xs' w.marks.aborted ∷ []) w.next (e ∙ as_shape h)
  measured h size ts' ps' xs' (Err c) e =
      measured_no Fetch.response fetch_response_lem is_slim v h s size (ts ∷ ps ∷ xs ∷ []) refl (of_refusal c) (e ∙ as_shape h)

-- ---- the reply

module _ (z : ℤ) (s ts ps xs : List ℕ) where
  abbrev olds : Tables
  olds = ts ∷ ps ∷ xs ∷ []

  pub reply_no : (c : Code.Refusal) → of_measure (Err c) ≡ metered (seen false Fetch.response z s) → (y : Read ResponseBody) → IsErr y × IsErrAnd y (λ d. d ≡ c) → (of_response_reply y, olds) ≡ prefix_read Fetch.response z olds s
  unfolding prefix_read
  reply_no c h y k = up (λ (x : Read ResponseBody). (of_response_reply x, olds)) y c k ∙ metered_no Fetch.response fetch_response_lem is_slim z s (of_refusal c) h olds

  module _ (x : Walked) (h : of_measure (Ok x) ≡ metered (seen false Fetch.response z s)) (v : ℕ) (e : v ≡ version_of z) (o : Maybe ℕ) (g : of_room o ≡ short (widths Fetch.response) (sizes x.marks) (lengths olds)) where
    number_of : (k : ℕ) → z ≡ pos k → v ≡ k
    number_of k i = e ∙ ap version_of i

    pub reply_short : (k : ℕ) → o ≡ Some k → (c : Refusal) → c ≡ no_room k → (refused c, olds) ≡ prefix_read Fetch.response z olds s
    unfolding prefix_read
    reply_short k i c j = metered_short Fetch.response fetch_response_lem is_slim z s (of_response x.body) (sizes x.marks) x.next h olds refl v number_of k (sym g ∙ ap of_room i) c j

    pub reply_took : o ≡ None → (ts' ps' xs' : List ℕ) (w : Result Walked Code.Refusal) → of_walked ts' ps' xs' w ≡ walked v s ts ps xs → (accepted (of_response x.body) x.next, ts' ∷ ps' ∷ xs' ∷ []) ≡ prefix_read Fetch.response z olds s
    unfolding prefix_read
    reply_took i ts' ps' xs' w j =
        let k = is_known Fetch.response fetch_response_lem is_slim z s (of_response x.body) (sizes x.marks) x.next h v number_of in
        metered_fits Fetch.response fetch_response_lem is_slim z s (of_response x.body) (sizes x.marks) x.next h olds refl v number_of (sym g ∙ ap of_room i) (of_walked ts' ps' xs' w) (j ∙ as_shape v s ts ps xs k.1.0) (ts' ∷ ps' ∷ xs' ∷ [])
        (λ y q f. holds w y q f)
      where
        holds : (w : Result Walked Code.Refusal) (y : State) (q : ℕ) → of_walked ts' ps' xs' w ≡ ok y q → slices y ≡ ts' ∷ ps' ∷ xs' ∷ []
        holds (Ok r) y q f = let u : own (of_response r.body) ∷ tab ts' r.marks.topics ∷ tab ps' r.marks.partitions ∷ tab xs' r.marks.aborted ∷ [] ≡ y = cc in ap slices (sym u)
        holds (Err c) y q f = not_ok f
