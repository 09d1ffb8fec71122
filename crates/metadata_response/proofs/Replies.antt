-- The whole reply of a read, from what the measuring and the filling walk came to.
use mathlib.Core.Bool.{false, true}
use mathlib.Core.List.{List, [], ◌∷◌}
use mathlib.Core.Path.{◌∙◌, ◌≡◌, ap, refl, sym}
use Prim.Native.Nat.{◌/◌, ◌<◌, ◌≤◌, ℕ}
use lib.IntN.{pos, ℤ}
use lib.ListN.{length}
use Rattle.std.specs.Prelude.{Result, Ok, Err, Some, None, IsErr, IsErrAnd, Option as Maybe}
use Rattle.layout.specs.Reading.{Refusal, Res, bad, no_room, ok}
use Rattle.layout.specs.Rows.{Shape, at, standing, stands}
use Rattle.layout.specs.Tables.{Tables, all, arrays, from, kind_in, kind_of, row_width, width}
use Rattle.layout.specs.Answers.{accepted, prefix_read, refused, seen, shape, widths}
use Rattle.layout.specs.Messages.Metadata as Meta
use Rattle.layout.proofs.Local.{not_ok}
use Rattle.layout.proofs.Proper.{metadata_response_lem}
use Rattle.primitives.specs.Answers.{Read, of_refusal, version_of}
use Rattle.primitives.proofs.Up.{is_err_of}
use Rattle.primitives.specs.declared.Refusal as Code
use Rattle.body_reading.specs.Meter.{lengths, metered, short}
use Rattle.body_reading.specs.Store.{State, own, tab}
use Rattle.body_reading.specs.Walk.{on, walk}
use Rattle.body_reading.proofs.Bound.{lean, slim, taken}
use Rattle.body_reading.proofs.Close.{slices, tabs}
use Rattle.body_reading.proofs.Metered.{is_known, measured_no, measured_took, metered_fits, metered_no, metered_short}
use Rattle.body_reading.proofs.Reply.{cells_here, cells_next, short_here, short_next, short_none, up_to_four}
use Rattle.metadata_response.specs.Brokers.{broker_shape}
use Rattle.metadata_response.specs.TopicShapes.{node_shape, partition_shape, topic_shape}
use Rattle.metadata_response.specs.declared.marks.Marks.{Marks}
use Rattle.metadata_response.specs.Answers.{of_measure, of_response, of_response_reply, of_room, sizes}
use Rattle.metadata_response.specs.Shapes.{body_shape, tail_shape}
use Rattle.metadata_response.specs.Walks.{of_walked}
use Rattle.metadata_response.specs.declared.ResponseBody.{ResponseBody}
use Rattle.metadata_response.specs.declared.body.Walked.{Walked}

-- ---- what the laws of all messages ask of this one, computed

is_slim : slim Meta.response ≡ true
unfolding slim all from lean taken row_width width shape at stands standing Meta.node_rows Meta.partition_rows Meta.topic_rows Meta.broker_rows Meta.response_rows
is_slim = refl

row_widths : widths Meta.response ≡ 7 ∷ 5 ∷ 5 ∷ 1 ∷ 1 ∷ []
unfolding widths from kind_of kind_in arrays row_width width shape at stands standing Meta.node_rows Meta.partition_rows Meta.topic_rows Meta.broker_rows Meta.response_rows
row_widths = refl

-- the layout of a version, by what sets it apart
pub shape_is : (v : ℕ) → v ≤ 4 → shape Meta.response v ≡ body_shape v
unfolding shape at stands standing Meta.node_rows Meta.partition_rows Meta.topic_rows Meta.broker_rows Meta.response_rows body_shape tail_shape broker_shape topic_shape partition_shape node_shape
shape_is = up_to_four (λ v. shape Meta.response v ≡ body_shape v) refl refl refl refl refl

-- ---- room, in table order

module _ (k : ℕ) (m : Marks) (b t p r i : ℕ) where
  abbrev Lacks : Maybe ℕ → Type 0
  Lacks o = of_room o ≡ short (widths Meta.response) (sizes k m) (b ∷ t ∷ p ∷ r ∷ i ∷ [])

  pub short_brokers : b / 7 < k / 7 → Lacks (Some (k / 7))
  short_brokers h = simp (row_widths, short_here)

  module _ (f : k / 7 ≤ b / 7) where
    pub short_topics : t / 5 < m.topics / 5 → Lacks (Some (m.topics / 5))
    short_topics h = simp (row_widths, short_next, short_here)

    module _ (g : m.topics / 5 ≤ t / 5) where
      pub short_partitions : p / 5 < m.partitions / 5 → Lacks (Some (m.partitions / 5))
      short_partitions h = simp (row_widths, short_next, short_here)

      module _ (h : m.partitions / 5 ≤ p / 5) where
        pub short_replicas : r < m.replicas → Lacks (Some m.replicas)
        short_replicas j = simp (row_widths, short_next, cells_here)

        module _ (j : m.replicas ≤ r) where
          pub short_synced : i < m.synced → Lacks (Some m.synced)
          short_synced l = simp (row_widths, short_next, cells_next, cells_here)

          pub short_nowhere : m.synced ≤ i → Lacks None
          short_nowhere l = simp (row_widths, short_next, cells_next, short_none)

-- ---- the measure

module _ (v : ℕ) (s bs ts ps rs is : List ℕ) where
  -- the walk of code over these tables
  abbrev walked : Res State
  walked = on (walk false (body_shape v) 0 (own [] ∷ tab bs 0 ∷ tab ts 0 ∷ tab ps 0 ∷ tab rs 0 ∷ tab is 0 ∷ [])) s 0

  as_shape : v ≤ 4 → walked ≡ on (walk false (shape Meta.response v) 0 (own [] ∷ tabs (bs ∷ ts ∷ ps ∷ rs ∷ is ∷ []) [])) s 0
  as_shape h = ap (λ (l : Shape). on (walk false l 0 (own [] ∷ tab bs 0 ∷ tab ts 0 ∷ tab ps 0 ∷ tab rs 0 ∷ tab is 0 ∷ [])) s 0) (sym (shape_is v h))

  pub measured : v ≤ 4 → length s ≤ 1048576 → (bs' ts' ps' rs' is' : List ℕ) (r : Result Walked Code.Refusal) → of_walked bs' ts' ps' rs' is' r ≡ walked → of_measure r ≡ metered (seen false Meta.response (pos v) s)
  measured h size bs' ts' ps' rs' is' (Ok w) e =
      measured_took Meta.response metadata_response_lem is_slim v h s size (bs ∷ ts ∷ ps ∷ rs ∷ is ∷ []) refl (of_response w.body) (tab bs' w.brokers ∷ tab ts' w.marks.topics ∷ tab ps' w.marks.partitions ∷ tab rs' w.marks.replicas ∷ tab is' w.marks.synced ∷ []) w.next (e ∙ as_shape h)
  measured h size bs' ts' ps' rs' is' (Err c) e =
      measured_no Meta.response metadata_response_lem is_slim v h s size (bs ∷ ts ∷ ps ∷ rs ∷ is ∷ []) refl (of_refusal c) (e ∙ as_shape h)

-- ---- the reply

module _ (z : ℤ) (s bs ts ps rs is : List ℕ) where
  abbrev olds : Tables
  olds = bs ∷ ts ∷ ps ∷ rs ∷ is ∷ []

  pub reply_no : (r : Read ResponseBody) (c : Code.Refusal) → IsErr r × IsErrAnd r (λ d. d ≡ c) → bad (of_refusal c) ≡ metered (seen false Meta.response z s) → (of_response_reply r, olds) ≡ prefix_read Meta.response z olds s
  unfolding prefix_read
  reply_no r c e h = ap (λ (x : Read ResponseBody). (of_response_reply x, olds)) (is_err_of r c e) ∙ metered_no Meta.response metadata_response_lem is_slim z s (of_refusal c) h olds

  module _ (x : ResponseBody) (n b : ℕ) (m : Marks) (is_metered : ok (of_response x, sizes b m) n ≡ metered (seen false Meta.response z s)) (v : ℕ) (e : v ≡ version_of z) (o : Maybe ℕ) (g : of_room o ≡ short (widths Meta.response) (sizes b m) (lengths olds)) where
    number_of : (k : ℕ) → z ≡ pos k → v ≡ k
    number_of k i = e ∙ ap version_of i

    pub reply_short : (k : ℕ) → o ≡ Some k → (c : Refusal) → c ≡ no_room k → (refused c, olds) ≡ prefix_read Meta.response z olds s
    unfolding prefix_read
    reply_short k i c j = metered_short Meta.response metadata_response_lem is_slim z s (of_response x) (sizes b m) n is_metered olds refl v number_of k (sym g ∙ ap of_room i) c j

    pub reply_took : o ≡ None → (bs' ts' ps' rs' is' : List ℕ) (w : Result Walked Code.Refusal) → of_walked bs' ts' ps' rs' is' w ≡ walked v s bs ts ps rs is → (accepted (of_response x) n, bs' ∷ ts' ∷ ps' ∷ rs' ∷ is' ∷ []) ≡ prefix_read Meta.response z olds s
    unfolding prefix_read
    reply_took i bs' ts' ps' rs' is' w j =
        let k = is_known Meta.response metadata_response_lem is_slim z s (of_response x) (sizes b m) n is_metered v number_of in
        metered_fits Meta.response metadata_response_lem is_slim z s (of_response x) (sizes b m) n is_metered olds refl v number_of (sym g ∙ ap of_room i) (of_walked bs' ts' ps' rs' is' w) (j ∙ as_shape v s bs ts ps rs is k.1.0) (bs' ∷ ts' ∷ ps' ∷ rs' ∷ is' ∷ [])
        (λ y q f. holds w y q f)
      where
        holds : (w : Result Walked Code.Refusal) (y : State) (q : ℕ) → of_walked bs' ts' ps' rs' is' w ≡ ok y q → slices y ≡ bs' ∷ ts' ∷ ps' ∷ rs' ∷ is' ∷ []
        holds (Ok w) y q f = let u : own (of_response w.body) ∷ tab bs' w.brokers ∷ tab ts' w.marks.topics ∷ tab ps' w.marks.partitions ∷ tab rs' w.marks.replicas ∷ tab is' w.marks.synced ∷ [] ≡ y = cc in ap slices (sym u)
        holds (Err c) y q f = not_ok f
