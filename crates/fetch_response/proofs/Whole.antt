-- The front of a body and its topics: each way out of the walk over them.
use mathlib.Core.Bool.{false}
use mathlib.Core.List.{List, [], ◌++◌, ◌∷◌}
use mathlib.Core.Path.{◌≡◌}
use Prim.Native.Nat.{ℕ}
use lib.Dec.{leb}
use Rattle.layout.specs.Reading.{Res, bad, loop}
use Rattle.layout.specs.Rows.{end}
use Rattle.primitives.specs.Answers.{of_refusal}
use Rattle.primitives.specs.declared.Refusal as Code
use Rattle.body_reading.specs.Store.{State, Tab, own, tab}
use Rattle.body_reading.specs.Walk.{Runs, on, walk}
use Rattle.body_reading.proofs.Arrays.{row_end}
use Rattle.body_reading.specs.Cells.{versioned_cells}
use Rattle.body_reading.specs.Fronts.{front_of, of_front}
use Rattle.body_reading.specs.declared.versioned.Front.{Front}
use Rattle.body_reading.proofs.Fronts.{body_no_front, body_no_items, body_took_items}
use Rattle.fetch_response.specs.TopicShapes.{topic_shape}
use Rattle.fetch_response.specs.TopicWalks.{in_topics, no_marks, topics_is}
use Rattle.fetch_response.specs.declared.marks.Marked.{Marked}
use Rattle.fetch_response.specs.Shapes.{body_shape}
use Rattle.fetch_response.specs.Walks.{of_walked}
use Rattle.std.specs.Prelude.{Ok, Err}

module _ (s : List ℕ) (v : ℕ) (ts ps xs : List ℕ) where
  abbrev lent : State
  lent = tab ts 0 ∷ tab ps 0 ∷ tab xs 0 ∷ []

  abbrev body : Res State
  body = on (walk false (body_shape v) 0 (own [] ∷ lent)) s 0

  pub no_front : (c : Code.Refusal) → of_front (Err c) ≡ on (front_of (leb 1 v)) s 0 → bad (of_refusal c) ≡ body
  unfolding body_shape
  no_front c h = body_no_front (leb 1 v) s 1 (topic_shape (leb 4 v)) end lent (of_refusal c) h

  module _ (x : Front) (h : of_front (Ok x) ≡ on (front_of (leb 1 v)) s 0) where
    -- the own row, which the topics' walk leaves alone
    abbrev row : Tab
    row = own (versioned_cells x.throttle ++ (x.count ∷ []))

    pub no_topics : (c : Code.Refusal) → Runs (λ e. loop x.count (walk false (topic_shape (leb 4 v)) 1)) s x.next (in_topics ts ps xs no_marks) (λ e. bad (of_refusal c)) → bad (of_refusal c) ≡ body
    unfolding body_shape
    no_topics c l = body_no_items (leb 1 v) s 1 (topic_shape (leb 4 v)) end lent (versioned_cells x.throttle) x.count x.next h (of_refusal c) (l.law row)

    pub body_took : (ts' ps' xs' : List ℕ) (t : Marked) → Runs (λ e. loop x.count (walk false (topic_shape (leb 4 v)) 1)) s x.next (in_topics ts ps xs no_marks) (topics_is ts' ps' xs' (Ok t)) →
        of_walked ts' ps' xs' (Ok (record { body = record { throttle = x.throttle; topics = x.count }; next = t.next; marks = t.marks })) ≡ body
    unfolding body_shape
    body_took ts' ps' xs' t l = body_took_items (leb 1 v) s 1 (topic_shape (leb 4 v)) end lent (versioned_cells x.throttle) x.count x.next h (in_topics ts' ps' xs' t.marks row) t.next _ (l.law row) (row_end false 0 _ s t.next)
