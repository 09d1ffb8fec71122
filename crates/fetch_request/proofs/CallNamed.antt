-- The name of the call's refusal, from that of the row that is walked over, at a version that is known.
use mathlib.Core.Bool.{Bool, false, true}
use mathlib.Core.List.{List, [], ◌++◌, ◌∷◌}
use mathlib.Core.Path.{◌∙◌, ◌≡◌, ap, ap₂, refl, sym}
use Prim.Native.Nat.{◌/◌, ◌<◌, ◌^◌, ◌≤◌, ℕ}
use native.Mathlib.Omega.{arith}
use lib.Dec.{leb}
use lib.IntN.{ℤ}
use lib.ListN.{get_or, length}
use Rattle.layout.specs.Answers.{meant, named_fault, none_yet, shape}
use Rattle.layout.specs.Messages.Fetch.{request}
use Rattle.layout.specs.Names.{blame, fieldless, name_fault}
use Rattle.layout.specs.Reading.{Refusal, nowhere}
use Rattle.layout.specs.Rows.{Shape, Value, stands}
use Rattle.layout.specs.Tables.{Tables, basic_of, chosen, count, good, items_of, pop, times, value_of, width}
use Rattle.body_writing.specs.Blames.{Cause, Walkable, blame_at}
use Rattle.body_writing.specs.Writes.{refusal_of, takes}
use Rattle.body_writing.proofs.Counts.{few_told}
use Rattle.primitives.specs.Answers.{version_of}
use Rattle.body_writing.proofs.NamedFaults.{called_name, cause_good}
use Rattle.body_reading.specs.Cells.{versioned_cells}
use Rattle.std.specs.Bool.{then_some}
use Rattle.std.specs.Prelude.{Option, Some, None, is_some, unwrap_or}
use Rattle.fetch_request.specs.Shapes.{request_shape, topic_shape}
use Rattle.fetch_request.proofs.Call.{is_number, is_shape, is_there}
use Rattle.fetch_request.proofs.Judgement.{good_enough, good_topics, is_good, judged}

-- good tables have as many topics as the count says, whatever the numbers before it
module _ (lent : List ℕ) (replica wait least k m k' m' c : ℕ) (topics partitions : List ℕ) (g : good (length lent) 2 (request_shape false false) ((replica ∷ wait ∷ least ∷ k ∷ m ∷ k' ∷ m' ∷ c ∷ []) ∷ topics ∷ partitions ∷ []) ≡ true) where
  good_tables : judged (length lent) c topics partitions ≡ true
  good_tables = is_good (length lent) c topics partitions 0 0 0 0 0 0 0 ∙ sym (is_good (length lent) c topics partitions replica wait least k m k' m') ∙ g

  rows_same : length topics < 2 ^ 64 → count c ≡ count (length topics / 3)
  rows_same s = good_topics (length lent) c topics partitions good_tables ∙ sym (few_told (length topics / 3) (omega arith))

-- after a refusal of topics and partitions the walk to its field has the partitions that it takes
pub request_walkable : (lent : List ℕ) (replica wait least largest level c : ℕ) (topics partitions : List ℕ) (b i : Bool) (n : ℕ) →
    Cause n (refusal_of lent 2 (request_shape false false) (request_shape b i) ((replica ∷ wait ∷ least ∷ 2 ∷ largest ∷ 2 ∷ level ∷ c ∷ []) ∷ topics ∷ partitions ∷ [])) → Walkable n 3 (takes 3 2) topics partitions
request_walkable lent replica wait least largest level c topics partitions b i n t = record {
  some = t.some;
  enough = λ g.
      good_enough (length lent) c topics partitions
      (good_tables lent replica wait least 2 largest 2 level c topics partitions (cause_good lent 2 (request_shape false false) (request_shape b i) ((replica ∷ wait ∷ least ∷ 2 ∷ largest ∷ 2 ∷ level ∷ c ∷ []) ∷ topics ∷ partitions ∷ []) n t g));
}

-- a row with numbers unset means what a row with the given ones means, where the version has them; of a count only the number of rows matters
module _ (lent : List ℕ) (replica wait least k m k' m' largest level : ℕ) (topics partitions : List ℕ) where
  abbrev row : ℕ → ℕ → ℕ → ℕ → ℕ → Tables
  row a b d e n = (replica ∷ wait ∷ least ∷ a ∷ b ∷ d ∷ e ∷ n ∷ []) ∷ topics ∷ partitions ∷ []

  abbrev items : ℕ → List (Value (List ℕ) topic_shape)
  items n = (times n (value_of lent topic_shape 1) ([] ∷ topics ∷ partitions ∷ [])).0

  meant_same : (b i : Bool) → (b ≡ true → get_or (chosen (2147483647 ∷ []) (k ∷ m ∷ [])) 0 0 ≡ largest) → (i ≡ true → get_or (chosen (0 ∷ []) (k' ∷ m' ∷ [])) 0 0 ≡ level) → (c n : ℕ) → count c ≡ count n →
      (value_of lent (request_shape b i) 0 (row k m k' m' c)).0 ≡ (value_of lent (request_shape b i) 0 (row 2 largest 2 level n)).0
  unfolding stands value_of pop width basic_of chosen items_of
  meant_same true true e f c n q = λ t. (replica, (wait, (least, (e refl t, (f refl t, (items (q t), tt))))))
  meant_same true false e f c n q = λ t. (replica, (wait, (least, (e refl t, (items (q t), tt)))))
  meant_same false true e f c n q = λ t. (replica, (wait, (least, (f refl t, (items (q t), tt)))))
  meant_same false false e f c n q = λ t. (replica, (wait, (least, (items (q t), tt))))

-- the two cells of a number that may be unset, and the number that they mean
record Meaning (d : ℕ) (x : Option ℕ) : Type 0 where
  kind : ℕ
  cell : ℕ
  cells : versioned_cells x ≡ kind ∷ cell ∷ []
  means : get_or (chosen (d ∷ []) (kind ∷ cell ∷ [])) 0 0 ≡ unwrap_or x d

meaning : (d : ℕ) (x : Option ℕ) → Meaning d x
unfolding chosen
meaning d None = record { kind = 0; cell = 0; cells = refl; means = refl }
meaning d (Some k) = record { kind = 2; cell = k; cells = refl; means = refl }

module _ (lent : List ℕ) (replica wait least c : ℕ) (topics partitions : List ℕ) (s : length topics < 2 ^ 64) (v : ℕ) (h : v ≤ 4) where
  abbrev rows : ℕ → ℕ → ℕ → Tables
  rows largest level n = (replica ∷ wait ∷ least ∷ 2 ∷ largest ∷ 2 ∷ level ∷ n ∷ []) ∷ topics ∷ partitions ∷ []

  module _ (x y : Option ℕ) (z : ℤ) (i : v ≡ version_of z) (largest : Option ℕ) (e : largest ≡ then_some (leb 3 v) (unwrap_or x 2147483647)) (level : Option ℕ) (f : level ≡ then_some (leb 4 v) (unwrap_or y 0)) where
    abbrev l : Shape
    l = request_shape (is_some largest) (is_some level)

    is_l : shape request v ≡ l
    is_l = is_shape v h ∙ sym (ap₂ request_shape (is_there (leb 3 v) (unwrap_or x 2147483647) largest e) (is_there (leb 4 v) (unwrap_or y 0) level f))

    abbrev own : List ℕ
    own = replica ∷ wait ∷ least ∷ (versioned_cells x ++ (versioned_cells y ++ (c ∷ [])))

    abbrev p : Meaning 2147483647 x
    p = meaning 2147483647 x

    abbrev q : Meaning 0 y
    q = meaning 0 y

    own_cells : own ≡ replica ∷ wait ∷ least ∷ p.kind ∷ p.cell ∷ q.kind ∷ q.cell ∷ c ∷ []
    own_cells = ap₂ (λ (a b : List ℕ). replica ∷ wait ∷ least ∷ (a ++ (b ++ (c ∷ [])))) p.cells q.cells

    largest_means : is_some largest ≡ true → get_or (chosen (2147483647 ∷ []) (p.kind ∷ p.cell ∷ [])) 0 0 ≡ unwrap_or largest 0
    largest_means t = p.means ∙ is_number (leb 3 v) (unwrap_or x 2147483647) largest e (sym (is_there (leb 3 v) (unwrap_or x 2147483647) largest e) ∙ t)

    level_means : is_some level ≡ true → get_or (chosen (0 ∷ []) (q.kind ∷ q.cell ∷ [])) 0 0 ≡ unwrap_or level 0
    level_means t = q.means ∙ is_number (leb 4 v) (unwrap_or y 0) level f (sym (is_there (leb 4 v) (unwrap_or y 0) level f) ∙ t)

    -- the name of a refusal
    module _ (o : Refusal) (t : Cause o.number (refusal_of lent 2 (request_shape false false) l (rows (unwrap_or largest 0) (unwrap_or level 0) c))) where
      good_cause : fieldless o.number ≡ false → good (length lent) 2 (request_shape false false) (rows (unwrap_or largest 0) (unwrap_or level 0) c) ≡ true
      good_cause = cause_good lent 2 (request_shape false false) l (rows (unwrap_or largest 0) (unwrap_or level 0) c) o.number t

      pub request_named : (r : Refusal) → r ≡ name_fault 5 l none_yet (meant lent (rows (unwrap_or largest 0) (unwrap_or level 0) (length topics / 3)) l) o → r ≡ named_fault request z lent (own ∷ topics ∷ partitions ∷ []) o
      unfolding blame_at meant
      request_named r w =
          called_name request z v i h (omega arith) lent (own ∷ topics ∷ partitions ∷ []) o l (meant lent (rows (unwrap_or largest 0) (unwrap_or level 0) (length topics / 3)) l) r w
          (λ g.
          ap (blame o.number l nowhere 0 none_yet)
          (sym (meant_same lent replica wait least p.kind p.cell q.kind q.cell (unwrap_or largest 0) (unwrap_or level 0) topics partitions (is_some largest) (is_some level) largest_means level_means c (length topics / 3)
          (rows_same lent replica wait least 2 (unwrap_or largest 0) 2 (unwrap_or level 0) c topics partitions (good_cause g) s)))
          ∙ ap₂ (λ (a : Shape) (cs : List ℕ). blame_at lent o.number a 0 (cs ∷ topics ∷ partitions ∷ []) nowhere 0 none_yet) (sym is_l) (sym own_cells))
