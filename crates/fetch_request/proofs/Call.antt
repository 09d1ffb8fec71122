-- The answer to the call, from what is promised at a version that is known.
use mathlib.Core.Bool.{Bool, ◌&&◌, cond, false, true}
use mathlib.Core.List.{List, [], ◌++◌, ◌∷◌}
use mathlib.Core.Path.{◌∙◌, ◌≡◌, ap, ap₂, refl, sym}
use Prim.Native.Nat.{◌/◌, ◌<◌, ◌^◌, ◌≤◌, ℕ}
use native.Mathlib.Omega.{arith}
use lib.Dec.{leb}
use lib.IntN.{ℤ}
use lib.ListN.{get_or, length}
use Rattle.layout.specs.Answers.{Answer, shape, write_alone, write_answer}
use Rattle.layout.specs.Messages.Fetch.{ask_rows, ask_topic_rows, request, request_rows}
use Rattle.layout.specs.Primitives.{bytes, empty, fixed, holds, length_bytes, w32}
use Rattle.layout.specs.Rows.{at, end, stands, standing}
use Rattle.layout.specs.Tables.{Tables, basic_of, chosen, count, good, pop, value_of, width}
use Rattle.layout.specs.Write.{or, unless, write, write_basic}
use Rattle.body_writing.specs.Writes.{bytes_at, items_bytes, items_fault, refusal_of, row_bytes}
use Rattle.body_reading.proofs.Reply.{up_to_four}
use Rattle.body_writing.proofs.Writes.{any_bytes}
use Rattle.primitives.specs.Answers.{version_of}
use Rattle.body_writing.proofs.Called.{called}
use Rattle.body_reading.specs.Cells.{versioned_cells}
use Rattle.std.specs.Bool.{then_some}
use Rattle.std.specs.Prelude.{Option, Some, None, is_some, unwrap_or}
use Rattle.fetch_request.specs.Shapes.{lead_shape, limits_shape, request_shape, topic_shape, topics_shape}
use Rattle.fetch_request.proofs.Judgement.{good_topics, is_fault, is_good}
use Rattle.fetch_request.proofs.Walk.{lead_bytes, limits_bytes, topics_bytes}

pub is_shape : (v : ℕ) → v ≤ 4 → shape request v ≡ request_shape (leb 3 v) (leb 4 v)
unfolding shape at stands standing request_rows ask_topic_rows ask_rows
is_shape = up_to_four (λ v. shape request v ≡ request_shape (leb 3 v) (leb 4 v)) refl refl refl refl refl

-- ---- a number that a version has, and that is given

module _ (b : Bool) (n : ℕ) (o : Option ℕ) (e : o ≡ then_some b n) where
  pub is_there : is_some o ≡ b
  is_there = ap is_some e ∙ go b
    where
      go : (b : Bool) → is_some (then_some b n) ≡ b
      go true = refl
      go false = refl

  pub is_number : b ≡ true → n ≡ unwrap_or o 0
  is_number h = rw h at (ap (λ (x : Option ℕ). unwrap_or x 0) (sym e))

-- numbers unset are written as others that are given, where the version has them
module _ (b i : Bool) (k m k' m' largest level : ℕ) (e : b ≡ true → get_or (chosen (2147483647 ∷ []) (k ∷ m ∷ [])) 0 0 ≡ largest) (f : i ≡ true → get_or (chosen (0 ∷ []) (k' ∷ m' ∷ [])) 0 0 ≡ level) where
  limits_same : row_bytes [] (limits_shape b i end) (k ∷ m ∷ k' ∷ m' ∷ []) ≡ row_bytes [] (limits_shape b i end) (2 ∷ largest ∷ 2 ∷ level ∷ [])
  unfolding stands row_bytes bytes_at write write_basic value_of pop width basic_of chosen
  limits_same = go b i e f
    where
      go : (b i : Bool) → (b ≡ true → get_or (chosen (2147483647 ∷ []) (k ∷ m ∷ [])) 0 0 ≡ largest) → (i ≡ true → get_or (chosen (0 ∷ []) (k' ∷ m' ∷ [])) 0 0 ≡ level) →
          row_bytes [] (limits_shape b i end) (k ∷ m ∷ k' ∷ m' ∷ []) ≡ row_bytes [] (limits_shape b i end) (2 ∷ largest ∷ 2 ∷ level ∷ [])
      go true true e f = λ t. bytes 4 (e refl t) ++ (bytes 1 (f refl t) ++ [])
      go true false e f = λ t. bytes 4 (e refl t) ++ []
      go false true e f = λ t. bytes 1 (f refl t) ++ []
      go false false e f = refl

  limits_held : (cond b (holds w32 (get_or (chosen (2147483647 ∷ []) (k ∷ m ∷ [])) 0 0)) true && cond i (leb (get_or (chosen (0 ∷ []) (k' ∷ m' ∷ [])) 0 0) 1) true) ≡ (cond b (holds w32 largest) true && cond i (leb level 1) true)
  limits_held = ap₂ (λ (x y : Bool). x && y) (first b e) (second i f)
    where
      first : (b : Bool) → (b ≡ true → get_or (chosen (2147483647 ∷ []) (k ∷ m ∷ [])) 0 0 ≡ largest) → cond b (holds w32 (get_or (chosen (2147483647 ∷ []) (k ∷ m ∷ [])) 0 0)) true ≡ cond b (holds w32 largest) true
      first true e = ap (holds w32) (e refl)
      first false e = refl

      second : (i : Bool) → (i ≡ true → get_or (chosen (0 ∷ []) (k' ∷ m' ∷ [])) 0 0 ≡ level) → cond i (leb (get_or (chosen (0 ∷ []) (k' ∷ m' ∷ [])) 0 0) 1) true ≡ cond i (leb level 1) true
      second true f = ap (λ (n : ℕ). leb n 1) (f refl)
      second false f = refl

  module _ (lent : List ℕ) (replica wait least c : ℕ) (topics partitions : List ℕ) where
    abbrev row : ℕ → ℕ → ℕ → ℕ → ℕ → Tables
    row a b d e n = (replica ∷ wait ∷ least ∷ a ∷ b ∷ d ∷ e ∷ n ∷ []) ∷ topics ∷ partitions ∷ []

    refusal_same : refusal_of lent 2 (request_shape false false) (request_shape b i) (row k m k' m' c) ≡ refusal_of lent 2 (request_shape false false) (request_shape b i) (row 2 largest 2 level c)
    unfolding refusal_of chosen
    refusal_same = λ t.
        cond ((is_good (length lent) c topics partitions replica wait least k m k' m' ∙ sym (is_good (length lent) c topics partitions replica wait least 2 largest 2 level)) t)
        ((is_fault lent replica wait least k m k' m' c topics partitions b i
        ∙ (λ s. or (unless (holds w32 replica && (holds w32 wait && holds w32 least)) 11) (or (unless (limits_held s) 11) (items_fault lent topic_shape (count c) 1 ([] ∷ topics ∷ partitions ∷ []))))
        ∙ sym (is_fault lent replica wait least 2 largest 2 level c topics partitions b i)) t) 13

    module _ (s : length topics < 2 ^ 64) (g : good (length lent) 2 (request_shape false false) (row k m k' m' c) ≡ true) where
      abbrev n : ℕ
      n = length topics / 3

      rows_same : bytes_at lent topics_shape 0 ((c ∷ []) ∷ topics ∷ partitions ∷ []) ≡ bytes_at lent topics_shape 0 ((n ∷ []) ∷ topics ∷ partitions ∷ [])
      rows_same =
          any_bytes lent (fixed w32 empty) topic_shape 0 1 ((c ∷ []) ∷ topics ∷ partitions ∷ []) refl
          ∙ ap (λ (j : ℕ). length_bytes (fixed w32 empty) j ++ items_bytes lent topic_shape j 1 ([] ∷ topics ∷ partitions ∷ [])) (good_topics (length lent) c topics partitions (is_good (length lent) c topics partitions 0 0 0 0 0 0 0 ∙ sym (is_good (length lent) c topics partitions replica wait least k m k' m') ∙ g))
          ∙ sym (topics_bytes lent n topics partitions (omega arith))

      bytes_same : bytes_at lent (request_shape b i) 0 (row k m k' m' c) ≡ bytes_at lent (request_shape b i) 0 (row 2 largest 2 level n)
      bytes_same =
          lead_bytes lent b i replica wait least (k ∷ m ∷ k' ∷ m' ∷ c ∷ []) topics partitions
          ∙ ap (λ (x : List ℕ). row_bytes [] (lead_shape end) (replica ∷ wait ∷ least ∷ []) ++ x)
          (limits_bytes lent b i k m k' m' c topics partitions ∙ ap₂ (λ (x y : List ℕ). x ++ y) limits_same rows_same ∙ sym (limits_bytes lent b i 2 largest 2 level n topics partitions))
          ∙ sym (lead_bytes lent b i replica wait least (2 ∷ largest ∷ 2 ∷ level ∷ n ∷ []) topics partitions)

-- the call's promise from that of a known version
module _ (lent : List ℕ) (replica wait least c : ℕ) (topics partitions out : List ℕ) (s : length topics < 2 ^ 64) (v : ℕ) (h : v ≤ 4) where
  abbrev rows : ℕ → ℕ → ℕ → Tables
  rows largest level n = (replica ∷ wait ∷ least ∷ 2 ∷ largest ∷ 2 ∷ level ∷ n ∷ []) ∷ topics ∷ partitions ∷ []

  by_cells : (k m k' m' : ℕ) (z : ℤ) → v ≡ version_of z → (largest : ℕ) → (leb 3 v ≡ true → get_or (chosen (2147483647 ∷ []) (k ∷ m ∷ [])) 0 0 ≡ largest) → (level : ℕ) → (leb 4 v ≡ true → get_or (chosen (0 ∷ []) (k' ∷ m' ∷ [])) 0 0 ≡ level) → (r : Answer × List ℕ) →
      r ≡ write_alone (refusal_of lent 2 (request_shape false false) (request_shape (leb 3 v) (leb 4 v)) (rows largest level c)) (bytes_at lent (request_shape (leb 3 v) (leb 4 v)) 0 (rows largest level (length topics / 3))) out →
      r ≡ write_answer request z lent ((replica ∷ wait ∷ least ∷ k ∷ m ∷ k' ∷ m' ∷ c ∷ []) ∷ topics ∷ partitions ∷ []) out
  by_cells k m k' m' z i largest e level f r w =
      called request z v i h (omega arith) lent ((replica ∷ wait ∷ least ∷ k ∷ m ∷ k' ∷ m' ∷ c ∷ []) ∷ topics ∷ partitions ∷ []) out r _ _ w
      (rw (is_shape v h, is_shape 0 (omega arith)) (refusal_same (leb 3 v) (leb 4 v) k m k' m' largest level e f lent replica wait least c topics partitions))
      (λ g. rw (is_shape v h) (bytes_same (leb 3 v) (leb 4 v) k m k' m' largest level e f lent replica wait least c topics partitions s (rw (is_shape 0 (omega arith)) at g)))

  -- as code carries the two numbers: none where the version lacks it
  pub request_written : (x y : Option ℕ) (z : ℤ) → v ≡ version_of z → (largest : Option ℕ) → largest ≡ then_some (leb 3 v) (unwrap_or x 2147483647) → (level : Option ℕ) → level ≡ then_some (leb 4 v) (unwrap_or y 0) → (r : Answer × List ℕ) →
      r ≡ write_alone (refusal_of lent 2 (request_shape false false) (request_shape (is_some largest) (is_some level)) (rows (unwrap_or largest 0) (unwrap_or level 0) c)) (bytes_at lent (request_shape (is_some largest) (is_some level)) 0 (rows (unwrap_or largest 0) (unwrap_or level 0) (length topics / 3))) out →
      r ≡ write_answer request z lent ((replica ∷ wait ∷ least ∷ (versioned_cells x ++ (versioned_cells y ++ (c ∷ [])))) ∷ topics ∷ partitions ∷ []) out
  unfolding chosen
  request_written x y z i largest e level f r w =
      go x y (is_number (leb 3 v) (unwrap_or x 2147483647) largest e) (is_number (leb 4 v) (unwrap_or y 0) level f)
    where
      told : r ≡ write_alone (refusal_of lent 2 (request_shape false false) (request_shape (leb 3 v) (leb 4 v)) (rows (unwrap_or largest 0) (unwrap_or level 0) c)) (bytes_at lent (request_shape (leb 3 v) (leb 4 v)) 0 (rows (unwrap_or largest 0) (unwrap_or level 0) (length topics / 3))) out
      told = w ∙ ap₂ (λ (b j : Bool). write_alone (refusal_of lent 2 (request_shape false false) (request_shape b j) (rows (unwrap_or largest 0) (unwrap_or level 0) c)) (bytes_at lent (request_shape b j) 0 (rows (unwrap_or largest 0) (unwrap_or level 0) (length topics / 3))) out)
          (is_there (leb 3 v) (unwrap_or x 2147483647) largest e) (is_there (leb 4 v) (unwrap_or y 0) level f)

      go : (x y : Option ℕ) → (leb 3 v ≡ true → unwrap_or x 2147483647 ≡ unwrap_or largest 0) → (leb 4 v ≡ true → unwrap_or y 0 ≡ unwrap_or level 0) → r ≡ write_answer request z lent ((replica ∷ wait ∷ least ∷ (versioned_cells x ++ (versioned_cells y ++ (c ∷ [])))) ∷ topics ∷ partitions ∷ []) out
      go None None a b = by_cells 0 0 0 0 z i (unwrap_or largest 0) a (unwrap_or level 0) b r told
      go None (Some n) a b = by_cells 0 0 2 n z i (unwrap_or largest 0) a (unwrap_or level 0) b r told
      go (Some n) None a b = by_cells 2 n 0 0 z i (unwrap_or largest 0) a (unwrap_or level 0) b r told
      go (Some n) (Some l) a b = by_cells 2 n 2 l z i (unwrap_or largest 0) a (unwrap_or level 0) b r told
