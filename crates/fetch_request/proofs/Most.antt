-- The most bytes that a request can have, told by the sizes of what is lent alone.
use mathlib.Core.Bool.{Bool, cond, false, true}
use mathlib.Core.List.{List, [], ◌++◌, ◌∷◌}
use mathlib.Core.Path.{◌∙◌, ◌≡◌, ap, ap₂, refl, sym}
use Prim.Native.Nat.{◌*◌, ◌+◌, ◌/◌, ◌<◌, ◌^◌, ◌≤◌, suc, zero, ℕ}
use native.Mathlib.Nat.{div-le_self, mul-le-mul_right}
use native.Mathlib.Omega.{arith}
use lib.ListN.{drop, get_or, length, length-append, length-drop, length-take, take}
use Rattle.layout.specs.Answers.{most}
use Rattle.layout.specs.Primitives.{bytes, length_bytes}
use Rattle.layout.specs.Tables.{chunks, rows_of, slice, sum, times}
use Rattle.layout.specs.Write.{each}
use Rattle.layout.proofs.Back.{length_bytes_lem}
use Rattle.primitives_put.specs.Step.{cap}
use Rattle.body_writing.specs.Writes.{bytes_at, items_bytes, takes}
use Rattle.body_writing.proofs.Nested.{one, takes_first}
use Rattle.fetch_request.specs.declared.Own.{Own}
use Rattle.std.specs.Prelude.{is_some, unwrap_or}
use Rattle.fetch_request.specs.Shapes.{own_row, request_shape, topic_shape}
use Rattle.fetch_request.proofs.Walk.{lead_are, lead_bytes, limits_are, limits_bytes, topic_wide, topic_nest, topics_bytes}

-- no product is too big
pub product_small : (t l : ℕ) → t ≤ most → l ≤ most → t * (l + 6) < 2 ^ 41
product_small t l h k = omega (arith, mul-le-mul_right {m = t} {n = most} (l + 6) h)

slice_most : (lent : List ℕ) (p n : ℕ) → length (slice lent (p, n)) ≤ length lent
unfolding slice
slice_most lent p n = omega (arith, length-take n (drop p lent), length-drop p lent)

-- a name is a part of the lent bytes
module _ (lent : List ℕ) (w : ℕ) (wide : length lent + 6 ≤ w) where
  topic_most : (topics partitions : List ℕ) → takes 3 2 topics ≤ length partitions → length (bytes_at lent topic_shape 1 ([] ∷ topics ∷ partitions ∷ [])) ≤ w + takes 3 2 topics * 16
  topic_most topics partitions h =
      omega (arith, topic_wide lent topics partitions (slice lent (get_or topics 0 0, get_or topics 1 0)) (takes 3 2 topics) refl refl h, slice_most lent (get_or topics 0 0) (get_or topics 1 0), wide, div-le_self (takes 3 2 topics) 3)

  each_most : (n : ℕ) (topics partitions : List ℕ) → sum (takes 3 2) (chunks n 3 topics) ≤ length partitions → length (items_bytes lent topic_shape n 1 ([] ∷ topics ∷ partitions ∷ [])) ≤ n * w + length partitions * 16
  unfolding items_bytes bytes_at each times chunks sum
  each_most zero topics partitions h = omega arith
  each_most (suc n) topics partitions h =
      let f : takes 3 2 (take 3 topics) ≡ takes 3 2 topics = takes_first topic_nest lent topics in
      let g : takes 3 2 (take 3 topics) + sum (takes 3 2) (chunks n 3 (drop 3 topics)) ≤ length partitions = h in
      let l : takes 3 2 topics ≤ length partitions = omega (arith, g, f) in
      let free : List ℕ = drop (takes 3 2 topics) partitions in
      let v : List ℕ = items_bytes lent topic_shape n 1 ([] ∷ drop 3 topics ∷ free ∷ []) in
      let i : length v ≤ n * w + length free * 16 = each_most n (drop 3 topics) free (omega (arith, g, f, length-drop (takes 3 2 topics) partitions)) in
      let m : suc n * w ≡ w + n * w = omega arith in
      let t = one topic_nest lent [] topics partitions in
      rw t (omega (arith, length-append (bytes_at lent topic_shape 1 ([] ∷ topics ∷ partitions ∷ [])) v, i, topic_most topics partitions l, m, l, length-drop (takes 3 2 topics) partitions))

if_most : (f : Bool) (k n : ℕ) → length (cond f (bytes k n) []) ≤ k
if_most true k n = omega (arith, length_bytes_lem k n)
if_most false k n = omega arith

module _ (lent topics partitions : List ℕ) (own : Own) (h : sum (takes 3 2) (rows_of 3 topics) ≤ length partitions) (s : length topics < 2 ^ 64) where
  abbrev n : ℕ
  n = length topics / 3

  topics_most : length (items_bytes lent topic_shape n 1 ([] ∷ topics ∷ partitions ∷ [])) ≤ length topics * (length lent + 6) + length partitions * 16
  unfolding rows_of
  topics_most = omega (arith, each_most lent (length lent + 6) (omega arith) (length topics / 3) topics partitions h, mul-le-mul_right {m = length topics / 3} {n = length topics} (length lent + 6) (div-le_self (length topics) 3))

  request_is : bytes_at lent (request_shape (is_some own.largest) (is_some own.level)) 0 (own_row own n ∷ topics ∷ partitions ∷ [])
      ≡ (bytes 4 own.replica ++ (bytes 4 own.wait ++ bytes 4 own.least)) ++ ((cond (is_some own.largest) (bytes 4 (unwrap_or own.largest 0)) [] ++ cond (is_some own.level) (bytes 1 (unwrap_or own.level 0)) []) ++ (bytes 4 n ++ items_bytes lent topic_shape n 1 ([] ∷ topics ∷ partitions ∷ [])))
  unfolding length_bytes
  request_is =
      lead_bytes lent (is_some own.largest) (is_some own.level) own.replica own.wait own.least (2 ∷ unwrap_or own.largest 0 ∷ 2 ∷ unwrap_or own.level 0 ∷ n ∷ []) topics partitions
      ∙ ap₂ (λ (x y : List ℕ). x ++ y) (sym (lead_are own.replica own.wait own.least))
      (limits_bytes lent (is_some own.largest) (is_some own.level) 2 (unwrap_or own.largest 0) 2 (unwrap_or own.level 0) n topics partitions
      ∙ ap₂ (λ (x y : List ℕ). x ++ y) (sym (limits_are (is_some own.largest) (is_some own.level) (unwrap_or own.largest 0) (unwrap_or own.level 0))) (topics_bytes lent n topics partitions (omega arith)))

  request_most : length (bytes_at lent (request_shape (is_some own.largest) (is_some own.level)) 0 (own_row own n ∷ topics ∷ partitions ∷ [])) ≤ length topics * (length lent + 6) + length partitions * 16 + 21
  request_most =
      omega (
        arith,
        topics_most,
        ap length request_is,
        length-append (bytes 4 own.replica ++ (bytes 4 own.wait ++ bytes 4 own.least)) ((cond (is_some own.largest) (bytes 4 (unwrap_or own.largest 0)) [] ++ cond (is_some own.level) (bytes 1 (unwrap_or own.level 0)) []) ++ (bytes 4 n ++ items_bytes lent topic_shape n 1 ([] ∷ topics ∷ partitions ∷ []))),
        length-append (bytes 4 own.replica) (bytes 4 own.wait ++ bytes 4 own.least),
        length-append (bytes 4 own.wait) (bytes 4 own.least),
        length_bytes_lem 4 own.replica,
        length_bytes_lem 4 own.wait,
        length_bytes_lem 4 own.least,
        length-append (cond (is_some own.largest) (bytes 4 (unwrap_or own.largest 0)) [] ++ cond (is_some own.level) (bytes 1 (unwrap_or own.level 0)) []) (bytes 4 n ++ items_bytes lent topic_shape n 1 ([] ∷ topics ∷ partitions ∷ [])),
        length-append (cond (is_some own.largest) (bytes 4 (unwrap_or own.largest 0)) []) (cond (is_some own.level) (bytes 1 (unwrap_or own.level 0)) []),
        if_most (is_some own.largest) 4 (unwrap_or own.largest 0),
        if_most (is_some own.level) 1 (unwrap_or own.level 0),
        length-append (bytes 4 n) (items_bytes lent topic_shape n 1 ([] ∷ topics ∷ partitions ∷ [])),
        length_bytes_lem 4 n,
      )

  -- r is told to be at least as many, up to the limit, and fits in m
  pub most_told : {r m : ℕ} → cap (length topics * (length lent + 6) + length partitions * 16 + 21) ≤ r → r ≤ most → r ≤ m → length (bytes_at lent (request_shape (is_some own.largest) (is_some own.level)) 0 (own_row own n ∷ topics ∷ partitions ∷ [])) ≤ m
  most_told k l f = omega (arith, request_most, k, l, f)
