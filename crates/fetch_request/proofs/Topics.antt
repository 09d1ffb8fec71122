-- Topics off the front of their table, one by one: a row alone has the bytes and the first fault that it has with the rows after it.
use mathlib.Core.List.{List, [], ◌++◌, ◌∷◌}
use mathlib.Core.Logic.{◌≢◌}
use mathlib.Core.Path.{◌∙◌, ◌≡◌, ap, ap₂, refl, subst, sym}
use Prim.Native.Nat.{◌*◌, ◌+◌, ◌-◌, ◌/◌, ◌<◌, ◌≤◌, min, ℕ}
use native.Mathlib.Omega.{arith}
use lib.Dec.{lit<}
use lib.ListN.{drop, get_or, get_or-append, length, length-append, length-drop, take}
use lib.Seq.{drop-append_seam, take_all}
use borrow.Rule.Slice.PartMut.{mid_of, put_mid}
use Rattle.layout.specs.Tables.{count, rows_of, slice, sum}
use Rattle.layout.specs.Write.{or}
use Rattle.primitives_put.specs.Step.{Capped, cap}
use Rattle.primitives_put.proofs.Capped.{capped_as}
use Rattle.body_writing.specs.Asked.{string_fault}
use Rattle.body_writing.specs.Writes.{bytes_at, fault_at, items_fault, rows_fault, takes}
use Rattle.body_writing.proofs.Nested.{Clearing, Going, clearing_enough, clearing_more, clearing_start, clearing_stop, going_enough, going_more, going_start}
use Rattle.fetch_request.specs.Shapes.{partition_shape, topic_shape}
use Rattle.fetch_request.proofs.Judgement.{in_parts}
use Rattle.fetch_request.proofs.Walk.{topic_as, topic_nest}

-- at the start all topics are left
module _ (lent topics partitions left : List ℕ) (e : left ≡ topics) (h : sum (takes 3 2) (rows_of 3 topics) ≤ length partitions) where
  pub clear_start : Clearing topic_nest lent topics partitions left partitions
  clear_start = subst (λ (l : List ℕ). Clearing topic_nest lent topics partitions l partitions) (sym e) (clearing_start topic_nest lent topics partitions h)

  pub stand_start : (d : List ℕ) → Going topic_nest lent topics partitions d 0 d left partitions
  stand_start d = subst (λ (l : List ℕ). Going topic_nest lent topics partitions d 0 d l partitions) (sym e) (going_start topic_nest lent topics partitions d h)

module _ (left row after : List ℕ) (e : left ≡ row ++ after) (d : length row ≡ 3) where
  cell : (k : ℕ) → k < 3 → get_or left k 0 ≡ get_or row k 0
  cell k h = ap (λ (cs : List ℕ). get_or cs k 0) e ∙ get_or-append row after 0 k (omega (arith, d))

  pub same_takes : takes 3 2 left ≡ takes 3 2 row
  unfolding takes
  same_takes = ap (λ (c : ℕ). count c * 3) (cell 2 (lit< tt))

  pub same_slice : (lent : List ℕ) → slice lent (get_or left 0 0, get_or left 1 0) ≡ slice lent (get_or row 0 0, get_or row 1 0)
  same_slice lent = ap₂ (λ (a n : ℕ). slice lent (a, n)) (cell 0 (lit< tt)) (cell 1 (lit< tt))

  pub long : 3 ≤ length left
  long = omega (arith, ap length e, length-append row after, d)

  pub next : take (length left - 3) (drop 3 left) ≡ after
  next = take_all (length left - 3) (drop 3 left) (omega (arith, length-drop 3 left)) ∙ ap₂ drop (sym d) e ∙ drop-append_seam row after

  -- with rows of partitions that are enough
  module _ (lent free : List ℕ) (h : takes 3 2 row ≤ length free) where
    same_fault : fault_at lent topic_shape 1 ([] ∷ row ∷ free ∷ []) ≡ fault_at lent topic_shape 1 ([] ∷ left ∷ free ∷ [])
    same_fault =
        in_parts lent row free h
        ∙ ap₂ (λ (x : List ℕ) (k : ℕ). or (string_fault x) (rows_fault [] partition_shape 3 (take k free))) (sym (same_slice lent)) (sym same_takes)
        ∙ sym (in_parts lent left free (omega (arith, same_takes)))

    same_bytes : bytes_at lent topic_shape 1 ([] ∷ row ∷ free ∷ []) ≡ bytes_at lent topic_shape 1 ([] ∷ left ∷ free ∷ [])
    same_bytes =
        sym (topic_as lent row free (slice lent (get_or row 0 0, get_or row 1 0)) (takes 3 2 row) refl refl h)
        ∙ topic_as lent left free (slice lent (get_or row 0 0, get_or row 1 0)) (takes 3 2 row) (sym same_takes) (sym (same_slice lent)) h

  module _ (lent topics partitions free : List ℕ) where
    -- no topic so far has a fault
    module _ (a : Clearing topic_nest lent topics partitions left free) where
      pub clear_enough : takes 3 2 row ≤ length free
      clear_enough = omega (arith, same_takes, clearing_enough topic_nest lent topics partitions a long)

      module _ (x : ℕ) (f : x ≡ fault_at lent topic_shape 1 ([] ∷ row ∷ free ∷ [])) where
        pub clear_stop : x ≢ 0 → x ≡ items_fault lent topic_shape (length topics / 3) 1 ([] ∷ topics ∷ partitions ∷ [])
        clear_stop z = clearing_stop topic_nest lent topics partitions a long x (f ∙ same_fault lent free clear_enough) z

        pub clear_next : x ≡ 0 → (k : ℕ) → k ≡ takes 3 2 row → Clearing topic_nest lent topics partitions after (take (length free - k) (drop k free))
        clear_next z k t =
            subst (λ (l : List ℕ). Clearing topic_nest lent topics partitions l (take (length free - k) (drop k free))) next
            (clearing_more topic_nest lent topics partitions a long x (f ∙ same_fault lent free clear_enough) z k (t ∙ sym same_takes))

    -- the topics so far stand in the output
    module _ {d₀ : List ℕ} {n : ℕ} {d₁ : List ℕ} (a : Going topic_nest lent topics partitions d₀ n d₁ left free) where
      pub stand_enough : takes 3 2 row ≤ length free
      stand_enough = omega (arith, same_takes, going_enough topic_nest lent topics partitions a long)

      pub stand_next : (at : ℕ) → at ≡ min n (length d₁) → {j : ℕ} {d₂ : List ℕ} → Capped (bytes_at lent topic_shape 1 ([] ∷ row ∷ free ∷ [])) (mid_of at (length d₁ - at) d₁) j d₂ →
          (r : ℕ) → cap r ≡ cap (n + j) → (k : ℕ) → k ≡ takes 3 2 row → Going topic_nest lent topics partitions d₀ r (put_mid at (length d₁ - at) d₁ d₂) after (take (length free - k) (drop k free))
      stand_next at b {j} {d₂} s r y k t =
          subst (λ (l : List ℕ). Going topic_nest lent topics partitions d₀ r (put_mid at (length d₁ - at) d₁ d₂) l (take (length free - k) (drop k free))) next
          (going_more topic_nest lent topics partitions a long at b (capped_as (same_bytes lent free stand_enough) s) r y k (t ∙ sym same_takes))
