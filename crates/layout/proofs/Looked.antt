-- Address lookup: it refuses exactly what the prefix read refuses but for room, with the same refusal; else the first row of the node decides.
use mathlib.Core.Bool.{false}
use mathlib.Core.List.{List, []}
use mathlib.Core.Logic.{◌↔◌}
use mathlib.Core.Option.{Option, none, some}
use mathlib.Core.Path.{◌∙◌, ◌≡◌, ap}
use Prim.Native.Nat.{ℕ}
use native.Mathlib.Omega.{arith}
use lib.IntN.{ℤ}
use lib.ListN.{get_or}
use Rattle.layout.specs.Reading.{Refusal, bad, ok}
use Rattle.layout.specs.Tables.{Tables, first_row, rows_of}
use Rattle.layout.specs.Answers as Answers
use Rattle.layout.specs.Answers.{prefix_read, seen}
use Rattle.layout.specs.Lookup.{host_in, host_of, lookup, refused}
use Rattle.layout.specs.Messages.Metadata.{response}
use Rattle.layout.proofs.Calls.{read_refused}
use Rattle.layout.proofs.Refusals.{Refuses, seen_refuses}
use Rattle.layout.proofs.Steps.{by_result}

not_refused : {X : Type 0} (o : Option (List ℕ)) (e : Refusal) → host_of o ≡ refused e → X
not_refused none e h = let z : ◌≡◌ {A = ℕ} 0 1 = cc in absurd (omega arith)
not_refused (some r) e h = let z : ◌≡◌ {A = ℕ} 0 1 = cc in absurd (omega arith)

module _ (node : ℕ) (v : ℤ) (s : List ℕ) where
  pub lookup_refuses : (e : Refusal) → (lookup node v s ≡ refused e) ↔ (seen false response v s ≡ bad e)
  unfolding lookup
  lookup_refuses e = (
    λ h. by_result (seen false response v s) (λ st n d. not_refused (first_row node (rows_of 7 (get_or st 1 []))) e (rw d at h)) (λ c d. let g : refused c ≡ refused e = rw d at h in let x : c ≡ e = cc in d ∙ ap bad x),
    λ d. ap (host_in node) d,
  )

  -- the prefix read gives the same refusal, whatever tables are lent
  pub as_prefix_read : (e : Refusal) → lookup node v s ≡ refused e → (room : Tables) → prefix_read response v room s ≡ (Answers.refused e, room)
  unfolding prefix_read
  as_prefix_read e h room = read_refused response v s room false e ((lookup_refuses e).0 h)

  -- so 10 is never given
  pub lookup_tells : (e : Refusal) → lookup node v s ≡ refused e → Refuses 9 s e
  lookup_tells e h = seen_refuses false response v s e ((lookup_refuses e).0 h)

  -- what is accepted is decided by the first row of the node
  pub lookup_rows : (st : Tables) (n : ℕ) → seen false response v s ≡ ok st n → lookup node v s ≡ host_of (first_row node (rows_of 7 (get_or st 1 [])))
  unfolding lookup
  lookup_rows st n d = ap (host_in node) d
