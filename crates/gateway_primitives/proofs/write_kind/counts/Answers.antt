-- Each kind is written by its own call.
use mathlib.Core.Path.{◌∙◌, ap, refl}
use Prim.Native.Nat.{ℕ}
use native.Mathlib.Omega.{arith}
use Rattle.std.specs.Prelude.{Option as Maybe}
use Rattle.layout.specs.Answers.{write_alone}
use Rattle.layout.specs.Primitives.{Size, compact, fixed, kept, w32}
use Rattle.primitives_put.specs.Answers.{count_bytes, count_fault}
use Rattle.gateway_primitives.proofs.ByKind.{given_counted, write_by}
use Rattle.gateway_primitives.specs.Kinds.{write_kind, write_of}
use Rattle.gateway_primitives.proofs.write_kind.counts.Goals as goal

pub returns-in-8 : goal.returns-in-8
unfolding write_kind write_of
returns-in-8 c =
    let z : Size = fixed w32 kept in
    write_by c.args.kind 8 c.in-8.is _ _ _ _ _ _ refl (c.array_count.ensures ∙ ap (λ (v : Maybe ℕ). write_alone (count_fault z v) (count_bytes z v) c.args.out.now) (given_counted c.args.null c.args.value _ c.then_some-count.ensures))

pub returns-in_default : goal.returns-in_default
unfolding write_kind write_of
returns-in_default c =
    let z : Size = compact kept in
    write_by c.args.kind 9 (omega arith) _ _ _ _ _ _ refl (c.compact_array_count.ensures ∙ ap (λ (v : Maybe ℕ). write_alone (count_fault z v) (count_bytes z v) c.args.out.now) (given_counted c.args.null c.args.value _ c.then_some-count.ensures))
