use mathlib.Core.Path.{◌≡◌, refl}
use Prim.Native.Nat.{◌+◌, ◌-◌}
use native.Mathlib.Omega.{arith}
use Rattle.primitives.proofs.Up.{is_err_of}
use Rattle.body_reading.proofs.Chains.{going_done, going_start, turn_next, turn_no}
use Rattle.tagged_fields.specs.Read.{in_table_is}
use Rattle.tagged_fields.proofs.reading.tags_at.Goals as goal

pub loop-done-init : goal.loop-done-init
loop-done-init c =
    let all : c.args.count - 0 ≡ c.args.count = omega arith in
    rw all (going_start _ _ _ _ _)

pub loop-done-preserved : goal.loop-done-preserved
loop-done-preserved c =
    let one : c.args.count - (c.loop-done._done + 1) ≡ (c.args.count - c.loop-done._done) - 1 = omega arith in
    rw one (turn_next _ _ _ _ _ _ _ _ c.loop-done.invariant (omega arith) (in_table_is _) _ _ c.tag_in.ensures c.in_ok-filled.was _ (λ e. refl))

pub returns-in_err-filled : goal.returns-in_err-filled
returns-in_err-filled c = rw (is_err_of _ _ c.from_residual.ensures) (turn_no _ _ _ _ _ _ _ _ c.loop-done.invariant (omega arith) (in_table_is _) _ _ c.tag_in.ensures c.in_err-filled.was (λ e. refl))

pub returns : goal.returns
returns c = going_done _ _ _ _ _ _ _ _ c.loop-done.invariant (omega arith)
