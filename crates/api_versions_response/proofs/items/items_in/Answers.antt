use mathlib.Core.Path.{◌≡◌, refl}
use Prim.Native.Nat.{◌+◌, ◌-◌}
use native.Mathlib.Omega.{arith}
use borrow.Author.Rules.{rules}
use Rattle.primitives.proofs.Up.{is_err_of}
use Rattle.body_reading.proofs.Chains.{going_done, going_start, turn_next, turn_no}
use Rattle.api_versions_response.specs.ItemWalks.{rows_is}
use Rattle.api_versions_response.proofs.items.items_in.Goals as goal

pub loop-done-init : goal.loop-done-init
loop-done-init c =
    let all : c.args.count - 0 ≡ c.args.count = omega arith in
    (rw all (going_start _ _ _ _ _), (refl, refl))

pub loop-done-preserved : goal.loop-done-preserved
loop-done-preserved c =
    let one : c.args.count - (c.loop-done._done + 1) ≡ (c.args.count - c.loop-done._done) - 1 = omega arith in
    (rw one (turn_next _ _ _ _ _ _ _ _ c.loop-done.invariant.0 (omega arith) (rows_is _ _) _ _ c.item_at.ensures c.in_ok-rows.was _ (λ e. refl)), (search rules, search rules))

pub returns-in_err-rows : goal.returns-in_err-rows
returns-in_err-rows c = rw (is_err_of _ _ c.from_residual.ensures) (turn_no _ _ _ _ _ _ _ _ c.loop-done.invariant.0 (omega arith) (rows_is _ _) _ _ c.item_at.ensures c.in_err-rows.was (λ e. refl))

pub returns : goal.returns
returns c = going_done _ _ _ _ _ _ _ _ c.loop-done.invariant.0 (omega arith)
