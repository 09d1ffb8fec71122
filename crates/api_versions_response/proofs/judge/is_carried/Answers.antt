-- Error, throttle time and rows are judged in turn; all must hold.
use mathlib.Core.Bool.{◌&&◌, cond, true}
use mathlib.Core.Path.{◌∙◌, ◌≡◌}
use Rattle.layout.specs.Primitives.{holds, w16, w32}
use Rattle.body_writing.proofs.Judged.{and_first, and_second}
use Rattle.primitives_put.proofs.Carried.{is_held}
use Rattle.api_versions_response.proofs.Fits.{carried_so}
use native.Mathlib.Omega.{arith}
use Rattle.api_versions_response.proofs.judge.is_carried.Goals.{then-fits, else-fits}
use Rattle.api_versions_response.proofs.judge.is_carried.Goals as goal

pub returns-then-throttle_fits : goal.returns-then-throttle_fits
returns-then-throttle_fits c =
    let two : c.if-fits.value ≡ (holds w16 c.args.error && cond c.args.throttle (holds w32 c.args.n) true) = elim c.if-fits.branch [
      | then-fits w ↦ w.value-is ∙ and_second _ _ _ (c.fits.ensures ∙ is_held w16 _) w.if-fits.true _ w.throttle_fits.ensures
      | else-fits w ↦ w.value-is ∙ w.if-fits.false ∙ and_first _ _ _ (c.fits.ensures ∙ is_held w16 _) w.if-fits.false
    ] in
    carried_so c.args.throttle c.args.error c.args.n c.args.items.now (λ k. omega (arith, c.type_inv.items k)) (omega arith) (and_second _ _ _ two c.if-throttle_fits.true _ c.all_fit.ensures)

pub returns-else-throttle_fits : goal.returns-else-throttle_fits
returns-else-throttle_fits c =
    let two : c.if-fits.value ≡ (holds w16 c.args.error && cond c.args.throttle (holds w32 c.args.n) true) = elim c.if-fits.branch [
      | then-fits w ↦ w.value-is ∙ and_second _ _ _ (c.fits.ensures ∙ is_held w16 _) w.if-fits.true _ w.throttle_fits.ensures
      | else-fits w ↦ w.value-is ∙ w.if-fits.false ∙ and_first _ _ _ (c.fits.ensures ∙ is_held w16 _) w.if-fits.false
    ] in
    carried_so c.args.throttle c.args.error c.args.n c.args.items.now (λ k. omega (arith, c.type_inv.items k)) (omega arith) (c.if-throttle_fits.false ∙ and_first _ _ _ two c.if-throttle_fits.false)
