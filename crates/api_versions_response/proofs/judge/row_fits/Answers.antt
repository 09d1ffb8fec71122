-- The three numbers are judged in order.
use mathlib.Core.Bool.{◌&&◌}
use mathlib.Core.Path.{◌∙◌, ◌≡◌}
use Rattle.layout.specs.Primitives.{holds, w16}
use Rattle.body_writing.proofs.Judged.{and_first, and_second}
use Rattle.primitives_put.proofs.Carried.{is_held}
use Rattle.api_versions_response.proofs.Fits.{clean_so}
use Rattle.api_versions_response.proofs.judge.row_fits.Goals.{then-fits, else-fits}
use Rattle.api_versions_response.proofs.judge.row_fits.Goals as goal

pub returns-then-fits-2 : goal.returns-then-fits-2
returns-then-fits-2 c =
    let two : c.if-fits.value ≡ (holds w16 c.args.key && holds w16 c.args.low) = elim c.if-fits.branch [
      | then-fits w ↦ w.value-is ∙ and_second _ _ _ (c.fits.ensures ∙ is_held w16 _) w.if-fits.true _ (w.fits-then-fits.ensures ∙ is_held w16 _)
      | else-fits w ↦ w.value-is ∙ w.if-fits.false ∙ and_first _ _ _ (c.fits.ensures ∙ is_held w16 _) w.if-fits.false
    ] in
    clean_so _ _ _ (and_second _ _ _ two c.if-fits-2.true _ (c.fits-then-fits-2.ensures ∙ is_held w16 _))

pub returns-else-fits-2 : goal.returns-else-fits-2
returns-else-fits-2 c =
    let two : c.if-fits.value ≡ (holds w16 c.args.key && holds w16 c.args.low) = elim c.if-fits.branch [
      | then-fits w ↦ w.value-is ∙ and_second _ _ _ (c.fits.ensures ∙ is_held w16 _) w.if-fits.true _ (w.fits-then-fits.ensures ∙ is_held w16 _)
      | else-fits w ↦ w.value-is ∙ w.if-fits.false ∙ and_first _ _ _ (c.fits.ensures ∙ is_held w16 _) w.if-fits.false
    ] in
    clean_so _ _ c.args.high (c.if-fits-2.false ∙ and_first _ _ _ two c.if-fits-2.false)
