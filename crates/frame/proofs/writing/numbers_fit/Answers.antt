-- All three must hold.
use mathlib.Core.Bool.{◌&&◌}
use mathlib.Core.Path.{◌∙◌, ◌≡◌}
use Rattle.layout.specs.Primitives.{holds, w16, w32}
use Rattle.body_writing.proofs.Judged.{and_first, and_second}
use Rattle.primitives_put.proofs.Carried.{is_held}
use Rattle.tagged_fields.proofs.Tags.{and_assoc}
use Rattle.frame.proofs.writing.numbers_fit.Goals.{then-fits, else-fits}
use Rattle.frame.proofs.writing.numbers_fit.Goals as goal

pub returns-then-fits-2 : goal.returns-then-fits-2
returns-then-fits-2 c =
    let two : c.if-fits.value ≡ (holds w16 c.args.header.request_api_key && holds w16 c.args.header.request_api_version) =
    elim c.if-fits.branch [
      | then-fits w ↦ w.value-is ∙ and_second _ _ _ (c.fits.ensures ∙ is_held w16 _) w.if-fits.true _ (w.fits-then-fits.ensures ∙ is_held w16 _)
      | else-fits w ↦ w.value-is ∙ w.if-fits.false ∙ and_first _ _ _ (c.fits.ensures ∙ is_held w16 _) w.if-fits.false
    ]
    in
    and_second _ _ _ two c.if-fits-2.true _ (c.fits-then-fits-2.ensures ∙ is_held w32 _) ∙ and_assoc (holds w16 c.args.header.request_api_key) (holds w16 c.args.header.request_api_version) (holds w32 c.args.header.correlation_id)

pub returns-else-fits-2 : goal.returns-else-fits-2
returns-else-fits-2 c =
    let two : c.if-fits.value ≡ (holds w16 c.args.header.request_api_key && holds w16 c.args.header.request_api_version) =
    elim c.if-fits.branch [
      | then-fits w ↦ w.value-is ∙ and_second _ _ _ (c.fits.ensures ∙ is_held w16 _) w.if-fits.true _ (w.fits-then-fits.ensures ∙ is_held w16 _)
      | else-fits w ↦ w.value-is ∙ w.if-fits.false ∙ and_first _ _ _ (c.fits.ensures ∙ is_held w16 _) w.if-fits.false
    ]
    in
    c.if-fits-2.false ∙ and_first _ _ (holds w32 c.args.header.correlation_id) two c.if-fits-2.false ∙ and_assoc (holds w16 c.args.header.request_api_key) (holds w16 c.args.header.request_api_version) (holds w32 c.args.header.correlation_id)
