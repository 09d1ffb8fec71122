-- The texts are judged in turn, and then the tags.
use mathlib.Core.Bool.{◌&&◌, true}
use mathlib.Core.Path.{◌∙◌, ◌≡◌}
use Rattle.layout.specs.Tables.{good_cells}
use Rattle.body_writing.proofs.Judged.{and_first, and_second}
use Rattle.api_versions_request.specs.Answers.{of_text}
use Rattle.api_versions_request.specs.Shapes.{text_field}
use Rattle.api_versions_request.proofs.Request.{good_so}
use Rattle.api_versions_request.proofs.writing.is_good.Goals.{then-is_ranged, else-is_ranged}
use Rattle.api_versions_request.proofs.writing.is_good.Goals as goal

pub returns-then-is_ranged-2 : goal.returns-then-is_ranged-2
returns-then-is_ranged-2 c =
    let two : c.if-is_ranged.value ≡ (good_cells c.args.size (text_field true) (of_text c.args.name) && good_cells c.args.size (text_field true) (of_text c.args.version)) = elim c.if-is_ranged.branch [
      | then-is_ranged w ↦ w.value-is ∙ and_second _ _ _ c.is_ranged.ensures w.if-is_ranged.true _ w.is_ranged-then-is_ranged.ensures
      | else-is_ranged w ↦ w.value-is ∙ w.if-is_ranged.false ∙ and_first _ _ _ c.is_ranged.ensures w.if-is_ranged.false
    ] in
    good_so c.args.size c.args.name c.args.version c.args.own c.args.tags.now (and_second _ _ _ two c.if-is_ranged-2.true _ c.is_good.ensures)

pub returns-else-is_ranged-2 : goal.returns-else-is_ranged-2
returns-else-is_ranged-2 c =
    let two : c.if-is_ranged.value ≡ (good_cells c.args.size (text_field true) (of_text c.args.name) && good_cells c.args.size (text_field true) (of_text c.args.version)) = elim c.if-is_ranged.branch [
      | then-is_ranged w ↦ w.value-is ∙ and_second _ _ _ c.is_ranged.ensures w.if-is_ranged.true _ w.is_ranged-then-is_ranged.ensures
      | else-is_ranged w ↦ w.value-is ∙ w.if-is_ranged.false ∙ and_first _ _ _ c.is_ranged.ensures w.if-is_ranged.false
    ] in
    good_so c.args.size c.args.name c.args.version c.args.own c.args.tags.now (c.if-is_ranged-2.false ∙ and_first _ _ _ two c.if-is_ranged-2.false)
