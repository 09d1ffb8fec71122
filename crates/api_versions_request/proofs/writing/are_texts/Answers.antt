-- Both texts are looked at, where the version has them.
use Rattle.body_writing.proofs.Judged.{and_second, if_there}
use Rattle.api_versions_request.proofs.writing.are_texts.Goals as goal

pub returns-then-is_text : goal.returns-then-is_text
returns-then-is_text c = if_there c.args.flexible _ c.if-not-flexible.false _ (and_second _ _ _ c.is_text.ensures c.if-is_text.true _ c.is_text-then-is_text.ensures)
