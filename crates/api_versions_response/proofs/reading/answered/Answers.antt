-- The version first, then the size, then the bytes.
use mathlib.Core.List.{[], ◌∷◌}
use mathlib.Core.Path.{◌∙◌, ap}
use native.Mathlib.Omega.{arith}
use lib.IntN.{ℤ}
use Rattle.primitives.proofs.Up.{is_err_of}
use Rattle.layout.specs.Answers.{read_answer}
use Rattle.layout.specs.Messages.ApiVersions as Api
use Rattle.body_reading.proofs.Admission.{known_as, unread, within}
use Rattle.api_versions_response.proofs.reading.answered.Goals as goal

pub returns-in_err-v : goal.returns-in_err-v
returns-in_err-v c = rw (is_err_of _ _ c.from_residual.ensures) (unread Api.response (omega arith) _ c.ranges.version _ _ c.admit.ensures _ c.in_err-v.was _ _)

pub judged-requires : goal.judged-requires
judged-requires c = within Api.response (omega arith) _ c.ranges.version c.args.msg.now _ c.admit.ensures _ c.in_ok-v.was

pub returns : goal.returns
returns c = c.judged.ensures ∙ ap (λ (z : ℤ). read_answer c.args.whole Api.response z (c.args.items.now ∷ c.args.tags.now ∷ []) c.args.msg.now) (known_as Api.response (omega arith) _ c.ranges.version c.args.msg.now _ c.admit.ensures _ c.in_ok-v.was)
