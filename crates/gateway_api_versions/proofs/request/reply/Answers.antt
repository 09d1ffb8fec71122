-- Each case of the answer has its numbers in the definition.
use mathlib.Core.Path.{◌∙◌, ap, sym}
use Rattle.api_versions_request.specs.Answers.{of_request_reply}
use Rattle.api_versions_request.specs.declared.RequestBody.{RequestBody}
use Rattle.primitives.specs.Answers.{Read}
use Rattle.gateway_api_versions.specs.Replies.{request_numbers}
use Rattle.gateway_api_versions.proofs.request.reply.Goals as goal

pub returns-in-Ok : goal.returns-in-Ok
returns-in-Ok c = c.accepted.ensures ∙ ap (λ (x : Read RequestBody). request_numbers (of_request_reply x)) (sym c.in-Ok.is)

pub returns-in-Err : goal.returns-in-Err
returns-in-Err c = ap (λ (x : Read RequestBody). request_numbers (of_request_reply x)) (sym c.in-Err.is)
