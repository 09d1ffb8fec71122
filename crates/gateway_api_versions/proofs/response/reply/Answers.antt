-- Each case of the answer has its numbers in the definition.
use mathlib.Core.Path.{◌∙◌, ap, sym}
use Rattle.api_versions_response.specs.Answers.{of_response_reply}
use Rattle.api_versions_response.specs.declared.ResponseBody.{ResponseBody}
use Rattle.primitives.specs.Answers.{Read}
use Rattle.gateway_api_versions.specs.Replies.{response_numbers}
use Rattle.gateway_api_versions.proofs.response.reply.Goals as goal

pub returns-in-Ok : goal.returns-in-Ok
returns-in-Ok c = c.accepted.ensures ∙ ap (λ (x : Read ResponseBody). response_numbers (of_response_reply x)) (sym c.in-Ok.is)

pub returns-in-Err : goal.returns-in-Err
returns-in-Err c = ap (λ (x : Read ResponseBody). response_numbers (of_response_reply x)) (sym c.in-Err.is)
