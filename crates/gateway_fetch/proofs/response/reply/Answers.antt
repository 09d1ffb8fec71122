-- Each case of the reply has its numbers in the definition.
use mathlib.Core.Path.{◌∙◌, ap, sym}
use Rattle.fetch_response.specs.Answers.{of_response_reply}
use Rattle.fetch_response.specs.declared.ResponseBody.{ResponseBody}
use Rattle.primitives.specs.Answers.{Read, of_refusal}
use Rattle.gateway_fetch.specs.Replies.{fetch_numbers}
use Rattle.gateway_fetch.proofs.Rows.{none_told}
use Rattle.gateway_fetch.proofs.response.reply.Goals as goal

pub returns-in-Ok : goal.returns-in-Ok
returns-in-Ok c = c.accepted.ensures ∙ ap (λ (x : Read ResponseBody). fetch_numbers (of_response_reply x)) (sym c.in-Ok.is)

pub returns-in-Err : goal.returns-in-Err
returns-in-Err c = none_told (of_refusal c.in-Err.e) _ c.refused.ensures ∙ ap (λ (x : Read ResponseBody). fetch_numbers (of_response_reply x)) (sym c.in-Err.is)
