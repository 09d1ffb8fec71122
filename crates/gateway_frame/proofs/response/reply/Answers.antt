-- Each case of the answer has its numbers in the definition.
use mathlib.Core.Path.{◌∙◌, ap, sym}
use Rattle.primitives.specs.Answers.{of_refusal}
use Rattle.frame.specs.Answers.{ResponseFrame, of_response_frame}
use Rattle.gateway_frame.specs.Replies.{response_frame_numbers}
use Rattle.gateway_frame.proofs.Rows.{no_response, response_told}
use Rattle.gateway_frame.proofs.response.reply.Goals as goal

pub returns-in-Ok : goal.returns-in-Ok
returns-in-Ok c = response_told _ _ _ _ _ _ c.accepted.ensures ∙ ap (λ (x : ResponseFrame). response_frame_numbers (of_response_frame x)) (sym c.in-Ok.is)

pub returns-in-Err : goal.returns-in-Err
returns-in-Err c = no_response _ (of_refusal c.in-Err.e) c.refused.ensures ∙ ap (λ (x : ResponseFrame). response_frame_numbers (of_response_frame x)) (sym c.in-Err.is)
