-- Each case of the answer has its numbers in the definition.
use mathlib.Core.Path.{◌∙◌, ap, sym}
use Rattle.primitives.specs.Answers.{of_refusal}
use Rattle.frame.specs.Answers.{RequestFrame, of_request_frame}
use Rattle.gateway_frame.specs.Replies.{request_frame_numbers}
use Rattle.gateway_frame.proofs.Rows.{no_request}
use Rattle.gateway_frame.proofs.request.reply.Goals as goal

pub returns-in-Ok : goal.returns-in-Ok
returns-in-Ok c = c.accepted.ensures ∙ ap (λ (x : RequestFrame). request_frame_numbers (of_request_frame x)) (sym c.in-Ok.is)

pub returns-in-Err : goal.returns-in-Err
returns-in-Err c = no_request _ (of_refusal c.in-Err.e) c.refused.ensures ∙ ap (λ (x : RequestFrame). request_frame_numbers (of_request_frame x)) (sym c.in-Err.is)
