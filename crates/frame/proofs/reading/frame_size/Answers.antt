-- The size is read, and then checked: 14 before the bytes that follow are counted.
use mathlib.Core.Path.{◌∙◌}
use Rattle.primitives.specs.Answers.{of_number}
use Rattle.primitives.proofs.Up.{up}
use Rattle.frame.proofs.Replies.{size_cut, size_no, size_over, size_sum, size_took}
use Rattle.frame.proofs.reading.frame_size.Goals as goal

pub returns-in_err-size : goal.returns-in_err-size
returns-in_err-size c = up of_number _ _ c.from_residual.ensures ∙ size_no _ _ c.in_err-size.ensures

pub returns-then-size : goal.returns-then-size
returns-then-size c = size_over _ _ _ c.in_ok-size.ensures c.if-size.true _ c.at.ensures

pub overflow_add-end : goal.overflow_add-end
overflow_add-end c = record { fits = size_sum _ _ _ c.in_ok-size.ensures c.if-size.false }

pub returns-then-s-end : goal.returns-then-s-end
returns-then-s-end c = size_cut _ _ _ c.in_ok-size.ensures c.if-size.false c.if-s-end.true _ c.at-then-s-end.ensures

pub returns : goal.returns
returns c = size_took _ _ _ c.in_ok-size.ensures c.if-size.false c.if-s-end.false
