-- Number, size, header, room, rows: each way out is a law of all headers, at that of responses.
use mathlib.Core.Path.{refl}
use Rattle.primitives.proofs.Versions.{passed}
use Rattle.frame.specs.Answers.{of_response}
use Rattle.frame.proofs.Replies.{frame_bare, frame_long, frame_needs, frame_no, frame_took, handed, leaves, reply_above, reply_size, response_ready, used_fits}
use native.Mathlib.Omega.{arith}
use borrow.Author.Rules.{rules}
use Rattle.frame.proofs.reading.read_response.Goals as goal

pub returns-then-h-gt1 : goal.returns-then-h-gt1
returns-then-h-gt1 c = reply_above _ response_ready _ _ (passed _ c.ranges.number _ c.version_of-h.ensures) _ _ c.if-h-gt1.true _ c.at.ensures

pub returns-in_err-all : goal.returns-in_err-all
returns-in_err-all c = handed of_response _ _ c.from_residual.ensures _ (reply_size _ response_ready _ _ (passed _ c.ranges.number _ c.version_of-h.ensures) _ _ (omega arith) (omega arith) _ c.in_err-all.ensures)

pub slice_bounds-frame-end : goal.slice_bounds-frame-end
slice_bounds-frame-end c = frame_long _ _ _ c.in_ok-all.ensures

pub returns-in_err-response : goal.returns-in_err-response
returns-in_err-response c = handed of_response _ _ c.from_residual-in_err-response.ensures _ (frame_no _ response_ready _ _ (passed _ c.ranges.number _ c.version_of-h.ensures) _ _ (omega arith) (omega arith) _ _ c.in_ok-all.ensures _ refl _ c.response_header.new.table (search rules) _ c.in_err-response.ensures _ refl)

pub overflow_sub-body : goal.overflow_sub-body
overflow_sub-body c = used_fits _ response_ready c.args.number _ (passed _ c.ranges.number _ c.version_of-h.ensures) _ c.args.tags.now (omega arith) (omega arith) _ _ c.in_ok-all.ensures _ refl _ c.response_header.new.table (search rules) _ c.in_ok-response.ensures _ _ _ refl

pub returns-then-response-eq0 : goal.returns-then-response-eq0
returns-then-response-eq0 c = frame_bare _ response_ready _ _ (passed _ c.ranges.number _ c.version_of-h.ensures) _ _ (omega arith) (omega arith) _ _ c.in_ok-all.ensures _ refl _ c.response_header.new.table (search rules) _ c.in_ok-response.ensures _ _ _ refl c.if-response-eq0.true

pub returns-then-tags-response : goal.returns-then-tags-response
returns-then-tags-response c = frame_needs _ response_ready _ _ (passed _ c.ranges.number _ c.version_of-h.ensures) _ _ (omega arith) (omega arith) _ _ c.in_ok-all.ensures _ refl _ c.response_header.new.table (search rules) _ c.in_ok-response.ensures _ _ _ refl c.if-tags-response.true _ c.no_room.ensures

pub returns : goal.returns
returns c = frame_took _ response_ready _ _ (passed _ c.ranges.number _ c.version_of-h.ensures) _ _ (omega arith) (omega arith) _ _ c.in_ok-all.ensures _ refl _ c.response_header.new.table (search rules) _ c.in_ok-response.ensures _ _ _ refl c.if-tags-response.false _ _ (leaves of_response _ _ c.response_header-2.result) c.response_header-2.ensures
