-- Number, size, header, room, rows: each way out is a law of all headers, at that of requests.
use mathlib.Core.Path.{refl}
use Rattle.primitives.proofs.Versions.{passed}
use Rattle.frame.specs.Answers.{of_request}
use Rattle.frame.proofs.Replies.{frame_bare, frame_long, frame_needs, frame_no, frame_took, handed, leaves, reply_above, reply_below, reply_size, request_ready, used_fits}
use native.Mathlib.Omega.{arith}
use borrow.Author.Rules.{rules}
use Rattle.frame.proofs.reading.read_request.Goals as goal

pub returns-then-h-lt1 : goal.returns-then-h-lt1
returns-then-h-lt1 c = reply_below _ request_ready _ _ (passed _ c.ranges.number _ c.version_of-h.ensures) _ _ c.if-h-lt1.true _ c.at.ensures

pub returns-then-h-gt2 : goal.returns-then-h-gt2
returns-then-h-gt2 c = reply_above _ request_ready _ _ (passed _ c.ranges.number _ c.version_of-h.ensures) _ _ c.if-h-gt2.true _ c.at-then-h-gt2.ensures

pub returns-in_err-all : goal.returns-in_err-all
returns-in_err-all c = handed of_request _ _ c.from_residual.ensures _ (reply_size _ request_ready _ _ (passed _ c.ranges.number _ c.version_of-h.ensures) _ _ (omega arith) (omega arith) _ c.in_err-all.ensures)

pub slice_bounds-frame-end : goal.slice_bounds-frame-end
slice_bounds-frame-end c = frame_long _ _ _ c.in_ok-all.ensures

pub returns-in_err-request : goal.returns-in_err-request
returns-in_err-request c = handed of_request _ _ c.from_residual-in_err-request.ensures _ (frame_no _ request_ready _ _ (passed _ c.ranges.number _ c.version_of-h.ensures) _ _ (omega arith) (omega arith) _ _ c.in_ok-all.ensures _ refl _ c.request_header.new.table (search rules) _ c.in_err-request.ensures _ refl)

pub overflow_sub-body : goal.overflow_sub-body
overflow_sub-body c = used_fits _ request_ready c.args.number _ (passed _ c.ranges.number _ c.version_of-h.ensures) _ c.args.tags.now (omega arith) (omega arith) _ _ c.in_ok-all.ensures _ refl _ c.request_header.new.table (search rules) _ c.in_ok-request.ensures _ _ _ refl

pub returns-then-request-eq0 : goal.returns-then-request-eq0
returns-then-request-eq0 c = frame_bare _ request_ready _ _ (passed _ c.ranges.number _ c.version_of-h.ensures) _ _ (omega arith) (omega arith) _ _ c.in_ok-all.ensures _ refl _ c.request_header.new.table (search rules) _ c.in_ok-request.ensures _ _ _ refl c.if-request-eq0.true

pub returns-then-tags-request : goal.returns-then-tags-request
returns-then-tags-request c = frame_needs _ request_ready _ _ (passed _ c.ranges.number _ c.version_of-h.ensures) _ _ (omega arith) (omega arith) _ _ c.in_ok-all.ensures _ refl _ c.request_header.new.table (search rules) _ c.in_ok-request.ensures _ _ _ refl c.if-tags-request.true _ c.no_room.ensures

pub request_header-requires-2 : goal.request_header-requires-2
request_header-requires-2 c = (omega arith, omega arith)

pub returns : goal.returns
returns c = frame_took _ request_ready _ _ (passed _ c.ranges.number _ c.version_of-h.ensures) _ _ (omega arith) (omega arith) _ _ c.in_ok-all.ensures _ refl _ c.request_header.new.table (search rules) _ c.in_ok-request.ensures _ _ _ refl c.if-tags-request.false _ _ (leaves of_request _ _ c.request_header-2.result) c.request_header-2.ensures
