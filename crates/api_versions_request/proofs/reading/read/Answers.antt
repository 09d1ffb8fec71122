-- Version, size, bytes, room, rows: each way out is a law of all messages, at the message of the request.
use native.Mathlib.Omega.{arith}
use Rattle.layout.specs.Answers.{prefix_read}
use Rattle.layout.specs.Messages.ApiVersions as Api
use Rattle.primitives.proofs.Up.{is_err_of}
use Rattle.body_reading.proofs.Admission.{known_as, unread, within}
use Rattle.api_versions_request.proofs.Replies.{reply_needs, reply_no, reply_took}
use borrow.Author.Rules.{rules}
use Rattle.api_versions_request.proofs.reading.read.Goals as goal

pub returns-in_err-v : goal.returns-in_err-v
unfolding prefix_read
returns-in_err-v c = rw (is_err_of _ _ c.from_residual.ensures) (unread Api.request (omega arith) _ c.ranges.version c.args.msg.now _ c.admit.ensures _ c.in_err-v.was _ _)

pub body-requires : goal.body-requires
body-requires c = (within Api.request (omega arith) _ c.ranges.version c.args.msg.now _ c.admit.ensures _ c.in_ok-v.was).0

pub body-requires-2 : goal.body-requires-2
body-requires-2 c = (within Api.request (omega arith) _ c.ranges.version c.args.msg.now _ c.admit.ensures _ c.in_ok-v.was).0

pub returns-in_err-walked : goal.returns-in_err-walked
returns-in_err-walked c = rw (is_err_of _ _ c.from_residual-in_err-walked.ensures) (reply_no _ _ (known_as Api.request (omega arith) _ c.ranges.version c.args.msg.now _ c.admit.ensures _ c.in_ok-v.was) (within Api.request (omega arith) _ c.ranges.version c.args.msg.now _ c.admit.ensures _ c.in_ok-v.was).0 _ _ (within Api.request (omega arith) _ c.ranges.version c.args.msg.now _ c.admit.ensures _ c.in_ok-v.was).1 _ _ _ c.body.ensures (search rules) _ c.in_err-walked.was)

pub returns-then-tags-walked : goal.returns-then-tags-walked
returns-then-tags-walked c = reply_needs _ _ (known_as Api.request (omega arith) _ c.ranges.version c.args.msg.now _ c.admit.ensures _ c.in_ok-v.was) (within Api.request (omega arith) _ c.ranges.version c.args.msg.now _ c.admit.ensures _ c.in_ok-v.was).0 _ _ (within Api.request (omega arith) _ c.ranges.version c.args.msg.now _ c.admit.ensures _ c.in_ok-v.was).1 _ _ _ c.body.ensures (search rules) _ c.in_ok-walked.was c.if-tags-walked.true _ c.no_room.ensures

pub returns : goal.returns
returns c = reply_took _ _ (known_as Api.request (omega arith) _ c.ranges.version c.args.msg.now _ c.admit.ensures _ c.in_ok-v.was) (within Api.request (omega arith) _ c.ranges.version c.args.msg.now _ c.admit.ensures _ c.in_ok-v.was).0 _ _ (within Api.request (omega arith) _ c.ranges.version c.args.msg.now _ c.admit.ensures _ c.in_ok-v.was).1 _ _ _ c.body.ensures (search rules) _ c.in_ok-walked.was c.if-tags-walked.false _ c.body-2.result c.body-2.ensures
