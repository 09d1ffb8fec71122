-- Header and body are measured, checked and written after their size.
use Rattle.layout.specs.Messages.Headers.{request}
use Rattle.frame.proofs.RequestWritten.{request_rows_lem}
use Rattle.frame.proofs.Written.{frame_long, frame_short, frame_stored}
use Rattle.frame.proofs.writing.store_request.Goals as goal

pub put_request-all-requires : goal.put_request-all-requires
put_request-all-requires c = (c.requires.0, c.requires.1, request_rows_lem c.args.header c.args.tags.now _ _ c.requires.2)

pub returns-then-all-gt-MOST : goal.returns-then-all-gt-MOST
returns-then-all-gt-MOST c = frame_long request _ _ _ _ _ c.requires.0 c.requires.1 c.requires.2 c.put_request-all.ensures _ c.at.ensures c.if-all-gt-MOST.true

pub returns-then-out-all : goal.returns-then-out-all
returns-then-out-all c = frame_short request _ _ _ _ _ c.requires.0 c.requires.1 c.requires.2 c.put_request-all.ensures c.if-all-gt-MOST.false _ c.no_room.ensures c.if-out-all.true

pub put_request-requires : goal.put_request-requires
put_request-requires c = (c.requires.0, c.requires.1, request_rows_lem c.args.header c.args.tags.now _ _ c.requires.2)

pub returns : goal.returns
returns c = frame_stored request _ _ _ _ _ c.requires.0 c.requires.1 c.requires.2 c.put_request-all.ensures c.if-all-gt-MOST.false c.if-out-all.false c.lowest.ensures c.put_request.ensures
