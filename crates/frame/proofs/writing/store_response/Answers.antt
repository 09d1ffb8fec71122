-- Header and body are measured, checked and written after their size.
use native.Mathlib.Omega.{arith}
use Rattle.layout.specs.Messages.Headers.{response}
use Rattle.frame.proofs.ResponseWritten.{response_rows_lem}
use Rattle.frame.proofs.Written.{frame_long, frame_short, frame_stored}
use Rattle.frame.proofs.writing.store_response.Goals as goal

pub put_response-size-requires : goal.put_response-size-requires
put_response-size-requires c = (c.requires.0, response_rows_lem _ _ _ _ c.requires.1)

pub returns-then-size-gt-MOST : goal.returns-then-size-gt-MOST
returns-then-size-gt-MOST c = frame_long response _ _ _ _ _ (omega arith) c.requires.0 c.requires.1 c.put_response-size.ensures _ c.at.ensures c.if-size-gt-MOST.true

pub returns-then-out-size : goal.returns-then-out-size
returns-then-out-size c = frame_short response _ _ _ _ _ (omega arith) c.requires.0 c.requires.1 c.put_response-size.ensures c.if-size-gt-MOST.false _ c.no_room.ensures c.if-out-size.true

pub put_response-requires : goal.put_response-requires
put_response-requires c = (c.requires.0, response_rows_lem _ _ _ _ c.requires.1)

pub returns : goal.returns
returns c = frame_stored response _ _ _ _ _ (omega arith) c.requires.0 c.requires.1 c.put_response-size.ensures c.if-size-gt-MOST.false c.if-out-size.false c.lowest.ensures c.put_response.ensures
