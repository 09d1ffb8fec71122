-- The body goes to the rest after the tags, or to the front.
use Rattle.frame.proofs.Written.{end_lacking, end_there}
use Rattle.frame.proofs.writing.put_end.Goals as goal

pub returns-then-not-tagged : goal.returns-then-not-tagged
returns-then-not-tagged c = end_lacking c.args.tagged _ _ c.if-not-tagged.true c.raw.ensures

pub returns : goal.returns
returns c = end_there c.args.tagged _ _ c.if-not-tagged.false _ c.behind-p.ensures _ c.add.ensures c.tag_buffer-a.ensures c.raw-b.ensures
