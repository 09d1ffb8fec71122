use Rattle.std.proofs.Common.{refl, rules}
use Rattle.names.proofs.AtOnce.{tags_done, tags_found, tags_next, tags_start}
use Rattle.names.proofs.tags.tags.Goals as goal

pub loop-passed-init : goal.loop-passed-init
loop-passed-init c = (tags_start _ _ _ _ _ _, refl)

pub returns-in-Err : goal.returns-in-Err
returns-in-Err c = search (rules, tags_found)

pub loop-passed-preserved : goal.loop-passed-preserved
loop-passed-preserved c = (search (rules, tags_next), search rules)

pub returns : goal.returns
returns c = search (rules, tags_done)
