-- What is left from the start on, cut where the part ends inside it.
use mathlib.Core.Path.{◌∙◌, ap, sym}
use lib.ListN.{take}
use lib.Seq.{length-take-le, take_all}
use Rattle.layout.specs.Tables.{slice}
use borrow.Author.Rules.{rules}
use Rattle.primitives.proofs.shown.part.Goals as goal

pub slice_bounds-result-end : goal.slice_bounds-result-end
slice_bounds-result-end c = sym (length-take-le c.args.len c.rest-left.result.now (search rules))

pub returns-then-len-left : goal.returns-then-len-left
unfolding slice
returns-then-len-left c = ap (take c.args.len) c.rest-left.ensures

pub returns-else-len-left : goal.returns-else-len-left
unfolding slice
returns-else-len-left c = sym (take_all c.args.len c.rest-left.result.now (search rules)) ∙ ap (take c.args.len) c.rest-left.ensures
