-- So many bytes are left and are text; or they are too few, which is refused at the length's start, or not text, which is refused where their longest well-formed beginning ends.
use mathlib.Core.Path.{◌∙◌, ap, sym}
use native.Mathlib.Omega.{arith}
use lib.ListN.{length, length-drop}
use lib.Seq.{length-take-le}
use Rattle.primitives.proofs.Behind.{front_inside, text_is, text_not, text_short}
use borrow.Author.Rules.{rules}
use Rattle.primitives.proofs.texts.characters.Goals as goal

pub returns-then-left-count : goal.returns-then-left-count
returns-then-left-count c = text_short _ _ _ _ c.rest-left.ensures _ c.at.ensures (search rules)

pub slice_bounds-well_formed-end : goal.slice_bounds-well_formed-end
slice_bounds-well_formed-end c = sym (length-take-le c.args.count c.rest-left.result.now (search rules))

pub overflow_add-result : goal.overflow_add-result
overflow_add-result c = omega (arith, ap length c.rest-left.ensures, length-drop c.args.used c.args.s.now)

pub returns-then-good-len : goal.returns-then-good-len
returns-then-good-len c = text_is _ _ _ _ c.rest-left.ensures (search rules) (sym c.well_formed-good.ensures ∙ c.if-good-len.true)

pub overflow_add-used : goal.overflow_add-used
overflow_add-used c = let g = front_inside c.rest-left.result.now c.args.count (search rules) _ c.well_formed-good.ensures in
    omega (arith, g, ap length c.rest-left.ensures, length-drop c.args.used c.args.s.now)

pub returns : goal.returns
returns c = text_not _ _ _ _ c.rest-left.ensures (search rules) _ c.well_formed-good.ensures c.if-good-len.false _ c.at-2.ensures
