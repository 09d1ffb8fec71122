-- The varint is one more than the length: 0 is null, and what the varint refuses is refused.
use mathlib.Core.Path.{◌∙◌, sym}
use Rattle.layout.specs.Primitives.{kept}
use Rattle.primitives.specs.Parts.{of_count}
use Rattle.primitives.proofs.Behind.{compact_bad, compact_null, compact_some}
use Rattle.primitives.proofs.Up.{up}
use Rattle.primitives.proofs.Varint.{placed_0}
use borrow.Author.Rules.{rules}
use Rattle.primitives.proofs.lengths.compact_length.Goals as goal

pub returns-in_err-value : goal.returns-in_err-value
returns-in_err-value c = let h = sym c.in_err-value.ensures in up of_count _ _ c.from_residual.ensures ∙ compact_bad kept _ _ h (placed_0 _ _ h)

pub returns-then-value-eq0 : goal.returns-then-value-eq0
returns-then-value-eq0 c = compact_null kept _ _ _ (sym c.in_ok-value.ensures) (search rules)

pub returns-else-value-eq0 : goal.returns-else-value-eq0
returns-else-value-eq0 c = compact_some kept _ _ _ (sym c.in_ok-value.ensures) (search rules)
