-- A count is one less than what is read, and null is none or refused.
use mathlib.Core.Path.{◌∙◌, ap}
use Prim.Native.Nat.{ℕ}
use Rattle.std.specs.Prelude.{Option}
use Rattle.primitives.specs.Answers.{of_number, taken}
use Rattle.body_reading.proofs.DataAt.{items_refused, no_items, null_items, some_items}
use Rattle.primitives.proofs.Up.{up}
use Rattle.body_reading.proofs.places.items.Goals as goal

pub returns-then-whole : goal.returns-then-whole
returns-then-whole c = null_items _ _ _ (c.in_ok-value.was ∙ ap (λ (v : Option ℕ). taken v c.in_ok-value.field-0.next) c.in-None.is) c.if-whole.true _ c.at.ensures

pub returns-in-Some : goal.returns-in-Some
returns-in-Some c = some_items _ _ _ _ (c.in_ok-value.was ∙ ap (λ (v : Option ℕ). taken v c.in_ok-value.field-0.next) c.in-Some.is)

pub returns-else-whole : goal.returns-else-whole
returns-else-whole c = no_items _ _ _ (c.in_ok-value.was ∙ ap (λ (v : Option ℕ). taken v c.in_ok-value.field-0.next) c.in-None.is) c.if-whole.false

pub returns-in_err-value : goal.returns-in_err-value
returns-in_err-value c = up of_number _ _ c.from_residual.ensures ∙ items_refused _ _ _ c.in_err-value.was
