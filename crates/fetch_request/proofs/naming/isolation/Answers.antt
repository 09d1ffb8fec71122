-- A version that has no level has no field to blame.
use mathlib.Core.Path.{◌∙◌, ap, sym}
use Prim.Native.Nat.{ℕ}
use Rattle.std.specs.Prelude.{Option, is_some, unwrap_or}
use Rattle.layout.specs.Rows as Rows
use Rattle.layout.specs.Write.{basic_fault}
use Rattle.fetch_request.proofs.Blamed.{in_level, no_level, past_level}
use Rattle.fetch_request.proofs.naming.isolation.Goals as goal

pub returns-in_default : goal.returns-in_default
returns-in_default c = no_level _ _ _ _ (ap is_some c.in_default.is)

pub returns-then-level_fault-e : goal.returns-then-level_fault-e
returns-then-level_fault-e c = in_level _ _ _ _ (ap is_some c.in-Some.is) _ (c.level_fault.ensures ∙ ap (λ (o : Option ℕ). basic_fault Rows.level (unwrap_or o 0)) (sym c.in-Some.is)) c.if-level_fault-e.true

pub returns : goal.returns
returns c = past_level _ _ _ _ (ap is_some c.in-Some.is) _ (c.level_fault.ensures ∙ ap (λ (o : Option ℕ). basic_fault Rows.level (unwrap_or o 0)) (sym c.in-Some.is)) c.if-level_fault-e.false
