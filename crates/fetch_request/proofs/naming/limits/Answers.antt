-- The level is the field after max bytes, where the version has them.
use mathlib.Core.Path.{◌∙◌, ap, sym}
use Prim.Native.Nat.{ℕ}
use Rattle.std.specs.Prelude.{Option, is_some, unwrap_or}
use Rattle.fetch_request.proofs.Blamed.{fault_of, in_largest, no_largest, past_largest}
use Rattle.fetch_request.proofs.naming.limits.Goals as goal

pub returns-in_default : goal.returns-in_default
returns-in_default c = no_largest _ _ _ _ _ (ap is_some c.in_default.is) _ c.isolation.ensures

pub returns-then-number_fault-e : goal.returns-then-number_fault-e
returns-then-number_fault-e c = in_largest _ _ _ _ _ (ap is_some c.in-Some.is) _ (c.number_fault.ensures ∙ ap (λ (o : Option ℕ). fault_of (unwrap_or o 0)) (sym c.in-Some.is)) c.if-number_fault-e.true

pub returns : goal.returns
returns c = past_largest _ _ _ _ _ (ap is_some c.in-Some.is) _ (c.number_fault.ensures ∙ ap (λ (o : Option ℕ). fault_of (unwrap_or o 0)) (sym c.in-Some.is)) c.if-number_fault-e.false _ c.isolation-2.ensures
