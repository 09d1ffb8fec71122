-- Three numbers, one after the other.
use mathlib.Core.Path.{◌∙◌}
use Rattle.primitives.proofs.Up.{up}
use Rattle.api_versions_response.specs.ItemWalks.{of_key}
use Rattle.api_versions_response.proofs.BareRows.{key_no, key_took, max_no, min_no}
use Rattle.api_versions_response.proofs.items.key_at.Goals as goal

pub returns-in_err-key : goal.returns-in_err-key
returns-in_err-key c = up of_key _ _ c.from_residual.ensures ∙ key_no _ _ _ c.in_err-key.ensures

pub returns-in_err-min : goal.returns-in_err-min
returns-in_err-min c = up of_key _ _ c.from_residual-in_err-min.ensures ∙ min_no _ _ _ _ c.in_ok-key.ensures _ c.in_err-min.ensures

pub returns-in_err-max : goal.returns-in_err-max
returns-in_err-max c = up of_key _ _ c.from_residual-in_err-max.ensures ∙ max_no _ _ _ _ c.in_ok-key.ensures _ _ c.in_ok-min.ensures _ c.in_err-max.ensures

pub returns : goal.returns
returns c = key_took _ _ _ _ c.in_ok-key.ensures _ _ c.in_ok-min.ensures _ _ c.in_ok-max.ensures
