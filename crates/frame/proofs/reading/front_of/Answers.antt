-- Four fields, one after the other.
use mathlib.Core.Path.{◌∙◌}
use Rattle.primitives.proofs.Up.{up}
use Rattle.frame.specs.Walks.{of_front}
use Rattle.frame.proofs.Rows.{client_no, correlation_no, front_took, key_no, version_no}
use Rattle.frame.proofs.reading.front_of.Goals as goal

pub returns-in_err-key : goal.returns-in_err-key
returns-in_err-key c = up of_front _ _ c.from_residual.ensures ∙ key_no _ _ c.in_err-key.ensures

pub returns-in_err-version : goal.returns-in_err-version
returns-in_err-version c = up of_front _ _ c.from_residual-in_err-version.ensures ∙ version_no _ _ _ c.in_ok-key.ensures _ c.in_err-version.ensures

pub returns-in_err-correlation : goal.returns-in_err-correlation
returns-in_err-correlation c = up of_front _ _ c.from_residual-in_err-correlation.ensures ∙ correlation_no _ _ _ c.in_ok-key.ensures _ _ c.in_ok-version.ensures _ c.in_err-correlation.ensures

pub returns-in_err-client : goal.returns-in_err-client
returns-in_err-client c = up of_front _ _ c.from_residual-in_err-client.ensures ∙ client_no _ _ _ c.in_ok-key.ensures _ _ c.in_ok-version.ensures _ _ c.in_ok-correlation.ensures _ c.in_err-client.ensures

pub returns : goal.returns
returns c = front_took _ _ _ c.in_ok-key.ensures _ _ c.in_ok-version.ensures _ _ c.in_ok-correlation.ensures _ _ c.in_ok-client.ensures
