-- An item whose last byte is 0 and before q is passed over at once.
use native.Mathlib.Omega.{arith}
use Rattle.api_versions_response.proofs.Sought.{passes}
use Rattle.api_versions_response.proofs.naming.is_passed.Goals as goal

pub returns-then-p-saturating_sub : goal.returns-then-p-saturating_sub
returns-then-p-saturating_sub c = passes _ _ _ _ (omega arith) c.is_bare.ensures
