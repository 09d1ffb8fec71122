-- No high bit among eight bytes.
use Rattle.utf8.proofs.Eight.{eight}
use Rattle.utf8.proofs.is_ascii.Goals as goal

pub returns : goal.returns
returns c = eight _ _ c.shared_slice_known-1.given _ _ c.quad.ensures.0 c.quad-2.ensures.0
