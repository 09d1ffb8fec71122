use mathlib.Core.Path.{ap}
use lib.Dec.{eqb}
use lib.ListN.{length}
use Rattle.layout.specs.Utf8.{utf8}
use Rattle.utf8.proofs.is_text.Goals as goal

pub returns : goal.returns
unfolding utf8
returns c = ap (λ n. eqb n (length c.args.s.now)) c.well_formed-2.ensures
