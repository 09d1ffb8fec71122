-- What the three whole reads promise leaves room for one that accepts.
use Rattle.api_versions_response.proofs.FearedNight.{counted_once}
use Rattle.feared_night.proofs.layouts.Goals as goal

pub returns : goal.returns
returns c =
    counted_once _ _ _ _ _ _ _ c.read_whole.result c.read_whole-2.result c.read_whole-3.result _ _ _ c.accepts-bare.ensures c.accepts-throttled.ensures
    c.accepts-flexible.ensures c.read_whole.ensures c.read_whole-2.ensures c.read_whole-3.ensures
