-- The measure refuses what the prefix read refuses but for room; what it accepts is searched.
use mathlib.Core.Path.{◌∙◌}
use mir.Facts.{to_z-of_z}
use Rattle.layout.specs.Messages.Metadata as Meta
use Rattle.primitives.proofs.Up.{up}
use Rattle.primitives.proofs.Versions.{passed}
use Rattle.body_reading.proofs.Metered.{metered_same}
use Rattle.metadata_lookup.specs.Hosts.{of_host}
use Rattle.metadata_lookup.proofs.Bodies.{answer_no, answer_took}
use Rattle.metadata_lookup.proofs.host_of.Goals as goal

pub returns-in_err-measure : goal.returns-in_err-measure
returns-in_err-measure c = up of_host _ _ c.from_residual.ensures ∙ answer_no _ _ _ _ (metered_same Meta.response _ _ _ (to_z-of_z c.ranges.version) _ c.in_err-measure.ensures)

pub returns : goal.returns
returns c = answer_took _ _ _ _ _ (metered_same Meta.response _ _ _ (to_z-of_z c.ranges.version) _ c.in_ok-measure.ensures) _ (passed _ c.ranges.version _ c.version_of-v.ensures) _ c.host_in.ensures
