-- Below 0 it is above all versions that there are; else it is its own number.
use Rattle.primitives.proofs.Versions.{version_below, version_cast, version_itself}
use Rattle.primitives.proofs.version_of.Goals as goal

pub returns-then-version-lt0 : goal.returns-then-version-lt0
returns-then-version-lt0 c = version_below _ c.ranges.version c.if-version-lt0.true

pub overflow_cast-result : goal.overflow_cast-result
overflow_cast-result c = version_cast _ c.ranges.version c.if-version-lt0.false

pub returns : goal.returns
returns c = version_itself _ c.ranges.version c.if-version-lt0.false
