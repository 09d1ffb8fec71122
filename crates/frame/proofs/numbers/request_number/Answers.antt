-- Another key than that of ApiVersions, and its versions below 3, have header 1.
use Rattle.frame.proofs.Chosen.{number_early, number_late, number_other}
use Rattle.frame.proofs.numbers.request_number.Goals as goal

pub returns-then-key-ne-API_VERSIONS : goal.returns-then-key-ne-API_VERSIONS
returns-then-key-ne-API_VERSIONS c = number_other c.args.key c.args.version c.if-key-ne-API_VERSIONS.true

pub returns-then-version-lt3 : goal.returns-then-version-lt3
returns-then-version-lt3 c = number_early c.args.key c.args.version c.ranges.version c.if-version-lt3.true

pub returns : goal.returns
returns c = number_late c.args.key c.args.version c.ranges.version c.ranges.key c.if-key-ne-API_VERSIONS.false c.if-version-lt3.false
