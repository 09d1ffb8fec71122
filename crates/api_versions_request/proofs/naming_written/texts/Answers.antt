-- The name is compared before the version, at versions that have them.
use Rattle.api_versions_request.proofs.NamedWritten.{name_here, texts_lacking, texts_past, version_here}
use Rattle.api_versions_request.proofs.naming_written.texts.Goals as goal

pub returns-then-not-flexible : goal.returns-then-not-flexible
returns-then-not-flexible c = texts_lacking _ _ c.args.flexible c.args.name c.args.version c.if-not-flexible.true

pub returns-then-compact_fault-e : goal.returns-then-compact_fault-e
returns-then-compact_fault-e c = name_here _ _ c.args.flexible c.args.name c.args.version c.if-not-flexible.false c.bytes_of.ensures _ c.compact_fault.ensures c.if-compact_fault-e.true

pub returns-then-compact_fault-e-2 : goal.returns-then-compact_fault-e-2
returns-then-compact_fault-e-2 c = version_here _ _ c.args.flexible c.args.name c.args.version c.if-not-flexible.false c.bytes_of.ensures _ c.compact_fault.ensures c.if-compact_fault-e.false c.bytes_of-2.ensures _ c.compact_fault-2.ensures c.if-compact_fault-e-2.true

pub returns : goal.returns
returns c = texts_past _ _ c.args.flexible c.args.name c.args.version c.if-not-flexible.false c.bytes_of.ensures _ c.compact_fault.ensures c.if-compact_fault-e.false c.bytes_of-2.ensures _ c.compact_fault-2.ensures c.if-compact_fault-e-2.false
