-- The promises determine the replies, with the tables. That of the writer does by `written_unique` of `gateway`.
use mathlib.Core.Path.{◌≡◌}
use Rattle.layout.specs.Tables.{Tables}
use Rattle.gateway.proofs.Unique.{unique}
use Rattle.gateway_metadata.specs.declared.HostNumbers.{HostNumbers}
use Rattle.gateway_metadata.specs.declared.MetadataNumbers.{MetadataNumbers}

pub response_unique : (o x y : MetadataNumbers × Tables) → x ≡ o → y ≡ o → x ≡ y
response_unique = unique

pub host_unique : (o x y : HostNumbers) → x ≡ o → y ≡ o → x ≡ y
host_unique = unique
