-- The promises determine the replies, with the tables. Those of the writers do by `written_unique` of `gateway`.
use mathlib.Core.Path.{◌≡◌}
use Rattle.layout.specs.Tables.{Tables}
use Rattle.gateway.proofs.Unique.{unique}
use Rattle.gateway_api_versions.specs.declared.RequestNumbers.{RequestNumbers}
use Rattle.gateway_api_versions.specs.declared.ResponseNumbers.{ResponseNumbers}

pub response_unique : (o x y : ResponseNumbers × Tables) → x ≡ o → y ≡ o → x ≡ y
response_unique = unique

pub request_unique : (o x y : RequestNumbers × Tables) → x ≡ o → y ≡ o → x ≡ y
request_unique = unique
