-- The promises determine the replies, with the tables. That of the writer does by `written_unique` of `gateway`.
use mathlib.Core.Path.{◌≡◌}
use Rattle.layout.specs.Tables.{Tables}
use Rattle.gateway.proofs.Unique.{unique}
use Rattle.gateway_fetch.specs.declared.FetchNumbers.{FetchNumbers}

pub response_unique : (o x y : FetchNumbers × Tables) → x ≡ o → y ≡ o → x ≡ y
response_unique = unique
