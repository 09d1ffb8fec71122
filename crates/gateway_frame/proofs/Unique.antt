-- The promises determine the replies, with the tables. Those of the writers do by `written_unique` of `gateway`.
use mathlib.Core.Path.{◌≡◌}
use Rattle.layout.specs.Tables.{Tables}
use Rattle.gateway.proofs.Unique.{unique}
use Rattle.gateway_frame.specs.declared.RequestFrameNumbers.{RequestFrameNumbers}
use Rattle.gateway_frame.specs.declared.ResponseFrameNumbers.{ResponseFrameNumbers}

pub request_unique : (o x y : RequestFrameNumbers × Tables) → x ≡ o → y ≡ o → x ≡ y
request_unique = unique

pub response_unique : (o x y : ResponseFrameNumbers × Tables) → x ≡ o → y ≡ o → x ≡ y
response_unique = unique
