-- The promises of the entry points determine the replies, with the table. Those of the writers do by `written_unique` of `gateway`.
use mathlib.Core.Path.{◌≡◌}
use Rattle.layout.specs.Tables.{Tables}
use Rattle.gateway.proofs.Unique.{unique}
use Rattle.gateway_primitives.specs.declared.PrimitiveNumbers.{PrimitiveNumbers}
use Rattle.gateway_primitives.specs.declared.TagsNumbers.{TagsNumbers}

pub tags_unique : (o x y : TagsNumbers × Tables) → x ≡ o → y ≡ o → x ≡ y
tags_unique = unique

pub primitive_unique : (o x y : PrimitiveNumbers) → x ≡ o → y ≡ o → x ≡ y
primitive_unique = unique
