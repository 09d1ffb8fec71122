-- What the entry points for primitives and tagged fields hand back: for each answer of the definitions the numbers of the struct. Assumes nothing.
use Rattle.std.specs.Prelude.{get_or}
use Rattle.layout.specs.Answers.{Answer}
use Rattle.gateway.specs.Replies.{numbers, row_of}
use Rattle.gateway_primitives.specs.declared.TagsNumbers.{TagsNumbers}
use Rattle.gateway_primitives.specs.declared.PrimitiveNumbers.{PrimitiveNumbers}

-- the own row is the number of tags
abbrev pub tags_numbers : Answer → TagsNumbers
tags_numbers a = record { number = (numbers a).number; place = (numbers a).place; need = (numbers a).need; used = (numbers a).used; tags = get_or (row_of a) 0 0 }

-- a primitive's form, value and length (Kinds.antt)
abbrev pub primitive_numbers : Answer → PrimitiveNumbers
primitive_numbers a = record { number = (numbers a).number; place = (numbers a).place; need = (numbers a).need; used = (numbers a).used; form = get_or (row_of a) 0 0; value = get_or (row_of a) 1 0; length = get_or (row_of a) 2 0 }
