use lib.ListN.{length}
use native.Mathlib.Omega.{arith}
use Rattle.primitives_put.proofs.Shortest.{unsigned_length}
use Rattle.tagged_fields.proofs.Tags.{data_put}
use borrow.Author.Rules.{rules}
use Rattle.tagged_fields.proofs.writing.put_data.Goals as goal

pub overflow_add-result : goal.overflow_add-result
overflow_add-result c = omega (arith, c.unsigned_varint-a.ensures.count, c.raw-b.ensures.count, unsigned_length (length c.args.content.now))

pub returns : goal.returns
returns c = search (rules, data_put)
