-- Sizes up to the limit have a small product.
use native.Mathlib.Omega.{arith}
use Rattle.fetch_request.proofs.Most.{product_small}
use Rattle.fetch_request.proofs.writing.most_bytes.Goals as goal

pub overflow_mul-result : goal.overflow_mul-result
overflow_mul-result c = omega (arith, product_small c.args.topics c.args.lent c.if-topics-gt-MOST.false c.if-lent-gt-MOST.false, c.if-partitions-gt-MOST.false)

pub overflow_add-result-3 : goal.overflow_add-result-3
overflow_add-result-3 c = omega (arith, product_small c.args.topics c.args.lent c.if-topics-gt-MOST.false c.if-lent-gt-MOST.false, c.if-partitions-gt-MOST.false)

pub overflow_add-result-4 : goal.overflow_add-result-4
overflow_add-result-4 c = omega (arith, product_small c.args.topics c.args.lent c.if-topics-gt-MOST.false c.if-lent-gt-MOST.false, c.if-partitions-gt-MOST.false)
