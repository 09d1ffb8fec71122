-- Each family writes its kinds, whatever is given that they do not take; behind the last there is none.
use mathlib.Core.Path.{◌∙◌}
use native.Mathlib.Omega.{arith}
use Rattle.gateway_primitives.proofs.ByKind.{counts_take, no_write, numbers_take, parts_take}
use Rattle.gateway_primitives.proofs.write_kind.primitive.Goals as goal

pub returns-then-kind-lt4 : goal.returns-then-kind-lt4
returns-then-kind-lt4 c = c.integers.ensures ∙ numbers_take c.args.kind _ _ _ _ (omega arith)

pub returns-then-kind-lt8 : goal.returns-then-kind-lt8
returns-then-kind-lt8 c = c.others.ensures ∙ numbers_take c.args.kind _ _ _ _ (omega arith)

pub returns-then-kind-lt10 : goal.returns-then-kind-lt10
returns-then-kind-lt10 c = c.counts.ensures ∙ counts_take c.args.kind _ _ _ _ (omega arith) (omega arith)

pub returns-then-kind-lt14 : goal.returns-then-kind-lt14
returns-then-kind-lt14 c = c.blobs.ensures ∙ parts_take c.args.kind _ _ _ _ (omega arith) (omega arith)

pub returns-then-kind-lt18 : goal.returns-then-kind-lt18
returns-then-kind-lt18 c = c.texts.ensures ∙ parts_take c.args.kind _ _ _ _ (omega arith) (omega arith)

pub returns : goal.returns
returns c = no_write c.args.kind (omega arith) _ _ _ _ _ c.at.ensures
