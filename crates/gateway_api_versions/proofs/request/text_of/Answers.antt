-- Kind 0 is unset, any other present.
use mathlib.Core.Path.{ap, sym}
use Prim.Native.Nat.{ℕ}
use Rattle.gateway_api_versions.proofs.Rows.{present_text}
use Rattle.gateway_api_versions.specs.Replies.{text_row}
use Rattle.gateway_api_versions.proofs.request.text_of.Goals as goal

pub returns-then-kind-eq0 : goal.returns-then-kind-eq0
unfolding text_row
returns-then-kind-eq0 c = ap (λ (k : ℕ). text_row k c.args.start c.args.length) (sym c.if-kind-eq0.true)

pub returns : goal.returns
returns c = present_text _ _ _ c.if-kind-eq0.false
