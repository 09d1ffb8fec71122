-- The first and the third cell of a row.
use native.Mathlib.Omega.{arith}
use Rattle.fetch_request.proofs.Judgement.{small_told}
use Rattle.fetch_request.proofs.judge.is_small.Goals as goal

pub returns : goal.returns
returns c = small_told _ (λ k. omega (arith, c.shared_slice_known-1.given k)) _ c.requires _ c.both_small.ensures
