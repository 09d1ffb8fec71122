-- Before each turn the first i items stand there, up to p.
use Prim.Native.Nat.{◌-◌}
use lib.ListN.{length}
use Rattle.body_writing.proofs.Even.{Even}
use Rattle.api_versions_response.proofs.Untagged.{untagged_bytes}
use Rattle.api_versions_response.proofs.writing.untagged_rows.Given as goal

abbrev pub invariant-loop-out : goal.invariant-loop-out
invariant-loop-out l = Even (untagged_bytes l.flexible) l.width 4 l.items l.initial.out l.i l.p l.out

abbrev pub decreases-loop-out : goal.decreases-loop-out
decreases-loop-out l = length l.initial.out - l.p
