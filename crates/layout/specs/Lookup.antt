-- Address lookup: the host of a node in a message read as a Metadata response. Assumes nothing.
use Rattle.std.specs.Prelude.{false, List, [], ℕ, get_or, ℤ}
use Rattle.std.proofs.Math.Option.{Option, none, some}
use Rattle.layout.specs.Reading.{Refusal, Res, ok, bad}
use Rattle.layout.specs.Tables.{Tables, first_row, rows_of}
use Rattle.layout.specs.Answers.{seen}
use Rattle.layout.specs.Messages.Metadata.{response}

-- the prefix read's refusal, no such node, or the part of the message that is its host: start and length
pub data Host : Type 0 where
  refused : Refusal → Host
  unknown : Host
  found : ℕ → ℕ → Host

abbrev pub host_of : Option (List ℕ) → Host
host_of none = unknown
host_of (some r) = found (get_or r 1 0) (get_or r 2 0)

-- the first broker row with that number: seven cells, of which the node, and the host's start and length come first
abbrev pub host_in : ℕ → Res Tables → Host
host_in node (bad e) = refused e
host_in node (ok st n) = host_of (first_row node (rows_of 7 (get_or st 1 [])))

-- no tables are lent, so 10 is not given; node is a cell
unfoldable pub lookup : ℕ → ℤ → List ℕ → Host
lookup node v s = host_in node (seen false response v s)
