-- A text that is not UTF-8 has the fault 7.
use Rattle.body_writing.proofs.Faults.{unless_bad, unless_none}
use mathlib.Core.Bool.{Bool}
use mathlib.Core.Path.{ap}
use Rattle.layout.specs.Write.{unless}
use Rattle.api_versions_request.proofs.naming_written.compact_fault.Goals as goal

pub returns-then-is_text : goal.returns-then-is_text
returns-then-is_text c = unless_none _ 7 _ (ap (λ (b : Bool). unless b 7) c.is_text.ensures) c.if-is_text.true

pub returns : goal.returns
returns c = unless_bad _ 7 _ (ap (λ (b : Bool). unless b 7) c.is_text.ensures) c.if-is_text.false
