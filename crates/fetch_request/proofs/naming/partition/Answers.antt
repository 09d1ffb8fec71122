-- The first and the third cell of a row; the second has no fault.
use mathlib.Core.Path.{◌≡◌}
use Prim.Native.Nat.{◌*◌, ◌+◌}
use native.Mathlib.Omega.{arith}
use lib.ListN.{get_or}
use Rattle.fetch_request.proofs.Blamed.{fault_of, in_index, in_none, in_size}
use Rattle.fetch_request.proofs.naming.partition.Goals as goal

pub returns-then-number_fault-e : goal.returns-then-number_fault-e
returns-then-number_fault-e c = in_index _ c.requires.0 _ (λ k. omega (arith, c.type_inv.table k)) _ c.requires.1 _ _ c.number_fault.ensures c.if-number_fault-e.true

pub returns-then-number_fault-e-2 : goal.returns-then-number_fault-e-2
returns-then-number_fault-e-2 c = let p : c.number_fault-2.result ≡ fault_of (get_or c.args.table.now (c.args.i * 3 + 2) 0) = c.number_fault-2.ensures in in_size _ c.requires.0 _ (λ k. omega (arith, c.type_inv.table k)) _ c.requires.1 _ _ c.number_fault.ensures c.if-number_fault-e.false _ p c.if-number_fault-e-2.true

pub returns : goal.returns
returns c = let p : c.number_fault-2.result ≡ fault_of (get_or c.args.table.now (c.args.i * 3 + 2) 0) = c.number_fault-2.ensures in in_none _ c.requires.0 _ (λ k. omega (arith, c.type_inv.table k)) _ c.requires.1 _ _ c.number_fault.ensures c.if-number_fault-e.false _ p c.if-number_fault-e-2.false
