-- Each cell has room, and is stored after those before it.
use Rattle.std.proofs.Common.{◌≡◌, ◌+◌, arith, ap, ◌∙◌, sym, ℕ, length, rules}
use lib.Seq.{take_all}
use Rattle.body_reading.specs.Store.{store, tab}
use Rattle.body_reading.proofs.Stores.{store_none, store_on}
use Rattle.body_reading.proofs.tables.store_all.Goals as goal

pub loop-i-init : goal.loop-i-init
loop-i-init g c = store_none _ _

pub loop-i-preserved : goal.loop-i-preserved
loop-i-preserved g c = let h : length c.args.row ≡ g.row.N = search rules in
    store_on _ c.args.row c.loop-i.i (omega arith) c.loop-i.table c.args.mark (omega arith) c.loop-i.invariant

pub returns : goal.returns
returns g c = let h : length c.args.row ≡ g.row.N = search rules in
    let e : c.loop-i.i ≡ g.row.N = omega arith in
    ap (tab c.loop-i.table) (ap (λ (k : ℕ). c.args.mark + k) (sym e)) ∙ c.loop-i.invariant ∙ ap (store (tab c.args.table.now c.args.mark)) (take_all c.loop-i.i c.args.row (omega arith))
