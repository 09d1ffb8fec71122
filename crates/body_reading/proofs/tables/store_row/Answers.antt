-- All cells at once, none, or each where there is room for it.
use Rattle.std.proofs.Common.{◌≡◌, ◌+◌, arith, ap, ◌∙◌, sym, ℕ, length, rules}
use lib.Seq.{take_all}
use Rattle.body_reading.specs.Store.{store, tab}
use Rattle.body_reading.proofs.Stores.{store_more, store_nothing, store_past}
use Rattle.body_reading.proofs.tables.store_row.Goals as goal

pub returns-then-mark : goal.returns-then-mark
returns-then-mark g c = let h : length c.args.row ≡ g.row.N = search rules in
    ap (λ (n : ℕ). tab c.args.table.now (c.args.mark + n)) (sym h) ∙ store_past _ c.args.row c.args.mark (omega arith) (omega arith)

pub loop-i-init : goal.loop-i-init
loop-i-init g c = store_nothing _ _

pub loop-i-preserved : goal.loop-i-preserved
loop-i-preserved g c = let h : length c.args.row ≡ g.row.N = search rules in
    store_more _ c.args.row c.loop-i.i (omega arith) _ _ c.loop-i.invariant c.store-next.ensures

pub returns : goal.returns
returns g c = let h : length c.args.row ≡ g.row.N = search rules in
    c.loop-i.invariant ∙ ap (store (tab c.args.table.now c.args.mark)) (take_all c.loop-i.i c.args.row (omega arith))
