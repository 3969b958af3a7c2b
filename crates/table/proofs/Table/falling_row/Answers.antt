use Rattle.std.proofs.Common.{arith, min, ◌<◌}
use borrow.Author.Tests.{le-leb, lt-leb}
use Rattle.seq.proofs.Places.{lead_miss, below_hit}
use Rattle.table.specs.Form.{rising, falling_row}
use Rattle.table.proofs.Table.falling_row.Goals as goal

pub returns-then-self-i : goal.returns-then-self-i
unfolding falling_row
returns-then-self-i c =
    let l = c.loop-i in
    let x = c.args.self.now in
    let m = c.min-i-end.ensures in
    let e = c.saturating_sub-before.ensures in
    below_hit (min x.n 16) (rising x.t) l.i (omega arith) (rw e at (lt-leb _ _ c.if-self-i.true)) l.invariant

pub loop-i-preserved : goal.loop-i-preserved
unfolding falling_row
loop-i-preserved c =
    let l = c.loop-i in
    let x = c.args.self.now in
    let m = c.min-i-end.ensures in
    let e = c.saturating_sub-before.ensures in
    let i : l.i < min x.n 16 = omega arith in
    omega (arith, lead_miss (min x.n 16) (rising x.t) l.i i (rw e at (le-leb _ _ c.if-self-i.false)) l.invariant)
