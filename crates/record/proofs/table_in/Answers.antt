use Rattle.std.proofs.Common.{◌≡◌, ◌∙◌, ◌-◌, ◌+◌, min, arith}
use Rattle.seq.specs.Places.{at, over}
use Rattle.record.proofs.Record.{spelt_more, spelt_min}
use Rattle.record.specs.Record.{row_place, column, rows_spelt}
use Rattle.record.proofs.table_in.Goals as goal

pub loop-i-init : goal.loop-i-init
unfolding rows_spelt column over
loop-i-init c = rw (c.zeros-x.ensures, c.from-n.ensures, c.byte.ensures)

pub loop-i-preserved : goal.loop-i-preserved
loop-i-preserved c =
    let l = c.loop-i in
    let s = c.args.s.now in
    spelt_more s l.i ((row_place l.i + 6) - row_place l.i) l.x c.row_in-r.result (omega arith) l.invariant c.row_in-r.ensures

pub returns : goal.returns
returns c =
    let l = c.loop-i in
    let s = c.args.s.now in
    let e : l.i ≡ min (at s 3) 16 = omega (arith, c.min-i-end.ensures, c.from-n.ensures, c.byte.ensures) in
    l.invariant ∙ rw e (spelt_min s)
