use Rattle.std.proofs.Common.{arith}
use Rattle.std.proofs.lemmas.List.{length-take}
use Rattle.cases.proofs.Filled.{filled_more}
use Rattle.cases.proofs.tables.table_of.Goals as goal

pub loop-i-preserved : goal.loop-i-preserved
loop-i-preserved c =
    let l = c.loop-i in
    let n = c.min-n.result in
    let rows = c.args.rows.now in
    filled_more rows n l.i l.x c.min-n.ensures (omega (arith, c.loop-i-test.true, length-take n rows)) l.invariant
