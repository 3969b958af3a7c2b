use Rattle.std.proofs.Common.{rules}
use Rattle.record.specs.Record.{rows_bytes}
use Rattle.record.proofs.Record.{rows_more}
use Rattle.writer.proofs.put_rows.Goals as goal

pub loop-i-init : goal.loop-i-init
unfolding rows_bytes
loop-i-init c = search rules

pub loop-i-preserved : goal.loop-i-preserved
loop-i-preserved c =
    let l = c.loop-i in
    rw (c.put_row.ensures, c.row.ensures, l.invariant) (rows_more c.args.x.now.table c.args.b.now l.i)
