use Rattle.std.proofs.Common.{sym, ◌∙◌, length}
use Rattle.table.proofs.Verdicts.{granted_ok}
use Rattle.record.specs.Record.{row_place, write_verdict, written_of}
use Rattle.writer.proofs.write.Goals as goal

pub returns-in-Ok : goal.returns-in-Ok
unfolding written_of
returns-in-Ok c =
    let a = c.args in
    let v = granted_ok (write_verdict a.x (length a.b.now)) (row_place a.x.n) _ (sym c.put_record.ensures.0 ∙ c.in-Ok.is) in
    (rw (v.0, v.1), c.put_record.ensures.1)
