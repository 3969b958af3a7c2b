use Rattle.std.proofs.Common.{sym, ◌∙◌, arith}
use Rattle.record.proofs.Record.{head_taken}
use Rattle.record.proofs.table_read.Goals as goal

pub table_in-x-requires : goal.table_in-x-requires
table_in-x-requires c = omega (arith, (head_taken c.args.s.now (sym c.head.ensures ∙ c.in_ok-head.was)).2)
