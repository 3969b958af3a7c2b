use Rattle.std.proofs.Common.{◌≡◌}
use Rattle.record.specs.Record.{rows_spelt}
use Rattle.record.proofs.table_in.Given as goal

abbrev pub invariant-loop-i : goal.invariant-loop-i
invariant-loop-i l = l.x ≡ rows_spelt l.s l.i
