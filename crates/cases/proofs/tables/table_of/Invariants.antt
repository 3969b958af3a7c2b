use Rattle.std.proofs.Common.{◌≡◌}
use Rattle.cases.proofs.Filled.{filled}
use Rattle.cases.proofs.tables.table_of.Given as goal

abbrev pub invariant-loop-i : goal.invariant-loop-i
invariant-loop-i l = l.x ≡ filled l.rows l.n l.i
