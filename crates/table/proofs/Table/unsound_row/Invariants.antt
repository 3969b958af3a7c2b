use Rattle.std.proofs.Common.{◌≤◌}
use Rattle.table.specs.Form.{unsound_row}
use Rattle.table.proofs.Table.unsound_row.Given as goal

abbrev pub invariant-loop-i : goal.invariant-loop-i
invariant-loop-i l = l.i ≤ unsound_row l.self.n l.self.c l.self.t l.self.d
