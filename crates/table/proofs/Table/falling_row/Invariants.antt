use Rattle.std.proofs.Common.{◌≤◌}
use Rattle.table.specs.Form.{falling_row}
use Rattle.table.proofs.Table.falling_row.Given as goal

abbrev pub invariant-loop-i : goal.invariant-loop-i
invariant-loop-i l = l.i ≤ falling_row l.self.n l.self.t
