use Rattle.std.proofs.Common.{◌≡◌, ◌≤◌, replicate}
use Rattle.allowance.specs.Test.{lacking_row, filled}
use Rattle.allowance.proofs.row_rooms.Given as goal

abbrev pub invariant-loop-i : goal.invariant-loop-i
invariant-loop-i l = (l.i ≤ lacking_row l.x.table.c l.x.table.t l.x.table.d l.x.table.n) × (l.each ≡ filled l.x.table.c l.x.table.t l.x.table.d l.i (replicate 16 0))
