use Prim.Native.Nat.{◌≤◌}
use Rattle.rows.specs.Rows.{idle}
use Rattle.rows.proofs.idle_rows.Given as goal

abbrev pub invariant-loop-first : goal.invariant-loop-first
invariant-loop-first l = (l.first ≤ idle l.n l.left)
