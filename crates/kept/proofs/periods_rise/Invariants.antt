use Rattle.std.proofs.Common.{◌≡◌, ◌≤◌, min}
use Rattle.seq.specs.Places.{every}
use Rattle.table.specs.Form.{rising}
use Rattle.kept.proofs.periods_rise.Given as goal

abbrev pub invariant-loop-i : goal.invariant-loop-i
invariant-loop-i l = (1 ≤ l.i) × (l.ok ≡ every (min l.i (min l.n 16)) (rising l.t))
