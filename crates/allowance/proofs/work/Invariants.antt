use Rattle.std.proofs.Common.{◌≡◌, ◌≤◌, ◌*◌}
use Rattle.seq.specs.Places.{at}
use Rattle.law.specs.Work.{W}
use Rattle.allowance.proofs.work.Given as goal

abbrev pub invariant-loop-h : goal.invariant-loop-h
invariant-loop-h l = (l.w ≡ W (at l.x.table.c) (at l.x.table.t) l.h l.m) × (l.w ≤ 33550336 * l.h)
