use mathlib.Core.Path.{◌≡◌}
use mathlib.Core.Bool.{cond}
use Rattle.seq.specs.Places.{at, over}
use Rattle.seq.specs.Words.{bit}
use Rattle.rows.proofs.release.Given as goal

abbrev pub invariant-loop-i : goal.invariant-loop-i
invariant-loop-i l = (l.left ≡ over l.i (λ j x. cond (bit l.due j) (at l.c j) x) l.initial.left)
