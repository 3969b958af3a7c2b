use mathlib.Core.Path.{◌≡◌}
use mathlib.Core.Bool.{cond}
use Prim.Native.Nat.{◌+◌, ◌≤◌}
use lib.Dec.{ltb}
use Rattle.seq.specs.Places.{at, over}
use Rattle.queue.proofs.shift.Given as goal

abbrev pub invariant-loop-i : goal.invariant-loop-i
invariant-loop-i l = (l.i ≤ 31) × (l.a ≡ over l.i (λ j x. cond (ltb j 31) (at l.initial.a (j + 1)) 0) l.initial.a)
