use mathlib.Core.Path.{◌≡◌}
use mathlib.Core.Bool.{◌||◌}
use Prim.Native.Nat.{◌≤◌, min}
use lib.Dec.{eqb, ltb}
use Rattle.seq.specs.Places.{at, every}
use Rattle.kept.proofs.lates_zero.Given as goal

abbrev pub invariant-loop-i : goal.invariant-loop-i
invariant-loop-i l = (min l.n 16 ≤ l.i) × (l.i ≤ 16) × (eqb l.rest 0 ≡ every l.i (λ j. ltb j l.n || eqb (at l.late j) 0))
