use mathlib.Core.Path.{◌≡◌}
use Prim.Native.Nat.{◌-◌}
use Rattle.seq.specs.Places.{over}
use Rattle.rows.proofs.charge.Given as goal

abbrev pub invariant-loop-i : goal.invariant-loop-i
invariant-loop-i l = (l.counter ≡ over l.i (λ j x. x - 1) l.initial.counter)
