use mathlib.Core.Path.{◌≡◌}
use Prim.Native.Nat.{◌≤◌}
use Rattle.seq.specs.Places.{at, over}
use Rattle.rows.specs.Rows.{idle}
use Rattle.rows.proofs.reload.Given as goal

abbrev pub invariant-loop-i : goal.invariant-loop-i
invariant-loop-i l =
    (l.i ≤ idle l.n l.left) × (l.counter ≡ over l.i (λ j x. at l.k j) l.initial.counter)
