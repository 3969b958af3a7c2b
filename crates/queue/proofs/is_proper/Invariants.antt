use mathlib.Core.Path.{◌≡◌}
use Prim.Native.Nat.{◌≤◌}
use lib.Dec.{ltb}
use Rattle.seq.specs.Places.{at, every}
use Rattle.queue.specs.Queue.{place_proper}
use Rattle.queue.proofs.is_proper.Given as goal

abbrev pub invariant-loop-i : goal.invariant-loop-i
invariant-loop-i l =
    (l.i ≤ 32) × (l.j ≡ l.i) × (l.n ≡ l.count) × (l.ok ≡ every l.i (λ j. place_proper (ltb j l.count) (at l.names j) (at l.sizes j)))
