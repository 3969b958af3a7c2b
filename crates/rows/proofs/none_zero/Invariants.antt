use mathlib.Core.Path.{◌≡◌}
use mathlib.Core.Bool.{true}
use lib.Dec.{ltb}
use Rattle.seq.specs.Places.{at, every}
use Rattle.rows.proofs.none_zero.Given as goal

abbrev pub invariant-loop-k : goal.invariant-loop-k
invariant-loop-k l = (every l.k-index (λ j. ltb 0 (at l.counter j)) ≡ true)
