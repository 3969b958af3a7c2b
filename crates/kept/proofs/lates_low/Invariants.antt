use mathlib.Core.Path.{◌≡◌}
use mathlib.Core.Bool.{true}
use lib.Dec.{leb}
use Rattle.seq.specs.Places.{at, every}
use Rattle.kept.proofs.lates_low.Given as goal

abbrev pub invariant-loop-x : goal.invariant-loop-x
invariant-loop-x l = every l.x-index (λ j. leb (at l.late j) l.ran) ≡ true
