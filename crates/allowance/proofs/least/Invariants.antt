use Rattle.std.proofs.Common.{◌≡◌, ◌-◌}
use Rattle.seq.specs.Places.{at}
use Rattle.allowance.specs.Test.{smallest}
use Rattle.allowance.proofs.least.Given as goal

abbrev pub invariant-loop-i : goal.invariant-loop-i
invariant-loop-i l = l.k ≡ smallest (at l.each) (l.i - 1)
