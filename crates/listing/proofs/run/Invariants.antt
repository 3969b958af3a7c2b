use Rattle.std.proofs.Common.{◌-◌, ◌≤◌, length}
use Rattle.listing.proofs.run.Given as goal

abbrev pub invariant-loop-next : goal.invariant-loop-next
invariant-loop-next g l = l.p ≤ length l.s

abbrev pub decreases-loop-next : goal.decreases-loop-next
decreases-loop-next g l = length l.s - l.p
