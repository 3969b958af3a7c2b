use Rattle.std.proofs.Common.{◌≡◌, ◌%◌, ◌^◌}
use Rattle.late.specs.Late.{total}
use Rattle.late.proofs.late_total.Given as goal

abbrev pub invariant-loop-x : goal.invariant-loop-x
invariant-loop-x l = l.sum ≡ total l.x-index l.late % 2 ^ 64
