use Rattle.std.proofs.Common.{◌≡◌, ◌≤◌}
use Rattle.seq.specs.Places.{over}
use Rattle.seq.specs.Words.{bit, top_of}
use Rattle.late.specs.Late.{up}
use Rattle.late.proofs.count_late.Given as goal

abbrev pub invariant-loop-i : goal.invariant-loop-i
invariant-loop-i l = (l.i ≤ l.m) × (l.m ≡ top_of l.w) × (l.late ≡ over l.i (λ j x. up (bit l.w j) x) l.initial.late)
