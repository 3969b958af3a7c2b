use mathlib.Core.Path.{◌≡◌}
use mathlib.Core.Bool.{◌&&◌}
use Prim.Native.Nat.{◌≤◌}
use lib.Dec.{ltb}
use Rattle.seq.specs.Places.{at, tab}
use Rattle.seq.specs.Words.{word, bit, top_of}
use Rattle.marks.proofs.late_word.Given as goal

abbrev pub invariant-loop-i : goal.invariant-loop-i
invariant-loop-i l = (l.i ≤ l.m) × (l.m ≡ top_of l.end) × (l.w ≡ word (tab l.i (λ j. bit l.end j && ltb 0 (at l.left j))))
