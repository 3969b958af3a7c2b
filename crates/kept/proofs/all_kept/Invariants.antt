use mathlib.Core.Path.{◌≡◌}
use Prim.Native.Nat.{◌≤◌}
use Rattle.seq.specs.Places.{every}
use Rattle.rows.specs.Rows.{rows_of}
use Rattle.kept.specs.Kept.{kept}
use Rattle.kept.proofs.all_kept.Given as goal

abbrev pub invariant-loop-i : goal.invariant-loop-i
invariant-loop-i l = (l.i ≤ 16) × (l.j ≡ l.i) × (l.m ≡ rows_of l.n) × (l.ok ≡ every l.i (kept l.n l.c l.t l.d l.k l.left l.counter))
