use mathlib.Core.Path.{◌≡◌}
use mathlib.Core.List.{List}
use Prim.Native.Nat.{ℕ, ◌≤◌}
use Rattle.seq.specs.Places.{at}
use Rattle.rows.specs.Rows.{rows_of}
use Rattle.marks.specs.Words.{begins, ends}
use Rattle.marks.proofs.Down.{rest}
use Rattle.marks.proofs.mark.Given as goal

-- the two words from row i on
abbrev due_from : ℕ → ℕ → List ℕ → ℕ → ℕ
due_from m n t i = rest (rows_of n) (λ j. begins m (at t j)) i

abbrev end_from : ℕ → ℕ → List ℕ → List ℕ → ℕ → ℕ
end_from m n t d i = rest (rows_of n) (λ j. ends m (at t j) (at d j)) i

abbrev pub invariant-loop-i : goal.invariant-loop-i
invariant-loop-i l = (l.i ≤ rows_of l.n) × (l.due ≡ due_from l.m l.n l.t l.i) × (l.end ≡ end_from l.m l.n l.t l.d l.i)
