-- One slot's steps on the rows' work left and counters, in document 01's order. A figure of row i stands at place i of its list, from 0
-- on. Which rows are due, marks says; what is done of late rows, late says.
use Rattle.std.specs.Prelude.{ℕ, ◌-◌, min, List, Bool, cond, eqb, ltb}
use Rattle.seq.specs.Places.{flag, at, over, lead, every}
use Rattle.seq.specs.Words.{bit}

-- a number of rows above 16 counts as 16
abbrev pub rows_of : ℕ → ℕ
rows_of n = min n 16

-- 1. Reload: the rows before the first with work left, and their counters
unfoldable pub idle : ℕ → List ℕ → ℕ
idle n left = lead (rows_of n) (λ i. eqb (at left i) 0)

unfoldable pub reloaded : ℕ → List ℕ → List ℕ → List ℕ → List ℕ
reloaded n left k counter = over (idle n left) (λ i x. at k i) counter

-- 2. Release: the rows with their bit in the word of those that are due
unfoldable pub released : ℕ → List ℕ → List ℕ → List ℕ
released due c left = over 16 (λ i x. cond (bit due i) (at c i) x) left

-- 3. Use: no counter is 0; all counters fall by one; a row gets one slot
unfoldable pub none_zero : ℕ → List ℕ → Bool
none_zero n counter = every (rows_of n) (λ i. ltb 0 (at counter i))

unfoldable pub charged : ℕ → Bool → List ℕ → List ℕ
charged n on counter = over (rows_of n) (λ i x. x - flag on) counter

unfoldable pub worked : ℕ → List ℕ → List ℕ
worked row left = over 16 (λ i x. x - flag (eqb i row)) left
