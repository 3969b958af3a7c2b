-- The allowance as a loop over t finds it: the best of t + 1 less what row i and the rows before it need, over t from 1 to D.
-- It is 0 where the row does not hold 0, and one more than the allowance where it does.
use Rattle.std.specs.Prelude.{ℕ, zero, suc, ◌+◌, ◌-◌, max}
use Rattle.law.specs.Work.{W}

unfoldable pub slack : (C T : ℕ → ℕ) (i D : ℕ) → ℕ
slack C T i zero = 0
slack C T i (suc d) = max (slack C T i d) (suc (suc d) - (C i + W C T i (suc d)))
