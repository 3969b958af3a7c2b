-- Sums over the first rows, and a quotient rounded up.
use Rattle.std.specs.Prelude.{ℕ, zero, suc, ◌+◌, ◌-◌, ◌/◌}

-- f 0 + .. + f (n - 1)
unfoldable pub sum : (ℕ → ℕ) → ℕ → ℕ
sum f zero = 0
sum f (suc n) = sum f n + f n

-- t divided by T, rounded up
unfoldable pub ceil : ℕ → ℕ → ℕ
ceil t T = (t + (T - 1)) / T
