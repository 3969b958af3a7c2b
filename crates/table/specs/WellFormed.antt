-- A well formed table, as document 01 says it. Rows have the numbers 0, 1, .. here.
use Rattle.std.specs.Prelude.{◌≡◌, List, ℕ, suc, ◌≤◌, ◌<◌}
use Rattle.seq.specs.Places.{at}

-- 1 ≤ C ≤ D ≤ T ≤ 4,096
pub record Ordered (c t d : ℕ) : Type 0 where
  pub some : 1 ≤ c
  pub due : c ≤ d
  pub within : d ≤ t
  pub longest : t ≤ 4096

abbrev pub Zero : ℕ → ℕ → ℕ → Type 0
Zero c t d = (c ≡ 0) × (t ≡ 0) × (d ≡ 0)

abbrev pub Counted : ℕ → Type 0
Counted n = (1 ≤ n) × (n ≤ 16)

module _ (n : ℕ) (c t d : List ℕ) where
  -- row i is in order, or past n and zero
  abbrev pub Sound : ℕ → Type 0
  Sound i = (i < n → Ordered (at c i) (at t i) (at d i)) × (n ≤ i → Zero (at c i) (at t i) (at d i))

  pub record WellFormed : Type 0 where
    pub counted : Counted n
    pub ordered : (i : ℕ) → i < n → Ordered (at c i) (at t i) (at d i)
    pub past : (i : ℕ) → n ≤ i → i < 16 → Zero (at c i) (at t i) (at d i)
    pub rises : (i : ℕ) → suc i < n → at t i ≤ at t (suc i)
