-- When a table is well formed: refusals 4, 5 and 6, in this order.
use Rattle.std.specs.Prelude.{ℕ, suc, ◌-◌, min, List, Bool, cond, ◌&&◌, ◌||◌, eqb, ltb, leb, replicate}
use Rattle.seq.specs.Places.{at, lead}
use Rattle.table.specs.declared.Table.{Table}
use Rattle.table.specs.declared.Refusal.TheVariants.{RowCount, RowUnsound, PeriodFalls}
use Rattle.table.specs.Verdicts.{Verdict, refuse, ◌and_then◌}

-- 1 ≤ C ≤ D ≤ T ≤ 4,096
abbrev pub in_order : ℕ → ℕ → ℕ → Bool
in_order c t d = leb 1 c && leb c d && leb d t && leb t 4096

abbrev pub all_zero : ℕ → ℕ → ℕ → Bool
all_zero c t d = eqb c 0 && eqb t 0 && eqb d 0

-- Rows have the numbers 0, 1, .. here; a refusal names row i as i + 1.
module _ (n : ℕ) (c t d : List ℕ) where
  -- row i is in order, or past n and zero
  unfoldable pub sound : ℕ → Bool
  sound i = cond (ltb i n) (in_order (at c i) (at t i) (at d i)) (all_zero (at c i) (at t i) (at d i))

  -- the first of the 16 rows that is not sound; 16 if all are
  unfoldable pub unsound_row : ℕ
  unsound_row = lead 16 sound

-- the period of row i is not below the one before; row 0 is its own neighbour
abbrev pub rising : List ℕ → ℕ → Bool
rising t i = leb (at t (i - 1)) (at t i)

-- the first of the n rows whose period falls; n if none does
unfoldable pub falling_row : ℕ → List ℕ → ℕ
falling_row n t = lead (min n 16) (rising t)

unfoldable pub count_verdict : ℕ → Verdict
count_verdict n = refuse (eqb n 0 || ltb 16 n) RowCount

unfoldable pub rows_verdict : ℕ → List ℕ → List ℕ → List ℕ → Verdict
rows_verdict n c t d = refuse (ltb (unsound_row n c t d) 16) (RowUnsound (suc (unsound_row n c t d)))

unfoldable pub periods_verdict : ℕ → List ℕ → Verdict
periods_verdict n t = refuse (ltb (falling_row n t) (min n 16)) (PeriodFalls (suc (falling_row n t)))

unfoldable pub form_verdict : ℕ → List ℕ → List ℕ → List ℕ → Verdict
form_verdict n c t d = count_verdict n and_then rows_verdict n c t d and_then periods_verdict n t

abbrev pub form_of : Table → Verdict
form_of x = form_verdict x.n x.c x.t x.d

abbrev pub no_table : Table
no_table = record { n = 0; c = replicate 16 0; t = replicate 16 0; d = replicate 16 0 }
