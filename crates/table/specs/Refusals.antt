-- When 4, 5 and 6 are given back, and the row that each names: document 01's table, in the order in which the numbers are tried.
-- Row i is named as i + 1.
use Rattle.std.specs.Prelude.{◌≡◌, Err, List, ◌⊎◌, ℕ, suc, ◌≤◌, ◌<◌}
use Rattle.seq.specs.Places.{at}
use Rattle.table.specs.declared.Table.{Table}
use Rattle.table.specs.declared.Refusal.TheVariants.{RowCount, RowUnsound, PeriodFalls}
use Rattle.table.specs.Verdicts.{Verdict, Taken}
use Rattle.table.specs.WellFormed.{Counted, Sound, WellFormed}

pub data FormSays (n : ℕ) (c t d : List ℕ) : Verdict → Type 0 where
  count : (n ≡ 0) ⊎ (16 < n) → FormSays n c t d (Err RowCount)
  row : Counted n → (i : ℕ) → i < 16 → (Sound n c t d i → ⊥) → ((j : ℕ) → j < i → Sound n c t d j)
      → FormSays n c t d (Err (RowUnsound (suc i)))
  period : Counted n → ((j : ℕ) → j < 16 → Sound n c t d j) → (i : ℕ) → suc i < n → at t (suc i) < at t i
      → ((j : ℕ) → j < i → at t j ≤ at t (suc j)) → FormSays n c t d (Err (PeriodFalls (suc (suc i))))
  well : WellFormed n c t d → FormSays n c t d Taken

abbrev pub TableSays : Table → Verdict → Type 0
TableSays x = FormSays x.n x.c x.t x.d
