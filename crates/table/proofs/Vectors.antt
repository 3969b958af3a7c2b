-- Tables of document 01, worked out by the definitions. The premises of the theorems can be met.
use mathlib.Core.Path.{◌≡◌, refl}
use mathlib.Core.List.{◌∷◌}
use lib.ListN.{replicate}
use Rattle.seq.specs.Places.{lead}
use Rattle.table.specs.declared.Table.{Table}
use Rattle.std.specs.Prelude.{Err}
use Rattle.table.specs.declared.Refusal.TheVariants.{RowUnsound, PeriodFalls}
use Rattle.table.specs.Verdicts.{Taken}
use Rattle.table.specs.Form.{sound, unsound_row, falling_row, count_verdict, rows_verdict, periods_verdict, form_verdict, form_of}

-- (1,3,3) (1,4,4) (1,6,6)
abbrev pub first : Table
first = record {
  n = 3;
  c = 1 ∷ 1 ∷ 1 ∷ replicate 13 0;
  t = 3 ∷ 4 ∷ 6 ∷ replicate 13 0;
  d = 3 ∷ 4 ∷ 6 ∷ replicate 13 0;
}

first_taken : form_of first ≡ Taken
unfolding form_verdict count_verdict rows_verdict periods_verdict unsound_row falling_row sound lead
first_taken = refl

-- (1,4097,4096), and (1,5,5) (1,4,4)
too_long : form_verdict 1 (1 ∷ replicate 15 0) (4097 ∷ replicate 15 0) (4096 ∷ replicate 15 0) ≡ Err (RowUnsound 1)
unfolding form_verdict count_verdict rows_verdict periods_verdict unsound_row sound lead
too_long = refl

falling : form_verdict 2 (1 ∷ 1 ∷ replicate 14 0) (5 ∷ 4 ∷ replicate 14 0) (5 ∷ 4 ∷ replicate 14 0) ≡ Err (PeriodFalls 2)
unfolding form_verdict count_verdict rows_verdict periods_verdict unsound_row falling_row sound lead
falling = refl
