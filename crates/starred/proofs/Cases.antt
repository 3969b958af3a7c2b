-- The cases hold, and the demands are not empty: by computing.
use mathlib.Core.Path.{◌≡◌, refl}
use mathlib.Core.List.{List, [], ◌∷◌, ◌++◌, map}
use native.Mathlib.Omega.{arith}
use Rattle.seq.specs.Places.{tab, over, lead, every}
use Rattle.seq.specs.Words.{word, bit}
use Rattle.law.specs.Sums.{sum, ceil}
use Rattle.law.specs.Work.{least, holds, largest}
use Rattle.table.specs.Form.{sound, unsound_row, falling_row, count_verdict, rows_verdict, periods_verdict, form_verdict}
use Rattle.record.specs.Record.{column, rows_spelt, spelt, head_verdict, read_verdict, read_of}
use Rattle.allowance.specs.Test.{lacking_row, smallest, allowances, lacks_verdict, test_verdict, test_of}
use Rattle.allowance.specs.Cases.{TablesRight}
use Rattle.allowance.specs.Cases as tables
use Rattle.allowance.proofs.Cases.{tables_right}
use Rattle.rows.specs.Rows.{idle, reloaded, released, none_zero, charged, worked}
use Rattle.marks.specs.Words.{due_word, end_word, late_word}
use Rattle.late.specs.Late.{dropped, counted, total}
use Rattle.kept.specs.Kept.{rows_kept, lates_kept}
use Rattle.queue.specs.Queue.{served, names_of, sizes_of, waiting, proper}
use Rattle.engine.specs.States.{with_figures}
use Rattle.legal.specs.Legal.{figures_legal}
use Rattle.engine.specs.Legal.{legal}
use Rattle.uses.specs.Uses.{chosen}
use Rattle.engine.specs.Slot.{left_released, left_used, lates, left_judged, counter₁, left₁, choice_of, use_of, late_of, settled, answered, slot_verdict, slot_of}
use Rattle.engine.specs.Start.{blank, start_of}
use Rattle.engine.specs.Calls.{joined, request_verdict, request_of, late_total_of}
use Rattle.promise.specs.Runs.{step, said, run_of, history, moment}
use Rattle.promise.specs.History.{count}
use Rattle.promise.specs.Demands.{InTime, told}
use Rattle.promise.specs.Forced.{forced_use, forced_left}
use Rattle.starred.specs.Cases.{Case, of_table, three_rows, listing_calls, runs, CasesHold, NotEmpty}
use Rattle.promise.proofs.Demands.{demand3a}

computed : (map (λ x. x.gives) runs ≡ map (λ x. x.says) runs) × NotEmpty
unfolding tab over lead every word bit sound unsound_row falling_row count_verdict rows_verdict periods_verdict form_verdict column rows_spelt spelt head_verdict read_verdict read_of sum ceil least holds largest lacking_row smallest allowances lacks_verdict test_verdict test_of blank start_of idle reloaded due_word end_word released none_zero charged worked late_word dropped counted total rows_kept lates_kept served names_of sizes_of waiting proper with_figures legal figures_legal chosen left_released left_used lates left_judged counter₁ left₁ choice_of use_of late_of settled answered slot_verdict slot_of joined request_verdict request_of late_total_of step said run_of history moment count forced_use forced_left
computed = (
  refl,
  record { accepted = refl; allowance = refl; given = refl; waits = refl; none_lost = refl; too_many = refl; enough = refl },
)

pub not_empty : NotEmpty
not_empty = computed.1

-- the tables' cases, and more
with_tables : (l : List tables.Case) → TablesRight l → (r : List Case) → map (λ x. x.gives) r ≡ map (λ x. x.says) r
    → map (λ x. x.gives) (map of_table l ++ r) ≡ map (λ x. x.says) (map of_table l ++ r)
unfolding TablesRight
with_tables [] p r e = e
with_tables (x ∷ l) p r e = rw (p.0, with_tables l p.1 r e)

pub cases_hold : CasesHold
cases_hold = with_tables tables.table_cases tables_right runs computed.0

-- so each instance of the third row with its deadline in the listing got its slot
pub listed_in_time : InTime three_rows (told three_rows listing_calls) 2
listed_in_time = (demand3a three_rows not_empty.accepted listing_calls not_empty.none_lost).0 2 (omega arith)
