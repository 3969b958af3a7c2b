-- The cases hold: each is computed.
use mathlib.Core.Path.{refl}
use lib.Count.{ones}
use Rattle.seq.specs.Places.{tab, over, lead, every}
use Rattle.seq.specs.Words.{word, bit}
use Rattle.table.specs.Form.{sound, unsound_row, falling_row, count_verdict, rows_verdict, periods_verdict, form_verdict}
use Rattle.rows.specs.Rows.{idle, reloaded, released, none_zero, charged, worked}
use Rattle.marks.specs.Words.{due_word, end_word, late_word}
use Rattle.late.specs.Late.{dropped, counted, total}
use Rattle.kept.specs.Kept.{rows_kept, lates_kept}
use Rattle.queue.specs.Queue.{served, names_of, sizes_of, waiting, proper}
use Rattle.engine.specs.States.{with_figures}
use Rattle.legal.specs.Legal.{figures_legal}
use Rattle.engine.specs.Legal.{legal}
use Rattle.uses.specs.Uses.{chosen}
use Rattle.engine.specs.Slot.{left_released, left_used, lates, left_judged, counter₁, left₁, choice_of, use_of, late_of, settled, answered, slot_verdict, slot_of}
use Rattle.engine.specs.Calls.{joined, request_verdict, request_of, late_total_of}
use Rattle.law.specs.Sums.{sum, ceil}
use Rattle.law.specs.Work.{least, holds, largest}
use Rattle.allowance.specs.Test.{lacking_row, smallest, allowances, lacks_verdict, test_verdict, test_of}
use Rattle.engine.specs.Start.{blank, start_of}
use Rattle.engine_runs.specs.Runs.{run}
use Rattle.engine_runs.specs.Cases.{Cases}

pub cases : Cases
unfolding run start_of blank test_of test_verdict lacks_verdict allowances smallest lacking_row sum ceil least holds largest slot_of slot_verdict request_of request_verdict joined late_total_of legal figures_legal settled answered late_of use_of choice_of left₁ counter₁ left_judged lates left_used left_released chosen with_figures served names_of sizes_of waiting proper idle reloaded due_word end_word released none_zero charged worked late_word dropped counted total rows_kept lates_kept sound unsound_row falling_row count_verdict rows_verdict periods_verdict form_verdict tab over lead every word bit ones
cases =
    record {
      listing_says = refl;
      listing_tally = refl;
      listing_total = refl;
      tight_says = refl;
      short_says = refl;
      short_total = refl;
      long_total = refl;
      full_says = refl;
    }
