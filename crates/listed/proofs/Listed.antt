-- The worked listings, computed by the definitions.
use mathlib.Core.Path.{refl}
use Rattle.seq.specs.Places.{tab, over, lead, every}
use Rattle.seq.specs.Words.{word, bit}
use Rattle.law.specs.Sums.{sum, ceil}
use Rattle.law.specs.Work.{least, holds, largest}
use Rattle.table.specs.Form.{sound, unsound_row, falling_row, count_verdict, rows_verdict, periods_verdict, form_verdict}
use Rattle.record.specs.Record.{column, rows_spelt, spelt, head_verdict, read_verdict, read_of}
use Rattle.allowance.specs.Test.{lacking_row, smallest, allowances, lacks_verdict, test_verdict, test_of}
use Rattle.rows.specs.Rows.{idle, reloaded, released, none_zero, charged, worked}
use Rattle.marks.specs.Words.{due_word, end_word, late_word}
use Rattle.late.specs.Late.{dropped, counted, total}
use Rattle.kept.specs.Kept.{rows_kept, lates_kept}
use Rattle.queue.specs.Queue.{served, names_of, sizes_of, waiting, proper}
use Rattle.uses.specs.Uses.{chosen}
use Rattle.legal.specs.Legal.{figures_legal}
use Rattle.engine.specs.States.{with_figures}
use Rattle.engine.specs.Legal.{legal}
use Rattle.engine.specs.Slot.{left_released, left_used, lates, left_judged, counter₁, left₁, choice_of, use_of, late_of, settled, answered, slot_verdict, slot_of}
use Rattle.engine.specs.Start.{blank, start_of}
use Rattle.engine.specs.Calls.{joined, request_verdict, request_of, late_total_of}
use Rattle.text.specs.Text.{digits_then, decimal}
use Rattle.lines.specs.Lines.{use_text}
use Rattle.events.specs.Events.{event_at}
use Rattle.report.specs.Listing.{opening_text, goes_ahead, event_text, event_state, total_text, events_text, listing}
use Rattle.listed.specs.Listed.{ListingsRight}

listings_right : ListingsRight
unfolding tab over lead every word bit sum ceil least holds largest sound unsound_row falling_row count_verdict rows_verdict periods_verdict form_verdict column rows_spelt spelt head_verdict read_verdict read_of lacking_row smallest allowances lacks_verdict test_verdict test_of idle reloaded released none_zero charged worked due_word end_word late_word dropped counted total rows_kept lates_kept served names_of sizes_of waiting proper chosen figures_legal with_figures legal left_released left_used lates left_judged counter₁ left₁ choice_of use_of late_of settled answered slot_verdict slot_of blank start_of joined request_verdict request_of late_total_of digits_then decimal use_text event_at opening_text goes_ahead event_text event_state total_text events_text listing
listings_right = refl
