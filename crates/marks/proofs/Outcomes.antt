-- No two outcomes meet the contract of a public function.
use Rattle.seq.specs.Outcomes.{OneOutcome}
use Rattle.seq.proofs.Outcomes.{one_outcome}
use Rattle.marks.proofs.mark.Reads as mark
use Rattle.marks.proofs.late_word.Reads as late_word
use Rattle.marks.proofs.late_rows.Reads as late_rows

mark_one : OneOutcome mark.Post (λ κs x s. x)
mark_one = one_outcome mark.Post _ _ (λ κs a x s p. p)

late_word_one : OneOutcome late_word.Post (λ κs x s. x)
late_word_one = one_outcome late_word.Post _ _ (λ κs a x s p. p)

late_rows_one : OneOutcome late_rows.Post (λ κs x s. x)
late_rows_one = one_outcome late_rows.Post _ _ (λ κs a x s p. p)
