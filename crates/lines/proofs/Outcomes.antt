-- No two outcomes meet the contract of a public function.
use Rattle.seq.specs.Outcomes.{OneOutcome}
use Rattle.seq.proofs.Outcomes.{one_outcome}
use Rattle.lines.proofs.slot_line.Reads as slot_line
use Rattle.lines.proofs.refused_line.Reads as refused_line
use Rattle.lines.proofs.bad_line.Reads as bad_line
use Rattle.lines.proofs.total_line.Reads as total_line
use Rattle.lines.proofs.long_line.Reads as long_line

slot_line_one : OneOutcome slot_line.Post (λ κs x s. x)
slot_line_one = one_outcome slot_line.Post _ _ (λ κs a x s p. p)

refused_line_one : OneOutcome refused_line.Post (λ κs x s. x)
refused_line_one = one_outcome refused_line.Post _ _ (λ κs a x s p. p)

bad_line_one : OneOutcome bad_line.Post (λ κs x s. x)
bad_line_one = one_outcome bad_line.Post _ _ (λ κs a x s p. p)

total_line_one : OneOutcome total_line.Post (λ κs x s. x)
total_line_one = one_outcome total_line.Post _ _ (λ κs a x s p. p)

long_line_one : OneOutcome long_line.Post (λ κs x s. x)
long_line_one = one_outcome long_line.Post _ _ (λ κs a x s p. p)
