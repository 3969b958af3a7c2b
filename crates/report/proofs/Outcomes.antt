-- No two outcomes meet the contract of a public function: the result, and what stands in a lent place.
use Rattle.seq.specs.Outcomes.{OneOutcome}
use Rattle.seq.proofs.Outcomes.{one_outcome}
use Rattle.report.proofs.open.Reads as open_call
use Rattle.report.proofs.hear.Reads as hear
use Rattle.report.proofs.total.Reads as total

open_one : OneOutcome open_call.Post (λ κs x s. x)
open_one = one_outcome open_call.Post _ _ (λ κs a x s p. p)

hear_one : OneOutcome hear.Post (λ κs x s. x)
hear_one = one_outcome hear.Post _ _ (λ κs a x s p. p)

total_one : OneOutcome total.Post (λ κs x s. x)
total_one = one_outcome total.Post _ _ (λ κs a x s p. p)
