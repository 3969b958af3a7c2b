-- No two outcomes meet the contract of a public function: the result, and what stands in a lent place.
use Rattle.std.proofs.Common.{ℕ, List}
use Rattle.seq.specs.Outcomes.{OneOutcome}
use Rattle.seq.proofs.Outcomes.{one_outcome}
use Rattle.late.proofs.drop_late.Reads as drop_late
use Rattle.late.proofs.count_up.Reads as count_up
use Rattle.late.proofs.count_late.Reads as count_late
use Rattle.late.proofs.late_total.Reads as late_total

drop_late_one : OneOutcome {X = λ κs. List ℕ} drop_late.Post (λ κs x s. s.0.now)
drop_late_one = one_outcome drop_late.Post _ _ (λ κs a x s p. p)

count_up_one : OneOutcome count_up.Post (λ κs x s. x)
count_up_one = one_outcome count_up.Post _ _ (λ κs a x s p. p)

count_late_one : OneOutcome {X = λ κs. List ℕ} count_late.Post (λ κs x s. s.0.now)
count_late_one = one_outcome count_late.Post _ _ (λ κs a x s p. p)

late_total_one : OneOutcome late_total.Post (λ κs x s. x)
late_total_one = one_outcome late_total.Post _ _ (λ κs a x s p. p)
