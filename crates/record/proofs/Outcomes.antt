-- No two outcomes meet the contract of a public function.
use Rattle.seq.specs.Outcomes.{OneOutcome}
use Rattle.seq.proofs.Outcomes.{one_outcome}
use Rattle.record.proofs.read.Reads as read

read_one : OneOutcome read.Post (λ κs x s. x)
read_one = one_outcome read.Post _ _ (λ κs a x s p. p)
