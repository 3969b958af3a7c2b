-- No two outcomes meet the contract of a public function.
use Rattle.seq.specs.Outcomes.{OneOutcome}
use Rattle.seq.proofs.Outcomes.{one_outcome}
use Rattle.kept.proofs.rows_legal.Reads as rows_legal
use Rattle.kept.proofs.lates_kept.Reads as lates_kept

rows_legal_one : OneOutcome rows_legal.Post (λ κs x s. x)
rows_legal_one = one_outcome rows_legal.Post _ _ (λ κs a x s p. p)

lates_kept_one : OneOutcome lates_kept.Post (λ κs x s. x)
lates_kept_one = one_outcome lates_kept.Post _ _ (λ κs a x s p. p)
