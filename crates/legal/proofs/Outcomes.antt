-- No two outcomes meet the contract of a public function.
use Rattle.seq.specs.Outcomes.{OneOutcome}
use Rattle.seq.proofs.Outcomes.{one_outcome}
use Rattle.legal.proofs.run_legal.Reads as run_legal
use Rattle.legal.proofs.slot_refusal.Reads as slot_refusal
use Rattle.legal.proofs.request_refusal.Reads as request_refusal

run_legal_one : OneOutcome run_legal.Post (λ κs x s. x)
run_legal_one = one_outcome run_legal.Post _ _ (λ κs a x s p. p)

slot_refusal_one : OneOutcome slot_refusal.Post (λ κs x s. x)
slot_refusal_one = one_outcome slot_refusal.Post _ _ (λ κs a x s p. p)

request_refusal_one : OneOutcome request_refusal.Post (λ κs x s. x)
request_refusal_one = one_outcome request_refusal.Post _ _ (λ κs a x s p. p)
