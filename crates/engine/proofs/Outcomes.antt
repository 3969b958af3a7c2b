-- No two outcomes meet the contract of a public function.
use Rattle.seq.specs.Outcomes.{OneOutcome}
use Rattle.seq.proofs.Outcomes.{one_outcome}
use Rattle.engine.proofs.start.Reads as start
use Rattle.engine.proofs.request.Reads as request
use Rattle.engine.proofs.slot.Reads as slot
use Rattle.engine.proofs.slot_said.Reads as slot_said
use Rattle.engine.proofs.late_total.Reads as late_total

start_one : OneOutcome start.Post (λ κs x s. x)
start_one = one_outcome start.Post _ _ (λ κs a x s p. p)

request_one : OneOutcome request.Post (λ κs x s. x)
request_one = one_outcome request.Post _ _ (λ κs a x s p. p)

slot_one : OneOutcome slot.Post (λ κs x s. x)
slot_one = one_outcome slot.Post _ _ (λ κs a x s p. p)

slot_said_one : OneOutcome slot_said.Post (λ κs x s. x)
slot_said_one = one_outcome slot_said.Post _ _ (λ κs a x s p. p)

late_total_one : OneOutcome late_total.Post (λ κs x s. x)
late_total_one = one_outcome late_total.Post _ _ (λ κs a x s p. p)
