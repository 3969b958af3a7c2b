-- No two outcomes meet the contract of a public function: the result, and what stands in a lent place.
use mathlib.Core.List.{List}
use Prim.Native.Nat.{ℕ}
use Rattle.seq.specs.Outcomes.{OneOutcome}
use Rattle.seq.proofs.Outcomes.{one_outcome}
use Rattle.events.proofs.record_length.Reads as record_length
use Rattle.events.proofs.record.Reads as record_part
use Rattle.events.proofs.events.Reads as events
use Rattle.events.proofs.event_at.Reads as event_at
use Rattle.events.proofs.width.Reads as width

record_length_one : OneOutcome record_length.Post (λ κs x s. x)
record_length_one = one_outcome record_length.Post _ _ (λ κs a x s p. p)

record_one : OneOutcome {X = λ κs. List ℕ} record_part.Post (λ κs x s. x.now)
record_one = one_outcome record_part.Post _ _ (λ κs a x s p. p)

events_one : OneOutcome {X = λ κs. List ℕ} events.Post (λ κs x s. x.now)
events_one = one_outcome events.Post _ _ (λ κs a x s p. p)

event_at_one : OneOutcome event_at.Post (λ κs x s. x)
event_at_one = one_outcome event_at.Post _ _ (λ κs a x s p. p)

width_one : OneOutcome width.Post (λ κs x s. x)
width_one = one_outcome width.Post _ _ (λ κs a x s p. p)
