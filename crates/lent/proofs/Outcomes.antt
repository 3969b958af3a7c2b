-- No two outcomes meet the contract of an exported function. Of the two calls over a lent state it is one law (Thin).
use Prim.Native.Nat.{ℕ}
use mathlib.Core.List.{List}
use lib.ListN.{length}
use Rattle.seq.specs.Outcomes.{OneOutcome}
use Rattle.seq.proofs.Outcomes.{one_outcome}
use Rattle.record.specs.Record.{written_of, buffer_of}
use Rattle.engine.specs.declared.State.{State}
use Rattle.engine.specs.declared.Said.{Said}
use Rattle.engine.specs.declared.SlotSaid.{SlotSaid}
use Rattle.engine.specs.Said.{slot_said}
use Rattle.lent.specs.declared.Wrote.{Wrote}
use Rattle.lent.specs.declared.Told.{Told}
use Rattle.lent.specs.declared.Ask.{Ask}
use Rattle.lent.specs.declared.RequestTold.{RequestTold}
use Rattle.lent.proofs.Thin.{thin_one}
use Rattle.lent.specs.Face.{wrote_face, request_told}
use Rattle.lent.proofs.fjurke_slot.Reads as slot
use Rattle.lent.proofs.fjurke_request.Reads as request
use Rattle.lent.proofs.fjurke_read.Reads as read
use Rattle.lent.proofs.fjurke_write.Reads as write
use Rattle.lent.proofs.fjurke_test.Reads as test
use Rattle.lent.proofs.fjurke_start.Reads as start
use Rattle.lent.proofs.fjurke_late_total.Reads as late_total

-- the answer and the state that is left
slot_one : OneOutcome {X = λ κs. Said × State} slot.Post (λ κs x s. (x, s.0.now))
slot_one κs a x y s z p q = thin_one State ℕ Said SlotSaid (λ d. d.state) (λ d. d.answer) slot_said tt (a.0.now, a.1.0) x y s.0.now z.0.now p q

request_one : OneOutcome {X = λ κs. Told × State} request.Post (λ κs x s. (x, s.0.now))
request_one κs a x y s z p q = thin_one State Ask Told RequestTold (λ d. d.state) (λ d. d.answer) request_told tt (a.0.now, a.1.0) x y s.0.now z.0.now p q

-- the answer and the buffer
write_one : OneOutcome {X = λ κs. Wrote × List ℕ} write.Post (λ κs x s. (x, s.1.0.now))
write_one = one_outcome write.Post _ (λ κs a. (wrote_face (written_of a.0 (length a.1.0.now)), buffer_of a.0 a.1.0.now)) (λ κs a x s p. rw (p.0, p.1))

read_one : OneOutcome read.Post (λ κs x s. x)
read_one = one_outcome read.Post _ _ (λ κs a x s p. p)

test_one : OneOutcome test.Post (λ κs x s. x)
test_one = one_outcome test.Post _ _ (λ κs a x s p. p)

start_one : OneOutcome start.Post (λ κs x s. x)
start_one = one_outcome start.Post _ _ (λ κs a x s p. p)

late_total_one : OneOutcome late_total.Post (λ κs x s. x)
late_total_one = one_outcome late_total.Post _ _ (λ κs a x s p. p)
