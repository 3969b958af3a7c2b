-- No two outcomes meet the contract of a public function: the result, and what stands in a lent place.
use mathlib.Core.List.{List}
use Prim.Native.Nat.{ℕ}
use Rattle.seq.specs.Outcomes.{OneOutcome}
use Rattle.seq.proofs.Outcomes.{one_outcome}
use Rattle.queue.proofs.is_last.Reads as is_last
use Rattle.queue.proofs.lower.Reads as lower
use Rattle.queue.proofs.shift.Reads as shift
use Rattle.queue.proofs.fewer.Reads as fewer
use Rattle.queue.proofs.put.Reads as put
use Rattle.queue.proofs.is_proper.Reads as is_proper

is_last_one : OneOutcome is_last.Post (λ κs x s. x)
is_last_one = one_outcome is_last.Post _ _ (λ κs a x s p. p)

lower_one : OneOutcome {X = λ κs. List ℕ} lower.Post (λ κs x s. s.0.now)
lower_one = one_outcome lower.Post _ _ (λ κs a x s p. p)

shift_one : OneOutcome {X = λ κs. List ℕ} shift.Post (λ κs x s. s.0.now)
shift_one = one_outcome shift.Post _ _ (λ κs a x s p. p)

fewer_one : OneOutcome fewer.Post (λ κs x s. x)
fewer_one = one_outcome fewer.Post _ _ (λ κs a x s p. p)

put_one : OneOutcome {X = λ κs. List ℕ} put.Post (λ κs x s. s.0.now)
put_one = one_outcome put.Post _ _ (λ κs a x s p. p)

is_proper_one : OneOutcome is_proper.Post (λ κs x s. x)
is_proper_one = one_outcome is_proper.Post _ _ (λ κs a x s p. p)
