-- No two outcomes meet the contract of a public function: the result, and what stands in a lent place.
use mathlib.Core.List.{List}
use Prim.Native.Nat.{ℕ}
use Rattle.seq.specs.Outcomes.{OneOutcome}
use Rattle.seq.proofs.Outcomes.{one_outcome}
use Rattle.text.proofs.copy.Reads as copy
use Rattle.text.proofs.blank.Reads as blank
use Rattle.text.proofs.put.Reads as put
use Rattle.text.proofs.put_number.Reads as put_number
use Rattle.text.proofs.append.Reads as append

copy_one : OneOutcome copy.Post (λ κs x s. x)
copy_one = one_outcome copy.Post _ _ (λ κs a x s p. p.0)

copy_lent_one : OneOutcome {X = λ κs. List ℕ} copy.Post (λ κs x s. s.0.now)
copy_lent_one = one_outcome copy.Post _ _ (λ κs a x s p. p.1)

blank_one : OneOutcome blank.Post (λ κs x s. x)
blank_one = one_outcome blank.Post _ _ (λ κs a x s p. p)

put_one : OneOutcome put.Post (λ κs x s. x)
put_one = one_outcome put.Post _ _ (λ κs a x s p. p)

put_number_one : OneOutcome put_number.Post (λ κs x s. x)
put_number_one = one_outcome put_number.Post _ _ (λ κs a x s p. p)

append_one : OneOutcome append.Post (λ κs x s. x)
append_one = one_outcome append.Post _ _ (λ κs a x s p. p.0)

append_lent_one : OneOutcome {X = λ κs. List ℕ} append.Post (λ κs x s. s.0.now)
append_lent_one = one_outcome append.Post _ _ (λ κs a x s p. p.1)
