-- No two outcomes meet the contract of a public function: the result, and what stands in a lent place.
use mathlib.Core.List.{List}
use Prim.Native.Nat.{ℕ}
use Rattle.seq.specs.Outcomes.{OneOutcome}
use Rattle.seq.proofs.Outcomes.{one_outcome}
use Rattle.rows.proofs.idle_rows.Reads as idle_rows
use Rattle.rows.proofs.reload.Reads as reload
use Rattle.rows.proofs.release.Reads as release
use Rattle.rows.proofs.none_zero.Reads as none_zero
use Rattle.rows.proofs.charge.Reads as charge
use Rattle.rows.proofs.work.Reads as work

idle_rows_one : OneOutcome idle_rows.Post (λ κs x s. x)
idle_rows_one = one_outcome idle_rows.Post _ _ (λ κs a x s p. p)

reload_one : OneOutcome {X = λ κs. List ℕ} reload.Post (λ κs x s. s.0.now)
reload_one = one_outcome reload.Post _ _ (λ κs a x s p. p)

release_one : OneOutcome {X = λ κs. List ℕ} release.Post (λ κs x s. s.0.now)
release_one = one_outcome release.Post _ _ (λ κs a x s p. p)

none_zero_one : OneOutcome none_zero.Post (λ κs x s. x)
none_zero_one = one_outcome none_zero.Post _ _ (λ κs a x s p. p)

charge_one : OneOutcome {X = λ κs. List ℕ} charge.Post (λ κs x s. s.0.now)
charge_one = one_outcome charge.Post _ _ (λ κs a x s p. p)

work_one : OneOutcome {X = λ κs. List ℕ} work.Post (λ κs x s. s.0.now)
work_one = one_outcome work.Post _ _ (λ κs a x s p. p)
