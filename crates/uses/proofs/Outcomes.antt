-- No two outcomes meet the contract of a public function.
use Rattle.seq.specs.Outcomes.{OneOutcome}
use Rattle.seq.proofs.Outcomes.{one_outcome}
use Rattle.uses.proofs.choose.Reads as choose
use Rattle.uses.proofs.charges.Reads as charges
use Rattle.uses.proofs.used_for.Reads as used_for
use Rattle.uses.proofs.row_served.Reads as row_served
use Rattle.uses.proofs.is_hard.Reads as is_hard
use Rattle.uses.proofs.is_given.Reads as is_given
use Rattle.uses.proofs.is_empty.Reads as is_empty
use Rattle.uses.proofs.is_lost.Reads as is_lost
use Rattle.uses.proofs.use_number.Reads as use_number
use Rattle.uses.proofs.use_who.Reads as use_who
use Rattle.uses.proofs.use_told.Reads as use_told

choose_one : OneOutcome choose.Post (λ κs x s. x)
choose_one = one_outcome choose.Post _ _ (λ κs a x s p. p)

charges_one : OneOutcome charges.Post (λ κs x s. x)
charges_one = one_outcome charges.Post _ _ (λ κs a x s p. p)

used_for_one : OneOutcome used_for.Post (λ κs x s. x)
used_for_one = one_outcome used_for.Post _ _ (λ κs a x s p. p)

row_served_one : OneOutcome row_served.Post (λ κs x s. x)
row_served_one = one_outcome row_served.Post _ _ (λ κs a x s p. p)

is_hard_one : OneOutcome is_hard.Post (λ κs x s. x)
is_hard_one = one_outcome is_hard.Post _ _ (λ κs a x s p. p)

is_given_one : OneOutcome is_given.Post (λ κs x s. x)
is_given_one = one_outcome is_given.Post _ _ (λ κs a x s p. p)

is_empty_one : OneOutcome is_empty.Post (λ κs x s. x)
is_empty_one = one_outcome is_empty.Post _ _ (λ κs a x s p. p)

is_lost_one : OneOutcome is_lost.Post (λ κs x s. x)
is_lost_one = one_outcome is_lost.Post _ _ (λ κs a x s p. p)

use_number_one : OneOutcome use_number.Post (λ κs x s. x)
use_number_one = one_outcome use_number.Post _ _ (λ κs a x s p. p)

use_who_one : OneOutcome use_who.Post (λ κs x s. x)
use_who_one = one_outcome use_who.Post _ _ (λ κs a x s p. p)

use_told_one : OneOutcome use_told.Post (λ κs x s. x)
use_told_one = one_outcome use_told.Post _ _ (λ κs a x s p. p)
