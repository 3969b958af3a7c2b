-- No two outcomes meet the contract of a public function: the result, and what stands in a lent place.
use Rattle.seq.specs.Outcomes.{OneOutcome}
use Rattle.seq.proofs.Outcomes.{one_outcome}
use Rattle.seq.proofs.both.Reads as both
use Rattle.seq.proofs.either.Reads as either
use Rattle.seq.proofs.less.Reads as less
use Rattle.seq.proofs.lesser.Reads as lesser
use Rattle.seq.proofs.byte.Reads as byte
use Rattle.seq.proofs.big.Reads as big
use Rattle.seq.proofs.pick.Reads as pick
use Rattle.seq.proofs.has.Reads as has
use Rattle.seq.proofs.top.Reads as top

both_one : OneOutcome both.Post (λ κs x s. x)
both_one = one_outcome both.Post _ _ (λ κs a x s p. p)

either_one : OneOutcome either.Post (λ κs x s. x)
either_one = one_outcome either.Post _ _ (λ κs a x s p. p)

less_one : OneOutcome less.Post (λ κs x s. x)
less_one = one_outcome less.Post _ _ (λ κs a x s p. p)

lesser_one : OneOutcome lesser.Post (λ κs x s. x)
lesser_one = one_outcome lesser.Post _ _ (λ κs a x s p. p)

byte_one : OneOutcome byte.Post (λ κs x s. x)
byte_one = one_outcome byte.Post _ _ (λ κs a x s p. p)

big_one : OneOutcome big.Post (λ κs x s. x)
big_one = one_outcome big.Post _ _ (λ κs a x s p. p)

pick_one : OneOutcome pick.Post (λ κs x s. x)
pick_one = one_outcome pick.Post _ _ (λ κs a x s p. p)

has_one : OneOutcome has.Post (λ κs x s. x)
has_one = one_outcome has.Post _ _ (λ κs a x s p. p)

top_one : OneOutcome top.Post (λ κs x s. x)
top_one = one_outcome top.Post _ _ (λ κs a x s p. p)
