use mathlib.Core.Path.{refl}
use Prim.Native.Nat.{◌-◌}
use native.Mathlib.Omega.{arith}
use Rattle.seq.specs.Places.{over}
use Rattle.seq.proofs.Places.{over_more, over_same}
use Rattle.queue.specs.Queue.{lowered}
use Rattle.queue.proofs.lower.Goals as goal

pub returns-then-on : goal.returns-then-on
unfolding lowered over
returns-then-on c =
    let a = c.args.sizes.now in
    rw c.if-on.true (over_more 0 0 (λ i x. x - 1) a a _ refl c.saturating_sub.ensures)

pub returns-else-on : goal.returns-else-on
unfolding lowered
returns-else-on c = rw c.if-on.false (over_same 1 _ _ (λ i x h. omega arith))
