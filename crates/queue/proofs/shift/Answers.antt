use mathlib.Core.Path.{◌≡◌, refl}
use Prim.Native.Nat.{◌+◌}
use native.Mathlib.Omega.{arith}
use borrow.Author.Tests.{lt-ltb}
use Rattle.seq.specs.Places.{over}
use Rattle.seq.proofs.Places.{over_more, over_at, over_same}
use Rattle.queue.specs.Queue.{shifted}
use Rattle.queue.proofs.shift.Goals as goal

pub returns-then-not-on : goal.returns-then-not-on
unfolding shifted
returns-then-not-on c = rw c.if-not-on.true (over_same 32 _ _ (λ i x h. refl))

pub loop-i-init : goal.loop-i-init
unfolding over
loop-i-init c = (omega arith, refl)

pub loop-i-preserved : goal.loop-i-preserved
loop-i-preserved c =
    let l = c.loop-i in (
      omega arith,
      over_more 0 l.i _ _ _ _ l.invariant.1 (rw (lt-ltb l.i 31 (omega arith)) (over_at 0 l.i _ _ l.a (l.i + 1) l.invariant.1 (omega arith))),
    )

pub returns : goal.returns
unfolding shifted
returns c =
    let l = c.loop-i in
    let e : l.i ≡ 31 = omega arith in
    rw c.if-not-on.false (over_more 0 31 _ _ _ _ (rw e at l.invariant.1) refl)
