use mathlib.Core.Path.{◌≡◌, refl}
use native.Mathlib.Omega.{arith}
use borrow.Author.Tests.{lt-leb, le-leb}
use Rattle.seq.specs.Places.{every}
use Rattle.seq.proofs.Places.{every_more}
use Rattle.queue.specs.Queue.{proper}
use Rattle.queue.proofs.is_proper.Goals as goal

pub returns-then-count-gt32 : goal.returns-then-count-gt32
unfolding proper
returns-then-count-gt32 c = rw (lt-leb c.args.count 32 c.if-count-gt32.true)

pub loop-i-init : goal.loop-i-init
unfolding every
loop-i-init c = (omega arith, refl, refl, refl)

pub loop-i-preserved : goal.loop-i-preserved
loop-i-preserved c =
    let l = c.loop-i in
    (omega arith, omega arith, l.invariant.2, rw (c.place_proper-ok.ensures, l.invariant.1, l.invariant.2, every_more l.i, ← l.invariant.3))

pub returns : goal.returns
unfolding proper
returns c =
    let l = c.loop-i in
    let e : l.i ≡ 32 = omega arith in
    rw (le-leb c.args.count 32 c.if-count-gt32.false) (rw e at l.invariant.3)
