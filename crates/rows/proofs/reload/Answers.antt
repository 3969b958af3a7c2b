use Rattle.std.proofs.Common.{◌≡◌, refl, arith}
use Rattle.seq.specs.Places.{over}
use Rattle.seq.proofs.Places.{over_more}
use Rattle.rows.specs.Rows.{idle, reloaded}
use Rattle.rows.proofs.Idle.{idle_most, idle_miss, idle_hit}
use Rattle.rows.proofs.reload.Goals as goal

pub loop-i-init : goal.loop-i-init
unfolding over
loop-i-init c = (omega arith, refl)

pub returns-then-left-i-ne0 : goal.returns-then-left-i-ne0
unfolding reloaded
returns-then-left-i-ne0 c =
    let l = c.loop-i in
    let a = c.args in
    rw (idle_hit a.n a.left.now l.i (omega (arith, c.min-i-end.ensures)) c.if-left-i-ne0.true l.invariant.0) l.invariant.1

pub loop-i-preserved : goal.loop-i-preserved
loop-i-preserved c =
    let l = c.loop-i in
    let a = c.args in (
      omega (arith, idle_miss a.n a.left.now l.i (omega (arith, c.min-i-end.ensures)) c.if-left-i-ne0.false l.invariant.0),
      over_more 0 l.i _ _ _ _ l.invariant.1 refl,
    )

pub returns : goal.returns
unfolding reloaded
returns c =
    let l = c.loop-i in
    let a = c.args in
    let e : l.i ≡ idle a.n a.left.now = omega (arith, c.min-i-end.ensures, idle_most a.n a.left.now) in
    rw (← e) l.invariant.1
