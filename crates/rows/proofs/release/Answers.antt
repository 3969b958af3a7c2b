use Rattle.std.proofs.Common.{cond, refl, rules, arith}
use Rattle.seq.specs.Places.{at, over}
use Rattle.seq.proofs.SetBits.{walked_more, walked_all}
use Rattle.rows.specs.Rows.{released}
use Rattle.rows.proofs.release.Goals as goal

pub loop-i-init : goal.loop-i-init
unfolding over
loop-i-init c = refl

pub loop-i-preserved : goal.loop-i-preserved
loop-i-preserved c =
    let l = c.loop-i in
    let a = c.args in
    walked_more a.due (λ on j x. cond on (at a.c.now j) x) a.left.now l.i _ l.left l.invariant (rw (c.pick.ensures, c.has.ensures))

pub returns : goal.returns
unfolding released
returns c =
    let l = c.loop-i in
    let a = c.args in
    walked_all a.due (λ on j x. cond on (at a.c.now j) x) a.left.now (search rules) (λ j x. refl) l.i l.left (omega (arith, c.top-i-end.ensures)) l.invariant
