use Rattle.std.proofs.Common.{refl, arith, rules}
use Rattle.seq.specs.Places.{over}
use Rattle.seq.proofs.SetBits.{walked_more, walked_all}
use Rattle.late.specs.Late.{raised, up}
use Rattle.late.proofs.count_late.Goals as goal

pub loop-i-init : goal.loop-i-init
unfolding over
loop-i-init c = (omega arith, c.top-m.ensures, refl)

pub loop-i-preserved : goal.loop-i-preserved
loop-i-preserved c =
    let l = c.loop-i in
    let a = c.args in
    (omega arith, l.invariant.1, walked_more a.w (λ on j x. up on x) a.late.now l.i _ l.late l.invariant.2 (rw (c.count_up.ensures, c.has.ensures)))

pub returns : goal.returns
unfolding raised
returns c =
    let l = c.loop-i in
    let a = c.args in
    walked_all a.w (λ on j x. up on x) a.late.now (search rules) (λ j x. refl) l.i l.late (omega (arith, l.invariant.1)) l.invariant.2
