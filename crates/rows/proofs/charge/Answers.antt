use Rattle.std.proofs.Common.{◌≡◌, refl, arith}
use Rattle.seq.specs.Places.{over}
use Rattle.seq.proofs.Places.{over_more, over_at, over_same}
use Rattle.rows.specs.Rows.{rows_of, charged}
use Rattle.rows.proofs.charge.Goals as goal

pub returns-then-not-on : goal.returns-then-not-on
unfolding charged
returns-then-not-on c = rw c.if-not-on.true (over_same (rows_of c.args.n) _ _ (λ i x h. omega arith))

pub loop-i-init : goal.loop-i-init
unfolding over
loop-i-init c = refl

pub loop-i-preserved : goal.loop-i-preserved
loop-i-preserved c =
    let l = c.loop-i in
    over_more 0 l.i _ _ _ _ l.invariant (rw (c.saturating_sub.ensures, over_at 0 l.i _ _ l.counter l.i l.invariant (omega arith)))

pub returns : goal.returns
unfolding charged
returns c =
    let l = c.loop-i in
    let e : l.i ≡ rows_of c.args.n = omega (arith, c.min-i-end.ensures) in
    rw c.if-not-on.false (rw e at l.invariant)
