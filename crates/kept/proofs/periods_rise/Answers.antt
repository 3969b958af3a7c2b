use Rattle.std.proofs.Common.{◌≡◌, ◌+◌, min, sym, arith}
use borrow.Author.Tests.{le-leb}
use Rattle.seq.specs.Places.{at}
use Rattle.seq.proofs.Places.{every_more, every_true}
use Rattle.kept.proofs.periods_rise.Goals as goal

pub loop-i-init : goal.loop-i-init
loop-i-init c =
    let t = c.args.t.now in
    (omega arith, sym (every_true _ _ (λ j h. let z : j ≡ 0 = omega (arith, h) in rw z (le-leb (at t 0) (at t 0) (omega arith)))))

pub loop-i-preserved : goal.loop-i-preserved
loop-i-preserved c =
    let l = c.loop-i in
    let n = c.args.n in
    let e : min l.i (min n 16) ≡ l.i = omega (arith, c.min-i-end.ensures) in
    let f : min (l.i + 1) (min n 16) ≡ l.i + 1 = omega (arith, c.min-i-end.ensures) in
    (omega arith, rw (f, every_more l.i, ← (rw e at l.invariant.1)))

pub returns : goal.returns
returns c =
    let l = c.loop-i in
    let e : min l.i (min c.args.n 16) ≡ min c.args.n 16 = omega (arith, c.min-i-end.ensures) in
    rw e at l.invariant.1
