use mathlib.Core.Path.{sym}
use native.Mathlib.Omega.{arith}
use borrow.Author.Tests.{lt-ltb, le-ltb}
use Rattle.seq.proofs.Places.{every_more, every_true}
use Rattle.kept.proofs.Sound.{or_none}
use Rattle.kept.proofs.lates_zero.Goals as goal

pub loop-i-init : goal.loop-i-init
loop-i-init c =
    let n = c.args.n in
    (omega arith, omega arith, sym (every_true c.min-i.result _ (λ j h. rw (lt-ltb j n (omega (arith, c.min-i.ensures))))))

pub loop-i-preserved : goal.loop-i-preserved
loop-i-preserved c =
    let l = c.loop-i in
    let n = c.args.n in
    (omega arith, omega arith, rw (or_none l.rest _, every_more l.i, le-ltb l.i n (omega arith), ← l.invariant.2))
