use Rattle.std.proofs.Common.{sym, arith}
use Rattle.rows.proofs.Idle.{idle_most, idle_miss, idle_hit}
use Rattle.rows.proofs.idle_rows.Goals as goal

pub returns-then-left-first-ne0 : goal.returns-then-left-first-ne0
returns-then-left-first-ne0 c =
    let l = c.loop-first in
    let a = c.args in
    sym (idle_hit a.n a.left.now l.first (omega (arith, c.min-m.ensures)) c.if-left-first-ne0.true l.invariant)

pub loop-first-preserved : goal.loop-first-preserved
loop-first-preserved c =
    let l = c.loop-first in
    let a = c.args in
    omega (arith, idle_miss a.n a.left.now l.first (omega (arith, c.min-m.ensures)) c.if-left-first-ne0.false l.invariant)

pub returns : goal.returns
returns c =
    let a = c.args in
    omega (arith, c.min-m.ensures, idle_most a.n a.left.now)
