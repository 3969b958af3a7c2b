use Rattle.std.proofs.Common.{refl, arith}
use Rattle.seq.specs.Places.{at}
use Rattle.law.specs.Slack.{slack}
use Rattle.law.proofs.Slack.{slack_next}
use Rattle.table.proofs.WellFormed.{taken_row}
use Rattle.allowance.proofs.slack_of.Goals as goal

pub loop-before-init : goal.loop-before-init
unfolding slack
loop-before-init c = refl

pub loop-before-preserved : goal.loop-before-preserved
loop-before-preserved c =
    let l = c.loop-before in
    let x = c.args.x.now.table in
    rw (slack_next (at x.c) (at x.t) c.args.i l.before, c.max-s.ensures, c.saturating_sub.ensures, c.work.ensures.0, c.from-need.ensures, l.invariant)

pub work-requires : goal.work-requires
work-requires c =
    let x = c.args.x.now in
    let y = taken_row x.table x.taken c.args.i c.requires in
    (omega (arith, c.requires), omega (arith, c.from-due.ensures, y.within, y.longest))
