use Rattle.std.proofs.Common.{◌≡◌}
use Rattle.seq.specs.Places.{at}
use Rattle.law.specs.Slack.{slack}
use Rattle.allowance.proofs.slack_of.Given as goal

abbrev pub invariant-loop-before : goal.invariant-loop-before
invariant-loop-before l = l.s ≡ slack (at l.x.table.c) (at l.x.table.t) l.i l.before
