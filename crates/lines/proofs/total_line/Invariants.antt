use Rattle.std.proofs.Common.{◌≡◌}
use lib.ListN.{take}
use Rattle.text.specs.Text.{text, line_of}
use Rattle.lines.proofs.Counted.{counted}
use Rattle.lines.proofs.total_line.Given as goal

abbrev pub invariant-loop-x : goal.invariant-loop-x
invariant-loop-x l = l.line ≡ line_of (counted (text "total") (take l.x-index l.x-items))
