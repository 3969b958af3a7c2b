use Rattle.std.proofs.Common.{sym, ◌∙◌, arith}
use Rattle.late.proofs.Counts.{total_exact}
use Rattle.engine.specs.Calls.{late_total_of}
use Rattle.engine.proofs.Legality.{parts_legal, legal_says, late_low}
use Rattle.engine.proofs.late_total.Goals as goal

pub returns-then-not-ok : goal.returns-then-not-ok
unfolding late_total_of
returns-then-not-ok c =
    let tested = parts_legal c.args.s c.rows_legal.ensures c.run_legal.ensures c.is_proper.ensures in
    rw (sym tested ∙ c.if-not-ok.true)

pub returns : goal.returns
unfolding late_total_of
returns c =
    let tested = parts_legal c.args.s c.rows_legal.ensures c.run_legal.ensures c.is_proper.ensures in
    let f = sym tested ∙ c.if-not-ok.false in
    let g = legal_says _ f in
    let k = g.clock in
    rw (f, c.late_total.ensures, total_exact _ (late_low _ g) (omega arith))
