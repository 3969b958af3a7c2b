use Rattle.std.proofs.Common.{refl, arith}
use borrow.Author.Tests.{eq-eqb, ne_eqb}
use Rattle.seq.proofs.Places.{over_same, over_one}
use Rattle.rows.specs.Rows.{worked}
use Rattle.rows.proofs.work.Goals as goal

pub returns-then-row-lt16 : goal.returns-then-row-lt16
unfolding worked
returns-then-row-lt16 c =
    let a = c.args in
    over_one 0 16 _ _ a.row _ (omega arith) (rw (c.saturating_sub.ensures, eq-eqb a.row a.row refl)) (λ i x e. rw (ne_eqb i a.row e) (omega arith))

pub returns-else-row-lt16 : goal.returns-else-row-lt16
unfolding worked
returns-else-row-lt16 c = over_same 16 _ _ (λ i x h. rw (ne_eqb i c.args.row (λ e. omega arith)) (omega arith))
