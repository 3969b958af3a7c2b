use Rattle.kept.proofs.Sound.{lates_test}
use Rattle.kept.proofs.lates_kept.Goals as goal

pub returns : goal.returns
returns c =
    let a = c.args in
    rw (c.lates_zero.ensures, c.lates_low.ensures) (lates_test a.n a.ran a.late.now)
