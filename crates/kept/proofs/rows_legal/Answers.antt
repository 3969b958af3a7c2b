use Rattle.kept.proofs.Sound.{rows_test}
use Rattle.kept.proofs.rows_legal.Goals as goal

pub returns : goal.returns
returns c =
    let a = c.args in
    rw (c.periods_rise.ensures, c.all_kept-kept.ensures) (rows_test a.n a.c.now a.t.now a.d.now a.k.now a.left.now a.counter.now)
