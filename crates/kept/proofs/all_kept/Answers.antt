use mathlib.Core.Path.{refl}
use native.Mathlib.Omega.{arith}
use lib.Dec.{ltb}
use Rattle.seq.specs.Places.{at, every}
use Rattle.seq.proofs.Places.{every_more}
use Rattle.table.specs.Form.{sound}
use Rattle.kept.proofs.Kept.{below_rows}
use Rattle.kept.proofs.Sound.{kept_alike}
use Rattle.kept.proofs.all_kept.Goals as goal

pub loop-i-init : goal.loop-i-init
unfolding every
loop-i-init c = (omega arith, refl, c.min-m.ensures, refl)

pub loop-i-preserved : goal.loop-i-preserved
unfolding sound
loop-i-preserved c =
    let l = c.loop-i in
    let a = c.args in
    let e = below_rows l.i a.n (omega arith) in
    let f = kept_alike (ltb l.i a.n) (at a.c.now l.i) (at a.t.now l.i) (at a.d.now l.i) (at a.k.now l.i) (at a.left.now l.i) (at a.counter.now l.i) in
    (omega arith, omega arith, l.invariant.2, rw (c.row_bounds.ensures, c.row_sound.ensures, l.invariant.1, l.invariant.2, e, f, every_more l.i, ← l.invariant.3))
