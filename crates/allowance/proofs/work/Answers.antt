use Rattle.std.proofs.Common.{◌*◌, refl, arith}
use Rattle.seq.specs.Places.{at}
use Rattle.law.specs.Sums.{sum, ceil}
use Rattle.law.proofs.Sums.{sum_next}
use Rattle.table.proofs.WellFormed.{taken_row}
use Rattle.allowance.proofs.work.Goals as goal

pub loop-h-init : goal.loop-h-init
unfolding sum
loop-h-init c = (refl, omega arith)

pub loop-h-preserved : goal.loop-h-preserved
loop-h-preserved c =
    let l = c.loop-h in
    let a = c.args in
    let e = sum_next (λ h. at a.x.now.table.c h * ceil a.m (at a.x.now.table.t h)) l.h in
    (omega (arith, c.share-w.ensures), omega arith)

pub share-w-requires : goal.share-w-requires
share-w-requires c =
    let x = c.args.x.now in
    let y = taken_row x.table x.taken c.loop-h.h (omega arith) in
    (omega (arith, y.due, y.within, y.longest), omega (arith, y.some, y.due, y.within), y.longest, c.requires.1)
