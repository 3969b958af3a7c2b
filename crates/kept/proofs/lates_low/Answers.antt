use Rattle.std.proofs.Common.{min, refl, sym, arith}
use Rattle.std.proofs.lemmas.List.{get_or-take, length-take-le}
use lib.Dec.{leb}
use borrow.Author.Tests.{le-leb, lt-leb}
use Rattle.seq.specs.Places.{at, every}
use Rattle.seq.proofs.Places.{every_more, every_not}
use Rattle.kept.proofs.lates_low.Goals as goal

pub loop-x-init : goal.loop-x-init
unfolding every
loop-x-init c = refl

pub returns-then-ran-x : goal.returns-then-ran-x
returns-then-ran-x c =
    let a = c.args in
    let i = c.loop-x.x-index in
    let m = length-take-le c.min.result a.late.now (omega arith) in
    let e = get_or-take c.min.result a.late.now i 0 (omega arith) in
    sym (every_not (min a.n 16) (λ j. leb (at a.late.now j) a.ran) i (omega arith) (lt-leb (at a.late.now i) a.ran (omega arith)))

pub loop-x-preserved : goal.loop-x-preserved
loop-x-preserved c =
    let a = c.args in
    let i = c.loop-x.x-index in
    let m = length-take-le c.min.result a.late.now (omega arith) in
    let e = get_or-take c.min.result a.late.now i 0 (omega arith) in
    rw (every_more i, c.loop-x.invariant) (le-leb (at a.late.now i) a.ran (omega arith))
