use Rattle.std.proofs.Common.{◌≡◌, refl, sym, arith}
use Rattle.std.proofs.lemmas.List.{get_or-take, length-take-le}
use lib.Dec.{ltb}
use borrow.Author.Tests.{lt-ltb, le-ltb}
use Rattle.seq.specs.Places.{at, every}
use Rattle.seq.proofs.Places.{every_more, every_not}
use Rattle.rows.specs.Rows.{rows_of, none_zero}
use Rattle.rows.proofs.none_zero.Goals as goal

pub loop-k-init : goal.loop-k-init
unfolding every
loop-k-init c = refl

pub returns-then-k-eq0 : goal.returns-then-k-eq0
unfolding none_zero
returns-then-k-eq0 c =
    let a = c.args in
    let i = c.loop-k.k-index in
    let m = length-take-le c.min.result a.counter.now (omega arith) in
    let e = get_or-take c.min.result a.counter.now i 0 (omega arith) in
    sym (every_not (rows_of a.n) (λ j. ltb 0 (at a.counter.now j)) i (omega arith) (le-ltb 0 (at a.counter.now i) (omega arith)))

pub loop-k-preserved : goal.loop-k-preserved
loop-k-preserved c =
    let a = c.args in
    let i = c.loop-k.k-index in
    let m = length-take-le c.min.result a.counter.now (omega arith) in
    let e = get_or-take c.min.result a.counter.now i 0 (omega arith) in
    rw (every_more i, c.loop-k.invariant) (lt-ltb 0 (at a.counter.now i) (omega arith))

pub returns : goal.returns
unfolding none_zero
returns c =
    let a = c.args in
    let l = c.loop-k in
    let m = length-take-le c.min.result a.counter.now (omega arith) in
    let e : l.k-index ≡ rows_of a.n = omega (arith, c.min.ensures) in
    sym (rw e at l.invariant)
