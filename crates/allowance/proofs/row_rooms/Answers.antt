use Rattle.std.proofs.Common.{◌≡◌, refl, sym, ap, ◌∙◌, arith}
use borrow.Author.Tests.{le-ltb}
use Rattle.std.specs.Prelude.{Ok}
use Rattle.seq.specs.Places.{at, over}
use Rattle.seq.proofs.Places.{lead_most, lead_miss, over_more}
use Rattle.allowance.specs.Test.{lacking_row, lacks_verdict, allowances}
use Rattle.allowance.proofs.Row.{none_held, some_held}
use Rattle.allowance.proofs.Tests.{zero_held, lacks_at}
use Rattle.allowance.proofs.row_rooms.Goals as goal

pub loop-i-init : goal.loop-i-init
unfolding over
loop-i-init c = (omega arith, refl)

pub returns-in_default : goal.returns-in_default
returns-in_default c =
    let l = c.loop-i in
    let x = c.args.x.now.table in
    lacks_at x l.i (omega arith) (none_held x.c x.t l.i (at x.d l.i) (sym c.row_room.ensures ∙ c.in_default.is)) l.invariant.0

pub loop-i-preserved : goal.loop-i-preserved
unfolding lacking_row
loop-i-preserved c =
    let l = c.loop-i in
    let x = c.args.x.now.table in
    let e = some_held x.c x.t l.i (at x.d l.i) c.in-Some.k (sym c.row_room.ensures ∙ c.in-Some.is) in
    (omega (arith, lead_miss x.n (zero_held x) l.i (omega arith) e.0 l.invariant.0), over_more 0 l.i _ _ _ _ l.invariant.1 e.1)

pub returns : goal.returns
unfolding lacks_verdict lacking_row allowances
returns c =
    let l = c.loop-i in
    let x = c.args.x.now.table in
    let n : l.i ≡ x.n = omega arith in
    let e : lacking_row x.c x.t x.d x.n ≡ x.n = omega (arith, lead_most x.n (zero_held x), l.invariant.0) in
    rw (e, le-ltb x.n x.n (omega arith)) (ap Ok (rw n at l.invariant.1))
