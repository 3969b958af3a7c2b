use Rattle.std.proofs.Common.{arith}
use Rattle.seq.specs.Places.{at}
use Rattle.allowance.proofs.Row.{room_none, room_some, room_small, row_some, row_periods, row_due}
use Rattle.allowance.proofs.row_room.Goals as goal

pub returns-then-s-eq0 : goal.returns-then-s-eq0
returns-then-s-eq0 c =
    let x = c.args.x.now in
    let t = x.table in
    let i = c.args.i in
    room_none t.c t.t i (at t.d i) (row_some t x.taken i c.requires) (row_periods t x.taken i c.requires) (omega (arith, c.slack_of-s.ensures))

pub overflow_cast-result : goal.overflow_cast-result
overflow_cast-result c =
    let x = c.args.x.now in
    let t = x.table in
    let i = c.args.i in
    omega (
      arith,
      c.slack_of-s.ensures,
      room_small t.c t.t i (at t.d i) (row_some t x.taken i c.requires) (row_periods t x.taken i c.requires) (row_due t x.taken i c.requires),
    )

pub returns : goal.returns
returns c =
    let x = c.args.x.now in
    let t = x.table in
    let i = c.args.i in
    let e = c.slack_of-s.ensures in
    rw e (room_some t.c t.t i (at t.d i) (row_some t x.taken i c.requires) (row_periods t x.taken i c.requires) (omega (arith, e)))
