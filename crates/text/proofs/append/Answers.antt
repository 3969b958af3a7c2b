use native.Mathlib.Omega.{arith}
use Rattle.std.proofs.Common.{◌≡◌, rules, length, take}
use Rattle.seq.proofs.Places.{take_most}
use Rattle.text.specs.Text.{said}
use Rattle.text.proofs.Laid.{part_none}
use Rattle.text.proofs.append.Goals as goal

pub returns-then-room-said : goal.returns-then-room-said
returns-then-room-said c =
    let a = c.args in
    let e : length a.line.bytes ≡ 128 = search rules in
    let m : take c.min.result a.line.bytes ≡ said a.line = take_most a.line.length c.min.result a.line.bytes (rw e c.min.ensures) in
    rw (← m) (part_none _ a.out.now a.p (omega arith))
