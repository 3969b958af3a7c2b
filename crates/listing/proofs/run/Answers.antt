use Rattle.std.proofs.Common.{◌+◌, ◌-◌, ◌≤◌, ◌<◌, ◌≡◌, arith, length, is_some, refl}
use Rattle.std.specs.ControlFlow.{continue_value}
use Rattle.seq.specs.Places.{flag}
use Rattle.events.specs.Events.{width_of}
use Rattle.events.proofs.Run.{event_within}
use Rattle.report.proofs.Run.{runs_out}
use Rattle.listing.proofs.run.Goals as goal

pub loop-next-smaller : goal.loop-next-smaller
loop-next-smaller g c =
    let s = c.args.s.now in
    let x = c.loop-next in
    let e = c.event_at-e.result in
    let within : x.p + width_of e ≤ length s = rw c.event_at-e.ensures (event_within s x.p x.invariant) in
    let on : flag (is_some (continue_value c.hear-h.result.next)) ≡ 1 = rw c.in-Continue.is refl in
    let shorter : length s - (x.p + width_of e) + flag (is_some (continue_value c.hear-h.result.next)) < length s - x.p + 1 = rw c.hear-h.ensures (runs_out (length s) x.p (c.args.head + x.p) x.state e within) in
    omega (arith, c.width-p.ensures, on, shorter)
