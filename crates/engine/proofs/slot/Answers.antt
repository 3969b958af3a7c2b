use Rattle.std.proofs.Common.{ap, ◌∙◌, Bool}
use Rattle.seq.specs.Places.{at}
use Rattle.engine.specs.declared.SlotSaid.{SlotSaid}
use Rattle.engine.specs.Slot.{slot_of}
use Rattle.engine.specs.Said.{said_of, cases_of, is_on}
use Rattle.engine.proofs.Numbers.{said_back, on_flag}
use Rattle.engine.proofs.slot.Goals as goal

pub returns : goal.returns
returns c =
    let s = c.args.s in
    let on = ap is_on c.from.ensures ∙ on_flag c.args.lost in
    let e = c.slot_said-r.ensures in
    λ i. record {
      state = (ap (λ (q : SlotSaid). q.state) e ∙ ap (λ (b : Bool). (slot_of s b).state) on) i;
      answer = (c.in_cases.ensures ∙ ap (λ (q : SlotSaid). cases_of q.answer (at s.names 0)) e ∙ ap (λ (b : Bool). cases_of (said_of (slot_of s b).answer) (at s.names 0)) on ∙ said_back s c.args.lost) i;
    }
