-- A slot's answer in numbers, for callers that have no cases.
use Rattle.std.specs.Prelude.{ℕ, Bool, Err, cond, not, eqb}
use Rattle.table.specs.declared.Refusal.TheVariants.{RunOver, StateIllegal}
use Rattle.table.specs.Verdicts.{Verdict, Taken, number_of}
use Rattle.uses.specs.Numbers.{use_number, use_who, use_told}
use Rattle.engine.specs.declared.State.{State}
use Rattle.engine.specs.declared.Answer.{Answer}
use Rattle.engine.specs.declared.Said.{Said}
use Rattle.engine.specs.declared.SlotSaid.{SlotSaid}
use Rattle.engine.specs.Slot.{slot_of}

abbrev pub said_of : Answer → Said
said_of a = record { number = number_of a.verdict; used = use_number a.used; word = a.word; late = a.late; who = use_who a.used }

-- a slot that is refused is refused with 10 or 11
abbrev pub verdict_told : ℕ → Verdict
verdict_told number = cond (eqb number 0) Taken (cond (eqb number 10) (Err RunOver) (Err StateIllegal))

-- and back, where the head request had this name before the slot
abbrev pub cases_of : Said → ℕ → Answer
cases_of a name = record { verdict = verdict_told a.number; used = use_told a.used a.who name; word = a.word; late = a.late }

-- any number but 0 says that the slot was lost
abbrev pub is_on : ℕ → Bool
is_on x = not (eqb x 0)

abbrev pub slot_said : State → ℕ → SlotSaid
slot_said s lost = record { state = (slot_of s (is_on lost)).state; answer = said_of (slot_of s (is_on lost)).answer }
