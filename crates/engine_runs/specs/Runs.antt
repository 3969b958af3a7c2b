-- A run: what the engine says to events one after another, and the state that it ends in.
use Rattle.std.specs.Prelude.{ℕ, List, [], ◌∷◌, true, false}
use Rattle.table.specs.Verdicts.{Verdict}
use Rattle.engine.specs.declared.State.{State}
use Rattle.engine.specs.declared.Answer.{Answer}
use Rattle.engine.specs.declared.Slotted.{Slotted}
use Rattle.engine.specs.declared.Requested.{Requested}
use Rattle.engine.specs.Slot.{slot_of}
use Rattle.engine.specs.Calls.{request_of}

pub data Event : Type 0 where
  slot : Event
  lost_slot : Event
  request : ℕ → ℕ → Event

-- to a slot its answer, to a request its verdict
pub data Said : Type 0 where
  answer : Answer → Said
  verdict : Verdict → Said

pub record Turn : Type 0 where
  pub state : State
  pub said : Said

abbrev slot_turn : Slotted → Turn
slot_turn r = record { state = r.state; said = answer r.answer }

abbrev request_turn : Requested → Turn
request_turn r = record { state = r.state; said = verdict r.verdict }

abbrev pub turn : State → Event → Turn
turn s slot = slot_turn (slot_of s false)
turn s lost_slot = slot_turn (slot_of s true)
turn s (request name size) = request_turn (request_of s name size)

pub record Run : Type 0 where
  pub end : State
  pub says : List Said

abbrev told : Said → Run → Run
told x r = record { end = r.end; says = x ∷ r.says }

unfoldable pub run : State → List Event → Run
run s [] = record { end = s; says = [] }
run s (e ∷ l) = told (turn s e).said (run (turn s e).state l)
