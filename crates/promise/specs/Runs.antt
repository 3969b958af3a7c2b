-- Runs: any list of calls on a state, and the history of the answers. Each call is the engine's own.
use Rattle.std.specs.Prelude.{ℕ, ◌-◌, List, [], ◌∷◌, ◌++◌, Bool, false, cond, ltb, length}
use Rattle.table.specs.Verdicts.{taken}
use Rattle.engine.specs.declared.State.{State}
use Rattle.engine.specs.declared.Answer.{Answer}
use Rattle.engine.specs.Slot.{slot_of}
use Rattle.engine.specs.Calls.{request_of}

-- a slot, that an outside cause may take; a request with a name and a size
pub data Call : Type 0 where
  slot : (lost : Bool) → Call
  request : (name size : ℕ) → Call

-- the state after a call
unfoldable pub step : State → Call → State
step s (slot lost) = (slot_of s lost).state
step s (request name size) = (request_of s name size).state

-- what a call adds to the history: the answer of a slot that was run
unfoldable pub said : State → Call → List Answer
said s (slot lost) = taken (slot_of s lost).answer.verdict ((slot_of s lost).answer ∷ []) []
said s (request name size) = []

unfoldable pub run_of : State → List Call → State
run_of s [] = s
run_of s (x ∷ calls) = run_of (step s x) calls

unfoldable pub history : State → List Call → List Answer
history s [] = []
history s (x ∷ calls) = said s x ++ history (step s x) calls

-- slot x of a run (x slots were run before it): the state in which it was called, and whether it was lost; past the last slot the
-- state in the end
pub record Moment : Type 0 where
  pub state : State
  pub lost : Bool

abbrev pub is_lost_call : Call → Bool
is_lost_call (slot lost) = lost
is_lost_call (request name size) = false

unfoldable pub moment : State → List Call → ℕ → Moment
moment s [] x = record { state = s; lost = false }
moment s (y ∷ calls) x =
    cond (ltb x (length (said s y))) (record { state = s; lost = is_lost_call y })
    (moment (step s y) calls (x - length (said s y)))
