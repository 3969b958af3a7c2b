-- What the listing program prints for an input, event by event.
use Rattle.std.specs.Prelude.{ℕ, zero, suc, ◌+◌, List, [], ◌++◌, Bool, true, false, cond, ltb, length, Result, Ok, Err}
use Rattle.std.specs.declared.ops.ControlFlow.TheVariants.{Continue, Break}
use Rattle.table.specs.Verdicts.{Verdict, number_of, row_named, taken, ◌and_then◌}
use Rattle.record.specs.Record.{read_of}
use Rattle.engine.specs.declared.State.{State}
use Rattle.engine.specs.declared.Started.{Started}
use Rattle.engine.specs.declared.Answer.{Answer}
use Rattle.engine.specs.Slot.{slot_of}
use Rattle.engine.specs.Calls.{request_of, late_total_of}
use Rattle.engine.specs.Start.{start_of}
use Rattle.events.specs.declared.Event.{Event}
use Rattle.events.specs.declared.Event.TheVariants as event
use Rattle.events.specs.Events.{record_of, record_length, event_at, width_of}
use Rattle.lines.specs.Lines.{slot_line, refused_line, bad_line, total_line, long_line}
use Rattle.text.specs.Text.{line_of}
use Rattle.report.specs.declared.Heard.{Heard}
use Rattle.report.specs.declared.Unopened.{Unopened}

-- The beginning: the record is read and the run started

abbrev pub start_in : List ℕ → Started
start_in s = start_of (read_of (record_of s)).table

-- the first refusal of the reader and the start
abbrev pub first_verdict : List ℕ → Verdict
first_verdict s = (read_of (record_of s)).verdict and_then (start_in s).verdict

-- more than 65,536 bytes are too many
abbrev pub too_long : List ℕ → Bool
too_long s = ltb 65536 (length s)

unfoldable pub opening_text : List ℕ → List ℕ
opening_text s = cond (too_long s) long_line (taken (first_verdict s) [] (refused_line (number_of (first_verdict s)) (row_named (first_verdict s))))

unfoldable pub goes_ahead : List ℕ → Bool
goes_ahead s = cond (too_long s) false (taken (first_verdict s) true false)

-- the state in which the run begins, or the line that is printed instead, with what the start gives
unfoldable pub opened_of : List ℕ → Result State Unopened
opened_of s = cond (goes_ahead s) (Ok (start_in s).state) (Err (record { line = line_of (opening_text s); state = (start_in s).state }))

-- An event

-- a slot that is run prints its number, its use and the late word
abbrev pub answer_text : ℕ → Answer → List ℕ
answer_text slot a = taken a.verdict (slot_line slot a.used a.word) (refused_line (number_of a.verdict) 0)

-- a request that is taken prints nothing
abbrev pub request_text : Verdict → List ℕ
request_text v = taken v [] (refused_line (number_of v) 0)

unfoldable pub event_text : State → Event → ℕ → List ℕ
event_text s event.End p = []
event_text s event.Slot p = answer_text s.next (slot_of s false).answer
event_text s event.Lost p = answer_text s.next (slot_of s true).answer
event_text s (event.Request name size) p = request_text (request_of s name size).verdict
event_text s event.Bad p = bad_line p

unfoldable pub event_state : State → Event → State
event_state s event.End = s
event_state s event.Slot = (slot_of s false).state
event_state s event.Lost = (slot_of s true).state
event_state s (event.Request name size) = (request_of s name size).state
event_state s event.Bad = s

abbrev pub goes_on : Event → Bool
goes_on event.End = false
goes_on event.Slot = true
goes_on event.Lost = true
goes_on (event.Request name size) = true
goes_on event.Bad = false

unfoldable pub heard_of : State → Event → ℕ → Heard
heard_of s e p = record { line = line_of (event_text s e p); next = cond (goes_on e) (Continue (event_state s e)) (Break (event_state s e)) }

-- The end of a run that began
unfoldable pub total_text : State → List ℕ
total_text s = total_line s.hard s.given s.empty s.lost (late_total_of s).total

-- The whole: the events from place p on, n of them at the most
unfoldable pub events_text : ℕ → List ℕ → ℕ → State → List ℕ
events_text zero s p z = total_text z
events_text (suc n) s p z =
    event_text z (event_at s p) p
    ++ cond (goes_on (event_at s p)) (events_text n s (p + width_of (event_at s p)) (event_state z (event_at s p))) (total_text z)

unfoldable pub listing : List ℕ → List ℕ
listing s = opening_text s ++ cond (goes_ahead s) (events_text (length s) s (record_length s) (start_in s).state) []
