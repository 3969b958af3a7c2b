-- The input of the listing program: the table's record, and the events behind it.
use Rattle.std.specs.Prelude.{ℕ, ◌+◌, min, List, cond, eqb, leb, length, take, drop}
use Rattle.seq.specs.Places.{at}
use Rattle.seq.specs.Bytes.{big_at}
use Rattle.events.specs.declared.Event.{Event}
use Rattle.events.specs.declared.Event.TheVariants.{End, Slot, Lost, Request, Bad}

-- the first 3 + length bytes, or all of the input if there are fewer
abbrev pub record_length : List ℕ → ℕ
record_length s = min (3 + big_at s 1) (length s)

abbrev pub record_of : List ℕ → List ℕ
record_of s = take (record_length s) s

abbrev pub events_of : List ℕ → List ℕ
events_of s = drop (record_length s) s

-- the event at place p: a slot, a lost slot, a request with name and size; unknown or cut ones are bad
unfoldable pub event_at : List ℕ → ℕ → Event
event_at s p =
    cond (leb (length s) p)
    End
    (cond (eqb (at s p) 0)
    Slot
    (cond (eqb (at s p) 1)
    Lost
    (cond (eqb (at s p) 2)
    (cond (leb (p + 5) (length s)) (Request (big_at s (p + 1)) (big_at s (p + 3))) Bad)
    Bad)))

-- the bytes of an event that was read
abbrev pub width_of : Event → ℕ
width_of End = 0
width_of Slot = 1
width_of Lost = 1
width_of (Request name size) = 5
width_of Bad = 0
