-- Inputs and what stands in them: the example of the listing, and the corners.
use mathlib.Core.Path.{◌≡◌, refl}
use mathlib.Core.List.{List, [], ◌∷◌, ◌++◌}
use Prim.Native.Nat.{ℕ}
use lib.ListN.{replicate}
use Rattle.events.specs.Events.{record_length, record_of, events_of, event_at}
use Rattle.events.specs.declared.Event.TheVariants.{End, Slot, Lost, Request, Bad}

-- (1,3,3) (1,4,4) (1,6,6); five slots, a request of name 7 and size 3, seven slots
abbrev example : List ℕ
example =
    (1 ∷ 0 ∷ 19 ∷ 3 ∷ 0 ∷ 1 ∷ 0 ∷ 3 ∷ 0 ∷ 3 ∷ 0 ∷ 1 ∷ 0 ∷ 4 ∷ 0 ∷ 4 ∷ 0 ∷ 1 ∷ 0 ∷ 6 ∷ 0 ∷ 6 ∷ [])
    ++ replicate 5 0
    ++ (2 ∷ 0 ∷ 7 ∷ 0 ∷ 3 ∷ [])
    ++ replicate 7 0

example_length : record_length example ≡ 22
example_length = refl

example_slot : event_at example 22 ≡ Slot
unfolding event_at
example_slot = refl

example_request : event_at example 27 ≡ Request 7 3
unfolding event_at
example_request = refl

example_end : event_at example 39 ≡ End
unfolding event_at
example_end = refl

-- a name above 255, a lost slot, a cut request, an unknown byte
high_name : event_at (2 ∷ 1 ∷ 4 ∷ 2 ∷ 0 ∷ []) 0 ≡ Request 260 512
unfolding event_at
high_name = refl

lost : event_at (0 ∷ 1 ∷ []) 1 ≡ Lost
unfolding event_at
lost = refl

cut : event_at (2 ∷ 0 ∷ 7 ∷ 0 ∷ []) 0 ≡ Bad
unfolding event_at
cut = refl

unknown : event_at (3 ∷ 0 ∷ 7 ∷ 0 ∷ 3 ∷ []) 0 ≡ Bad
unfolding event_at
unknown = refl

-- the length field decides, whatever the version; under 3 bytes are all the record
no_length : record_of (9 ∷ 0 ∷ 0 ∷ 5 ∷ 0 ∷ []) ≡ 9 ∷ 0 ∷ 0 ∷ []
no_length = refl

two_bytes : record_of (1 ∷ 0 ∷ []) ≡ 1 ∷ 0 ∷ []
two_bytes = refl

fewer : record_of (1 ∷ 1 ∷ 0 ∷ 3 ∷ []) ≡ 1 ∷ 1 ∷ 0 ∷ 3 ∷ []
fewer = refl

no_events : events_of (1 ∷ 1 ∷ 0 ∷ 3 ∷ []) ≡ []
no_events = refl
