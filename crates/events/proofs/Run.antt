-- A run over the input goes forward and ends, and its parts make up the input.
use mathlib.Core.Path.{◌≡◌, refl}
use mathlib.Core.List.{List, ◌++◌}
use mathlib.Core.Bool.{Bool, true, false, cond}
use Prim.Native.Nat.{ℕ, ◌+◌, ◌-◌, ◌≤◌, ◌<◌}
use native.Mathlib.Omega.{arith}
use native.Mathlib.Nat.{add_assoc}
use borrow.Author.Tests.{leb-true, leb-false}
use lib.Dec.{eqb, leb}
use lib.ListN.{length, take, drop, take-append-drop, length-drop}
use lib.Seq.{take_all, get_or-drop}
use Rattle.seq.specs.Places.{at}
use Rattle.seq.specs.Bytes.{big_at}
use Rattle.seq.proofs.Places.{leb_alike}
use Rattle.events.specs.Events.{record_length, record_of, events_of, event_at, width_of}
use Rattle.events.specs.declared.Event.{Event}
use Rattle.events.specs.declared.Event.TheVariants.{End, Slot, Lost, Request, Bad}

-- The record and the events are the input
pub parts_whole : (s : List ℕ) → record_of s ++ events_of s ≡ s
parts_whole s = take-append-drop (record_length s) s

-- the record is the first 3 + length bytes, or the whole input if there are fewer, so also if there are under 3
pub record_first : (s : List ℕ) → 3 + big_at s 1 ≤ length s → record_of s ≡ take (3 + big_at s 1) s
record_first s h = let e : record_length s ≡ 3 + big_at s 1 = omega arith in rw e

pub record_all : (s : List ℕ) → length s ≤ 3 + big_at s 1 → record_of s ≡ s
record_all s h = take_all (record_length s) s (omega arith)

pub record_short : (s : List ℕ) → length s < 3 → record_of s ≡ s
record_short s h = record_all s (omega arith)

-- An event stays within the input
stays : (n p name size : ℕ) (e a b c d : Bool) → p ≤ n → (e ≡ false → p + 1 ≤ n) → (d ≡ true → p + 5 ≤ n) → p + width_of (cond e End (cond a Slot (cond b Lost (cond c (cond d (Request name size) Bad) Bad)))) ≤ n
stays n p name size true a b c d h f g = omega arith
stays n p name size false true b c d h f g = f refl
stays n p name size false false true c d h f g = f refl
stays n p name size false false false true true h f g = g refl
stays n p name size false false false true false h f g = omega arith
stays n p name size false false false false d h f g = omega arith

pub event_within : (s : List ℕ) (p : ℕ) → p ≤ length s → p + width_of (event_at s p) ≤ length s
unfolding event_at
event_within s p h =
    stays
    (length s)
    p
    (big_at s (p + 1))
    (big_at s (p + 3))
    (leb (length s) p)
    (eqb (at s p) 0)
    (eqb (at s p) 1)
    (eqb (at s p) 2)
    (leb (p + 5) (length s))
    h
    (λ e. omega (arith, leb-false (length s) p e))
    (leb-true (p + 5) (length s))

-- and moves on, unless it ends the run
pub event_forward : (e : Event) → (e ≡ End → ⊥) → (e ≡ Bad → ⊥) → 1 ≤ width_of e
event_forward End h g = absurd (h refl)
event_forward Slot h g = omega arith
event_forward Lost h g = omega arith
event_forward (Request name size) h g = omega arith
event_forward Bad h g = absurd (g refl)

-- An event read from the events' part is the one that stands in the input, behind the record
big_drop : (s : List ℕ) (k p : ℕ) → big_at (drop k s) p ≡ big_at s (k + p)
big_drop s k p = rw (get_or-drop k s p 0, get_or-drop k s (p + 1) 0, ← add_assoc k p 1)

pub event_in_part : (s : List ℕ) (k p : ℕ) → k ≤ length s → event_at (drop k s) p ≡ event_at s (k + p)
unfolding event_at
event_in_part s k p h =
    let e : leb (length s - k) p ≡ leb (length s) (k + p) = leb_alike (length s - k) p (length s) (k + p) (λ g. omega arith) (λ g. omega arith) in
    let f : leb (p + 5) (length s - k) ≡ leb (k + p + 5) (length s) = leb_alike (p + 5) (length s - k) (k + p + 5) (length s) (λ g. omega arith) (λ g. omega arith) in
    rw (length-drop k s, e, f, get_or-drop k s p 0, big_drop s k (p + 1), big_drop s k (p + 3), ← add_assoc k p 1, ← add_assoc k p 3)
