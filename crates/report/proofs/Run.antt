-- A run over an input ends: it begins only on a short one, and each event takes it forward or ends it.
use mathlib.Core.Path.{◌≡◌, refl, ap}
use mathlib.Core.List.{List}
use mathlib.Core.Bool.{Bool, true, false, cond}
use Prim.Native.Nat.{ℕ, ◌+◌, ◌-◌, ◌≤◌, ◌<◌}
use native.Mathlib.Omega.{arith}
use borrow.Author.Tests.{ltb-false}
use lib.ListN.{length, length-drop}
use Rattle.std.specs.Prelude.{Ok, Err, is_ok, is_some}
use Rattle.std.specs.ControlFlow.{continue_value}
use Rattle.std.specs.declared.ops.ControlFlow.TheVariants.{Continue, Break}
use Rattle.seq.specs.Places.{flag}
use Rattle.engine.specs.declared.State.{State}
use Rattle.events.specs.Events.{record_length, events_of, width_of}
use Rattle.events.specs.declared.Event.{Event}
use Rattle.events.specs.declared.Event.TheVariants.{End, Slot, Lost, Request, Bad}
use Rattle.report.specs.declared.Unopened.{Unopened}
use Rattle.report.specs.Listing.{too_long, goes_ahead, opened_of, goes_on, heard_of}

not_long : (b g : Bool) (y : State) (u : Unopened) → is_ok {E = Unopened} (cond (cond b false g) (Ok y) (Err u)) ≡ true → b ≡ false
not_long true g y u e = cc
not_long false g y u e = refl

pub opens_short : (s : List ℕ) → is_ok (opened_of s) ≡ true → length s ≤ 65536
unfolding opened_of goes_ahead
opens_short s e = ltb-false 65536 (length s) (not_long (too_long s) _ _ _ e)

-- so its record and its events together are as short
pub parts_short : (s : List ℕ) (z : State) → opened_of s ≡ Ok z → record_length s + length (events_of s) ≤ 65536
parts_short s z e = rw (length-drop (record_length s) s) (omega (arith, opens_short s (ap is_ok e)))

goes_out : (n p : ℕ) (e : Event) → p + width_of e ≤ n → n - (p + width_of e) + flag (goes_on e) < n - p + 1
goes_out n p End h = omega arith
goes_out n p Slot h = omega arith
goes_out n p Lost h = omega arith
goes_out n p (Request name size) h = omega arith
goes_out n p Bad h = omega arith

going : (b : Bool) (y z : State) → is_some (continue_value (cond b (Continue y) (Break z))) ≡ b
going true y z = refl
going false y z = refl

pub runs_out : (n p q : ℕ) (z : State) (e : Event) → p + width_of e ≤ n → n - (p + width_of e) + flag (is_some (continue_value (heard_of z e q).next)) < n - p + 1
unfolding heard_of
runs_out n p q z e h = rw (going (goes_on e) _ _) (goes_out n p e h)
