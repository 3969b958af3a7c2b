-- A slot's answer is told by its numbers.
use mathlib.Core.Path.{◌≡◌, refl}
use mathlib.Core.Bool.{Bool, true, false, not}
use Prim.Native.Nat.{ℕ, suc}
use lib.Dec.{eqb}
use lib.Count.{ones}
use Rattle.seq.specs.Places.{flag, at}
use Rattle.uses.specs.declared.Use.TheVariants.{Empty}
use Rattle.uses.specs.Uses.{used_for}
use Rattle.uses.proofs.Numbers.{used_told}
use Rattle.engine.specs.declared.State.{State}
use Rattle.engine.specs.declared.Slotted.{Slotted}
use Rattle.engine.specs.Slot.{choice_of, use_of, late_of, settled, answered, slot_verdict, slot_of}
use Rattle.engine.specs.Said.{verdict_told, said_of, cases_of, is_on}
use Rattle.std.specs.Prelude.{Ok, Err}
use Rattle.table.specs.declared.Refusal.TheVariants.{RunOver, StateIllegal}
use Rattle.table.specs.Verdicts.{Verdict, Taken, number_of, refuse, ◌and_then◌, taken}
use Rattle.legal.specs.Legal.{last_slot, slot_refusal}
use Rattle.engine.specs.Legal.{legal}

abbrev Back : ℕ → Slotted → Type 0
Back name r = cases_of (said_of r.answer) name ≡ r.answer

-- a verdict of a slot is told by its number
told_back : (b z : Bool) → let v = refuse (not b) StateIllegal and_then refuse z RunOver in verdict_told (number_of v) ≡ v
told_back true true = refl
told_back true false = refl
told_back false z = refl

either_back : (name : ℕ) (v : Verdict) (x y : Slotted) → Back name x → Back name y → Back name (taken v x y)
either_back name (Ok tt) x y p q = p
either_back name (Err why) x y p q = q

pub said_back : (s : State) (lost : Bool) → cases_of (said_of (slot_of s lost).answer) (at s.names 0) ≡ (slot_of s lost).answer
unfolding slot_of slot_verdict answered use_of
said_back s lost =
    let u = used_for lost (choice_of s) (at s.names 0) in
    let w = late_of s lost in
    let v = slot_refusal (legal s) s.next in
    either_back (at s.names 0) v
    (record { state = settled s lost; answer = record { verdict = Taken; used = u; word = w; late = ones w } })
    (record { state = s; answer = record { verdict = v; used = Empty; word = 0; late = 0 } })
    (λ i. record { verdict = Taken; used = used_told lost (choice_of s) (at s.names 0) i; word = w; late = ones w })
    (λ i. record { verdict = told_back (legal s) (eqb s.next (suc last_slot)) i; used = Empty; word = 0; late = 0 })

pub on_flag : (on : Bool) → is_on (flag on) ≡ on
on_flag true = refl
on_flag false = refl
