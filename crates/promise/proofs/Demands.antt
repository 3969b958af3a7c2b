-- Each statement of specs/Demands.antt holds. Assumes nothing.
use mathlib.Core.Path.{◌≡◌, refl}
use mathlib.Core.List.{[]}
use mathlib.Core.Bool.{Bool, true, false}
use Prim.Native.Nat.{ℕ, suc}
use native.Mathlib.Omega.{arith}
use lib.Dec.{eqb, leb}
use Rattle.std.specs.Prelude.{Ok, Err}
use Rattle.table.specs.declared.Table.{Table}
use Rattle.table.specs.declared.Refusal.TheVariants.{SizeZero, QueueFull, RunOver}
use Rattle.table.specs.Verdicts.{Verdict, Taken, number_of, refuse, ◌and_then◌}
use Rattle.allowance.specs.Test.{test_of}
use Rattle.allowance.proofs.Tests.{taken_well, verdict_form, each_is, k_met}
use Rattle.engine.specs.Start.{begun, start_of}
use Rattle.engine.specs.declared.State.{State}
use Rattle.uses.specs.declared.Use.TheVariants.{Empty}
use Rattle.legal.specs.Legal.{last_slot}
use Rattle.engine.specs.Legal.{legal}
use Rattle.engine.specs.Slot.{slot_verdict, slot_of, answered}
use Rattle.engine.specs.Calls.{request_verdict, request_of}
use Rattle.promise.specs.Runs.{Call, slot, request, step, said, run_of, history}
use Rattle.promise.specs.History.{NoneLost}
use Rattle.promise.specs.Demands.{Starts, Demand2, ByTheRules, Demand3a, NeverLate, Demand3b, Untouched, Demand1, LegalStays, NeverEleven}
use Rattle.promise.proofs.Trail.{trail}
use Rattle.promise.proofs.Legal.{run_legal, start_legal}
use Rattle.promise.proofs.Counts.{counted_run, flagged_run}
use Rattle.promise.proofs.Safe.{in_time, spared_all, words_zero}
use Rattle.promise.proofs.Forced.{forced_late_lem}

-- an accepted table is one that passes the test, and its runs start with its allowances
start_is : (x : Table) → Starts x → (start_of x).state ≡ begun x (test_of x).each
unfolding start_of
start_is x e = rw e

passes : (x : Table) → Starts x → (test_of x).verdict ≡ Taken
unfolding start_of
passes x e = e

pub demand2 : Demand2
demand2 x e calls = rw (start_is x e) (counted_run x (passes x e) calls, flagged_run x (passes x e) calls)

pub by_the_rules : ByTheRules
by_the_rules s calls y p = (trail calls s y p).answer

pub demand3a : Demand3a
demand3a x e calls g =
    let v : NoneLost (history (begun x (test_of x).each) calls) = rw (start_is x e) at g in
    rw (start_is x e) (λ i r. in_time x (passes x e) i r calls (spared_all x (test_of x).each calls v i), words_zero x (passes x e) calls v)

pub never_late : NeverLate
never_late x e i r calls g = rw (start_is x e) (in_time x (passes x e) i r calls (rw (start_is x e) at g))

pub demand3b : Demand3b
demand3b x e most q =
    let p = passes x e in
    let s = k_met x p in
    forced_late_lem x (taken_well x (verdict_form x p)) (suc (test_of x).k) most s.0 s.1 (q s.0 s.1)
    (omega (arith, each_is x p s.0 s.1, s.2))

untouched : (s : State) (x : Call) → step s x ≡ s → said s x ≡ [] → Untouched s x
unfolding run_of history
untouched s x e f = record { state = e; nothing = f; run_on = λ calls. rw e; told_on = λ calls. rw (e, f) }

-- a refused call, by the two cases of its verdict
slot_left : (s : State) (lost : Bool) (number : ℕ) (v : Verdict) → slot_verdict s lost ≡ v → number_of (slot_of s lost).answer.verdict ≡ suc number
    → Untouched s (slot lost) × ((slot_of s lost).answer ≡ record { verdict = (slot_of s lost).answer.verdict; used = Empty; word = 0; late = 0 })
unfolding step said slot_of answered
slot_left s lost number (Ok u) e f = absurd (omega (arith, rw e at f))
slot_left s lost number (Err why) e f = (untouched s (slot lost) (rw (step, e)) (rw (said, e)), rw e)

request_left : (s : State) (name size number : ℕ) (v : Verdict) → request_verdict s name size ≡ v → number_of (request_of s name size).verdict ≡ suc number → Untouched s (request name size)
unfolding step said request_of
request_left s name size number (Ok u) e f = absurd (omega (arith, rw e at f))
request_left s name size number (Err why) e f = untouched s (request name size) (rw (step, e)) refl

pub demand1 : Demand1
demand1 s = (
  λ lost number e. slot_left s lost number (slot_verdict s lost) refl e,
  λ name size number e. request_left s name size number (request_verdict s name size) refl e,
)

pub legal_stays : LegalStays
legal_stays = run_legal

-- the verdict that a slot gives back
slot_gives : (s : State) (lost : Bool) (v : Verdict) → slot_verdict s lost ≡ v → (slot_of s lost).answer.verdict ≡ v
unfolding slot_of answered
slot_gives s lost (Ok u) e = rw e
slot_gives s lost (Err why) e = rw e

-- a legal state is not refused as one that is not
no_eleven : (s : State) → legal s ≡ true
    → ((lost : Bool) → number_of (slot_verdict s lost) ≡ 11 → ⊥) × ((name size : ℕ) → number_of (request_verdict s name size) ≡ 11 → ⊥)
unfolding slot_verdict request_verdict
no_eleven s l = (
  λ lost e. ten (eqb s.next (suc last_slot)) (rw l at e),
  λ name size e. nine (eqb size 0) (leb 32 s.count) (rw l at e),
)
  where
    ten : (b : Bool) → number_of (refuse b RunOver) ≡ 11 → ⊥
    ten true e = omega arith
    ten false e = omega arith

    nine : (b c : Bool) → number_of (refuse b SizeZero and_then refuse c QueueFull) ≡ 11 → ⊥
    nine true c e = omega arith
    nine false true e = omega arith
    nine false false e = omega arith

pub never_eleven : NeverEleven
unfolding request_of
never_eleven x e calls =
    let s : State = run_of (start_of x).state calls in
    let y = no_eleven s (run_legal (start_of x).state (rw (start_is x e) (start_legal x (passes x e))) calls) in
    (λ lost f. y.0 lost (rw (slot_gives s lost (slot_verdict s lost) refl) at f), y.1)
