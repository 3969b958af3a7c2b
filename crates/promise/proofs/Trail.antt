-- A run slot by slot: each answer is the one that the rules give in the state in which the slot was called, and the next slot is called
-- in the state that this one left, but for requests that came between.
use mathlib.Core.Path.{◌≡◌, refl, ap, ◌∙◌}
use mathlib.Core.List.{List, [], ◌∷◌}
use mathlib.Core.Bool.{Bool}
use Prim.Native.Nat.{ℕ, zero, suc, ◌-◌, ◌<◌}
use native.Mathlib.Nat.{sub-zero}
use native.Mathlib.Omega.{arith}
use lib.ListN.{length}
use borrow.Author.Tests.{le-ltb}
use Rattle.std.specs.Prelude.{Ok, Err}
use Rattle.table.specs.Verdicts.{Verdict}
use Rattle.engine.specs.declared.State.{State}
use Rattle.engine.specs.declared.Answer.{Answer}
use Rattle.engine.specs.States.{with_figures}
use Rattle.engine.specs.Slot.{slot_of, slot_verdict, settled, answered}
use Rattle.engine.specs.Calls.{request_of, request_verdict, joined}
use Rattle.promise.specs.Runs.{Call, slot, request, step, said, run_of, history, Moment, is_lost_call, moment}
use Rattle.promise.specs.History.{answer_at}

-- a state but for its queue
abbrev pub bare : State → State
bare s =
    record {
      n = s.n;
      next = s.next;
      c = s.c;
      t = s.t;
      d = s.d;
      k = s.k;
      left = s.left;
      counter = s.counter;
      late = s.late;
      count = 0;
      names = [];
      sizes = [];
      hard = s.hard;
      given = s.given;
      empty = s.empty;
      lost = s.lost;
    }

-- a call is a slot that is run, or leaves all but the queue
pub data Did (s : State) (x : Call) : Type 0 where
  ran : (lost : Bool) → is_lost_call x ≡ lost → step s x ≡ settled s lost → said s x ≡ answered s lost ∷ [] → Did s x
  left : bare (step s x) ≡ bare s → said s x ≡ [] → Did s x

did_slot : (s : State) (lost : Bool) (v : Verdict) → slot_verdict s lost ≡ v → Did s (slot lost)
unfolding step said slot_of answered
did_slot s lost (Ok u) e = ran lost refl (rw (step, e)) (rw (said, e))
did_slot s lost (Err why) e = left (rw (step, e)) (rw (said, e))

did_request : (s : State) (name size : ℕ) (v : Verdict) → request_verdict s name size ≡ v → Did s (request name size)
unfolding step said request_of joined with_figures
did_request s name size (Ok u) e = left (rw (step, e)) refl
did_request s name size (Err why) e = left (rw (step, e)) refl

pub did : (s : State) (x : Call) → Did s x
did s (slot lost) = did_slot s lost (slot_verdict s lost) refl
did s (request name size) = did_request s name size (request_verdict s name size) refl

moment_none : (s : State) (x : ℕ) → (moment s [] x).state ≡ s
unfolding moment
moment_none s x = refl

module _ (s : State) (y : Call) (calls : List Call) where
  moment_left : said s y ≡ [] → (x : ℕ) → moment s (y ∷ calls) x ≡ moment (step s y) calls x
  unfolding moment
  moment_left e x = rw (e, le-ltb x 0 (omega arith), sub-zero x)

  module _ (a : Answer) (e : said s y ≡ a ∷ []) where
    moment_here : moment s (y ∷ calls) 0 ≡ record { state = s; lost = is_lost_call y }
    unfolding moment
    moment_here = rw e

    moment_on : (x : ℕ) → moment s (y ∷ calls) (suc x) ≡ moment (step s y) calls x
    unfolding moment
    moment_on x = let n : suc x - 1 ≡ x = omega arith in rw (e, le-ltb (suc x) 1 (omega arith), n)

pub first_moment : (calls : List Call) (s : State) → bare (moment s calls 0).state ≡ bare s
first_moment [] s = ap bare (moment_none s 0)
first_moment (y ∷ calls) s =
    elim (did s y) [
      | ran lost a b c ↦ ap (λ (m : Moment). bare m.state) (moment_here s y calls (answered s lost) c)
      | left a b ↦ ap (λ (m : Moment). bare m.state) (moment_left s y calls b 0) ∙ first_moment calls (step s y) ∙ a
    ]

pub last_moment : (calls : List Call) (s : State) → (moment s calls (length (history s calls))).state ≡ run_of s calls
unfolding history run_of
last_moment [] s = moment_none s 0
last_moment (y ∷ calls) s =
    let n : ℕ = length (history (step s y) calls) in
    elim (did s y) [
      | ran lost a b c ↦
          rw c (ap (λ (m : Moment). m.state) (moment_on s y calls (answered s lost) c n) ∙ last_moment calls (step s y))
      | left a b ↦ rw b (ap (λ (m : Moment). m.state) (moment_left s y calls b n) ∙ last_moment calls (step s y))
    ]

-- slot x is called in this state, and answered so; the next in that which it leaves
pub record Trail (s : State) (calls : List Call) (x : ℕ) : Type 0 where
  pub answer : answer_at (history s calls) x ≡ answered (moment s calls x).state (moment s calls x).lost
  pub next : bare (moment s calls (suc x)).state ≡ bare (settled (moment s calls x).state (moment s calls x).lost)

pub trail : (calls : List Call) (s : State) (x : ℕ) → x < length (history s calls) → Trail s calls x
unfolding history
trail [] s x h = absurd (omega arith)
trail (y ∷ calls) s zero h =
    elim (did s y) [
      | ran lost a b c ↦
          (let m = moment_here s y calls (answered s lost) c in
          record {
            answer = rw (m, c, a);
            next = rw (m, moment_on s y calls (answered s lost) c 0, a) (first_moment calls (step s y) ∙ ap bare b);
          })
      | left a b ↦
          (let m = moment_left s y calls b in
          let q = trail calls (step s y) 0 (rw b at h) in
          record { answer = rw (m 0, b) q.answer; next = rw (m 0, m 1) q.next })
    ]
trail (y ∷ calls) s (suc x) h =
    elim (did s y) [
      | ran lost a b c ↦
          (let m = moment_on s y calls (answered s lost) c in
          let q = trail calls (step s y) x (omega (arith, rw c at h)) in
          record { answer = rw (m x, c) q.answer; next = rw (m x, m (suc x)) q.next })
      | left a b ↦
          (let m = moment_left s y calls b in
          let q = trail calls (step s y) (suc x) (rw b at h) in
          record { answer = rw (m (suc x), b) q.answer; next = rw (m (suc x), m (suc (suc x))) q.next })
    ]
