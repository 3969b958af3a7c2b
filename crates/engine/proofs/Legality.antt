-- What a legal state is known by, and the tests that tell it.
use mathlib.Core.Path.{◌≡◌, refl}
use mathlib.Core.Bool.{Bool, true, false, not, ◌&&◌}
use Prim.Native.Nat.{ℕ, suc, ◌+◌, ◌≤◌, ◌<◌}
use native.Mathlib.Omega.{arith}
use lib.Dec.{eqb, leb}
use borrow.Author.Tests.{leb-true, leb-false, eqb-true, eqb-false, le-leb, eq-eqb}
use Rattle.seq.proofs.Tests.{both_true}
use Rattle.kept.specs.Kept.{rows_kept, lates_kept}
use Rattle.late.proofs.Counts.{Within}
use Rattle.kept.proofs.Kept.{lates_within}
use Rattle.legal.specs.Legal.{last_slot, clock_legal, figures_legal, slot_refusal, request_refusal}
use Rattle.kept.specs.Kept.{table_legal}
use Rattle.legal.proofs.Parts.{parts}
use Rattle.queue.specs.Queue.{proper}
use Rattle.engine.specs.declared.State.{State}
use Rattle.engine.specs.declared.Requested.{Requested}
use Rattle.engine.specs.Legal.{ran, legal}
use Rattle.table.specs.declared.Refusal.TheVariants.{SizeZero, QueueFull, RunOver, StateIllegal}
use Rattle.std.specs.Prelude.{Ok, Err, is_ok}
use Rattle.table.specs.Verdicts.{Verdict, Taken, refuse, ◌and_then◌}
use Rattle.engine.specs.Slot.{slot_verdict}
use Rattle.engine.specs.Calls.{request_verdict, request_of}

module _ (s : State) where
  pub record Legal : Type 0 where
    pub table : table_legal s.n s.c s.t s.d ≡ true
    pub rows : rows_kept s.n s.c s.d s.k s.left s.counter ≡ true
    pub lates : lates_kept s.n (ran s) s.late ≡ true
    pub tallies : s.hard + s.given + s.empty + s.lost ≡ ran s
    pub began : 1 ≤ s.next
    pub clock : s.next ≤ suc last_slot
    pub queue : proper s.count s.names s.sizes ≡ true

  pub legal_says : legal s ≡ true → Legal
  unfolding legal figures_legal
  legal_says e =
      let a = both_true _ _ e in
      let b = both_true _ _ a.0 in
      let p = both_true _ _ b.0 in
      let q = both_true _ _ p.0 in
      let r = both_true _ _ q.0 in
      let z = both_true _ _ b.1 in
      record {
        table = r.0;
        rows = r.1;
        lates = q.1;
        tallies = eqb-true _ _ p.1;
        began = leb-true _ _ z.0;
        clock = leb-true _ _ z.1;
        queue = a.1;
      }

  pub legal_is : Legal → legal s ≡ true
  unfolding legal figures_legal
  legal_is y =
      rw (y.table, y.rows, y.lates, eq-eqb _ _ y.tallies, le-leb _ _ y.began, le-leb _ _ y.clock, y.queue)

  pub late_low : Legal → Within (ran s) s.late
  late_low y = lates_within s.n (ran s) s.late y.lates

-- the three parts of legality, as a call tests them
pub parts_legal :
    (s : State) {rows run queue : Bool}
    → rows ≡ (table_legal s.n s.c s.t s.d && rows_kept s.n s.c s.d s.k s.left s.counter)
    → run ≡ (lates_kept s.n (ran s) s.late && eqb (s.hard + s.given + s.empty + s.lost) (ran s) && clock_legal s.next)
    → queue ≡ proper s.count s.names s.sizes
    → (rows && run && queue) ≡ legal s
unfolding legal
parts_legal s e_rows e_run e_queue =
    rw (e_queue, e_run, e_rows)
    (parts s.n s.next s.c s.t s.d s.k s.left s.counter s.late s.count s.names s.sizes s.hard s.given s.empty s.lost)

-- a verdict that is taken
slot_passed : (b z : Bool) → refuse (not b) StateIllegal and_then refuse z RunOver ≡ Taken → (b ≡ true) × (z ≡ false)
slot_passed true true e = (refl, cc)
slot_passed true false e = (refl, refl)
slot_passed false z e = (cc, cc)

pub slot_tested : (s : State) (lost : Bool) {ok : Bool} {v : Verdict} → ok ≡ legal s → v ≡ slot_refusal ok s.next → v ≡ slot_verdict s lost
unfolding slot_verdict
slot_tested s lost e f = rw (← e) f

pub slot_legal : (s : State) (lost : Bool) → slot_verdict s lost ≡ Taken → Legal s × (s.next ≤ last_slot)
unfolding slot_verdict
slot_legal s lost e =
    let y = slot_passed (legal s) (eqb s.next (suc last_slot)) e in
    let g = legal_says s y.0 in
    let z : s.next ≡ suc last_slot → ⊥ = eqb-false _ _ y.1 in
    let k = g.clock in
    (g, omega arith)

request_passed : (b z w : Bool) → refuse (not b) StateIllegal and_then refuse z SizeZero and_then refuse w QueueFull ≡ Taken → (b ≡ true) × (z ≡ false) × (w ≡ false)
request_passed true true w e = (refl, cc, cc)
request_passed true false true e = (refl, refl, cc)
request_passed true false false e = (refl, refl, refl)
request_passed false z w e = (cc, cc, cc)

pub request_tested : (s : State) (name size : ℕ) {ok : Bool} {v : Verdict} → ok ≡ legal s → v ≡ request_refusal ok size s.count → v ≡ request_verdict s name size
unfolding request_verdict
request_tested s name size e f = rw (← e) f

pub request_refused : (s : State) (name size : ℕ) (v : Verdict) → v ≡ request_verdict s name size → is_ok v ≡ false
    → ◌≡◌ {A = Requested} (record { state = s; verdict = v }) (request_of s name size)
unfolding request_of
request_refused s name size (Ok tt) e f = cc
request_refused s name size (Err why) e f = rw (← e)

pub request_legal : (s : State) (name size : ℕ) → request_verdict s name size ≡ Taken → Legal s × (1 ≤ size) × (s.count < 32)
unfolding request_verdict
request_legal s name size e =
    let y = request_passed (legal s) (eqb size 0) (leb 32 s.count) e in
    let z : size ≡ 0 → ⊥ = eqb-false _ _ y.1 in
    let w : s.count < 32 = leb-false _ _ y.2 in
    (legal_says s y.0, omega arith, w)
