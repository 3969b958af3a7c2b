-- A legal state stays legal, whatever is called, and the start is legal.
use mathlib.Core.Path.{◌≡◌, refl}
use mathlib.Core.List.{List, [], ◌∷◌}
use mathlib.Core.Bool.{Bool, true, false, cond, ◌&&◌, not}
use Prim.Native.Nat.{ℕ, suc, ◌+◌, ◌-◌, ◌≤◌, ◌<◌, min}
use native.Mathlib.Omega.{arith}
use native.Mathlib.Decide.{dec_lt}
use lib.Dec.{ltb, leb}
use lib.ListN.{length, replicate}
use borrow.Author.Tests.{le-leb, lt-ltb, ltb-true, le-ltb}
use Rattle.std.specs.Prelude.{Ok, Err}
use Rattle.seq.specs.Places.{flag, at}
use Rattle.seq.specs.Words.{bit}
use Rattle.seq.proofs.Tests.{both_true}
use Rattle.seq.proofs.Places.{at_zeros, every_at, every_true, tab_length, tab_at}
use Rattle.table.specs.declared.Table.{Table}
use Rattle.table.specs.Verdicts.{Verdict, Taken, taken}
use Rattle.table.proofs.WellFormed.{taken_iff}
use Rattle.allowance.specs.Test.{test_of}
use Rattle.allowance.proofs.Tests.{taken_well, verdict_form, each_small, each_past}
use Rattle.marks.specs.Words.{due_word}
use Rattle.rows.specs.Rows.{charged}
use Rattle.kept.specs.Kept.{rows_kept, lates_kept}
use Rattle.marks.proofs.Points.{late_past}
use Rattle.kept.proofs.Kept.{kept_bounds, bounds_kept, reloaded_kept, charged_kept, released_kept, worked_kept, dropped_kept, lates_say, lates_kept_lem}
use Rattle.queue.specs.Queue.{Request, no_request, asked, served, waiting, names_of, sizes_of, place_proper, proper}
use Rattle.queue.proofs.Laid.{Sized, Laid, laid_proper, laid_served, laid_asked, laid_none}
use Rattle.engine.specs.declared.State.{State}
use Rattle.uses.specs.declared.Use.{Use}
use Rattle.uses.specs.declared.Use.TheVariants.{Hard, Given, Empty, Lost}
use Rattle.legal.specs.Legal.{last_slot}
use Rattle.engine.specs.States.{queue, with_figures}
use Rattle.engine.specs.Start.{blank, begun}
use Rattle.engine.specs.Legal.{ran, legal}
use Rattle.uses.specs.Uses.{is_give, row_served, is_hard, is_given, is_empty, is_lost}
use Rattle.engine.specs.Slot.{left_released, left_used, lates, left_judged, counter₁, choice_of, use_of, late_of, settled, slot_verdict, slot_of}
use Rattle.engine.specs.Calls.{request_verdict, joined, request_of}
use Rattle.engine.proofs.Legality.{Legal, legal_says, legal_is, slot_legal, request_legal}
use Rattle.promise.specs.Runs.{Call, slot, request, step, run_of}

taken_is : (v : Verdict) → taken v true false ≡ true → v ≡ Taken
taken_is (Ok u) e = refl
taken_is (Err why) e = cc

-- what the test says of the tallies, and of late counts past the rows
pub tallies_legal : (s : State) → legal s ≡ true → s.hard + s.given + s.empty + s.lost ≡ ran s
tallies_legal s l = (legal_says s l).tallies

pub none_late_past : (s : State) → legal s ≡ true → (i : ℕ) → s.n ≤ i → i < 16 → at s.late i ≡ 0
none_late_past s l i g h = omega (arith, rw (le-ltb i s.n g) at (lates_say s.n (ran s) s.late (legal_says s l).lates i h))

-- a list laid out is a legal queue
laid_out : (l : List Request) → length l ≤ 32 → Sized l → proper (length l) (names_of l) (sizes_of l) ≡ true
laid_out l m g = laid_proper {l = l} (record { count_is = refl; names_is = refl; sizes_is = refl; most = m; sized = g })

-- what waits in a legal state, laid out
module _ (s : State) (e : proper s.count s.names s.sizes ≡ true) where
  laid : Laid (length (queue s)) (names_of (queue s)) (sizes_of (queue s)) (queue s)
  unfolding waiting proper
  laid =
      let n : length (queue s) ≡ min s.count 32 = tab_length (min s.count 32) _ in
      record {
        count_is = refl;
        names_is = refl;
        sizes_is = refl;
        most = omega arith;
        sized =
            λ i h.
            let g : i < min s.count 32 = omega arith in
            rw (tab_at (min s.count 32) (λ i. record { name = at s.names i; size = at s.sizes i }) i no_request g)
            (ltb-true _ _ (rw (lt-ltb i s.count (omega arith)) at (every_at 32 (λ i. place_proper (ltb i s.count) (at s.names i) (at s.sizes i)) (both_true (leb s.count 32) _ e).1 i (omega arith))));
      }

  served_proper : (on : Bool) → proper (length (cond on (served (queue s)) (queue s))) (names_of (cond on (served (queue s)) (queue s))) (sizes_of (cond on (served (queue s)) (queue s))) ≡ true
  served_proper on =
      let y = laid_served laid on in
      laid_out (cond on (served (queue s)) (queue s)) y.most y.sized

  asked_proper : (q : Request) → length (queue s) < 32 → 1 ≤ q.size
      → proper (length (asked (queue s) q)) (names_of (asked (queue s) q)) (sizes_of (asked (queue s) q)) ≡ true
  asked_proper q m g =
      let y = laid_asked laid q m g in
      laid_out (asked (queue s) q) y.most y.sized

use_one : (u : Use) → flag (is_hard u) + flag (is_given u) + flag (is_empty u) + flag (is_lost u) ≡ 1
use_one (Hard row) = refl
use_one (Given name) = refl
use_one Empty = refl
use_one Lost = refl

-- the rows stay within their bounds, step by step
module _ (s : State) (lost : Bool) (p : Legal s) where
  settled_rows : rows_kept s.n s.c s.d s.k (settled s lost).left (settled s lost).counter ≡ true
  unfolding settled with_figures left_judged left_used left_released counter₁
  settled_rows =
      let m : ℕ = ran s in
      let l : List ℕ = counter₁ s in
      let on : Bool = is_give (choice_of s) && not lost in
      let row : ℕ = row_served (use_of s lost) in
      let a = kept_bounds s.c s.d s.k s.n s.left s.counter p.rows in
      let b = reloaded_kept s.c s.d s.k s.left s.counter a s.n s.left in
      let e = charged_kept s.c s.d s.k s.left l b s.n on in
      let f = released_kept s.c s.d s.k s.left (charged s.n on l) e (due_word m s.n s.t) in
      let g = worked_kept s.c s.d s.k (left_released m s.n s.c s.t s.d s.left) (charged s.n on l) f row in
      bounds_kept s.c s.d s.k s.n _ _ (λ i g h. let z = ((taken_iff s.n s.c s.t s.d).0 (taken_is _ p.table)).past i g h in (z.0, z.2))
      (dropped_kept s.c s.d s.k (left_used m s.n s.c s.t s.d row s.left) (charged s.n on l) g (lates m s.n s.c s.t s.d row s.left))

  none_past : (i : ℕ) → s.n ≤ i → i < 16 → bit (late_of s lost) i ≡ false
  unfolding late_of lates
  none_past i g h = late_past i (ran s) s.n s.t s.d _ g h

  settled_parts : s.next ≤ last_slot → Legal (settled s lost)
  unfolding settled with_figures
  settled_parts m =
      let n : suc s.next - 1 ≡ ran s + 1 = omega (arith, p.began) in
      record {
        table = p.table;
        rows = settled_rows;
        lates = rw n (lates_kept_lem s.n (ran s) s.late p.lates (late_of s lost) none_past);
        tallies = omega (arith, p.tallies, p.began, use_one (use_of s lost));
        began = omega arith;
        clock = omega arith;
        queue = served_proper s p.queue (is_given (use_of s lost));
      }

slot_keeps : (s : State) (lost : Bool) (v : Verdict) → slot_verdict s lost ≡ v → legal s ≡ true → legal (slot_of s lost).state ≡ true
unfolding slot_of
slot_keeps s lost (Ok u) e l =
    let y = slot_legal s lost e in
    rw e (legal_is (settled s lost) (settled_parts s lost y.0 y.1))
slot_keeps s lost (Err why) e l = rw e l

joined_parts : (s : State) (name size : ℕ) → Legal s → 1 ≤ size → s.count < 32 → Legal (joined s name size)
unfolding joined with_figures waiting
joined_parts s name size p g m =
    record {
      table = p.table;
      rows = p.rows;
      lates = p.lates;
      tallies = p.tallies;
      began = p.began;
      clock = p.clock;
      queue =
          asked_proper s p.queue (record { name = name; size = size })
          (let n : length (queue s) ≡ min s.count 32 = tab_length (min s.count 32) _ in omega arith) g;
    }

request_keeps : (s : State) (name size : ℕ) (v : Verdict) → request_verdict s name size ≡ v → legal s ≡ true → legal (request_of s name size).state ≡ true
unfolding request_of
request_keeps s name size (Ok u) e l =
    let y = request_legal s name size e in
    rw e (legal_is (joined s name size) (joined_parts s name size y.0 y.1 y.2))
request_keeps s name size (Err why) e l = rw e l

pub step_legal : (s : State) (x : Call) → legal s ≡ true → legal (step s x) ≡ true
unfolding step
step_legal s (slot lost) l = slot_keeps s lost (slot_verdict s lost) refl l
step_legal s (request name size) l = request_keeps s name size (request_verdict s name size) refl l

pub run_legal : (s : State) → legal s ≡ true → (calls : List Call) → legal (run_of s calls) ≡ true
unfolding run_of
run_legal s l [] = l
run_legal s l (x ∷ calls) = run_legal (step s x) (step_legal s x l) calls

-- the start
pub start_legal : (x : Table) → (test_of x).verdict ≡ Taken → legal (begun x (test_of x).each) ≡ true
unfolding blank lates_kept
start_legal x e =
    legal_is (begun x (test_of x).each)
    (record {
      table = rw (verdict_form x e);
      rows =
          bounds_kept x.c x.d (test_of x).each x.n (replicate 16 0) (replicate 16 0)
          (λ i g h. let z = (taken_well x (verdict_form x e)).past i g h in (z.0, z.2))
          (λ i h. record { slack = small i; charge = omega (arith, at_zeros 16 i); work = omega (arith, at_zeros 16 i) });
      lates = every_true 16 _ (λ i h. le-leb (at (replicate 16 0) i) (cond (ltb i x.n) 0 0) (omega (arith, at_zeros 16 i)));
      tallies = refl;
      began = omega arith;
      clock = omega arith;
      queue = laid_proper laid_none;
    })
  where
    small : (i : ℕ) → at (test_of x).each i ≤ at x.d i - at x.c i
    small i =
        elim (dec_lt i x.n) [
          | yes r ↦ omega (arith, each_small x e i r)
          | no r ↦ omega (arith, each_past x e i (omega arith))
        ]
