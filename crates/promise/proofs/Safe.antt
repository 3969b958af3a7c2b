-- Demand 3, first half: row i through a run is a run of the law, so each of its instances gets what it needs by its deadline.
use mathlib.Core.Path.{◌≡◌, refl, ap, sym, ◌∙◌}
use mathlib.Core.List.{List, [], ◌∷◌}
use mathlib.Core.Bool.{Bool, true, false, cond, ◌&&◌, not, true≢false}
use Prim.Native.Nat.{ℕ, zero, suc, ◌+◌, ◌*◌, ◌-◌, ◌≤◌, ◌<◌}
use native.Mathlib.Nat.{mul-mod_left}
use native.Mathlib.Decide.{dec_lt}
use native.Mathlib.Omega.{arith}
use lib.Dec.{leb}
use lib.ListN.{length}
use borrow.Author.Tests.{eq-eqb, lt-ltb, le-ltb, le-leb, leb-true}
use Rattle.seq.specs.Places.{flag, at}
use Rattle.seq.specs.Words.{bit}
use Rattle.seq.proofs.Tests.{both_true}
use Rattle.law.specs.Age.{released}
use Rattle.law.specs.Judge.{too_few}
use Rattle.law.specs.Level.{backlog, Run}
use Rattle.law.proofs.Sums.{sum_zero, term_le}
use Rattle.law.proofs.Age.{released_apart}
use Rattle.law.proofs.Laws.{row_promise}
use Rattle.rows.specs.Rows.{rows_of, idle, reloaded}
use Rattle.rows.proofs.Points.{reloaded_at, charged_at}
use Rattle.table.specs.declared.Table.{Table}
use Rattle.table.specs.Verdicts.{Taken}
use Rattle.table.specs.WellFormed.{WellFormed}
use Rattle.allowance.specs.Test.{test_of}
use Rattle.allowance.proofs.Tests.{taken_well, verdict_form, each_holds}
use Rattle.engine.specs.Start.{begun}
use Rattle.engine.specs.declared.State.{State}
use Rattle.engine.specs.declared.Answer.{Answer}
use Rattle.uses.specs.declared.Use.{Use}
use Rattle.engine.specs.States.{with_figures}
use Rattle.uses.specs.Uses.{is_give, is_lost}
use Rattle.engine.specs.Slot.{counter₁, left₁, choice_of, use_of, settled}
use Rattle.promise.specs.Runs.{Call, history, moment}
use Rattle.promise.specs.History.{answer_at, hit, count, NoneLost}
use Rattle.promise.specs.Demands.{late_of_row, row_ends_late, InTime, Spared}
use Rattle.promise.proofs.Trail.{trail}
use Rattle.promise.proofs.Choice.{low, high, took}
use Rattle.promise.proofs.Lane.{mids, uses, lane_mid, lane_used, lane_left, lane_count, row_run}
use Rattle.promise.proofs.Engine.{Tame, counter₁_long, mid_same, viewed, tame, used_is, lane}
use Rattle.promise.proofs.Counts.{flagged_run, word_none}

-- reload, by the work left up to row i
module _ (n : ℕ) (left k counter : List ℕ) (i : ℕ) (r : i < rows_of n) (q : i < length counter) where
  reload_anew : backlog (at left) i ≡ 0 → at (reloaded n left k counter) i ≤ at k i
  reload_anew z =
      elim (dec_lt i (idle n left)) [
        | yes p ↦ omega (arith, rw (lt-ltb i (idle n left) p) at (reloaded_at i n left k counter q))
        | no p ↦ absurd (omega (arith, high n left i r (omega arith)))
      ]

  reload_on : 1 ≤ backlog (at left) i → at (reloaded n left k counter) i ≤ at counter i
  reload_on z =
      elim (dec_lt i (idle n left)) [
        | yes p ↦ absurd (omega (arith, low n left i p))
        | no p ↦ omega (arith, rw (le-ltb i (idle n left) (omega arith)) at (reloaded_at i n left k counter q))
      ]

comes_most : (b : Bool) (c w : ℕ) → cond b c w ≤ cond b (w + c) w
comes_most true c w = omega arith
comes_most false c w = omega arith

kept_most : (b : Bool) (u : ℕ) → cond b 0 u ≤ u
kept_most true u = omega arith
kept_most false u = omega arith

module _ (x : Table) (a : (test_of x).verdict ≡ Taken) (i : ℕ) (r : i < x.n) (calls : List Call) (spared : Spared (begun x (test_of x).each) calls i) where
  abbrev k : List ℕ
  k = (test_of x).each

  abbrev h : List Answer
  h = history (begun x k) calls

  abbrev before : ℕ → State
  before y = (moment (begun x k) calls y).state

  abbrev out : ℕ → Bool
  out y = (moment (begun x k) calls y).lost

  abbrev left : ℕ → List ℕ
  left y = (before y).left

  ordered : WellFormed x.n x.c x.t x.d
  ordered = taken_well x (verdict_form x a)

  abbrev late : ℕ → List ℕ
  late y = (before y).late

  -- the work left after the release, and after the use
  abbrev mid : ℕ → ℕ → ℕ
  mid y = at (mids ordered (lane x k calls) y)

  abbrev used : ℕ → ℕ → ℕ
  used y = at (uses ordered (lane x k calls) y)

  module _ (y : ℕ) (p : y < length h) where
    q : Tame x k y (before y)
    q = tame x k calls y (omega arith)

    rows : i < rows_of (before y).n
    rows = omega (arith, q.n_same, ordered.counted.1)

    counter_next : at (before (suc y)).counter i ≡ at (counter₁ (before y)) i - flag (is_give (choice_of (before y)) && not (out y))
    unfolding settled with_figures
    counter_next =
        ap (λ (s : State). at s.counter i) (trail calls (begun x k) y p).next
        ∙ charged_at i (before y).n rows (is_give (choice_of (before y)) && not (out y)) (counter₁ (before y)) (omega (arith, counter₁_long q, ordered.counted.1))

    slot_took : 1 ≤ backlog (used y) i → suc (backlog (used y) i + at (before (suc y)).counter i) ≤ backlog (mid y) i + at (counter₁ (before y)) i
    slot_took b =
        rw (counter_next, ← mid_same q)
        (took (before y).n (left₁ (before y)) i rows (used y) (viewed (before y) (out y))
        (λ e. sum_zero (at (left₁ (before y))) (suc i) (spared y p e))
        (λ g v. rw (← used_is x k calls y p, mid_same q) (lane_used ordered (lane x k calls) g (omega arith) y p)) b)

  run : Run (at x.c) (at x.t) i (at k i) (length h) (λ g. released (at x.t g)) (λ y. at (left y)) mid used
      (λ y. at (before y).counter i) (λ y. at (counter₁ (before y)) i)
  unfolding counter₁
  run =
      record {
        nothing = λ g v. (lane x k calls).nothing g (omega arith);
        apart = λ g v. released_apart (at x.t g) (at x.t g) (omega arith);
        comes = λ y g p v. rw (lane_mid ordered (lane x k calls) g (omega arith) y p) (comes_most (released (at x.t g) y) (at x.c g) (at (left y) g));
        less = λ y g p v. omega (arith, lane_used ordered (lane x k calls) g (omega arith) y p);
        drops = λ y g p v. rw (lane_left ordered (lane x k calls) g (omega arith) y p) (kept_most (bit (answer_at h y).word g) (used y g));
        anew =
            λ y p e.
            omega (
              arith,
              reload_anew (before y).n (before y).left (before y).k (before y).counter i (rows y p) (omega (arith, (q y p).counter_long, ordered.counted.1)) e,
              ap (λ (l : List ℕ). at l i) (q y p).k_same,
            );
        goes_on = λ y p e. reload_on (before y).n (before y).left (before y).k (before y).counter i (rows y p) (omega (arith, (q y p).counter_long, ordered.counted.1)) e;
        took = λ y p b. slot_took y p b;
      }

  -- none is late, and each got exactly what it needs
  pub in_time : InTime x h i
  in_time =
      let y =
      row_promise (at x.c) (at x.t) i (at x.d i) (at k i)
      (λ g v. let w : g < x.n = omega arith in omega (arith, (ordered.ordered g w).some, (ordered.ordered g w).due, (ordered.ordered g w).within))
      (ordered.ordered i r).within
      (each_holds x a i r) (length h) (λ g. released (at x.t g)) (λ z. at (left z)) mid used
      (λ z. at (before z).counter i) (λ z. at (counter₁ (before z)) i) run (hit h i) (λ z. at (late z) i) (row_run ordered (lane x k calls) i r) in
      record {
        exact = λ j q. y.1 (j * at x.t i) (eq-eqb _ 0 (mul-mod_left j (at x.t i))) q;
        none = sym (lane_count ordered (lane x k calls) i r) ∙ y.0;
      }

-- where a kind of slot is not counted there is none
count_none : (kind : Use → Bool) (l : List Answer) → count kind l ≡ 0 → (y : ℕ) → y < length l → kind (answer_at l y).used ≡ false
unfolding count
count_none kind [] e y p = absurd (omega arith)
count_none kind (a ∷ l) e zero p = unset (kind a.used) (omega (arith, e))
  where
    unset : (b : Bool) → flag b ≡ 0 → b ≡ false
    unset true f = absurd (omega arith)
    unset false f = refl
count_none kind (a ∷ l) e (suc y) p = count_none kind l (omega (arith, e)) y (omega arith)

-- so where no slot is lost every row is spared
pub spared_all : (x : Table) (k : List ℕ) (calls : List Call) → NoneLost (history (begun x k) calls) → (i : ℕ) → Spared (begun x k) calls i
unfolding use_of
spared_all x k calls g i y p e =
    absurd
    (true≢false
    (sym (ap is_lost (used_is x k calls y p ∙ ap (λ (b : Bool). use_of (moment (begun x k) calls y).state b) e))
    ∙ count_none is_lost (history (begun x k) calls) g y p))

-- a slot with which a late instance ends counts
ends_counted : (x : Table) (h : List Answer) (i y : ℕ) → 1 ≤ at x.d i → y < length h → row_ends_late x h y i ≡ true → 1 ≤ late_of_row x h i
ends_counted x h i y one p e =
    let a = both_true (leb (at x.d i) (suc y)) _ e in
    let d : at x.d i ≤ suc y = leb-true _ _ a.0 in
    let z : ℕ = suc y - at x.d i in
    let f : ℕ → ℕ = λ z. flag (leb (z + at x.d i) (length h) && too_few (at x.c i) (at x.d i) (released (at x.t i)) (hit h i) z) in
    let t : f z ≡ 1 = rw (le-leb (z + at x.d i) (length h) (omega arith), a.1) in
    omega (arith, term_le f (length h) z (omega arith))

-- so no late word but 0
pub words_zero : (x : Table) → (test_of x).verdict ≡ Taken → (calls : List Call) → NoneLost (history (begun x (test_of x).each) calls)
    → (y : ℕ) → y < length (history (begun x (test_of x).each) calls) → (answer_at (history (begun x (test_of x).each) calls) y).word ≡ 0
words_zero x a calls g y p = (flagged_run x a calls y p).bits ∙ word_none (row_ends_late x h y) x.n (λ i r. fine i r (row_ends_late x h y i) refl)
  where
    h : List Answer
    h = history (begun x (test_of x).each) calls

    o : WellFormed x.n x.c x.t x.d
    o = taken_well x (verdict_form x a)

    fine : (i : ℕ) → i < x.n → (b : Bool) → row_ends_late x h y i ≡ b → row_ends_late x h y i ≡ false
    fine i r true e =
        absurd
        (omega (
          arith,
          ends_counted x h i y (omega (arith, (o.ordered i r).some, (o.ordered i r).due)) p e,
          (in_time x a i r calls (spared_all x (test_of x).each calls g i)).none,
        ))
    fine i r false e = e
