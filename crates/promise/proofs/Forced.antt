-- Demand 3, second half: a run that gives too much away is a lane and a run of the law, so that somebody is late in it.
use mathlib.Core.Path.{◌≡◌, refl, ap, sym, ◌∙◌}
use mathlib.Core.List.{List}
use mathlib.Core.Bool.{Bool, true, false, ◌&&◌, not, true≢false}
use Prim.Native.Nat.{ℕ, zero, suc, ◌+◌, ◌-◌, ◌%◌, ◌≤◌, ◌<◌}
use native.Mathlib.Decide.{dec_lt, dec_le, ℕ_discrete}
use native.Mathlib.Omega.{arith}
use lib.Dec.{eqb, ltb}
use lib.ListN.{length, replicate}
use borrow.Author.Tests.{eq-eqb, ne_eqb, lt-ltb, le-ltb, eqb-true, ltb-true}
use Rattle.seq.specs.Places.{flag, at}
use Rattle.seq.specs.Words.{bit}
use Rattle.seq.proofs.Places.{at_zeros, every_true, over_length, tab_length, tab_at}
use Rattle.seq.proofs.Tests.{both_true}
use Rattle.law.specs.Sums.{sum}
use Rattle.law.specs.Work.{allowance}
use Rattle.law.specs.Level.{backlog}
use Rattle.law.specs.Forced.{Forced, LateAt, ForcedRun}
use Rattle.law.proofs.Sums.{sum_zero}
use Rattle.law.proofs.Laws.{tight}
use Rattle.rows.specs.Rows.{rows_of, none_zero}
use Rattle.marks.specs.Words.{ends}
use Rattle.late.specs.Late.{counted}
use Rattle.rows.proofs.Idle.{idle_before}
use Rattle.table.specs.declared.Table.{Table}
use Rattle.table.specs.WellFormed.{WellFormed}
use Rattle.engine.specs.declared.Answer.{Answer}
use Rattle.uses.specs.declared.Use.{Use}
use Rattle.uses.specs.Uses.{chosen, is_give, row_served}
use Rattle.engine.specs.Slot.{left_released}
use Rattle.promise.specs.History.{answer_at, is_row, no_answer}
use Rattle.promise.specs.Forced.{forced_use, forced_left, forced_word, forced_answer, forced_history}
use Rattle.promise.specs.Demands.{row_ends_late}
use Rattle.promise.proofs.Choice.{View, is_lost_lem, is_given_lem, is_hard_lem, is_back, is_empty_lem, view, fits, places, used_sum}
use Rattle.promise.proofs.Lane.{Lane, judged_long, mids, uses, lane_mid, lane_used, lane_bit, lane_left, lane_flag}

-- a point's sum
sum_point : (f n : ℕ) → f < n → sum (λ h. flag (eqb (suc f) (suc h))) n ≡ 1
unfolding sum
sum_point f zero p = absurd (omega arith)
sum_point f (suc n) p =
    elim (dec_lt f n) [
      | yes q ↦ rw (ne_eqb (suc f) (suc n) (λ e. omega arith), sum_point f n q) (omega arith)
      | no q ↦
          (let z : sum (λ h. flag (eqb (suc f) (suc h))) n ≡ 0 =
          sum_zero (λ h. flag (eqb (suc f) (suc h))) n (λ h r. rw (ne_eqb (suc f) (suc h) (λ e. omega arith))) in
          rw (eq-eqb (suc f) (suc n) (omega arith), z) (omega arith))
    ]

-- where none waits and nothing is lost, and row i has work left, the first row with work left gets the slot; v is the work left after it
module _ (n : ℕ) (left : List ℕ) (i : ℕ) (r : i < rows_of n) (v : ℕ → ℕ) (some : 1 ≤ at left i) where
  serves : {counter : List ℕ} {u : Use} {on : Bool} → View n 0 left counter false u on
      → ((h : ℕ) → h < suc i → v h + flag (is_row h u) ≡ at left h)
      → (suc (backlog v i) ≡ backlog (at left) i) × (v i ≡ 0 → backlog v i ≡ 0)
  unfolding sum
  serves (is_lost_lem e) g = absurd (true≢false (sym e))
  serves (is_given_lem e f) g = absurd (omega arith)
  serves {u = u} (is_hard_lem {j} e f) g =
      let o : j ≤ i = elim (dec_le j i) [ yes q ↦ q | no q ↦ absurd (omega (arith, idle_before n left i (omega arith))) ] in
      let a : suc (backlog v i) ≡ backlog (at left) i = omega (arith, used_sum n left i r v u g, sum_point j (suc i) (omega arith)) in (
        a,
        λ z.
            elim (ℕ_discrete (suc j) (suc i)) [
              | yes c ↦
                  omega (
                    arith,
                    a,
                    g i (omega arith),
                    ap flag (eq-eqb (suc j) (suc i) c),
                    sum_zero (at left) i (λ h q. idle_before n left h (omega arith)),
                  )
              | no c ↦ absurd (omega (arith, g i (omega arith), ap flag (ne_eqb (suc j) (suc i) c)))
            ],
      )
  serves (is_back e f) g = absurd (omega arith)
  serves (is_empty_lem f) g = absurd (omega (arith, idle_before n left i (omega arith)))

none_zero_ones : (n : ℕ) → none_zero n (replicate 16 1) ≡ true
unfolding none_zero
none_zero_ones n = every_true (rows_of n) _ (λ i h. lt-ltb 0 _ (ones 16 i (omega arith)))
  where
    ones : (m i : ℕ) → i < m → 0 < at (replicate m 1) i
    ones zero i h = absurd (omega arith)
    ones (suc m) zero h = omega arith
    ones (suc m) (suc i) h = ones m i (omega arith)

-- the run of m slots of which the first g are given away
module _ (x : Table) (o : WellFormed x.n x.c x.t x.d) (g m : ℕ) where
  abbrev hist : List Answer
  hist = forced_history x g m

  left_long : (y : ℕ) → length (forced_left x g y) ≡ 16
  unfolding forced_left
  left_long zero = refl
  left_long (suc y) = judged_long y x.n x.c x.t x.d (forced_left x g y) (left_long y) (row_served (forced_use x g y (forced_left x g y)))

  -- the late counts that go with it
  unfoldable forced_late : ℕ → List ℕ
  forced_late zero = replicate 16 0
  forced_late (suc y) = counted (forced_word x g y) (forced_late y)

  late_long : (y : ℕ) → length (forced_late y) ≡ 16
  unfolding forced_late counted
  late_long zero = refl
  late_long (suc y) = over_length 16 _ (forced_late y) ∙ late_long y

  answer_is : (y : ℕ) → y < length hist → answer_at hist y ≡ forced_answer x g y
  answer_is y p = tab_at m (forced_answer x g) y no_answer (omega (arith, tab_length m (forced_answer x g)))

  abbrev mid₁ : ℕ → List ℕ
  mid₁ y = left_released y x.n x.c x.t x.d (forced_left x g y)

  viewed : (y : ℕ)
      → View x.n (flag (ltb y g)) (mid₁ y) (replicate 16 1) false (forced_use x g y (forced_left x g y))
      (is_give (chosen x.n (flag (ltb y g)) (mid₁ y) (replicate 16 1)) && not false)
  unfolding forced_use
  viewed y = view x.n (flag (ltb y g)) (mid₁ y) (replicate 16 1) false 0

  lane : Lane x.n x.c x.t x.d hist (forced_left x g) forced_late
  unfolding forced_left forced_late
  lane =
      record {
        nothing = λ i r. at_zeros 16 i;
        none_late = λ i r. at_zeros 16 i;
        left_long = λ y p. left_long y;
        late_long = λ y p. late_long y;
        places = λ y p i r. rw (answer_is y p) (places (viewed y) i r);
        fits = λ y p i. rw (answer_is y p) (fits (viewed y) i);
        left_next = λ y p. rw (answer_is y p);
        word_is = λ y p. rw (answer_is y p);
        late_next = λ y p. rw (answer_is y p);
      }

  module _ (i : ℕ) (r : i < x.n) where
    abbrev mid : ℕ → ℕ → ℕ
    mid y = at (mids o lane y)

    abbrev used : ℕ → ℕ → ℕ
    used y = at (uses o lane y)

    module _ (y : ℕ) (p : y < length hist) where
      given_away : y < g → (h : ℕ) → flag (is_row h (answer_at hist y).used) ≡ 0
      unfolding forced_use chosen
      given_away q h = rw (answer_is y p, lt-ltb y g q, none_zero_ones x.n)

      served : g ≤ y → 1 ≤ mid y i → (suc (backlog (used y) i) ≡ backlog (mid y) i) × (used y i ≡ 0 → backlog (used y) i ≡ 0)
      served q b =
          let e : forced_use x g y (forced_left x g y) ≡ (answer_at hist y).used = ap (λ (a : Answer). a.used) (sym (answer_is y p)) in
          serves x.n (mid₁ y) i (omega (arith, o.counted.1)) (used y) b (rw (le-ltb y g q, e) at (viewed y))
          (λ h v. lane_used o lane h (omega arith) y p)

      slot_forced : Forced (at x.c) (at x.t) i g y (at (forced_left x g y)) (used y)
      slot_forced =
          record {
            mid = mid y;
            comes = λ h v. lane_mid o lane h (omega arith) y p;
            less = λ h v. omega (arith, lane_used o lane h (omega arith) y p);
            gives = λ q h v. omega (arith, lane_used o lane h (omega arith) y p, given_away q h);
            takes = λ q b. (served q b).0;
            first = λ q b. (served q b).1;
          }

    late_bit : (y h : ℕ) → y < length hist → h < suc i → LateAt (at x.t) (at x.d) (used y) y h → bit (answer_at hist y).word h ≡ true
    late_bit y h p v e =
        rw (lane_bit o lane h (omega arith) y p, eq-eqb (y % at x.t h) (at x.d h - 1) (omega (arith, e.0)), lt-ltb 0 (used y h) e.1)

    bit_late : (y h : ℕ) → y < length hist → (v : h < suc i) → bit (answer_at hist y).word h ≡ true → LateAt (at x.t) (at x.d) (used y) y h
    bit_late y h p v e =
        let w : h < x.n = omega arith in
        let z = both_true (ends y (at x.t h) (at x.d h)) _ (sym (lane_bit o lane h w y p) ∙ e) in
        (omega (arith, eqb-true (y % at x.t h) (at x.d h - 1) z.0, (o.ordered h w).some, (o.ordered h w).due), ltb-true _ _ z.1)

    run : at x.d i ≤ m → ForcedRun (at x.c) (at x.t) (at x.d) i g (at x.d i) (λ y. at (forced_left x g y)) used
    unfolding forced_left
    run q =
        let n = tab_length m (forced_answer x g) in
        record {
          nothing = λ h v. at_zeros 16 h;
          slots = λ y p. slot_forced y (omega arith);
          keeps = λ y h p v f. keep y h (omega arith) v f (bit (answer_at hist y).word h) refl;
        }
      where
        keep : (y h : ℕ) → y < length hist → h < suc i → (LateAt (at x.t) (at x.d) (used y) y h → ⊥)
            → (b : Bool) → bit (answer_at hist y).word h ≡ b → at (forced_left x g (suc y)) h ≡ used y h
        keep y h p v f true e = absurd (f (bit_late y h p v e))
        keep y h p v f false e = lane_left o lane h (omega arith) y p ∙ rw e

    pub forced_late_lem : at x.d i ≤ m → allowance (at x.c) (at x.t) i (at x.d i) < g
        → (h : ℕ) × (y : ℕ) × (h < x.n) × (y < m) × (row_ends_late x hist y h ≡ true)
    forced_late_lem q e =
        let n = tab_length m (forced_answer x g) in
        let z =
        tight (at x.c) (at x.t) (at x.d) i g (o.ordered i r).some
        (λ h v. let w : h < x.n = omega arith in omega (arith, (o.ordered h w).some, (o.ordered h w).due)) (λ h v. (o.ordered h (omega arith)).within) e _ _ (run q) in
        let p : z.0 < length hist = omega (arith, z.2) in
        let w : z.1 < x.n = omega (arith, z.3) in
        (z.1, z.0, w, omega (arith, z.2), sym (lane_flag o lane z.1 w z.0 p) ∙ late_bit z.0 z.1 p z.3 z.4)
