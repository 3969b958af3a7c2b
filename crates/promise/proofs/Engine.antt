-- The engine's run is a lane: its figures at each slot are those that the table and the history give.
use mathlib.Core.Path.{◌≡◌, refl, ap, sym, ◌∙◌}
use mathlib.Core.List.{List, [], ◌∷◌}
use mathlib.Core.Bool.{Bool, ◌&&◌, not}
use Prim.Native.Nat.{ℕ, zero, suc, ◌+◌, ◌≤◌, ◌<◌}
use native.Mathlib.Omega.{arith}
use lib.ListN.{length}
use Rattle.seq.specs.Places.{flag, at}
use Rattle.seq.proofs.Places.{at_zeros, over_length}
use Rattle.law.specs.Sums.{sum}
use Rattle.rows.specs.Rows.{reloaded, charged}
use Rattle.late.specs.Late.{counted}
use Rattle.table.specs.declared.Table.{Table}
use Rattle.engine.specs.declared.State.{State}
use Rattle.engine.specs.declared.Answer.{Answer}
use Rattle.uses.specs.declared.Use.{Use}
use Rattle.engine.specs.States.{with_figures}
use Rattle.engine.specs.Start.{blank, begun}
use Rattle.engine.specs.Legal.{ran}
use Rattle.uses.specs.Uses.{is_give, row_served}
use Rattle.engine.specs.Slot.{left_released, lates, left_judged, counter₁, left₁, choice_of, use_of, late_of, settled, answered}
use Rattle.promise.specs.Runs.{Call, run_of, history, moment}
use Rattle.promise.specs.History.{answer_at, count}
use Rattle.promise.proofs.Trail.{bare, first_moment, last_moment, trail}
use Rattle.promise.proofs.Choice.{View, view, fits, places}
use Rattle.promise.proofs.Lane.{judged_long, Lane}

-- a state of a run of table x with allowances k, before slot y
pub record Tame (x : Table) (k : List ℕ) (y : ℕ) (z : State) : Type 0 where
  pub n_same : z.n ≡ x.n
  pub c_same : z.c ≡ x.c
  pub t_same : z.t ≡ x.t
  pub d_same : z.d ≡ x.d
  pub k_same : z.k ≡ k
  pub clock : z.next ≡ suc y
  pub left_long : length z.left ≡ 16
  pub counter_long : length z.counter ≡ 16
  pub late_long : length z.late ≡ 16

module _ {x : Table} {k : List ℕ} {y : ℕ} where
  tame_bare : (a b : State) → bare a ≡ bare b → Tame x k y b → Tame x k y a
  tame_bare a b e q =
      record {
        n_same = ap (λ (s : State). s.n) e ∙ q.n_same;
        c_same = ap (λ (s : State). s.c) e ∙ q.c_same;
        t_same = ap (λ (s : State). s.t) e ∙ q.t_same;
        d_same = ap (λ (s : State). s.d) e ∙ q.d_same;
        k_same = ap (λ (s : State). s.k) e ∙ q.k_same;
        clock = ap (λ (s : State). s.next) e ∙ q.clock;
        left_long = ap (λ (s : State). length s.left) e ∙ q.left_long;
        counter_long = ap (λ (s : State). length s.counter) e ∙ q.counter_long;
        late_long = ap (λ (s : State). length s.late) e ∙ q.late_long;
      }

  module _ {z : State} (q : Tame x k y z) where
    pub ran_is : ran z ≡ y
    ran_is = omega (arith, q.clock)

    pub counter₁_long : length (counter₁ z) ≡ 16
    unfolding counter₁ reloaded
    counter₁_long = over_length _ _ z.counter ∙ q.counter_long

    tame_slot : (lost : Bool) → Tame x k (suc y) (settled z lost)
    unfolding settled with_figures charged counted
    tame_slot lost =
        record {
          n_same = q.n_same;
          c_same = q.c_same;
          t_same = q.t_same;
          d_same = q.d_same;
          k_same = q.k_same;
          clock = ap suc q.clock;
          left_long = judged_long (ran z) z.n z.c z.t z.d z.left q.left_long (row_served (use_of z lost));
          counter_long = over_length _ _ (counter₁ z) ∙ counter₁_long;
          late_long = over_length 16 _ z.late ∙ q.late_long;
        }

    -- the slot in the table's own figures
    pub mid_same : left₁ z ≡ left_released y x.n x.c x.t x.d z.left
    unfolding left₁
    mid_same = rw (q.n_same, q.c_same, q.t_same, q.d_same, ran_is)

    pub left_same : (lost : Bool) → (settled z lost).left ≡ left_judged y x.n x.c x.t x.d (row_served (use_of z lost)) z.left
    unfolding settled with_figures
    left_same lost = rw (q.n_same, q.c_same, q.t_same, q.d_same, ran_is)

    pub word_same : (lost : Bool) → late_of z lost ≡ lates y x.n x.c x.t x.d (row_served (use_of z lost)) z.left
    unfolding late_of
    word_same lost = rw (q.n_same, q.c_same, q.t_same, q.d_same, ran_is)

-- why a slot is used as it is
pub viewed : (z : State) (lost : Bool) → View z.n z.count (left₁ z) (counter₁ z) lost (use_of z lost) (is_give (choice_of z) && not lost)
unfolding use_of choice_of
viewed z lost = view z.n z.count (left₁ z) (counter₁ z) lost (at z.names 0)

-- a sum with its first term apart, and a count as a sum
sum_head : (g : ℕ → ℕ) (n : ℕ) → sum g (suc n) ≡ g 0 + sum (λ y. g (suc y)) n
unfolding sum
sum_head g zero = omega arith
sum_head g (suc n) = omega (arith, sum_head g n)

sum_count : (kind : Use → Bool) (l : List Answer) → sum (λ y. flag (kind (answer_at l y).used)) (length l) ≡ count kind l
unfolding sum count
sum_count kind [] = refl
sum_count kind (a ∷ l) = sum_head (λ y. flag (kind (answer_at (a ∷ l) y).used)) (length l) ∙ rw (sum_count kind l)

-- a run from the start
module _ (x : Table) (k : List ℕ) (calls : List Call) where
  abbrev h : List Answer
  h = history (begun x k) calls

  abbrev before : ℕ → State
  before y = (moment (begun x k) calls y).state

  abbrev out : ℕ → Bool
  out y = (moment (begun x k) calls y).lost

  pub tame : (y : ℕ) → y ≤ length h → Tame x k y (before y)
  unfolding blank
  tame zero p =
      tame_bare (before 0) (begun x k) (first_moment calls (begun x k))
      (record { n_same = refl; c_same = refl; t_same = refl; d_same = refl; k_same = refl; clock = refl; left_long = refl; counter_long = refl; late_long = refl })
  tame (suc y) p = tame_bare (before (suc y)) (settled (before y) (out y)) (trail calls (begun x k) y p).next (tame_slot (tame y (omega arith)) (out y))

  module _ (y : ℕ) (p : y < length h) where
    pub used_is : (answer_at h y).used ≡ use_of (before y) (out y)
    unfolding answered
    used_is = ap (λ (a : Answer). a.used) (trail calls (begun x k) y p).answer

    pub word_is : (answer_at h y).word ≡ late_of (before y) (out y)
    unfolding answered
    word_is = ap (λ (a : Answer). a.word) (trail calls (begun x k) y p).answer

    late_is : (before (suc y)).late ≡ counted (answer_at h y).word (before y).late
    unfolding settled with_figures
    late_is = ap (λ (s : State). s.late) (trail calls (begun x k) y p).next ∙ rw word_is

  pub lane : Lane x.n x.c x.t x.d h (λ y. (before y).left) (λ y. (before y).late)
  unfolding blank
  lane =
      record {
        nothing = λ i r. ap (λ (s : State). at s.left i) (first_moment calls (begun x k)) ∙ at_zeros 16 i;
        none_late = λ i r. ap (λ (s : State). at s.late i) (first_moment calls (begun x k)) ∙ at_zeros 16 i;
        left_long = λ y p. (tame y p).left_long;
        late_long = λ y p. (tame y p).late_long;
        places = λ y p i r. rw (used_is y p) (places (viewed (before y) (out y)) i r);
        fits = λ y p i. rw (used_is y p) (rw (mid_same (tame y (omega arith))) at (fits (viewed (before y) (out y)) i));
        left_next = λ y p. rw (used_is y p) (ap (λ (s : State). s.left) (trail calls (begun x k) y p).next ∙ left_same (tame y (omega arith)) (out y));
        word_is = λ y p. rw (used_is y p) (word_is y p ∙ word_same (tame y (omega arith)) (out y));
        late_next = λ y p. late_is y p;
      }

  -- a figure that rises by one in each slot of a kind counts the slots of that kind
  module _ (f : State → ℕ) (kind : Use → Bool) (none : f (begun x k) ≡ 0) (alike : (a b : State) → bare a ≡ bare b → f a ≡ f b)
      (rises : (z : State) (lost : Bool) → f (settled z lost) ≡ f z + flag (kind (use_of z lost))) where
    figure : (y : ℕ) → y ≤ length h → f (before y) ≡ sum (λ y. flag (kind (answer_at h y).used)) y
    unfolding sum
    figure zero p = alike (before 0) (begun x k) (first_moment calls (begun x k)) ∙ none
    figure (suc y) p =
        alike (before (suc y)) (settled (before y) (out y)) (trail calls (begun x k) y p).next ∙ rises (before y) (out y)
        ∙ rw (used_is y p) (omega (arith, figure y (omega arith)))

    pub figure_run : f (run_of (begun x k) calls) ≡ count kind h
    figure_run = ap f (sym (last_moment calls (begun x k))) ∙ figure (length h) (omega arith) ∙ sum_count kind h
