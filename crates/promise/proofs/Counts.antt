-- Demand 2: the counts of a state are those of its history, and each late word tells the instances that got too few.
use mathlib.Core.Path.{◌≡◌, refl, ap, sym, ◌∙◌}
use mathlib.Core.List.{List}
use mathlib.Core.Bool.{Bool, true, false}
use Prim.Native.Nat.{ℕ, zero, suc, ◌+◌, ◌-◌, ◌≤◌, ◌<◌}
use native.Mathlib.Nat.{add-zero, zero-add}
use native.Mathlib.Omega.{arith}
use lib.Count.{ones}
use lib.ListN.{length}
use Rattle.seq.specs.Places.{at, tab}
use Rattle.seq.specs.Words.{word, bit}
use Rattle.seq.proofs.Words.{ones_word, tab_bit, tab_word_more}
use Rattle.law.specs.Sums.{sum}
use Rattle.marks.specs.Words.{late_word}
use Rattle.late.specs.Late.{total}
use Rattle.marks.proofs.Points.{late_past}
use Rattle.table.specs.declared.Table.{Table}
use Rattle.table.specs.Verdicts.{Taken}
use Rattle.table.specs.WellFormed.{WellFormed}
use Rattle.allowance.specs.Test.{test_of}
use Rattle.allowance.proofs.Tests.{taken_well, verdict_form}
use Rattle.engine.specs.Start.{blank, begun}
use Rattle.engine.specs.declared.State.{State}
use Rattle.engine.specs.declared.Answer.{Answer}
use Rattle.engine.specs.States.{with_figures}
use Rattle.engine.specs.Legal.{legal}
use Rattle.uses.specs.Uses.{is_hard, is_given, is_empty, is_lost, row_served}
use Rattle.engine.specs.Slot.{left_used, lates, settled, answered}
use Rattle.engine.specs.Calls.{late_total_of}
use Rattle.promise.specs.Runs.{Call, run_of, history, moment}
use Rattle.promise.specs.History.{answer_at}
use Rattle.promise.specs.Demands.{late_of_row, row_ends_late, Counted, Flagged}
use Rattle.promise.proofs.Trail.{last_moment, trail}
use Rattle.promise.proofs.Lane.{lane_count, lane_flag}
use Rattle.promise.proofs.Engine.{Tame, tame, lane, figure_run}
use Rattle.promise.proofs.Legal.{tallies_legal, none_late_past, run_legal, start_legal}

-- a word of flags that are not set from n on
tab_same : {A : Type 0} (n : ℕ) (f g : ℕ → A) → ((i : ℕ) → i < n → f i ≡ g i) → tab n f ≡ tab n g
unfolding tab
tab_same zero f g e = refl
tab_same (suc n) f g e = rw (e 0 (omega arith), tab_same n (λ i. f (suc i)) (λ i. g (suc i)) (λ i h. e (suc i) (omega arith)))

word_cut : (f : ℕ → Bool) (n m : ℕ) → ((i : ℕ) → n ≤ i → i < n + m → f i ≡ false) → word (tab (n + m) f) ≡ word (tab n f)
word_cut f n zero e = rw (add-zero n)
word_cut f n (suc m) e =
    let k : n + suc m ≡ n + m + 1 = omega arith in
    rw (k, tab_word_more (n + m) f, e (n + m) (omega arith) (omega arith), word_cut f n m (λ i g h. e i g (omega arith))) (omega arith)

pub word_none : (f : ℕ → Bool) (n : ℕ) → ((i : ℕ) → i < n → f i ≡ false) → word (tab n f) ≡ 0
unfolding word tab
word_none f n e = rw (zero-add n) at (word_cut f 0 n (λ i g h. e i (omega arith)))

word_told : (f g : ℕ → Bool) (n : ℕ) → n ≤ 16 → ((i : ℕ) → i < n → bit (word (tab 16 f)) i ≡ g i)
    → ((i : ℕ) → n ≤ i → i < 16 → bit (word (tab 16 f)) i ≡ false) → word (tab 16 f) ≡ word (tab n g)
word_told f g n q a b =
    let k : n + (16 - n) ≡ 16 = omega arith in
    rw k at (word_cut f n (16 - n) (λ i u v. sym (tab_bit 16 f i (omega arith)) ∙ b i u (omega arith)))
    ∙ ap word (tab_same n f g (λ i h. sym (tab_bit 16 f i (omega arith)) ∙ a i h))

-- a sum of counts that are 0 from n on
total_sum : (l : List ℕ) (g : ℕ → ℕ) (n : ℕ) → ((i : ℕ) → i < n → at l i ≡ g i) → total n l ≡ sum g n
unfolding total sum
total_sum l g zero e = refl
total_sum l g (suc n) e = omega (arith, total_sum l g n (λ i h. e i (omega arith)), e n (omega arith))

total_cut : (l : List ℕ) (n m : ℕ) → ((i : ℕ) → n ≤ i → i < n + m → at l i ≡ 0) → total (n + m) l ≡ total n l
unfolding total
total_cut l n zero e = rw (add-zero n)
total_cut l n (suc m) e =
    let k : n + suc m ≡ suc (n + m) = omega arith in
    rw k (omega (arith, total_cut l n m (λ i g h. e i g (omega arith)), e (n + m) (omega arith) (omega arith)))

-- a run from the start of an accepted table
module _ (x : Table) (a : (test_of x).verdict ≡ Taken) (calls : List Call) where
  abbrev k : List ℕ
  k = (test_of x).each

  abbrev h : List Answer
  h = history (begun x k) calls

  abbrev end : State
  end = run_of (begun x k) calls

  ordered : WellFormed x.n x.c x.t x.d
  ordered = taken_well x (verdict_form x a)

  end_tame : Tame x k (length h) end
  end_tame = rw (last_moment calls (begun x k)) at (tame x k calls (length h) (omega arith))

  end_legal : legal end ≡ true
  end_legal = run_legal (begun x k) (start_legal x a) calls

  pub late_run : (i : ℕ) → i < x.n → at end.late i ≡ late_of_row x h i
  late_run i r = rw (last_moment calls (begun x k)) at (lane_count ordered (lane x k calls) i r)

  total_run : late_total_of end ≡ record { verdict = Taken; total = sum (late_of_row x h) x.n }
  unfolding late_total_of
  total_run =
      let n : x.n + (16 - x.n) ≡ 16 = omega (arith, ordered.counted.1) in
      let e : total 16 end.late ≡ sum (late_of_row x h) x.n =
      rw n at (total_cut end.late x.n (16 - x.n) (λ i g q. none_late_past end end_legal i (omega (arith, end_tame.n_same)) (omega arith)))
      ∙ total_sum end.late (late_of_row x h) x.n late_run in
      rw (end_legal, e)

  pub counted_run : Counted x end h
  unfolding blank settled with_figures
  counted_run =
      record {
        lates = late_run;
        total = total_run;
        hards = figure_run x k calls (λ s. s.hard) is_hard refl (λ p q e. ap (λ (s : State). s.hard) e) (λ z lost. refl);
        givens = figure_run x k calls (λ s. s.given) is_given refl (λ p q e. ap (λ (s : State). s.given) e) (λ z lost. refl);
        empties = figure_run x k calls (λ s. s.empty) is_empty refl (λ p q e. ap (λ (s : State). s.empty) e) (λ z lost. refl);
        losts = figure_run x k calls (λ s. s.lost) is_lost refl (λ p q e. ap (λ (s : State). s.lost) e) (λ z lost. refl);
        all = omega (arith, tallies_legal end end_legal, end_tame.clock);
        clock = end_tame.clock;
      }

  word_run : (y : ℕ) → y < length h → (answer_at h y).word ≡ word (tab x.n (row_ends_late x h y))
  unfolding lates late_word
  word_run y p =
      let e = (lane x k calls).word_is y p in
      e ∙ word_told _ (row_ends_late x h y) x.n ordered.counted.1 (λ i r. rw e at (lane_flag ordered (lane x k calls) i r y p))
      (λ i g q. late_past i y x.n x.t x.d (left_used y x.n x.c x.t x.d (row_served (answer_at h y).used) (moment (begun x k) calls y).state.left) g q)

  number_run : (y : ℕ) → y < length h → (answer_at h y).late ≡ ones (answer_at h y).word
  unfolding answered
  number_run y p = let e = (trail calls (begun x k) y p).answer in ap (λ (z : Answer). z.late) e ∙ ap (λ (z : Answer). ones z.word) (sym e)

  pub flagged_run : (y : ℕ) → y < length h → Flagged x h y
  flagged_run y p =
      record { bits = word_run y p; number = number_run y p ∙ ap ones (word_run y p) ∙ ones_word (tab x.n (row_ends_late x h y)) }
