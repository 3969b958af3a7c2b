-- A table is taken exactly when it is well formed, and each refusal of its form is given exactly when it should be.
use mathlib.Core.Path.{◌≡◌, refl, subst}
use mathlib.Core.List.{List}
use mathlib.Core.Bool.{Bool, true, false, cond, ◌&&◌, ◌||◌}
use mathlib.Core.Logic.{◌⊎◌, inl, inr, ⊎_elim, ◌↔◌}
use Prim.Native.Nat.{ℕ, zero, suc, ◌-◌, ◌≤◌, ◌<◌, min}
use native.Mathlib.Omega.{arith}
use lib.Dec.{eqb, ltb, leb}
use borrow.Author.Tests.{ltb-true, ltb-false, leb-true, leb-false, eqb-true, eqb-false, lt-ltb, le-ltb, le-leb, lt-leb, eq-eqb, ne_eqb}
use Rattle.seq.specs.Places.{at}
use Rattle.seq.proofs.Tests.{both_true, either_true, either_false, true_false, no_true}
use Rattle.seq.proofs.Places.{lead_most, lead_before, lead_stop, lead_is, lead_full}
use Rattle.table.specs.declared.Table.{Table}
use Rattle.table.specs.Refusals.{FormSays}
use Rattle.table.specs.Refusals.FormSays.{count, row, period, well}
use Rattle.std.specs.Prelude.{Err}
use Rattle.table.specs.declared.Refusal.TheVariants.{RowCount, RowUnsound, PeriodFalls}
use Rattle.table.specs.Verdicts.{Verdict, Taken, refuse, ◌and_then◌}
use Rattle.table.specs.Form.{in_order, all_zero, sound, unsound_row, rising, falling_row, count_verdict, rows_verdict, periods_verdict, form_verdict, form_of}
use Rattle.table.specs.WellFormed.{Ordered, Zero, Counted, Sound, WellFormed}
use Rattle.table.proofs.Verdicts.{and_taken, refuse_taken}

-- Tests and what they say.

ordered_is : (c t d : ℕ) → in_order c t d ≡ true → Ordered c t d
ordered_is c t d e =
    let p = both_true (leb 1 c && leb c d && leb d t) (leb t 4096) e in
    let q = both_true (leb 1 c && leb c d) (leb d t) p.0 in
    let r = both_true (leb 1 c) (leb c d) q.0 in
    record { some = leb-true 1 c r.0; due = leb-true c d r.1; within = leb-true d t q.1; longest = leb-true t 4096 p.1 }

is_ordered : (c t d : ℕ) → Ordered c t d → in_order c t d ≡ true
is_ordered c t d o = rw (le-leb 1 c o.some, le-leb c d o.due, le-leb d t o.within, le-leb t 4096 o.longest)

zero_is : (c t d : ℕ) → all_zero c t d ≡ true → Zero c t d
zero_is c t d e =
    let p = both_true (eqb c 0 && eqb t 0) (eqb d 0) e in
    let q = both_true (eqb c 0) (eqb t 0) p.0 in
    (eqb-true c 0 q.0, eqb-true t 0 q.1, eqb-true d 0 p.1)

is_zero : (c t d : ℕ) → Zero c t d → all_zero c t d ≡ true
is_zero c t d z = rw (eq-eqb c 0 z.0, eq-eqb t 0 z.1, eq-eqb d 0 z.2)

module _ (n : ℕ) (c t d : List ℕ) where
  sound_is : (i : ℕ) → sound n c t d i ≡ true → Sound n c t d i
  unfolding sound
  sound_is i e = (
    λ h. ordered_is (at c i) (at t i) (at d i) (rw (lt-ltb i n h) at e),
    λ h. zero_is (at c i) (at t i) (at d i) (rw (le-ltb i n h) at e),
  )

  is_sound_by : (i : ℕ) (b : Bool) → ltb i n ≡ b → Sound n c t d i → cond b (in_order (at c i) (at t i) (at d i)) (all_zero (at c i) (at t i) (at d i)) ≡ true
  is_sound_by i true e s = is_ordered (at c i) (at t i) (at d i) (s.0 (ltb-true i n e))
  is_sound_by i false e s = is_zero (at c i) (at t i) (at d i) (s.1 (ltb-false i n e))

  is_sound : (i : ℕ) → Sound n c t d i → sound n c t d i ≡ true
  unfolding sound
  is_sound i s = is_sound_by i (ltb i n) refl s

  -- the first row that is not sound
  pub unsound_at : unsound_row n c t d < 16 → Sound n c t d (unsound_row n c t d) → ⊥
  unfolding unsound_row
  unsound_at h s = true_false (is_sound (unsound_row n c t d) s) (lead_stop 16 (sound n c t d) h)

  pub unsound_before : (j : ℕ) → j < unsound_row n c t d → Sound n c t d j
  unfolding unsound_row
  unsound_before j h = sound_is j (lead_before 16 (sound n c t d) j h)

  pub unsound_is : (i : ℕ) → i < 16 → (Sound n c t d i → ⊥) → ((j : ℕ) → j < i → Sound n c t d j) → unsound_row n c t d ≡ i
  unfolding unsound_row
  unsound_is i h u b = lead_is 16 (sound n c t d) i h (no_true (sound n c t d i) (λ e. u (sound_is i e))) (λ j k. is_sound j (b j k))

  pub unsound_none : ((j : ℕ) → j < 16 → Sound n c t d j) → unsound_row n c t d ≡ 16
  unfolding unsound_row
  unsound_none b = lead_full 16 (sound n c t d) (λ j k. is_sound j (b j k))

-- the first period that falls
module _ (n : ℕ) (t : List ℕ) where
  pub falling_at : falling_row n t < min n 16 → at t (falling_row n t) < at t (falling_row n t - 1)
  unfolding falling_row
  falling_at h = leb-false _ _ (lead_stop (min n 16) (rising t) h)

  pub falling_before : (j : ℕ) → j < falling_row n t → at t (j - 1) ≤ at t j
  unfolding falling_row
  falling_before j h = leb-true _ _ (lead_before (min n 16) (rising t) j h)

  pub falling_is : (i : ℕ) → i < min n 16 → at t i < at t (i - 1) → ((j : ℕ) → j < i → at t (j - 1) ≤ at t j) → falling_row n t ≡ i
  unfolding falling_row
  falling_is i h f b = lead_is (min n 16) (rising t) i h (lt-leb _ _ f) (λ j k. le-leb _ _ (b j k))

  pub falling_none : ((j : ℕ) → j < min n 16 → at t (j - 1) ≤ at t j) → falling_row n t ≡ min n 16
  unfolding falling_row
  falling_none b = lead_full (min n 16) (rising t) (λ j k. le-leb _ _ (b j k))

pub unsound_most : (n : ℕ) (c t d : List ℕ) → unsound_row n c t d ≤ 16
unfolding unsound_row
unsound_most n c t d = lead_most 16 (sound n c t d)

pub falling_most : (n : ℕ) (t : List ℕ) → falling_row n t ≤ min n 16
unfolding falling_row
falling_most n t = lead_most (min n 16) (rising t)

pub form_parts : (n : ℕ) (c t d : List ℕ) → form_verdict n c t d ≡ Taken → (count_verdict n ≡ Taken) × (rows_verdict n c t d ≡ Taken) × (periods_verdict n t ≡ Taken)
unfolding form_verdict
form_parts n c t d e =
    let p = and_taken (count_verdict n and_then rows_verdict n c t d) (periods_verdict n t) e in
    let q = and_taken (count_verdict n) (rows_verdict n c t d) p.0 in
    (q.0, q.1, p.1)

pub counted_is : (n : ℕ) → (eqb n 0 || ltb 16 n) ≡ false → Counted n
counted_is n e =
    let b = either_false (eqb n 0) (ltb 16 n) e in
    let z : n ≡ 0 → ⊥ = eqb-false n 0 b.0 in
    (omega arith, ltb-false 16 n b.1)

pub is_counted : (n : ℕ) → Counted n → (eqb n 0 || ltb 16 n) ≡ false
is_counted n k = rw (ne_eqb n 0 (λ e. omega arith), le-ltb 16 n k.1)

-- well formed, row by row
pub back : (t : List ℕ) (m : ℕ) → ((j : ℕ) → suc j < m → at t j ≤ at t (suc j)) → (j : ℕ) → j < m → at t (j - 1) ≤ at t j
back t m r zero h = omega arith
back t m r (suc j) h = let e : suc j - 1 ≡ j = omega arith in rw e (r j h)

module _ (n : ℕ) (c t d : List ℕ) where
  pub well_is : Counted n → ((j : ℕ) → j < 16 → Sound n c t d j) → ((j : ℕ) → j < n → at t (j - 1) ≤ at t j) → WellFormed n c t d
  well_is k s r = record {
    counted = k;
    ordered = λ i h. (s i (omega arith)).0 h;
    past = λ i h l. (s i l).1 h;
    rises = λ i h. let e : suc i - 1 ≡ i = omega arith in rw e at (r (suc i) h);
  }

  pub well_sound : WellFormed n c t d → (j : ℕ) → j < 16 → Sound n c t d j
  well_sound w j h = (w.ordered j, λ l. w.past j l h)

-- the whole verdict
module _ (n : ℕ) (c t d : List ℕ) where
  -- the first row whose period falls, as a row that follows another
  period_says : Counted n → ((j : ℕ) → j < 16 → Sound n c t d j) → (f : ℕ) → f < n → at t f < at t (f - 1) → ((j : ℕ) → j < f → at t (j - 1) ≤ at t j)
      → FormSays n c t d (Err (PeriodFalls (suc f)))
  period_says k s zero h l b = absurd (omega arith)
  period_says k s (suc i) h l b =
      let e : (j : ℕ) → suc j - 1 ≡ j = λ j. omega arith in
      period k s i h (rw (e i) at l) (λ j g. rw (e j) at (b (suc j) (omega arith)))

  says : (a b e : Bool) → (eqb n 0 || ltb 16 n) ≡ a → ltb (unsound_row n c t d) 16 ≡ b → ltb (falling_row n t) (min n 16) ≡ e
      → FormSays n c t d (refuse a RowCount and_then refuse b (RowUnsound (suc (unsound_row n c t d))) and_then refuse e (PeriodFalls (suc (falling_row n t))))
  says true b e p q r = count (⊎_elim (λ x. inl (eqb-true n 0 x)) (λ y. inr (ltb-true 16 n y)) (either_true (eqb n 0) (ltb 16 n) p))
  says false true e p q r = row (counted_is n p) (unsound_row n c t d) (ltb-true _ _ q) (unsound_at n c t d (ltb-true _ _ q)) (unsound_before n c t d)
  says false false true p q r =
      let u : 16 ≤ unsound_row n c t d = ltb-false _ _ q in
      let f : falling_row n t < min n 16 = ltb-true _ _ r in
      period_says (counted_is n p) (λ j h. unsound_before n c t d j (omega arith)) (falling_row n t) (omega arith) (falling_at n t f) (falling_before n t)
  says false false false p q r =
      let u : 16 ≤ unsound_row n c t d = ltb-false _ _ q in
      let f : min n 16 ≤ falling_row n t = ltb-false _ _ r in
      let k = counted_is n p in
      well (well_is n c t d k (λ j h. unsound_before n c t d j (omega arith)) (λ j h. falling_before n t j (omega arith)))

  pub form_says : FormSays n c t d (form_verdict n c t d)
  unfolding form_verdict count_verdict rows_verdict periods_verdict
  form_says = says (eqb n 0 || ltb 16 n) (ltb (unsound_row n c t d) 16) (ltb (falling_row n t) (min n 16)) refl refl refl

  count_refused : (n ≡ 0) ⊎ (16 < n) → count_verdict n ≡ Err RowCount
  unfolding count_verdict
  count_refused h = ⊎_elim (λ z. rw (eq-eqb n 0 z)) (λ l. rw (ne_eqb n 0 (λ z. omega arith), lt-ltb 16 n l)) h

  count_passed : Counted n → count_verdict n ≡ Taken
  unfolding count_verdict
  count_passed k = rw (is_counted n k)

  rows_passed : ((j : ℕ) → j < 16 → Sound n c t d j) → rows_verdict n c t d ≡ Taken
  unfolding rows_verdict
  rows_passed s = rw (unsound_none n c t d s)

  rows_refused : (i : ℕ) → i < 16 → (Sound n c t d i → ⊥) → ((j : ℕ) → j < i → Sound n c t d j) → rows_verdict n c t d ≡ Err (RowUnsound (suc i))
  unfolding rows_verdict
  rows_refused i h u b = rw (unsound_is n c t d i h u b, lt-ltb i 16 h)

  periods_passed : WellFormed n c t d → periods_verdict n t ≡ Taken
  unfolding periods_verdict
  periods_passed w = rw (falling_none n t (λ j h. back t n w.rises j (omega arith)), le-ltb (min n 16) (min n 16) (omega arith))

  periods_refused : Counted n → (i : ℕ) → suc i < n → at t (suc i) < at t i → ((j : ℕ) → j < i → at t j ≤ at t (suc j)) → periods_verdict n t ≡ Err (PeriodFalls (suc (suc i)))
  unfolding periods_verdict
  periods_refused k i h l b =
      let e : suc i - 1 ≡ i = omega arith in
      let f : falling_row n t ≡ suc i = falling_is n t (suc i) (omega arith) (rw e l) (back t (suc i) (λ j g. b j (omega arith))) in
      rw (f, lt-ltb (suc i) (min n 16) (omega arith))

  pub says_form : {v : Verdict} → FormSays n c t d v → form_verdict n c t d ≡ v
  unfolding form_verdict
  says_form (count h) = rw (count_refused h)
  says_form (row k i h u b) = rw (count_passed k, rows_refused i h u b)
  says_form (period k s i h l b) = rw (count_passed k, rows_passed s, periods_refused k i h l b)
  says_form (well w) = rw (count_passed w.counted, rows_passed (well_sound n c t d w), periods_passed w)

  pub well_of : FormSays n c t d Taken → WellFormed n c t d
  well_of (well w) = w

  pub form_gives : (v : Verdict) → (form_verdict n c t d ≡ v) ↔ FormSays n c t d v
  form_gives v = (λ e. subst (λ (w : Verdict). FormSays n c t d w) e form_says, says_form)

  pub taken_iff : (form_verdict n c t d ≡ Taken) ↔ WellFormed n c t d
  taken_iff = (λ e. well_of ((form_gives Taken).0 e), λ w. says_form (well w))

-- a table that is taken
pub count_taken : (n : ℕ) → count_verdict n ≡ Taken → Counted n
unfolding count_verdict
count_taken n e = counted_is n (refuse_taken (eqb n 0 || ltb 16 n) RowCount e)

pub taken_few : (n : ℕ) (c t d : List ℕ) → form_verdict n c t d ≡ Taken → n ≤ 16
taken_few n c t d e = (count_taken n (form_parts n c t d e).0).1

pub taken_row : (x : Table) → form_of x ≡ Taken → (i : ℕ) → i < x.n → Ordered (at x.c i) (at x.t i) (at x.d i)
taken_row x e = ((taken_iff x.n x.c x.t x.d).0 e).ordered

pub taken_some : (x : Table) → form_of x ≡ Taken → 1 ≤ x.n
taken_some x e = ((taken_iff x.n x.c x.t x.d).0 e).counted.0
