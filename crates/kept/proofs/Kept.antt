-- Rows within their bounds, and how a slot keeps them there.
use mathlib.Core.Path.{◌≡◌, refl}
use mathlib.Core.List.{List}
use mathlib.Core.Bool.{Bool, true, false, cond}
use Prim.Native.Nat.{ℕ, ◌+◌, ◌-◌, ◌≤◌, ◌<◌}
use native.Mathlib.Omega.{arith}
use lib.Dec.{eqb, ltb}
use borrow.Author.Tests.{eq-eqb, lt-ltb, le-ltb, le-leb, ltb-true, ltb-false, leb-true, eqb-true}
use Rattle.seq.specs.Places.{flag, at, over}
use Rattle.seq.specs.Words.{bit}
use Rattle.seq.proofs.Tests.{both_true}
use Rattle.seq.proofs.Places.{over_either, every_at, every_true}
use Rattle.seq.proofs.Words.{flag_le}
use Rattle.rows.specs.Rows.{rows_of, idle, reloaded, released, charged, worked}
use Rattle.late.specs.Late.{dropped, counted}
use Rattle.kept.specs.Kept.{row_kept, rows_kept, lates_kept}
use Rattle.late.proofs.Counts.{Within}

low : (b : Bool) {x y z : ℕ} → x ≤ z → y ≤ z → cond b x y ≤ z
low true g h = g
low false g h = h

-- n counts as 16 where it is more
pub below_rows : (i n : ℕ) → i < 16 → ltb i (rows_of n) ≡ ltb i n
below_rows i n h = split (ltb i n) refl
  where
    split : (b : Bool) → ltb i n ≡ b → ltb i (rows_of n) ≡ b
    split true e = lt-ltb i (rows_of n) (let y : i < n = ltb-true _ _ e in omega arith)
    split false e = le-ltb i (rows_of n) (let y : n ≤ i = ltb-false _ _ e in omega arith)

-- what the test says of each place, past n too
pub record Bounds (c d k left counter : ℕ) : Type 0 where
  pub slack : k ≤ d - c
  pub charge : counter ≤ k
  pub work : left ≤ c

kept_says : (used : Bool) {c d k left counter : ℕ} → row_kept used c d k left counter ≡ true → Bounds c d k left counter
kept_says true e =
    let a = both_true _ _ e in
    let b = both_true _ _ a.0 in
    record { slack = leb-true _ _ b.0; charge = leb-true _ _ b.1; work = leb-true _ _ a.1 }
kept_says false {c} {d} {k} {left} {counter} e =
    let a = both_true _ (eqb left 0) e in
    let b = both_true (eqb k 0) (eqb counter 0) a.0 in
    let x : k ≡ 0 = eqb-true _ _ b.0 in
    let y : counter ≡ 0 = eqb-true _ _ b.1 in
    let z : left ≡ 0 = eqb-true _ _ a.1 in
    record { slack = omega arith; charge = omega arith; work = omega arith }

kept_is : (used : Bool) {c d k left counter : ℕ} → (used ≡ false → (c ≡ 0) × (d ≡ 0)) → Bounds c d k left counter → row_kept used c d k left counter ≡ true
kept_is true z b = rw (le-leb _ _ b.slack, le-leb _ _ b.charge, le-leb _ _ b.work)
kept_is false {c} {d} {k} {left} {counter} z b =
    let y = z refl in
    rw (eq-eqb k 0 (omega arith), eq-eqb counter 0 (omega arith), eq-eqb left 0 (omega arith))

module _ (c d k : List ℕ) where
  abbrev pub AllBounds : List ℕ → List ℕ → Type 0
  AllBounds left counter = (i : ℕ) → i < 16 → Bounds (at c i) (at d i) (at k i) (at left i) (at counter i)

  pub kept_bounds : (n : ℕ) (left counter : List ℕ) → rows_kept n c d k left counter ≡ true → AllBounds left counter
  unfolding rows_kept
  kept_bounds n left counter e i h = kept_says (ltb i n) (every_at 16 (λ i. row_kept (ltb i n) (at c i) (at d i) (at k i) (at left i) (at counter i)) e i h)

  pub bounds_kept : (n : ℕ) (left counter : List ℕ) → ((i : ℕ) → n ≤ i → i < 16 → (at c i ≡ 0) × (at d i ≡ 0)) → AllBounds left counter → rows_kept n c d k left counter ≡ true
  unfolding rows_kept
  bounds_kept n left counter z b = every_true 16 _ (λ i h. kept_is (ltb i n) (λ e. z i (ltb-false _ _ e) h) (b i h))

  -- each step keeps them
  module _ (left counter : List ℕ) (b : AllBounds left counter) where
    counters_kept : (n : ℕ) (f : ℕ → ℕ → ℕ) → ((i x : ℕ) → x ≤ at k i → f i x ≤ at k i) → AllBounds left (over n f counter)
    counters_kept n f g i h =
        let y = b i h in
        record { slack = y.slack; charge = over_either 0 n f counter i (λ x. x ≤ at k i) (g i _ y.charge) y.charge; work = y.work }

    works_kept : (f : ℕ → ℕ → ℕ) → ((i x : ℕ) → x ≤ at c i → f i x ≤ at c i) → AllBounds (over 16 f left) counter
    works_kept f g i h =
        let y = b i h in
        record { slack = y.slack; charge = y.charge; work = over_either 0 16 f left i (λ x. x ≤ at c i) (g i _ y.work) y.work }

    pub reloaded_kept : (n : ℕ) (l : List ℕ) → AllBounds left (reloaded n l k counter)
    unfolding reloaded
    reloaded_kept n l = counters_kept (idle n l) (λ i x. at k i) (λ i x h. omega arith)

    pub charged_kept : (n : ℕ) (on : Bool) → AllBounds left (charged n on counter)
    unfolding charged
    charged_kept n on = counters_kept (rows_of n) (λ i x. x - flag on) (λ i x h. omega arith)

    pub released_kept : (due : ℕ) → AllBounds (released due c left) counter
    unfolding released
    released_kept due = works_kept (λ i x. cond (bit due i) (at c i) x) (λ i x h. low (bit due i) (omega arith) h)

    pub worked_kept : (row : ℕ) → AllBounds (worked row left) counter
    unfolding worked
    worked_kept row = works_kept (λ i x. x - flag (eqb i row)) (λ i x h. omega arith)

    pub dropped_kept : (w : ℕ) → AllBounds (dropped w left) counter
    unfolding dropped
    dropped_kept w = works_kept (λ i x. cond (bit w i) 0 x) (λ i x h. low (bit w i) (omega arith) h)

-- late counts
module _ (n ran : ℕ) (late : List ℕ) (e : lates_kept n ran late ≡ true) where
  pub lates_say : (i : ℕ) → i < 16 → at late i ≤ cond (ltb i n) ran 0
  unfolding lates_kept
  lates_say i h = leb-true _ _ (every_at 16 _ e i h)

  pub lates_within : Within ran late
  lates_within i h =
      let z : cond (ltb i n) ran 0 ≤ ran = low (ltb i n) (omega arith) (omega arith) in
      omega (arith, lates_say i h)

  -- a slot more, where none past the rows is late
  pub lates_kept_lem : (w : ℕ) → ((i : ℕ) → n ≤ i → i < 16 → bit w i ≡ false) → lates_kept n (ran + 1) (counted w late) ≡ true
  unfolding lates_kept counted
  lates_kept_lem w z = every_true 16 _ (λ i h. le-leb _ _ (split i h (ltb i n) refl (lates_say i h)))
    where
      split : (i : ℕ) → i < 16 → (b : Bool) → ltb i n ≡ b → at late i ≤ cond b ran 0 → at (over 16 (λ i x. x + flag (bit w i)) late) i ≤ cond b (ran + 1) 0
      split i h true q g = over_either 0 16 _ late i (λ x. x ≤ ran + 1) (omega (arith, flag_le (bit w i))) (omega arith)
      split i h false q g = over_either 0 16 _ late i (λ x. x ≤ 0) (rw (z i (ltb-false _ _ q) h) (omega arith)) g
