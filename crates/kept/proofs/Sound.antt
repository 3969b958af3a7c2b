-- The quick tests of legality say what the definitions say.
use mathlib.Core.Path.{◌≡◌, refl, sym}
use mathlib.Core.List.{List}
use mathlib.Core.Bool.{Bool, true, false, cond, not, ◌&&◌, ◌||◌}
use Prim.Native.Nat.{ℕ, zero, suc, ◌-◌, ◌≤◌, ◌<◌, min}
use native.Mathlib.Omega.{arith}
use lib.Dec.{eqb, ltb, leb}
use lib.Bits.{bit_or, or_add_and, and_le_l, and_le_r}
use borrow.Author.Tests.{not-true, eq-eqb, ne_eqb, lt-ltb, le-ltb, le-leb, ltb-true, ltb-false, leb-true, eqb-true}
use Rattle.seq.specs.Places.{at, every, lead}
use Rattle.seq.proofs.Tests.{both_true, either_false, true_false}
use Rattle.seq.proofs.Places.{every_at, every_true, lead_full, lead_all}
use Rattle.table.specs.declared.Refusal.TheVariants.{RowCount, RowUnsound, PeriodFalls}
use Rattle.table.specs.Verdicts.{taken, refuse, ◌and_then◌}
use Rattle.table.specs.Form.{in_order, all_zero, sound, unsound_row, rising, falling_row, count_verdict, rows_verdict, periods_verdict, form_verdict}
use Rattle.kept.specs.Kept.{table_legal, row_kept, rows_kept, kept, lates_kept}

-- two tests are the same where each passes if the other does
pub same_test : (a b : Bool) → (a ≡ true → b ≡ true) → (b ≡ true → a ≡ true) → a ≡ b
same_test true b f g = sym (f refl)
same_test false true f g = g refl
same_test false false f g = refl

-- A table: refusals 4, 5 and 6 as three tests
nonzero : (m : ℕ) → eqb m 0 ≡ false → 1 ≤ m
nonzero zero e = absurd (true_false refl e)
nonzero (suc m) e = omega arith

count_test : (n : ℕ) → not (eqb n 0 || ltb 16 n) ≡ leb 1 n && leb n 16
count_test n = same_test _ _ there back
  where
    there : not (eqb n 0 || ltb 16 n) ≡ true → leb 1 n && leb n 16 ≡ true
    there e =
        let a = either_false _ _ (not-true _ e) in
        let x : n ≤ 16 = ltb-false _ _ a.1 in
        let y : 1 ≤ n = nonzero n a.0 in
        rw (le-leb 1 n y, le-leb n 16 x)

    back : leb 1 n && leb n 16 ≡ true → not (eqb n 0 || ltb 16 n) ≡ true
    back e =
        let a = both_true _ _ e in
        let x : 1 ≤ n = leb-true _ _ a.0 in
        let y : n ≤ 16 = leb-true _ _ a.1 in
        rw (ne_eqb n 0 (λ z. absurd (omega (arith, z, x))), le-ltb 16 n y)

every_test : (m : ℕ) (p : ℕ → Bool) → not (ltb (lead m p) m) ≡ every m p
every_test m p =
    same_test _ _
    (λ e. every_true m p (lead_all m p (ltb-false _ _ (not-true _ e))))
    (λ e. rw (lead_full m p (every_at m p e), le-ltb m m (omega arith)))

taken_thrice : (a b c : Bool) (r s : ℕ) → taken (refuse a RowCount and_then refuse b (RowUnsound r) and_then refuse c (PeriodFalls s)) true false ≡ not a && not b && not c
taken_thrice true b c r s = refl
taken_thrice false true c r s = refl
taken_thrice false false true r s = refl
taken_thrice false false false r s = refl

table_test : (n : ℕ) (c t d : List ℕ) → table_legal n c t d ≡ leb 1 n && leb n 16 && every 16 (sound n c t d) && every (min n 16) (rising t)
unfolding form_verdict count_verdict rows_verdict periods_verdict unsound_row falling_row
table_test n c t d =
    rw (← count_test n, ← every_test 16 (sound n c t d), ← every_test (min n 16) (rising t))
    (taken_thrice (eqb n 0 || ltb 16 n) (ltb (lead 16 (sound n c t d)) 16) (ltb (lead (min n 16) (rising t)) (min n 16)) _ _)

-- A row and its figures: past the rows the bounds leave only zeros
pub kept_alike : (used : Bool) (c t d k left counter : ℕ)
    → cond used (in_order c t d) (all_zero c t d) && (leb k (d - c) && leb counter k && leb left c) ≡ cond used (in_order c t d) (all_zero c t d) && row_kept used c d k left counter
kept_alike true c t d k left counter = refl
kept_alike false c t d k left counter = split (all_zero c t d) refl
  where
    split : (b : Bool) → all_zero c t d ≡ b → b && (leb k (d - c) && leb counter k && leb left c) ≡ b && row_kept false c d k left counter
    split false q = refl
    split true q =
        let a = both_true (eqb c 0 && eqb t 0) (eqb d 0) q in
        let y : d ≡ 0 = eqb-true d 0 a.1 in
        let x : c ≡ 0 = eqb-true c 0 (both_true (eqb c 0) (eqb t 0) a.0).0 in
        same_test _ _ (there x y) (back x y)
      where
        there : c ≡ 0 → d ≡ 0 → leb k (d - c) && leb counter k && leb left c ≡ true → eqb k 0 && eqb counter 0 && eqb left 0 ≡ true
        there x y e =
            let a = both_true (leb k (d - c) && leb counter k) (leb left c) e in
            let b = both_true (leb k (d - c)) (leb counter k) a.0 in
            let u : k ≤ d - c = leb-true k (d - c) b.0 in
            let v : counter ≤ k = leb-true counter k b.1 in
            let w : left ≤ c = leb-true left c a.1 in
            rw (eq-eqb k 0 (omega arith), eq-eqb counter 0 (omega arith), eq-eqb left 0 (omega arith))

        back : c ≡ 0 → d ≡ 0 → eqb k 0 && eqb counter 0 && eqb left 0 ≡ true → leb k (d - c) && leb counter k && leb left c ≡ true
        back x y e =
            let a = both_true (eqb k 0 && eqb counter 0) (eqb left 0) e in
            let b = both_true (eqb k 0) (eqb counter 0) a.0 in
            let u : k ≡ 0 = eqb-true k 0 b.0 in
            let v : counter ≡ 0 = eqb-true counter 0 b.1 in
            let w : left ≡ 0 = eqb-true left 0 a.1 in
            rw (le-leb k (d - c) (omega arith), le-leb counter k (omega arith), le-leb left c (omega arith))

-- All of it
module _ (n : ℕ) (c t d k left counter : List ℕ) where
  abbrev figures : ℕ → Bool
  figures i = row_kept (ltb i n) (at c i) (at d i) (at k i) (at left i) (at counter i)

  abbrev asked : ℕ → Bool
  asked = kept n c t d k left counter

  abbrev quick : Bool
  quick = leb 1 n && leb n 16 && every 16 asked && every (min n 16) (rising t)

  abbrev slow : Bool
  slow = leb 1 n && leb n 16 && every 16 (sound n c t d) && every (min n 16) (rising t) && every 16 figures

  pub rows_test : quick ≡ table_legal n c t d && rows_kept n c d k left counter
  unfolding rows_kept
  rows_test = rw (table_test n c t d) (same_test quick slow there back)
    where
      there : quick ≡ true → slow ≡ true
      there e =
          let a = both_true (leb 1 n && leb n 16 && every 16 asked) (every (min n 16) (rising t)) e in
          let b = both_true (leb 1 n && leb n 16) (every 16 asked) a.0 in
          let each = every_at 16 asked b.1 in
          rw (b.0, every_true 16 (sound n c t d) (λ i h. (both_true (sound n c t d i) (figures i) (each i h)).0), a.1, every_true 16 figures (λ i h. (both_true (sound n c t d i) (figures i) (each i h)).1))

      back : slow ≡ true → quick ≡ true
      back e =
          let a = both_true (leb 1 n && leb n 16 && every 16 (sound n c t d) && every (min n 16) (rising t)) (every 16 figures) e in
          let b = both_true (leb 1 n && leb n 16 && every 16 (sound n c t d)) (every (min n 16) (rising t)) a.0 in
          let g = both_true (leb 1 n && leb n 16) (every 16 (sound n c t d)) b.0 in
          rw (g.0, every_true 16 asked (λ i h. rw (every_at 16 (sound n c t d) g.1 i h, every_at 16 figures a.1 i h)), b.1)

-- Late counts: low where there are rows, zero past them
module _ (n ran : ℕ) (late : List ℕ) where
  abbrev low_count : ℕ → Bool
  low_count i = leb (at late i) ran

  abbrev zero_past : ℕ → Bool
  zero_past i = ltb i n || eqb (at late i) 0

  abbrev kept_count : ℕ → Bool
  kept_count i = leb (at late i) (cond (ltb i n) ran 0)

  pub lates_test : every (min n 16) low_count && every 16 zero_past ≡ lates_kept n ran late
  unfolding lates_kept
  lates_test = same_test _ _ there back
    where
      kept : (i : ℕ) (b : Bool) → ltb i n ≡ b → (i < n → low_count i ≡ true) → zero_past i ≡ true → leb (at late i) (cond b ran 0) ≡ true
      kept i true e f g = f (ltb-true _ _ e)
      kept i false e f g =
          let z : at late i ≡ 0 = eqb-true (at late i) 0 (rw e at g) in
          le-leb (at late i) 0 (omega arith)

      there : every (min n 16) low_count && every 16 zero_past ≡ true → every 16 kept_count ≡ true
      there e =
          let a = both_true (every (min n 16) low_count) (every 16 zero_past) e in
          every_true 16 kept_count (λ i h. kept i (ltb i n) refl (λ g. every_at (min n 16) low_count a.0 i (omega arith)) (every_at 16 zero_past a.1 i h))

      low : every 16 kept_count ≡ true → (i : ℕ) → i < min n 16 → low_count i ≡ true
      low e i h = rw (lt-ltb i n (omega arith)) at (every_at 16 kept_count e i (omega arith))

      zeros : (i : ℕ) (b : Bool) → ltb i n ≡ b → leb (at late i) (cond b ran 0) ≡ true → (b || eqb (at late i) 0) ≡ true
      zeros i true e g = refl
      zeros i false e g =
          let z : at late i ≤ 0 = leb-true (at late i) 0 g in
          eq-eqb (at late i) 0 (omega arith)

      back : every 16 kept_count ≡ true → every (min n 16) low_count && every 16 zero_past ≡ true
      back e = rw (every_true (min n 16) low_count (low e), every_true 16 zero_past (λ i h. zeros i (ltb i n) refl (every_at 16 kept_count e i h)))

-- numbers joined by or are 0 only where each is
pub or_none : (a b : ℕ) → eqb (bit_or a b) 0 ≡ eqb a 0 && eqb b 0
or_none a b = same_test _ _ there back
  where
    there : eqb (bit_or a b) 0 ≡ true → eqb a 0 && eqb b 0 ≡ true
    there e =
        let z : bit_or a b ≡ 0 = eqb-true (bit_or a b) 0 e in
        let y = or_add_and a b in
        let x = and_le_l a b in
        let w = and_le_r a b in
        rw (eq-eqb a 0 (omega (arith, z, y, x, w)), eq-eqb b 0 (omega (arith, z, y, x, w)))

    back : eqb a 0 && eqb b 0 ≡ true → eqb (bit_or a b) 0 ≡ true
    back e =
        let q = both_true (eqb a 0) (eqb b 0) e in
        let x : a ≡ 0 = eqb-true a 0 q.0 in
        let y : b ≡ 0 = eqb-true b 0 q.1 in
        rw (x, y)
