-- What a slot is used for and why, what it takes from the rows' work and from a counter.
use mathlib.Core.Path.{◌≡◌, refl, ap, sym, ◌∙◌}
use mathlib.Core.List.{List}
use mathlib.Core.Bool.{Bool, true, false, cond, ◌&&◌, not, and-false}
use Prim.Native.Nat.{ℕ, suc, ◌+◌, ◌-◌, ◌≤◌, ◌<◌}
use native.Mathlib.Decide.{dec_lt, ℕ_discrete}
use native.Mathlib.Omega.{arith}
use lib.Dec.{eqb, ltb}
use borrow.Author.Tests.{eq-eqb, ne_eqb, ltb-true, ltb-false}
use Rattle.seq.specs.Places.{flag, at}
use Rattle.seq.proofs.Tests.{both_true}
use Rattle.law.specs.Sums.{sum}
use Rattle.law.specs.Level.{backlog}
use Rattle.law.proofs.Sums.{sum_add, sum_eq, sum_zero, term_le}
use Rattle.rows.specs.Rows.{rows_of, idle, none_zero}
use Rattle.rows.proofs.Idle.{idle_before, idle_stop}
use Rattle.rows.proofs.Points.{none_zero_at}
use Rattle.uses.specs.declared.Choice.TheVariants.{Give, Back, Idle}
use Rattle.uses.specs.declared.Choice.TheVariants as choice
use Rattle.uses.specs.declared.Use.{Use}
use Rattle.uses.specs.declared.Use.TheVariants.{Hard, Given, Empty, Lost}
use Rattle.uses.specs.Uses.{chosen, is_give, used_for, row_served}
use Rattle.promise.specs.History.{is_row}

-- the first row with work left has some
idle_works : (n : ℕ) (left : List ℕ) → idle n left < rows_of n → 1 ≤ at left (idle n left)
idle_works n left r = let z = idle_stop n left r in omega arith

-- the work left up to row i is none just where i comes before the first with work left
module _ (n : ℕ) (left : List ℕ) (i : ℕ) where
  pub low : i < idle n left → backlog (at left) i ≡ 0
  low p = sum_zero (at left) (suc i) (λ h q. idle_before n left h (omega arith))

  pub high : i < rows_of n → idle n left ≤ i → 1 ≤ backlog (at left) i
  high r p = omega (arith, idle_works n left (omega arith), term_le (at left) (suc i) (idle n left) (omega arith))

-- each use with its reason, and whether it is charged to the counters
pub data View (n count : ℕ) (left counter : List ℕ) (lost : Bool) : Use → Bool → Type 0 where
  is_lost_lem : lost ≡ true → View n count left counter lost Lost false
  is_given_lem : {name : ℕ} → 1 ≤ count → none_zero n counter ≡ true → View n count left counter lost (Given name) true
  is_hard_lem : {j : ℕ} → j ≡ idle n left → j < rows_of n → View n count left counter lost (Hard (suc j)) false
  is_back : {name : ℕ} → 1 ≤ count → rows_of n ≤ idle n left → View n count left counter lost (Given name) false
  is_empty_lem : rows_of n ≤ idle n left → View n count left counter lost Empty false

module _ (n count : ℕ) (left counter : List ℕ) where
  free : (name : ℕ) (a b c : Bool) → ltb 0 count && none_zero n counter ≡ a → ltb (idle n left) (rows_of n) ≡ b → ltb 0 count ≡ c
      → View n count left counter false (used_for false (cond a Give (cond b (choice.Hard (suc (idle n left))) (cond c Back Idle))) name)
      (is_give (cond a Give (cond b (choice.Hard (suc (idle n left))) (cond c Back Idle))) && not false)
  free name true b c e f g = let y = both_true _ _ e in is_given_lem (ltb-true _ _ y.0) y.1
  free name false true c e f g = is_hard_lem refl (ltb-true _ _ f)
  free name false false true e f g = is_back (ltb-true _ _ g) (ltb-false _ _ f)
  free name false false false e f g = is_empty_lem (ltb-false _ _ f)

  pub view : (lost : Bool) (name : ℕ)
      → View n count left counter lost (used_for lost (chosen n count left counter) name) (is_give (chosen n count left counter) && not lost)
  unfolding chosen
  view true name = rw (and-false (is_give (chosen n count left counter))) (is_lost_lem refl)
  view false name = free name _ _ _ refl refl refl

module _ {n count : ℕ} {left counter : List ℕ} {lost : Bool} where
  -- a row that gets the slot has work left
  pub fits : {u : Use} {on : Bool} → View n count left counter lost u on → (i : ℕ) → flag (is_row i u) ≤ at left i
  fits (is_lost_lem e) i = omega arith
  fits (is_given_lem e f) i = omega arith
  fits (is_hard_lem {j} e r) i =
      elim (ℕ_discrete (suc j) (suc i)) [
        | yes o ↦
            (let q : idle n left ≡ i = omega arith in
            rw (eq-eqb (suc j) (suc i) o) (rw q at (idle_works n left (omega arith))))
        | no o ↦ rw (ne_eqb (suc j) (suc i) o) (omega arith)
      ]
  fits (is_back e f) i = omega arith
  fits (is_empty_lem e) i = omega arith

  -- its place is that of the row
  pub places : {u : Use} {on : Bool} → View n count left counter lost u on → (i : ℕ) → i < 16 → eqb i (row_served u) ≡ is_row i u
  places (is_lost_lem e) i r = ne_eqb i 16 (λ z. omega arith)
  places (is_given_lem e f) i r = ne_eqb i 16 (λ z. omega arith)
  places (is_hard_lem {j} e p) i r =
      elim (ℕ_discrete i (suc j - 1)) [
        | yes o ↦ eq-eqb i (suc j - 1) o ∙ sym (eq-eqb (suc j) (suc i) (omega arith))
        | no o ↦ ne_eqb i (suc j - 1) o ∙ sym (ne_eqb (suc j) (suc i) (λ z. o (omega arith)))
      ]
  places (is_back e f) i r = ne_eqb i 16 (λ z. omega arith)
  places (is_empty_lem e) i r = ne_eqb i 16 (λ z. omega arith)

-- v is the work left after the use
module _ (n : ℕ) (left : List ℕ) (i : ℕ) (r : i < rows_of n) (v : ℕ → ℕ) where
  pub used_sum : (u : Use) → ((h : ℕ) → h < suc i → v h + flag (is_row h u) ≡ at left h)
      → backlog v i + sum (λ h. flag (is_row h u)) (suc i) ≡ backlog (at left) i
  used_sum u e = sym (sum_add v (λ h. flag (is_row h u)) (suc i)) ∙ sum_eq (λ h. v h + flag (is_row h u)) (at left) (suc i) e

  -- a slot that leaves work up to row i took one of it or of its counter, unless it was lost
  pub took : {count : ℕ} {counter : List ℕ} {lost : Bool} {u : Use} {on : Bool} → View n count left counter lost u on
      → (lost ≡ true → backlog (at left) i ≡ 0)
      → ((h : ℕ) → h < suc i → v h + flag (is_row h u) ≡ at left h)
      → 1 ≤ backlog v i → suc (backlog v i + (at counter i - flag on)) ≤ backlog (at left) i + at counter i
  took {u = u} (is_lost_lem e) f g b = absurd (omega (arith, used_sum u g, f e))
  took {counter = counter} {u = u} (is_given_lem e q) f g b = omega (arith, used_sum u g, none_zero_at n counter q i r)
  took {u = u} (is_hard_lem {j} e q) f g b =
      elim (dec_lt i j) [
        | yes a ↦ absurd (omega (arith, used_sum u g, low n left i (omega arith)))
        | no a ↦
            omega (
              arith,
              used_sum u g,
              term_le (λ h. flag (is_row h (Hard (suc j)))) (suc i) j (omega arith),
              ap flag (eq-eqb (suc j) (suc j) refl),
            )
      ]
  took {u = u} (is_back e q) f g b = absurd (omega (arith, used_sum u g, low n left i (omega arith)))
  took {u = u} (is_empty_lem q) f g b = absurd (omega (arith, used_sum u g, low n left i (omega arith)))
