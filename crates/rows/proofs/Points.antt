-- The figures of row i after each step.
use mathlib.Core.Path.{◌≡◌, refl}
use mathlib.Core.List.{List}
use mathlib.Core.Bool.{Bool, true, false, cond}
use Prim.Native.Nat.{ℕ, ◌-◌, ◌<◌}
use lib.ListN.{length}
use lib.Dec.{eqb, ltb}
use borrow.Author.Tests.{ltb-true, ltb-false}
use Rattle.seq.specs.Places.{flag, at, over}
use Rattle.seq.proofs.Places.{over_in, over_out, every_at, every_not}
use Rattle.rows.specs.Rows.{rows_of, idle, reloaded, none_zero, charged, worked}

module _ (i : ℕ) where
  pub reloaded_at : (n : ℕ) (left k counter : List ℕ) → i < length counter → at (reloaded n left k counter) i ≡ cond (ltb i (idle n left)) (at k i) (at counter i)
  unfolding reloaded
  reloaded_at n left k counter g = split (ltb i (idle n left)) refl
    where
      split : (b : Bool) → ltb i (idle n left) ≡ b → at (over (idle n left) (λ i x. at k i) counter) i ≡ cond b (at k i) (at counter i)
      split true e = over_in 0 (idle n left) _ counter i (ltb-true _ _ e) g
      split false e = over_out 0 (idle n left) _ counter i (ltb-false _ _ e)

  pub charged_at : (n : ℕ) → i < rows_of n → (on : Bool) (counter : List ℕ) → i < length counter → at (charged n on counter) i ≡ at counter i - flag on
  unfolding charged
  charged_at n h on counter g = over_in 0 (rows_of n) _ counter i h g

  module _ (h : i < 16) where
    pub worked_at : (row : ℕ) (left : List ℕ) → i < length left → at (worked row left) i ≡ at left i - flag (eqb i row)
    unfolding worked
    worked_at row left g = over_in 0 16 _ left i h g

-- no counter is 0, or one is
pub none_zero_at : (n : ℕ) (counter : List ℕ) → none_zero n counter ≡ true → (i : ℕ) → i < rows_of n → 0 < at counter i
unfolding none_zero
none_zero_at n counter e i h = ltb-true 0 _ (every_at (rows_of n) (λ i. ltb 0 (at counter i)) e i h)

pub none_zero_not : (n : ℕ) (counter : List ℕ) (i : ℕ) → i < rows_of n → at counter i ≡ 0 → none_zero n counter ≡ false
unfolding none_zero
none_zero_not n counter i h e = every_not (rows_of n) (λ i. ltb 0 (at counter i)) i h (rw e)
