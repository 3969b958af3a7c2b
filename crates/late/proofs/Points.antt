-- The figures of row i after each step.
use Rattle.std.proofs.Common.{◌≡◌, ℕ, ◌+◌, ◌<◌, cond, List, length}
use Rattle.seq.specs.Places.{flag, at}
use Rattle.seq.specs.Words.{bit}
use Rattle.seq.proofs.Places.{over_in}
use Rattle.late.specs.Late.{dropped, counted}

module _ (i : ℕ) (h : i < 16) where
  pub dropped_at : (w : ℕ) (left : List ℕ) → i < length left → at (dropped w left) i ≡ cond (bit w i) 0 (at left i)
  unfolding dropped
  dropped_at w left g = over_in 0 16 _ left i h g

  pub counted_at : (w : ℕ) (late : List ℕ) → i < length late → at (counted w late) i ≡ at late i + flag (bit w i)
  unfolding counted
  counted_at w late g = over_in 0 16 _ late i h g
