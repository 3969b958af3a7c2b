-- Late work is dropped as if none were released.
use Rattle.std.proofs.Common.{◌≡◌, ℕ, List, replicate}
use Rattle.seq.proofs.Places.{over_alike, at_zeros}
use Rattle.rows.specs.Rows.{released}
use Rattle.late.specs.Late.{dropped}

pub dropped_released : (w : ℕ) (left : List ℕ) → released w (replicate 16 0) left ≡ dropped w left
unfolding released dropped
dropped_released w left = over_alike 0 16 _ _ left (λ i h. rw (at_zeros 16 i))
