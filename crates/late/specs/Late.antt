-- Late rows, those with their bit in a late word: their work is dropped, and their late count rises.
use Rattle.std.specs.Prelude.{ℕ, zero, suc, ◌+◌, ◌%◌, ◌^◌, Bool, cond, List}
use Rattle.seq.specs.Places.{flag, at, over}
use Rattle.seq.specs.Words.{bit}

unfoldable pub dropped : ℕ → List ℕ → List ℕ
dropped w left = over 16 (λ i x. cond (bit w i) 0 x) left

unfoldable pub counted : ℕ → List ℕ → List ℕ
counted w late = over 16 (λ i x. x + flag (bit w i)) late

-- the same in 64 bits
abbrev pub up : Bool → ℕ → ℕ
up on x = cond on ((x + 1) % 2 ^ 64) x

unfoldable pub raised : ℕ → List ℕ → List ℕ
raised w late = over 16 (λ i x. up (bit w i) x) late

-- the sum of the first n
unfoldable pub total : ℕ → List ℕ → ℕ
total zero l = 0
total (suc n) l = total n l + at l n
