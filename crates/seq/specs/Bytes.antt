-- Numbers of two bytes, the high byte first.
use Rattle.std.specs.Prelude.{ℕ, ◌+◌, ◌*◌, ◌/◌, ◌%◌, ◌<◌, List, [], ◌∷◌, length}
use Rattle.seq.specs.Places.{at}

-- the number whose bytes stand at place p and behind it
abbrev pub big_at : List ℕ → ℕ → ℕ
big_at l p = at l p * 256 + at l (p + 1)

-- its bytes
abbrev pub big_bytes : ℕ → List ℕ
big_bytes x = x / 256 ∷ x % 256 ∷ []

-- each element is a byte
abbrev pub Bytes : List ℕ → Type 0
Bytes l = (i : ℕ) → i < length l → at l i < 256
