-- Words of bits, bit 0 for the first.
use Rattle.std.specs.Prelude.{ℕ, ◌+◌, ◌-◌, ◌*◌, ◌/◌, ◌%◌, ◌^◌, List, [], ◌∷◌, Bool, eqb}
use Rattle.std.specs.Int.Count.{count_leading_zeros}
use Rattle.seq.specs.Places.{flag}

-- the word whose bits are the flags
unfoldable pub word : List Bool → ℕ
word [] = 0
word (b ∷ l) = flag b + 2 * word l

-- how many flags are set
unfoldable pub trues : List Bool → ℕ
trues [] = 0
trues (b ∷ l) = flag b + trues l

-- bit i of w
unfoldable pub bit : ℕ → ℕ → Bool
bit w i = eqb (w / 2 ^ i % 2) 1

-- how many low bits a word of 16 needs
abbrev pub top_of : ℕ → ℕ
top_of w = 16 - count_leading_zeros 16 w
