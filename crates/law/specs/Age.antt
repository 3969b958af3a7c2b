-- The releases of a row and its age: how many slots ago it was last released, 1 at the end of the slot of its release. rel x says that
-- it is released in slot x; slots are counted from 0.
use Rattle.std.specs.Prelude.{◌≡◌, Bool, true, cond, ℕ, zero, suc, ◌+◌, ◌%◌, ◌≤◌, ◌<◌, eqb}

-- releases are at least T apart
abbrev pub Apart : (rel : ℕ → Bool) (T : ℕ) → Type 0
Apart rel T = (x y : ℕ) → rel x ≡ true → rel y ≡ true → x < y → x + T ≤ y

-- the periodic pattern: each slot before which a multiple of T slots were run
abbrev pub released : (T x : ℕ) → Bool
released T x = eqb (x % T) 0

-- its age after l slots of that pattern; T before the first
unfoldable pub age : (l T : ℕ) → ℕ
age zero T = T
age (suc l) T = suc (l % T)

-- a number that tells the age for any pattern: 0 before the first release, set to 1 by a release, raised by one in each later slot
abbrev pub number_next : (comes : Bool) (n : ℕ) → ℕ
number_next comes n = cond comes 1 (cond (eqb n 0) 0 (suc n))

-- that number after l slots, and the age by it
unfoldable pub number : (rel : ℕ → Bool) (l : ℕ) → ℕ
number rel zero = 0
number rel (suc l) = number_next (rel l) (number rel l)

abbrev pub age_of : (T n : ℕ) → ℕ
age_of T n = cond (eqb n 0) T n
