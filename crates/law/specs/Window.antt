-- A busy window of the rows up to i: the slots since they last had no work left. Of a row h: C h is its cost, T h its period, m h how
-- often it was released in the window, a h its age (1 at the end of the slot of its last release), w h its work left.
use Rattle.std.specs.Prelude.{◌≡◌, ℕ, suc, ◌+◌, ◌*◌, ◌≤◌, ◌<◌}
use Rattle.law.specs.Sums.{sum}

-- a row's part in a slot up to the service. It rests: its age rises, or stays where it is T or more, and no work comes. Or it is
-- released, T slots after its last release at the earliest, and at most C comes.
pub data Turn (C T a w a' w' : ℕ) : Type 0 where
  rests : a' ≡ suc a → w' ≤ w → Turn C T a w a' w'
  stays : T ≤ a → a' ≡ a → w' ≤ w → Turn C T a w a' w'
  comes : T ≤ a → a' ≡ 1 → w' ≤ w + C → Turn C T a w a' w'

-- the turns of the first n rows
abbrev pub Turns : (C T : ℕ → ℕ) (n : ℕ) (a w a' w' : ℕ → ℕ) → Type 0
Turns C T n a w a' w' = (h : ℕ) → h < n → Turn (C h) (T h) (a h) (w h) (a' h) (w' h)

-- a row in a window of l slots: not released in it, and no work left; or released q + 1 times in it, the last time a slots ago
pub data Seen (T l m a w : ℕ) : Type 0 where
  never : m ≡ 0 → w ≡ 0 → Seen T l m a w
  last : (q : ℕ) → m ≡ suc q → q * T + a ≤ l → 1 ≤ a → Seen T l m a w

-- the work that came to the first n rows
abbrev pub came : (C m : ℕ → ℕ) (n : ℕ) → ℕ
came C m n = sum (λ h. C h * m h) n

-- a window of l slots, shorter than t, of the first n rows. Each of its slots served one of them or was charged to the counter, which
-- began at k or less and stands at c.
pub record Win (C T : ℕ → ℕ) (n k t l c : ℕ) (m a w : ℕ → ℕ) : Type 0 where
  pub short : l < t
  pub paid : l + sum w n + c ≤ k + came C m n
  pub seen : (h : ℕ) → h < n → Seen (T h) l (m h) (a h) (w h)
