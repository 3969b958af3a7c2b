-- The rows up to i through one slot, and through a run of slots, as the row law sees them. The counter is whatever row i sees: its
-- own, or one that all rows share.
use Rattle.std.specs.Prelude.{◌≡◌, Bool, cond, ℕ, suc, ◌+◌, ◌≤◌, ◌<◌}
use Rattle.law.specs.Sums.{sum}
use Rattle.law.specs.Age.{Apart}
use Rattle.law.specs.Window.{Turns, Win}

-- the work left of the rows up to i
abbrev pub backlog : (w : ℕ → ℕ) (i : ℕ) → ℕ
backlog w i = sum w (suc i)

-- one slot, up to the judgement: ages a, work left w and counter c before it, a' w' c' after it
pub record Slot (C T : ℕ → ℕ) (i k : ℕ) (a w : ℕ → ℕ) (c : ℕ) (a' w' : ℕ → ℕ) (c' : ℕ) : Type 0 where
  -- the work left after the release, the counter after the reload
  pub mid : ℕ → ℕ
  pub start : ℕ
  pub turns : Turns C T (suc i) a w a' mid
  -- the slot adds no work
  pub less : (h : ℕ) → h < suc i → w' h ≤ mid h
  -- the reload: k at most where none of the rows had work left, nothing where one had
  pub anew : backlog w i ≡ 0 → start ≤ k
  pub goes_on : 1 ≤ backlog w i → start ≤ c
  -- the use: while work is left the slot served one of the rows or was charged to the counter
  pub took : 1 ≤ backlog w' i → suc (backlog w' i + c') ≤ backlog mid i + start

-- the rows up to i are in a window
pub record Busy (C T : ℕ → ℕ) (i k t : ℕ) (a w : ℕ → ℕ) (c : ℕ) : Type 0 where
  pub l : ℕ
  pub m : ℕ → ℕ
  pub win : Win C T (suc i) k t l c m a w

-- what each slot keeps: where they have work left they are in a window shorter than t
abbrev pub Inv : (C T : ℕ → ℕ) (i k t : ℕ) (a w : ℕ → ℕ) (c : ℕ) → Type 0
Inv C T i k t a w c = 1 ≤ backlog w i → Busy C T i k t a w c

-- L slots from a state with no work left. rel h x says that row h is released in slot x (slots are counted from 0). At slot x: w x is
-- the work left and c x the counter before it, s x the counter after the reload, m x the work left after the release, u x after the use.
pub record Run (C T : ℕ → ℕ) (i k L : ℕ) (rel : ℕ → ℕ → Bool) (w m u : ℕ → ℕ → ℕ) (c s : ℕ → ℕ) : Type 0 where
  pub nothing : (h : ℕ) → h < suc i → w 0 h ≡ 0
  -- releases are at least a period apart, and each brings C at most
  pub apart : (h : ℕ) → h < suc i → Apart (rel h) (T h)
  pub comes : (x h : ℕ) → x < L → h < suc i → m x h ≤ cond (rel h x) (w x h + C h) (w x h)
  -- neither the use nor the judgement adds work
  pub less : (x h : ℕ) → x < L → h < suc i → u x h ≤ m x h
  pub drops : (x h : ℕ) → x < L → h < suc i → w (suc x) h ≤ u x h
  -- reload and use, as in Slot
  pub anew : (x : ℕ) → x < L → backlog (w x) i ≡ 0 → s x ≤ k
  pub goes_on : (x : ℕ) → x < L → 1 ≤ backlog (w x) i → s x ≤ c x
  pub took : (x : ℕ) → x < L → 1 ≤ backlog (u x) i → suc (backlog (u x) i + c (suc x)) ≤ backlog (m x) i + s x
