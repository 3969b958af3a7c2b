-- Runs that show the allowance is not too small: all rows are released in slot 0 and then periodically, the first g slots are given
-- away, and then the first row with work left is served. Only the rows up to i matter.
use Rattle.std.specs.Prelude.{◌≡◌, cond, ℕ, suc, ◌%◌, ◌≤◌, ◌<◌}
use Rattle.law.specs.Age.{released}
use Rattle.law.specs.Level.{backlog}

-- slot l: w is the work left before it, u after its use
pub record Forced (C T : ℕ → ℕ) (i g l : ℕ) (w u : ℕ → ℕ) : Type 0 where
  -- after the release
  pub mid : ℕ → ℕ
  pub comes : (h : ℕ) → h < suc i → mid h ≡ cond (released (T h) l) (C h) (w h)
  pub less : (h : ℕ) → h < suc i → u h ≤ mid h
  pub gives : l < g → (h : ℕ) → h < suc i → u h ≡ mid h
  -- while row i has work left one of these rows is served, and row i ends only where none of them has work left
  pub takes : g ≤ l → 1 ≤ mid i → suc (backlog u i) ≡ backlog mid i
  pub first : g ≤ l → 1 ≤ mid i → u i ≡ 0 → backlog u i ≡ 0

-- row h is judged in slot l, and has work left
abbrev pub LateAt : (T D u : ℕ → ℕ) (l h : ℕ) → Type 0
LateAt T D u l h = (suc (l % T h) ≡ D h) × (1 ≤ u h)

-- L such slots from a state with no work left; a row that is not late keeps its work
pub record ForcedRun (C T D : ℕ → ℕ) (i g L : ℕ) (w u : ℕ → ℕ → ℕ) : Type 0 where
  pub nothing : (h : ℕ) → h < suc i → w 0 h ≡ 0
  pub slots : (x : ℕ) → x < L → Forced C T i g x (w x) (u x)
  pub keeps : (x h : ℕ) → x < L → h < suc i → (LateAt T D (u x) x h → ⊥) → w (suc x) h ≡ u x h
