-- The test and the allowance of one row. Rows are numbered from 0 here, in priority order: C h is what row h needs, T h its period.
-- D is the deadline of the row i in question.
use Rattle.std.specs.Prelude.{◌≡◌, Bool, not, cond, ℕ, zero, suc, ◌+◌, ◌*◌, ◌≤◌, ◌<◌, eqb, leb}
use Rattle.seq.specs.Places.{lead}
use Rattle.law.specs.Sums.{sum, ceil}

-- the work of the rows before i in t slots, if all are released at their start and then as often as they may
abbrev pub W : (C T : ℕ → ℕ) (i t : ℕ) → ℕ
W C T i t = sum (λ h. C h * ceil t (T h)) i

-- each of the first n rows has a period
abbrev pub Periods : (T : ℕ → ℕ) (n : ℕ) → Type 0
Periods T n = (h : ℕ) → h < n → 1 ≤ T h

-- t slots are just what row i needs beside k others and the rows before it
abbrev pub settles : (C T : ℕ → ℕ) (i k t : ℕ) → Bool
settles C T i k t = eqb t (C i + k + W C T i t)

-- the least t ≥ 1 that settles, sought up to D; D + 1 if there is none
unfoldable pub least : (C T : ℕ → ℕ) (i D k : ℕ) → ℕ
least C T i D k = suc (lead D (λ x. not (settles C T i k (suc x))))

-- row i holds k: that t exists and is at most D
unfoldable pub holds : (C T : ℕ → ℕ) (i D k : ℕ) → Bool
holds C T i D k = leb (least C T i D k) D

-- the same as a fact: some t from 1 to D settles
pub record Held (C T : ℕ → ℕ) (i D k : ℕ) : Type 0 where
  pub t : ℕ
  pub pos : 1 ≤ t
  pub due : t ≤ D
  pub fix : t ≡ C i + k + W C T i t

-- the largest of 0 .. n that has p; 0 if none has
unfoldable pub largest : (p : ℕ → Bool) (n : ℕ) → ℕ
largest p zero = 0
largest p (suc n) = cond (p (suc n)) (suc n) (largest p n)

-- the largest number that row i holds (none above D is held); 0 if it holds none
abbrev pub allowance : (C T : ℕ → ℕ) (i D : ℕ) → ℕ
allowance C T i D = largest (λ k. holds C T i D k) D
