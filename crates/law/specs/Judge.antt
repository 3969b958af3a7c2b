-- One row and its history. Slots are counted from 0: slot x is the one before which x slots were run. rel x says that an instance of
-- the row is released in slot x, f x is 1 where the row gets slot x and 0 where not.
use Rattle.std.specs.Prelude.{◌≡◌, Bool, true, ◌&&◌, cond, ℕ, suc, ◌+◌, ◌-◌, ◌≤◌, ◌<◌, ltb, leb}
use Rattle.seq.specs.Places.{flag}
use Rattle.law.specs.Sums.{sum}

-- what the row got in the m slots from slot x on
abbrev pub got : (f : ℕ → ℕ) (x m : ℕ) → ℕ
got f x m = sum (λ y. f (x + y)) m

-- an instance was released in slot x, and got less than C in D slots
abbrev pub too_few : (C D : ℕ) (rel : ℕ → Bool) (f : ℕ → ℕ) (x : ℕ) → Bool
too_few C D rel f x = rel x && ltb (got f x D) C

-- slot L is the last of an instance that got too few
abbrev pub ends_late : (C D : ℕ) (rel : ℕ → Bool) (f : ℕ → ℕ) (L : ℕ) → Bool
ends_late C D rel f L = leb D (suc L) && too_few C D rel f (suc L - D)

-- the number of late instances of L slots: released in one of them, with the deadline at the end of one of them, and too few
abbrev pub late_count : (C D : ℕ) (rel : ℕ → Bool) (f : ℕ → ℕ) (L : ℕ) → ℕ
late_count C D rel f L = sum (λ x. flag (leb (x + D) L && too_few C D rel f x)) L

-- The same row as a state keeps it: w work left and v late instances.

-- after L slots an instance runs, released in slot x, and w of it is left; or none runs, and nothing is left
pub data Phase (C D : ℕ) (rel : ℕ → Bool) (f : ℕ → ℕ) (L w : ℕ) : Type 0 where
  runs : (x r : ℕ) → rel x ≡ true → x + r ≡ L → 1 ≤ r → r < D → w + got f x r ≡ C → Phase C D rel f L w
  none : ((x : ℕ) → x < L → L < x + D → rel x ≡ true → ⊥) → w ≡ 0 → Phase C D rel f L w

-- what links the state after L slots to the history
pub record Link (C D : ℕ) (rel : ℕ → Bool) (f : ℕ → ℕ) (L w v : ℕ) : Type 0 where
  pub phase : Phase C D rel f L w
  -- the late among those judged so far
  pub count : v ≡ sum (λ x. flag (too_few C D rel f x)) (suc L - D)
  -- no instance got more than it needs
  pub most : (x : ℕ) → rel x ≡ true → x + D ≤ L → got f x D ≤ C

-- the judgement at the end of slot L: u is left before it, w' after it. An instance whose last slot this is and which has work left is
-- late, and the work is dropped; else nothing changes.
pub data Judged (D : ℕ) (rel : ℕ → Bool) (L u v w' v' : ℕ) : Type 0 where
  late : (x : ℕ) → x + D ≡ suc L → rel x ≡ true → 1 ≤ u → w' ≡ 0 → v' ≡ suc v → Judged D rel L u v w' v'
  fine : ((x : ℕ) → x + D ≡ suc L → rel x ≡ true → u ≡ 0) → w' ≡ u → v' ≡ v → Judged D rel L u v w' v'

-- one slot of the row: release, use, judgement
pub record RowSlot (C D : ℕ) (rel : ℕ → Bool) (f : ℕ → ℕ) (L w v w' v' : ℕ) : Type 0 where
  pub used : ℕ
  pub use_eq : used + f L ≡ cond (rel L) C w
  pub judged : Judged D rel L used v w' v'

-- L slots of the row from nothing: w x is left and v x were late before slot x, u x is left before its judgement
pub record RowRun (C D : ℕ) (rel : ℕ → Bool) (f : ℕ → ℕ) (L : ℕ) (w u v : ℕ → ℕ) : Type 0 where
  pub nothing : w 0 ≡ 0
  pub none_late : v 0 ≡ 0
  pub uses : (x : ℕ) → x < L → u x + f x ≡ cond (rel x) C (w x)
  pub judges : (x : ℕ) → x < L → Judged D rel x (u x) (v x) (w (suc x)) (v (suc x))
