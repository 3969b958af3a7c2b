-- What is proved of rows and allowances, for all numbers and for any engine. Each statement is a type; proofs/Laws.antt gives a proof of
-- each, under the same name in small letters. The notions stand in the files beside this one: Work (the test and the allowance),
-- Level (the rows up to i through a run), Judge (a row and its history), Forced (runs that give away too much).
-- Rows and slots are counted from 0. Nothing is asked of the order of the periods.
use Rattle.std.specs.Prelude.{◌≡◌, ◌↔◌, ◌⊎◌, Bool, true, ℕ, suc, ◌+◌, ◌%◌, ◌≤◌, ◌<◌}
use Rattle.law.specs.Work.{W, Periods, least, holds, Held, allowance}
use Rattle.law.specs.Age.{Apart}
use Rattle.law.specs.Level.{Slot, Inv, Run}
use Rattle.law.specs.Judge.{got, late_count, RowRun}
use Rattle.law.specs.Forced.{LateAt, ForcedRun}

-- The test.

-- Where row i holds k the search gives a t that settles, within the deadline, and no smaller t ≥ 1 settles. Where it does not, none
-- does up to D.
abbrev pub LeastSettles : Type 0
LeastSettles =
    (C T : ℕ → ℕ) (i D k : ℕ) → holds C T i D k ≡ true
    → (1 ≤ least C T i D k)
    × (least C T i D k ≤ D)
    × (least C T i D k ≡ C i + k + W C T i (least C T i D k))
    × ((t : ℕ) → 1 ≤ t → t ≡ C i + k + W C T i t → least C T i D k ≤ t)

abbrev pub HoldsIsHeld : Type 0
HoldsIsHeld = (C T : ℕ → ℕ) (i D k : ℕ) → (holds C T i D k ≡ true) ↔ Held C T i D k

-- A row that needs a slot holds k exactly where some t up to the deadline has room for it: it need not settle. (With C = 0 only t = 0
-- would settle for k = 0. A quotient by a period of 0 means nothing.)
abbrev pub HoldsRoom : Type 0
HoldsRoom =
    (C T : ℕ → ℕ) (i D : ℕ) → 1 ≤ C i → Periods T i
    → (k : ℕ) → (holds C T i D k ≡ true) ↔ ((t : ℕ) × (t ≤ D) × (C i + k + W C T i t ≤ t))

-- What holds k holds all below k.
abbrev pub HoldsDown : Type 0
HoldsDown =
    (C T : ℕ → ℕ) (i D : ℕ) → 1 ≤ C i → Periods T i
    → (k j : ℕ) → j ≤ k → holds C T i D k ≡ true → holds C T i D j ≡ true

-- The allowance.

-- It is held, where 0 is, and nothing larger is held.
abbrev pub AllowanceLargest : Type 0
AllowanceLargest =
    (C T : ℕ → ℕ) (i D : ℕ) → holds C T i D 0 ≡ true
    → (holds C T i D (allowance C T i D) ≡ true) × ((k : ℕ) → holds C T i D k ≡ true → k ≤ allowance C T i D)

-- It is the maximum over t from 1 to D of t less C less the work of the earlier rows: some t reaches it, none passes it.
abbrev pub AllowanceBest : Type 0
AllowanceBest =
    (C T : ℕ → ℕ) (i D : ℕ) → 1 ≤ C i → Periods T i → holds C T i D 0 ≡ true
    → ((t : ℕ) × (1 ≤ t) × (t ≤ D) × (t ≡ C i + allowance C T i D + W C T i t))
    × ((t : ℕ) → t ≤ D → t ≤ C i + allowance C T i D + W C T i t)

-- The work of the earlier rows rises from t to t + 1 only where t is a multiple of an earlier period.
abbrev pub WorkRises : Type 0
WorkRises =
    (C T : ℕ → ℕ) (i : ℕ) → Periods T i
    → (t : ℕ) → W C T i t < W C T i (suc t) → (h : ℕ) × (h < i) × (t % T h ≡ 0)

-- So it is enough to look at the deadline and at the multiples of the earlier periods that do not pass it.
abbrev pub CornersDo : Type 0
CornersDo =
    (C T : ℕ → ℕ) (i D : ℕ) → Periods T i
    → (k t : ℕ) → t ≤ D → C i + k + W C T i t ≤ t
    → (x : ℕ) × (t ≤ x) × (x ≤ D) × (C i + k + W C T i x ≤ x) × ((x ≡ D) ⊎ ((h : ℕ) × (h < i) × (x % T h ≡ 0)))

-- The row law. Row i holds k, and its deadline is within its period. The counter that it sees is set to k at most, and only where no
-- row up to i has work left. Releases of a row are at least its period apart. Each slot in which work of these rows remains served one
-- of them or was charged to the counter. Work may be dropped. Then no instance of row i has work left when it is judged. Of the other
-- rows nothing is asked: they may be late, and they need not hold anything.

-- an instance is judged before the next of its row can come, so that one at most counts in a window
abbrev pub WithinPeriod : (T : ℕ → ℕ) (i D : ℕ) → Type 0
WithinPeriod T i D = D ≤ T i

-- One slot: what it keeps (Inv, for the t at which row i settles), and what that gives.
pub record StepLaws (C T : ℕ → ℕ) (i D k t : ℕ) : Type 0 where
  pub rest : (a w : ℕ → ℕ) (c : ℕ) → ((h : ℕ) → h < suc i → w h ≡ 0) → Inv C T i k t a w c
  pub keep : (a w : ℕ → ℕ) (c : ℕ) (a' w' : ℕ → ℕ) (c' : ℕ)
      → Slot C T i k a w c a' w' c' → Inv C T i k t a w c → Inv C T i k t a' w' c'
  pub drops : (a w : ℕ → ℕ) (c : ℕ) (w' : ℕ → ℕ) → ((h : ℕ) → h < suc i → w' h ≤ w h) → Inv C T i k t a w c → Inv C T i k t a w' c
  pub on_time : (a w : ℕ → ℕ) (c : ℕ) → Inv C T i k t a w c → 1 ≤ w i → a i < D

abbrev pub RowStep : Type 0
RowStep =
    (C T : ℕ → ℕ) (i D k : ℕ) → Periods T (suc i) → WithinPeriod T i D
    → (held : Held C T i D k) → StepLaws C T i D k held.t

-- A run of L slots: the instance released in slot y is judged at the end of slot x = y + D - 1.
abbrev pub RowLaw : Type 0
RowLaw =
    (C T : ℕ → ℕ) (i D k : ℕ) → Periods T (suc i) → WithinPeriod T i D → holds C T i D k ≡ true
    → (L : ℕ) (rel : ℕ → ℕ → Bool) (w m u : ℕ → ℕ → ℕ) (c s : ℕ → ℕ) → Run C T i k L rel w m u c s
    → (x y : ℕ) → x < L → rel i y ≡ true → y + D ≡ suc x → u x i ≡ 0

-- So, where row i's own slots are told by f and v counts its late instances, none is late and each got exactly what it needs by its
-- deadline.
abbrev pub RowPromise : Type 0
RowPromise =
    (C T : ℕ → ℕ) (i D k : ℕ) → Periods T (suc i) → WithinPeriod T i D → holds C T i D k ≡ true
    → (L : ℕ) (rel : ℕ → ℕ → Bool) (w m u : ℕ → ℕ → ℕ) (c s : ℕ → ℕ) → Run C T i k L rel w m u c s
    → (f v : ℕ → ℕ) → RowRun (C i) D (rel i) f L (λ x. w x i) (λ x. u x i) v
    → (v L ≡ 0) × ((y : ℕ) → rel i y ≡ true → y + D ≤ L → got f y D ≡ C i)

-- Late counts. Releases of the row are at least D apart. Then the count that each slot's judgement keeps is the number of instances
-- that the history shows to have got too few by their deadline, whatever the slots were used for.
abbrev pub LateCounts : Type 0
LateCounts =
    (C D : ℕ) (rel : ℕ → Bool) (f : ℕ → ℕ) → 1 ≤ D → Apart rel D
    → (L : ℕ) (w u v : ℕ → ℕ) → RowRun C D rel f L w u v
    → v L ≡ late_count C D rel f L

-- The allowance is not too small: where more than it is given away at the start, a row up to i is late by row i's first deadline, and
-- here is the row and the slot. (It need not be row i: another's work may have been dropped.)
abbrev pub Tight : Type 0
Tight =
    (C T D : ℕ → ℕ) (i g : ℕ) → 1 ≤ C i
    → ((h : ℕ) → h < suc i → 1 ≤ D h) → ((h : ℕ) → h < suc i → WithinPeriod T h (D h))
    → allowance C T i (D i) < g
    → (w u : ℕ → ℕ → ℕ) → ForcedRun C T D i g (D i) w u
    → (x : ℕ) × (h : ℕ) × (x < D i) × (h < suc i) × LateAt T D (u x) x h
