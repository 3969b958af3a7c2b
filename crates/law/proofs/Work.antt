-- Laws of the work of the earlier rows and of the numbers that a row holds.
use mathlib.Core.Path.{◌≡◌, refl}
use mathlib.Core.Logic.{◌↔◌, ◌⊎◌, inl, inr}
use mathlib.Core.Bool.{Bool, true, false, not, cond}
use Prim.Native.Nat.{ℕ, zero, suc, ◌+◌, ◌*◌, ◌-◌, ◌%◌, ◌≤◌, ◌<◌}
use native.Mathlib.Nat.{mul-le-mul_left}
use native.Mathlib.Decide.{dec_le, dec_lt, ℕ_discrete}
use native.Mathlib.Omega.{arith}
use borrow.Author.Tests.{eq-eqb, eqb-true, leb-true, leb-false}
use Rattle.seq.specs.Places.{lead}
use Rattle.seq.proofs.Places.{lead_miss, lead_hit}
use Rattle.law.specs.Sums.{sum, ceil}
use Rattle.law.specs.Work.{W, Periods, settles, least, holds, Held, largest, allowance}
use Rattle.law.proofs.Sums.{ceil_mono, ceil_rest, sum_le}

pub W-mono : (C T : ℕ → ℕ) (i : ℕ) → Periods T i → (t u : ℕ) → t ≤ u → W C T i t ≤ W C T i u
W-mono C T i p t u q =
    sum_le (λ h. C h * ceil t (T h)) (λ h. C h * ceil u (T h)) i
    (λ h r. mul-le-mul_left (C h) (ceil_mono t u (T h) (p h r) q))

-- from t to t + 1 it rises only where t is a multiple of an earlier period
pub W-rise : (C T : ℕ → ℕ) (i : ℕ) → Periods T i → (t : ℕ) → W C T i t < W C T i (suc t) → (h : ℕ) × (h < i) × (t % T h ≡ 0)
unfolding sum
W-rise C T zero p t q = absurd (omega arith)
W-rise C T (suc i) p t q =
    elim (ℕ_discrete (t % T i) 0) [
      | yes e ↦ (i, omega arith, e)
      | no e ↦
          (let a : C i * ceil (suc t) (T i) ≡ C i * ceil t (T i) = rw (ceil_rest t (T i) (p i (omega arith)) e) in
          let y = W-rise C T i (λ h r. p h (omega arith)) t (omega arith) in
          (y.0, omega (arith, y.1), y.2))
    ]

-- a monotone function that does not rise above t has a fixed point at or below t
pub record Fixed (g : ℕ → ℕ) (t : ℕ) : Type 0 where
  pub point : ℕ
  pub below : point ≤ t
  pub fix : point ≡ g point

pub fixed : (g : ℕ → ℕ) → ((t u : ℕ) → t ≤ u → g t ≤ g u) → (n t : ℕ) → t ≤ n → g t ≤ t → Fixed g t
fixed g mono zero t q r = record { point = t; below = omega arith; fix = omega arith }
fixed g mono (suc n) t q r =
    elim (dec_lt (g t) t) [
      | yes s ↦
          (let x = fixed g mono n (g t) (omega arith) (mono (g t) t r) in
          record { point = x.point; below = omega (arith, x.below); fix = x.fix })
      | no s ↦ record { point = t; below = omega arith; fix = omega arith }
    ]

module _ (C T : ℕ → ℕ) (i D : ℕ) (one : 1 ≤ C i) (p : Periods T i) where
  -- some t up to the deadline with room for k is enough
  pub room_held : (k t : ℕ) → t ≤ D → C i + k + W C T i t ≤ t → Held C T i D k
  room_held k t q r =
      let g : ℕ → ℕ = λ u. C i + k + W C T i u in
      let x : Fixed g t = fixed g (λ u v s. omega (arith, W-mono C T i p u v s)) t t (omega arith) r in
      record { t = x.point; pos = omega (arith, x.fix); due = omega (arith, x.below); fix = x.fix }

  pub held_down : (k j : ℕ) → j ≤ k → Held C T i D k → Held C T i D j
  held_down k j q x = room_held j x.t x.due (omega (arith, x.fix))

-- the search for the least t
module _ (C T : ℕ → ℕ) (i D k : ℕ) where
  abbrev misses : ℕ → Bool
  misses x = not (settles C T i k (suc x))

  -- where it ends within D it has found one
  pub least_is : least C T i D k ≤ D → least C T i D k ≡ C i + k + W C T i (least C T i D k)
  unfolding least
  least_is q = go (settles C T i k (suc (lead D misses))) refl
    where
      go : (b : Bool) → settles C T i k (suc (lead D misses)) ≡ b
          → suc (lead D misses) ≡ C i + k + W C T i (suc (lead D misses))
      go true e = eqb-true _ _ e
      go false e = absurd (omega (arith, lead_miss D misses (lead D misses) (omega arith) (rw e) (omega arith)))

  -- and the first
  pub least_first : (t : ℕ) → 1 ≤ t → t ≤ D → t ≡ C i + k + W C T i t → least C T i D k ≤ t
  unfolding least
  least_first zero pos due fix = absurd (omega arith)
  least_first (suc x) pos due fix =
      elim (dec_le x (lead D misses)) [
        | yes q ↦ omega (arith, lead_hit D misses x due (rw (eq-eqb (suc x) (C i + k + W C T i (suc x)) fix)) q)
        | no q ↦ omega arith
      ]

  pub least_pos : 1 ≤ least C T i D k
  unfolding least
  least_pos = omega arith

  pub least_due : holds C T i D k ≡ true → least C T i D k ≤ D
  unfolding holds
  least_due e = omega (arith, leb-true)

  pub holds_held : holds C T i D k ≡ true → Held C T i D k
  holds_held e = record { t = least C T i D k; pos = least_pos; due = least_due e; fix = least_is (least_due e) }

  pub held_holds : Held C T i D k → holds C T i D k ≡ true
  unfolding holds
  held_holds x = go (holds C T i D k) refl
    where
      go : (b : Bool) → holds C T i D k ≡ b → b ≡ true
      go true e = refl
      go false e = absurd (omega (arith, leb-false, least_first x.t x.pos x.due x.fix, x.due))

  pub held_iff : (holds C T i D k ≡ true) ↔ Held C T i D k
  held_iff = (holds_held, held_holds)

-- of 0 .. n none that has p is larger than the largest
pub largest_above : (p : ℕ → Bool) (n j : ℕ) → j ≤ n → p j ≡ true → j ≤ largest p n
unfolding largest
largest_above p zero j q e = omega arith
largest_above p (suc n) j q e =
    elim (ℕ_discrete j (suc n)) [
      | yes z ↦ (let f : p (suc n) ≡ true = rw z at e in rw f (omega arith))
      | no z ↦ go (p (suc n)) (largest_above p n j (omega arith) e)
    ]
  where
    go : (b : Bool) {x : ℕ} → j ≤ x → j ≤ cond b (suc n) x
    go true h = omega arith
    go false h = h

-- it is 0 or has p
pub largest_is : (p : ℕ → Bool) (n : ℕ) → (largest p n ≡ 0) ⊎ (p (largest p n) ≡ true)
unfolding largest
largest_is p zero = inl refl
largest_is p (suc n) = go (p (suc n)) refl (largest_is p n)
  where
    go : (b : Bool) {x : ℕ} → p (suc n) ≡ b → (x ≡ 0) ⊎ (p x ≡ true) → (cond b (suc n) x ≡ 0) ⊎ (p (cond b (suc n) x) ≡ true)
    go true e h = inr e
    go false e h = h

-- what is held is at most the allowance, and the allowance is held where 0 is
module _ (C T : ℕ → ℕ) (i D : ℕ) where
  pub held_small : (k : ℕ) → Held C T i D k → C i + k ≤ D
  held_small k x = omega (arith, x.fix, x.due)

  pub allowance_most : (k : ℕ) → holds C T i D k ≡ true → k ≤ allowance C T i D
  allowance_most k e = largest_above (λ k. holds C T i D k) D k (omega (arith, held_small k (holds_held C T i D k e))) e

  pub allowance_is : (allowance C T i D ≡ 0) ⊎ (holds C T i D (allowance C T i D) ≡ true)
  allowance_is = largest_is (λ k. holds C T i D k) D

  pub allowance_holds : holds C T i D 0 ≡ true → holds C T i D (allowance C T i D) ≡ true
  allowance_holds e = elim allowance_is [ inl z ↦ rw z e | inr h ↦ h ]

  pub allowance_small : C i ≤ D → C i + allowance C T i D ≤ D
  allowance_small q =
      elim allowance_is [ inl z ↦ omega arith | inr e ↦ held_small (allowance C T i D) (holds_held C T i D (allowance C T i D) e) ]

-- the first row's: nothing is before it
pub allowance_first : (C T : ℕ → ℕ) (D : ℕ) → 1 ≤ C 0 → C 0 ≤ D → C 0 + allowance C T 0 D ≡ D
unfolding sum
allowance_first C T D one q =
    let k : ℕ = D - C 0 in
    let x : Held C T 0 D k = record { t = D; pos = omega arith; due = omega arith; fix = omega arith } in
    omega (arith, allowance_most C T 0 D k (held_holds C T 0 D k x), allowance_small C T 0 D q)
