-- One slot keeps a busy window shorter than t, a fixed point of the row's demand.
use mathlib.Core.Path.{◌≡◌}
use Prim.Native.Nat.{ℕ, suc, ◌+◌, ◌*◌, ◌≤◌, ◌<◌}
use native.Mathlib.Nat.{mul-le-mul_left}
use native.Mathlib.Decide.{dec_lt}
use native.Mathlib.Omega.{arith}
use Rattle.law.specs.Sums.{sum, ceil}
use Rattle.law.specs.Work.{W, Periods}
use Rattle.law.specs.Window.{Turn, rests, stays, comes, Turns, Seen, never, last, came, Win}
use Rattle.law.proofs.Sums.{ceil_le, lt_ceil, sum_le, sum_add}
use Rattle.law.proofs.Work.{W-mono}

-- the window's count of releases after a turn
bump : (C T a w a' w' : ℕ) → Turn C T a w a' w' → ℕ → ℕ
bump C T a w a' w' (rests p q) m = m
bump C T a w a' w' (stays o p q) m = m
bump C T a w a' w' (comes o p q) m = suc m

module _ (C T a w a' w' : ℕ) where
  seen_turn : (l m : ℕ) → Seen T l m a w → (x : Turn C T a w a' w') → Seen T (suc l) (bump C T a w a' w' x m) a' w'
  unfolding bump
  seen_turn l m (never z y) (rests p q) = never z (omega arith)
  seen_turn l m (never z y) (stays o p q) = never z (omega arith)
  seen_turn l m (never z y) (comes o p q) = last 0 (omega arith) (omega arith) (omega arith)
  seen_turn l m (last r z s y) (rests p q) = last r z (omega arith) (omega arith)
  seen_turn l m (last r z s y) (stays o p q) = last r z (omega arith) (omega arith)
  seen_turn l m (last r z s y) (comes o p q) = last (suc r) (omega arith) (omega arith) (omega arith)

  -- what a turn adds to the work left is the cost of what it counts
  turn_pays : (m : ℕ) (x : Turn C T a w a' w') → w' + C * m ≤ w + C * bump C T a w a' w' x m
  unfolding bump
  turn_pays m (rests p q) = omega arith
  turn_pays m (stays o p q) = omega arith
  turn_pays m (comes o p q) = omega arith

-- releases at least T apart: no more than the rounded quotient
seen_ceil : (T l m a w : ℕ) → 1 ≤ T → Seen T l m a w → m ≤ ceil l T
seen_ceil T l m a w p (never z y) = omega arith
seen_ceil T l m a w p (last r z s y) = omega (arith, lt_ceil l T r p (omega arith))

-- serving or dropping work changes nothing else
pub seen_less : (T l m a w v : ℕ) → v ≤ w → Seen T l m a w → Seen T l m a v
seen_less T l m a w v p (never z y) = never z (omega arith)
seen_less T l m a w v p (last r z s y) = last r z s y

-- a row with work left is no older than the window
pub seen_age : (T l m a w : ℕ) → 1 ≤ w → Seen T l m a w → a ≤ l
seen_age T l m a w p (never z y) = absurd (omega arith)
seen_age T l m a w p (last r z s y) = omega arith

-- the turns of all rows together
module _ (C T : ℕ → ℕ) (n : ℕ) (a w a' w' : ℕ → ℕ) (x : Turns C T n a w a' w') (m : ℕ → ℕ) where
  bump_at : (h : ℕ) → Dec (h < n) → ℕ
  bump_at h (yes r) = bump (C h) (T h) (a h) (w h) (a' h) (w' h) (x h r) (m h)
  bump_at h (no r) = m h

  pub bumps : ℕ → ℕ
  bumps h = bump_at h (dec_lt h n)

  seen_at : (l h : ℕ) → h < n → (d : Dec (h < n)) → Seen (T h) l (m h) (a h) (w h) → Seen (T h) (suc l) (bump_at h d) (a' h) (w' h)
  unfolding bump_at
  seen_at l h r (yes s) z = seen_turn (C h) (T h) (a h) (w h) (a' h) (w' h) l (m h) z (x h s)
  seen_at l h r (no s) z = absurd (s r)

  seen_turns : (l : ℕ) → ((h : ℕ) → h < n → Seen (T h) l (m h) (a h) (w h)) → (h : ℕ) → h < n → Seen (T h) (suc l) (bumps h) (a' h) (w' h)
  unfolding bumps
  seen_turns l z h r = seen_at l h r (dec_lt h n) (z h r)

  pays_at : (h : ℕ) → h < n → (d : Dec (h < n)) → w' h + C h * m h ≤ w h + C h * bump_at h d
  unfolding bump_at
  pays_at h r (yes s) = turn_pays (C h) (T h) (a h) (w h) (a' h) (w' h) (m h) (x h s)
  pays_at h r (no s) = absurd (s r)

  turns_pay : sum w' n + came C m n ≤ sum w n + came C bumps n
  unfolding bumps
  turns_pay =
      omega (
        arith,
        sum_add w' (λ h. C h * m h) n,
        sum_add w (λ h. C h * bumps h) n,
        sum_le (λ h. w' h + C h * m h) (λ h. w h + C h * bumps h) n (λ h r. pays_at h r (dec_lt h n)),
      )

module _ (C T : ℕ → ℕ) (i k t : ℕ) (periods : Periods T (suc i)) (gap : t ≤ T i) (fix : t ≡ C i + k + W C T i t) where
  -- what came in a window of at most t slots: one release of row i and the work of the rows before it, at the most
  came_le : (l : ℕ) (m a w : ℕ → ℕ) → l ≤ t → ((h : ℕ) → h < suc i → Seen (T h) l (m h) (a h) (w h))
      → came C m (suc i) ≤ C i + W C T i t
  unfolding sum
  came_le l m a w q s =
      let one : m i ≤ 1 =
      omega (
        arith,
        seen_ceil (T i) l (m i) (a i) (w i) (periods i (omega arith)) (s i (omega arith)),
        ceil_le l (T i) 1 (periods i (omega arith)) (omega arith),
      ) in
      let own : C i * m i ≤ C i * 1 = mul-le-mul_left (C i) one in
      let others : came C m i ≤ W C T i l =
      sum_le (λ h. C h * m h) (λ h. C h * ceil l (T h)) i
      (λ h r. mul-le-mul_left (C h) (seen_ceil (T h) l (m h) (a h) (w h) (periods h (omega arith)) (s h (omega arith)))) in
      omega (arith, W-mono C T i (λ h r. periods h (omega arith)) l t q)

  -- one slot: the turns leave the work w₁, and the slot takes one of it or of the counter
  pub win_slot : (l c c' : ℕ) (m a w a' w₁ w' : ℕ → ℕ)
      → Win C T (suc i) k t l c m a w
      → (x : Turns C T (suc i) a w a' w₁)
      → ((h : ℕ) → h < suc i → w' h ≤ w₁ h)
      → 1 ≤ sum w' (suc i) → suc (sum w' (suc i) + c') ≤ sum w₁ (suc i) + c
      → Win C T (suc i) k t (suc l) c' (bumps C T (suc i) a w a' w₁ x m) a' w'
  win_slot l c c' m a w a' w₁ w' v x less busy took =
      let m' : ℕ → ℕ = bumps C T (suc i) a w a' w₁ x m in
      let s : (h : ℕ) → h < suc i → Seen (T h) (suc l) (m' h) (a' h) (w' h) =
      λ h r. seen_less (T h) (suc l) (m' h) (a' h) (w₁ h) (w' h) (less h r) (seen_turns C T (suc i) a w a' w₁ x m l v.seen h r) in
      let paid : suc l + sum w' (suc i) + c' ≤ k + came C m' (suc i) =
      omega (arith, v.paid, turns_pay C T (suc i) a w a' w₁ x m) in
      record {
        short = omega (arith, came_le (suc l) m' a' w' v.short s);
        paid = paid;
        seen = s;
      }
