-- Each statement of specs/Laws.antt holds. Assumes nothing.
use mathlib.Core.Path.{◌≡◌}
use mathlib.Core.Logic.{◌⊎◌, inl, inr}
use mathlib.Core.Bool.{Bool, true}
use Prim.Native.Nat.{ℕ, zero, suc, ◌+◌, ◌-◌, ◌%◌, ◌≤◌, ◌<◌}
use native.Mathlib.Decide.{dec_le, dec_lt}
use native.Mathlib.Omega.{arith}
use Rattle.law.specs.Work.{W, Periods, allowance}
use Rattle.law.specs.Age.{Apart}
use Rattle.law.specs.Judge.{Judged, late, fine}
use Rattle.law.specs.Laws.{
  LeastSettles,
  HoldsIsHeld,
  HoldsRoom,
  HoldsDown,
  AllowanceLargest,
  AllowanceBest,
  WorkRises,
  CornersDo,
  RowStep,
  RowLaw,
  RowPromise,
  LateCounts,
  Tight,
}
use Rattle.law.proofs.Work.{
  W-rise,
  room_held,
  held_down,
  least_pos,
  least_due,
  least_is,
  least_first,
  holds_held,
  held_holds,
  held_iff,
  allowance_most,
  allowance_holds,
}
use Rattle.law.proofs.Age.{apart_less}
use Rattle.law.proofs.Level.{rest, keep, drops, on_time, run_on_time}
use Rattle.law.proofs.Judge.{link_run, link_late, link_exact}
use Rattle.law.proofs.Forced.{forced_late}

pub least_settles : LeastSettles
least_settles C T i D k e =
    let d = least_due C T i D k e in (
      least_pos C T i D k,
      d,
      least_is C T i D k d,
      λ t p f. elim (dec_le t D) [ yes q ↦ least_first C T i D k t p q f | no q ↦ omega arith ],
    )

pub holds_is_held : HoldsIsHeld
holds_is_held C T i D k = held_iff C T i D k

pub holds_room : HoldsRoom
holds_room C T i D one p k = (
  λ e. let x = holds_held C T i D k e in (x.t, x.due, omega (arith, x.fix)),
  λ y. held_holds C T i D k (room_held C T i D one p k y.0 y.1 y.2),
)

pub holds_down : HoldsDown
holds_down C T i D one p k j q e = held_holds C T i D j (held_down C T i D one p k j q (holds_held C T i D k e))

pub allowance_largest : AllowanceLargest
allowance_largest C T i D e = (allowance_holds C T i D e, allowance_most C T i D)

pub allowance_best : AllowanceBest
allowance_best C T i D one p e =
    let x = holds_held C T i D (allowance C T i D) (allowance_holds C T i D e) in (
      (x.t, x.pos, x.due, x.fix),
      λ t q.
          elim (dec_le t (C i + allowance C T i D + W C T i t)) [
            | yes r ↦ r
            | no r ↦
                (let k : ℕ = suc (allowance C T i D) in
                absurd (omega (arith, allowance_most C T i D k (held_holds C T i D k (room_held C T i D one p k t q (omega arith))))))
          ],
    )

pub work_rises : WorkRises
work_rises C T i p t q = W-rise C T i p t q

-- t moves up by at most n, to the deadline or to the last slot before the work rises
corner : (C T : ℕ → ℕ) (i D k n t : ℕ) → Periods T i → t + n ≡ D → C i + k + W C T i t ≤ t
    → (x : ℕ) × (t ≤ x) × (x ≤ D) × (C i + k + W C T i x ≤ x) × ((x ≡ D) ⊎ ((h : ℕ) × (h < i) × (x % T h ≡ 0)))
corner C T i D k zero t p e r = (t, omega arith, omega arith, r, inl (omega arith))
corner C T i D k (suc n) t p e r =
    elim (dec_lt (W C T i t) (W C T i (suc t))) [
      | yes q ↦ (t, omega arith, omega arith, r, inr (W-rise C T i p t q))
      | no q ↦
          (let y = corner C T i D k n (suc t) p (omega arith) (omega arith) in
          (y.0, omega (arith, y.1), y.2, y.3, y.4))
    ]

pub corners_do : CornersDo
corners_do C T i D p k t q r = corner C T i D k (D - t) t p (omega arith) r

pub row_step : RowStep
row_step C T i D k periods short held =
    record {
      rest = rest C T i k held.t;
      keep = keep C T i D k periods (omega arith) held;
      drops = drops C T i k held.t;
      on_time = on_time C T i D k periods (omega arith) held;
    }

pub row_law : RowLaw
row_law C T i D k periods short e L rel w m u c s z =
    run_on_time C T i D k periods (omega arith) (holds_held C T i D k e) L rel w m u c s z

pub late_counts : LateCounts
late_counts C D rel f one gap L w u v z =
    link_late C D rel f one gap L (w L) (v L) (link_run C D rel f one gap L w u v z L (omega arith))

none_late : (D : ℕ) (rel : ℕ → Bool) (x u v w' v' : ℕ) → ((y : ℕ) → rel y ≡ true → y + D ≡ suc x → u ≡ 0) → Judged D rel x u v w' v' → v' ≡ v
none_late D rel x u v w' v' g (late y e d o p q) = absurd (omega (arith, g y d e))
none_late D rel x u v w' v' g (fine h p q) = q

pub row_promise : RowPromise
row_promise C T i D k periods short e L rel w m u c s z f v r = (
  zero_late L (omega arith),
  link_exact (C i) D (rel i) f one gap L (w L i)
      (rw (zero_late L (omega arith)) at (link_run (C i) D (rel i) f one gap L (λ x. w x i) (λ x. u x i) v r L (omega arith))),
)
  where
    one : 1 ≤ D
    one = let x = holds_held C T i D k e in omega (arith, x.pos, x.due)

    gap : Apart (rel i) D
    gap = apart_less (rel i) (T i) D (omega arith) (z.apart i (omega arith))

    zero_late : (x : ℕ) → x ≤ L → v x ≡ 0
    zero_late zero q = r.none_late
    zero_late (suc x) q =
        omega (
          arith,
          zero_late x (omega arith),
          none_late D (rel i) x (u x i) (v x) (w (suc x) i) (v (suc x))
              (λ y d a. row_law C T i D k periods (omega arith) e L rel w m u c s z x y q d a)
              (r.judges x q),
        )

pub tight : Tight
tight C T D i g one some short q w u z =
    forced_late C T D i g one some short w u z (λ x. omega (arith, allowance_most C T i (D i) g (held_holds C T i (D i) g x)))
