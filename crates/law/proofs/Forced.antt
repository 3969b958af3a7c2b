-- The allowance is not too small: while nobody is late, each slot up to row i's first end is one given or one served, so that end is
-- a fixed point of its demand.
use mathlib.Core.Path.{◌≡◌, refl}
use mathlib.Core.Logic.{◌⊎◌, inl, inr}
use mathlib.Core.Bool.{cond}
use Prim.Native.Nat.{ℕ, zero, suc, ◌+◌, ◌*◌, ◌-◌, ◌%◌, ◌≤◌, ◌<◌}
use native.Mathlib.Nat.{zero-mod, mod-eq_of_lt}
use native.Mathlib.Decide.{dec_le, dec_lt, ℕ_discrete}
use native.Mathlib.Omega.{arith}
use lib.Dec.{eqb}
use borrow.Author.Tests.{eq-eqb, ne_eqb}
use Rattle.law.specs.Sums.{sum, ceil}
use Rattle.law.specs.Work.{W, Periods, Held}
use Rattle.law.specs.Level.{backlog}
use Rattle.law.specs.Forced.{Forced, LateAt, ForcedRun}
use Rattle.law.proofs.Sums.{ceil_is, ceil_zero, ceil_due, ceil_rest, sum_eq, sum_add, sum_zero, find}
use Rattle.law.proofs.Age.{mod_next}

-- what each slot keeps while row i has always had work left and nobody was late: each of the l slots was given or served
pub record Exact (C T : ℕ → ℕ) (i g l : ℕ) (w : ℕ → ℕ) : Type 0 where
  pub sums : l + backlog w i + (g - l) ≡ g + W C T (suc i) l
  pub works : (1 ≤ w i) ⊎ (l ≡ 0)

module _ (C T : ℕ → ℕ) (i g D : ℕ) (one : 1 ≤ C i) (periods : Periods T (suc i)) (due : D ≤ T i) where
  pub exact_start : (w : ℕ → ℕ) → ((h : ℕ) → h < suc i → w h ≡ 0) → Exact C T i g 0 w
  exact_start w z =
      record {
        sums =
            omega (
              arith,
              sum_zero w (suc i) z,
              sum_zero (λ h. C h * ceil 0 (T h)) (suc i) (λ h r. rw (ceil_zero (T h) (periods h r)) (omega arith)),
            );
        works = inr refl;
      }

  module _ (l : ℕ) (w u : ℕ → ℕ) (x : Forced C T i g l w u) (free : (h : ℕ) → h < suc i → l % T h ≡ 0 → w h ≡ 0)
      (k : Exact C T i g l w) (q : l < D) where
    mid_is : (h : ℕ) → h < suc i → x.mid h + C h * ceil l (T h) ≡ w h + C h * ceil (suc l) (T h)
    mid_is h r =
        elim (ℕ_discrete (l % T h) 0) [
          | yes e ↦
              rw (ceil_due l (T h) (periods h r) e)
              (omega (arith, rw (eq-eqb (l % T h) 0 e) at (x.comes h r), free h r e))
          | no e ↦ rw (ceil_rest l (T h) (periods h r) e) (omega (arith, rw (ne_eqb (l % T h) 0 e) at (x.comes h r)))
        ]

    mid_sum : backlog x.mid i + W C T (suc i) l ≡ backlog w i + W C T (suc i) (suc l)
    mid_sum =
        omega (
          arith,
          sum_add x.mid (λ h. C h * ceil l (T h)) (suc i),
          sum_add w (λ h. C h * ceil (suc l) (T h)) (suc i),
          sum_eq (λ h. x.mid h + C h * ceil l (T h)) (λ h. w h + C h * ceil (suc l) (T h)) (suc i) mid_is,
        )

    mid_pos : 1 ≤ x.mid i
    mid_pos =
        elim (ℕ_discrete (l % T i) 0) [
          | yes e ↦ omega (arith, rw (eq-eqb (l % T i) 0 e) at (x.comes i (omega arith)))
          | no e ↦
              elim k.works [
                | inl p ↦ omega (arith, rw (ne_eqb (l % T i) 0 e) at (x.comes i (omega arith)))
                | inr z ↦ absurd (e (rw z (zero-mod (T i))))
              ]
        ]

    ends : backlog u i ≡ 0 → g ≤ l → suc l + backlog u i + (g - suc l) ≡ g + W C T (suc i) (suc l) → Held C T i D g
    unfolding sum
    ends z p e =
        let y : ceil (suc l) (T i) ≡ 1 = ceil_is (suc l) (T i) 0 (periods i (omega arith)) (omega arith) (omega arith) in
        let v : C i * ceil (suc l) (T i) ≡ C i * 1 = rw y in
        record { t = suc l; pos = omega arith; due = q; fix = omega arith }

    -- the count goes on, or row i ends and holds g
    pub exact_slot : Held C T i D g ⊎ Exact C T i g (suc l) u
    exact_slot =
        elim (dec_lt l g) [
          | yes p ↦
              inr record {
                sums = omega (arith, k.sums, mid_sum, sum_eq u x.mid (suc i) (x.gives p));
                works = inl (omega (arith, mid_pos, x.gives p i (omega arith)));
              }
          | no p ↦
              (let s : suc l + backlog u i + (g - suc l) ≡ g + W C T (suc i) (suc l) =
              omega (arith, k.sums, mid_sum, x.takes (omega arith) mid_pos) in
              elim (dec_le 1 (u i)) [
                | yes y ↦ inr record { sums = s; works = inl y }
                | no y ↦ inl (ends (omega (arith, x.first (omega arith) mid_pos (omega arith))) (omega arith) s)
              ])
        ]

-- what a row that is never late has left outside its instances
record Clear (T D l w : ℕ) : Type 0 where
  at_release : l % T ≡ 0 → w ≡ 0
  past_due : D ≤ l % T → w ≡ 0

clear_slot : (C T D l w m u : ℕ) → 1 ≤ D → D ≤ T → m ≡ cond (eqb (l % T) 0) C w → u ≤ m → (suc (l % T) ≡ D → u ≡ 0)
    → Clear T D l w → Clear T D (suc l) u
clear_slot C T D l w m u one short e less fine k =
    elim (dec_le D (suc (l % T))) [
      | yes q ↦ (let z : u ≡ 0 = past q in record { at_release = λ y. z; past_due = λ y. z })
      | no q ↦
          (let n = mod_next l T (omega arith) in
          record { at_release = λ y. absurd (omega arith); past_due = λ y. absurd (omega arith) })
    ]
  where
    past : D ≤ suc (l % T) → u ≡ 0
    past q =
        elim (ℕ_discrete (suc (l % T)) D) [
          | yes y ↦ fine y
          | no y ↦ omega (arith, rw (ne_eqb (l % T) 0 (λ z. omega arith)) at e, k.past_due (omega arith))
        ]

module _ (C T D : ℕ → ℕ) (i g : ℕ) (one : 1 ≤ C i) (some : (h : ℕ) → h < suc i → 1 ≤ D h) (short : (h : ℕ) → h < suc i → D h ≤ T h)
    (w u : ℕ → ℕ → ℕ) (z : ForcedRun C T D i g (D i) w u) where
  late_or : (x h : ℕ) → LateAt T D (u x) x h ⊎ (LateAt T D (u x) x h → ⊥)
  late_or x h =
      elim (ℕ_discrete (suc (x % T h)) (D h)) [
        | no e ↦ inr (λ y. e (omega (arith, y.0)))
        | yes e ↦ elim (dec_le 1 (u x h)) [ yes q ↦ inl (omega arith, omega arith) | no q ↦ inr (λ y. q y.1) ]
      ]

  module _ (fine : (x : ℕ) → x < D i → (h : ℕ) → h < suc i → LateAt T D (u x) x h → ⊥) where
    periods : Periods T (suc i)
    periods h r = omega (arith, some h r, short h r)

    clear : (x : ℕ) → x ≤ D i → (h : ℕ) → h < suc i → Clear (T h) (D h) x (w x h)
    clear zero q h r = record { at_release = λ y. z.nothing h r; past_due = λ y. z.nothing h r }
    clear (suc x) q h r =
        rw (z.keeps x h q r (fine x q h r))
        (clear_slot (C h) (T h) (D h) x (w x h) ((z.slots x q).mid h) (u x h) (some h r) (short h r)
        ((z.slots x q).comes h r) ((z.slots x q).less h r)
        (λ e. elim (dec_le 1 (u x h)) [ yes y ↦ absurd (fine x q h r (omega arith, omega arith)) | no y ↦ omega arith ])
        (clear x (omega arith) h r))

    exact : (x : ℕ) → x ≤ D i → Held C T i (D i) g ⊎ Exact C T i g x (w x)
    exact zero q = inr (exact_start C T i g (D i) one periods (short i (omega arith)) (w 0) z.nothing)
    exact (suc x) q =
        elim (exact x (omega arith)) [
          | inl y ↦ inl y
          | inr y ↦
              elim
              (exact_slot C T i g (D i) one periods (short i (omega arith)) x (w x) (u x) (z.slots x q)
              (λ h r. (clear x (omega arith) h r).at_release) y q) [
                | inl a ↦ inl a
                | inr a ↦
                    inr record {
                      sums = omega (arith, a.sums, sum_eq (w (suc x)) (u x) (suc i) (λ h r. z.keeps x h q r (fine x q h r)));
                      works = rw (z.keeps x i q (omega arith) (fine x q i (omega arith))) a.works;
                    }
              ]
        ]

    -- if nobody is late row i has ended by its first deadline
    pub on_time_held : Held C T i (D i) g
    on_time_held = elim (exact (D i) (omega arith)) [ inl y ↦ y | inr y ↦ absurd (go (D i) refl y.works) ]
      where
        go : (d : ℕ) → D i ≡ d → (1 ≤ w d i) ⊎ (d ≡ 0) → ⊥
        go zero e y = omega (arith, some i (omega arith))
        go (suc d) e (inr y) = omega arith
        go (suc d) e (inl y) =
            let q : d < D i = omega arith in
            let r : i < suc i = omega arith in
            fine d q i r (
              (let n : d % T i ≡ d = mod-eq_of_lt (omega (arith, short i r)) in omega arith),
              omega (arith, z.keeps d i q r (fine d q i r)),
            )

  -- a row that is late, where row i does not hold g
  pub forced_late : (Held C T i (D i) g → ⊥) → (x : ℕ) × (h : ℕ) × (x < D i) × (h < suc i) × LateAt T D (u x) x h
  forced_late more =
      elim
      (find (λ x. (h : ℕ) × (h < suc i) × LateAt T D (u x) x h) (λ x. (h : ℕ) → h < suc i → LateAt T D (u x) x h → ⊥)
      (λ x. find (LateAt T D (u x) x) (λ h. LateAt T D (u x) x h → ⊥) (late_or x) (suc i)) (D i)) [
        | inl y ↦ (y.0, y.2.0, y.1, y.2.1, y.2.2)
        | inr f ↦ absurd (more (on_time_held f))
      ]
