-- The link between a row's state and its history: each slot keeps it, and it gives the late count and what each instance got.
use mathlib.Core.Path.{◌≡◌, refl, ap, sym, ◌∙◌}
use mathlib.Core.Bool.{Bool, true, false, ◌&&◌, cond, true≢false}
use Prim.Native.Nat.{ℕ, zero, suc, ◌+◌, ◌-◌, ◌%◌, ◌≤◌, ◌<◌, min}
use native.Mathlib.Decide.{dec_le, dec_lt}
use native.Mathlib.Nat.{zero-min}
use native.Mathlib.Omega.{arith}
use lib.Dec.{eqb, ltb, leb}
use borrow.Author.Tests.{eq-eqb, eqb-true, lt-ltb, le-ltb, le-leb, lt-leb}
use Rattle.seq.specs.Places.{flag}
use Rattle.law.specs.Sums.{sum}
use Rattle.law.specs.Age.{Apart, released, number}
use Rattle.law.specs.Judge.{got, too_few, ends_late, late_count, Phase, runs, none, Link, Judged, late, fine, RowSlot, RowRun}
use Rattle.law.proofs.Sums.{term_le}
use Rattle.law.proofs.Age.{released_apart, number_from, number_is, number_periodic}

-- the late of L slots are those among the release slots judged by then
sum_due : (g : ℕ → Bool) (D L n : ℕ)
    → sum (λ x. flag (leb (x + D) L && g x)) n ≡ sum (λ x. flag (g x)) (min n (suc L - D))
unfolding sum
sum_due g D L zero = rw zero-min
sum_due g D L (suc n) =
    elim (dec_le (n + D) L) [
      | yes d ↦
          (let a : min (suc n) (suc L - D) ≡ suc n = omega arith in
          let b : min n (suc L - D) ≡ n = omega arith in
          rw (a, le-leb (n + D) L d, sum_due g D L n, b))
      | no d ↦
          (let a : min (suc n) (suc L - D) ≡ min n (suc L - D) = omega arith in
          rw (a, lt-leb (n + D) L (omega arith), sum_due g D L n) (omega arith))
    ]

-- after the use of slot L, before its judgement: as Phase, with the instance whose last slot this is
data Mid (C D : ℕ) (rel : ℕ → Bool) (f : ℕ → ℕ) (L u : ℕ) : Type 0 where
  running : (x r : ℕ) → rel x ≡ true → x + r ≡ suc L → 1 ≤ r → r ≤ D → u + got f x r ≡ C → Mid C D rel f L u
  resting : ((x : ℕ) → x ≤ L → suc L ≤ x + D → rel x ≡ true → ⊥) → u ≡ 0 → Mid C D rel f L u

-- a count that goes on by the instance whose deadline is this slot's end, if there is one
count_next : (g : ℕ → ℕ) (D L v v' : ℕ) → v ≡ sum g (suc L - D) → ((x : ℕ) → x + D ≡ suc L → v' ≡ v + g x) → (suc L < D → v' ≡ v)
    → v' ≡ sum g (suc (suc L) - D)
unfolding sum
count_next g D L v v' e p q =
    elim (dec_le D (suc L)) [
      | yes d ↦ (let n : suc (suc L) - D ≡ suc (suc L - D) = omega arith in rw n (omega (arith, p (suc L - D) (omega arith))))
      | no d ↦ (let n : suc (suc L) - D ≡ suc L - D = omega arith in rw n (omega (arith, q (omega arith))))
    ]

module _ (C D : ℕ) (rel : ℕ → Bool) (f : ℕ → ℕ) (one : 1 ≤ D) (gap : Apart rel D) where
  mid_of : (L w u : ℕ) (b : Bool) → rel L ≡ b → u + f L ≡ cond b C w → Phase C D rel f L w → Mid C D rel f L u
  unfolding sum
  mid_of L w u true e q (runs x r p o a z y) = absurd (omega (arith, gap x L p e (omega arith)))
  mid_of L w u true e q (none g z) =
      let n : L + 0 ≡ L = omega arith in
      running L 1 e (omega arith) (omega arith) one (omega (arith, ap f n))
  mid_of L w u false e q (runs x r p o a z y) = running x (suc r) p (omega arith) (omega arith) z (omega (arith, ap f o))
  mid_of L w u false e q (none g z) =
      resting
      (λ x a c d.
      elim (dec_lt x L) [
        | yes o ↦ g x o c d
        | no o ↦ (let n : x ≡ L = omega arith in true≢false (sym (rw n at d) ∙ e))
      ])
      (omega arith)

  -- the instance whose last slot this is
  mid_last : (L u : ℕ) → Mid C D rel f L u → (x : ℕ) → x + D ≡ suc L → rel x ≡ true → u + got f x D ≡ C
  mid_last L u (running y r p o a z q) x e d =
      elim (dec_lt x y) [
        | yes c ↦ absurd (omega (arith, gap x y d p c))
        | no c ↦
            (let n : x ≡ y = omega (arith) in
            let m : D ≡ r = omega arith in rw (n, m) q)
      ]
  mid_last L u (resting g z) x e d = absurd (g x (omega arith) (omega arith) d)

  mid_phase : (L u v w' v' : ℕ) → Mid C D rel f L u → Judged D rel L u v w' v' → Phase C D rel f (suc L) w'
  mid_phase L u v w' v' (resting g z) (late x e d o p q) = absurd (g x (omega arith) (omega arith) d)
  mid_phase L u v w' v' (resting g z) (fine h p q) = none (λ x a c d. g x (omega arith) (omega arith) d) (omega arith)
  mid_phase L u v w' v' (running y r p o a z s) (late x e d b c q) =
      none (λ x' a' c' d'. absurd (omega (arith, gap x x' d d' (omega arith)))) c
  mid_phase L u v w' v' (running y r p o a z s) (fine h c q) =
      elim (dec_lt r D) [
        | yes n ↦ runs y r p o a n (omega arith)
        | no n ↦
            none (λ x' a' c' d'. absurd (omega (arith, gap y x' p d' (omega arith)))) (omega (arith, h y (omega arith) p))
      ]

  few_true : (x : ℕ) → rel x ≡ true → got f x D < C → flag (too_few C D rel f x) ≡ 1
  few_true x d p = rw (d, lt-ltb (got f x D) C p)

  few_false : (x : ℕ) (b : Bool) → rel x ≡ b → (b ≡ true → C ≤ got f x D) → flag (b && ltb (got f x D) C) ≡ 0
  few_false x true d p = rw (le-ltb (got f x D) C (p refl))
  few_false x false d p = refl

  mid_count : (L u v w' v' : ℕ) → Mid C D rel f L u → Judged D rel L u v w' v'
      → v ≡ sum (λ x. flag (too_few C D rel f x)) (suc L - D)
      → v' ≡ sum (λ x. flag (too_few C D rel f x)) (suc (suc L) - D)
  mid_count L u v w' v' m (late x e d o p q) c =
      count_next (λ x. flag (too_few C D rel f x)) D L v v' c
      (λ y a. let n : y ≡ x = omega arith in
      rw n (omega (arith, few_true x d (omega (arith, mid_last L u m x e d)))))
      (λ a. absurd (omega arith))
  mid_count L u v w' v' m (fine h p q) c =
      count_next (λ x. flag (too_few C D rel f x)) D L v v' c
      (λ y a. omega (arith, few_false y (rel y) refl (λ d. omega (arith, h y a d, mid_last L u m y a d))))
      (λ a. q)

  -- one slot keeps the link
  pub link_slot : (L w v w' v' : ℕ) → RowSlot C D rel f L w v w' v' → Link C D rel f L w v → Link C D rel f (suc L) w' v'
  link_slot L w v w' v' s k =
      let m : Mid C D rel f L s.used = mid_of L w s.used (rel L) refl s.use_eq k.phase in
      record {
        phase = mid_phase L s.used v w' v' m s.judged;
        count = mid_count L s.used v w' v' m s.judged k.count;
        most =
            λ x d a.
            elim (dec_le (x + D) L) [
              | yes b ↦ k.most x d b
              | no b ↦ omega (arith, mid_last L s.used m x (omega arith) d)
            ];
      }

  -- what is left of an instance at its judgement is what it lacks
  pub link_lacks : (L w v w' v' : ℕ) (s : RowSlot C D rel f L w v w' v') → Link C D rel f L w v
      → (x : ℕ) → x + D ≡ suc L → rel x ≡ true → s.used + got f x D ≡ C
  link_lacks L w v w' v' s k x e d = mid_last L s.used (mid_of L w s.used (rel L) refl s.use_eq k.phase) x e d

  -- nothing is left of an instance when the next is released
  pub link_free : (L w v : ℕ) → Link C D rel f L w v → rel L ≡ true → w ≡ 0
  link_free L w v k e =
      elim k.phase [
        | runs x r p q a z y ↦ absurd (omega (arith, gap x L p e (omega arith)))
        | none g z ↦ z
      ]

  -- a slot adds to the late count just where the instance whose last slot it is got too few
  pub link_flag : (L w v w' v' n : ℕ) → Link C D rel f L w v → Link C D rel f (suc L) w' v' → v' ≡ v + n
      → n ≡ flag (ends_late C D rel f L)
  unfolding sum
  link_flag L w v w' v' n k k' e =
      elim (dec_le D (suc L)) [
        | yes d ↦
            (let m : suc (suc L) - D ≡ suc (suc L - D) = omega arith in
            rw (le-leb D (suc L) d) (omega (arith, k.count, rw m at k'.count)))
        | no d ↦
            (let m : suc (suc L) - D ≡ suc L - D = omega arith in
            rw (lt-leb D (suc L) (omega arith)) (omega (arith, k.count, rw m at k'.count)))
      ]

  -- before the first slot
  pub link_start : Link C D rel f 0 0 0
  unfolding sum
  link_start =
      record {
        phase = none (λ x a c d. absurd (omega arith)) refl;
        count = let n : suc 0 - D ≡ 0 = omega arith in rw n;
        most = λ x d a. absurd (omega arith);
      }

  -- where none is late each instance with a deadline in the L slots got exactly C
  pub link_exact : (L w : ℕ) → Link C D rel f L w 0 → (x : ℕ) → rel x ≡ true → x + D ≤ L → got f x D ≡ C
  link_exact L w k x d a =
      elim (dec_lt (got f x D) C) [
        | yes b ↦
            absurd
            (omega (
              arith,
              few_true x d b,
              term_le (λ x. flag (too_few C D rel f x)) (suc L - D) x (omega arith),
              k.count,
            ))
        | no b ↦ omega (arith, k.most x d a)
      ]

  -- the late count is the number of the late
  pub link_late : (L w v : ℕ) → Link C D rel f L w v → v ≡ late_count C D rel f L
  link_late L w v k =
      let n : min L (suc L - D) ≡ suc L - D = omega arith in
      k.count ∙ rw n at (sym (sum_due (λ x. too_few C D rel f x) D L L))

  -- along a run
  pub link_run : (L : ℕ) (w u v : ℕ → ℕ) → RowRun C D rel f L w u v → (x : ℕ) → x ≤ L → Link C D rel f x (w x) (v x)
  link_run L w u v z zero q = rw (z.nothing, z.none_late) link_start
  link_run L w u v z (suc x) q =
      link_slot x (w x) (v x) (w (suc x)) (v (suc x)) record { used = u x; use_eq = z.uses x q; judged = z.judges x q }
      (link_run L w u v z x (omega arith))

-- a judgement by a test that tells the slots in which an instance ends
pub judged_by : (D : ℕ) (rel : ℕ → Bool) (L u v : ℕ) (ends : Bool)
    → (ends ≡ true → (x : ℕ) × (x + D ≡ suc L) × (rel x ≡ true))
    → ((x : ℕ) → x + D ≡ suc L → rel x ≡ true → ends ≡ true)
    → Judged D rel L u v (cond (ends && ltb 0 u) 0 u) (v + flag (ends && ltb 0 u))
judged_by D rel L u v true f g =
    elim (dec_lt 0 u) [
      | yes p ↦ (let y = f refl in rw (lt-ltb 0 u p) (late y.0 y.1 y.2 p refl (omega arith)))
      | no p ↦ rw (le-ltb 0 u (omega arith)) (fine (λ x e d. omega arith) refl (omega arith))
    ]
judged_by D rel L u v false f g = fine (λ x e d. absurd (true≢false (sym (g x e d)))) refl (omega arith)

-- by the number that tells the age
pub judged_number : (D : ℕ) (rel : ℕ → Bool) (L u v : ℕ) → 1 ≤ D → Apart rel D
    → Judged D rel L u v (cond (eqb (number rel (suc L)) D && ltb 0 u) 0 u) (v + flag (eqb (number rel (suc L)) D && ltb 0 u))
judged_number D rel L u v one apart =
    judged_by D rel L u v (eqb (number rel (suc L)) D)
    (λ e.
    let n : number rel (suc L) ≡ D = eqb-true _ _ e in
    let y = number_from rel (suc L) (omega arith) in (y.0, omega (arith, y.1), y.2))
    (λ x e d. eq-eqb (number rel (suc L)) D (rw e at (number_is rel D apart x D d one (omega arith))))

-- by the remainder, for the periodic pattern
pub judged_periodic : (T D L u v : ℕ) → 1 ≤ D → D ≤ T
    → Judged D (released T) L u v (cond (eqb (L % T) (D - 1) && ltb 0 u) 0 u) (v + flag (eqb (L % T) (D - 1) && ltb 0 u))
judged_periodic T D L u v one short =
    let n : number (released T) (suc L) ≡ suc (L % T) = number_periodic T L (omega arith) in
    judged_by D (released T) L u v (eqb (L % T) (D - 1))
    (λ e.
    let y = number_from (released T) (suc L) (omega arith) in (y.0, omega (arith, y.1, eqb-true (L % T) (D - 1) e), y.2))
    (λ x e d.
    eq-eqb (L % T) (D - 1)
    (omega (arith, rw e at (number_is (released T) D (released_apart T D short) x D d one (omega arith)))))
