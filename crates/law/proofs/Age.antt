-- A row's age through a slot is a turn of the law, for the periodic pattern and for any whose releases stand T apart.
use mathlib.Core.Path.{◌≡◌, refl, sym, ◌∙◌}
use mathlib.Core.Bool.{Bool, true, false, cond, true≢false}
use Prim.Native.Nat.{ℕ, zero, suc, ◌+◌, ◌-◌, ◌%◌, ◌≤◌, ◌<◌}
use native.Mathlib.Nat.{zero-mod, suc-mod, mod-lt, mod_self, mod-eq_of_lt, mod-add-mod, zero-add}
use native.Mathlib.Decide.{dec_le, dec_lt, ℕ_discrete}
use native.Mathlib.Omega.{arith}
use borrow.Author.Tests.{eq-eqb, ne_eqb, eqb-true}
use Rattle.law.specs.Window.{Turn, rests, stays, comes}
use Rattle.law.specs.Age.{Apart, released, age, number_next, number, age_of}

pub apart_less : (rel : ℕ → Bool) (T D : ℕ) → D ≤ T → Apart rel T → Apart rel D
apart_less rel T D p f x y a b q = omega (arith, f x y a b q)

-- the remainder of l + 1, where l leaves the last one and where not
pub mod_next : (l T : ℕ) → suc (l % T) < T → suc l % T ≡ suc (l % T)
mod_next l T q = suc-mod l T ∙ mod-eq_of_lt q

pub mod_turn : (l T : ℕ) → suc (l % T) ≡ T → suc l % T ≡ 0
mod_turn l T e = suc-mod l T ∙ rw e (mod_self T)

pub age_turn : (C T w l : ℕ) → 1 ≤ T → Turn C T (age l T) w (age (suc l) T) (cond (released T l) C w)
unfolding age
age_turn C T w zero p = rw (zero-mod T) (comes (omega arith) refl (omega arith))
age_turn C T w (suc l) p =
    elim (dec_lt (suc (l % T)) T) [
      | yes q ↦
          (let e = mod_next l T q in
          rw (ne_eqb (suc l % T) 0 (λ z. omega arith), e) (rests refl (omega arith)))
      | no q ↦
          (let e = mod_turn l T (omega (arith, mod-lt l p)) in
          rw (eq-eqb (suc l % T) 0 e, e) (comes (omega arith) refl (omega arith)))
    ]

-- a row that is released only where its age is T or more
pub number_turn : (C T w w' n : ℕ) (b : Bool) → (b ≡ true → T ≤ age_of T n) → w' ≤ cond b (w + C) w
    → Turn C T (age_of T n) w (age_of T (number_next b n)) w'
number_turn C T w w' n true q r = comes (omega (arith, q refl)) refl r
number_turn C T w w' n false q r =
    elim (ℕ_discrete n 0) [
      | yes e ↦ rw (eq-eqb n 0 e) (stays (omega arith) refl r)
      | no e ↦ rw (ne_eqb n 0 e, ne_eqb (suc n) 0 (λ z. omega arith)) (rests refl r)
    ]

-- the number tells the last release
pub number_from : (rel : ℕ → Bool) (l : ℕ) → 1 ≤ number rel l → (x : ℕ) × (x + number rel l ≡ l) × (rel x ≡ true)
unfolding number
number_from rel zero p = absurd (omega arith)
number_from rel (suc l) p = go (rel l) refl (number_from rel l) p
  where
    go : (b : Bool) → rel l ≡ b → (1 ≤ number rel l → (x : ℕ) × (x + number rel l ≡ l) × (rel x ≡ true)) → 1 ≤ number_next b (number rel l)
        → (x : ℕ) × (x + number_next b (number rel l) ≡ suc l) × (rel x ≡ true)
    go true e f q = (l, omega arith, e)
    go false e f q =
        elim (ℕ_discrete (number rel l) 0) [
          | yes z ↦ absurd (omega (arith, rw (eq-eqb (number rel l) 0 z) at q))
          | no z ↦ (let y = f (omega arith) in rw (ne_eqb (number rel l) 0 z) (y.0, omega (arith, y.1), y.2))
        ]

pub number_last : (rel : ℕ → Bool) (x l : ℕ) → rel x ≡ true → x < l → (1 ≤ number rel l) × (x + number rel l ≤ l)
unfolding number
number_last rel x zero d p = absurd (omega arith)
number_last rel x (suc l) d p =
    elim (dec_lt x l) [
      | yes q ↦ go (rel l) (number_last rel x l d q)
      | no q ↦ (let e : l ≡ x = omega arith in rw (e, d) (omega arith, omega arith))
    ]
  where
    go : (b : Bool) → (1 ≤ number rel l) × (x + number rel l ≤ l) → (1 ≤ number_next b (number rel l)) × (x + number_next b (number rel l) ≤ suc l)
    go true y = (omega arith, omega (arith, y.0, y.1))
    go false y = rw (ne_eqb (number rel l) 0 (λ z. omega (arith, y.0))) (omega arith, omega (arith, y.1))

-- releases only at the age T or more stand T apart
pub number_apart : (rel : ℕ → Bool) (T : ℕ) → ((x : ℕ) → rel x ≡ true → T ≤ age_of T (number rel x)) → Apart rel T
number_apart rel T f x y a b q =
    let n = number_last rel x y a q in
    omega (arith, n.1, rw (ne_eqb (number rel y) 0 (λ z. omega (arith, n.0))) at (f y b))

module _ (rel : ℕ → Bool) (T : ℕ) (apart : Apart rel T) where
  -- the age of the instance of slot y
  pub number_is : (y r : ℕ) → rel y ≡ true → 1 ≤ r → r ≤ T → number rel (y + r) ≡ r
  unfolding number
  number_is y zero d p q = absurd (omega arith)
  number_is y (suc r) d p q =
      let n : y + suc r ≡ suc (y + r) = omega arith in
      rw n (go (rel (y + r)) refl (λ a. number_is y r d a (omega arith)))
    where
      go : (b : Bool) → rel (y + r) ≡ b → (1 ≤ r → number rel (y + r) ≡ r) → number_next b (number rel (y + r)) ≡ suc r
      go true e h = elim (dec_lt 0 r) [ yes a ↦ absurd (omega (arith, apart y (y + r) d e (omega arith))) | no a ↦ omega arith ]
      go false e h =
          elim (dec_lt 0 r) [
            | yes a ↦ rw (h a, ne_eqb r 0 (λ z. omega arith))
            | no a ↦ (let z : y + r ≡ y = omega arith in absurd (true≢false (sym d ∙ (rw z at e))))
          ]

  -- a released row has reached the age T
  pub number_due : (l : ℕ) → rel l ≡ true → T ≤ age_of T (number rel l)
  number_due l d =
      elim (ℕ_discrete (number rel l) 0) [
        | yes e ↦ rw (eq-eqb (number rel l) 0 e) (omega arith)
        | no e ↦
            (let y = number_from rel l (omega arith) in
            rw (ne_eqb (number rel l) 0 e) (omega (arith, apart y.0 l y.2 d (omega (arith, y.1)), y.1)))
      ]

-- the periodic pattern
pub number_periodic : (T l : ℕ) → 1 ≤ T → number (released T) (suc l) ≡ suc (l % T)
unfolding number
number_periodic T zero p = rw (zero-mod T)
number_periodic T (suc l) p =
    elim (dec_lt (suc (l % T)) T) [
      | yes q ↦
          (let e = mod_next l T q in
          rw (ne_eqb (suc l % T) 0 (λ z. omega arith), number_periodic T l p, ne_eqb (suc (l % T)) 0 (λ z. omega arith), e))
      | no q ↦
          (let e = mod_turn l T (omega (arith, mod-lt l p)) in
          rw (eq-eqb (suc l % T) 0 e, e))
    ]

pub released_apart : (T D : ℕ) → D ≤ T → Apart (released T) D
released_apart T D p x y a b q =
    elim (dec_le (x + D) y) [
      | yes o ↦ o
      | no o ↦
          (let n : x + (y - x) ≡ y = omega arith in
          absurd
          (omega (arith, eqb-true (y % T) 0 b, rw n at (rem (y - x) (omega arith)))))
    ]
  where
    rem : (r : ℕ) → r < T → (x + r) % T ≡ r
    rem r g = sym (mod-add-mod x T r) ∙ rw (eqb-true (x % T) 0 a, zero-add) (mod-eq_of_lt g)
