-- Laws of sums, and of a quotient rounded up.
use mathlib.Core.Path.{◌≡◌, refl, ap}
use mathlib.Core.Logic.{◌⊎◌, inl, inr}
use Prim.Native.Nat.{ℕ, zero, suc, ◌+◌, ◌*◌, ◌-◌, ◌/◌, ◌%◌, ◌≤◌, ◌<◌}
use native.Mathlib.Nat.{le-div_iff_mul-le, div-lt_iff_lt-mul, div-add-mod', mod-lt}
use native.Mathlib.Decide.{dec_le, dec_lt}
use native.Mathlib.Numerals.{add-one}
use native.Mathlib.Omega.{arith}
use Rattle.std.specs.Int.{div_ceil}
use Rattle.std.proofs.lemmas.Grind.{div_ceil_times}
use Rattle.law.specs.Sums.{sum, ceil}

-- the two halves of: ceil t T ≤ q exactly where t ≤ q * T
pub ceil_le : (t T q : ℕ) → 1 ≤ T → t ≤ q * T → ceil t T ≤ q
unfolding ceil
ceil_le t T q p h = let z : (t + (T - 1)) / T < suc q = (div-lt_iff_lt-mul p).1 (omega arith) in omega arith

pub lt_ceil : (t T q : ℕ) → 1 ≤ T → q * T < t → q < ceil t T
unfolding ceil
lt_ceil t T q p h = (le-div_iff_mul-le p).1 (omega arith)

pub le_ceil_mul : (t T : ℕ) → 1 ≤ T → t ≤ ceil t T * T
le_ceil_mul t T p =
    elim (dec_le t (ceil t T * T)) [ yes h ↦ h | no f ↦ absurd (omega (arith, lt_ceil t T (ceil t T) p (omega arith))) ]

pub ceil_mono : (t u T : ℕ) → 1 ≤ T → t ≤ u → ceil t T ≤ ceil u T
ceil_mono t u T p h = ceil_le t T (ceil u T) p (omega (arith, le_ceil_mul u T p))

-- ceil l T, told by the multiples of T around l
pub ceil_is : (l T q : ℕ) → 1 ≤ T → q * T < l → l ≤ suc q * T → ceil l T ≡ suc q
ceil_is l T q p r s = omega (arith, ceil_le l T (suc q) p s, lt_ceil l T q p r)

-- and by the library's own quotient rounded up
div_ceil_by : (t T q : ℕ) → 1 ≤ T → t ≤ q * T → q * T < t + T → q ≡ ceil t T
div_ceil_by t T zero p a b = omega (arith, ceil_le t T 0 p a)
div_ceil_by t T (suc r) p a b = omega (arith, ceil_le t T (suc r) p a, lt_ceil t T r p (omega arith))

pub div_ceil_is : (t T : ℕ) → 1 ≤ T → div_ceil t T ≡ ceil t T
div_ceil_is t T p = let b = div_ceil_times t T p in div_ceil_by t T (div_ceil t T) p b.0 b.1

pub ceil_zero : (T : ℕ) → 1 ≤ T → ceil 0 T ≡ 0
ceil_zero T p = omega (arith, ceil_le 0 T 0 p (omega arith))

ceil_exact : (T l q : ℕ) → 1 ≤ T → q * T ≡ l → ceil l T ≡ q
ceil_exact T l zero p e = let z : l ≡ 0 = omega arith in rw z (ceil_zero T p)
ceil_exact T l (suc q) p e = ceil_is l T q p (omega arith) (omega arith)

-- from l to l + 1 it rises by one where l is a multiple of T, and stays where not
pub ceil_due : (l T : ℕ) → 1 ≤ T → l % T ≡ 0 → ceil (suc l) T ≡ suc (ceil l T)
ceil_due l T p e =
    let d = div-add-mod' l T in
    omega (arith, ceil_is (suc l) T (l / T) p (omega arith) (omega arith), ceil_exact T l (l / T) p (omega arith))

pub ceil_rest : (l T : ℕ) → 1 ≤ T → (l % T ≡ 0 → ⊥) → ceil (suc l) T ≡ ceil l T
ceil_rest l T p e =
    let d = div-add-mod' l T in
    let m = mod-lt l p in
    let r : 1 ≤ l % T = elim (dec_le 1 (l % T)) [ yes q ↦ q | no q ↦ absurd (e (omega arith)) ] in
    omega (arith, ceil_is (suc l) T (l / T) p (omega arith) (omega arith), ceil_is l T (l / T) p (omega arith) (omega arith))

pub sum_le : (f g : ℕ → ℕ) (n : ℕ) → ((h : ℕ) → h < n → f h ≤ g h) → sum f n ≤ sum g n
unfolding sum
sum_le f g zero q = omega arith
sum_le f g (suc n) q = omega (arith, sum_le f g n (λ h p. q h (omega arith)), q n (omega arith))

pub sum_eq : (f g : ℕ → ℕ) (n : ℕ) → ((h : ℕ) → h < n → f h ≡ g h) → sum f n ≡ sum g n
unfolding sum
sum_eq f g zero q = refl
sum_eq f g (suc n) q = omega (arith, sum_eq f g n (λ h p. q h (omega arith)), q n (omega arith))

pub sum_zero : (f : ℕ → ℕ) (n : ℕ) → ((h : ℕ) → h < n → f h ≡ 0) → sum f n ≡ 0
unfolding sum
sum_zero f zero q = refl
sum_zero f (suc n) q = omega (arith, sum_zero f n (λ h p. q h (omega arith)), q n (omega arith))

pub sum_add : (f g : ℕ → ℕ) (n : ℕ) → sum (λ h. f h + g h) n ≡ sum f n + sum g n
unfolding sum
sum_add f g zero = omega arith
sum_add f g (suc n) = omega (arith, sum_add f g n)

-- one term is at most the whole sum
pub term_le : (f : ℕ → ℕ) (n h : ℕ) → h < n → f h ≤ sum f n
unfolding sum
term_le f zero h p = omega arith
term_le f (suc n) h p =
    elim (dec_lt h n) [
      | yes q ↦ omega (arith, term_le f n h q)
      | no q ↦ (let e : h ≡ n = omega arith in omega (arith, ap f e))
    ]

-- a sum over fewer is no more
pub sum_up : (f : ℕ → ℕ) (n i : ℕ) → i ≤ n → sum f i ≤ sum f n
unfolding sum
sum_up f zero i p = let e : i ≡ 0 = omega arith in rw e (omega arith)
sum_up f (suc n) i p =
    elim (dec_le i n) [
      | yes q ↦ omega (arith, sum_up f n i q)
      | no q ↦ (let e : i ≡ suc n = omega arith in rw e (omega arith))
    ]

-- a sum that is not 0 has a term that is not 0
pub sum_find : (f : ℕ → ℕ) (n : ℕ) → 1 ≤ sum f n → (x : ℕ) × (x < n) × (1 ≤ f x)
unfolding sum
sum_find f zero p = absurd (omega arith)
sum_find f (suc n) p =
    elim (dec_le 1 (f n)) [
      | yes q ↦ (n, omega arith, q)
      | no q ↦ (let y = sum_find f n (omega arith) in (y.0, omega (arith, y.1), y.2))
    ]

-- one term more, as a loop counts
pub sum_next : (f : ℕ → ℕ) (i : ℕ) → sum f (i + 1) ≡ sum f i + f i
unfolding sum
sum_next f i = rw add-one

-- the first half or the second: one below n that has it, or none
pub find : (A B : ℕ → Type 0) → ((i : ℕ) → A i ⊎ B i) → (n : ℕ) → ((i : ℕ) × (i < n) × A i) ⊎ ((i : ℕ) → i < n → B i)
find A B d zero = inr (λ i r. absurd (omega arith))
find A B d (suc n) =
    elim (find A B d n) [
      | inl x ↦ inl (x.0, omega (arith, x.1), x.2)
      | inr f ↦
          elim (d n) [
            | inl a ↦ inl (n, omega arith, a)
            | inr b ↦
                inr
                (λ i r.
                elim (dec_lt i n) [
                  | yes q ↦ f i q
                  | no q ↦ (let e : n ≡ i = omega arith in rw e at b)
                ])
          ]
    ]
