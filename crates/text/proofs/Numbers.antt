-- Laws of numbers in decimal.
use mathlib.Core.Path.{◌≡◌, refl, ap, ◌∙◌}
use mathlib.Core.Bool.{Bool, true, false}
use mathlib.Core.List.{List, [], ◌∷◌, ◌++◌}
use Prim.Native.Nat.{ℕ, zero, suc, ◌+◌, ◌-◌, ◌*◌, ◌/◌, ◌%◌, ◌^◌, ◌≤◌, ◌<◌}
use native.Mathlib.Omega.{arith}
use borrow.Author.Tests.{ltb-true, ltb-false}
use lib.Dec.{ltb}
use lib.ListN.{length}
use Rattle.seq.specs.Places.{at}
use Rattle.std.specs.Fmt.{decimal as printed}
use Rattle.std.proofs.lemmas.Fmt.{decimal_digit, decimal_step, length-decimal-le}
use Rattle.text.specs.Text.{digit, digits_then, decimal}

-- enough steps are enough
enough : (n m q r : ℕ) → q ≤ n → q ≤ m → digits_then n q r ≡ digits_then m q r
unfolding digits_then
enough zero zero q r h g = refl
enough zero (suc m) zero r h g = refl
enough zero (suc m) (suc q) r h g = absurd (omega arith)
enough (suc n) zero zero r h g = refl
enough (suc n) zero (suc q) r h g = absurd (omega arith)
enough (suc n) (suc m) zero r h g = refl
enough (suc n) (suc m) (suc q) r h g = rw (enough n m (suc q / 10) (suc q % 10) (omega arith) (omega arith))

none_before : (n r : ℕ) → digits_then n 0 r ≡ digit r ∷ []
unfolding digits_then
none_before zero r = refl
none_before (suc n) r = refl

some_before : (n q r : ℕ) → 1 ≤ q → q ≤ n → digits_then n q r ≡ digits_then q (q / 10) (q % 10) ++ digit r ∷ []
unfolding digits_then
some_before zero q r h g = absurd (omega arith)
some_before (suc n) zero r h g = absurd (omega arith)
some_before (suc n) (suc q) r h g = rw (enough n (suc q) (suc q / 10) (suc q % 10) (omega arith) (omega arith))

-- The two cases
pub decimal_one : (x : ℕ) → x < 10 → decimal x ≡ digit x ∷ []
unfolding decimal
decimal_one x h =
    let q : x / 10 ≡ 0 = omega arith in
    let r : x % 10 ≡ x = omega arith in
    rw (q, r) (none_before x x)

pub decimal_more : (x : ℕ) → 9 < x → decimal x ≡ decimal (x / 10) ++ digit (x % 10) ∷ []
unfolding decimal
decimal_more x h = some_before x (x / 10) (x % 10) (omega arith) (omega arith)

-- what holds of one digit, and of one more digit, holds of a number
module _ (P : ℕ → List ℕ → Type 0) (one : (x : ℕ) → x < 10 → P x (digit x ∷ [])) (more : (x : ℕ) (l : List ℕ) → 9 < x → P (x / 10) l → P x (l ++ digit (x % 10) ∷ [])) where
  step : (x : ℕ) (b : Bool) → ltb x 10 ≡ b → (9 < x → P (x / 10) (decimal (x / 10))) → P x (decimal x)
  step x true e h = let g : x < 10 = ltb-true x 10 e in rw (decimal_one x g) (one x g)
  step x false e h = let g : 9 < x = ltb-false x 10 e in rw (decimal_more x g) (more x (decimal (x / 10)) g (h g))

  within : (n x : ℕ) → x ≤ n → P x (decimal x)
  within zero x h = step x (ltb x 10) refl (λ g. absurd (omega arith))
  within (suc n) x h = step x (ltb x 10) refl (λ g. within n (x / 10) (omega arith))

  pub by_digits : (x : ℕ) → P x (decimal x)
  by_digits x = within x x (omega arith)

-- The number that digits say
value_from : ℕ → List ℕ → ℕ
value_from n [] = n
value_from n (d ∷ l) = value_from (n * 10 + (d - 48)) l

pub value_of : List ℕ → ℕ
value_of l = value_from 0 l

value_more : (n : ℕ) (l : List ℕ) (d : ℕ) → value_from n (l ++ d ∷ []) ≡ value_from n l * 10 + (d - 48)
unfolding value_from
value_more n [] d = refl
value_more n (x ∷ l) d = value_more (n * 10 + (x - 48)) l d

-- a number in decimal reads back
pub decimal_value : (x : ℕ) → value_of (decimal x) ≡ x
unfolding value_of value_from
decimal_value =
    by_digits (λ x l. value_from 0 l ≡ x) (λ x h. omega arith) (λ x l h e. rw (value_more 0 l (digit (x % 10)), e) (omega arith))

-- and has no zero in front, unless it is 0
front : (l m : List ℕ) → 48 < at l 0 → 48 < at (l ++ m) 0
front [] m h = absurd (omega arith)
front (x ∷ l) m h = h

pub decimal_front : (x : ℕ) → 0 < x → 48 < at (decimal x) 0
decimal_front =
    by_digits (λ x l. 0 < x → 48 < at l 0) (λ x h g. omega arith) (λ x l h f g. front l (digit (x % 10) ∷ []) (f (omega arith)))

-- and only digits
abbrev pub Digit : ℕ → Type 0
Digit x = (48 ≤ x) × (x ≤ 57)

one_more : (l : List ℕ) (d : ℕ) → Digit d → ((i : ℕ) → i < length l → Digit (at l i)) → (i : ℕ) → i < length (l ++ d ∷ []) → Digit (at (l ++ d ∷ []) i)
one_more [] d g f zero h = g
one_more [] d g f (suc i) h = absurd (omega arith)
one_more (x ∷ l) d g f zero h = f 0 (omega arith)
one_more (x ∷ l) d g f (suc i) h = one_more l d g (λ j k. f (suc j) (omega arith)) i (omega arith)

pub decimal_digits : (x i : ℕ) → i < length (decimal x) → Digit (at (decimal x) i)
decimal_digits =
    by_digits (λ x l. (i : ℕ) → i < length l → Digit (at l i)) (λ x h. one_more [] (digit x) (omega arith) (λ i k. absurd (omega arith))) (λ x l h f. one_more l (digit (x % 10)) (omega arith) f)

-- What std prints of a number is its digits
pub decimal_std : (x : ℕ) → x < 2 ^ 64 → printed x ≡ decimal x
decimal_std =
    by_digits (λ x l. x < 2 ^ 64 → printed x ≡ l) (λ x h g. decimal_digit x h) (λ x l h f g. decimal_step x (omega arith) g ∙ ap (λ (m : List ℕ). m ++ digit (x % 10) ∷ []) (f (omega arith)))

-- so there are twenty at most
pub decimal_twenty : (x : ℕ) → x < 2 ^ 64 → length (decimal x) ≤ 20
decimal_twenty x h = rw (← decimal_std x h) (length-decimal-le 20 x (omega arith) (omega arith) h)
