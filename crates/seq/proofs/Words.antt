-- Laws of words of bits.
use mathlib.Core.Path.{◌≡◌, refl}
use mathlib.Core.List.{List, [], ◌∷◌, ◌++◌}
use mathlib.Core.Bool.{Bool, true, false}
use Prim.Native.Nat.{ℕ, zero, suc, ◌+◌, ◌*◌, ◌/◌, ◌%◌, ◌^◌, ◌≤◌, ◌<◌}
use native.Mathlib.Numerals.{add-one}
use native.Mathlib.Omega.{arith}
use native.Mathlib.Nat.{pow-suc, mul_comm, mul_assoc, add-zero, div-div-eq-div-mul, div-eq_of_lt, lt_of_lt_of_le}
use lib.ListN.{length, get_or, get_or-eq_default}
use lib.Bits.{bit_or, or_shifted, or_shifted_r}
use lib.Pow.{pow_pos, pow_mono, shl_exact}
use lib.Count.{ones, ones_step, leading_length}
use lib.Dec.{eqb}
use Rattle.seq.specs.Places.{flag, tab}
use Rattle.seq.specs.Words.{word, trues, bit, top_of}
use Rattle.seq.proofs.Places.{tab_length, tab_at, tab_suc}

-- words
pub flag_le : (b : Bool) → flag b ≤ 1
flag_le true = omega arith
flag_le false = omega arith

low : (b : Bool) (n : ℕ) → (flag b + 2 * n) % 2 ≡ flag b
low b n = omega (arith, flag_le b)

high : (b : Bool) (n : ℕ) → (flag b + 2 * n) / 2 ≡ n
high b n = omega (arith, flag_le b)

flag_one : (b : Bool) → eqb (flag b) 1 ≡ b
flag_one true = refl
flag_one false = refl

-- the count of ones of a word is the number of its flags
pub ones_word : (l : List Bool) → ones (word l) ≡ trues l
unfolding word trues ones
ones_word [] = refl
ones_word (b ∷ l) = rw (ones_step (flag b + 2 * word l), low, high, ones_word l)

bit_flag : (l : List Bool) (i : ℕ) → word l / 2 ^ i % 2 ≡ flag (get_or l i false)
unfolding word
bit_flag [] i = rw (div-eq_of_lt (pow_pos i))
bit_flag (b ∷ l) zero = omega (arith, flag_le b)
bit_flag (b ∷ l) (suc i) = rw (pow-suc 2 i, mul_comm (2 ^ i) 2, ← div-div-eq-div-mul, high b, bit_flag l i)

-- bit i of a word is flag i
pub word_bit : (l : List Bool) (i : ℕ) → bit (word l) i ≡ get_or l i false
unfolding bit
word_bit l i = rw (bit_flag l i) (flag_one (get_or l i false))

word_append : (a b : List Bool) → word (a ++ b) ≡ word a + 2 ^ length a * word b
unfolding word
word_append [] b = omega arith
word_append (x ∷ a) b = rw (word_append a b, pow-suc 2 (length a), mul_comm (2 ^ length a) 2, mul_assoc) (omega arith)

pub word_lt : (l : List Bool) → word l < 2 ^ length l
unfolding word
word_lt [] = omega arith
word_lt (b ∷ l) = rw (pow-suc 2 (length l)) (omega (arith, word_lt l, flag_le b))

pub tab_word_lt : (i : ℕ) (f : ℕ → Bool) → word (tab i f) < 2 ^ i
tab_word_lt i f = rw (tab_length i f) at (word_lt (tab i f))

-- one more bit, at its place
pub tab_word_more : (i : ℕ) (f : ℕ → Bool) → word (tab (i + 1) f) ≡ word (tab i f) + 2 ^ i * flag (f i)
unfolding word
tab_word_more i f = rw (add-one i, tab_suc, word_append, tab_length i f, add-zero (flag (f i)))

pub tab_bit : (n : ℕ) (f : ℕ → Bool) (i : ℕ) → i < n → bit (word (tab n f)) i ≡ f i
tab_bit n f i h = rw (word_bit (tab n f) i) (tab_at n f i false h)

pub tab_bit_past : (n : ℕ) (f : ℕ → Bool) (i : ℕ) → n ≤ i → bit (word (tab n f)) i ≡ false
tab_bit_past n f i h = rw (word_bit (tab n f) i) (get_or-eq_default (tab n f) false (rw (tab_length n f) h))

pub or_bit : (w i : ℕ) → w < 2 ^ i → i < 16 → bit_or w (1 * 2 ^ i % 2 ^ 16) ≡ w + 2 ^ i
or_bit w i h l = rw (shl_exact {a = 1} 1 i 16 (omega arith) (omega arith), or_shifted_r 1 i w h) (omega arith)

pub shifted_up : (w : ℕ) → w < 2 ^ 15 → w * 2 ^ 1 % 2 ^ 16 ≡ w * 2 ^ 1
shifted_up w h = shl_exact {a = w} 15 1 16 h (omega arith)

pub or_low : (w : ℕ) → w < 2 ^ 15 → bit_or (w * 2 ^ 1 % 2 ^ 16) 1 ≡ 1 + 2 * w
or_low w h = rw (shifted_up w h, or_shifted w 1 1 (omega arith)) (omega arith)

-- a word of 16 bits has none further on
pub bit_past : (w i : ℕ) → w < 65536 → 16 ≤ i → bit w i ≡ false
unfolding bit
bit_past w i small h = rw (div-eq_of_lt (lt_of_lt_of_le (let s : w < 2 ^ 16 = omega arith in s) (pow_mono {i = 16} {j = i} h)))

pub bit_zero : (i : ℕ) → bit 0 i ≡ false
unfolding word
bit_zero i = word_bit [] i

pub tab_word_none : (n : ℕ) (f : ℕ → Bool) → ((i : ℕ) → f i ≡ false) → word (tab n f) ≡ 0
unfolding word tab
tab_word_none zero f e = refl
tab_word_none (suc n) f e = rw (e 0, tab_word_none n (λ i. f (suc i)) (λ i. e (suc i)))

-- no bit is set from the top on
pub top_low : (w : ℕ) → w < 65536 → w < 2 ^ top_of w
top_low w h =
    let y = leading_length 16 w h in
    let e : top_of w ≡ y.0 = omega (arith, y.1) in
    rw e y.2

pub top_clear : (w : ℕ) → w < 65536 → (j : ℕ) → top_of w ≤ j → bit w j ≡ false
unfolding bit
top_clear w h j g = rw (div-eq_of_lt (lt_of_lt_of_le (top_low w h) (pow_mono g)))

-- flags that are false from n on add nothing to a word
pub word_stop : (n k : ℕ) (f : ℕ → Bool) → ((j : ℕ) → n ≤ j → f j ≡ false) → word (tab (n + k) f) ≡ word (tab n f)
word_stop n zero f h = rw (add-zero n)
word_stop n (suc k) f h =
    let e : n + suc k ≡ n + k + 1 = omega arith in
    rw (e, tab_word_more (n + k) f, h (n + k) (omega arith), word_stop n k f h) (mul_none (2 ^ (n + k)) (word (tab n f)))
  where
    mul_none : (a b : ℕ) → b + a * 0 ≡ b
    mul_none a b = omega arith
