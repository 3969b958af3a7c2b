-- A word made from its last bit on.
use mathlib.Core.Path.{◌≡◌, refl}
use mathlib.Core.Bool.{Bool, false}
use Prim.Native.Nat.{ℕ, suc, ◌+◌, ◌*◌, ◌^◌, ◌≤◌, ◌<◌}
use native.Mathlib.Omega.{arith}
use native.Mathlib.Nat.{lt_of_lt_of_le}
use lib.ListN.{length, drop, length-drop, drop_of_length-le}
use lib.Seq.{drop-cons}
use lib.Pow.{pow_mono}
use Rattle.seq.specs.Places.{flag, tab}
use Rattle.seq.specs.Words.{word}
use Rattle.seq.proofs.Places.{tab_length, tab_at}
use Rattle.seq.proofs.Words.{word_lt}

-- the bits from place i on, as a word
module _ (n : ℕ) (f : ℕ → Bool) where
  unfoldable pub rest : ℕ → ℕ
  rest i = word (drop i (tab n f))

  pub rest_none : (i : ℕ) → n ≤ i → rest i ≡ 0
  unfolding rest word
  rest_none i h = rw (drop_of_length-le (tab n f) {i = i} (rw (tab_length n f) h))

  pub rest_more : (i : ℕ) → i < n → rest i ≡ flag (f i) + 2 * rest (suc i)
  unfolding rest word
  rest_more i h =
      let e : i < length (tab n f) = rw (tab_length n f) h in
      rw (drop-cons (tab n f) i false e, tab_at n f i false h)

  pub rest_low : (i : ℕ) → n ≤ 16 → 1 ≤ i → rest i < 2 ^ 15
  unfolding rest
  rest_low i h g =
      let e : length (drop i (tab n f)) ≤ 15 = omega (arith, length-drop i (tab n f), tab_length n f) in
      lt_of_lt_of_le (word_lt (drop i (tab n f))) (pow_mono e)

  pub rest_all : rest 0 ≡ word (tab n f)
  unfolding rest
  rest_all = refl
