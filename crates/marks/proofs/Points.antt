-- The figures of row i after each step that a word of bits decides.
use mathlib.Core.Path.{◌≡◌, ap, ◌∙◌}
use mathlib.Core.List.{List}
use mathlib.Core.Bool.{Bool, false, cond, ◌&&◌}
use Prim.Native.Nat.{ℕ, ◌≤◌, ◌<◌}
use native.Mathlib.Omega.{arith}
use lib.ListN.{length}
use lib.Dec.{ltb}
use lib.Count.{ones}
use Rattle.seq.specs.Places.{at, tab}
use Rattle.seq.specs.Words.{trues, bit}
use Rattle.seq.proofs.Places.{over_in}
use Rattle.seq.proofs.Words.{ones_word, tab_bit, tab_bit_past}
use Rattle.rows.specs.Rows.{rows_of, released}
use Rattle.marks.specs.Words.{begins, ends, due_word, end_word, late_word}

module _ (i : ℕ) where
  module _ (m n : ℕ) (h : i < rows_of n) where
    pub released_at : (t c left : List ℕ) → i < length left → at (released (due_word m n t) c left) i ≡ cond (begins m (at t i)) (at c i) (at left i)
    unfolding released due_word
    released_at t c left g = over_in 0 16 _ left i (omega arith) g ∙ ap (λ (b : Bool). cond b (at c i) (at left i)) (tab_bit (rows_of n) (λ i. begins m (at t i)) i h)

    pub late_at : (t d left : List ℕ) → bit (late_word (end_word m n t d) left) i ≡ ends m (at t i) (at d i) && ltb 0 (at left i)
    unfolding late_word end_word
    late_at t d left = tab_bit 16 _ i (omega arith) ∙ ap (λ (b : Bool). b && ltb 0 (at left i)) (tab_bit (rows_of n) (λ i. ends m (at t i) (at d i)) i h)

  -- past the rows none is late
  pub late_past : (m n : ℕ) (t d left : List ℕ) → n ≤ i → i < 16 → bit (late_word (end_word m n t d) left) i ≡ false
  unfolding late_word end_word
  late_past m n t d left h g = tab_bit 16 _ i g ∙ ap (λ (b : Bool). b && ltb 0 (at left i)) (tab_bit_past (rows_of n) (λ i. ends m (at t i) (at d i)) i (omega arith))

-- the count of ones is the number of late rows
pub late_rows : (end : ℕ) (left : List ℕ) → ones (late_word end left) ≡ trues (tab 16 (λ i. bit end i && ltb 0 (at left i)))
unfolding late_word
late_rows end left = ones_word _
