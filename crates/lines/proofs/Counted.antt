-- Counts behind a text, one after another.
use Rattle.std.proofs.Common.{◌≡◌, refl, ℕ, ◌+◌, ◌<◌, length, List, [], ◌∷◌, ◌++◌}
use lib.Seq.{take-suc}
use lib.ListN.{take, get_or}
use native.Mathlib.Numerals.{add-one}
use Rattle.lines.specs.Lines.{spaced}

abbrev pub counted : List ℕ → List ℕ → List ℕ
counted l [] = l
counted l (x ∷ s) = counted (l ++ spaced x) s

counted_last : (s l : List ℕ) (x : ℕ) → counted l (s ++ x ∷ []) ≡ counted l s ++ spaced x
counted_last [] l x = refl
counted_last (y ∷ s) l x = counted_last s (l ++ spaced y) x

pub counted_more : (s l : List ℕ) (i : ℕ) → i < length s → counted l (take (i + 1) s) ≡ counted l (take i s) ++ spaced (get_or s i 0)
counted_more s l i h = rw (add-one i, take-suc s i 0 h) (counted_last (take i s) l (get_or s i 0))
