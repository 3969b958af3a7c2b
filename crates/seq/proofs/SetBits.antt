-- A walk over the set bits of a word: f tells what becomes of place i where its bit is set or not, and where it is not the place stays. The
-- walk goes up to the highest set bit, and what comes of it is what comes of all 16 places.
use Rattle.std.proofs.Common.{◌≡◌, ℕ, ◌+◌, ◌<◌, Bool, false, List, get_or, ◌∙◌, arith}
use Rattle.std.proofs.Math.ListN.{set}
use Rattle.seq.specs.Places.{over}
use Rattle.seq.specs.Words.{bit, top_of}
use Rattle.seq.proofs.Places.{over_more, over_at, over_stop}
use Rattle.seq.proofs.Words.{top_clear}

module _ (w : ℕ) (f : Bool → ℕ → ℕ → ℕ) (l : List ℕ) where
  -- the places walked so far
  abbrev pub walked_to : ℕ → List ℕ
  walked_to i = over i (λ j x. f (bit w j) j x) l

  -- one place more, which still held what it held at first
  pub walked_more : (i x : ℕ) (now : List ℕ) → now ≡ walked_to i → x ≡ f (bit w i) i (get_or now i 0) → set now i x ≡ walked_to (i + 1)
  walked_more i x now m e = over_more 0 i _ l now x m (e ∙ rw (over_at 0 i _ l now i m (omega arith)))

  -- from the highest set bit on nothing is left to do
  pub walked_all : w < 65536 → ((j x : ℕ) → f false j x ≡ x) → (i : ℕ) (now : List ℕ) → i ≡ top_of w → now ≡ walked_to i → now ≡ over 16 (λ j x. f (bit w j) j x) l
  walked_all small stays i now e m = m ∙ rw e (over_stop 0 (top_of w) 16 _ l (omega arith) (λ j x g. rw (top_clear w small j g) (stays j x)))
