-- Laws of numbers of two bytes, at any place.
use mathlib.Core.Path.{◌≡◌, sym, refl, ap, ◌∙◌}
use mathlib.Core.List.{List, [], ◌∷◌, ◌++◌}
use Prim.Native.Nat.{ℕ, zero, suc, ◌+◌, ◌*◌, ◌/◌, ◌%◌, ◌<◌, ◌-◌, ◌≤◌, min}
use native.Mathlib.Nat.{div-add-mod', add_assoc}
use native.Mathlib.Numerals.{add-one}
use native.Mathlib.Omega.{arith}
use lib.ListN.{length, take, drop, set, take-append-drop}
use lib.Seq.{get_or-take, get_or-drop, sets, get_or-append-add, drop-cons, set_out, length-sets, length-take-le, take_all}
use mathlib.Core.Bool.{Bool, true, false}
use borrow.Author.Tests.{leb-true, leb-false}
use lib.Dec.{leb}
use Rattle.seq.specs.Places.{at}
use Rattle.seq.specs.Bytes.{big_at, big_bytes, Bytes}

-- in a part of a list, that starts at p
pub big_part : (m p : ℕ) (l : List ℕ) (q : ℕ) → q + 1 < m → big_at (take m (drop p l)) q ≡ big_at l (p + q)
big_part m p l q h =
    rw (get_or-take m (drop p l) q 0 (omega arith), get_or-take m (drop p l) (q + 1) 0 h, get_or-drop p l q 0, get_or-drop p l (q + 1) 0, add_assoc p q 1)

-- in the part that starts at p and has all that follows
-- behind a list that is p long
pub big_behind : (s l : List ℕ) (q : ℕ) → big_at (s ++ l) (length s + q) ≡ big_at l q
big_behind s l q =
    rw (get_or-append-add s l q 0, add_assoc (length s) q 1, get_or-append-add s l (q + 1) 0)

-- bytes behind bytes
pub sets_sets : (a l b : List ℕ) (i j : ℕ) → j ≡ i + length a → sets (sets l i a) j b ≡ sets l i (a ++ b)
sets_sets [] l b i j e = let k : j ≡ i = omega arith in rw k
sets_sets (x ∷ a) l b i j e = sets_sets a (set l i x) b (suc i) j (omega arith)

-- past the end nothing is stored
pub sets_past : (a l : List ℕ) (i : ℕ) → length l ≤ i → sets l i a ≡ l
sets_past [] l i h = refl
sets_past (x ∷ a) l i h = rw (set_out l i x h) (sets_past a l (suc i) (omega arith))

-- bytes behind bytes, of which as many are stored as there is room for
pub sets_cut : (a l b : List ℕ) (i j : ℕ) → j ≡ i + min (length a) (length l - i) → sets (sets l i a) j b ≡ sets l i (a ++ b)
sets_cut a l b i j e = go (leb (i + length a) (length l)) refl
  where
    go : (t : Bool) → leb (i + length a) (length l) ≡ t → sets (sets l i a) j b ≡ sets l i (a ++ b)
    go true h = sets_sets a l b i j (omega (arith, leb-true (i + length a) (length l) h))
    go false h =
        let g : length l < i + length a = leb-false (i + length a) (length l) h in
        sets_past b (sets l i a) j (rw (length-sets l i a) (omega arith)) ∙ sym (sets_past b (sets l i a) (i + length a) (rw (length-sets l i a) (omega arith))) ∙ sets_sets a l b i (i + length a) refl

-- it is enough to store as many as there is room for
pub sets_room : (a l : List ℕ) (i n : ℕ) → n ≡ min (length a) (length l - i) → sets l i (take n a) ≡ sets l i a
sets_room a l i n e = go (leb (i + length a) (length l)) refl
  where
    k : length (take n a) ≡ n
    k = length-take-le n a (omega arith)

    go : (t : Bool) → leb (i + length a) (length l) ≡ t → sets l i (take n a) ≡ sets l i a
    go true h = rw (take_all n a (omega (arith, leb-true (i + length a) (length l) h)))
    go false h =
        let g : length l < i + length a = leb-false (i + length a) (length l) h in
        sym (sets_past (drop n a) (sets l i (take n a)) (i + n) (rw (length-sets l i (take n a)) (omega arith)))
        ∙ sets_sets (take n a) l (drop n a) i (i + n) (rw k)
        ∙ ap (λ (v : List ℕ). sets l i v) (take-append-drop n a)

-- a number is its bytes, and two bytes are their number's
pub big_bytes_lem : (x : ℕ) → x / 256 * 256 + x % 256 ≡ x
big_bytes_lem x = div-add-mod' x 256

pub bytes_big : (a b : ℕ) → b < 256 → big_bytes (a * 256 + b) ≡ a ∷ b ∷ []
bytes_big a b h =
    let q : (a * 256 + b) / 256 ≡ a = omega arith in
    let r : (a * 256 + b) % 256 ≡ b = omega arith in
    rw (q, r)

-- bytes of a list, and the number that they spell
pub part_one : (l : List ℕ) (p : ℕ) → p < length l → take 1 (drop p l) ≡ at l p ∷ []
part_one l p h = rw (drop-cons l p 0 h)

pub part_big : (l : List ℕ) (p : ℕ) → Bytes l → p + 1 < length l → take 2 (drop p l) ≡ big_bytes (big_at l p)
part_big l p b h =
    rw (drop-cons l p 0 (omega arith), drop-cons l (suc p) 0 (omega arith), ← add-one p) (sym (bytes_big (at l p) (at l (p + 1)) (b (p + 1) h)))

pub append_bytes : (a b : List ℕ) → Bytes a → Bytes b → Bytes (a ++ b)
append_bytes [] b p q i h = q i h
append_bytes (x ∷ a) b p q zero h = p 0 (omega arith)
append_bytes (x ∷ a) b p q (suc i) h = append_bytes a b (λ j g. p (suc j) (omega arith)) q i (omega arith)

pub one_byte : (x : ℕ) → x < 256 → Bytes (x ∷ [])
one_byte x h zero g = h
one_byte x h (suc i) g = absurd (omega arith)

pub big_in_bytes : (x : ℕ) → x < 65536 → Bytes (big_bytes x)
big_in_bytes x h zero g = omega arith
big_in_bytes x h (suc zero) g = omega arith
big_in_bytes x h (suc (suc i)) g = absurd (omega arith)
