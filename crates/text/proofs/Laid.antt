-- Laws of lines in their layout.
use mathlib.Core.Path.{◌≡◌, refl}
use mathlib.Core.List.{List, [], ◌∷◌, ◌++◌, append_assoc}
use Prim.Native.Nat.{ℕ, ◌+◌, ◌-◌, ◌≤◌, ◌<◌, min}
use native.Mathlib.Omega.{arith}
use lib.ListN.{length, replicate, take, drop, length-append}
use lib.Seq.{sets, sets-eq, take_at, length-take-le}
use borrow.Author.Tests.{le-leb, lt-leb}
use lib.Dec.{leb}
use Rattle.std.proofs.lemmas.List.{drop-drop}
use Rattle.std.proofs.lemmas.Bool.{cond_both}
use borrow.Rule.Slice.PartMut.{put_mid}
use Rattle.seq.proofs.Bytes.{sets_cut, sets_room}
use Rattle.text.specs.Text.{empty_line, line_of, extended, said, behind, with_text}
use Rattle.text.specs.declared.Line.{Line}

-- More behind a line, and more again
places : (n a b : ℕ) → n + min a (128 - n) + min b (128 - (n + min a (128 - n))) ≡ n + min (a + b) (128 - n)
places n a b = omega arith

pub extended_twice : (line : Line) (s t : List ℕ) → length line.bytes ≡ 128 → extended (extended line s) t ≡ extended line (s ++ t)
unfolding extended
extended_twice line s t h =
    let n = line.length in
    let f : n + min (length s) (128 - n) ≡ n + min (length s) (length line.bytes - n) = rw h in
    rw (sets_cut s line.bytes t n _ f, length-append s t, places n (length s) (length t))

-- a line is made piece by piece
pub line_put : (l t : List ℕ) → extended (line_of l) t ≡ line_of (l ++ t)
unfolding line_of
line_put l t = extended_twice empty_line l t refl

-- What a line says, where it fits
pub line_said : (l : List ℕ) → length l ≤ 128 → said (line_of l) ≡ l
unfolding line_of extended
line_said l h =
    let e : 0 + min (length l) (128 - 0) ≡ length l = omega arith in
    rw (e, sets-eq l (replicate 128 0) 0 (omega arith)) (take_at l _ (length l) refl)

-- A text in a buffer, of which as much is stored as there is room for
pub part_set : (t out now : List ℕ) (p n k : ℕ) → n ≡ min (length t) (length out - p) → p < length out → k ≡ n → now ≡ take n t → put_mid p k out now ≡ sets out p t
part_set t out now p n k e h f g =
    let y : length (take n t) ≡ n = length-take-le n t (omega arith) in
    rw (g, f, ← sets_room t out p n e, sets-eq (take n t) out p (rw y (omega arith)), y, append_assoc (take p out) (take n t) (drop (p + n) out), drop-drop n p out)

-- with room for all of it
pub part_whole : (t out : List ℕ) (p : ℕ) → length t ≤ length out - p → (p + min (length t) (length out - p) ≡ behind out p t) × (sets out p t ≡ with_text out p t)
unfolding behind with_text
part_whole [] out p h =
    let t = leb (p + 0) (length out) in
    (cond_both t (p + 0) p (λ q. p + min 0 (length out - p) ≡ q) (λ e. omega arith) (λ e. omega arith), cond_both t out out (λ l. out ≡ l) (λ e. refl) (λ e. refl))
part_whole (x ∷ t) out p h = rw (le-leb (p + length (x ∷ t)) (length out) (omega arith)) (omega arith, refl)

pub part_none : (t out : List ℕ) (p : ℕ) → length out - p < length t → (p ≡ behind out p t) × (out ≡ with_text out p t)
unfolding behind with_text
part_none t out p h = rw (lt-leb (p + length t) (length out) (omega arith)) (refl, refl)
