-- Each line fits its 128 places, so that a line says exactly its bytes.
use mathlib.Core.Path.{◌≡◌}
use mathlib.Core.List.{List}
use Prim.Native.Nat.{ℕ, ◌+◌, ◌^◌, ◌≤◌, ◌<◌}
use native.Mathlib.Omega.{arith}
use borrow.Author.Tests.{le-leb}
use lib.ListN.{length, length-append}
use lib.Seq.{sets}
use Rattle.text.specs.Text.{line_of, said, with_text, behind}
use Rattle.lines.specs.Lines.{use_text, slot_line, refused_line, bad_line, total_line, long_line}
use Rattle.uses.specs.declared.Use.{Use}
use Rattle.uses.specs.declared.Use.TheVariants.{Hard, Given, Empty, Lost}
use Rattle.text.proofs.Numbers.{decimal_twenty}
use Rattle.text.proofs.Laid.{line_said}

-- the number behind the letter
abbrev pub use_number : Use → ℕ
use_number (Hard row) = row
use_number (Given name) = name
use_number Empty = 0
use_number Lost = 0

use_fits : (used : Use) → use_number used < 2 ^ 64 → length (use_text used) ≤ 21
unfolding use_text
use_fits (Hard row) h = omega (arith, decimal_twenty row h)
use_fits (Given name) h = omega (arith, decimal_twenty name h)
use_fits Empty h = omega arith
use_fits Lost h = omega arith

-- Each line, at all numbers of 64 bits
pub slot_fits : (slot : ℕ) (used : Use) (word : ℕ) → slot < 2 ^ 64 → use_number used < 2 ^ 64 → word < 2 ^ 64 → length (slot_line slot used word) ≤ 128
slot_fits slot used word h g f =
    simp length-append (omega (arith, decimal_twenty slot h, use_fits used g, decimal_twenty word f))

pub refused_fits : (number row : ℕ) → number < 2 ^ 64 → row < 2 ^ 64 → length (refused_line number row) ≤ 128
refused_fits number row h g = simp length-append (omega (arith, decimal_twenty number h, decimal_twenty row g))

pub bad_fits : (offset : ℕ) → offset < 2 ^ 64 → length (bad_line offset) ≤ 128
bad_fits offset h = simp length-append (omega (arith, decimal_twenty offset h))

pub total_fits : (hard given empty lost late : ℕ) → hard < 2 ^ 64 → given < 2 ^ 64 → empty < 2 ^ 64 → lost < 2 ^ 64 → late < 2 ^ 64 → length (total_line hard given empty lost late) ≤ 128
total_fits hard given empty lost late a b c d e =
    simp length-append (omega (arith, decimal_twenty hard a, decimal_twenty given b, decimal_twenty empty c, decimal_twenty lost d, decimal_twenty late e))

pub long_fits : length long_line ≤ 128
long_fits = omega arith

-- In a buffer with 128 places left, a line that fits its places is stored whole
module _ (out : List ℕ) (p : ℕ) (l : List ℕ) (h : length l ≤ 128) (g : p + 128 ≤ length out) where
  pub stored : with_text out p (said (line_of l)) ≡ sets out p l
  unfolding with_text
  stored = rw (line_said l h, le-leb (p + length l) (length out) (omega arith))

  pub stored_behind : behind out p (said (line_of l)) ≡ p + length l
  unfolding behind
  stored_behind = rw (line_said l h, le-leb (p + length l) (length out) (omega arith))
