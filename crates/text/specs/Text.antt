-- Text and numbers as bytes, and a line of them in 128 places.
use Rattle.std.specs.Prelude.{ℕ, zero, suc, ◌+◌, ◌-◌, ◌/◌, ◌%◌, min, List, [], ◌∷◌, ◌++◌, Bool, cond, leb, length, take, replicate}
use Prim.Native.Char.{code}
use Prim.Native.String.{String, [] as no_more, ◌∷◌ as ◌then◌}
use Rattle.std.proofs.lemmas.List.Edits.{sets}
use Rattle.text.specs.declared.Line.{Line}

-- the bytes of a text
abbrev pub text : String → List ℕ
text no_more = []
text (x then s) = code x ∷ text s

-- the digit of a number below 10: 48 is the byte of 0
abbrev pub digit : ℕ → ℕ
digit x = 48 + x

-- the digits of q, and r behind them, where n steps are enough
unfoldable pub digits_then : ℕ → ℕ → ℕ → List ℕ
digits_then zero q r = digit r ∷ []
digits_then (suc n) zero r = digit r ∷ []
digits_then (suc n) (suc q) r = digits_then n (suc q / 10) (suc q % 10) ++ digit r ∷ []

-- a number in decimal: no zeros in front, and 0 is one digit
unfoldable pub decimal : ℕ → List ℕ
decimal x = digits_then x (x / 10) (x % 10)

-- The layout: the line's bytes in the first of 128 places, then zeros. More behind a line; what is past the last place is left out
unfoldable pub extended : Line → List ℕ → Line
extended line t =
    record { bytes = sets line.bytes line.length t; length = line.length + min (length t) (128 - line.length) }

abbrev pub empty_line : Line
empty_line = record { bytes = replicate 128 0; length = 0 }

unfoldable pub line_of : List ℕ → Line
line_of l = extended empty_line l

-- what a line says
abbrev pub said : Line → List ℕ
said line = take line.length line.bytes

-- A buffer with t at place p, and the place behind it; as they were where t does not fit whole
abbrev pub fits : List ℕ → ℕ → List ℕ → Bool
fits out p t = leb (p + length t) (length out)

unfoldable pub with_text : List ℕ → ℕ → List ℕ → List ℕ
with_text out p t = cond (fits out p t) (sets out p t) out

unfoldable pub behind : List ℕ → ℕ → List ℕ → ℕ
behind out p t = cond (fits out p t) (p + length t) p
