-- The lines that the listing prints, as bytes.
use Rattle.std.specs.Prelude.{ℕ, List, ◌++◌}
use Rattle.text.specs.Text.{text, decimal}
use Rattle.uses.specs.declared.Use.{Use}
use Rattle.uses.specs.declared.Use.TheVariants.{Hard, Given, Empty, Lost}

abbrev pub spaced : ℕ → List ℕ
spaced x = text " " ++ decimal x

-- H and the row, N and the name, E, L
unfoldable pub use_text : Use → List ℕ
use_text (Hard row) = text "H" ++ decimal row
use_text (Given name) = text "N" ++ decimal name
use_text Empty = text "E"
use_text Lost = text "L"

-- The lines
abbrev pub slot_line : ℕ → Use → ℕ → List ℕ
slot_line slot used word = decimal slot ++ text " " ++ use_text used ++ spaced word ++ text "\n"

abbrev pub refused_line : ℕ → ℕ → List ℕ
refused_line number row = text "refused" ++ spaced number ++ spaced row ++ text "\n"

abbrev pub bad_line : ℕ → List ℕ
bad_line offset = text "bad" ++ spaced offset ++ text "\n"

abbrev pub total_line : ℕ → ℕ → ℕ → ℕ → ℕ → List ℕ
total_line hard given empty lost late =
    text "total" ++ spaced hard ++ spaced given ++ spaced empty ++ spaced lost ++ spaced late ++ text "\n"

abbrev pub long_line : List ℕ
long_line = text "long\n"
