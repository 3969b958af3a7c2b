-- A use as two numbers, for callers that have no cases, and back.
use Rattle.std.specs.Prelude.{ℕ, cond, eqb}
use Rattle.uses.specs.declared.Use.{Use}
use Rattle.uses.specs.declared.Use.TheVariants.{Hard, Given, Empty, Lost}

-- 0 empty, 1 hard, 2 given, 3 lost
abbrev pub use_number : Use → ℕ
use_number (Hard row) = 1
use_number (Given name) = 2
use_number Empty = 0
use_number Lost = 3

-- the row's number from 1 on, or the request's name; 0 for neither
abbrev pub use_who : Use → ℕ
use_who (Hard row) = row
use_who (Given name) = name
use_who Empty = 0
use_who Lost = 0

-- and back, where the head request has this name
abbrev pub use_told : ℕ → ℕ → ℕ → Use
use_told number row name = cond (eqb number 1) (Hard row) (cond (eqb number 2) (Given name) (cond (eqb number 3) Lost Empty))
