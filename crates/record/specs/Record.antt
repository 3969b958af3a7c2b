-- The record of a table, big-endian: a version byte 1; two bytes with the number of bytes that follow them; a byte n; then n rows of C, T, D.
use Rattle.std.specs.Prelude.{ℕ, zero, suc, ◌+◌, ◌*◌, ◌-◌, List, [], ◌∷◌, ◌++◌, ◌&&◌, not, eqb, ltb, length, drop, replicate}
use Rattle.seq.specs.Places.{at, over}
use Rattle.seq.specs.Bytes.{big_at, big_bytes}
use Rattle.table.specs.declared.Table.{Table}
use Rattle.table.specs.declared.Row.{Row}
use Rattle.table.specs.declared.Refusal.TheVariants.{RecordShort, VersionUnknown, LengthWrong, BufferShort}
use Rattle.record.specs.declared.Reading.{Reading}
use Rattle.record.specs.declared.Written.{Written}
use Rattle.table.specs.Verdicts.{Verdict, refuse, ◌and_then◌, taken}
use Rattle.table.specs.Form.{form_of, no_table}

-- the place of row i, and the length of a record of n rows
abbrev pub row_place : ℕ → ℕ
row_place i = 4 + 6 * i

-- Reading: a row's six bytes, and the table that a record's bytes spell
abbrev pub row_spelt : List ℕ → Row
row_spelt p = record { c = big_at p 0; t = big_at p 2; d = big_at p 4 }

-- the numbers at place p of its first n rows, of 16 places
unfoldable pub column : List ℕ → ℕ → ℕ → List ℕ
column s n p = over n (λ i x. big_at s (row_place i + p)) (replicate 16 0)

unfoldable pub rows_spelt : List ℕ → ℕ → Table
rows_spelt s n = record { n = at s 3; c = column s n 0; t = column s n 2; d = column s n 4 }

unfoldable pub spelt : List ℕ → Table
spelt s = rows_spelt s (at s 3)

-- refusals 1, 2 and 3
unfoldable pub head_verdict : List ℕ → Verdict
head_verdict s =
    refuse (ltb (length s) 4) RecordShort
    and_then refuse (not (eqb (at s 0) 1)) VersionUnknown
    and_then refuse (not (eqb (big_at s 1) (length s - 3) && eqb (big_at s 1) (1 + 6 * at s 3))) LengthWrong

unfoldable pub read_verdict : List ℕ → Verdict
read_verdict s = head_verdict s and_then form_of (spelt s)

unfoldable pub read_of : List ℕ → Reading
read_of s = record { verdict = read_verdict s; table = taken (read_verdict s) (spelt s) no_table }

-- Writing: the record of a table
abbrev pub row_bytes : Table → ℕ → List ℕ
row_bytes x i = big_bytes (at x.c i) ++ big_bytes (at x.t i) ++ big_bytes (at x.d i)

-- of its first rows
unfoldable pub rows_bytes : Table → ℕ → List ℕ
rows_bytes x zero = []
rows_bytes x (suc i) = rows_bytes x i ++ row_bytes x i

abbrev pub head_bytes : ℕ → List ℕ
head_bytes n = 1 ∷ (big_bytes (1 + 6 * n) ++ n ∷ [])

unfoldable pub record_of : Table → List ℕ
record_of x = head_bytes x.n ++ rows_bytes x x.n

-- refusals 4, 5, 6 and 12, for a buffer with so much room
unfoldable pub write_verdict : Table → ℕ → Verdict
write_verdict x room = form_of x and_then refuse (ltb room (row_place x.n)) BufferShort

unfoldable pub written_of : Table → ℕ → Written
written_of x room = record { verdict = write_verdict x room; length = taken (write_verdict x room) (row_place x.n) 0 }

-- the lent buffer afterwards
unfoldable pub buffer_of : Table → List ℕ → List ℕ
buffer_of x b = taken (write_verdict x (length b)) (record_of x ++ drop (row_place x.n) b) b
