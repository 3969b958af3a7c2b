-- What is proved of records. Each statement is a type; proofs/Theorems.antt gives a proof of each, under the same name in small letters.
use Rattle.std.specs.Prelude.{◌≡◌, List, ◌↔◌, ℕ, length, take, drop}
use Rattle.seq.specs.Bytes.{Bytes}
use Rattle.table.specs.declared.Table.{Table}
use Rattle.table.specs.Verdicts.{Verdict, Taken}
use Rattle.table.specs.Form.{form_of}
use Rattle.record.specs.Record.{read_verdict, read_of, record_of, write_verdict, written_of, buffer_of}
use Rattle.record.specs.Refusals.{ReadSays, WriteSays}

-- Each number, with its row, is given exactly when document 01's table says so.
abbrev pub ReadGives : Type 0
ReadGives = (s : List ℕ) (v : Verdict) → (read_verdict s ≡ v) ↔ ReadSays s v

abbrev pub WriteGives : Type 0
WriteGives = (x : Table) (room : ℕ) (v : Verdict) → (write_verdict x room ≡ v) ↔ WriteSays x room v

-- Round trips.

-- a table by value has 16 places for each figure
abbrev pub Columns : Table → Type 0
Columns x = (length x.c ≡ 16) × (length x.t ≡ 16) × (length x.d ≡ 16)

-- Reading what was written gives the table back.
abbrev pub ReadsBack : Type 0
ReadsBack = (x : Table) → Columns x → form_of x ≡ Taken → read_of (record_of x) ≡ record { verdict = Taken; table = x }

-- Also out of the buffer: its first bytes, as many as the writer says, read to the table whatever stood there before.
abbrev pub BufferReadsBack : Type 0
BufferReadsBack =
    (x : Table) (b : List ℕ) → Columns x → (written_of x (length b)).verdict ≡ Taken
    → read_of (take (written_of x (length b)).length (buffer_of x b)) ≡ record { verdict = Taken; table = x }

-- What stands behind those bytes stays, and of a refused write all of it. No byte comes or goes.
abbrev pub RestStays : Type 0
RestStays =
    (x : Table) (b : List ℕ)
    → (drop (written_of x (length b)).length (buffer_of x b) ≡ drop (written_of x (length b)).length b) × (length (buffer_of x b) ≡ length b)

-- Writing what was read gives the very bytes back.
abbrev pub WritesBack : Type 0
WritesBack = (s : List ℕ) → Bytes s → read_verdict s ≡ Taken → record_of (read_of s).table ≡ s

-- What is written is bytes, so that this can be asked of it.
abbrev pub WritesBytes : Type 0
WritesBytes = (x : Table) → form_of x ≡ Taken → Bytes (record_of x)

-- A table has one record, and a record one table.
abbrev pub OneRecord : Type 0
OneRecord =
    (s z : List ℕ) → Bytes s → Bytes z → read_verdict s ≡ Taken → read_verdict z ≡ Taken → (read_of s).table ≡ (read_of z).table → s ≡ z

abbrev pub OneTable : Type 0
OneTable =
    (x y : Table) → Columns x → Columns y → form_of x ≡ Taken → form_of y ≡ Taken → record_of x ≡ record_of y → x ≡ y
