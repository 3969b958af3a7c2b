-- When a read is refused, and a write, and with which number: document 01's table, in the order in which the numbers are tried.
use Rattle.std.specs.Prelude.{◌≡◌, Err, List, ℕ, ◌+◌, ◌*◌, ◌-◌, ◌≤◌, ◌<◌, length}
use Rattle.seq.specs.Places.{at}
use Rattle.seq.specs.Bytes.{big_at}
use Rattle.table.specs.declared.Table.{Table}
use Rattle.table.specs.declared.Refusal.{Refusal}
use Rattle.table.specs.declared.Refusal.TheVariants.{RecordShort, VersionUnknown, LengthWrong, BufferShort}
use Rattle.table.specs.Verdicts.{Verdict, Taken}
use Rattle.table.specs.Refusals.{TableSays}
use Rattle.record.specs.Record.{row_place, spelt}

-- the length field is the number of bytes after it, and 1 + 6n
abbrev pub Fits : List ℕ → Type 0
Fits s = (big_at s 1 ≡ length s - 3) × (big_at s 1 ≡ 1 + 6 * at s 3)

pub data ReadSays (s : List ℕ) : Verdict → Type 0 where
  short : length s < 4 → ReadSays s (Err RecordShort)
  version : 4 ≤ length s → (at s 0 ≡ 1 → ⊥) → ReadSays s (Err VersionUnknown)
  field : 4 ≤ length s → at s 0 ≡ 1 → (Fits s → ⊥) → ReadSays s (Err LengthWrong)
  whole : {v : Verdict} → 4 ≤ length s → at s 0 ≡ 1 → Fits s → TableSays (spelt s) v → ReadSays s v

pub data WriteSays (x : Table) (room : ℕ) : Verdict → Type 0 where
  form : {why : Refusal} → TableSays x (Err why) → WriteSays x room (Err why)
  narrow : TableSays x Taken → room < row_place x.n → WriteSays x room (Err BufferShort)
  enough : TableSays x Taken → row_place x.n ≤ room → WriteSays x room Taken
