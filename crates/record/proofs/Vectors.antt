-- Records of document 01, worked out by the definitions.
use mathlib.Core.Path.{◌≡◌, refl}
use mathlib.Core.List.{List, [], ◌∷◌, ◌++◌}
use Prim.Native.Nat.{ℕ}
use Rattle.seq.specs.Places.{over}
use Rattle.std.specs.Prelude.{Err}
use Rattle.table.specs.declared.Refusal.TheVariants.{LengthWrong, RowCount}
use Rattle.table.specs.Form.{count_verdict, form_verdict}
use Rattle.table.proofs.Vectors.{first}
use Rattle.record.specs.Record.{column, rows_spelt, spelt, head_verdict, read_verdict, rows_bytes, record_of}

-- 01 0013 03, 0001 0003 0003, 0001 0004 0004, 0001 0006 0006
abbrev first_record : List ℕ
first_record = 1 ∷ 0 ∷ 19 ∷ 3 ∷ 0 ∷ 1 ∷ 0 ∷ 3 ∷ 0 ∷ 3 ∷ 0 ∷ 1 ∷ 0 ∷ 4 ∷ 0 ∷ 4 ∷ 0 ∷ 1 ∷ 0 ∷ 6 ∷ 0 ∷ 6 ∷ []

first_written : record_of first ≡ first_record
unfolding record_of rows_bytes
first_written = refl

first_read : spelt first_record ≡ first
unfolding spelt rows_spelt column over
first_read = refl

one_byte_more : read_verdict (first_record ++ 0 ∷ []) ≡ Err LengthWrong
unfolding read_verdict head_verdict
one_byte_more = refl

-- n = 0, with a length field of 1
none : read_verdict (1 ∷ 0 ∷ 1 ∷ 0 ∷ []) ≡ Err RowCount
unfolding read_verdict head_verdict form_verdict count_verdict spelt rows_spelt
none = refl
