-- What was written reads back, and what was read writes back.
use mathlib.Core.Path.{◌≡◌, refl, ap, sym, ◌∙◌}
use mathlib.Core.List.{List, [], ◌∷◌, ◌++◌, append_assoc, append-nil}
use mathlib.Core.Logic.{⊎_elim}
use Prim.Native.Nat.{ℕ, zero, suc, ◌+◌, ◌*◌, ◌-◌, ◌≤◌, ◌<◌}
use native.Mathlib.Nat.{eq-or-lt_of_le, add-zero}
use native.Mathlib.Omega.{arith}
use lib.ListN.{length, take, drop, replicate, length-append, length-drop, get_or-replicate, get_or-append}
use lib.Seq.{get_or-append-add, take-add, take_all, take_at, drop_at, drop-drop}
use lib.Dec.{ltb}
use borrow.Author.Tests.{ltb-false, le-ltb, eq-eqb}
use Rattle.seq.specs.Places.{at}
use Rattle.seq.specs.Bytes.{big_at, big_bytes, Bytes}
use Rattle.seq.proofs.Places.{over_is, over_in}
use Rattle.seq.proofs.Bytes.{big_bytes_lem, big_behind, part_one, part_big, append_bytes, one_byte, big_in_bytes}
use Rattle.table.specs.declared.Table.{Table}
use Rattle.record.specs.declared.Reading.{Reading}
use Rattle.std.specs.Prelude.{Ok, Err}
use Rattle.table.specs.declared.Refusal.TheVariants.{BufferShort}
use Rattle.table.specs.Verdicts.{Verdict, Taken, refuse, taken}
use Rattle.table.specs.Form.{form_of}
use Rattle.record.specs.Record.{row_place, column, rows_spelt, spelt, head_verdict, read_verdict, read_of, row_bytes, rows_bytes, head_bytes, record_of, write_verdict, written_of, buffer_of}
use Rattle.table.specs.WellFormed.{WellFormed}
use Rattle.record.specs.Theorems.{Columns, ReadsBack, BufferReadsBack, RestStays, WritesBack, WritesBytes, OneRecord, OneTable}
use Rattle.table.proofs.Verdicts.{and_taken, refuse_taken}
use Rattle.table.proofs.WellFormed.{taken_iff, taken_few}
use Rattle.record.proofs.Record.{rows_length, record_length_lem, head_taken}

-- Written and read.

-- a byte of row i, among the rows and in its row
row_byte : (x : Table) (n i q : ℕ) → i < n → q < 6 → at (rows_bytes x n) (6 * i + q) ≡ at (row_bytes x i) q
unfolding rows_bytes
row_byte x zero i q h g = absurd (omega arith)
row_byte x (suc n) i q h g =
    let l = rows_length x n in
    ⊎_elim
    (λ e. let f : 6 * i + q ≡ length (rows_bytes x n) + q = omega arith in rw f (get_or-append-add (rows_bytes x n) (row_bytes x n) q 0 ∙ ap (λ (k : ℕ). at (row_bytes x k) q) (sym e)))
    (λ k. get_or-append (rows_bytes x n) (row_bytes x n) 0 (6 * i + q) (omega arith) ∙ row_byte x n i q (omega arith) g)
    (eq-or-lt_of_le {n = i} {m = n} (omega arith))

-- a number of row i, in the record and in its row
row_number : (x : Table) (i p : ℕ) → i < x.n → p + 1 < 6 → big_at (record_of x) (row_place i + p) ≡ big_at (row_bytes x i) p
unfolding record_of
row_number x i p h g =
    let e : row_place i + p ≡ 4 + (6 * i + p) = omega arith in
    let f : 6 * i + p + 1 ≡ 6 * i + (p + 1) = omega arith in
    rw e
    (big_behind (head_bytes x.n) (rows_bytes x x.n) (6 * i + p)
    ∙ rw (f, row_byte x x.n i p h (omega arith), row_byte x x.n i (p + 1) h g))

column_back : (x : Table) (p : ℕ) (l : List ℕ) → length l ≡ 16 → ((i : ℕ) → i < x.n → big_at (row_bytes x i) p ≡ at l i) → p + 1 < 6
    → ((i : ℕ) → x.n ≤ i → i < 16 → at l i ≡ 0) → column (record_of x) x.n p ≡ l
unfolding column
column_back x p l e in_row g past =
    over_is 0 x.n (λ i y. big_at (record_of x) (row_place i + p)) (replicate 16 0) l (sym e)
    (λ i h k. row_number x i p h g ∙ in_row i h)
    (λ i h k. get_or-replicate 16 i 0 0 k ∙ sym (past i h k))

record_head : (x : Table) → head_verdict (record_of x) ≡ Taken
unfolding head_verdict record_of
record_head x =
    let l = record_length_lem x in
    let b = big_bytes_lem (1 + 6 * x.n) in
    rw (le-ltb (length (record_of x)) 4 (omega arith), eq-eqb (big_at (record_of x) 1) (length (record_of x) - 3) (omega arith), eq-eqb (big_at (record_of x) 1) (1 + 6 * x.n) b)

record_count : (x : Table) → at (record_of x) 3 ≡ x.n
unfolding record_of
record_count x = refl

record_spelt : (x : Table) → Columns x → WellFormed x.n x.c x.t x.d → spelt (record_of x) ≡ x
unfolding spelt rows_spelt
record_spelt x k w =
    rw (
      record_count x,
      column_back x 0 x.c k.0 (λ i h. big_bytes_lem (at x.c i)) (omega arith) (λ i h g. (w.past i h g).0),
      column_back x 2 x.t k.1 (λ i h. big_bytes_lem (at x.t i)) (omega arith) (λ i h g. (w.past i h g).1),
      column_back x 4 x.d k.2 (λ i h. big_bytes_lem (at x.d i)) (omega arith) (λ i h g. (w.past i h g).2),
    )

pub reads_back : ReadsBack
unfolding read_of read_verdict
reads_back x k e = rw (record_head x, record_spelt x k ((taken_iff x.n x.c x.t x.d).0 e), e)

-- Through a buffer.

pub buffer_reads_back : BufferReadsBack
unfolding written_of buffer_of write_verdict
buffer_reads_back x b k e =
    let f = and_taken (form_of x) (refuse (ltb (length b) (row_place x.n)) BufferShort) e in
    rw (e, take_at (record_of x) (drop (row_place x.n) b) (row_place x.n) (record_length_lem x)) (reads_back x k f.0)

pub taken_room : (x : Table) (room : ℕ) → write_verdict x room ≡ Taken → row_place x.n ≤ room
unfolding write_verdict
taken_room x room e = ltb-false room (row_place x.n) (refuse_taken (ltb room (row_place x.n)) BufferShort (and_taken (form_of x) (refuse (ltb room (row_place x.n)) BufferShort) e).1)

rest_by : (x : Table) (b : List ℕ) (v : Verdict) → write_verdict x (length b) ≡ v
    → (drop (taken v (row_place x.n) 0) (taken v (record_of x ++ drop (row_place x.n) b) b) ≡ drop (taken v (row_place x.n) 0) b)
    × (length (taken v (record_of x ++ drop (row_place x.n) b) b) ≡ length b)
rest_by x b (Err why) e = (refl, refl)
rest_by x b (Ok tt) e = (
  drop_at (record_of x) (drop (row_place x.n) b) (row_place x.n) (record_length_lem x),
  rw (length-append (record_of x) (drop (row_place x.n) b), record_length_lem x, length-drop (row_place x.n) b) (omega (arith, taken_room x (length b) e)),
)

pub rest_stays : RestStays
unfolding written_of buffer_of
rest_stays x b = rest_by x b (write_verdict x (length b)) refl

-- as many bytes as the writer says are there
pub taken_rows : (x : Table) (room : ℕ) → write_verdict x room ≡ Taken → x.n ≤ 16
unfolding write_verdict
taken_rows x room e = taken_few _ _ _ _ (and_taken (form_of x) (refuse (ltb room (row_place x.n)) BufferShort) e).0

fits_by : (x : Table) (room : ℕ) (v : Verdict) → write_verdict x room ≡ v → taken v (row_place x.n) 0 ≤ room
fits_by x room (Err why) e = omega arith
fits_by x room (Ok tt) e = taken_room x room e

pub written_fits : (x : Table) (b : List ℕ) → (written_of x (length b)).length ≤ length (buffer_of x b)
unfolding written_of
written_fits x b = omega (arith, fits_by x (length b) (write_verdict x (length b)) refl, (rest_stays x b).1)

-- Read and written.

six_bytes : (s : List ℕ) (p : ℕ) → Bytes s → p + 6 ≤ length s → take 6 (drop p s) ≡ big_bytes (big_at s (p + 0)) ++ big_bytes (big_at s (p + 2)) ++ big_bytes (big_at s (p + 4))
six_bytes s p b h =
    take-add 4 2 (drop p s)
    ∙ rw (take-add 2 2 (drop p s), drop-drop 2 p s, drop-drop 4 p s, part_big s (p + 2) b (omega arith), part_big s (p + 4) b (omega arith), part_big s p b (omega arith), add-zero p)

cell : (s : List ℕ) (i p : ℕ) → i < at s 3 → at s 3 ≤ 16 → at (column s (at s 3) p) i ≡ big_at s (row_place i + p)
unfolding column
cell s i p h m = over_in 0 (at s 3) (λ j y. big_at s (row_place j + p)) (replicate 16 0) i h (omega arith)

row_back : (s : List ℕ) (i : ℕ) → Bytes s → i < at s 3 → at s 3 ≤ 16 → row_place (suc i) ≤ length s
    → row_bytes (spelt s) i ≡ take 6 (drop (row_place i) s)
unfolding spelt rows_spelt
row_back s i b h m l = rw (cell s i 0 h m, cell s i 2 h m, cell s i 4 h m) (sym (six_bytes s (row_place i) b (omega arith)))

head_back : (s : List ℕ) → Bytes s → 4 ≤ length s → at s 0 ≡ 1 → big_at s 1 ≡ 1 + 6 * at s 3 → head_bytes (at s 3) ≡ take 4 s
head_back s b l o f =
    sym (take-add 3 1 s ∙ rw (take-add 1 2 s, part_big s 1 b (omega arith), part_one s 0 (omega arith), part_one s 3 (omega arith), f, o))

rows_back : (s : List ℕ) → Bytes s → head_verdict s ≡ Taken → at s 3 ≤ 16 → (i : ℕ) → i ≤ at s 3 → head_bytes (at s 3) ++ rows_bytes (spelt s) i ≡ take (row_place i) s
unfolding rows_bytes
rows_back s b e m zero h =
    let g = head_taken s e in
    append-nil (head_bytes (at s 3)) ∙ head_back s b (omega arith) g.0 g.1
rows_back s b e m (suc i) h =
    let g = head_taken s e in
    let n : row_place (suc i) ≡ row_place i + 6 = omega arith in
    rw (n, take-add (row_place i) 6 s, ← rows_back s b e m i (omega arith), ← row_back s i b h m (omega arith), append_assoc)

spelt_back : (s : List ℕ) → Bytes s → head_verdict s ≡ Taken → at s 3 ≤ 16 → record_of (spelt s) ≡ s
unfolding record_of spelt rows_spelt
spelt_back s b e m = rows_back s b e m (at s 3) (omega arith) ∙ take_all (row_place (at s 3)) s (omega (arith, (head_taken s e).2))

spelt_few : (s : List ℕ) → form_of (spelt s) ≡ Taken → at s 3 ≤ 16
unfolding spelt rows_spelt
spelt_few s e = taken_few _ _ _ _ e

pub writes_back : WritesBack
unfolding read_of read_verdict
writes_back s b e =
    let v = and_taken (head_verdict s) (form_of (spelt s)) e in
    rw e (spelt_back s b v.0 (spelt_few s v.1))

rows_bytes_lem : (x : Table) → WellFormed x.n x.c x.t x.d → (i : ℕ) → i ≤ x.n → Bytes (rows_bytes x i)
unfolding rows_bytes
rows_bytes_lem x w zero h = λ j g. absurd (omega arith)
rows_bytes_lem x w (suc i) h =
    let o = w.ordered i h in
    let big : (y : ℕ) → y ≤ 4096 → Bytes (big_bytes y) = λ y l. big_in_bytes y (omega arith) in
    let c = big (at x.c i) (omega arith) in
    let t = big (at x.t i) (omega arith) in
    let d = big (at x.d i) (omega arith) in
    append_bytes (rows_bytes x i) (row_bytes x i) (rows_bytes_lem x w i (omega arith))
    (append_bytes (big_bytes (at x.c i) ++ big_bytes (at x.t i)) (big_bytes (at x.d i)) (append_bytes (big_bytes (at x.c i)) (big_bytes (at x.t i)) c t) d)

pub writes_bytes : WritesBytes
unfolding record_of
writes_bytes x e =
    let w = (taken_iff x.n x.c x.t x.d).0 e in
    let k = w.counted in
    let rest = append_bytes (big_bytes (1 + 6 * x.n)) (x.n ∷ []) (big_in_bytes (1 + 6 * x.n) (omega arith)) (one_byte x.n (omega arith)) in
    append_bytes (head_bytes x.n) (rows_bytes x x.n)
    (append_bytes (1 ∷ []) (big_bytes (1 + 6 * x.n) ++ x.n ∷ []) (one_byte 1 (omega arith)) rest)
    (rows_bytes_lem x w x.n (omega arith))

-- One record, one table.

pub one_record : OneRecord
one_record s z b c e f same = sym (writes_back s b e) ∙ ap record_of same ∙ writes_back z c f

pub one_table : OneTable
one_table x y k l e f same = ap (λ (r : Reading). r.table) (sym (reads_back x k e) ∙ ap read_of same ∙ reads_back y l f)
