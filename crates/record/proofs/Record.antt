-- Laws of the record: its rows one more at a time, its length, its head.
use mathlib.Core.Path.{◌≡◌, refl, ap, ◌∙◌}
use mathlib.Core.List.{List, ◌++◌}
use Prim.Native.Nat.{ℕ, zero, suc, ◌+◌, ◌*◌, ◌-◌, ◌≤◌, ◌<◌, min}
use native.Mathlib.Numerals.{add-one}
use native.Mathlib.Omega.{arith}
use lib.ListN.{length, take, drop, set, replicate, length-append}
use lib.Seq.{sets, sets-eq}
use borrow.Author.Tests.{ltb-false, eqb-true, not-false}
use Rattle.seq.specs.Places.{at}
use Rattle.seq.specs.Bytes.{big_at}
use Rattle.seq.proofs.Places.{over_more, over_min}
use Rattle.seq.proofs.Bytes.{big_part, sets_sets}
use Rattle.seq.proofs.Tests.{both_true}
use Rattle.table.specs.declared.Table.{Table}
use Rattle.table.specs.declared.Row.{Row}
use Rattle.record.specs.Record.{row_place, row_spelt, column, rows_spelt, spelt, head_verdict, row_bytes, rows_bytes, head_bytes, record_of}
use Rattle.table.specs.Verdicts.{Taken}
use Rattle.table.proofs.Verdicts.{and_taken, refuse_taken}

-- read
pub column_more : (s : List ℕ) (i p x : ℕ) → x ≡ big_at s (row_place i + p) → set (column s i p) i x ≡ column s (i + 1) p
unfolding column
column_more s i p x e = over_more 0 i (λ j y. big_at s (row_place j + p)) (replicate 16 0) (column s i p) x refl e

pub spelt_more : (s : List ℕ) (i m : ℕ) (x : Table) (r : Row) → m ≡ 6 → x ≡ rows_spelt s i → r ≡ row_spelt (take m (drop (row_place i) s))
    → ◌≡◌ {A = Table} record { n = x.n; c = set x.c i r.c; t = set x.t i r.t; d = set x.d i r.d } (rows_spelt s (i + 1))
unfolding rows_spelt
spelt_more s i m x r six now row =
    let part : (p : ℕ) → p + 1 < 6 → big_at (take m (drop (row_place i) s)) p ≡ big_at s (row_place i + p) = λ p h. big_part m (row_place i) s p (omega arith) in
    rw (now, row, column_more s i 0 _ (part 0 (omega arith)), column_more s i 2 _ (part 2 (omega arith)), column_more s i 4 _ (part 4 (omega arith)))

column_min : (s : List ℕ) (n p : ℕ) → column s (min n 16) p ≡ column s n p
unfolding column
column_min s n p = over_min n (λ j y. big_at s (row_place j + p)) (replicate 16 0)

pub spelt_min : (s : List ℕ) → rows_spelt s (min (at s 3) 16) ≡ spelt s
unfolding spelt rows_spelt
spelt_min s = rw (column_min s (at s 3) 0, column_min s (at s 3) 2, column_min s (at s 3) 4)

-- written
pub rows_length : (x : Table) (i : ℕ) → length (rows_bytes x i) ≡ 6 * i
unfolding rows_bytes
rows_length x zero = refl
rows_length x (suc i) = rw (length-append (rows_bytes x i) (row_bytes x i), rows_length x i) (omega arith)

pub rows_more : (x : Table) (b : List ℕ) (i : ℕ) → sets (sets b 4 (rows_bytes x i)) (row_place i) (row_bytes x i) ≡ sets b 4 (rows_bytes x (i + 1))
unfolding rows_bytes
rows_more x b i = rw (add-one i) (sets_sets (rows_bytes x i) b (row_bytes x i) 4 (row_place i) (omega (arith, rows_length x i)))

pub record_length_lem : (x : Table) → length (record_of x) ≡ row_place x.n
unfolding record_of
record_length_lem x = rw (length-append (head_bytes x.n) (rows_bytes x x.n), rows_length x x.n)

-- head and rows are the record, in front of what stood behind it
pub record_put : (x : Table) (b : List ℕ) → row_place x.n ≤ length b
    → sets (sets b 0 (head_bytes x.n)) 4 (rows_bytes x x.n) ≡ record_of x ++ drop (row_place x.n) b
unfolding record_of
record_put x b h =
    let e : 0 + length (record_of x) ≡ row_place x.n = omega (arith, record_length_lem x) in
    rw (sets_sets (head_bytes x.n) b (rows_bytes x x.n) 0 4 refl)
    (sets-eq (record_of x) b 0 (omega (arith, record_length_lem x)) ∙ ap (λ (k : ℕ). record_of x ++ drop k b) e)

-- what the head says of a record that it does not refuse
pub head_taken : (s : List ℕ) → head_verdict s ≡ Taken → (at s 0 ≡ 1) × (big_at s 1 ≡ 1 + 6 * at s 3) × (length s ≡ row_place (at s 3))
unfolding head_verdict
head_taken s e =
    let p = and_taken _ _ e in
    let q = and_taken _ _ p.0 in
    let l : 4 ≤ length s = ltb-false _ _ (refuse_taken _ _ q.0) in
    let f = both_true _ _ (not-false _ (refuse_taken _ _ p.1)) in
    let a : big_at s 1 ≡ length s - 3 = eqb-true _ _ f.0 in
    let b : big_at s 1 ≡ 1 + 6 * at s 3 = eqb-true _ _ f.1 in
    (eqb-true _ _ (not-false _ (refuse_taken _ _ q.1)), b, omega arith)
