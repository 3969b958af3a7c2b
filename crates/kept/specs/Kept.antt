-- The figures of a legal state's table and of its rows.
use Rattle.std.specs.Prelude.{ℕ, ◌-◌, List, Bool, true, false, cond, ◌&&◌, eqb, ltb, leb}
use Rattle.seq.specs.Places.{at, every}
use Rattle.table.specs.Verdicts.{taken}
use Rattle.table.specs.Form.{sound, form_verdict}

-- the table passes 4, 5 and 6
abbrev pub table_legal : ℕ → List ℕ → List ℕ → List ℕ → Bool
table_legal n c t d = taken (form_verdict n c t d) true false

-- allowance, counter and work left within their bounds, and zero past n
abbrev pub row_kept : Bool → ℕ → ℕ → ℕ → ℕ → ℕ → Bool
row_kept used c d k left counter =
    cond used (leb k (d - c) && leb counter k && leb left c) (eqb k 0 && eqb counter 0 && eqb left 0)

unfoldable pub rows_kept : ℕ → List ℕ → List ℕ → List ℕ → List ℕ → List ℕ → Bool
rows_kept n c d k left counter = every 16 (λ i. row_kept (ltb i n) (at c i) (at d i) (at k i) (at left i) (at counter i))

-- what is asked of row i of a table and of its figures
abbrev pub kept : ℕ → (c t d k left counter : List ℕ) → ℕ → Bool
kept n c t d k left counter i = sound n c t d i && row_kept (ltb i n) (at c i) (at d i) (at k i) (at left i) (at counter i)

-- late counts at most the slots run, and zero past n
unfoldable pub lates_kept : ℕ → ℕ → List ℕ → Bool
lates_kept n ran late = every 16 (λ i. leb (at late i) (cond (ltb i n) ran 0))
