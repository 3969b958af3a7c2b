-- Tables of the documents, worked out by the definitions. Rows as C, T, D.
use mathlib.Core.Path.{◌≡◌, refl}
use mathlib.Core.List.{List, [], ◌∷◌}
use mathlib.Core.Bool.{Bool, true, false}
use Prim.Native.Nat.{ℕ, ◌%◌}
use native.Mathlib.Omega.{arith}
use lib.Dec.{eqb}
use Rattle.seq.specs.Places.{flag, at, tab, lead}
use Rattle.law.specs.Sums.{sum, ceil}
use Rattle.law.specs.Work.{W, least, holds, largest, allowance}
use Rattle.law.specs.Judge.{ends_late, late_count}
use Rattle.law.proofs.Work.{allowance_first}

-- the allowances of the first n rows
abbrev allowances : (C T D : List ℕ) (n : ℕ) → List ℕ
allowances C T D n = tab n (λ i. allowance (at C) (at T) i (at D i))

-- (1,3,3) (1,4,4) (1,6,6)
first_table : allowances (1 ∷ 1 ∷ 1 ∷ []) (3 ∷ 4 ∷ 6 ∷ []) (3 ∷ 4 ∷ 6 ∷ []) 3 ≡ 2 ∷ 1 ∷ 1 ∷ []
unfolding sum ceil lead least holds largest tab
first_table = refl

-- (2,4,4) (2,5,5), done in slot 4 although 6 slots are needed by slot 5
early_end : allowances (2 ∷ 2 ∷ []) (4 ∷ 5 ∷ []) (4 ∷ 5 ∷ []) 2 ≡ 2 ∷ 0 ∷ []
unfolding sum ceil lead least holds largest tab
early_end = refl

early_end_in_4 : least (at (2 ∷ 2 ∷ [])) (at (4 ∷ 5 ∷ [])) 1 5 0 ≡ 4
unfolding sum ceil lead least
early_end_in_4 = refl

-- (1,2,2) (1,2,2)
equal_periods : allowances (1 ∷ 1 ∷ []) (2 ∷ 2 ∷ []) (2 ∷ 2 ∷ []) 2 ≡ 1 ∷ 0 ∷ []
unfolding sum ceil lead least holds largest tab
equal_periods = refl

-- (2,4,4) (3,7,7) and (2,4,4) (3,7,6): either side of the line
on_the_line : holds (at (2 ∷ 3 ∷ [])) (at (4 ∷ 7 ∷ [])) 1 7 0 ≡ true
unfolding sum ceil lead least holds
on_the_line = refl

on_the_line_allowances : allowances (2 ∷ 3 ∷ []) (4 ∷ 7 ∷ []) (4 ∷ 7 ∷ []) 2 ≡ 2 ∷ 0 ∷ []
unfolding sum ceil lead least holds largest tab
on_the_line_allowances = refl

past_the_line : holds (at (2 ∷ 3 ∷ [])) (at (4 ∷ 7 ∷ [])) 1 6 0 ≡ false
unfolding sum ceil lead least holds
past_the_line = refl

-- (1,4096,4096) and (4096,4096,4096), by the law of the first row
longest : allowance (at (1 ∷ [])) (at (4096 ∷ [])) 0 4096 ≡ 4095
longest = omega (arith, allowance_first (at (1 ∷ [])) (at (4096 ∷ [])) 4096 (omega arith) (omega arith))

fullest : allowance (at (4096 ∷ [])) (at (4096 ∷ [])) 0 4096 ≡ 0
fullest = omega (arith, allowance_first (at (4096 ∷ [])) (at (4096 ∷ [])) 4096 (omega arith) (omega arith))

-- source 000, section 3, table 1, with the periods as deadlines: (1,3,3) (2,5,5) (1,15,15). The smallest is 1.
source_table : allowances (1 ∷ 2 ∷ 1 ∷ []) (3 ∷ 5 ∷ 15 ∷ []) (3 ∷ 5 ∷ 15 ∷ []) 3 ≡ 2 ∷ 1 ∷ 3 ∷ []
unfolding sum ceil lead least holds largest tab
source_table = refl

-- its first slots that settle, and the work of all three rows in 15 slots
source_least : tab 3 (λ i. least (at (1 ∷ 2 ∷ 1 ∷ [])) (at (3 ∷ 5 ∷ 15 ∷ [])) i (at (3 ∷ 5 ∷ 15 ∷ []) i) 0) ≡ 1 ∷ 3 ∷ 5 ∷ []
unfolding sum ceil lead least tab
source_least = refl

source_work : W (at (1 ∷ 2 ∷ 1 ∷ [])) (at (3 ∷ 5 ∷ 15 ∷ [])) 3 15 ≡ 12
unfolding sum ceil
source_work = refl

-- a row (2,4,3) that gets slots 0, 3, 4 and 6 of eight: its first instance is late, its second is not. The late after 2, 3 and 8 slots,
-- and the slots in which a late instance ends
abbrev fourth : ℕ → Bool
fourth x = eqb (x % 4) 0

abbrev hits : ℕ → ℕ
hits = at (1 ∷ 0 ∷ 0 ∷ 1 ∷ 1 ∷ 0 ∷ 1 ∷ 0 ∷ [])

late_counted : late_count 2 3 fourth hits 2 ∷ late_count 2 3 fourth hits 3 ∷ late_count 2 3 fourth hits 8 ∷ [] ≡ 0 ∷ 1 ∷ 1 ∷ []
unfolding sum
late_counted = refl

late_flagged : tab 8 (λ x. flag (ends_late 2 3 fourth hits x)) ≡ 0 ∷ 0 ∷ 1 ∷ 0 ∷ 0 ∷ 0 ∷ 0 ∷ 0 ∷ []
unfolding sum tab
late_flagged = refl
