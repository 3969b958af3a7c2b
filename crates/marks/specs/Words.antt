-- Words with a bit for each row, bit i for the row at place i.
use Rattle.std.specs.Prelude.{ℕ, ◌-◌, ◌%◌, List, Bool, ◌&&◌, eqb, ltb}
use Rattle.seq.specs.Places.{at, tab}
use Rattle.seq.specs.Words.{word, bit}
use Rattle.rows.specs.Rows.{rows_of}

-- m slots were run before this one: a period begins in it, or a deadline ends with it
abbrev pub begins : ℕ → ℕ → Bool
begins m t = eqb (m % t) 0

abbrev pub ends : ℕ → ℕ → ℕ → Bool
ends m t d = eqb (m % t) (d - 1)

unfoldable pub due_word : ℕ → ℕ → List ℕ → ℕ
due_word m n t = word (tab (rows_of n) (λ i. begins m (at t i)))

unfoldable pub end_word : ℕ → ℕ → List ℕ → List ℕ → ℕ
end_word m n t d = word (tab (rows_of n) (λ i. ends m (at t i) (at d i)))

-- a deadline ends and work is left
unfoldable pub late_word : ℕ → List ℕ → ℕ
late_word end left = word (tab 16 (λ i. bit end i && ltb 0 (at left i)))
