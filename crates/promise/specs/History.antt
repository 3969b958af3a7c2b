-- What a history of answers says by itself, without any state. Slot x is the one before which x slots were run; rows are counted
-- from 0. C, T and D are a row's figures.
use Rattle.std.specs.Prelude.{ℕ, suc, ◌+◌, ◌≡◌, List, [], ◌∷◌, Bool, false, eqb, length, get_or}
use Rattle.seq.specs.Places.{flag}
use Rattle.law.specs.Age.{released}
use Rattle.law.specs.Judge as judge
use Rattle.table.specs.Verdicts.{Taken}
use Rattle.engine.specs.declared.Answer.{Answer}
use Rattle.uses.specs.declared.Use.{Use}
use Rattle.uses.specs.declared.Use.TheVariants.{Hard, Given, Empty, Lost}
use Rattle.uses.specs.Uses.{is_lost}

abbrev pub no_answer : Answer
no_answer = record { verdict = Taken; used = Empty; word = 0; late = 0 }

-- the answer of slot x
abbrev pub answer_at : List Answer → ℕ → Answer
answer_at h x = get_or h x no_answer

-- row i got it; an answer names row i as i + 1
abbrev pub is_row : ℕ → Use → Bool
is_row i (Hard row) = eqb row (suc i)
is_row i (Given name) = false
is_row i Empty = false
is_row i Lost = false

-- 1 where row i got slot x, 0 where not
abbrev pub hit : List Answer → ℕ → ℕ → ℕ
hit h i x = flag (is_row i (answer_at h x).used)

-- the slots that row i got of the m slots from slot x on
abbrev pub got : List Answer → (i x m : ℕ) → ℕ
got h i x m = judge.got (hit h i) x m

-- the late instances of row i: released in slot x, with the deadline at the end of slot x + D - 1, both in the history, and with fewer
-- than C slots from the one to the other
abbrev pub late_count : List Answer → (i C T D : ℕ) → ℕ
late_count h i C T D = judge.late_count C D (released T) (hit h i) (length h)

-- slot x is the last of an instance of row i that got fewer than C
abbrev pub ends_late : List Answer → (i C T D x : ℕ) → Bool
ends_late h i C T D x = judge.ends_late C D (released T) (hit h i) x

-- how many slots were used in such a way
unfoldable pub count : (Use → Bool) → List Answer → ℕ
count p [] = 0
count p (a ∷ h) = flag (p a.used) + count p h

abbrev pub NoneLost : List Answer → Type 0
NoneLost h = count is_lost h ≡ 0
