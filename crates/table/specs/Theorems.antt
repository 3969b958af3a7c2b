-- What is proved of the form of tables. Each statement is a type; proofs/Theorems.antt gives a proof of each, under the same name in
-- small letters.
use Rattle.std.specs.Prelude.{◌≡◌, List, ◌∷◌, [], map, ◌↔◌, ℕ}
use Rattle.table.specs.declared.Refusal.{Refusal}
use Rattle.table.specs.declared.Refusal.TheVariants.{RecordShort, VersionUnknown, LengthWrong, RowCount, RowUnsound, PeriodFalls, RowLacks, SizeZero, QueueFull, RunOver, StateIllegal, BufferShort}
use Rattle.table.specs.Verdicts.{Verdict, Taken, number, row}
use Rattle.table.specs.Form.{form_verdict}
use Rattle.table.specs.WellFormed.{WellFormed}
use Rattle.table.specs.Refusals.{FormSays}

-- A table is taken exactly when it is well formed.
abbrev pub TakenWellFormed : Type 0
TakenWellFormed = (n : ℕ) (c t d : List ℕ) → (form_verdict n c t d ≡ Taken) ↔ WellFormed n c t d

-- Each number, with its row, is given exactly when document 01's table says so.
abbrev pub FormGives : Type 0
FormGives = (n : ℕ) (c t d : List ℕ) (v : Verdict) → (form_verdict n c t d ≡ v) ↔ FormSays n c t d v

-- Document 01's reasons to refuse, in its order; three of them name a row.
abbrev pub reasons : ℕ → List Refusal
reasons row =
    RecordShort ∷ VersionUnknown ∷ LengthWrong ∷ RowCount ∷ RowUnsound row ∷ PeriodFalls row ∷ RowLacks row
    ∷ SizeZero ∷ QueueFull ∷ RunOver ∷ StateIllegal ∷ BufferShort ∷ []

-- They have the numbers 1 to 12, and 5, 6 and 7 name their row.
abbrev pub Numbers : Type 0
Numbers = (i : ℕ) →
    (map number (reasons i) ≡ 1 ∷ 2 ∷ 3 ∷ 4 ∷ 5 ∷ 6 ∷ 7 ∷ 8 ∷ 9 ∷ 10 ∷ 11 ∷ 12 ∷ [])
    × (map row (reasons i) ≡ 0 ∷ 0 ∷ 0 ∷ 0 ∷ i ∷ i ∷ i ∷ 0 ∷ 0 ∷ 0 ∷ 0 ∷ 0 ∷ [])
