-- What a call says of itself: taken, or refused for a reason that has document 01's number and the row that it names.
use Rattle.std.specs.Prelude.{ℕ, Bool, cond, Result, Ok, Err}
use Rattle.table.specs.declared.Refusal.{Refusal}
use Rattle.table.specs.declared.Refusal.TheVariants.{RecordShort, VersionUnknown, LengthWrong, RowCount, RowUnsound, PeriodFalls, RowLacks, SizeZero, QueueFull, RunOver, StateIllegal, BufferShort}

abbrev pub Verdict : Type 0
Verdict = Result Unit Refusal

abbrev pub Taken : Verdict
Taken = Ok tt

abbrev pub number : Refusal → ℕ
number RecordShort = 1
number VersionUnknown = 2
number LengthWrong = 3
number RowCount = 4
number (RowUnsound i) = 5
number (PeriodFalls i) = 6
number (RowLacks i) = 7
number SizeZero = 8
number QueueFull = 9
number RunOver = 10
number StateIllegal = 11
number BufferShort = 12

abbrev pub row : Refusal → ℕ
row RecordShort = 0
row VersionUnknown = 0
row LengthWrong = 0
row RowCount = 0
row (RowUnsound i) = i
row (PeriodFalls i) = i
row (RowLacks i) = i
row SizeZero = 0
row QueueFull = 0
row RunOver = 0
row StateIllegal = 0
row BufferShort = 0

-- what a reason says, 0 where there is none
abbrev pub said_of : {E : Type 0} → (E → ℕ) → Result Unit E → ℕ
said_of says (Ok x) = 0
said_of says (Err why) = says why

abbrev pub number_of : Verdict → ℕ
number_of v = said_of number v

abbrev pub row_named : Verdict → ℕ
row_named v = said_of row v

-- refused for a reason where b
abbrev pub refuse : {E : Type 0} → Bool → E → Result Unit E
refuse b why = cond b (Err why) (Ok tt)

-- the first refusal of two
infixl 20 ◌and_then◌
abbrev pub ◌and_then◌ : Verdict → Verdict → Verdict
(Ok x) and_then v = v
(Err why) and_then v = Err why

-- x where it is taken, y where it is refused
abbrev pub taken : {A : Type 0} → Verdict → A → A → A
taken (Ok u) x y = x
taken (Err why) x y = y

-- x, or the refusal
abbrev pub granted : {A : Type 0} → Verdict → A → Result A Refusal
granted (Ok u) x = Ok x
granted (Err why) x = Err why
