-- Step 3 of a slot: the choice, and what the slot is used for once it is known whether it was lost.
use Rattle.std.specs.Prelude.{ℕ, suc, ◌-◌, List, Bool, true, false, cond, ◌&&◌, ltb}
use Rattle.rows.specs.Rows.{rows_of, idle, none_zero}
use Rattle.uses.specs.declared.Choice.{Choice}
use Rattle.uses.specs.declared.Choice.TheVariants as choice
use Rattle.uses.specs.declared.Use.{Use}
use Rattle.uses.specs.declared.Use.TheVariants as use_for

-- The choice, first that applies: with so many requests waiting, this work left and these counters
unfoldable pub chosen : ℕ → ℕ → List ℕ → List ℕ → Choice
chosen n count left counter =
    cond (ltb 0 count && none_zero n counter) choice.Give
    (cond (ltb (idle n left) (rows_of n)) (choice.Hard (suc (idle n left)))
    (cond (ltb 0 count) choice.Back choice.Idle))

abbrev pub is_give : Choice → Bool
is_give choice.Give = true
is_give (choice.Hard row) = false
is_give choice.Back = false
is_give choice.Idle = false

abbrev pub is_audio : Choice → Bool
is_audio choice.Give = false
is_audio (choice.Hard row) = true
is_audio choice.Back = false
is_audio choice.Idle = false

abbrev pub is_idle : Choice → Bool
is_idle choice.Give = false
is_idle (choice.Hard row) = false
is_idle choice.Back = false
is_idle choice.Idle = true

-- the row that is chosen; 0 for none
abbrev pub audio_row : Choice → ℕ
audio_row choice.Give = 0
audio_row (choice.Hard row) = row
audio_row choice.Back = 0
audio_row choice.Idle = 0

-- What the slot is used for, where the head request has this name
abbrev pub chosen_use : Choice → ℕ → Use
chosen_use choice.Give name = use_for.Given name
chosen_use (choice.Hard row) name = use_for.Hard row
chosen_use choice.Back name = use_for.Given name
chosen_use choice.Idle name = use_for.Empty

abbrev pub used_for : Bool → Choice → ℕ → Use
used_for lost x name = cond lost use_for.Lost (chosen_use x name)

-- the place of the row that gets it; 16 for none
abbrev pub row_served : Use → ℕ
row_served (use_for.Hard row) = row - 1
row_served (use_for.Given name) = 16
row_served use_for.Empty = 16
row_served use_for.Lost = 16

abbrev pub is_hard : Use → Bool
is_hard (use_for.Hard row) = true
is_hard (use_for.Given name) = false
is_hard use_for.Empty = false
is_hard use_for.Lost = false

abbrev pub is_given : Use → Bool
is_given (use_for.Hard row) = false
is_given (use_for.Given name) = true
is_given use_for.Empty = false
is_given use_for.Lost = false

abbrev pub is_empty : Use → Bool
is_empty (use_for.Hard row) = false
is_empty (use_for.Given name) = false
is_empty use_for.Empty = true
is_empty use_for.Lost = false

abbrev pub is_lost : Use → Bool
is_lost (use_for.Hard row) = false
is_lost (use_for.Given name) = false
is_lost use_for.Empty = false
is_lost use_for.Lost = true
