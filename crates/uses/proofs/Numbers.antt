-- What a slot was used for is told by its numbers and the name of the head request.
use mathlib.Core.Path.{◌≡◌, refl}
use mathlib.Core.Bool.{Bool, true, false}
use Prim.Native.Nat.{ℕ}
use Rattle.uses.specs.declared.Choice.{Choice}
use Rattle.uses.specs.declared.Choice.TheVariants.{Give, Hard, Back, Idle}
use Rattle.uses.specs.Numbers.{use_number, use_who, use_told}
use Rattle.uses.specs.Uses.{used_for}

pub used_told : (lost : Bool) (x : Choice) (name : ℕ) → let u = used_for lost x name in use_told (use_number u) (use_who u) name ≡ u
used_told true x name = refl
used_told false Give name = refl
used_told false (Hard row) name = refl
used_told false Back name = refl
used_told false Idle name = refl
