-- The proofs of specs/Theorems.antt, in its order.
use mathlib.Core.Path.{refl}
use Rattle.table.specs.Theorems.{TakenWellFormed, FormGives, Numbers}
use Rattle.table.proofs.WellFormed as well

pub taken_well_formed : TakenWellFormed
taken_well_formed = well.taken_iff

pub form_gives : FormGives
form_gives = well.form_gives

pub numbers : Numbers
numbers i = (refl, refl)
