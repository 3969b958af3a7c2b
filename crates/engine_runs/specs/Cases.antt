-- Cases of document 01 that a run decides.
use Rattle.std.specs.Prelude.{◌≡◌, Err, List, [], ◌∷◌, ◌++◌, ℕ, replicate}
use Rattle.table.specs.declared.Refusal.TheVariants.{QueueFull}
use Rattle.table.specs.Verdicts.{Taken}
use Rattle.engine.specs.declared.State.{State}
use Rattle.engine.specs.declared.Summed.{Summed}
use Rattle.uses.specs.declared.Use.{Use}
use Rattle.uses.specs.declared.Use.TheVariants.{Hard, Given, Lost}
use Rattle.engine.specs.States.{tally}
use Rattle.engine.specs.Calls.{late_total_of}
use Rattle.allowance.specs.Cases.{table_of}
use Rattle.engine.specs.Start.{start_of}
use Rattle.engine_runs.specs.Runs.{slot, lost_slot, request, Said, answer, verdict, Run, run}

-- the start of a table of these rows, as C, T, D
abbrev started : List (ℕ × ℕ × ℕ) → State
started l = (start_of (table_of l)).state

-- a slot was run, and no row was late
abbrev used : Use → Said
used u = answer (record { verdict = Taken; used = u; word = 0; late = 0 })

abbrev total_is : ℕ → Summed
total_is n = record { verdict = Taken; total = n }

-- (1,3,3) (1,4,4) (1,6,6): the listing
abbrev listing : Run
listing = run (started ((1, 3, 3) ∷ (1, 4, 4) ∷ (1, 6, 6) ∷ [])) (replicate 5 slot ++ request 7 3 ∷ replicate 7 slot)

-- (2,4,4) (2,5,5): a request waits from before slot 1
abbrev tight : Run
tight = run (started ((2, 4, 4) ∷ (2, 5, 5) ∷ [])) (request 7 9 ∷ replicate 15 slot)

-- (1,2,1): slot 1 is lost
abbrev short : Run
short = run (started ((1, 2, 1) ∷ [])) (lost_slot ∷ [])

-- (1,1,1): 260 slots are lost
abbrev long : Run
long = run (started ((1, 1, 1) ∷ [])) (replicate 260 lost_slot)

-- (1,8,8): 33 requests of one slot each, a slot, and one request more
abbrev full : Run
full = run (started ((1, 8, 8) ∷ [])) (replicate 33 (request 7 1) ++ slot ∷ request 8 1 ∷ [])

pub record Cases : Type 0 where
  pub listing_says :
      listing.says
      ≡ used (Hard 1)
      ∷ used (Hard 2)
      ∷ used (Hard 3)
      ∷ used (Hard 1)
      ∷ used (Hard 2)
      ∷ verdict Taken
      ∷ used (Given 7)
      ∷ used (Given 7)
      ∷ used (Hard 1)
      ∷ used (Hard 2)
      ∷ used (Hard 1)
      ∷ used (Hard 3)
      ∷ used (Given 7)
      ∷ []
  pub listing_tally : tally listing.end ≡ record { hard = 9; given = 3; empty = 0; lost = 0 }
  pub listing_total : late_total_of listing.end ≡ total_is 0
  -- the first given slot is 15
  pub tight_says :
      tight.says
      ≡ verdict Taken
      ∷ used (Hard 1)
      ∷ used (Hard 1)
      ∷ used (Hard 2)
      ∷ used (Hard 2)
      ∷ used (Hard 1)
      ∷ used (Hard 1)
      ∷ used (Hard 2)
      ∷ used (Hard 2)
      ∷ used (Hard 1)
      ∷ used (Hard 1)
      ∷ used (Hard 2)
      ∷ used (Hard 2)
      ∷ used (Hard 1)
      ∷ used (Hard 1)
      ∷ used (Given 7)
      ∷ []
  pub short_says : short.says ≡ answer (record { verdict = Taken; used = Lost; word = 1; late = 1 }) ∷ []
  pub short_total : late_total_of short.end ≡ total_is 1
  pub long_total : late_total_of long.end ≡ total_is 260
  -- the 33rd finds no place, refusal 9; after one has finished there is one
  pub full_says : full.says ≡ replicate 32 (verdict Taken) ++ verdict (Err QueueFull) ∷ used (Given 7) ∷ verdict Taken ∷ []
