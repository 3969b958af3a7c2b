-- The choice, case by case.
use mathlib.Core.Path.{◌≡◌}
use mathlib.Core.List.{List}
use mathlib.Core.Bool.{true, false, ◌&&◌}
use Prim.Native.Nat.{ℕ, suc, ◌≤◌, ◌<◌}
use lib.Dec.{ltb}
use borrow.Author.Tests.{lt-ltb, le-ltb}
use Rattle.rows.specs.Rows.{rows_of, idle, none_zero}
use Rattle.uses.specs.declared.Choice.TheVariants.{Give, Hard, Back, Idle}
use Rattle.uses.specs.Uses.{chosen}

module _ (n count : ℕ) (left counter : List ℕ) where
  pub chosen_give : (ltb 0 count && none_zero n counter) ≡ true → Give ≡ chosen n count left counter
  unfolding chosen
  chosen_give e = rw e

  pub chosen_hard : (ltb 0 count && none_zero n counter) ≡ false → idle n left < rows_of n → Hard (suc (idle n left)) ≡ chosen n count left counter
  unfolding chosen
  chosen_hard e h = rw (e, lt-ltb _ _ h)

  pub chosen_back : (ltb 0 count && none_zero n counter) ≡ false → rows_of n ≤ idle n left → 0 < count → Back ≡ chosen n count left counter
  unfolding chosen
  chosen_back e h w = rw (e, le-ltb _ _ h, lt-ltb _ _ w)

  pub chosen_idle : (ltb 0 count && none_zero n counter) ≡ false → rows_of n ≤ idle n left → count ≤ 0 → Idle ≡ chosen n count left counter
  unfolding chosen
  chosen_idle e h w = rw (e, le-ltb _ _ h, le-ltb _ _ w)
