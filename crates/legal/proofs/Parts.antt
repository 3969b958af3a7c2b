-- Legality is its three parts: the rows, the run so far, and the queue.
use mathlib.Core.Path.{◌≡◌}
use mathlib.Core.List.{List}
use mathlib.Core.Bool.{◌&&◌, and_assoc}
use Prim.Native.Nat.{ℕ, ◌+◌, ◌-◌}
use lib.Dec.{eqb}
use Rattle.queue.specs.Queue.{proper}
use Rattle.kept.specs.Kept.{table_legal, rows_kept, lates_kept}
use Rattle.legal.specs.Legal.{clock_legal, figures_legal}

pub parts :
    (n next : ℕ) (c t d k left counter late : List ℕ) (count : ℕ) (names sizes : List ℕ) (hard given empty lost : ℕ)
    → (table_legal n c t d
    && rows_kept n c d k left counter
    && (lates_kept n (next - 1) late && eqb (hard + given + empty + lost) (next - 1) && clock_legal next)
    && proper count names sizes)
    ≡ figures_legal n next c t d k left counter late count names sizes hard given empty lost
unfolding figures_legal
parts n next c t d k left counter late count names sizes hard given empty lost = simp and_assoc
