-- When the figures of a state are legal: refusal 11.
use Rattle.std.specs.Prelude.{ℕ, suc, ◌+◌, ◌-◌, List, Bool, ◌&&◌, not, eqb, leb}
use Rattle.table.specs.declared.Refusal.TheVariants.{SizeZero, QueueFull, RunOver, StateIllegal}
use Rattle.table.specs.Verdicts.{Verdict, refuse, ◌and_then◌}
use Rattle.queue.specs.Queue.{proper}
use Rattle.kept.specs.Kept.{table_legal, rows_kept, lates_kept}

-- the last slot is 2 to the 48th
abbrev pub last_slot : ℕ
last_slot = 281474976710656

abbrev pub clock_legal : ℕ → Bool
clock_legal next = leb 1 next && leb next (suc last_slot)

-- with slot next to come, next - 1 slots were run
unfoldable pub figures_legal : (n next : ℕ) (c t d k left counter late : List ℕ) (count : ℕ) (names sizes : List ℕ) (hard given empty lost : ℕ) → Bool
figures_legal n next c t d k left counter late count names sizes hard given empty lost =
    table_legal n c t d
    && rows_kept n c d k left counter
    && lates_kept n (next - 1) late
    && eqb (hard + given + empty + lost) (next - 1)
    && clock_legal next
    && proper count names sizes

-- a slot is refused with 11 or 10, a request with 11, 8 or 9, the first that applies
abbrev pub slot_refusal : (ok : Bool) (next : ℕ) → Verdict
slot_refusal ok next = refuse (not ok) StateIllegal and_then refuse (eqb next (suc last_slot)) RunOver

abbrev pub request_refusal : (ok : Bool) (size count : ℕ) → Verdict
request_refusal ok size count =
    refuse (not ok) StateIllegal and_then refuse (eqb size 0) SizeZero and_then refuse (leb 32 count) QueueFull
