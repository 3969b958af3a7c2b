-- One slot, in document 01's order: the opening (reload, release, choice) and, once it is known whether the slot was lost, the rest.
use Rattle.std.specs.Prelude.{ℕ, suc, ◌+◌, List, Bool, cond, ◌&&◌, not}
use Rattle.std.specs.Int.Count.{ones}
use Rattle.seq.specs.Places.{flag, at}
use Rattle.rows.specs.Rows.{reloaded, released, charged, worked}
use Rattle.marks.specs.Words.{due_word, end_word, late_word}
use Rattle.late.specs.Late.{dropped, counted}
use Rattle.uses.specs.declared.Choice.{Choice}
use Rattle.uses.specs.declared.Use.{Use}
use Rattle.uses.specs.declared.Use.TheVariants as use_for
use Rattle.uses.specs.Uses.{chosen, is_give, used_for, row_served, is_hard, is_given, is_empty, is_lost}
use Rattle.table.specs.Verdicts.{Verdict, Taken, taken}
use Rattle.legal.specs.Legal.{slot_refusal}
use Rattle.queue.specs.Queue.{served}
use Rattle.engine.specs.declared.State.{State}
use Rattle.engine.specs.declared.Answer.{Answer}
use Rattle.engine.specs.declared.Slotted.{Slotted}
use Rattle.engine.specs.States.{Tally, queue, tally, with_figures}
use Rattle.engine.specs.Legal.{ran, legal}

abbrev pub tallied : Use → Tally → Tally
tallied u y =
    record {
      hard = y.hard + flag (is_hard u);
      given = y.given + flag (is_given u);
      empty = y.empty + flag (is_empty u);
      lost = y.lost + flag (is_lost u);
    }

-- The work left through a slot before which m slots were run: after the release, after the row at a place got it, after the judgement
module _ (m n : ℕ) (c t d : List ℕ) where
  unfoldable pub left_released : List ℕ → List ℕ
  left_released left = released (due_word m n t) c left

  unfoldable pub left_used : ℕ → List ℕ → List ℕ
  left_used row left = worked row (left_released left)

  unfoldable pub lates : ℕ → List ℕ → ℕ
  lates row left = late_word (end_word m n t d) (left_used row left)

  unfoldable pub left_judged : ℕ → List ℕ → List ℕ
  left_judged row left = dropped (lates row left) (left_used row left)

-- The opening of a state's next slot
module _ (s : State) where
  unfoldable pub counter₁ : List ℕ
  counter₁ = reloaded s.n s.left s.k s.counter

  unfoldable pub left₁ : List ℕ
  left₁ = left_released (ran s) s.n s.c s.t s.d s.left

  unfoldable pub choice_of : Choice
  choice_of = chosen s.n s.count left₁ counter₁

-- The rest
module _ (s : State) (lost : Bool) where
  unfoldable pub use_of : Use
  use_of = used_for lost (choice_of s) (at s.names 0)

  unfoldable pub late_of : ℕ
  late_of = lates (ran s) s.n s.c s.t s.d (row_served use_of) s.left

  unfoldable pub settled : State
  settled =
      with_figures s
      (suc s.next)
      (left_judged (ran s) s.n s.c s.t s.d (row_served use_of) s.left)
      (charged s.n (is_give (choice_of s) && not lost) (counter₁ s))
      (counted late_of s.late)
      (cond (is_given use_of) (served (queue s)) (queue s))
      (tallied use_of (tally s))

  unfoldable pub answered : Answer
  answered = record { verdict = Taken; used = use_of; word = late_of; late = ones late_of }

  -- refusals 11 and 10
  unfoldable pub slot_verdict : Verdict
  slot_verdict = slot_refusal (legal s) s.next

  unfoldable pub slot_of : Slotted
  slot_of =
      taken slot_verdict (record { state = settled; answer = answered })
      (record { state = s; answer = record { verdict = slot_verdict; used = use_for.Empty; word = 0; late = 0 } })
