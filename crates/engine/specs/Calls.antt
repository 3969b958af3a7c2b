-- A request, and the late total.
use Rattle.std.specs.Prelude.{ℕ, Err, cond}
use Rattle.table.specs.declared.Refusal.TheVariants.{StateIllegal}
use Rattle.table.specs.Verdicts.{Verdict, Taken, taken}
use Rattle.legal.specs.Legal.{request_refusal}
use Rattle.late.specs.Late.{total}
use Rattle.queue.specs.Queue.{asked}
use Rattle.engine.specs.declared.State.{State}
use Rattle.engine.specs.declared.Requested.{Requested}
use Rattle.engine.specs.declared.Summed.{Summed}
use Rattle.engine.specs.States.{queue, tally, with_figures}
use Rattle.engine.specs.Legal.{legal}

module _ (s : State) (name size : ℕ) where
  unfoldable pub joined : State
  joined = with_figures s s.next s.left s.counter s.late (asked (queue s) (record { name = name; size = size })) (tally s)

  -- refusals 11, 8 and 9
  unfoldable pub request_verdict : Verdict
  request_verdict = request_refusal (legal s) size s.count

  unfoldable pub request_of : Requested
  request_of = record { state = taken request_verdict joined s; verdict = request_verdict }

-- the sum of the late counts
unfoldable pub late_total_of : State → Summed
late_total_of s =
    cond (legal s) (record { verdict = Taken; total = total 16 s.late }) (record { verdict = Err StateIllegal; total = 0 })
