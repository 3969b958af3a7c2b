-- No two outcomes meet the contract of a public function: the result, and what stands in the lent buffer.
use mathlib.Core.List.{List}
use Prim.Native.Nat.{ℕ}
use lib.ListN.{length}
use Rattle.seq.specs.Outcomes.{OneOutcome}
use Rattle.seq.proofs.Outcomes.{one_outcome}
use Rattle.record.specs.declared.Written.{Written}
use Rattle.record.specs.Record.{written_of, buffer_of}
use Rattle.writer.proofs.write.Reads as write

write_one : OneOutcome {X = λ κs. Written × List ℕ} write.Post (λ κs x s. (x, s.1.0.now))
write_one = one_outcome write.Post _ (λ κs a. (written_of a.0 (length a.1.0.now), buffer_of a.0 a.1.0.now)) (λ κs a x s p. rw (p.0, p.1))
