-- No two outcomes meet the contract of a public function.
use denote.RattleType.{RattleType}
use denote.Param.Laws.{Laws}
use mir.Syntax.{Dict}
use Rattle.seq.specs.Outcomes.{OneOutcome}
use Rattle.seq.proofs.Outcomes.{one_outcome}
use Rattle.table.proofs.number_of.Reads as number
use Rattle.table.proofs.row_named.Reads as row_named
use Rattle.table.proofs.refuse.Reads as refuse
use Rattle.table.proofs.Table.form.Reads as form
use Rattle.table.specs.declared.Reason.{Ghosts}
use Rattle.table.specs.Formed.{tables_of}
use Rattle.table.proofs.Table.formed.Reads as formed
use Rattle.table.proofs.Table.zeros.Reads as zeros
use Rattle.table.proofs.Table.row.Reads as row
use Rattle.table.proofs.Refusal.number.Reads as number_in
use Rattle.table.proofs.Refusal.row.Reads as row_in
use Rattle.table.proofs.RefusalReason.said_number.Reads as said_number
use Rattle.table.proofs.RefusalReason.said_row.Reads as said_row
use Rattle.table.proofs.Tuple2U8UsizeReason.said_number.Reads as two_number
use Rattle.table.proofs.Tuple2U8UsizeReason.said_row.Reads as two_row

-- of every kind of reason: its type, the laws of that, what it says of itself, and how it is called
number_of_one : (E : RattleType) (l : Laws E) (g : Ghosts E.Denot) (d : Dict) → OneOutcome (number.Post E l g d) (λ κs x s. x)
number_of_one E l g d = one_outcome (number.Post E l g d) _ _ (λ κs a x s p. p)

row_named_one : (E : RattleType) (l : Laws E) (g : Ghosts E.Denot) (d : Dict) → OneOutcome (row_named.Post E l g d) (λ κs x s. x)
row_named_one E l g d = one_outcome (row_named.Post E l g d) _ _ (λ κs a x s p. p)

refuse_one : (E : RattleType) (l : Laws E) (d : Dict) → OneOutcome (refuse.Post E l d) (λ κs x s. x)
refuse_one E l d = one_outcome (refuse.Post E l d) _ _ (λ κs a x s p. p)

form_one : OneOutcome form.Post (λ κs x s. x)
form_one = one_outcome form.Post _ _ (λ κs a x s p. p)

zeros_one : OneOutcome zeros.Post (λ κs x s. x)
zeros_one = one_outcome zeros.Post _ _ (λ κs a x s p. p)

number_in_one : OneOutcome number_in.Post (λ κs x s. x)
number_in_one = one_outcome number_in.Post _ _ (λ κs a x s p. p)

row_in_one : OneOutcome row_in.Post (λ κs x s. x)
row_in_one = one_outcome row_in.Post _ _ (λ κs a x s p. p)

row_one : OneOutcome row.Post (λ κs x s. x)
row_one = one_outcome row.Post _ _ (λ κs a x s p. p)

said_number_one : OneOutcome said_number.Post (λ κs x s. x)
said_number_one = one_outcome said_number.Post _ _ (λ κs a x s p. p)

said_row_one : OneOutcome said_row.Post (λ κs x s. x)
said_row_one = one_outcome said_row.Post _ _ (λ κs a x s p. p)

two_number_one : OneOutcome two_number.Post (λ κs x s. x)
two_number_one = one_outcome two_number.Post _ _ (λ κs a x s p. p)

two_row_one : OneOutcome two_row.Post (λ κs x s. x)
two_row_one = one_outcome two_row.Post _ _ (λ κs a x s p. p)

-- a table's own type is no more than its table
formed_one : OneOutcome formed.Post (λ κs x s. tables_of x)
formed_one = one_outcome formed.Post _ _ (λ κs a x s p. p)
