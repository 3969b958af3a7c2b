use Rattle.std.proofs.Common.{◌≡◌, refl, sym, ◌∙◌, rules, length}
use Rattle.engine.specs.Slot.{slot_of}
use Rattle.engine.specs.Said.{is_on}
use Rattle.engine.proofs.Legality.{parts_legal, slot_tested, slot_legal}
use Rattle.engine.proofs.Ran.{ran_is}
use Rattle.engine.proofs.slot_said.Goals as goal

pub returns-in-Err : goal.returns-in-Err
unfolding slot_of
returns-in-Err c =
    let ok = parts_legal c.args.s c.rows_legal.ensures c.run_legal.ensures c.is_proper.ensures in
    let e = sym (slot_tested c.args.s (is_on c.args.lost) ok c.slot_refusal.ensures) ∙ c.in-Err.is in
    rw (e, c.refused-answer.ensures)

pub overflow_sub-ran : goal.overflow_sub-ran
overflow_sub-ran c =
    let ok = parts_legal c.args.s c.rows_legal.ensures c.run_legal.ensures c.is_proper.ensures in
    let lost = is_on c.args.lost in
    let z = sym (slot_tested c.args.s lost ok c.slot_refusal.ensures) ∙ c.in-Ok.is in
    (slot_legal c.args.s lost z).0.began

pub returns-in-Ok : goal.returns-in-Ok
unfolding slot_of
returns-in-Ok c =
    let s = c.args.s in
    let lost = c.is_on-away.result in
    let ok = parts_legal s c.rows_legal.ensures c.run_legal.ensures c.is_proper.ensures in
    let z = sym (slot_tested s lost ok c.slot_refusal.ensures) ∙ c.in-Ok.is in
    let names : length s.names ≡ 32 = search rules in
    let sizes : length s.sizes ≡ 32 = search rules in
    rw (← c.is_on-away.ensures, z)
    (ran_is s (slot_legal s lost z).0 names sizes lost
    refl
    c.reload.ensures
    c.mark-marks.ensures
    c.release.ensures
    c.choose-choice.ensures
    c.used_for-used.ensures
    c.charges.ensures
    c.charge.ensures
    c.row_served.ensures
    c.work.ensures
    c.is_given-served.ensures
    c.is_last-done.ensures
    c.lower.ensures
    c.shift.ensures
    c.shift-in-Ok.ensures
    c.fewer-count.ensures
    c.late_word-w.ensures
    c.drop_late.ensures
    c.count_late.ensures
    c.is_hard.ensures
    c.count_up-hard.ensures
    c.count_up-given.ensures
    c.is_empty.ensures
    c.count_up-empty.ensures
    c.is_lost.ensures
    c.count_up-gone.ensures
    c.count_up-next.ensures
    c.answered-answer.ensures)
