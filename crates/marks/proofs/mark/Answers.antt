use mathlib.Core.Path.{◌≡◌}
use Prim.Native.Nat.{suc, ◌-◌, ◌≤◌, ◌<◌}
use native.Mathlib.Omega.{arith}
use Rattle.rows.specs.Rows.{rows_of}
use Rattle.marks.specs.Words.{due_word, end_word}
use Rattle.marks.proofs.Down.{rest_none, rest_more, rest_low, rest_all}
use Rattle.marks.proofs.mark.Goals as goal

pub loop-i-init : goal.loop-i-init
loop-i-init c =
    let h : rows_of c.args.n ≤ c.min-i.result = omega arith in
    (omega arith, rw (rest_none _ _ _ h), rw (rest_none _ _ _ h))

pub pushed-due-requires : goal.pushed-due-requires
pushed-due-requires c =
    let l = c.loop-i in
    rw l.invariant.1 (rest_low _ _ l.i (omega arith) (omega arith))

pub pushed-end-requires : goal.pushed-end-requires
pushed-end-requires c =
    let l = c.loop-i in
    rw l.invariant.2 (rest_low _ _ l.i (omega arith) (omega arith))

pub loop-i-preserved : goal.loop-i-preserved
loop-i-preserved c =
    let l = c.loop-i in
    let h : l.i - 1 < rows_of c.args.n = omega arith in
    let e : suc (l.i - 1) ≡ l.i = omega arith in (
      omega arith,
      rw (rest_more _ _ (l.i - 1) h, e, ← l.invariant.1, c.pushed-due.ensures, c.remainder-r.ensures, c.from.ensures),
      rw (rest_more _ _ (l.i - 1) h, e, ← l.invariant.2, c.pushed-end.ensures, c.remainder-r.ensures, c.from.ensures, c.from-last.ensures, c.saturating_sub.ensures),
    )

pub returns : goal.returns
unfolding due_word end_word
returns c =
    let l = c.loop-i in
    let e : l.i ≡ 0 = omega arith in
    rw (l.invariant.1, l.invariant.2, e, rest_all, rest_all)
