use mathlib.Core.Path.{◌≡◌, refl, sym, ◌∙◌}
use mathlib.Core.Bool.{◌&&◌}
use Prim.Native.Nat.{◌+◌, ◌-◌, ◌<◌}
use native.Mathlib.Omega.{arith}
use lib.Dec.{ltb}
use borrow.Author.Rules.{rules}
use Rattle.seq.specs.Places.{at, tab}
use Rattle.seq.specs.Words.{word, bit, top_of}
use Rattle.seq.proofs.Words.{tab_word_lt, tab_word_more, top_clear, word_stop}
use Rattle.marks.specs.Words.{late_word}
use Rattle.marks.proofs.late_word.Goals as goal

pub loop-i-init : goal.loop-i-init
unfolding word tab
loop-i-init c = (omega arith, c.top-m.ensures, refl)

pub with_bit-w-requires : goal.with_bit-w-requires
with_bit-w-requires c =
    let l = c.loop-i in
    (omega arith, rw l.invariant.2 (tab_word_lt l.i _))

pub loop-i-preserved : goal.loop-i-preserved
loop-i-preserved c =
    let l = c.loop-i in
    (omega arith, l.invariant.1, rw (c.with_bit-w.ensures, c.has.ensures, tab_word_more l.i, ← l.invariant.2))

pub returns : goal.returns
unfolding late_word
returns c =
    let l = c.loop-i in
    let e : l.i ≡ top_of c.args.end = omega (arith, l.invariant.1) in
    let small : c.args.end < 65536 = search rules in
    let f : top_of c.args.end + (16 - top_of c.args.end) ≡ 16 = omega arith in
    (rw e at l.invariant.2) ∙ sym (rw f at (word_stop (top_of c.args.end) (16 - top_of c.args.end) (λ j. bit c.args.end j && ltb 0 (at c.args.left.now j)) (λ j g. rw (top_clear c.args.end small j g))))
