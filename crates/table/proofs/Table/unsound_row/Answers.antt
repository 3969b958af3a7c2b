use Rattle.std.proofs.Common.{sym, ◌∙◌, arith}
use Rattle.seq.proofs.Places.{lead_miss, below_hit}
use Rattle.table.specs.Form.{sound, unsound_row}
use Rattle.table.proofs.Table.unsound_row.Goals as goal

pub returns-then-not-ok : goal.returns-then-not-ok
unfolding unsound_row
returns-then-not-ok c =
    let l = c.loop-i in
    let x = c.args.self.now in
    below_hit 16 (sound x.n x.c x.t x.d) l.i (omega arith) (sym c.is_sound-ok.ensures ∙ c.if-not-ok.true) l.invariant

pub loop-i-preserved : goal.loop-i-preserved
unfolding unsound_row
loop-i-preserved c =
    let l = c.loop-i in
    let x = c.args.self.now in
    omega (arith, lead_miss 16 (sound x.n x.c x.t x.d) l.i (omega arith) (sym c.is_sound-ok.ensures ∙ c.if-not-ok.false) l.invariant)
