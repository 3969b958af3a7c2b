use Rattle.seq.proofs.Bytes.{big_part}
use native.Mathlib.Omega.{arith}
use Rattle.record.proofs.row_in.Goals as goal

pub returns : goal.returns
returns c =
    let p = c.args.p.now in
    rw (c.big-d.ensures, c.big-t.ensures, c.big-c.ensures, big_part 2 0 p 0 (omega arith), big_part 2 2 p 0 (omega arith), big_part 2 4 p 0 (omega arith))
