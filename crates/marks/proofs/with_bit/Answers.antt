use Prim.Native.Nat.{◌^◌}
use native.Mathlib.Nat.{mul-one}
use Rattle.seq.proofs.Words.{or_bit}
use Rattle.marks.proofs.with_bit.Goals as goal

pub returns-then-on : goal.returns-then-on
returns-then-on c =
    rw (c.if-on.true, mul-one (2 ^ c.args.i)) (or_bit c.args.w c.args.i c.requires.1 c.requires.0)
