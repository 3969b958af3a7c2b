-- Where a run begins.
use Rattle.std.specs.Prelude.{ℕ, List, replicate}
use Rattle.table.specs.declared.Table.{Table}
use Rattle.table.specs.Verdicts.{taken}
use Rattle.table.specs.Form.{no_table}
use Rattle.allowance.specs.Test.{test_of}
use Rattle.engine.specs.declared.State.{State}
use Rattle.engine.specs.declared.Started.{Started}

-- a table and its allowances; nothing is left, late or counted, and none waits
unfoldable pub blank : ℕ → Table → List ℕ → State
blank next x k =
    record {
      n = x.n;
      next = next;
      c = x.c;
      t = x.t;
      d = x.d;
      k = k;
      left = replicate 16 0;
      counter = replicate 16 0;
      late = replicate 16 0;
      count = 0;
      names = replicate 32 0;
      sizes = replicate 32 0;
      hard = 0;
      given = 0;
      empty = 0;
      lost = 0;
    }

-- slot 1 is next
abbrev pub begun : Table → List ℕ → State
begun x k = blank 1 x k

-- all zero
abbrev pub no_state : State
no_state = blank 0 no_table (replicate 16 0)

-- refusals 4, 5, 6 and 7, by the test of the table
unfoldable pub start_of : Table → Started
start_of x = record { verdict = (test_of x).verdict; state = taken (test_of x).verdict (begun x (test_of x).each) no_state }
