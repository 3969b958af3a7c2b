-- A state's parts by name, and states with other parts.
use Rattle.std.specs.Prelude.{ℕ, List, length}
use Rattle.queue.specs.Queue.{Request, waiting, names_of, sizes_of}
use Rattle.engine.specs.declared.State.{State}

pub record Tally : Type 0 where
  pub hard : ℕ
  pub given : ℕ
  pub empty : ℕ
  pub lost : ℕ

module _ (s : State) where
  -- the requests that wait
  abbrev pub queue : List Request
  queue = waiting s.count s.names s.sizes

  abbrev pub tally : Tally
  tally = record { hard = s.hard; given = s.given; empty = s.empty; lost = s.lost }

  -- the same table and allowances
  unfoldable pub with_figures : ℕ → List ℕ → List ℕ → List ℕ → List Request → Tally → State
  with_figures next left counter late queue tally =
      record {
        n = s.n;
        next = next;
        c = s.c;
        t = s.t;
        d = s.d;
        k = s.k;
        left = left;
        counter = counter;
        late = late;
        count = length queue;
        names = names_of queue;
        sizes = sizes_of queue;
        hard = tally.hard;
        given = tally.given;
        empty = tally.empty;
        lost = tally.lost;
      }
