-- When a state is legal: refusal 11.
use Rattle.std.specs.Prelude.{ℕ, ◌-◌, Bool}
use Rattle.legal.specs.Legal.{figures_legal}
use Rattle.engine.specs.declared.State.{State}

module _ (s : State) where
  -- the slots run
  abbrev pub ran : ℕ
  ran = s.next - 1

  unfoldable pub legal : Bool
  legal = figures_legal s.n s.next s.c s.t s.d s.k s.left s.counter s.late s.count s.names s.sizes s.hard s.given s.empty s.lost
