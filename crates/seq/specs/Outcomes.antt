-- When a contract fixes its outcome: no two different ones meet it. `post` is what a contract says of the arguments, the result and
-- the arguments at the exit, and `seen` is the outcome: the result, and what stands in each lent place. K stands for the lifetimes.
use Rattle.std.specs.Prelude.{◌≡◌}

module _ {K : Type 0} {A R E X : K → Type 0} where
  abbrev pub OneOutcome : ((κs : K) → A κs → R κs → E κs → Type 0) → ((κs : K) → R κs → E κs → X κs) → Type 0
  OneOutcome post seen =
      (κs : K) (a : A κs) (x y : R κs) (s z : E κs) → post κs a x s → post κs a y z → seen κs x s ≡ seen κs y z
