-- A contract that says by an equation what the outcome is fixes it.
use mathlib.Core.Path.{◌≡◌, sym, ◌∙◌}
use Rattle.seq.specs.Outcomes.{OneOutcome}

module _ {K : Type 0} {A R E X : K → Type 0} (post : (κs : K) → A κs → R κs → E κs → Type 0) (seen : (κs : K) → R κs → E κs → X κs) where
  pub one_outcome : (f : (κs : K) → A κs → X κs) → ((κs : K) (a : A κs) (x : R κs) (s : E κs) → post κs a x s → seen κs x s ≡ f κs a)
      → OneOutcome post seen
  one_outcome f e κs a x y s z p q = e κs a x s p ∙ sym (e κs a y z q)
