-- No two outcomes meet the contract of a call over a lent state: of `pub fn f(s: &mut T, x: X) -> N` that lends its state to
-- `step(*s, x)`, leaves there the state that comes of it and answers with the answer.
--     T, X, N        the state, the parameter and the answer, whatever they are
--     D              what `step` returns, of which `state` is the one part and `answer` the other
-- No field of T is named, so a new field changes nothing here.
use Rattle.std.proofs.Common.{◌≡◌}
use Rattle.seq.specs.Outcomes.{OneOutcome}
use Rattle.seq.proofs.Outcomes.{one_outcome}

module _ (T X N D : Type 0) (state : D → T) (answer : D → N) (step : T → X → D) where
  -- what a thin call says of the lent state, the parameter, the answer and the state it leaves; it fixes the last two
  abbrev pub thin_post : Unit {0} → T × X → N → T → Type 0
  thin_post _ a r left = (r ≡ answer (step a.0 a.1)) × (left ≡ state (step a.0 a.1))

  pub thin_one : OneOutcome {X = λ _. N × T} thin_post (λ _ r left. (r, left))
  thin_one = one_outcome thin_post _ (λ _ a. (answer (step a.0 a.1), state (step a.0 a.1))) (λ _ a r left p. rw (p.0, p.1))
