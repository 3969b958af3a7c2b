-- The premises of the laws can be met. The row (1,2,2) alone, served as soon as it is released, gets what it needs; where two slots are
-- given away, one more than its allowance, it is late.
use mathlib.Core.Path.{◌≡◌, refl}
use mathlib.Core.Bool.{Bool, true, false, cond}
use Prim.Native.Nat.{ℕ, zero, suc, ◌+◌, ◌≤◌, ◌<◌}
use native.Mathlib.Omega.{arith}
use Rattle.seq.specs.Places.{lead}
use Rattle.law.specs.Sums.{sum}
use Rattle.law.specs.Work.{least, holds, largest, allowance}
use Rattle.law.specs.Age.{released}
use Rattle.law.specs.Level.{Run}
use Rattle.law.specs.Judge.{got, fine, RowRun}
use Rattle.law.specs.Forced.{LateAt, ForcedRun}
use Rattle.law.proofs.Age.{released_apart}
use Rattle.law.proofs.Laws.{row_promise, tight}

-- the row's numbers
abbrev C : ℕ → ℕ
C h = 1

abbrev T : ℕ → ℕ
T h = 2

-- it gets each slot in which it is released
abbrev gets : ℕ → ℕ
gets x = cond (released 2 x) 1 0

no_more : (b : Bool) → cond b 1 0 ≤ cond b (0 + 1) 0
no_more true = omega arith
no_more false = omega arith

served : (L : ℕ) → Run C T 0 1 L (λ h. released 2) (λ x h. 0) (λ x h. gets x) (λ x h. 0) (λ x. 1) (λ x. 1)
unfolding sum
served L =
    record {
      nothing = λ h q. refl;
      apart = λ h q. released_apart 2 2 (omega arith);
      comes = λ x h q r. no_more (released 2 x);
      less = λ x h q r. omega arith;
      drops = λ x h q r. omega arith;
      anew = λ x q e. omega arith;
      goes_on = λ x q e. absurd (omega arith);
      took = λ x q e. absurd (omega arith);
    }

served_row : (L : ℕ) → RowRun 1 2 (released 2) gets L (λ x. 0) (λ x. 0) (λ x. 0)
served_row L =
    record {
      nothing = refl;
      none_late = refl;
      uses = λ x q. omega arith;
      judges = λ x q. fine (λ y e d. refl) refl refl;
    }

holds_one : holds C T 0 2 1 ≡ true
unfolding sum lead least holds
holds_one = refl

pub served_in_time : (L y : ℕ) → released 2 y ≡ true → y + 2 ≤ L → got gets y 2 ≡ 1
served_in_time L =
    (row_promise C T 0 2 1 (λ h q. omega arith) (omega arith) holds_one L (λ h. released 2) (λ x h. 0) (λ x h. gets x) (λ x h. 0) (λ x. 1) (λ x. 1)
    (served L) gets (λ x. 0) (served_row L)).1

-- two slots given away
abbrev waits : ℕ → ℕ
waits zero = 0
waits (suc x) = 1

given_two : ForcedRun C T (λ h. 2) 0 2 2 (λ x h. waits x) (λ x h. 1)
given_two =
    record {
      nothing = λ h q. refl;
      slots =
          λ x q.
          record {
            mid = λ h. 1;
            comes = λ h r. comes x q;
            less = λ h r. omega arith;
            gives = λ e h r. refl;
            takes = λ e p. absurd (omega arith);
            first = λ e p z. absurd (omega arith);
          };
      keeps = λ x h q r f. refl;
    }
  where
    comes : (x : ℕ) → x < 2 → 1 ≡ cond (released 2 x) 1 (waits x)
    comes zero q = refl
    comes (suc zero) q = refl
    comes (suc (suc x)) q = absurd (omega arith)

allowance_one : allowance C T 0 2 ≡ 1
unfolding sum lead least holds largest
allowance_one = refl

pub given_too_much : (x : ℕ) × (h : ℕ) × (x < 2) × (h < 1) × LateAt T (λ h. 2) (λ h. 1) x h
given_too_much =
    tight C T (λ h. 2) 0 2 (omega arith) (λ h q. omega arith) (λ h q. omega arith) (omega (arith, allowance_one)) (λ x h. waits x)
    (λ x h. 1) given_two
