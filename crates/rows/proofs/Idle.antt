-- Laws of the rows before the first with work left.
use mathlib.Core.Path.{◌≡◌}
use mathlib.Core.List.{List}
use Prim.Native.Nat.{ℕ, ◌+◌, ◌≤◌, ◌<◌}
use native.Mathlib.Omega.{arith}
use lib.Dec.{eqb}
use borrow.Author.Tests.{eq-eqb, ne_eqb, eqb-true, eqb-false}
use Rattle.seq.specs.Places.{at}
use Rattle.seq.proofs.Places.{lead_most, lead_miss, lead_hit, lead_before, lead_stop}
use Rattle.rows.specs.Rows.{rows_of, idle}

module _ (n : ℕ) (left : List ℕ) where
  pub idle_most : idle n left ≤ rows_of n
  unfolding idle
  idle_most = lead_most (rows_of n) (λ i. eqb (at left i) 0)

  pub idle_miss : (i : ℕ) → i < rows_of n → at left i ≡ 0 → i ≤ idle n left → i + 1 ≤ idle n left
  unfolding idle
  idle_miss i h e g = omega (arith, lead_miss (rows_of n) (λ i. eqb (at left i) 0) i h (eq-eqb _ 0 e) g)

  pub idle_hit : (i : ℕ) → i < rows_of n → (at left i ≡ 0 → ⊥) → i ≤ idle n left → idle n left ≡ i
  unfolding idle
  idle_hit i h e g = lead_hit (rows_of n) (λ i. eqb (at left i) 0) i h (ne_eqb _ 0 e) g

  -- rows before it have no work left, and it has
  pub idle_before : (i : ℕ) → i < idle n left → at left i ≡ 0
  unfolding idle
  idle_before i h = eqb-true _ 0 (lead_before (rows_of n) (λ i. eqb (at left i) 0) i h)

  pub idle_stop : idle n left < rows_of n → at left (idle n left) ≡ 0 → ⊥
  unfolding idle
  idle_stop h = eqb-false _ 0 (lead_stop (rows_of n) (λ i. eqb (at left i) 0) h)
