-- The slack tells the numbers that a row holds: those below it.
use mathlib.Core.Path.{◌≡◌, refl, ap, sym, ◌∙◌}
use mathlib.Core.Logic.{inl, inr}
use mathlib.Core.Bool.{Bool, true, false}
use Prim.Native.Nat.{ℕ, zero, suc, ◌+◌, ◌-◌, ◌≤◌, ◌<◌, max}
use native.Mathlib.Decide.{dec_le, dec_lt}
use native.Mathlib.Numerals.{add-one}
use native.Mathlib.Omega.{arith}
use lib.Dec.{ltb}
use borrow.Author.Tests.{lt-ltb, le-ltb}
use Rattle.law.specs.Work.{W, Periods, holds, Held, allowance}
use Rattle.law.specs.Slack.{slack}
use Rattle.law.proofs.Work.{room_held, holds_held, held_holds, allowance_most, allowance_is}

-- some t has room for k exactly where k is below the slack
pub record Room (C T : ℕ → ℕ) (i D k : ℕ) : Type 0 where
  pub t : ℕ
  pub due : t ≤ D
  pub room : C i + k + W C T i t ≤ t

pub slack_room : (C T : ℕ → ℕ) (i D k : ℕ) → k < slack C T i D → Room C T i D k
unfolding slack
slack_room C T i zero k q = absurd (omega arith)
slack_room C T i (suc d) k q =
    elim (dec_lt k (slack C T i d)) [
      | yes r ↦ (let x = slack_room C T i d k r in record { t = x.t; due = omega (arith, x.due); room = x.room })
      | no r ↦ record { t = suc d; due = omega arith; room = omega arith }
    ]

pub room_slack : (C T : ℕ → ℕ) (i D k t : ℕ) → 1 ≤ C i → t ≤ D → C i + k + W C T i t ≤ t → k < slack C T i D
unfolding slack
room_slack C T i zero k t one q r = absurd (omega arith)
room_slack C T i (suc d) k t one q r =
    elim (dec_le t d) [
      | yes s ↦ omega (arith, room_slack C T i d k t one s r)
      | no s ↦ (let e : t ≡ suc d = omega arith in omega (arith, ap (λ (x : ℕ). W C T i x) e))
    ]

-- one t more, as a loop counts
pub slack_next : (C T : ℕ → ℕ) (i d : ℕ) → slack C T i (d + 1) ≡ max (slack C T i d) (d + 1 + 1 - (C i + W C T i (d + 1)))
unfolding slack
slack_next C T i d = rw (add-one d, add-one (suc d))

pub slack_small : (C T : ℕ → ℕ) (i D : ℕ) → 1 ≤ C i → slack C T i D ≤ D
unfolding slack
slack_small C T i zero one = omega arith
slack_small C T i (suc d) one = omega (arith, slack_small C T i d one)

module _ (C T : ℕ → ℕ) (i D : ℕ) (one : 1 ≤ C i) (p : Periods T i) where
  pub slack_held : (k : ℕ) → k < slack C T i D → Held C T i D k
  slack_held k q = let y = slack_room C T i D k q in room_held C T i D one p k y.t y.due y.room

  pub held_slack : (k : ℕ) → Held C T i D k → k < slack C T i D
  held_slack k x = room_slack C T i D k x.t one x.due (omega (arith, x.fix))

  -- row i holds just the numbers below its slack
  pub holds_slack : (k : ℕ) → holds C T i D k ≡ ltb k (slack C T i D)
  holds_slack k = go (holds C T i D k) refl
    where
      go : (b : Bool) → holds C T i D k ≡ b → b ≡ ltb k (slack C T i D)
      go true e = sym (lt-ltb k (slack C T i D) (held_slack k (holds_held C T i D k e)))
      go false e =
          elim (dec_lt k (slack C T i D)) [
            | yes q ↦ sym e ∙ held_holds C T i D k (slack_held k q) ∙ sym (lt-ltb k (slack C T i D) q)
            | no q ↦ sym (le-ltb k (slack C T i D) (omega arith))
          ]

  -- so its allowance is one less
  pub allowance_slack : allowance C T i D ≡ slack C T i D - 1
  allowance_slack =
      let low : slack C T i D - 1 ≤ allowance C T i D =
      elim (dec_lt 0 (slack C T i D)) [
        | yes q ↦ allowance_most C T i D (slack C T i D - 1) (held_holds C T i D (slack C T i D - 1) (slack_held (slack C T i D - 1) (omega arith)))
        | no q ↦ omega arith
      ] in
      elim (allowance_is C T i D) [
        | inl z ↦ omega arith
        | inr e ↦ omega (arith, held_slack (allowance C T i D) (holds_held C T i D (allowance C T i D) e))
      ]
