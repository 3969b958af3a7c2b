-- Counts that stay below 2 to the 64th do not wrap.
use Rattle.std.proofs.Common.{◌≡◌, ℕ, zero, suc, ◌+◌, ◌*◌, ◌%◌, ◌^◌, ◌<◌, ◌≤◌, Bool, true, false, List, add-one, arith}
use Rattle.seq.specs.Places.{flag, at}
use Rattle.seq.specs.Words.{bit}
use Rattle.seq.proofs.Places.{over_alike}
use Rattle.late.specs.Late.{raised, counted, up, total}

-- no figure above b
abbrev pub Within : ℕ → List ℕ → Type 0
Within b l = (i : ℕ) → i < 16 → at l i ≤ b

pub up_exact : (on : Bool) (x : ℕ) → x + 1 < 2 ^ 64 → up on x ≡ x + flag on
up_exact true x h = omega arith
up_exact false x h = omega arith

pub raised_counted : {b : ℕ} (w : ℕ) (late : List ℕ) → Within b late → b + 1 < 2 ^ 64 → raised w late ≡ counted w late
unfolding raised counted
raised_counted w late g h = over_alike 0 16 _ _ late (λ i l. up_exact (bit w i) (at late i) (let z = g i l in omega arith))

-- one more, where the sum so far has wrapped
pub total_more : (l : List ℕ) (i s : ℕ) → s ≡ total i l % 2 ^ 64 → (s + at l i) % 2 ^ 64 ≡ total (i + 1) l % 2 ^ 64
unfolding total
total_more l i s e = rw (add-one i, e) (omega arith)

pub total_most : {b : ℕ} (n : ℕ) (l : List ℕ) → Within b l → n ≤ 16 → total n l ≤ n * b
unfolding total
total_most zero l g h = omega arith
total_most {b} (suc n) l g h =
    let z = g n (omega arith) in
    let y = total_most n l g (omega arith) in
    let e : suc n * b ≡ n * b + b = omega arith in
    omega arith

pub total_exact : {b : ℕ} (l : List ℕ) → Within b l → 16 * b < 2 ^ 64 → total 16 l % 2 ^ 64 ≡ total 16 l
total_exact l g h = let y = total_most 16 l g (omega arith) in omega arith
