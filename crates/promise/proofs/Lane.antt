-- The rows' figures through slots that are released, used and judged as the engine does it: each row's part is a run of the law. Both the
-- engine's runs and those that give too much away are such.
use mathlib.Core.Path.{◌≡◌, refl, ◌∙◌}
use mathlib.Core.List.{List}
use mathlib.Core.Bool.{Bool, true, false, cond, ◌&&◌}
use Prim.Native.Nat.{ℕ, suc, ◌+◌, ◌≤◌, ◌<◌}
use native.Mathlib.Omega.{arith}
use lib.Dec.{eqb, ltb}
use lib.ListN.{length}
use Rattle.seq.specs.Places.{flag, at}
use Rattle.seq.specs.Words.{bit}
use Rattle.seq.proofs.Places.{over_length}
use Rattle.law.specs.Age.{released}
use Rattle.law.specs.Judge.{RowRun, Link}
use Rattle.law.proofs.Age.{released_apart}
use Rattle.law.proofs.Judge.{judged_periodic, link_run, link_flag}
use Rattle.law.proofs.Laws.{late_counts}
use Rattle.rows.specs.Rows.{rows_of, worked}
use Rattle.marks.specs.Words.{ends}
use Rattle.late.specs.Late.{dropped, counted}
use Rattle.rows.specs.Rows as rows
use Rattle.marks.proofs.Points.{released_at, late_at}
use Rattle.rows.proofs.Points.{worked_at}
use Rattle.late.proofs.Points.{dropped_at, counted_at}
use Rattle.table.specs.WellFormed.{WellFormed}
use Rattle.engine.specs.declared.Answer.{Answer}
use Rattle.uses.specs.declared.Use.{Use}
use Rattle.uses.specs.Uses.{row_served}
use Rattle.engine.specs.Slot.{left_released, left_used, lates, left_judged}
use Rattle.promise.specs.History.{answer_at, is_row, hit, late_count, ends_late}

-- one slot, before which m were run
module _ (m n : ℕ) (c t d left : List ℕ) (long : length left ≡ 16) where
  pub mid_long : length (left_released m n c t d left) ≡ 16
  unfolding left_released rows.released
  mid_long = over_length 16 _ left ∙ long

  pub used_long : (row : ℕ) → length (left_used m n c t d row left) ≡ 16
  unfolding left_used worked
  used_long row = over_length 16 _ (left_released m n c t d left) ∙ mid_long

  pub judged_long : (row : ℕ) → length (left_judged m n c t d row left) ≡ 16
  unfolding left_judged dropped
  judged_long row = over_length 16 _ (left_used m n c t d row left) ∙ used_long row

  module _ (i : ℕ) (r : i < rows_of n) where
    pub mid_at : at (left_released m n c t d left) i ≡ cond (released (at t i) m) (at c i) (at left i)
    unfolding left_released
    mid_at = released_at i m n r t c left (omega arith)

    -- u is what the slot is used for
    module _ (u : Use) where
      pub used_at : eqb i (row_served u) ≡ is_row i u → flag (is_row i u) ≤ at (left_released m n c t d left) i
          → at (left_used m n c t d (row_served u) left) i + flag (is_row i u) ≡ at (left_released m n c t d left) i
      unfolding left_used
      used_at e f =
          omega (arith, rw e at (worked_at i (omega arith) (row_served u) (left_released m n c t d left) (omega (arith, mid_long))))

    module _ (row : ℕ) where
      pub bit_at : bit (lates m n c t d row left) i ≡ ends m (at t i) (at d i) && ltb 0 (at (left_used m n c t d row left) i)
      unfolding lates
      bit_at = late_at i m n r t d (left_used m n c t d row left)

      pub judged_at : at (left_judged m n c t d row left) i ≡ cond (bit (lates m n c t d row left) i) 0 (at (left_used m n c t d row left) i)
      unfolding left_judged
      judged_at = dropped_at i (omega arith) (lates m n c t d row left) (left_used m n c t d row left) (omega (arith, used_long row))

-- the work left and the late counts before each of the slots of a history
pub record Lane (n : ℕ) (c t d : List ℕ) (h : List Answer) (left late : ℕ → List ℕ) : Type 0 where
  pub nothing : (i : ℕ) → i < n → at (left 0) i ≡ 0
  pub none_late : (i : ℕ) → i < n → at (late 0) i ≡ 0
  pub left_long : (x : ℕ) → x ≤ length h → length (left x) ≡ 16
  pub late_long : (x : ℕ) → x ≤ length h → length (late x) ≡ 16
  pub places : (x : ℕ) → x < length h → (i : ℕ) → i < 16 → eqb i (row_served (answer_at h x).used) ≡ is_row i (answer_at h x).used
  pub fits : (x : ℕ) → x < length h → (i : ℕ) → flag (is_row i (answer_at h x).used) ≤ at (left_released x n c t d (left x)) i
  pub left_next : (x : ℕ) → x < length h → left (suc x) ≡ left_judged x n c t d (row_served (answer_at h x).used) (left x)
  pub word_is : (x : ℕ) → x < length h → (answer_at h x).word ≡ lates x n c t d (row_served (answer_at h x).used) (left x)
  pub late_next : (x : ℕ) → x < length h → late (suc x) ≡ counted (answer_at h x).word (late x)

module _ {n : ℕ} {c t d : List ℕ} {h : List Answer} {left late : ℕ → List ℕ} (o : WellFormed n c t d) (z : Lane n c t d h left late) where
  -- after the release, and after the use
  abbrev pub mids : ℕ → List ℕ
  mids x = left_released x n c t d (left x)

  abbrev pub uses : ℕ → List ℕ
  uses x = left_used x n c t d (row_served (answer_at h x).used) (left x)

  module _ (i : ℕ) (r : i < n) where
    in_rows : i < rows_of n
    in_rows = omega (arith, o.counted.1)

    one : 1 ≤ at d i
    one = omega (arith, (o.ordered i r).some, (o.ordered i r).due)

    module _ (x : ℕ) (p : x < length h) where
      pub lane_mid : at (mids x) i ≡ cond (released (at t i) x) (at c i) (at (left x) i)
      lane_mid = mid_at x n c t d (left x) (z.left_long x (omega arith)) i in_rows

      pub lane_used : at (uses x) i + flag (is_row i (answer_at h x).used) ≡ at (mids x) i
      lane_used = used_at x n c t d (left x) (z.left_long x (omega arith)) i in_rows (answer_at h x).used (z.places x p i (omega (arith, o.counted.1))) (z.fits x p i)

      pub lane_bit : bit (answer_at h x).word i ≡ ends x (at t i) (at d i) && ltb 0 (at (uses x) i)
      lane_bit = rw (z.word_is x p) (bit_at x n c t d (left x) (z.left_long x (omega arith)) i in_rows (row_served (answer_at h x).used))

      pub lane_left : at (left (suc x)) i ≡ cond (bit (answer_at h x).word i) 0 (at (uses x) i)
      lane_left = rw (z.left_next x p, z.word_is x p) (judged_at x n c t d (left x) (z.left_long x (omega arith)) i in_rows (row_served (answer_at h x).used))

      pub lane_late : at (late (suc x)) i ≡ at (late x) i + flag (bit (answer_at h x).word i)
      lane_late = rw (z.late_next x p) (counted_at i (omega (arith, o.counted.1)) (answer_at h x).word (late x) (omega (arith, z.late_long x (omega arith))))

    pub row_run : RowRun (at c i) (at d i) (released (at t i)) (hit h i) (length h) (λ x. at (left x) i) (λ x. at (uses x) i) (λ x. at (late x) i)
    row_run =
        record {
          nothing = z.nothing i r;
          none_late = z.none_late i r;
          uses = λ x p. lane_used x p ∙ lane_mid x p;
          judges = λ x p. rw (lane_left x p, lane_late x p, lane_bit x p) (judged_periodic (at t i) (at d i) x (at (uses x) i) (at (late x) i) one (o.ordered i r).within);
        }

    -- the late count is the number of the late instances
    pub lane_count : at (late (length h)) i ≡ late_count h i (at c i) (at t i) (at d i)
    lane_count = late_counts (at c i) (at d i) (released (at t i)) (hit h i) one (released_apart (at t i) (at d i) (o.ordered i r).within) (length h) _ _ _ row_run

    link : (x : ℕ) → x ≤ length h → Link (at c i) (at d i) (released (at t i)) (hit h i) x (at (left x) i) (at (late x) i)
    link = link_run (at c i) (at d i) (released (at t i)) (hit h i) one (released_apart (at t i) (at d i) (o.ordered i r).within) (length h) _ _ _ row_run

    -- a bit of a late word says that the instance whose last slot it is got too few
    pub lane_flag : (x : ℕ) → x < length h → bit (answer_at h x).word i ≡ ends_late h i (at c i) (at t i) (at d i) x
    lane_flag x p =
        same _ _
        (link_flag (at c i) (at d i) (released (at t i)) (hit h i) one (released_apart (at t i) (at d i) (o.ordered i r).within) x _ _ _ _ _
        (link x (omega arith)) (link (suc x) p) (lane_late x p))
      where
        same : (a b : Bool) → flag a ≡ flag b → a ≡ b
        same true true e = refl
        same true false e = absurd (omega arith)
        same false true e = absurd (omega arith)
        same false false e = refl
