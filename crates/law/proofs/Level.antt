-- The row law: what a slot keeps, that row i is then never judged with work left, and the same over a run of slots.
use mathlib.Core.Path.{◌≡◌, refl}
use mathlib.Core.Bool.{Bool, true}
use Prim.Native.Nat.{ℕ, zero, suc, ◌+◌, ◌≤◌, ◌<◌}
use native.Mathlib.Decide.{dec_le}
use native.Mathlib.Omega.{arith}
use borrow.Author.Tests.{ne_eqb}
use Rattle.law.specs.Work.{Periods, Held}
use Rattle.law.specs.Window.{never}
use Rattle.law.specs.Level.{backlog, Slot, Busy, Inv, Run}
use Rattle.law.specs.Age.{number, age_of}
use Rattle.law.proofs.Sums.{sum_le, sum_zero, term_le}
use Rattle.law.proofs.Window.{bumps, win_slot, seen_age, seen_less}
use Rattle.law.proofs.Age.{apart_less, number_turn, number_is, number_due}

module _ (C T : ℕ → ℕ) (i k t : ℕ) where
  -- no work left
  pub rest : (a w : ℕ → ℕ) (c : ℕ) → ((h : ℕ) → h < suc i → w h ≡ 0) → Inv C T i k t a w c
  rest a w c z b = absurd (omega (arith, sum_zero w (suc i) z))

  -- work that is dropped
  pub drops : (a w : ℕ → ℕ) (c : ℕ) (w' : ℕ → ℕ) → ((h : ℕ) → h < suc i → w' h ≤ w h) → Inv C T i k t a w c → Inv C T i k t a w' c
  drops a w c w' q v b =
      let p : backlog w' i ≤ backlog w i = sum_le w' w (suc i) q in
      let y = v (omega arith) in
      record {
        l = y.l;
        m = y.m;
        win =
            record {
              short = y.win.short;
              paid = omega (arith, y.win.paid);
              seen = λ h o. seen_less (T h) y.l (y.m h) (a h) (w h) (w' h) (q h o) (y.win.seen h o);
            };
      }

module _ (C T : ℕ → ℕ) (i D k : ℕ) (periods : Periods T (suc i)) (short : D ≤ T i) (held : Held C T i D k) where
  module _ (a w : ℕ → ℕ) (c : ℕ) (a' w' : ℕ → ℕ) (c' : ℕ) (x : Slot C T i k a w c a' w' c') (v : Inv C T i k held.t a w c) where
    -- at the slot's start: the window goes on, or a new one opens
    opens : Dec (1 ≤ backlog w i) → Busy C T i k held.t a w x.start
    opens (yes b) =
        let y = v b in
        record {
          l = y.l;
          m = y.m;
          win = record { short = y.win.short; paid = omega (arith, y.win.paid, x.goes_on b); seen = y.win.seen };
        }
    opens (no b) =
        record {
          l = 0;
          m = λ h. 0;
          win =
              record {
                short = held.pos;
                paid = omega (arith, x.anew (omega arith));
                seen = λ h q. never refl (omega (arith, term_le w (suc i) h q));
              };
        }

    pub keep : Inv C T i k held.t a' w' c'
    keep b =
        let y = opens (dec_le 1 (backlog w i)) in
        record {
          l = suc y.l;
          m = bumps C T (suc i) a w a' x.mid x.turns y.m;
          win =
              win_slot C T i k held.t periods (omega (arith, held.due)) held.fix y.l x.start c' y.m a w a' x.mid w'
              y.win x.turns x.less b (omega (arith, x.took b));
        }

  -- row i with work left has not reached its deadline
  pub on_time : (a w : ℕ → ℕ) (c : ℕ) → Inv C T i k held.t a w c → 1 ≤ w i → a i < D
  on_time a w c v p =
      let y = v (omega (arith, term_le w (suc i) i (omega arith))) in
      omega (
        arith,
        seen_age (T i) y.l (y.m i) (a i) (w i) p (y.win.seen i (omega arith)),
        y.win.short,
        held.due,
      )

  -- a run of slots
  module _ (L : ℕ) (rel : ℕ → ℕ → Bool) (w m u : ℕ → ℕ → ℕ) (c s : ℕ → ℕ) (z : Run C T i k L rel w m u c s) where
    abbrev ages : ℕ → ℕ → ℕ
    ages x h = age_of (T h) (number (rel h) x)

    run_slot : (x : ℕ) → x < L → Slot C T i k (ages x) (w x) (c x) (ages (suc x)) (u x) (c (suc x))
    unfolding number
    run_slot x q =
        record {
          mid = m x;
          start = s x;
          turns =
              λ h r.
              number_turn (C h) (T h) (w x h) (m x h) (number (rel h) x) (rel h x) (number_due (rel h) (T h) (z.apart h r) x)
              (z.comes x h q r);
          less = λ h r. z.less x h q r;
          anew = z.anew x q;
          goes_on = z.goes_on x q;
          took = λ b. omega (arith, z.took x q b);
        }

    run_inv : (x : ℕ) → x ≤ L → Inv C T i k held.t (ages x) (w x) (c x)
    run_inv zero q = rest C T i k held.t (ages 0) (w 0) (c 0) z.nothing
    run_inv (suc x) q =
        drops C T i k held.t (ages (suc x)) (u x) (c (suc x)) (w (suc x)) (λ h r. z.drops x h q r)
        (keep (ages x) (w x) (c x) (ages (suc x)) (u x) (c (suc x)) (run_slot x q) (run_inv x (omega arith)))

    -- an instance of row i has no work left when it is judged
    pub run_on_time : (x y : ℕ) → x < L → rel i y ≡ true → y + D ≡ suc x → u x i ≡ 0
    run_on_time x y q d e =
        elim (dec_le 1 (u x i)) [
          | yes b ↦
              (let v = keep (ages x) (w x) (c x) (ages (suc x)) (u x) (c (suc x)) (run_slot x q) (run_inv x (omega arith)) in
              let n : number (rel i) (suc x) ≡ D =
              rw e at (number_is (rel i) D (apart_less (rel i) (T i) D short (z.apart i (omega arith))) y D d (omega (arith, held.pos, held.due)) (omega arith)) in
              let f = rw (n, ne_eqb D 0 (λ g. omega (arith, held.pos, held.due))) at (on_time (ages (suc x)) (u x) (c (suc x)) v b) in
              absurd (omega (arith, f)))
          | no b ↦ omega arith
        ]
