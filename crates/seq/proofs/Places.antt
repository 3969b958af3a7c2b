-- Laws of lists by place, and of the loops that make them.
use mathlib.Core.Path.{◌≡◌, refl, sym, ap, ◌∙◌}
use mathlib.Core.List.{List, [], ◌∷◌, ◌++◌}
use mathlib.Core.Bool.{Bool, true, false, cond, ◌&&◌, and-true, and-false, and_assoc}
use Prim.Native.Nat.{ℕ, zero, suc, ◌+◌, ◌≤◌, ◌<◌, min}
use native.Mathlib.Numerals.{add-one}
use native.Mathlib.Omega.{arith}
use native.Mathlib.Nat.{zero-min, min-zero, suc-min-suc}
use lib.ListN.{length, get_or, set, replicate, take}
use lib.Seq.{ext_get_or, take-nil}
use Rattle.std.specs.Prelude.{Some}
use Rattle.seq.specs.Places.{at, tab, over, lead, below, every}
use Rattle.seq.proofs.Tests.{both_true}
use borrow.Author.Tests.{ltb-true, ltb-false, leb-true, leb-false, lt-ltb, le-leb, lt-leb}
use lib.Dec.{ltb, leb}

pub at_zeros : (n i : ℕ) → at (replicate n 0) i ≡ 0
at_zeros zero i = refl
at_zeros (suc n) zero = refl
at_zeros (suc n) (suc i) = at_zeros n i

module _ {A : Type 0} where
  pub tab_length : (n : ℕ) (f : ℕ → A) → length (tab n f) ≡ n
  unfolding tab
  tab_length zero f = refl
  tab_length (suc n) f = rw (tab_length n (λ i. f (suc i)))

  pub tab_at : (n : ℕ) (f : ℕ → A) (i : ℕ) (d : A) → i < n → get_or (tab n f) i d ≡ f i
  unfolding tab
  tab_at zero f i d h = absurd (omega arith)
  tab_at (suc n) f zero d h = refl
  tab_at (suc n) f (suc i) d h = tab_at n (λ i. f (suc i)) i d (omega arith)

  pub tab_suc : (n : ℕ) (f : ℕ → A) → tab (suc n) f ≡ tab n f ++ f n ∷ []
  unfolding tab
  tab_suc zero f = refl
  tab_suc (suc n) f = ap (λ (l : List A). f 0 ∷ l) (tab_suc n (λ i. f (suc i)))

  -- a loop that goes over the first places
  pub over_length : (n : ℕ) (f : ℕ → A → A) (l : List A) → length (over n f l) ≡ length l
  unfolding over
  over_length zero f l = refl
  over_length (suc n) f [] = refl
  over_length (suc n) f (x ∷ l) = ap suc (over_length n (λ i. f (suc i)) l)

  pub over_in : (d : A) (n : ℕ) (f : ℕ → A → A) (l : List A) (i : ℕ) → i < n → i < length l → get_or (over n f l) i d ≡ f i (get_or l i d)
  unfolding over
  over_in d zero f l i h g = absurd (omega arith)
  over_in d (suc n) f [] i h g = absurd (omega arith)
  over_in d (suc n) f (x ∷ l) zero h g = refl
  over_in d (suc n) f (x ∷ l) (suc i) h g = over_in d n (λ i. f (suc i)) l i (omega arith) (omega arith)

  pub over_out : (d : A) (n : ℕ) (f : ℕ → A → A) (l : List A) (i : ℕ) → n ≤ i → get_or (over n f l) i d ≡ get_or l i d
  unfolding over
  over_out d zero f l i h = refl
  over_out d (suc n) f [] i h = refl
  over_out d (suc n) f (x ∷ l) zero h = absurd (omega arith)
  over_out d (suc n) f (x ∷ l) (suc i) h = over_out d n (λ i. f (suc i)) l i (omega arith)

  -- a list has no places past its length
  pub over_min : (n : ℕ) (f : ℕ → A → A) (l : List A) → over (min n (length l)) f l ≡ over n f l
  unfolding over
  over_min zero f l = rw zero-min
  over_min (suc n) f [] = rw min-zero
  over_min (suc n) f (x ∷ l) = rw (suc-min-suc n (length l), over_min n (λ i. f (suc i)) l)

  -- what it comes to
  pub over_is : (d : A) (n : ℕ) (f : ℕ → A → A) (l k : List A) → length l ≡ length k → ((i : ℕ) → i < n → i < length l → f i (get_or l i d) ≡ get_or k i d)
      → ((i : ℕ) → n ≤ i → i < length l → get_or l i d ≡ get_or k i d) → over n f l ≡ k
  unfolding over
  over_is d zero f l k e a b = ext_get_or d l k e (λ i h. b i (omega arith) h)
  over_is d (suc n) f [] [] e a b = refl
  over_is d (suc n) f [] (y ∷ k) e a b = absurd (omega arith)
  over_is d (suc n) f (x ∷ l) [] e a b = absurd (omega arith)
  over_is d (suc n) f (x ∷ l) (y ∷ k) e a b =
      rw (a 0 (omega arith) (omega arith), over_is d n (λ i. f (suc i)) l k (omega arith) (λ i h g. a (suc i) (omega arith) (omega arith)) (λ i h g. b (suc i) (omega arith) (omega arith)))

  -- places from n on that stay as they are may be left out
  pub over_stop : (d : A) (n m : ℕ) (f : ℕ → A → A) (l : List A) → n ≤ m → ((i : ℕ) (x : A) → n ≤ i → f i x ≡ x) → over n f l ≡ over m f l
  over_stop d n m f l g h =
      over_is d n f l (over m f l) (sym (over_length m f l))
      (λ i p q. sym (over_in d m f l i (omega arith) q))
      (λ i p q. same i p q (ltb i m) refl)
    where
      same : (i : ℕ) → n ≤ i → i < length l → (b : Bool) → ltb i m ≡ b → get_or l i d ≡ get_or (over m f l) i d
      same i p q true e = sym (over_in d m f l i (ltb-true i m e) q ∙ h i (get_or l i d) p)
      same i p q false e = sym (over_out d m f l i (ltb-false i m e))

  over_set : (d : A) (n : ℕ) (f : ℕ → A → A) (l : List A) → set (over n f l) n (f n (get_or l n d)) ≡ over (suc n) f l
  unfolding over
  over_set d zero f [] = refl
  over_set d zero f (x ∷ l) = refl
  over_set d (suc n) f [] = refl
  over_set d (suc n) f (x ∷ l) = ap (λ (k : List A). f 0 x ∷ k) (over_set d n (λ i. f (suc i)) l)

  -- one more place
  pub over_more : (d : A) (i : ℕ) (f : ℕ → A → A) (l now : List A) (x : A) → now ≡ over i f l → x ≡ f i (get_or l i d) → set now i x ≡ over (i + 1) f l
  over_more d i f l now x m e = rw (m, e, add-one i) (over_set d i f l)

  -- what stands from i on is still the old
  pub over_at : (d : A) (i : ℕ) (f : ℕ → A → A) (l now : List A) (j : ℕ) → now ≡ over i f l → i ≤ j → get_or now j d ≡ get_or l j d
  over_at d i f l now j m h = rw m (over_out d i f l j h)

  -- nothing changes
  pub over_same : (n : ℕ) (f : ℕ → A → A) (l : List A) → ((i : ℕ) (x : A) → i < n → f i x ≡ x) → l ≡ over n f l
  unfolding over
  over_same zero f l e = refl
  over_same (suc n) f [] e = refl
  over_same (suc n) f (x ∷ l) e = rw (e 0 x (omega arith), ← over_same n (λ i. f (suc i)) l (λ i y h. e (suc i) y (omega arith)))

  -- two that agree on what stands there
  pub over_alike : (d : A) (n : ℕ) (f g : ℕ → A → A) (l : List A) → ((i : ℕ) → i < n → f i (get_or l i d) ≡ g i (get_or l i d)) → over n f l ≡ over n g l
  unfolding over
  over_alike d zero f g l e = refl
  over_alike d (suc n) f g [] e = refl
  over_alike d (suc n) f g (x ∷ l) e = rw (e 0 (omega arith), over_alike d n (λ i. f (suc i)) (λ i. g (suc i)) l (λ i h. e (suc i) (omega arith)))

  -- a place holds f of what stood there, or what stood there
  pub over_either : (d : A) (n : ℕ) (f : ℕ → A → A) (l : List A) (i : ℕ) (P : A → Type 0) → P (f i (get_or l i d)) → P (get_or l i d) → P (get_or (over n f l) i d)
  unfolding over
  over_either d zero f l i P p q = q
  over_either d (suc n) f [] i P p q = q
  over_either d (suc n) f (x ∷ l) zero P p q = p
  over_either d (suc n) f (x ∷ l) (suc i) P p q = over_either d n (λ j. f (suc j)) l i P p q

  -- one place changes
  pub over_one : (d : A) (n : ℕ) (f : ℕ → A → A) (l : List A) (r : ℕ) (v : A) → r < n → v ≡ f r (get_or l r d) → ((i : ℕ) (x : A) → (i ≡ r → ⊥) → f i x ≡ x) → set l r v ≡ over n f l
  unfolding over
  over_one d zero f l r v h e g = absurd (omega arith)
  over_one d (suc n) f [] r v h e g = refl
  over_one d (suc n) f (x ∷ l) zero v h e g = rw (e, ← over_same n (λ i. f (suc i)) l (λ i y h. g (suc i) y (λ q. omega arith)))
  over_one d (suc n) f (x ∷ l) (suc r) v h e g = rw (g 0 x (λ q. omega arith)) (ap (λ (k : List A). x ∷ k) (over_one d n (λ i. f (suc i)) l r v (omega arith) e (λ i y q. g (suc i) y (λ p. q (omega arith)))))

  -- the first i, of which there may be fewer
  pub take_most : (i n : ℕ) (l : List A) → n ≡ min i (length l) → take n l ≡ take i l
  take_most i n [] e = rw (take-nil {A = A} n, take-nil {A = A} i)
  take_most zero n (x ∷ l) e = let z : n ≡ 0 = omega arith in rw z
  take_most (suc i) zero (x ∷ l) e = absurd (omega arith)
  take_most (suc i) (suc n) (x ∷ l) e = ap (λ (k : List A). x ∷ k) (take_most i n l (omega arith))

-- the first that has not p
step_most : (b : Bool) {x n : ℕ} → x ≤ n → cond b (suc x) 0 ≤ suc n
step_most true h = omega arith
step_most false h = omega arith

step_miss : (b : Bool) {x i : ℕ} → (i ≤ x → i < x) → suc i ≤ cond b (suc x) 0 → suc i < cond b (suc x) 0
step_miss true h g = omega (arith, h (omega arith))
step_miss false h g = absurd (omega arith)

step_hit : (b : Bool) {x i : ℕ} → (i ≤ x → x ≡ i) → suc i ≤ cond b (suc x) 0 → cond b (suc x) 0 ≡ suc i
step_hit true h g = ap suc (h (omega arith))
step_hit false h g = absurd (omega arith)

pub lead_most : (n : ℕ) (p : ℕ → Bool) → lead n p ≤ n
unfolding lead
lead_most zero p = omega arith
lead_most (suc n) p = step_most (p 0) (lead_most n (λ i. p (suc i)))

pub lead_miss : (n : ℕ) (p : ℕ → Bool) (i : ℕ) → i < n → p i ≡ true → i ≤ lead n p → i < lead n p
unfolding lead
lead_miss zero p i h e g = absurd (omega arith)
lead_miss (suc n) p zero h e g = rw e (omega arith)
lead_miss (suc n) p (suc i) h e g = step_miss (p 0) (lead_miss n (λ j. p (suc j)) i (omega arith) e) g

pub lead_hit : (n : ℕ) (p : ℕ → Bool) (i : ℕ) → i < n → p i ≡ false → i ≤ lead n p → lead n p ≡ i
unfolding lead
lead_hit zero p i h e g = absurd (omega arith)
lead_hit (suc n) p zero h e g = rw e
lead_hit (suc n) p (suc i) h e g = step_hit (p 0) (lead_hit n (λ j. p (suc j)) i (omega arith) e) g

-- the walk stops there
pub below_hit : (n : ℕ) (p : ℕ → Bool) (i : ℕ) → i < n → p i ≡ false → i ≤ lead n p → Some i ≡ below n (lead n p)
below_hit n p i h e g = rw (lead_hit n p i h e g, lt-ltb i n h)

-- where all have p, each has it
step_all : (b : Bool) {x n : ℕ} → x ≤ n → suc n ≤ cond b (suc x) 0 → (b ≡ true) × (n ≤ x)
step_all true h g = (refl, omega arith)
step_all false h g = absurd (omega arith)

pub lead_all : (n : ℕ) (p : ℕ → Bool) → n ≤ lead n p → (i : ℕ) → i < n → p i ≡ true
unfolding lead
lead_all zero p g i h = absurd (omega arith)
lead_all (suc n) p g zero h = (step_all (p 0) (lead_most n (λ i. p (suc i))) g).0
lead_all (suc n) p g (suc i) h = lead_all n (λ i. p (suc i)) (step_all (p 0) (lead_most n (λ i. p (suc i))) g).1 i (omega arith)

-- two comparisons that say the same
pub leb_alike : (a b c d : ℕ) → (c ≤ d → a ≤ b) → (d < c → b < a) → leb a b ≡ leb c d
leb_alike a b c d f g = go (leb c d) refl
  where
    go : (t : Bool) → leb c d ≡ t → leb a b ≡ leb c d
    go true e = rw (e, le-leb a b (f (leb-true c d e)))
    go false e = rw (e, lt-leb a b (g (leb-false c d e)))

-- a test of all the first places
every_suc : (n : ℕ) (p : ℕ → Bool) → every (suc n) p ≡ every n p && p n
unfolding every
every_suc zero p = and-true (p 0)
every_suc (suc n) p = rw (every_suc n (λ i. p (suc i))) (sym (and_assoc (p 0) (every n (λ i. p (suc i))) (p (suc n))))

-- one more place
pub every_more : (i : ℕ) (p : ℕ → Bool) → every (i + 1) p ≡ every i p && p i
every_more i p = rw (add-one i) (every_suc i p)

pub every_at : (n : ℕ) (p : ℕ → Bool) → every n p ≡ true → (i : ℕ) → i < n → p i ≡ true
unfolding every
every_at zero p e i h = absurd (omega arith)
every_at (suc n) p e zero h = (both_true (p 0) _ e).0
every_at (suc n) p e (suc i) h = every_at n (λ i. p (suc i)) (both_true (p 0) _ e).1 i (omega arith)

pub every_not : (n : ℕ) (p : ℕ → Bool) (i : ℕ) → i < n → p i ≡ false → every n p ≡ false
unfolding every
every_not zero p i h e = absurd (omega arith)
every_not (suc n) p zero h e = rw e
every_not (suc n) p (suc i) h e = rw (every_not n (λ i. p (suc i)) i (omega arith) e) (and-false (p 0))

pub every_same : (n : ℕ) (p q : ℕ → Bool) → ((i : ℕ) → i < n → p i ≡ q i) → every n p ≡ every n q
unfolding every
every_same zero p q e = refl
every_same (suc n) p q e = rw (e 0 (omega arith), every_same n (λ i. p (suc i)) (λ i. q (suc i)) (λ i h. e (suc i) (omega arith)))

pub every_true : (n : ℕ) (p : ℕ → Bool) → ((i : ℕ) → i < n → p i ≡ true) → every n p ≡ true
unfolding every
every_true zero p e = refl
every_true (suc n) p e = rw (e 0 (omega arith)) (every_true n (λ i. p (suc i)) (λ i h. e (suc i) (omega arith)))

-- each before the first that has not p has it, and that one has not
step_before : (b : Bool) {x i : ℕ} → i < cond b (suc x) 0 → (b ≡ true) × (i ≤ x)
step_before true g = (refl, omega arith)
step_before false g = absurd (omega arith)

pub lead_before : (n : ℕ) (p : ℕ → Bool) (i : ℕ) → i < lead n p → p i ≡ true
unfolding lead
lead_before zero p i h = absurd (omega arith)
lead_before (suc n) p zero h = (step_before (p 0) h).0
lead_before (suc n) p (suc i) h = let y = (step_before (p 0) h).1 in lead_before n (λ j. p (suc j)) i (omega arith)

step_stop : (p : ℕ → Bool) (b : Bool) {x n : ℕ} → p 0 ≡ b → (x < n → p (suc x) ≡ false) → cond b (suc x) 0 < suc n → p (cond b (suc x) 0) ≡ false
step_stop p true e h g = h (omega arith)
step_stop p false e h g = e

pub lead_stop : (n : ℕ) (p : ℕ → Bool) → lead n p < n → p (lead n p) ≡ false
unfolding lead
lead_stop zero p h = absurd (omega arith)
lead_stop (suc n) p h = step_stop p (p 0) refl (lead_stop n (λ i. p (suc i))) h

-- and it is the only such number
pub lead_is : (n : ℕ) (p : ℕ → Bool) (i : ℕ) → i < n → p i ≡ false → ((j : ℕ) → j < i → p j ≡ true) → lead n p ≡ i
unfolding lead
lead_is zero p i h e f = absurd (omega arith)
lead_is (suc n) p zero h e f = rw e
lead_is (suc n) p (suc i) h e f = rw (f 0 (omega arith)) (ap suc (lead_is n (λ j. p (suc j)) i (omega arith) e (λ j k. f (suc j) (omega arith))))

pub lead_full : (n : ℕ) (p : ℕ → Bool) → ((i : ℕ) → i < n → p i ≡ true) → lead n p ≡ n
unfolding lead
lead_full zero p f = refl
lead_full (suc n) p f = rw (f 0 (omega arith)) (ap suc (lead_full n (λ i. p (suc i)) (λ i h. f (suc i) (omega arith))))
