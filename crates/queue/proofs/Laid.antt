-- The places of a legal queue are the layout of the list that waits, and a slot or a request on the places is one on the list.
use mathlib.Core.Path.{◌≡◌, refl, sym, ap, ◌∙◌, subst}
use mathlib.Core.List.{List, [], ◌∷◌, ◌++◌}
use mathlib.Core.Bool.{Bool, true, false, cond}
use Prim.Native.Nat.{ℕ, zero, suc, ◌+◌, ◌-◌, ◌≤◌, ◌<◌, min}
use native.Mathlib.Omega.{arith}
use native.Mathlib.Numerals.{add-one}
use lib.ListN.{length, get_or, set, replicate, length-set, length-append, get_or-eq_default, get_or-append}
use lib.Seq.{get_or-set_same, get_or-set_other, ext_get_or, get_or-append_seam}
use lib.Dec.{eqb, ltb, leb}
use borrow.Author.Tests.{lt-ltb, le-ltb, le-leb, ltb-true, ltb-false, leb-true, eqb-true, eqb-false}
use Rattle.seq.specs.Places.{flag, at, tab, over, every}
use Rattle.seq.proofs.Tests.{both_true}
use Rattle.seq.proofs.Places.{tab_length, tab_at, over_length, over_in, over_out, over_same, every_at, every_true}
use Rattle.queue.specs.Queue.{Request, no_request, asked, served, names_of, sizes_of, waiting, place_proper, proper, last, lowered, shifted, placed}

-- one figure of the requests, laid out; it is zero where there is no request
module _ (g : Request → ℕ) where
  abbrev lay : List Request → List ℕ
  lay l = tab 32 (λ i. g (get_or l i no_request))

  lay_is : (l : List Request) (a : List ℕ) → length a ≡ 32 → ((i : ℕ) → i < 32 → at a i ≡ g (get_or l i no_request)) → a ≡ lay l
  lay_is l a e p = ext_get_or 0 a (lay l) (e ∙ sym (tab_length 32 _)) (λ i h. let k : i < 32 = omega arith in p i k ∙ sym (tab_at 32 _ i 0 k))

  module _ (z : g no_request ≡ 0) where
    -- the places of what waits, and zeros behind
    lay_waiting : (count : ℕ) (f : ℕ → Request) (a : List ℕ) → length a ≡ 32 → count ≤ 32 → ((i : ℕ) → i < 32 → at a i ≡ cond (ltb i count) (g (f i)) 0) → a ≡ lay (tab count f)
    lay_waiting count f a e m p = lay_is (tab count f) a e (λ i h. p i h ∙ split i (ltb i count) refl)
      where
        split : (i : ℕ) (b : Bool) → ltb i count ≡ b → cond b (g (f i)) 0 ≡ g (get_or (tab count f) i no_request)
        split i true q = rw (tab_at count f i no_request (ltb-true _ _ q))
        split i false q =
            let y : length (tab count f) ≤ i = rw (tab_length count f) (ltb-false _ _ q) in
            rw (get_or-eq_default (tab count f) no_request y) (sym z)

    -- the head leaves
    lay_shifted : (l : List Request) (a : List ℕ) → length a ≡ 32 → length l ≤ 31 → ((i : ℕ) → i < 31 → at a (i + 1) ≡ g (get_or l i no_request)) → shifted true a ≡ lay l
    unfolding shifted
    lay_shifted l a e m p =
        lay_is l _ (over_length 32 _ a ∙ e) (λ i h. over_in 0 32 _ a i h (omega arith) ∙ split i h (ltb i 31) refl)
      where
        split : (i : ℕ) → i < 32 → (b : Bool) → ltb i 31 ≡ b → cond b (at a (i + 1)) 0 ≡ g (get_or l i no_request)
        split i h true q = p i (ltb-true _ _ q)
        split i h false q =
            let y : 31 ≤ i = ltb-false _ _ q in
            let x : length l ≤ i = omega arith in
            rw (get_or-eq_default l no_request x) (sym z)

    -- one joins
    lay_placed : (l : List Request) (q : Request) → length l < 32 → placed (length l) (g q) (lay l) ≡ lay (l ++ q ∷ [])
    unfolding placed
    lay_placed l q m = rw (lt-ltb (length l) 32 m) (lay_is (l ++ q ∷ []) _ (length-set (lay l) (length l) (g q) ∙ tab_length 32 _) (λ i h. split i h (eqb i (length l)) (ltb i (length l)) refl refl))
      where
        split : (i : ℕ) → i < 32 → (b d : Bool) → eqb i (length l) ≡ b → ltb i (length l) ≡ d → at (set (lay l) (length l) (g q)) i ≡ g (get_or (l ++ q ∷ []) i no_request)
        split i h true d e f =
            let k : i ≡ length l = eqb-true _ _ e in
            let y : length l < length (lay l) = rw (tab_length 32 (λ i. g (get_or l i no_request))) m in
            rw (k, get_or-append_seam l q [] no_request) (get_or-set_same (lay l) (length l) (g q) 0 y)
        split i h false true e f = rw (get_or-append l (q ∷ []) no_request i (ltb-true _ _ f)) (get_or-set_other (lay l) (length l) i (g q) 0 (eqb-false _ _ e) ∙ tab_at 32 _ i 0 h)
        split i h false false e f =
            let k : i ≡ length l → ⊥ = eqb-false _ _ e in
            let o : length l ≤ i = ltb-false _ _ f in
            let y : length (l ++ q ∷ []) ≤ i = rw (length-append l (q ∷ [])) (omega arith) in
            rw (get_or-eq_default (l ++ q ∷ []) no_request y) (get_or-set_other (lay l) (length l) i (g q) 0 k ∙ tab_at 32 _ i 0 h ∙ ap g (get_or-eq_default l no_request o))

-- each request that waits needs a slot
abbrev pub Sized : List Request → Type 0
Sized l = (i : ℕ) → i < length l → 1 ≤ (get_or l i no_request).size

-- the places are the layout of l
pub record Laid (count : ℕ) (names sizes : List ℕ) (l : List Request) : Type 0 where
  pub count_is : count ≡ length l
  pub names_is : names ≡ names_of l
  pub sizes_is : sizes ≡ sizes_of l
  pub most : length l ≤ 32
  pub sized : Sized l

-- the request at place i
abbrev here : List ℕ → List ℕ → ℕ → Request
here names sizes i = record { name = at names i; size = at sizes i }

-- a legal queue is the layout of what waits
module _ (count : ℕ) (names sizes : List ℕ) (e : proper count names sizes ≡ true) where
  parts : (count ≤ 32) × (every 32 (λ i. place_proper (ltb i count) (at names i) (at sizes i)) ≡ true)
  unfolding proper
  parts = let y = both_true (leb count 32) (every 32 (λ i. place_proper (ltb i count) (at names i) (at sizes i))) e in (leb-true _ _ y.0, y.1)

  place : (i : ℕ) → i < 32 → place_proper (ltb i count) (at names i) (at sizes i) ≡ true
  place i h = every_at 32 (λ i. place_proper (ltb i count) (at names i) (at sizes i)) parts.1 i h

  used : (i : ℕ) → i < count → 1 ≤ at sizes i
  used i h = let m = parts.0 in ltb-true _ _ (rw (lt-ltb i count h) at (place i (omega arith)))

  past : (i : ℕ) → i < 32 → count ≤ i → (at names i ≡ 0) × (at sizes i ≡ 0)
  past i h g =
      let y = both_true (eqb (at names i) 0) (eqb (at sizes i) 0) (rw (le-ltb i count g) at (place i h)) in
      (eqb-true _ _ y.0, eqb-true _ _ y.1)

  figure : (a : List ℕ) (i : ℕ) → (count ≤ i → at a i ≡ 0) → at a i ≡ cond (ltb i count) (at a i) 0
  figure a i g = split (ltb i count) refl
    where
      split : (b : Bool) → ltb i count ≡ b → at a i ≡ cond b (at a i) 0
      split true q = refl
      split false q = g (ltb-false _ _ q)

  pub proper_laid : length names ≡ 32 → length sizes ≡ 32 → Laid count names sizes (waiting count names sizes)
  unfolding waiting names_of sizes_of
  proper_laid m n =
      let c : min count 32 ≡ count = let y = parts.0 in omega arith in
      rw c
      (record {
        count_is = sym (tab_length count (here names sizes));
        names_is = lay_waiting (λ q. q.name) refl count (here names sizes) names m parts.0 (λ i h. figure names i (λ g. (past i h g).0));
        sizes_is = lay_waiting (λ q. q.size) refl count (here names sizes) sizes n parts.0 (λ i h. figure sizes i (λ g. (past i h g).1));
        most = rw (tab_length count (here names sizes)) parts.0;
        sized =
            λ i h.
            let y : i < count = rw (tab_length count (here names sizes)) at h in
            rw (tab_at count (here names sizes) i no_request y) (used i y);
      })

-- and a layout is a legal queue, in which the list waits
module _ {count : ℕ} {names sizes : List ℕ} {l : List Request} (d : Laid count names sizes l) where
  pub laid_name : (i : ℕ) → i < 32 → at names i ≡ (get_or l i no_request).name
  unfolding names_of
  laid_name i h = rw d.names_is (tab_at 32 _ i 0 h)

  pub laid_size : (i : ℕ) → i < 32 → at sizes i ≡ (get_or l i no_request).size
  unfolding sizes_of
  laid_size i h = rw d.sizes_is (tab_at 32 _ i 0 h)

  pub laid_waiting : waiting count names sizes ≡ l
  unfolding waiting
  laid_waiting =
      let m = d.most in
      let c : min count 32 ≡ length l = rw d.count_is (omega arith) in
      rw c
      (ext_get_or no_request (tab (length l) (here names sizes)) l (tab_length (length l) (here names sizes)) (λ i h.
      let y : i < length l = rw (tab_length (length l) (here names sizes)) at h in
      tab_at (length l) (here names sizes) i no_request y ∙ rw (laid_name i (omega arith), laid_size i (omega arith))))

  pub laid_proper : proper count names sizes ≡ true
  unfolding proper
  laid_proper = rw (le-leb count 32 (rw d.count_is d.most)) (every_true 32 (λ i. place_proper (ltb i count) (at names i) (at sizes i)) (λ i h. split i h (ltb i count) refl))
    where
      split : (i : ℕ) → i < 32 → (b : Bool) → ltb i count ≡ b → place_proper b (at names i) (at sizes i) ≡ true
      split i h true q = lt-ltb 0 (at sizes i) (rw (laid_size i h) (d.sized i (rw d.count_is at (ltb-true i count q))))
      split i h false q =
          let y : length l ≤ i = rw d.count_is at (ltb-false i count q) in
          rw (laid_name i h, laid_size i h, get_or-eq_default l no_request y)

-- the head of l leaves, and t waits
module _ (l t : List Request) (m : length t ≤ 31) (e : (i : ℕ) → get_or l (i + 1) no_request ≡ get_or t i no_request) where
  names_left : shifted true (names_of l) ≡ names_of t
  unfolding names_of
  names_left = lay_shifted (λ q. q.name) refl t (names_of l) (tab_length 32 _) m (λ i h. tab_at 32 _ (i + 1) 0 (omega arith) ∙ ap (λ (q : Request). q.name) (e i))

  sizes_left : shifted true (lowered true (sizes_of l)) ≡ sizes_of t
  unfolding sizes_of lowered
  sizes_left =
      lay_shifted (λ q. q.size) refl t (lowered true (sizes_of l)) (over_length 1 _ (sizes_of l) ∙ tab_length 32 _) m
      (λ i h. over_out 0 1 _ (sizes_of l) (i + 1) (omega arith) ∙ tab_at 32 _ (i + 1) 0 (omega arith) ∙ ap (λ (q : Request). q.size) (e i))

shifted_not : (a : List ℕ) → shifted false a ≡ a
unfolding shifted
shifted_not a = sym (over_same 32 _ a (λ i x h. refl))

lowered_not : (a : List ℕ) → lowered false a ≡ a
unfolding lowered
lowered_not a = sym (over_same 1 _ a (λ i x h. omega arith))

-- the head of q ∷ t needs more than this slot
sizes_lowered : (q : Request) (t : List Request) → lowered true (sizes_of (q ∷ t)) ≡ sizes_of (record { name = q.name; size = q.size - 1 } ∷ t)
unfolding lowered sizes_of over tab
sizes_lowered q t = refl

names_same : (q : Request) (t : List Request) → names_of (q ∷ t) ≡ names_of (record { name = q.name; size = q.size - 1 } ∷ t)
unfolding names_of tab
names_same q t = refl

lowered_sized : (q : Request) (t : List Request) → Sized (q ∷ t) → 1 < q.size → Sized (record { name = q.name; size = q.size - 1 } ∷ t)
lowered_sized q t s h zero g = omega arith
lowered_sized q t s h (suc i) g = s (suc i) g

abbrev pub AfterSlot : Bool → ℕ → List ℕ → List ℕ → List Request → Type 0
AfterSlot on count names sizes l =
    Laid (count - flag (last on (at sizes 0))) (shifted (last on (at sizes 0)) names) (shifted (last on (at sizes 0)) (lowered on sizes)) (cond on (served l) l)

head_on : (q : Request) (t : List Request) → length (q ∷ t) ≤ 32 → Sized (q ∷ t) → (b : Bool) → ltb 1 q.size ≡ b
    → Laid (length (q ∷ t) - flag (ltb q.size 2)) (shifted (ltb q.size 2) (names_of (q ∷ t))) (shifted (ltb q.size 2) (lowered true (sizes_of (q ∷ t)))) (cond b (record { name = q.name; size = q.size - 1 } ∷ t) t)
head_on q t m s true e =
    let h : 1 < q.size = ltb-true _ _ e in
    rw (le-ltb q.size 2 (omega arith))
    (record {
      count_is = omega arith;
      names_is = shifted_not (names_of (q ∷ t)) ∙ names_same q t;
      sizes_is = shifted_not (lowered true (sizes_of (q ∷ t))) ∙ sizes_lowered q t;
      most = m;
      sized = lowered_sized q t s h;
    })
head_on q t m s false e =
    let h : q.size ≤ 1 = ltb-false _ _ e in
    rw (lt-ltb q.size 2 (omega arith))
    (record {
      count_is = omega arith;
      names_is = names_left (q ∷ t) t (omega arith) (λ i. rw (add-one i));
      sizes_is = sizes_left (q ∷ t) t (omega arith) (λ i. rw (add-one i));
      most = omega arith;
      sized = λ i g. s (suc i) (omega arith);
    })

slot_on : (on : Bool) (l : List Request) → length l ≤ 32 → Sized l → AfterSlot on (length l) (names_of l) (sizes_of l) l
unfolding served sizes_of tab
slot_on false l m s =
    record { count_is = omega arith; names_is = shifted_not (names_of l); sizes_is = shifted_not _ ∙ lowered_not (sizes_of l); most = m; sized = s }
slot_on true [] m s =
    record { count_is = omega arith; names_is = names_left [] [] (omega arith) (λ i. refl); sizes_is = sizes_left [] [] (omega arith) (λ i. refl); most = m; sized = s }
slot_on true (q ∷ t) m s = head_on q t m s (ltb 1 q.size) refl

joined : (l : List Request) (q : Request) → length l < 32 → Sized l → 1 ≤ q.size → Laid (length l + 1) (placed (length l) q.name (names_of l)) (placed (length l) q.size (sizes_of l)) (asked l q)
unfolding names_of sizes_of
joined l q m s g =
    record {
      count_is = sym (length-append l (q ∷ []));
      names_is = lay_placed (λ q. q.name) refl l q m;
      sizes_is = lay_placed (λ q. q.size) refl l q m;
      most = rw (length-append l (q ∷ [])) (omega arith);
      sized = λ i h. split i (rw (length-append l (q ∷ [])) at h) (ltb i (length l)) refl;
    }
  where
    split : (i : ℕ) → i < length l + 1 → (b : Bool) → ltb i (length l) ≡ b → 1 ≤ (get_or (l ++ q ∷ []) i no_request).size
    split i h true e = let y : i < length l = ltb-true _ _ e in rw (get_or-append l (q ∷ []) no_request i y) (s i y)
    split i h false e =
        let y : i ≡ length l = let z : length l ≤ i = ltb-false _ _ e in omega arith in
        rw (y, get_or-append_seam l q [] no_request) g

module _ {count : ℕ} {names sizes : List ℕ} {l : List Request} (d : Laid count names sizes l) where
  -- the head gets the slot, where it is its own
  pub laid_served : (on : Bool) → AfterSlot on count names sizes l
  laid_served on =
      subst (λ (n : ℕ). AfterSlot on n names sizes l) (sym d.count_is)
      (subst (λ (a : List ℕ). AfterSlot on (length l) a sizes l) (sym d.names_is)
      (subst (λ (a : List ℕ). AfterSlot on (length l) (names_of l) a l) (sym d.sizes_is) (slot_on on l d.most d.sized)))

  pub laid_asked : (q : Request) → count < 32 → 1 ≤ q.size → Laid (count + 1) (placed count q.name names) (placed count q.size sizes) (asked l q)
  laid_asked q m g =
      let y : length l < 32 = rw d.count_is at m in
      subst (λ (n : ℕ). Laid (n + 1) (placed n q.name names) (placed n q.size sizes) (asked l q)) (sym d.count_is)
      (subst (λ (a : List ℕ). Laid (length l + 1) (placed (length l) q.name a) (placed (length l) q.size sizes) (asked l q)) (sym d.names_is)
      (subst (λ (a : List ℕ). Laid (length l + 1) (placed (length l) q.name (names_of l)) (placed (length l) q.size a) (asked l q)) (sym d.sizes_is) (joined l q y d.sized g)))

-- none waits
pub laid_none : Laid 0 (replicate 32 0) (replicate 32 0) []
unfolding names_of sizes_of tab
laid_none = record { count_is = refl; names_is = refl; sizes_is = refl; most = omega arith; sized = λ i h. absurd (omega arith) }
