-- Lists as functions of a place's number, and back.
use Rattle.std.specs.Prelude.{ℕ, zero, suc, List, [], ◌∷◌, Option, Some, None, Bool, true, false, cond, ◌&&◌, ltb, get_or}

-- 1 for true
abbrev pub flag : Bool → ℕ
flag true = 1
flag false = 0

-- the number at place i; 0 past the end
abbrev pub at : List ℕ → ℕ → ℕ
at l i = get_or l i 0

-- f 0, .. f (n - 1)
unfoldable pub tab : {A : Type 0} → ℕ → (ℕ → A) → List A
tab zero f = []
tab (suc n) f = f 0 ∷ tab n (λ i. f (suc i))

-- the list whose first n places i, that hold x, hold f i x instead
unfoldable pub over : {A : Type 0} → ℕ → (ℕ → A → A) → List A → List A
over zero f l = l
over (suc n) f [] = []
over (suc n) f (x ∷ l) = f 0 x ∷ over n (λ i. f (suc i)) l

-- how many of 0, .. n - 1 have p before the first that has not: its number, or n
unfoldable pub lead : ℕ → (ℕ → Bool) → ℕ
lead zero p = 0
lead (suc n) p = cond (p 0) (suc (lead n (λ i. p (suc i)))) 0

-- the place i, if it is one of the first n
abbrev pub below : ℕ → ℕ → Option ℕ
below n i = cond (ltb i n) (Some i) None

-- each of 0, .. n - 1 has p
unfoldable pub every : ℕ → (ℕ → Bool) → Bool
every zero p = true
every (suc n) p = p 0 && every n (λ i. p (suc i))
