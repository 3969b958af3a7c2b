-- The requests that wait, first in, first out, and their layout in 32 places.
use Rattle.std.specs.Prelude.{ℕ, ◌+◌, ◌-◌, min, List, [], ◌∷◌, ◌++◌, Bool, cond, ◌&&◌, eqb, ltb, leb, get_or, set}
use Rattle.seq.specs.Places.{flag, at, tab, over, every}

pub record Request : Type 0 where
  pub name : ℕ
  pub size : ℕ

abbrev pub no_request : Request
no_request = record { name = 0; size = 0 }

-- a request joins at the end
abbrev pub asked : List Request → Request → List Request
asked l q = l ++ q ∷ []

-- the head request gets one slot, and leaves if that was its last
unfoldable pub served : List Request → List Request
served [] = []
served (q ∷ l) = cond (ltb 1 q.size) (record { name = q.name; size = q.size - 1 } ∷ l) l

-- the layout: used places first, in order; unused ones zero
unfoldable pub names_of : List Request → List ℕ
names_of l = tab 32 (λ i. (get_or l i no_request).name)

unfoldable pub sizes_of : List Request → List ℕ
sizes_of l = tab 32 (λ i. (get_or l i no_request).size)

-- what waits in a layout; a count above 32 counts as 32
unfoldable pub waiting : ℕ → List ℕ → List ℕ → List Request
waiting count names sizes = tab (min count 32) (λ i. record { name = at names i; size = at sizes i })

-- a legal layout: what waits needs a slot or more, and all places behind are zero
abbrev pub place_proper : Bool → ℕ → ℕ → Bool
place_proper used name size = cond used (ltb 0 size) (eqb name 0 && eqb size 0)

unfoldable pub proper : ℕ → List ℕ → List ℕ → Bool
proper count names sizes = leb count 32 && every 32 (λ i. place_proper (ltb i count) (at names i) (at sizes i))

-- A slot on the places. The head gets it, and this was its last
abbrev pub last : Bool → ℕ → Bool
last on size = on && ltb size 2

unfoldable pub lowered : Bool → List ℕ → List ℕ
lowered on a = over 1 (λ i x. x - flag on) a

-- all move up by one
unfoldable pub shifted : Bool → List ℕ → List ℕ
shifted on a = over 32 (λ i x. cond on (cond (ltb i 31) (at a (i + 1)) 0) x) a

-- A request on the places
unfoldable pub placed : ℕ → ℕ → List ℕ → List ℕ
placed i x a = cond (ltb i 32) (set a i x) a
