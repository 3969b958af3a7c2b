-- A table that is filled row by row.
use Rattle.std.proofs.Common.{ℕ, zero, suc, ◌≡◌, refl, ap, ◌-◌, ◌+◌, ◌<◌, min, List, [], ◌∷◌, ◌++◌, map, take, length, replicate, set, get_or, arith}
use Rattle.std.proofs.lemmas.List.{get_or-take}
use native.Mathlib.Numerals.{add-one, unary_clauses}
use Rattle.table.specs.declared.Table.{Table}
use Rattle.allowance.specs.Cases.{padded, table_of}

module _ {A : Type 0} (f : A → ℕ) (d : A) where
  more : (m i : ℕ) (l : List A) → i < m → i < length l
      → set (map f (take i l) ++ replicate (m - length (map f (take i l))) 0) i (f (get_or l i d))
      ≡ map f (take (suc i) l) ++ replicate (m - length (map f (take (suc i) l))) 0
  more m i [] p q = absurd (omega arith)
  more zero i (x ∷ l) p q = absurd (omega arith)
  more (suc m) zero (x ∷ l) p q = simp unary_clauses refl
  more (suc m) (suc i) (x ∷ l) p q = simp unary_clauses (ap (λ (k : List ℕ). f x ∷ k) (more m i l (omega arith) (omega arith)))

  padded_more : (i : ℕ) (l : List A) → i < 16 → i < length l → set (padded (map f (take i l))) i (f (get_or l i d)) ≡ padded (map f (take (i + 1) l))
  padded_more i l p q = rw (add-one i) (more 16 i l p q)

-- with n rows, of which the first i are filled in
abbrev pub filled : List (ℕ × ℕ × ℕ) → (n i : ℕ) → Table
filled rows n i = record { n = n; c = (table_of (take i rows)).c; t = (table_of (take i rows)).t; d = (table_of (take i rows)).d }

pub filled_more : (rows : List (ℕ × ℕ × ℕ)) (n i : ℕ) (x : Table) → n ≡ min (length rows) 16 → i < n → x ≡ filled rows n i
    → record {
      n = x.n;
      c = set x.c i (get_or (take n rows) i (0, 0, 0)).0;
      t = set x.t i (get_or (take n rows) i (0, 0, 0)).1;
      d = set x.d i (get_or (take n rows) i (0, 0, 0)).2;
    } ≡ filled rows n (i + 1)
filled_more rows n i x few within e =
    let fits : i < 16 = omega arith in
    let here : i < length rows = omega arith in
    rw (
      e,
      get_or-take n rows i (0, 0, 0) within,
      padded_more (λ r. r.0) (0, 0, 0) i rows fits here,
      padded_more (λ r. r.1) (0, 0, 0) i rows fits here,
      padded_more (λ r. r.2) (0, 0, 0) i rows fits here,
    )
