-- Inputs whose listing is worked out: the example of document 01, and one of each single line.
use Rattle.std.specs.Prelude.{◌≡◌, List, [], ◌∷◌, ◌++◌, map, ℕ, replicate}
use Rattle.text.specs.Text.{text}
use Rattle.report.specs.Listing.{listing}

-- a number in two bytes, high byte first
abbrev pub two : ℕ → List ℕ
two x = 0 ∷ x ∷ []

abbrev pub row : ℕ → ℕ → ℕ → List ℕ
row c t d = two c ++ two t ++ two d

abbrev pub slots : ℕ → List ℕ
slots n = replicate n 0

abbrev pub request : ℕ → ℕ → List ℕ
request name size = 2 ∷ two name ++ two size

-- 01 0013 03, and three rows
abbrev pub three_rows : List ℕ
three_rows = 1 ∷ 0 ∷ 19 ∷ 3 ∷ row 1 3 3 ++ row 1 4 4 ++ row 1 6 6

-- an input, and what has to be printed
pub record Case : Type 0 where
  pub input : List ℕ
  pub prints : List ℕ

abbrev pub example : Case
example =
    record {
      input = three_rows ++ slots 5 ++ request 7 3 ++ slots 7;
      prints = text "1 H1 0\n2 H2 0\n3 H3 0\n4 H1 0\n5 H2 0\n6 N7 0\n7 N7 0\n8 H1 0\n9 H2 0\n10 H1 0\n11 H3 0\n12 N7 0\ntotal 9 3 0 0 0\n";
    }

-- a lost slot, a request of size 0, an unknown event
abbrev pub lost_then_bad : Case
lost_then_bad = record { input = three_rows ++ 1 ∷ request 7 0 ++ 9 ∷ []; prints = text "1 L 0\nrefused 8 0\nbad 28\ntotal 0 0 0 1 0\n" }

-- nothing but a slot's event
abbrev pub no_record : Case
no_record = record { input = slots 1; prints = text "refused 1 0\n" }

abbrev pub cases : List Case
cases = example ∷ lost_then_bad ∷ no_record ∷ []

abbrev pub ListingsRight : Type 0
ListingsRight = map (λ (x : Case). listing x.input) cases ≡ map (λ (x : Case). x.prints) cases
