-- The starred cases of document 01 and its listing, as one table: what the definitions give beside what the document says. Slots and rows
-- have the document's numbers here, from 1 on; rows are written C, T, D.
use Rattle.std.specs.Prelude.{ℕ, suc, ◌-◌, ◌≡◌, Err, List, [], ◌∷◌, ◌++◌, map, true, false, not, length, replicate}
use Rattle.seq.specs.Places.{lead}
use Rattle.table.specs.declared.Table.{Table}
use Rattle.table.specs.declared.Refusal.TheVariants.{RowCount}
use Rattle.table.specs.Verdicts.{Verdict}
use Rattle.record.specs.Record.{read_of}
use Rattle.allowance.specs.declared.Tested.{Tested}
use Rattle.allowance.specs.Test.{test_of}
use Rattle.allowance.specs.Cases.{padded, table_of}
use Rattle.allowance.specs.Cases as tables
use Rattle.engine.specs.declared.Answer.{Answer}
use Rattle.uses.specs.declared.Use.{Use}
use Rattle.uses.specs.declared.Use.TheVariants.{Hard, Given}
use Rattle.uses.specs.Uses.{is_given}
use Rattle.engine.specs.Slot.{left₁}
use Rattle.engine.specs.Calls.{late_total_of}
use Rattle.promise.specs.Runs.{Call, slot, request, run_of, moment}
use Rattle.promise.specs.History.{answer_at, NoneLost}
use Rattle.promise.specs.Forced.{forced_history}
use Rattle.promise.specs.Demands.{Starts, start, told}

-- what a case shows: a record's verdict; a table's test; the uses of a run's slots; its first given slot; the late word of its last slot and the late total
pub data Outcome : Type 0 where
  read : Verdict → Outcome
  tested : Tested → Outcome
  uses : List Use → Outcome
  first_given : ℕ → Outcome
  lates : (word total : ℕ) → Outcome

module _ (x : Table) (calls : List Call) where
  abbrev pub uses_of : Outcome
  uses_of = uses (map (λ a. a.used) (told x calls))

  abbrev pub first_given_of : Outcome
  first_given_of = first_given (suc (lead (length (told x calls)) (λ y. not (is_given (answer_at (told x calls) y).used))))

  abbrev pub lates_of : Outcome
  lates_of = lates (answer_at (told x calls) (length (told x calls) - 1)).word (late_total_of (run_of (start x) calls)).total

pub record Case : Type 0 where
  pub gives : Outcome
  pub says : Outcome

abbrev pub of_table : tables.Case → Case
of_table x = record { gives = tested (test_of (table_of x.rows)); says = tested x.gives }

abbrev pub three_rows : Table
three_rows = table_of ((1, 3, 3) ∷ (1, 4, 4) ∷ (1, 6, 6) ∷ [])

abbrev pub listing_calls : List Call
listing_calls = replicate 5 (slot false) ++ request 7 3 ∷ replicate 7 (slot false)

abbrev pub runs : List Case
runs =
    record {
      gives = uses_of three_rows listing_calls;
      says = uses (Hard 1 ∷ Hard 2 ∷ Hard 3 ∷ Hard 1 ∷ Hard 2 ∷ Given 7 ∷ Given 7 ∷ Hard 1 ∷ Hard 2 ∷ Hard 1 ∷ Hard 3 ∷ Given 7 ∷ []);
    }
    ∷ record {
      gives = first_given_of (table_of ((2, 4, 4) ∷ (2, 5, 5) ∷ [])) (request 1 1 ∷ replicate 16 (slot false));
      says = first_given 15;
    }
    ∷ record { gives = lates_of (table_of ((1, 2, 1) ∷ [])) (slot true ∷ []); says = lates 1 1 }
    -- refusal 4
    ∷ record { gives = read (read_of (1 ∷ 0 ∷ 1 ∷ 0 ∷ [])).verdict; says = read (Err RowCount) }
    ∷ []

abbrev pub cases : List Case
cases = map of_table tables.table_cases ++ runs

abbrev pub CasesHold : Type 0
CasesHold = map (λ x. x.gives) cases ≡ map (λ x. x.says) cases

-- The demands are not empty. three_rows is accepted, with an allowance above 0. In slot 7 of its listing the request is served although
-- rows 1 and 3 have work left. One slot more than k given away makes its second row late with slot 4; k slots make none late.
abbrev pub words : List Answer → List ℕ
words h = map (λ a. a.word) h

pub record NotEmpty : Type 0 where
  pub accepted : Starts three_rows
  pub allowance : (test_of three_rows).k ≡ 1
  pub given : (answer_at (told three_rows listing_calls) 6).used ≡ Given 7
  pub waits : left₁ (moment (start three_rows) listing_calls 6).state ≡ padded (1 ∷ 0 ∷ 1 ∷ [])
  pub none_lost : NoneLost (told three_rows listing_calls)
  pub too_many : words (forced_history three_rows (suc (test_of three_rows).k) 6) ≡ 0 ∷ 0 ∷ 0 ∷ 2 ∷ 0 ∷ 0 ∷ []
  pub enough : words (forced_history three_rows (test_of three_rows).k 6) ≡ replicate 6 0
