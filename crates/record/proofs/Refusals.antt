-- A record is refused, and a write, exactly when document 01's table says so.
use mathlib.Core.Path.{◌≡◌, refl, subst}
use mathlib.Core.List.{List}
use mathlib.Core.Bool.{Bool, true, false, ◌&&◌, not}
use mathlib.Core.Logic.{◌↔◌}
use Prim.Native.Nat.{ℕ, ◌+◌, ◌*◌, ◌-◌}
use lib.Dec.{eqb, ltb}
use lib.ListN.{length}
use borrow.Author.Tests.{ltb-true, ltb-false, eqb-true, eqb-false, lt-ltb, le-ltb, eq-eqb, ne_eqb}
use Rattle.seq.specs.Places.{at}
use Rattle.seq.specs.Bytes.{big_at}
use Rattle.seq.proofs.Tests.{both_true, true_false, no_true}
use Rattle.table.specs.declared.Table.{Table}
use Rattle.std.specs.Prelude.{Ok, Err}
use Rattle.table.specs.declared.Refusal.TheVariants.{RecordShort, VersionUnknown, LengthWrong, BufferShort}
use Rattle.table.specs.Verdicts.{Verdict, refuse, ◌and_then◌}
use Rattle.table.specs.Form.{form_of}
use Rattle.record.specs.Record.{row_place, spelt, head_verdict, read_verdict, write_verdict}
use Rattle.table.specs.Refusals.{TableSays}
use Rattle.record.specs.Refusals.{Fits, ReadSays, WriteSays}
use Rattle.record.specs.Refusals.ReadSays.{short, version, field, whole}
use Rattle.record.specs.Refusals.WriteSays.{form, narrow, enough}
use Rattle.table.proofs.WellFormed.{form_says, says_form}

-- Reading.
module _ (s : List ℕ) where
  abbrev fits : Bool
  fits = eqb (big_at s 1) (length s - 3) && eqb (big_at s 1) (1 + 6 * at s 3)

  fits_is : fits ≡ true → Fits s
  fits_is e =
      let p = both_true (eqb (big_at s 1) (length s - 3)) (eqb (big_at s 1) (1 + 6 * at s 3)) e in
      (eqb-true _ _ p.0, eqb-true _ _ p.1)

  is_fits : Fits s → fits ≡ true
  is_fits f = rw (eq-eqb (big_at s 1) (length s - 3) f.0, eq-eqb (big_at s 1) (1 + 6 * at s 3) f.1)

  read_by : (a b e : Bool) → ltb (length s) 4 ≡ a → eqb (at s 0) 1 ≡ b → fits ≡ e
      → ReadSays s (refuse a RecordShort and_then refuse (not b) VersionUnknown and_then refuse (not e) LengthWrong and_then form_of (spelt s))
  read_by true b e p q r = short (ltb-true _ _ p)
  read_by false false e p q r = version (ltb-false _ _ p) (eqb-false _ _ q)
  read_by false true false p q r = field (ltb-false _ _ p) (eqb-true _ _ q) (λ f. true_false (is_fits f) r)
  read_by false true true p q r = whole (ltb-false _ _ p) (eqb-true _ _ q) (fits_is r) (form_says _ _ _ _)

  read_says : ReadSays s (read_verdict s)
  unfolding read_verdict head_verdict
  read_says = read_by (ltb (length s) 4) (eqb (at s 0) 1) fits refl refl refl

  says_read : {v : Verdict} → ReadSays s v → read_verdict s ≡ v
  unfolding read_verdict head_verdict
  says_read (short h) = rw (lt-ltb (length s) 4 h)
  says_read (version l n) = rw (le-ltb (length s) 4 l, ne_eqb (at s 0) 1 n)
  says_read (field l o f) = rw (le-ltb (length s) 4 l, eq-eqb (at s 0) 1 o, no_true fits (λ e. f (fits_is e)))
  says_read (whole l o f x) = rw (le-ltb (length s) 4 l, eq-eqb (at s 0) 1 o, is_fits f) (says_form _ _ _ _ x)

  pub read_gives : (v : Verdict) → (read_verdict s ≡ v) ↔ ReadSays s v
  read_gives v = (λ e. subst (λ (w : Verdict). ReadSays s w) e read_says, says_read)

-- Writing.
module _ (x : Table) (room : ℕ) where
  write_by : (v : Verdict) → TableSays x v → (b : Bool) → ltb room (row_place x.n) ≡ b → WriteSays x room (v and_then refuse b BufferShort)
  write_by (Err why) t b e = form t
  write_by (Ok tt) t true e = narrow t (ltb-true _ _ e)
  write_by (Ok tt) t false e = enough t (ltb-false _ _ e)

  write_says : WriteSays x room (write_verdict x room)
  unfolding write_verdict
  write_says = write_by (form_of x) (form_says _ _ _ _) (ltb room (row_place x.n)) refl

  says_write : {v : Verdict} → WriteSays x room v → write_verdict x room ≡ v
  unfolding write_verdict
  says_write (form t) = rw (says_form _ _ _ _ t)
  says_write (narrow t h) = rw (says_form _ _ _ _ t, lt-ltb room (row_place x.n) h)
  says_write (enough t h) = rw (says_form _ _ _ _ t, le-ltb room (row_place x.n) h)

  pub write_gives : (v : Verdict) → (write_verdict x room ≡ v) ↔ WriteSays x room v
  write_gives v = (λ e. subst (λ (w : Verdict). WriteSays x room w) e write_says, says_write)
