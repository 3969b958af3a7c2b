-- Laws of verdicts.
use mathlib.Core.Path.{◌≡◌, refl}
use mathlib.Core.Bool.{Bool, true, false}
use Rattle.std.specs.Prelude.{Ok, Err, is_ok}
use Rattle.table.specs.declared.Refusal.{Refusal}
use Rattle.table.specs.Verdicts.{Verdict, Taken, refuse, ◌and_then◌, taken, granted}

pub and_taken : (v w : Verdict) → v and_then w ≡ Taken → (v ≡ Taken) × (w ≡ Taken)
and_taken (Ok tt) w e = (refl, e)
and_taken (Err why) w e = (cc, cc)

pub refuse_taken : {E : Type 0} (b : Bool) (why : E) → refuse b why ≡ Ok tt → b ≡ false
refuse_taken true why e = cc
refuse_taken false why e = refl

pub granted_ok : {A : Type 0} (v : Verdict) (x y : A) → granted v x ≡ Ok y → (v ≡ Taken) × (x ≡ y)
granted_ok (Ok tt) x y e = (refl, cc)
granted_ok (Err why) x y e = (cc, cc)

pub granted_err : {A : Type 0} (v : Verdict) (x : A) (why : Refusal) → granted v x ≡ Err why → v ≡ Err why
granted_err (Ok tt) x why e = cc
granted_err (Err how) x why e = cc

pub ok_taken : (v : Verdict) → is_ok v ≡ true → v ≡ Taken
ok_taken (Ok tt) e = refl
ok_taken (Err why) e = cc

pub not_taken : {A : Type 0} (v : Verdict) (x y : A) → is_ok v ≡ false → taken v x y ≡ y
not_taken (Ok tt) x y e = cc
not_taken (Err why) x y e = refl
