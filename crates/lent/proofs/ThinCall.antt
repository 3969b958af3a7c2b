-- One law for every thin call over a lent state: `pub fn f(s: &mut T, x: X) -> N { let r = step(*s, x); *s = r.state; r.answer }`.
--     T, N       the state's type and the answer's, each a struct of plain data
--     D          what `step` returns: a struct with a field of type T, then one of type N
--     R          the type of x, plain data too: a number, or a struct where more than one number is told
--     cover, propositions     D has those two fields, and no other but proofs
--     thin_fn    the call's code.        thin_meets    it meets its contract where `step` meets its own
-- That no two outcomes meet that contract is `Thin.antt`'s `thin_one`.
-- No field of T is named, so a new field changes nothing here. Assumes nothing.
use mathlib.Core.Path.{◌≡◌, refl, ap}
use Prim.Native.Nat.{ℕ}
use mathlib.Core.List.{[], ◌∷◌, List}
use seplogic.Ra.Ura.{Ura}
use base.Fraction.{full_share}
use lib.Dec.{T as Holds}
use mir.Syntax.{Sym, Callee, Ty, Fn, local, value_local, ty_ref, named, mut, place, deref, field as field_at, copy, rv_opd, assign, call, seq, return}
use mir.Val.{Val, WT, has_ty, vptr}
use base.Logic.{SProp, ent, sep, emp, via, fst∗, snd∗, ex_e, id⊢}
use base.Fml.{GName, Lft, Share, ftrue, flft, fobs, fbor}
use prog.Wp.{Calls, Loops, WpFn, Tables}
use types.Logic.{Logic, sem}
use contract.Monad.{fact}
use types.Kit.{‵, raw, some, later, ◌⊛◌, ◌$◌, ◌∵◌, !, qed, by, move, keep, drop, use1, split, join, pick, fsplit, fsplit3, fjoin, fjoin3, feq_i, suffices, frame, await, done}
use types.Run.{look_raw, store_raw, stop, fld, load, of_opd, and_then, no_more, assigns, returns, enter}
use types.ByLocal.{alloc_all, pass_all, free_all, look_at, get, get_in, through, sets, lands_as}
use types.Part.{whole, sub}
use types.SemTy.{Body}
use sound.WpLaws.{FmC, fm_of, WpFn-mono}
use denote.RattleType.{RattleType, Denots, owns}
use denote.Laws.{Is, Tells, Makes, shows}
use denote.Memory.{mem, pointee}
use denote.Builtin.{RefMutOf}
use denote.Ref.{MutBor, MutRef, mut_vals, mut_Tells}
use denote.Signature.{plain}
use denote.Steps.{only, opens, closes, owned, peeks, heard, nothing}
use denote.Struct.Struct.{Plains, layout}
use denote.Struct.Steps.{spelt}
use denote.Struct.Cover.{Cover}
use denote.Struct.Field.{rows}
use denote.Struct.Values.{Values}
use denote.Struct.Declared.{Declared, fields, shape, row, field}
use denote.Struct.Laws as LL
use denote.Triple.Entry.{on_entry}
use denote.Triple.Spec.{Meets, triple_of}
use denote.Triple.Statement.{Contract, Triple}
use denote.Triple.Call.{calls_at}
use denote.Triple.Clauses.{Ended, Clauses, closing, ensured, lasts}
use denote.Triple.Walked.{says, Stays, stay_ref, stay_none, walk_of, AllGo, Goes-none, Goes-ref, Walks, ends_at, walked, walk_Meets}
use denote.Exit.{yes, unchanged}
use Rattle.lent.proofs.Thin.{thin_post}

module _ (T : Declared) (TL : LL.Laws T) (TP : Plains (fields T)) (T-low : LL.Lowered T) (N : Declared) (NL : LL.Laws N) (NP : Plains (fields N)) (N-low : LL.Lowered N)
    (ν : Sym) (D : Type 0) (state : D → T.D) (answer : D → N.D) (one : (x y : D) → ◌≡◌ {A = Denots (rows (field T ∷ field N ∷ []))} (T.to (state x), (N.to (answer x), tt)) (T.to (state y), (N.to (answer y), tt)) → x ≡ y)
    (cover : Cover D (Values (field T ∷ field N ∷ [])) (λ d. (state d, (answer d, tt)))) (propositions : (v : Values (field T ∷ field N ∷ [])) → IsProp (cover.Ghost v))
    (R : RattleType) (τ : Ty) where
  abbrev X : Type 0
  X = R.Denot

  abbrev P : RattleType
  P = record { Denot = X; mir = τ ∷ []; written = R.written; reaches = R.reaches; lives = R.lives; own_val = R.own_val; exit = λ k. unchanged; coded = R.coded; shr_at = R.shr_at }

  abbrev S : Declared
  S = record {
    name = ν;
    args = [];
    types = [];
    parts = field T ∷ field N ∷ [];
    D = D;
    to = λ d. (T.to (state d), (N.to (answer d), tt));
    to_one = one;
    as_values = λ d. (state d, (answer d, tt));
    to_is = λ d. refl;
    cover = cover;
    propositions = propositions;
  }

  abbrev SL : LL.Laws S
  SL = (LL.field_laws T TL T-low, (LL.field_laws N NL N-low, tt))

  abbrev vals : T.D → List Val
  vals = LL.vals T TL

  abbrev answer_val : N.D → Val
  answer_val = LL.val N NL

  -- the two signatures
  abbrev pub step_ended : Ended
  step_ended = record { signature = record { lifetimes = 0; outlives = []; params = plain (λ _. row T) ∷ plain (λ _. P) ∷ []; result = plain (λ _. row S) }; kept = (yes, (yes, tt)) }

  abbrev pub thin_ended : Ended
  thin_ended = record { signature = record { lifetimes = 1; outlives = []; params = RefMutOf (0 ∷ []) tt (plain (λ _. row T)) (λ _. tt) ∷ plain (λ _. P) ∷ []; result = plain (λ _. row N) }; kept = (yes, (yes, tt)) }

  abbrev stayed : Stays thin_ended.signature.params thin_ended.kept
  stayed = (stay_ref (0 ∷ []) tt (plain (λ _. row T)), (stay_none (λ _. P) yes, tt))

  abbrev pub thin_fn : Callee → Fn
  thin_fn callee = record {
    lifetimes = 1;
    outlives = [];
    ty_params = [];
    givens = 0;
    params = 2;
    locals = local (layout (shape N)) value_local ∷ local (ty_ref (named 0) mut (pointee (row T).written)) value_local ∷ local τ value_local ∷ local (layout (shape S)) value_local
        ∷ local (layout (shape T)) value_local ∷ local (layout (shape T)) value_local ∷ [];
    body = seq (assign (place 4 []) (rv_opd (copy (place 1 (deref (layout (shape T)) ∷ [])))))
        (seq (call callee (copy (place 4 []) ∷ copy (place 2 []) ∷ []) (place 3 []))
        (seq (assign (place 5 []) (rv_opd (copy (place 3 (field_at 0 ∷ [])))))
        (seq (assign (place 1 (deref (layout (shape T)) ∷ [])) (rv_opd (copy (place 5 []))))
        (seq (assign (place 0 []) (rv_opd (copy (place 3 (field_at 1 ∷ []))))) return))));
  }

  module _ (X-val : X → Val) (X-tells : Tells P (Is P) (λ x. X-val x ∷ [])) (step : T.D → X → D) where
    module _ {M : Type 1} (𝓤 : Ura M) where
      abbrev pub step_clauses : Clauses 𝓤 step_ended
      step_clauses κs a = record { ghost = Unit {0}; requires = λ _. emp 𝓤; ensures = λ _ r _. fact 𝓤 (r ≡ step a.0 a.1.0) }

      abbrev pub thin_clauses : Clauses 𝓤 thin_ended
      thin_clauses κs a = record { ghost = Unit {0}; requires = λ _. emp 𝓤; ensures = λ _ r e. fact 𝓤 (thin_post T.D X N.D D state answer step tt (a.0.now, a.1.0) r e.0.now) }

    module _ {M : Type 1} {𝓤 : Ura M} (𝓛 : Logic 𝓤) where
      -- the callee's contract
      open 𝓛 use {H, A}

      abbrev pub Step : Contract 𝓤
      Step = triple_of 𝓛 step_ended.signature (closing 𝓛 step_ended (step_clauses 𝓤))

      step_of : (h : T.D) (x : X) (r : D) → ent 𝓤 (ensured 𝓛 step_ended (step_clauses 𝓤) tt (h, (x, tt)) tt r) (fact 𝓤 (r ≡ step h x))
      step_of h x r = ex_e 𝓤 _ (λ ws. snd∗ 𝓤 (sem 𝓛 (lasts step_ended tt (h, (x, tt)) ws)) (fact 𝓤 (r ≡ step h x)))

      module _ (X-makes : Makes 𝓛 P (Is P)) (X-typed : (x : X) → Is P x (X-val x ∷ []) → Holds (has_ty τ (X-val x)) × WT (X-val x)) (κ : Lft) (q : Share) (b o : ℕ) (γ : GName) (h : T.D) (t : X) (t_is : Is P t (X-val t ∷ [])) where
        abbrev x : MutBor T.D × (X × Unit {0})
        x = (record { ref_ptr = (b, o); ghost_name = γ; now = h }, (t, tt))

        abbrev at : List Val × (List Val × Unit {0})
        at = (vptr b o ∷ [], (X-val t ∷ [], tt))

        abbrev Post : Val → SProp 𝓤
        Post = (walk_of 𝓛 thin_ended stayed (thin_clauses 𝓤)).post (((κ, tt), (q, tt), tt, x, at), tt)

        exits : (r : D) → r ≡ step h t → Is (row N) (answer r) (answer_val (answer r) ∷ []) → ent 𝓤 (sep 𝓤 (A.obs γ ((row T).coded.code (state r))) (sep 𝓤 (A.bor κ (Body (mem (row T)) b o γ)) (A.lft κ q))) (Post (answer_val (answer r)))
        exits r e is =
            qed 𝓛 (‵ (fobs γ ((row T).coded.code (state r))) ∷ ‵ (fbor κ (Body (mem (row T)) b o γ)) ∷ ‵ (flft κ q) ∷ []) ∵
            suffices ! _ (ends_at 𝓛 thin_ended stayed (thin_clauses 𝓤) (((κ, tt), (q, tt), tt, x, at), tt) (answer_val (answer r)) (answer r) (state r, (tt, tt)) (tt, (tt, tt))) $
            says ! (ap answer e, ap state e) $ nothing ! $ move ! (3 ∷ 0 ∷ []) $ join ! $
            frame ! $ feq_i ! (List Val) (vptr b o ∷ []) (vptr b o ∷ []) refl $ fjoin3 ! $ nothing ! $ owned ! P (Is P) X-makes t _ t_is $ fjoin ! $ move ! (1 ∷ 0 ∷ []) $ fjoin ! $
            owned ! (row N) (Is (row N)) (LL.makes N NP 𝓛) (answer r) _ is $ move ! (1 ∷ 0 ∷ []) $ done !

        abbrev to_step : Step.Ghost
        to_step = ((tt, tt, tt, (h, (t, tt)), (vals h, (X-val t ∷ [], tt))), tt)

        goes_step : ent 𝓤 (sem 𝓛 ((row T).own_val h (vals h))) (Step.pre to_step)
        goes_step = qed 𝓛 (‵ ((row T).own_val h (vals h)) ∷ []) ∵ nothing ! $ owned ! P (Is P) X-makes t _ t_is $ fjoin ! $ move ! (1 ∷ 0 ∷ []) $ fjoin ! $ nothing ! $ join ! $ frame ! $ done !

        module _ (callee : Callee) (C : Calls 𝓤 H) (Λ : Loops 𝓤 H) (fm : FmC 𝓤 H 𝓛.laws C) (known : Triple 𝓤 (C callee) Step) where
          walk : ent 𝓤 (on_entry 𝓛 thin_ended.signature (κ, tt) (q, tt) x at) (WpFn 𝓤 H C Λ (thin_fn callee) (vptr b o ∷ X-val t ∷ []) Post)
          walk =
              qed 𝓛 ((‵ (flft κ q) ⊛ ‵ ftrue) ∷ ‵ (owns (MutRef (named 0) κ (row T) ∷ P ∷ []) x at) ∷ []) ∵ split ! $ move ! (2 ∷ []) $ fsplit ! $ fsplit3 ! $ drop ! $ keep ! (0 ∷ 1 ∷ 3 ∷ []) $
              -- [obs; the borrow; the token]
              enter ! C Λ (thin_fn callee) (vptr b o ∷ X-val t ∷ []) _ $
              alloc_all ! (λ l. pass_all ! refl ((tt, tt), (X-typed t t_is, tt)) $
              opens ! tt (row T) {h = h} b o (λ vs. spelt ! (row T) (Is (row T)) (shows 𝓛 (row T)) vals (LL.tells T TL) full_share h vs b o $
              move ! (1 ∷ []) $ peeks ! (row T) (Is (row T)) (shows 𝓛 (row T)) h (vals h) (λ was. move ! (1 ∷ 0 ∷ []) $
              -- [the state's cell; what it owns; the open borrow; obs; auth]
              sets ! (of_opd ! (load ! (through ! refl (stop !)) (look_raw ! 0 refl))) refl ((LL.lawful T TL 𝓛).typed h _ was).0 $
              move ! (1 ∷ []) $ use1 𝓛 (raw (Step.pre to_step)) goes_step $
              calls_at ! fm Step known to_step (and_then ! (get ! refl) (and_then ! (get ! refl) (no_more !))) (λ v.
              use1 𝓛 (later (some (λ (r : D). (‵ ftrue ⊛ ‵ ((row S).own_val r (v ∷ []))) ⊛ raw (ensured 𝓛 step_ended (step_clauses 𝓤) tt (h, (t, tt)) tt r)))) (id⊢ 𝓤 _) $ await ! tt $ pick ! (λ r.
              split ! $ move ! (1 ∷ []) $ use1 𝓛 (raw (fact 𝓤 (r ≡ step h t))) (step_of h t r) $ heard ! (r ≡ step h t) (λ e. split ! $ drop ! $
              peeks ! (row S) (Is (row S)) (shows 𝓛 (row S)) r (v ∷ []) (λ is. drop ! $
              -- [the state's cell; the open borrow; obs; auth]
              lands_as ! (ap only (LL.tells S SL r (v ∷ []) is)) refl ((LL.lawful S SL 𝓛).typed r _ (LL.owes S SL r (LL.owed S SL r _ is))).0 $
              sets ! (of_opd ! (get_in ! (fld ! refl (stop !)) (sub ! 0 refl (whole !)))) refl ((LL.lawful T TL 𝓛).typed (state r) _ (LL.owed S SL r _ is).0).0 $
              assigns ! (of_opd ! (get ! refl)) (through ! refl (stop !)) (store_raw ! 0 refl ((LL.lawful T TL 𝓛).typed (state r) _ (LL.owed S SL r _ is).0).0) $
              sets ! (of_opd ! (get_in ! (fld ! refl (stop !)) (sub ! 1 refl (whole !)))) refl ((LL.lawful N NL 𝓛).typed (answer r) _ (LL.owed S SL r _ is).1.0).0 $
              owned ! (row T) (Is (row T)) (LL.makes T TP 𝓛) (state r) _ (LL.owed S SL r _ is).0 $ move ! (1 ∷ 0 ∷ []) $ closes ! tt (row T) (state r) (vals (state r)) b o $
              -- [obs; the borrow; the token]
              returns ! (look_at ! 0 refl) $ free_all ! refl $ by ! (exits r e (LL.owed S SL r _ is).1.0))))))))

      module _ (X-makes : Makes 𝓛 P (Is P)) (X-typed : (x : X) → Is P x (X-val x ∷ []) → Holds (has_ty τ (X-val x)) × WT (X-val x)) (callee : Callee) where
        walks : (C : Calls 𝓤 H) (Λ : Loops 𝓤 H) → FmC 𝓤 H 𝓛.laws C → Triple 𝓤 (C callee) Step → Walks 𝓛 thin_ended stayed (WpFn 𝓤 H C Λ (thin_fn callee)) (thin_clauses 𝓤)
        walks C Λ fm known = walked 𝓛 thin_ended stayed (thin_clauses 𝓤) (WpFn 𝓤 H C Λ (thin_fn callee)) (λ κs. (mut_vals, ((λ x. X-val x ∷ []), tt))) (λ κs. (mut_Tells (named 0) κs.0 (row T), (X-tells, tt)))
            (λ κs qs bounds a _ are. via 𝓤 _ (fst∗ 𝓤 _ (emp 𝓤)) (walk X-makes X-typed κs.0 qs.0 a.0.ref_ptr.0 a.0.ref_ptr.1 a.0.ghost_name a.0.now a.1.0 are.1.0 callee C Λ fm known))

        goes : AllGo 𝓛 1 thin_ended.signature.params thin_ended.kept stayed
        goes = (Goes-ref 𝓛 1 0 tt (plain (λ _. row T)), (Goes-none 𝓛 1 (λ _. P) yes (λ κs x f. refl), tt))

        pub thin_meets : (𝓣 : Tables 𝓤 H) → Triple 𝓤 (𝓣.C callee) Step → Meets 𝓛 thin_ended.signature (WpFn 𝓤 H 𝓣.C 𝓣.Λ (thin_fn callee)) (closing 𝓛 thin_ended (thin_clauses 𝓤))
        thin_meets 𝓣 known = walk_Meets 𝓛 thin_ended stayed goes (thin_clauses 𝓤) (WpFn 𝓤 H 𝓣.C 𝓣.Λ (thin_fn callee)) (WpFn-mono 𝓤 H 𝓛.laws 𝓣 (thin_fn callee)) (walks 𝓣.C 𝓣.Λ (fm_of 𝓤 H 𝓛.laws 𝓣) known)
