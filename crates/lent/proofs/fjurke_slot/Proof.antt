-- `lent::fjurke_slot` meets its contract: it is a thin call of the engine's `slot_said` over a lent state (`ThinCall.antt`). Assumes nothing.
use mir.Syntax.{w8, ty_int}
use mir.Val.{vint}
use contract.Running.{tables, tables_of}
use denote.Plain.{uint_Tells, uint_Makes}
use denote.Builtin.{u8}
use denote.Triple.Spec.{triple_of}
use denote.Triple.Table.{entered}
use Rattle.engine.specs.Said.{slot_said}
use Rattle.engine.specs.declared.SlotSaid.{SlotSaid}
use Rattle.lent.proofs.ThinCall.{thin_meets}
use Rattle.engine.specs.contracts.State as T
use Rattle.engine.proofs.State.TheLaws as T'
use Rattle.engine.specs.contracts.SlotSaid as S
use Rattle.engine.specs.contracts.Said as N
use Rattle.engine.proofs.Said.TheLaws as N'
use Rattle.engine.proofs.slot_said.Symbol.{name as #step}
use Rattle.engine.proofs.slot_said.Met as step_thm
use Rattle.lent.specs.contracts.fjurke_slot as f
use Rattle.lent.proofs.fjurke_slot.Statement.{statement}
use Rattle.lent.proofs.fjurke_slot.Code as code

pub fjurke_slot_spec : {M : Type 1} → statement M
unfolding tables_of
fjurke_slot_spec 𝓤 𝓛 𝓜 𝓡 w =
    let 𝓣 = tables 𝓤 𝓛.H 𝓜 𝓡 𝓡.env in
    entered 𝓤 𝓛.H (triple_of 𝓛 f.signature (f.spec 𝓛 𝓜.mem 𝓡.returns)) 𝓣.C 𝓣.Λ f.Key.name code.function (code.unfolded 𝓤 𝓛.H 𝓜 𝓡 w)
    (thin_meets T.the_type T'.the_laws T'.the_plain T'.lowers N.the_type N'.the_laws N'.the_plain N'.lowers
    S.the_type.name SlotSaid (λ d. d.state) (λ d. d.answer) S.the_type.to_one S.the_type.cover S.the_type.propositions
    u8 (ty_int w8) (vint w8) (uint_Tells w8) slot_said
    𝓛 (uint_Makes 𝓛 w8) (λ _ is. (tt, record { fits = is.1 })) #step (tables_of 𝓤 𝓛.H 𝓜 𝓣)
    (step_thm.met 𝓤 𝓛 𝓜 𝓡 (code.calls-engine::slot_said 𝓡.env w)))
