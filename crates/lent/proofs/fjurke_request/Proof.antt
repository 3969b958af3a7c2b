-- `lent::fjurke_request` meets its contract: it is a thin call of `request_told` over a lent state (`ThinCall.antt`). Assumes nothing.
use contract.Running.{tables, tables_of}
use denote.Struct.Struct.{layout}
use denote.Struct.Declared.{shape, row}
use denote.Struct.Laws as LL
use denote.Triple.Spec.{triple_of}
use denote.Triple.Table.{entered}
use Rattle.lent.specs.Face.{request_told}
use Rattle.lent.specs.declared.RequestTold.{RequestTold}
use Rattle.lent.proofs.ThinCall.{thin_meets}
use Rattle.engine.specs.contracts.State as T
use Rattle.engine.proofs.State.TheLaws as T'
use Rattle.lent.specs.contracts.RequestTold as S
use Rattle.lent.specs.contracts.Ask as A
use Rattle.lent.proofs.Ask.TheLaws as A'
use Rattle.lent.specs.contracts.Told as N
use Rattle.lent.proofs.Told.TheLaws as N'
use Rattle.lent.proofs.request_told.Symbol.{name as #step}
use Rattle.lent.proofs.request_told.Met as step_thm
use Rattle.lent.specs.contracts.fjurke_request as f
use Rattle.lent.proofs.fjurke_request.Statement.{statement}
use Rattle.lent.proofs.fjurke_request.Code as code

pub fjurke_request_spec : {M : Type 1} → statement M
unfolding tables_of
fjurke_request_spec 𝓤 𝓛 𝓜 𝓡 w =
    let 𝓣 = tables 𝓤 𝓛.H 𝓜 𝓡 𝓡.env in
    entered 𝓤 𝓛.H (triple_of 𝓛 f.signature (f.spec 𝓛 𝓜.mem 𝓡.returns)) 𝓣.C 𝓣.Λ f.Key.name code.function (code.unfolded 𝓤 𝓛.H 𝓜 𝓡 w)
    (thin_meets T.the_type T'.the_laws T'.the_plain T'.lowers N.the_type N'.the_laws N'.the_plain N'.lowers
    S.the_type.name RequestTold (λ d. d.state) (λ d. d.answer) S.the_type.to_one S.the_type.cover S.the_type.propositions
    (row A.the_type) (layout (shape A.the_type)) (LL.val A.the_type A'.the_laws) (LL.tells A.the_type A'.the_laws) request_told
    𝓛 (LL.makes A.the_type A'.the_plain 𝓛) (λ x is. ((LL.lawful A.the_type A'.the_laws 𝓛).typed x _ is).0) #step (tables_of 𝓤 𝓛.H 𝓜 𝓣)
    (step_thm.met 𝓤 𝓛 𝓜 𝓡 (code.calls-lent::request_told 𝓡.env w)))
