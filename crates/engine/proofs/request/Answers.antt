use Rattle.std.proofs.Common.{◌≡◌, sym, ◌∙◌, rules, length}
use Rattle.table.proofs.Verdicts.{ok_taken}
use Rattle.engine.specs.Calls.{request_of}
use Rattle.engine.proofs.Legality.{parts_legal, request_tested, request_legal, request_refused}
use Rattle.engine.proofs.Ran.{joined_is}
use Rattle.engine.proofs.request.Goals as goal

pub returns-then-is_ok : goal.returns-then-is_ok
unfolding request_of
returns-then-is_ok c =
    let v = c.args in
    let ok = parts_legal v.s c.rows_legal.ensures c.run_legal.ensures c.is_proper.ensures in
    let tested = request_tested v.s v.name v.size ok c.request_refusal-verdict.ensures in
    let z = sym tested ∙ ok_taken _ (sym c.is_ok.ensures.value ∙ c.if-is_ok.true) in
    let g = request_legal v.s v.name v.size z in
    let names : length v.s.names ≡ 32 = search rules in
    let sizes : length v.s.sizes ≡ 32 = search rules in
    rw (tested, z, joined_is v.s g.0 names sizes v.name v.size g.1 g.2 c.put.ensures c.put-then-is_ok.ensures)

pub returns-else-is_ok : goal.returns-else-is_ok
returns-else-is_ok c =
    let v = c.args in
    let ok = parts_legal v.s c.rows_legal.ensures c.run_legal.ensures c.is_proper.ensures in
    request_refused v.s v.name v.size _ (request_tested v.s v.name v.size ok c.request_refusal-verdict.ensures) (sym c.is_ok.ensures.value ∙ c.if-is_ok.false)
