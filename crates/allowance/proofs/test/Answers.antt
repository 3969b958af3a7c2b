use Rattle.std.proofs.Common.{sym, ◌∙◌}
use Rattle.table.proofs.Verdicts.{granted_ok}
use Rattle.allowance.specs.Test.{test_verdict, passed}
use Rattle.allowance.proofs.Tests.{test_passed}
use Rattle.allowance.proofs.test.Goals as goal

pub returns-in-Ok : goal.returns-in-Ok
returns-in-Ok c =
    let x = c.args.x in
    let v = granted_ok (test_verdict x) (passed x) _ (sym c.accepted.ensures ∙ c.in-Ok.is) in
    sym v.1 ∙ test_passed x v.0
