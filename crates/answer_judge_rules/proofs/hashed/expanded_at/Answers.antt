use Rattle.std.proofs.Common.{sym, ap, ◌∙◌}
use Rattle.std.specs.Prelude.{Some}
use Rattle.definitions.specs.Zone.{StarRecords}
use Rattle.denial_laws.specs.Facts.{Rrset}
use Rattle.answer_judge_rules.proofs.Gaps.{expanded_gaps, said_asked, said_unasked}
use Rattle.answer_judge_rules.proofs.hashed.expanded_at.Goals as goal

pub returns-then-is_denied : goal.returns-then-is_denied
returns-then-is_denied c =
    ap (λ (r : Rrset). Some (StarRecords r.datas)) c.rrset.view_is
    ∙ sym (expanded_gaps c.args.hash.now c.args.rrset c.args.links.now
    ∙ said_asked (Some (StarRecords c.args.rrset.datas)) c.args.hash.now c.args.links.now (sym c.is_denied.ensures ∙ c.if-is_denied.true))

pub returns-else-is_denied : goal.returns-else-is_denied
returns-else-is_denied c =
    c.left_open.ensures
    ∙ sym (expanded_gaps c.args.hash.now c.args.rrset c.args.links.now
    ∙ said_unasked (Some (StarRecords c.args.rrset.datas)) c.args.hash.now c.args.links.now (sym c.is_denied.ensures ∙ c.if-is_denied.false))
