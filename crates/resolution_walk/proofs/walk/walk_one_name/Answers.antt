use Rattle.std.proofs.Common.{ap, sym, ◌∙◌, refl}
use Rattle.messages.specs.Questions.{asked_of}
use Rattle.evidence_laws.specs.Given.{Given}
use Rattle.evidence_laws.specs.Walking.{is_asked_of}
use Rattle.resolution_walk.specs.Stopping.{Elsewhere}
use Rattle.resolution_walk.proofs.Hashed.{no_more}
use Rattle.resolution_walk.proofs.walk.walk_one_name.Goals as goal

pub from_anchor-requires : goal.from_anchor-requires
from_anchor-requires g c =
    ap (λ (g : Given). is_asked_of g.anchor (asked_of c.args.question.now)) (sym c.evidence.view_is) ∙ sym c.is_asked_of.ensures ∙ c.if-is_asked_of.true

pub returns-else-is_asked_of : goal.returns-else-is_asked_of
returns-else-is_asked_of g c =
    let outside = ap (λ (g : Given). is_asked_of g.anchor (asked_of c.args.question.now)) (sym c.evidence.view_is) ∙ sym c.is_asked_of.ensures ∙ c.if-is_asked_of.false in
    record { stops = λ aliases. Elsewhere outside refl refl; hashed = no_more _ c.args.counts }
