-- What a walk says stays proved as long as it lasts, and agrees with what other walks over evidence of the tree say.
use Rattle.std.proofs.Common.{◌≡◌, Option, Some, subst}
use Rattle.std.specs.Prelude.{IfSome}
use Rattle.messages.specs.Message.{Asked}
use Rattle.tree_laws.specs.Tree.{Said}
use Rattle.evidence_laws.specs.Given.{Given}
use Rattle.evidence_laws.specs.Staying.{EvidenceAgrees, EvidenceStaysProved}
use Rattle.evidence_laws.specs.Walking.{Follows}
use Rattle.resolution_walk.specs.Ended.{IsWalked, said_of}
use Rattle.resolution_walk.specs.Laws.{WalksAgree, WalksStayProved}
use Rattle.resolution_walk.specs.declared.ending.Walk.{Walk}

-- what a walk says is where its evidence leads, through the names of the walk
walked_follows : (e : Given) (asked : Asked) (w : Walk) (said : Said) → IsWalked e asked w → said_of w.ending ≡ Some said → Follows e said asked w.through.items w.validity
walked_follows e asked w said is says = subst (λ (o : Option Said). IfSome o (λ s. Follows e s asked w.through.items w.validity)) says is

pub walks_stay_proved : EvidenceStaysProved → WalksStayProved
walks_stay_proved stays e asked w said l later octets is says lasts within =
    stays e asked said w.through.items l later octets (subst (Follows e said asked w.through.items) lasts (walked_follows e asked w said is says)) within

pub walks_agree : EvidenceAgrees → WalksAgree
walks_agree agrees e f zones anchor asked v w said other of of_f same v_is w_is v_says w_says =
    agrees e f zones anchor asked said other v.through.items w.through.items v.validity w.validity of of_f same (walked_follows e asked v said v_is v_says) (walked_follows f asked w other w_is w_says)
