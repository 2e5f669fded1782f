-- What a walk ends in, as it is kept.
use Rattle.std.specs.Prelude.{◌≡◌, Option, Some, None, IfNone, IfSome}
use Rattle.definitions.specs.Name.{Name}
use Rattle.denial_laws.specs.Leading.{To}
use Rattle.messages.specs.Message.{Asked}
use Rattle.answer_judge_rules.specs.Rules.{verdict_of}
use Rattle.answer_judge_facts.specs.declared.validity.Validity.{Validity}
use Rattle.evidence_laws.specs.Redirection.{lead_seen}
use Rattle.tree_laws.specs.Tree.{Said, Secure, Unsigned, LeftOpen, Leads}
use Rattle.evidence_laws.specs.Given.{Given}
use Rattle.evidence_laws.specs.Walking.{Follows}
use Rattle.resolution_walk.specs.declared.ending.Ending.{Ending}
use Rattle.resolution_walk.specs.declared.ending.Ending.TheVariants as ends
use Rattle.resolution_walk.specs.declared.ending.Walk.{Walk}

-- what an ending says; none where the evidence does not suffice
abbrev pub said_of : Ending → Option Said
said_of (ends.Secure zone v) = Some (Secure zone (verdict_of v))
said_of (ends.Leads lead) = Some (Leads (lead_seen lead))
said_of (ends.Unsigned c datas) = Some (Unsigned c)
said_of (ends.LeftOpen zone) = Some (LeftOpen zone)
said_of _ = None

-- the name that an alias leads to
abbrev pub leads_to : Option Said → Option Name
leads_to (Some (Leads (To n))) = Some n
leads_to _ = None

-- what a walk says is where its evidence leads, through the names of the walk; an end of aliases is none that leads on
abbrev pub IsWalked : Given → Asked → Walk → Type 0
IsWalked e asked w = IfSome (said_of w.ending) (λ said. Follows e said asked w.through.items w.validity)

-- what says nothing lasts no time
abbrev pub validity_said : Option Said → Option Validity → Option Validity
validity_said None validity = None
validity_said (Some s) validity = validity

abbrev pub LastsIfSaid : Walk → Type 0
LastsIfSaid w = IfNone (said_of w.ending) (w.validity ≡ None)
