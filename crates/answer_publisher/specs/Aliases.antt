-- What a publisher answers and accepts where aliases may stand in its zone.
use Rattle.std.specs.Prelude.{◌≡◌, ℕ, Bool, true, false, not, ◌&&◌, ◌||◌, ◌==◌, List, [], ◌∷◌, Option, Some, None, nat_le, if◌then◌else◌}
use Rattle.std.specs.Option.{option_map}
use Rattle.definitions.specs.Name.{Name, at_or_above, low}
use Rattle.definitions.specs.Zone.{Zone, has}
use Rattle.definitions.specs.ZoneChain.{Mode}
use Rattle.denial_laws.specs.Aliases.{is_alias_type}
use Rattle.messages.specs.HandedRr.{HandedRr, among}
use Rattle.messages.specs.Message.{Asked}
use Rattle.answer_terms.specs.Asking.{asks_alias, is_allowed}
use Rattle.answer_terms.specs.Hashing.{Hasher}
use Rattle.answer_terms.specs.ZoneView.{AcceptedZone}
use Rattle.answer_zone.specs.Finding.{finds, links_names, redirecting}
use Rattle.answer_zone.specs.AliasFaults.{RefusesZoneWithAliases}
use Rattle.answer_publisher.specs.Replacing.{is_too_soon}
use Rattle.answer_publisher.specs.declared.fault.ReplaceFault.{ReplaceFault}
use Rattle.answer_publisher.specs.declared.fault.ReplaceFault.TheVariants as replace

-- a question that is allowed, or one for the records of aliases
abbrev pub is_answered : Name → Asked → Bool
is_answered apex asked = is_allowed apex asked || asks_alias apex asked

-- the question for a type in the place of another
abbrev pub for_type : ℕ → Asked → Asked
for_type t a = record { name = a.name; rtype = t; class = a.class }

-- for all records of a name: ANY, 255 (RFC 1035, 3.2.3), or RRSIG, 46: signatures are no RRset of their own (RFC 4035, 2.2)
abbrev pub asks_all : Asked → Bool
asks_all a = among (46 ∷ 255 ∷ []) a.rtype

-- a question that an alias may answer: class IN, at or below the apex, for a type that a zone may hold or for ANY, 255 (RFC 6895, 3.1)
abbrev pub may_lead : Name → Asked → Bool
may_lead apex a = (a.class == 1) && at_or_above apex a.name && not (among (0 ∷ 41 ∷ []) a.rtype) && not (nat_le 128 a.rtype && nat_le a.rtype 254)

-- a question for NSEC, 47, of a name with a CNAME of its own: the NSEC record of a chain of names stands beside that (RFC 4034, 4)
abbrev pub asks_beside : Mode → Zone → Asked → Bool
asks_beside mode z a = (a.rtype == 47) && links_names mode && has z (low a.name) 5

-- where the name has no RRset of the type: its DNAME, where all are asked for; its CNAME, or that of the wildcard that stands for it, but
-- for a record that stands beside one; else the DNAME of the nearest name above at which one stands (RFC 6672, 3.2)
abbrev pub alias_in_place : Mode → Zone → Asked → Option Asked
alias_in_place mode z a =
    if asks_all a && finds z a.name 39 then Some (for_type 39 a)
    else if not (asks_beside mode z a) && finds z a.name 5 then Some (for_type 5 a)
    else option_map (λ d. record { name = d; rtype = 39; class = a.class }) (redirecting z a.name)

-- The question for the RRset of an alias that answers a question: the one that is asked for, or that which answers in its place
-- (RFC 1034, 4.3.2). None where the zone has another RRset that is asked for, and where the name is no alias.
abbrev pub alias_of : Mode → Zone → Asked → Option Asked
alias_of mode z a =
    if not (may_lead z.name a) then None
    else if finds z a.name a.rtype then (if is_alias_type a.rtype then Some a else None)
    else alias_in_place mode z a

-- why other records do not replace those of a zone, where aliases may stand among them: they come too soon; else as those of a new
-- zone with aliases, of its apex, chain and limit
abbrev pub RefusesReplacementWithAliases : Hasher → AcceptedZone → Option ℕ → ℕ → List HandedRr → ReplaceFault → Type 0
RefusesReplacementWithAliases hash z latest at rs replace.TooSoon = is_too_soon latest at ≡ true
RefusesReplacementWithAliases hash z latest at rs (replace.Zone f) = (is_too_soon latest at ≡ false) × RefusesZoneWithAliases hash z.apex z.mode z.limit rs f
