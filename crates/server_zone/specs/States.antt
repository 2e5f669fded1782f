-- The state of a zone, which its lines determine.
use Rattle.std.specs.Prelude.{◌≡◌, ℕ, Bool, true, false, List, [], ◌∷◌, ◌++◌, map, max, Option, Some, None, Ok, Err, if◌then◌else◌}
use Rattle.std.specs.List.{AllByRecursion}
use Rattle.std.specs.Option.{is_some}
use Rattle.definitions.specs.Dnskey.{Dnskey}
use Rattle.messages.specs.Handed.{IsHanded}
use Rattle.messages.specs.HandedRr.{HandedRr, handed_of}
use Rattle.answer_terms.specs.Accepting.{sorted_records}
use Rattle.answer_terms.specs.Hashing.{Hasher}
use Rattle.answer_terms.specs.ZoneView.{AcceptedZone}
use Rattle.answer_zone.specs.HashedZone.{accepted_zone}
use Rattle.answer_zone_records.specs.AliasFaults.{IsAcceptedWithAliases}
use Rattle.answer_publisher_keys.specs.Bindings.{Call, Outcome, ZoneKeys, apply, no_keys}
use Rattle.answer_publisher_keys.specs.KeyCalls.{Fails, IsNamed, RanOut, fault_of}
use Rattle.answer_publisher.specs.Publishing.{digest_at}
use Rattle.answer_publisher.specs.Aliases.{RefusesReplacementWithAliases}
use Rattle.answer_publisher.specs.Replacing.{is_too_soon, noted}
use Rattle.answer_publisher.specs.World.{zone_by}
use Rattle.answer_publisher.specs.declared.publishing.Publisher.{Publisher}
use Rattle.session_grammar.specs.Grammar.{◌>>=◌, ZoneLine}
use Rattle.server_glue.specs.Glue.{addresses_of}
use Rattle.server_answers.specs.Zones.{IsAcceptedZone}
use Rattle.server_zone.specs.Lines.{has_feed}
use Rattle.server_zone.specs.StateLines.{StateLine, Nothing, Added, Replaced, Called, Other, state_line}
use Rattle.server_zone.specs.declared.refusals.Refusal.{Refusal}
use Rattle.server_zone.specs.declared.refusals.Refusal.TheVariants as refusal
use Rattle.server_zone.specs.declared.open_zone.Applied.{Applied}
use Rattle.server_zone.specs.declared.open_zone.Applied.TheVariants as applied
use Rattle.server_zone.specs.declared.open_zone.Zone.{Zone}

-- the zone, how long its signatures hold, its keys and their rolls, the records that are gathered for the next replacement, the greatest
-- whole second of an event behind the zone's own records, that of a replacement, and the greatest TTL of the records that it has or had
pub record State : Type 0 where
  pub zone : AcceptedZone
  pub life : ℕ
  pub keys : ZoneKeys
  pub gathered : List HandedRr
  pub last : Option ℕ
  pub closed : Option ℕ
  pub ttl : ℕ

abbrev pub state_of : {S H : Type 0} → Zone S H → State
state_of z = record {
  zone = accepted_zone z.publisher.zone;
  life = z.life;
  keys = z.publisher.keys;
  gathered = map handed_of z.gathered.items;
  last = z.last;
  closed = z.closed;
  ttl = z.ttl;
}

-- whether an event stands behind the zone's own records
abbrev pub is_begun : State → Bool
is_begun s = is_some s.last

-- the greatest TTL of records, or a number that none of them is greater than
abbrev pub greatest_ttl : ℕ → List HandedRr → ℕ
greatest_ttl ttl [] = ttl
greatest_ttl ttl (r ∷ rs) = greatest_ttl (max ttl r.ttl) rs

-- a digest of octets by its type (RFC 4034, 5.1.4); None where it fails
abbrev pub Digest : Type 0
Digest = ℕ → List ℕ → Option (List ℕ)

abbrev pub digests : Digest → State → Dnskey → Option (List ℕ)
digests digest s = digest_at digest s.zone.apex

-- a zone of its own records, without keys
abbrev pub made : ZoneLine → List HandedRr → State
made z rs = record {
  zone = zone_by z.apex z.mode z.limit rs;
  life = z.life;
  keys = no_keys z.apex;
  gathered = [];
  last = None;
  closed = None;
  ttl = greatest_ttl 0 rs;
}

-- a record more for the next replacement
abbrev pub gathering : HandedRr → State → State
gathering r s = record s { gathered = s.gathered ++ r ∷ [] }

-- without the records for the next replacement
abbrev pub ungathered : State → State
ungathered s = record s { gathered = [] }

-- the records that were gathered in the place of the zone's, at a moment
abbrev pub replaced : ℕ → State → State
replaced at s = record s {
  zone = record s.zone { records = sorted_records s.gathered };
  gathered = [];
  last = noted s.last at;
  closed = noted s.closed at;
  ttl = greatest_ttl s.ttl s.gathered;
}

abbrev pub called : ℕ → ZoneKeys → State → State
called at keys s = record s { keys = keys; last = noted s.last at }

abbrev pub behind_call : ℕ → Outcome → State → Option State
behind_call at (Ok a) s = Some (called at a.0 s)
behind_call at (Err f) s = None

-- the state behind a line that is accepted, as far as the lines alone determine it
abbrev pub after : Digest → StateLine → State → Option State
after digest Nothing s = Some s
after digest (Added r) s = if is_begun s then Some (gathering r s) else None
after digest (Replaced at) s = Some (replaced at s)
after digest (Called at c) s = behind_call at (apply (digests digest s) c at s.keys) s
after digest Other s = None

-- a line applied to an open zone
abbrev pub applied_line : Digest → State → List ℕ → Option State
applied_line digest s line = if has_feed line then None else (state_line line >>= λ l. after digest l s)

-- ---- what applying answers

-- An accepted line answers this and leaves the state so; `latest` is the greatest whole second at which an answer was given.
abbrev pub Follows : Digest → Hasher → Option ℕ → State → StateLine → Applied → State → Type 0
Follows digest hash latest s Nothing applied.Nothing t = t ≡ s
Follows digest hash latest s (Added r) applied.Gathered t = (is_begun s ≡ true) × (t ≡ gathering r s)
Follows digest hash latest s (Replaced at) applied.Replaced t =
    (is_too_soon latest at ≡ false)
    × AllByRecursion IsHanded s.gathered
    × IsAcceptedWithAliases hash s.zone.apex s.zone.mode s.zone.limit s.gathered
    × (t ≡ replaced at s)
Follows digest hash latest s (Called at c) (applied.Actions actions) t =
    (keys : ZoneKeys) × (apply (digests digest s) c at s.keys ≡ Ok (keys, actions.items)) × (t ≡ called at keys s)
Follows digest hash latest s _ _ t = ⊥

-- want of memory alone
abbrev pub IsMemory : Refusal → Type 0
IsMemory refusal.Memory = Unit {0}
IsMemory _ = ⊥

abbrev pub RefusesRecord : State → Refusal → Type 0
RefusesRecord s refusal.Memory = Unit {0}
RefusesRecord s refusal.TooEarly = is_begun s ≡ false
RefusesRecord s _ = ⊥

abbrev pub RefusesReplaced : Hasher → Option ℕ → State → ℕ → Refusal → Type 0
RefusesReplaced hash latest s at refusal.Memory = Unit {0}
RefusesReplaced hash latest s at (refusal.Replace f) = RefusesReplacementWithAliases hash s.zone latest at s.gathered f
RefusesReplaced hash latest s at _ = ⊥

abbrev pub RefusesCall : Digest → State → ℕ → Call → Refusal → Type 0
RefusesCall digest s at c refusal.Memory = Unit {0}
RefusesCall digest s at c (refusal.Key f) = IsNamed f × Fails (RanOut c) (fault_of f) (apply (digests digest s) c at s.keys)
RefusesCall digest s at c _ = ⊥

abbrev pub RefusesOther : Refusal → Type 0
RefusesOther refusal.Memory = Unit {0}
RefusesOther refusal.NotOfState = Unit {0}
RefusesOther _ = ⊥

-- why a line that can be read is refused
abbrev pub RefusesTo : Digest → Hasher → Option ℕ → State → StateLine → Refusal → Type 0
RefusesTo digest hash latest s Nothing f = IsMemory f
RefusesTo digest hash latest s (Added r) f = RefusesRecord s f
RefusesTo digest hash latest s (Replaced at) f = RefusesReplaced hash latest s at f
RefusesTo digest hash latest s (Called at c) f = RefusesCall digest s at c f
RefusesTo digest hash latest s Other f = RefusesOther f

-- what the line reads as has this
abbrev pub OfLine : (StateLine → Type 0) → Option StateLine → Type 0
OfLine P (Some l) = P l
OfLine P None = ⊥

-- why a line is refused
abbrev pub RefusesLine : Digest → Hasher → Option ℕ → State → List ℕ → Refusal → Type 0
RefusesLine digest hash latest s line refusal.ManyLines = has_feed line ≡ true
RefusesLine digest hash latest s line (refusal.Unreadable f) = state_line line ≡ None
RefusesLine digest hash latest s line refusal.Memory = Unit {0}
RefusesLine digest hash latest s line f = OfLine (λ l. RefusesTo digest hash latest s l f) (state_line line)

-- The zone is one of records that were handed in and accepted, its addresses are those among them, and its publisher's signatures hold
-- as long as its lines say.
pub record HoldsZone {S H : Type 0} (hash : Hasher) (z : Zone S H) : Type 0 where
  pub zone : IsAcceptedZone hash (accepted_zone z.publisher.zone)
  pub addresses : z.addresses ≡ addresses_of zone.records
  pub life : z.publisher.life ≡ z.life

-- a publisher is as before but for its keys and the records of its zone
abbrev pub IsRestKept : {S H : Type 0} → Publisher S H → Publisher S H → Type 0
IsRestKept old new = new ≡ record old { zone = record old.zone { records = new.zone.records }; keys = new.keys }
