-- The NSEC3PARAM RRset of a zone, and the answer for it (RFC 5155, 4).
use Rattle.std.specs.Prelude.{ℕ, List, [], ◌∷◌, Option, Some, None, IsSomeAnd}
use Rattle.std.specs.Option.{option_map_or}
use Rattle.definitions.specs.Limits.{pointer_limit}
use Rattle.definitions.specs.Name.{Name}
use Rattle.definitions.specs.ZoneChain.{Mode, Nsec, Nsec3}
use Rattle.denial_nsec_data.specs.Hashed.{nsec3param_octets, nsec3param_with}
use Rattle.answer_scheme.specs.Moments.{second_of}
use Rattle.answer_terms.specs.Given.{Gives}
use Rattle.answer_terms.specs.GroupView.{view_of}
use Rattle.answer_terms.specs.Served.{ServedRrset, by_tag, canonical_group, keys_ttl}
use Rattle.answer_publisher_keys.specs.Bindings.{ZoneKeys, dnskeys, keys_by_tag, published}
use Rattle.answer_publisher_keys.specs.declared.keys.Publication.TheVariants.{SignsZone}
use Rattle.answer_publisher.specs.Answering.{AnswersApex, RefusesApex, apex_question}
use Rattle.answer_publisher.specs.Inputs.{Input, all_inputs}
use Rattle.answer_publisher.specs.World.{World, served_in}
use Rattle.answer_publisher.specs.declared.fault.AnswerFault.{AnswerFault}

-- one record at the apex, of algorithm 1 and flags 0, with a TTL (RFC 5155, 4.1)
abbrev pub parameters_group : Name → ℕ → ℕ → List ℕ → ServedRrset
parameters_group apex ttl iterations salt = canonical_group apex apex 51 ttl (nsec3param_octets (nsec3param_with 1 0 iterations salt) ∷ [])

-- that of a chain of hashes, whether it opts out or not; a chain of names has none
abbrev pub parameters_of_chain : Name → ℕ → Mode → Option ServedRrset
parameters_of_chain apex ttl Nsec = None
parameters_of_chain apex ttl (Nsec3 iterations salt optout) = Some (parameters_group apex ttl iterations salt)

-- that of a zone, with the TTL of its SOA record
abbrev pub parameters_in : World → Option ServedRrset
parameters_in w = parameters_of_chain w.zone.apex (keys_ttl (served_in w)) w.zone.mode

-- neither is there, or both are, and this holds of them
abbrev pub OfBoth : {A B : Type 0} → (A → B → Type 0) → Option A → Option B → Type 0
OfBoth P None None = Unit {0}
OfBoth P (Some a) (Some b) = P a b
OfBoth P a b = ⊥

-- ---- the answer for it at a moment, which a zone with a chain of names does not have: octet for octet, what it reads as, why there is none

abbrev pub AnswersParameters : World → ZoneKeys → ℕ → Option (List ℕ) → Type 0
AnswersParameters w keys at o = OfBoth (AnswersApex w.sign w.answers.verifies w.zone.apex (second_of at) w.life (keys_by_tag keys SignsZone)) (parameters_in w) o

abbrev pub SpellsParameters : World → ZoneKeys → ℕ → Option (List ℕ) → Type 0
SpellsParameters w keys at o =
    OfBoth (λ g m. Gives w.answers.verifies pointer_limit w.zone.apex (second_of at) w.life (by_tag (dnskeys (published keys SignsZone))) (apex_question w.zone.apex g.rtype) (g ∷ []) m) (parameters_in w) o

abbrev pub RefusesParameters : World → ZoneKeys → ℕ → AnswerFault → Type 0
RefusesParameters w keys at f = IsSomeAnd (parameters_in w) (λ g. RefusesApex w.sign w.answers.verifies w.zone.apex (second_of at) w.life (keys_by_tag keys SignsZone) g f)

-- what its signatures are made over
abbrev pub parameters_inputs : World → ZoneKeys → ℕ → List Input
parameters_inputs w keys at = option_map_or (λ g. all_inputs w.zone.apex (second_of at) w.life (keys_by_tag keys SignsZone) (view_of g ∷ [])) (parameters_in w) []
