-- What the signatures of an answer are made over.
use Rattle.std.specs.Prelude.{◌≡◌, ℕ, false, List, [], ◌∷◌, map, if◌then◌else◌}
use Rattle.std.specs.List.{flat_map}
use Rattle.definitions.specs.Name.{Name, low}
use Rattle.definitions.specs.Dnskey.{Dnskey}
use Rattle.denial_laws.specs.Truth.{concerned}
use Rattle.messages.specs.Message.{Asked}
use Rattle.answer_terms.specs.Asking.{is_allowed}
use Rattle.answer_terms.specs.GroupView.{GroupView, octets_of, view_of}
use Rattle.answer_terms.specs.Served.{answer_groups, key_group, keys_ttl}
use Rattle.answer_scheme.specs.Moments.{second_of}
use Rattle.answer_zone.specs.HashedZone.{FailsOn}
use Rattle.answer_publisher_keys.specs.declared.keys.Publication.TheVariants as publication
use Rattle.answer_publisher_keys.specs.Bindings.{ZoneKeys, keys_by_tag}
use Rattle.answer_publisher.specs.World.{World, present_keys, served_in, signing_in}
use Rattle.answer_publisher.specs.declared.fault.AnswerFault.{AnswerFault}
use Rattle.answer_publisher.specs.declared.fault.AnswerFault.TheVariants as fault

-- octets, and the key that signs them
pub record Input : Type 0 where
  pub key : Dnskey
  pub octets : List ℕ

abbrev pub input : Dnskey → List ℕ → Input
input key octets = record { key = key; octets = octets }

-- an RRset's, one of each key
abbrev pub inputs_by : Name → ℕ → ℕ → GroupView → List Dnskey → List Input
inputs_by apex at life g keys = map (λ k. input k (octets_of apex at life g k)) keys

-- those of an RRset, where it is signed
abbrev pub inputs_of : Name → ℕ → ℕ → List Dnskey → GroupView → List Input
inputs_of apex at life keys g = if g.signed then inputs_by apex at life g keys else []

-- those of RRsets in order
abbrev pub all_inputs : Name → ℕ → ℕ → List Dnskey → List GroupView → List Input
all_inputs apex at life keys gs = flat_map (inputs_of apex at life keys) gs

-- those of the answer to a question at a moment
abbrev pub answer_inputs : World → ZoneKeys → ℕ → Asked → List Input
answer_inputs w keys at asked = all_inputs w.zone.apex (second_of at) w.life (keys_by_tag keys (signing_in w asked)) (map view_of (answer_groups (served_in w) asked.name asked.rtype))

-- those of the DNSKEY answer
abbrev pub keys_inputs : World → ZoneKeys → ℕ → List Input
keys_inputs w keys at = all_inputs w.zone.apex (second_of at) w.life (keys_by_tag keys publication.SignsKeys) (view_of (key_group w.zone.apex (keys_ttl (served_in w)) (present_keys keys)) ∷ [])

-- why none are told: the question is not allowed, the hasher fails on a name that it concerns, or memory ran out
abbrev pub RefusesInputs : World → Asked → AnswerFault → Type 0
RefusesInputs w asked fault.QuestionNotAllowed = is_allowed w.zone.apex asked ≡ false
RefusesInputs w asked fault.HashFailed = FailsOn w.answers.hash w.zone.mode (concerned (low w.zone.apex) (low asked.name))
RefusesInputs w asked fault.Memory = Unit {0}
RefusesInputs w asked _ = ⊥
