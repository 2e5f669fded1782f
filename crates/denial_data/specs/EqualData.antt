-- Octets tell the data that they are of: what is read back is equal.
use Rattle.std.specs.Prelude.{◌≡◌, ◌<◌}
use Rattle.definitions.specs.Name.{Name, IsName}
use Rattle.definitions.specs.Dnskey.{Dnskey, Ds, dnskey_data}
use Rattle.denial_keys.specs.Keys.{ds_data}
use Rattle.denial_nsec_data.specs.Hashed.{Nsec3Data, Nsec3paramData, nsec3_octets, nsec3param_octets}
use Rattle.denial_nsec_data.specs.NsecData.{NsecData, nsec_octets}
use Rattle.denial_data.specs.declared.proto_rrsig.Numbers.{Numbers}
use Rattle.denial_data.specs.RrsigData.{RrsigData, rrsig_octets}

abbrev pub KeysAreTold : Type 0
KeysAreTold = (a b : Dnskey) → a.flags < 65536 → b.flags < 65536 → dnskey_data a ≡ dnskey_data b → a ≡ b

abbrev pub DigestsAreTold : Type 0
DigestsAreTold = (a b : Ds) → a.tag < 65536 → b.tag < 65536 → ds_data a ≡ ds_data b → a ≡ b

-- numbers of 16 and of 32 bits
pub record NumbersFit (n : Numbers) : Type 0 where
  pub type_covered : n.type_covered < 65536
  pub original_ttl : n.original_ttl < 4294967296
  pub expiration : n.expiration < 4294967296
  pub inception : n.inception < 4294967296
  pub key_tag : n.key_tag < 65536

abbrev pub SignaturesAreTold : Type 0
SignaturesAreTold =
    (a b : RrsigData Name) → NumbersFit a.proto.numbers → NumbersFit b.proto.numbers → IsName a.proto.signer_name → IsName b.proto.signer_name
    → rrsig_octets (λ n. n) a ≡ rrsig_octets (λ n. n) b → a ≡ b

abbrev pub LinksAreTold : Type 0
LinksAreTold = (a b : NsecData Name) → IsName a.next_name → IsName b.next_name → nsec_octets (λ n. n) a ≡ nsec_octets (λ n. n) b → a ≡ b

abbrev pub ParametersAreTold : Type 0
ParametersAreTold = (a b : Nsec3paramData) → a.iterations < 65536 → b.iterations < 65536 → nsec3param_octets a ≡ nsec3param_octets b → a ≡ b

abbrev pub HashedLinksAreTold : Type 0
HashedLinksAreTold = (a b : Nsec3Data) → a.params.iterations < 65536 → b.params.iterations < 65536 → nsec3_octets a ≡ nsec3_octets b → a ≡ b
