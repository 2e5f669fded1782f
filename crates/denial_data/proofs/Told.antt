-- Octets tell the data that they are of.
use Rattle.std.proofs.Common.{◌≡◌, ℕ, ◌<◌, List, [], ◌∷◌, ◌++◌, length, take, drop, get_or, refl, sym, ap, ◌∙◌, arith}
use Rattle.std.specs.Int.{w16, w32, to_be_bytes, from_be_bytes}
use Rattle.std.proofs.lemmas.Nat.{from_be_bytes-to_be_bytes_2, from_be_bytes-to_be_bytes_4}
use Rattle.definitions.specs.Name.{wire}
use Rattle.definitions.proofs.SignedLaws.{wire_spells}
use Rattle.denial_fields.specs.Counted.{counted}
use Rattle.denial_nsec_data.specs.Hashed.{Nsec3paramData, nsec3param_octets}
use Rattle.denial_data.specs.declared.proto_rrsig.Numbers.{Numbers}
use Rattle.denial_data.specs.Protos.{numbers_octets}
use Rattle.denial_data.specs.EqualData.{KeysAreTold, DigestsAreTold, NumbersFit, SignaturesAreTold, LinksAreTold, ParametersAreTold, HashedLinksAreTold}
use Rattle.denial_data.proofs.Sizes.{numbers_long}

number_16 : (m n : ℕ) → m < 65536 → n < 65536 → to_be_bytes w16 m ≡ to_be_bytes w16 n → m ≡ n
number_16 m n p q e = sym (from_be_bytes-to_be_bytes_2 m p) ∙ ap (from_be_bytes w16) e ∙ from_be_bytes-to_be_bytes_2 n q

number_32 : (m n : ℕ) → m < 4294967296 → n < 4294967296 → to_be_bytes w32 m ≡ to_be_bytes w32 n → m ≡ n
number_32 m n p q e = sym (from_be_bytes-to_be_bytes_4 m p) ∙ ap (from_be_bytes w32) e ∙ from_be_bytes-to_be_bytes_4 n q

-- two parts, the first equally long
pub parts : (a b x y : List ℕ) → length a ≡ length b → a ++ x ≡ b ++ y → (a ≡ b) × (x ≡ y)
parts [] [] x y h e = (refl, e)
parts [] (d ∷ b) x y h e = absurd (omega (arith, h))
parts (c ∷ a) [] x y h e = absurd (omega (arith, h))
parts (c ∷ a) (d ∷ b) x y h e =
    let first : c ≡ d = ap (λ l. get_or l 0 0) e in
    let rest = parts a b x y (omega (arith, h)) (ap (drop 1) e) in
    (λ i. first i ∷ rest.0 i, rest.1)

-- octets behind their number, and others
counted_parts : (a b x y : List ℕ) → counted a ++ x ≡ counted b ++ y → (a ≡ b) × (x ≡ y)
counted_parts a b x y e = parts a b x y (ap (λ l. get_or l 0 0) e) (ap (drop 1) e)

pub keys_told : KeysAreTold
keys_told a b p q e =
    let flags : a.flags ≡ b.flags = number_16 a.flags b.flags p q (ap (take 2) e) in
    let protocol : a.protocol ≡ b.protocol = ap (λ l. get_or l 2 0) e in
    let algorithm : a.algorithm ≡ b.algorithm = ap (λ l. get_or l 3 0) e in
    let octets : a.octets ≡ b.octets = ap (drop 4) e in
    λ i. record { flags = flags i; protocol = protocol i; algorithm = algorithm i; octets = octets i }

pub digests_told : DigestsAreTold
digests_told a b p q e =
    let tag : a.tag ≡ b.tag = number_16 a.tag b.tag p q (ap (take 2) e) in
    let algorithm : a.algorithm ≡ b.algorithm = ap (λ l. get_or l 2 0) e in
    let digest_type : a.digest_type ≡ b.digest_type = ap (λ l. get_or l 3 0) e in
    let digest : a.digest ≡ b.digest = ap (drop 4) e in
    λ i. record { tag = tag i; algorithm = algorithm i; digest_type = digest_type i; digest = digest i }

numbers_told : (m n : Numbers) → NumbersFit m → NumbersFit n → numbers_octets m ≡ numbers_octets n → m ≡ n
unfolding numbers_octets
numbers_told m n p q e =
    let covered : m.type_covered ≡ n.type_covered = number_16 m.type_covered n.type_covered p.type_covered q.type_covered (ap (take 2) e) in
    let algorithm : m.algorithm ≡ n.algorithm = ap (λ l. get_or l 2 0) e in
    let labels : m.labels ≡ n.labels = ap (λ l. get_or l 3 0) e in
    let ttl : m.original_ttl ≡ n.original_ttl = number_32 m.original_ttl n.original_ttl p.original_ttl q.original_ttl (ap (λ l. take 4 (drop 4 l)) e) in
    let expiration : m.expiration ≡ n.expiration = number_32 m.expiration n.expiration p.expiration q.expiration (ap (λ l. take 4 (drop 8 l)) e) in
    let inception : m.inception ≡ n.inception = number_32 m.inception n.inception p.inception q.inception (ap (λ l. take 4 (drop 12 l)) e) in
    let tag : m.key_tag ≡ n.key_tag = number_16 m.key_tag n.key_tag p.key_tag q.key_tag (ap (λ l. take 2 (drop 16 l)) e) in
    λ i. record { type_covered = covered i; algorithm = algorithm i; labels = labels i; original_ttl = ttl i; expiration = expiration i; inception = inception i; key_tag = tag i }

pub signatures_told : SignaturesAreTold
signatures_told a b p q m n e =
    let x = a.proto.numbers in
    let y = b.proto.numbers in
    let halves = parts (numbers_octets x) (numbers_octets y) (wire a.proto.signer_name ++ a.signature) (wire b.proto.signer_name ++ b.signature) (numbers_long x ∙ sym (numbers_long y)) e in
    let numbers = numbers_told x y p q halves.0 in
    let rest = wire_spells a.proto.signer_name b.proto.signer_name a.signature b.signature m n halves.1 in
    λ i. record { proto = record { numbers = numbers i; signer_name = rest.0 i }; signature = rest.1 i }

pub links_told : LinksAreTold
links_told a b m n e =
    let rest = wire_spells a.next_name b.next_name a.types b.types m n e in
    λ i. record { next_name = rest.0 i; types = rest.1 i }

-- parameters, and other octets behind them
params_parts : (a b : Nsec3paramData) (x y : List ℕ) → a.iterations < 65536 → b.iterations < 65536 → nsec3param_octets a ++ x ≡ nsec3param_octets b ++ y → (a ≡ b) × (x ≡ y)
params_parts a b x y p q e =
    let algorithm : a.algorithm ≡ b.algorithm = ap (λ l. get_or l 0 0) e in
    let flags : a.flags ≡ b.flags = ap (λ l. get_or l 1 0) e in
    let iterations : a.iterations ≡ b.iterations = number_16 a.iterations b.iterations p q (ap (λ l. take 2 (drop 2 l)) e) in
    let rest = counted_parts a.salt b.salt x y (ap (drop 4) e) in
    (λ i. record { algorithm = algorithm i; flags = flags i; iterations = iterations i; salt = rest.0 i }, rest.1)

pub parameters_told : ParametersAreTold
parameters_told a b p q e = (params_parts a b [] [] p q (ap (λ l. l ++ []) e)).0

pub hashed_told : HashedLinksAreTold
hashed_told a b p q e =
    let params = params_parts a.params b.params (counted a.next_owner ++ a.types) (counted b.next_owner ++ b.types) p q e in
    let rest = counted_parts a.next_owner b.next_owner a.types b.types params.1 in
    λ i. record { params = params.0 i; next_owner = rest.0 i; types = rest.1 i }
