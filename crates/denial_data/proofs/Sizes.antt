-- How long signatures are, and how their octets compare.
use Rattle.std.proofs.Common.{◌≡◌, ℕ, ◌<◌, ◌≤◌, List, ◌++◌, length, Ok, Err, refl, sym, ap, ◌∙◌, length-append, arith}
use Rattle.std.specs.List.{AllByRecursion}
use Rattle.std.specs.Ordering.{nat_cmp, ordering_then}
use Rattle.std.specs.Cmp.Lexicographic.{slice_cmp}
use Rattle.definitions.specs.Name.{Name, IsLabel, wire, low}
use Rattle.std.proofs.lemmas.Bool.{le-leb, lt-leb}
use Rattle.definitions.specs.Reading.{Malformed}
use Rattle.names_rdata.specs.Reading.{Part, if_short, limited}
use Rattle.names_parsed.proofs.Parsing.{below_not}
use Rattle.names_rdata.proofs.WireOrder.{no_root, wire_then}
use Rattle.denial_fields.proofs.TwoParts.{then_assoc, parts_then}
use Rattle.denial_data.specs.declared.proto_rrsig.Numbers.{Numbers}
use Rattle.denial_data.specs.Protos.{numbers_octets, IsSignedOver}
use Rattle.denial_data.specs.RrsigData.{RrsigData, rrsig_octets, rrsig_canonical, rrsig_len}

pub numbers_long : (n : Numbers) → length (numbers_octets n) ≡ 18
unfolding numbers_octets
numbers_long n = refl

pub rrsig_long : {N : Type 0} (name : N → Name) (d : RrsigData N) → length (rrsig_octets name d) ≡ rrsig_len name d.proto.signer_name d.signature
rrsig_long name d =
    let n = wire (name d.proto.signer_name) in
    omega (arith, numbers_long d.proto.numbers, length-append (numbers_octets d.proto.numbers) (n ++ d.signature), length-append n d.signature)

pub signed_over : IsSignedOver
unfolding numbers_octets
signed_over p = refl

-- by the numbers, the signer and the signature
pub rrsig_then : {N : Type 0} (name : N → Name) (a b : RrsigData N) → AllByRecursion IsLabel (name a.proto.signer_name) → AllByRecursion IsLabel (name b.proto.signer_name) → slice_cmp nat_cmp (rrsig_canonical name a) (rrsig_canonical name b) ≡ ordering_then (ordering_then (slice_cmp nat_cmp (numbers_octets a.proto.numbers) (numbers_octets b.proto.numbers)) (slice_cmp nat_cmp (wire (low (name a.proto.signer_name))) (wire (low (name b.proto.signer_name))))) (slice_cmp nat_cmp a.signature b.signature)
rrsig_then name a b p q =
    let m = low (name a.proto.signer_name) in
    let n = low (name b.proto.signer_name) in
    let x = numbers_octets a.proto.numbers in
    let y = numbers_octets b.proto.numbers in
    let heads = slice_cmp nat_cmp x y in
    let names = slice_cmp nat_cmp (wire m) (wire n) in
    parts_then x y (wire m ++ a.signature) (wire n ++ b.signature) (numbers_long a.proto.numbers ∙ sym (numbers_long b.proto.numbers))
    ∙ ap (ordering_then heads) (wire_then m n a.signature b.signature (no_root (name a.proto.signer_name) p) (no_root (name b.proto.signer_name) q))
    ∙ sym (then_assoc heads names (slice_cmp nat_cmp a.signature b.signature))

-- data that are read, and fit or not
pub limited_ok : {N : Type 0} (part : Part) (name : N → Name) (d : RrsigData N) (m : List ℕ) (p e q : ℕ) → part m p e ≡ Ok (rrsig_octets name d, q) → rrsig_len name d.proto.signer_name d.signature ≤ 65535 → limited part m p e ≡ Ok (rrsig_octets name d, q)
limited_ok part name d m p e q h fits = ap if_short h ∙ rw (le-leb (length (rrsig_octets name d)) 65535 (omega (arith, rrsig_long name d, fits))) refl

pub limited_long : {N : Type 0} (part : Part) (name : N → Name) (d : RrsigData N) (m : List ℕ) (p e q : ℕ) → part m p e ≡ Ok (rrsig_octets name d, q) → (rrsig_len name d.proto.signer_name d.signature ≤ 65535 → ⊥) → limited part m p e ≡ Err Malformed
limited_long part name d m p e q h long =
    let more : 65535 < rrsig_len name d.proto.signer_name d.signature = below_not long in
    ap if_short h ∙ rw (lt-leb (length (rrsig_octets name d)) 65535 (omega (arith, rrsig_long name d, more))) refl
