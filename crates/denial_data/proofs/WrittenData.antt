-- DNSSEC record data that were written are read again.
use Rattle.std.proofs.Common.{◌≡◌, ◌≤◌, true, List, ℕ, ◌++◌, length, refl}
use Rattle.definitions.specs.Name.{Name, IsName, wire}
use Rattle.definitions.specs.Bitmap.{is_bitmap}
use Rattle.definitions.specs.Dnskey.{Dnskey, Ds, dnskey_data}
use Rattle.names_rdata.specs.Reading.{name_part, octets_part, rest_part, two_parts}
use Rattle.names_rdata.specs.ReadBack.{IsReadBack}
use Rattle.names_rdata.proofs.WrittenParts.{written_name, written_octets, written_two, written_data}
use Rattle.denial_fields.specs.Counted.{counted, counted_part}
use Rattle.denial_fields.specs.Ended.{ended_part}
use Rattle.denial_keys.specs.Keys.{dnskey_head, ds_head, ds_data}
use Rattle.denial_nsec_data.specs.Bitmaps.{bitmap_part}
use Rattle.denial_nsec_data.specs.Hashed.{Nsec3Data, Nsec3paramData, nsec3param_head, nsec3_octets, nsec3_part, nsec3param_octets, nsec3param_part, tail_part}
use Rattle.denial_nsec_data.specs.Nsec.{nsec_part}
use Rattle.denial_nsec_data.specs.NsecData.{NsecData, nsec_octets}
use Rattle.denial_data.specs.Protos.{numbers_octets}
use Rattle.denial_data.specs.RrsigData.{RrsigData, rrsig_octets}
use Rattle.denial_data.specs.Signatures.{rrsig_part, signer_part}
use Rattle.denial_data.proofs.Sizes.{numbers_long}
use Rattle.denial_data.proofs.WrittenEnds.{last_rest, last_bitmap, last_two, last_limited, last_data, written_counted}

pub ended : (head rest : List ℕ) → length head ≡ 4 → length (head ++ rest) ≤ 65535 → IsReadBack ended_part (head ++ rest)
ended head rest h few =
    last_data ended_part (head ++ rest)
    (last_limited (two_parts (octets_part 4) rest_part) (head ++ rest) few (last_two (octets_part 4) rest_part head rest (written_octets 4 head h) (last_rest rest)))

pub written_dnskey : (k : Dnskey) → length (dnskey_data k) ≤ 65535 → IsReadBack ended_part (dnskey_data k)
written_dnskey k few = ended (dnskey_head k) k.octets refl few

pub written_ds : (d : Ds) → length (ds_data d) ≤ 65535 → IsReadBack ended_part (ds_data d)
written_ds d few = ended (ds_head d) d.digest refl few

pub written_rrsig : (d : RrsigData Name) → IsName d.proto.signer_name → length (rrsig_octets (λ n. n) d) ≤ 65535 → IsReadBack rrsig_part (rrsig_octets (λ n. n) d)
written_rrsig d n few =
    let head = numbers_octets d.proto.numbers in
    let rest = wire d.proto.signer_name ++ d.signature in
    last_data rrsig_part (head ++ rest)
    (last_limited (two_parts (octets_part 18) signer_part) (head ++ rest) few
    (last_two (octets_part 18) signer_part head rest (written_octets 18 head (numbers_long d.proto.numbers))
    (last_two name_part rest_part (wire d.proto.signer_name) d.signature (written_name d.proto.signer_name n) (last_rest d.signature))))

pub written_nsec : (d : NsecData Name) → IsName d.next_name → is_bitmap d.types ≡ true → length (nsec_octets (λ n. n) d) ≤ 65535 → IsReadBack nsec_part (nsec_octets (λ n. n) d)
written_nsec d n b few =
    last_data nsec_part (wire d.next_name ++ d.types)
    (last_limited (two_parts name_part bitmap_part) (wire d.next_name ++ d.types) few
    (last_two name_part bitmap_part (wire d.next_name) d.types (written_name d.next_name n) (last_bitmap d.types b)))

pub written_nsec3 : (d : Nsec3Data) → is_bitmap d.types ≡ true → length (nsec3_octets d) ≤ 65535 → IsReadBack nsec3_part (nsec3_octets d)
written_nsec3 d b few =
    let params = nsec3param_octets d.params in
    let tail = counted d.next_owner ++ d.types in
    last_data nsec3_part (params ++ tail)
    (last_limited (two_parts nsec3param_part tail_part) (params ++ tail) few
    (last_two nsec3param_part tail_part params tail
    (written_two (octets_part 4) counted_part (nsec3param_head d.params) (counted d.params.salt) (written_octets 4 (nsec3param_head d.params) refl) (written_counted d.params.salt))
    (last_two counted_part bitmap_part (counted d.next_owner) d.types (written_counted d.next_owner) (last_bitmap d.types b))))

pub written_nsec3param : (d : Nsec3paramData) → IsReadBack nsec3param_part (nsec3param_octets d)
written_nsec3param d =
    written_data nsec3param_part (nsec3param_octets d)
    (written_two (octets_part 4) counted_part (nsec3param_head d) (counted d.salt) (written_octets 4 (nsec3param_head d) refl) (written_counted d.salt))
