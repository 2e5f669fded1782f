-- What is read of a record's data is what is defined.
use Rattle.std.proofs.Common.{◌≡◌, ℕ, ◌+◌, ◌-◌, ◌≤◌, None, List, [], ◌++◌, length, take, drop, Some, Ok, Err, sym, subst, ap, ◌∙◌, append_assoc, arith}
use Rattle.std.specs.Prelude.{slice_range}
use Rattle.std.proofs.lemmas.List.{length-take-le, length-drop, take-append-drop}
use Rattle.definitions.specs.Name.{Name, IsName, wire, low}
use Rattle.definitions.specs.Limits.{pointer_limit}
use Rattle.definitions.specs.Reading.{ReadFault}
use Rattle.definitions.proofs.SignedLaws.{wire_of}
use Rattle.messages.proofs.ReadNames.{labelled}
use Rattle.names_rdata.specs.Reading.{data_at, name_part}
use Rattle.names_parsed.specs.Parsed.{parsed_name}
use Rattle.names_parsed.specs.declared.parsed.ParsedName.{ParsedName}
use Rattle.plain.specs.declared.ns.Ns.{Ns}
use Rattle.plain.specs.declared.soa.Soa.{Soa}
use Rattle.plain.specs.Ns.{ns_octets, ns_canonical}
use Rattle.plain.specs.Soa.{soa_part, soa_octets, soa_canonical, times_octets}
use Rattle.denial_data.specs.Nsec.{nsec_part}
use Rattle.denial_data.specs.NsecData.{NsecData, nsec_octets}
use Rattle.denial_data.specs.EqualData.{NumbersFit}
use Rattle.denial_data.specs.Protos.{numbers_octets}
use Rattle.denial_data.specs.RrsigData.{rrsig_octets}
use Rattle.denial_data.specs.Signatures.{rrsig_part}
use Rattle.denial_data.proofs.Sizes.{numbers_long}
use Rattle.denial_data.proofs.Told.{parts}
use Rattle.messages.specs.Message.{Spelled, fits, if_true, name_in, name_upto, ns_data, nsec_at, rrsig_at, rrsig_fields, soa_data}
use Rattle.messages.specs.Message as message
use Rattle.messages.specs.Record.{Signature, fields_read, link_of, reader_of, signature_of}
use Rattle.messages.proofs.DataParts.{LinkIs, NsIs, SignatureIs, SoaIs, matched, unmatched, ns_matches, soa_matches, link_matches, signature_matches}
use Rattle.messages.proofs.MessageSignatures.{numbers_here, numbers_then}
use Rattle.messages.proofs.MessageWritten.{StandsAt}

-- ---- data that were read

pub ns_found : (m : List ℕ) (r : Spelled) (d : Ns ParsedName) → message.behind r ≤ length m → IsName (parsed_name d.nsdname) → data_at name_part (reader_of m r) ≡ Ok (ns_octets parsed_name d) → ns_data pointer_limit m r ≡ Some (ns_canonical parsed_name d)
ns_found m r d inside name found =
    let n = parsed_name d.nsdname in
    let x = matched NsIs (data_at name_part (reader_of m r)) (ns_data pointer_limit m r) (ns_octets parsed_name d) (ns_matches m r inside) found in
    let octets : wire n ++ [] ≡ wire x.2.name ++ [] = ap (λ l. l ++ []) x.2.octets_are in
    let one = wire_of n x.2.name [] [] (labelled n name.labels) x.2.labelled octets in
    x.1 ∙ ap Some (x.2.canonical_is ∙ ap (λ k. wire (low k)) (sym one.0))

pub soa_found : (m : List ℕ) (r : Spelled) (d : Soa ParsedName) → message.behind r ≤ length m → IsName (parsed_name d.mname) → IsName (parsed_name d.rname) → data_at soa_part (reader_of m r) ≡ Ok (soa_octets parsed_name d) → soa_data pointer_limit m r ≡ Some (soa_canonical parsed_name d)
soa_found m r d inside first second found =
    let a = parsed_name d.mname in
    let b = parsed_name d.rname in
    let t = times_octets d.times in
    let x = matched SoaIs (data_at soa_part (reader_of m r)) (soa_data pointer_limit m r) (soa_octets parsed_name d) (soa_matches m r inside) found in
    let s = x.2 in
    let one = wire_of a s.mname (wire b ++ t) (wire s.rname ++ s.numbers) (labelled a first.labels) s.mname_labelled s.octets_are in
    let two = wire_of b s.rname t s.numbers (labelled b second.labels) s.rname_labelled one.1 in
    x.1 ∙ ap Some (
    s.canonical_is ∙ (λ i. wire (low (sym one.0 i)) ++ wire (low (sym two.0 i)) ++ sym two.1 i)
    ∙ append_assoc (wire (low a)) (wire (low b)) t
    )

pub link_found : (m : List ℕ) (r : Spelled) (d : NsecData ParsedName) → message.behind r ≤ length m → IsName (parsed_name d.next_name) → data_at nsec_part (reader_of m r) ≡ Ok (nsec_octets parsed_name d) → nsec_at pointer_limit m r ≡ Some (link_of d)
link_found m r d inside name found =
    let n = parsed_name d.next_name in
    let x = matched LinkIs (data_at nsec_part (reader_of m r)) (nsec_at pointer_limit m r) (nsec_octets parsed_name d) (link_matches m r inside) found in
    let one = wire_of n x.0.0 d.types x.0.1 (labelled n name.labels) x.2.labelled x.2.octets_are in
    x.1 ∙ (λ i. Some (sym one.0 i, sym one.1 i))

-- so many octets from a place on, and those behind them
stands_there : (m : List ℕ) (start n : ℕ) → start + n ≤ length m → StandsAt m start (slice_range m start (start + n) ++ drop n (drop start m))
stands_there m start n h =
    let few : start + n - start ≡ n = omega arith in
    let whole : take start m ++ (take n (drop start m) ++ drop n (drop start m)) ≡ m = ap (λ l. take start m ++ l) (take-append-drop n (drop start m)) ∙ take-append-drop start m in
    record {
      front = take start m;
      whole = sym whole ∙ ap (λ k. take start m ++ (take k (drop start m) ++ drop n (drop start m))) (sym few);
      place = sym (length-take-le start m (omega (arith, h)));
    }

range_long : (m : List ℕ) (start n : ℕ) → start + n ≤ length m → length (slice_range m start (start + n)) ≡ n
range_long m start n h = length-take-le (start + n - start) (drop start m) (omega (arith, length-drop start m, h)) ∙ omega arith

fields_there : (m : List ℕ) (start : ℕ) (s : Signature) (signer : Name) → start + 18 ≤ length m → NumbersFit s.proto.numbers → IsName (parsed_name s.proto.signer_name) → slice_range m start (start + 18) ≡ numbers_octets s.proto.numbers → rrsig_fields m start signer ≡ record (fields_read s) { signer = signer }
unfolding numbers_octets
fields_there m start s signer inside fit name same =
    let rest = drop 18 (drop start m) in
    let stands : StandsAt m start (numbers_then (fields_read s) rest) = subst (λ l. StandsAt m start (l ++ rest)) same (stands_there m start 18 inside) in
    numbers_here m start (fields_read s) rest signer
    (record { covered = fit.type_covered; ttl = fit.original_ttl; expiration = fit.expiration; inception = fit.inception; tag = fit.key_tag; signer = name }) stands

pub signature_found : (m : List ℕ) (r : Spelled) (s : Signature) → message.behind r ≤ length m → NumbersFit s.proto.numbers → IsName (parsed_name s.proto.signer_name) → data_at rrsig_part (reader_of m r) ≡ Ok (rrsig_octets parsed_name s) → rrsig_at pointer_limit m r ≡ Some (signature_of s)
signature_found m r s inside fit name found =
    let start = r.start in
    let n = parsed_name s.proto.signer_name in
    let numbers = numbers_octets s.proto.numbers in
    let x = matched (SignatureIs m start (message.behind r)) (data_at rrsig_part (reader_of m r)) (rrsig_at pointer_limit m r) (rrsig_octets parsed_name s) (signature_matches m r inside) found in
    let is = x.2 in
    let there : start + 18 ≤ length m = omega (arith, is.there, inside) in
    let halves = parts numbers (slice_range m start (start + 18)) (wire n ++ s.signature) (wire is.signer ++ x.0.1) (numbers_long s.proto.numbers ∙ sym (range_long m start 18 there)) is.octets_are in
    let one = wire_of n is.signer s.signature x.0.1 (labelled n name.labels) is.labelled halves.1 in
    let fields : x.0.0 ≡ (signature_of s).0 = is.fields_are ∙ ap (λ k. rrsig_fields m start (low k)) (sym one.0) ∙ fields_there m start s (low n) there fit name (sym halves.0) in
    x.1 ∙ (λ i. Some (fields i, sym one.1 i))

-- ---- data that do not read

pub ns_unread : (m : List ℕ) (r : Spelled) (f : ReadFault) → message.behind r ≤ length m → data_at name_part (reader_of m r) ≡ Err f → ns_data pointer_limit m r ≡ None
ns_unread m r f inside h = unmatched NsIs (data_at name_part (reader_of m r)) (ns_data pointer_limit m r) f (ns_matches m r inside) h

pub soa_unread : (m : List ℕ) (r : Spelled) (f : ReadFault) → message.behind r ≤ length m → data_at soa_part (reader_of m r) ≡ Err f → soa_data pointer_limit m r ≡ None
soa_unread m r f inside h = unmatched SoaIs (data_at soa_part (reader_of m r)) (soa_data pointer_limit m r) f (soa_matches m r inside) h

pub link_unread : (m : List ℕ) (r : Spelled) (f : ReadFault) → message.behind r ≤ length m → data_at nsec_part (reader_of m r) ≡ Err f → nsec_at pointer_limit m r ≡ None
link_unread m r f inside h = unmatched LinkIs (data_at nsec_part (reader_of m r)) (nsec_at pointer_limit m r) f (link_matches m r inside) h

pub signature_unread : (m : List ℕ) (r : Spelled) (f : ReadFault) → message.behind r ≤ length m → data_at rrsig_part (reader_of m r) ≡ Err f → rrsig_at pointer_limit m r ≡ None
signature_unread m r f inside h = unmatched (SignatureIs m r.start (message.behind r)) (data_at rrsig_part (reader_of m r)) (rrsig_at pointer_limit m r) f (signature_matches m r inside) h
