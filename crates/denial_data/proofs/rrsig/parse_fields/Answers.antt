use Rattle.std.proofs.Common.{◌++◌, refl, sym, ap, ◌∙◌, Ok, Err}
use Rattle.std.proofs.lemmas.Bool.{false≢true}
use Rattle.std.proofs.lemmas.Result.{err_from_is_err_and}
use Rattle.definitions.specs.Name.{wire}
use Rattle.names_parsed.specs.Heads.{fault_of}
use Rattle.names_parsed.specs.Parsed.{parsed_name}
use Rattle.names_rdata.specs.Reading.{octets_part, if_short, two_parts}
use Rattle.names_rdata.proofs.Parts.{then_ok, then_err, went_on}
use Rattle.names_rdata.proofs.PartCalls.{has_text}
use Rattle.denial_data.specs.declared.proto_rrsig.Numbers.{Numbers}
use Rattle.denial_data.specs.declared.proto_rrsig.ProtoRrsig.{ProtoRrsig}
use Rattle.denial_data.specs.RrsigData.{rrsig_with, rrsig_octets}
use Rattle.denial_data.specs.Signatures.{signer_part}
use Rattle.denial_data.proofs.Sizes.{limited_ok, limited_long}
use Rattle.denial_data.proofs.rrsig.parse_fields.Goals as goal

abbrev proto_with : {N : Type 0} → Numbers → N → ProtoRrsig N
proto_with numbers signer = record { numbers = numbers; signer_name = signer }

pub returns-in_err-signer_name : goal.returns-in_err-signer_name
returns-in_err-signer_name c =
    let p = err_from_is_err_and c.from_residual-in_err-signer_name.result c.from_residual-in_err-signer_name.ensures.1 in
    let old = c.args.parser.now in
    let mid = c.parse_array.new.parser in
    let a = c.in_ok-parse_array.ensures.read in
    let b = c.in_err-signer_name.ensures in
    rw (p.1, p.2) (
      ap if_short (then_err (octets_part 18) signer_part old mid c.in_ok-parse_array.field-0 (fault_of c.in_err-signer_name.field-0.0) a.1 a.0 b.0),
      went_on old mid c.parse_signer.new.parser a.1 b.1,
    )

pub returns-in_err-from_parts : goal.returns-in_err-from_parts
returns-in_err-from_parts c =
    let p = err_from_is_err_and c.from_residual-in_err-from_parts.result c.from_residual-in_err-from_parts.ensures.1 in
    let old = c.args.parser.now in
    let mid = c.parse_array.new.parser in
    let new = c.parse_signer.new.parser in
    let a = c.in_ok-parse_array.ensures.read in
    let b = c.in_ok-signer_name.ensures in
    let numbers = c.of_octets-numbers.result in
    let signer = c.in_ok-signer_name.signer_name in
    let signature = c.in_ok-signer_name.signature.now in
    let d = rrsig_with (proto_with numbers signer) signature in
    let read = then_ok (octets_part 18) signer_part old mid c.in_ok-parse_array.field-0 (wire (parsed_name signer) ++ signature) new.place a.1 a.0 b.0 in
    let whole = read ∙ ap (λ x. Ok (x ++ (wire (parsed_name signer) ++ signature), new.place)) (sym c.of_octets-numbers.ensures) in
    rw p.1 (
      limited_long (two_parts (octets_part 18) signer_part) parsed_name d old.octets old.place old.end new.place whole (λ h. false≢true (c.in_err-from_parts.ensures.accepts.1 h))
          ∙ ap Err (sym (has_text p.0 _ p.2)),
      went_on old mid new a.1 b.1,
    )

pub returns : goal.returns
returns c =
    let old = c.args.parser.now in
    let mid = c.parse_array.new.parser in
    let new = c.parse_signer.new.parser in
    let a = c.in_ok-parse_array.ensures.read in
    let b = c.in_ok-signer_name.ensures in
    let numbers = c.of_octets-numbers.result in
    let signer = c.in_ok-signer_name.signer_name in
    let signature = c.in_ok-signer_name.signature.now in
    let d = rrsig_with (proto_with numbers signer) signature in
    let read = then_ok (octets_part 18) signer_part old mid c.in_ok-parse_array.field-0 (wire (parsed_name signer) ++ signature) new.place a.1 a.0 b.0 in
    let whole = read ∙ ap (λ x. Ok (x ++ (wire (parsed_name signer) ++ signature), new.place)) (sym c.of_octets-numbers.ensures) in (
      limited_ok (two_parts (octets_part 18) signer_part) parsed_name d old.octets old.place old.end new.place whole (c.in_ok-from_parts.ensures.accepts.0 refl)
          ∙ ap (λ x. Ok (rrsig_octets parsed_name x, new.place)) (sym c.in_ok-from_parts.ensures.ok),
      went_on old mid new a.1 b.1,
    )
