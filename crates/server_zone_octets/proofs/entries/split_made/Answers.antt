use Rattle.std.proofs.Common.{◌≡◌, ◌++◌, Some, None, rules}
use Rattle.names_rdata.specs.Composing.{with_length}
use Rattle.definitions.specs.Dnskey.{dnskey_of_data}
use Rattle.answer_judge_octets.specs.Written.{IsLong, IsShort, Splits, with_long_length}
use Rattle.answer_judge_octets.proofs.EntriesSplit.{key_is}
use Rattle.server_zone_octets.proofs.EntriesMade.{no_key_part, no_octets_part, no_signature_part, some_made_part}
use Rattle.server_zone_octets.proofs.entries.split_made.Goals as goal

pub returns-in_err-rdata : goal.returns-in_err-rdata
returns-in_err-rdata c =
    let none : Splits IsShort with_length c.args.octets.now None = search rules in
    let there = no_key_part c.args.octets.now none in search (rules, there)

pub returns-in_err-signed : goal.returns-in_err-signed
returns-in_err-signed c =
    let key : IsShort c.in_ok-rdata.rdata.now × (c.args.octets.now ≡ with_length c.in_ok-rdata.rdata.now ++ c.in_ok-rdata.rest.now) = search rules in
    let none : Splits IsLong with_long_length c.in_ok-rdata.rest.now None = search rules in
    let there = no_octets_part c.args.octets.now c.in_ok-rdata.rdata.now c.in_ok-rdata.rest.now key.0 key.1 none in search (rules, there)

pub returns-in_err-signature : goal.returns-in_err-signature
returns-in_err-signature c =
    let key : IsShort c.in_ok-rdata.rdata.now × (c.args.octets.now ≡ with_length c.in_ok-rdata.rdata.now ++ c.in_ok-rdata.rest.now) = search rules in
    let signed : IsLong c.in_ok-signed.signed.now × (c.in_ok-rdata.rest.now ≡ with_long_length c.in_ok-signed.signed.now ++ c.in_ok-signed.rest.now) = search rules in
    let none : Splits IsShort with_length c.in_ok-signed.rest.now None = search rules in
    let there = no_signature_part c.args.octets.now c.in_ok-rdata.rdata.now c.in_ok-rdata.rest.now key.0 key.1 c.in_ok-signed.signed.now c.in_ok-signed.rest.now signed.0 signed.1 none in
    search (rules, there)

pub returns : goal.returns
returns c =
    let key : IsShort c.in_ok-rdata.rdata.now × (c.args.octets.now ≡ with_length c.in_ok-rdata.rdata.now ++ c.in_ok-rdata.rest.now) = search rules in
    let signed : IsLong c.in_ok-signed.signed.now × (c.in_ok-rdata.rest.now ≡ with_long_length c.in_ok-signed.signed.now ++ c.in_ok-signed.rest.now) = search rules in
    let signature : IsShort c.in_ok-signature.signature.now × (c.in_ok-signed.rest.now ≡ with_length c.in_ok-signature.signature.now ++ c.in_ok-signature.behind.now) = search rules in
    let spelled : Some c.in_ok-key.key ≡ dnskey_of_data c.in_ok-rdata.rdata.now = search rules in
    let is_key = key_is c.args.octets.now c.in_ok-rdata.rdata.now c.in_ok-rdata.rest.now c.in_ok-key.key (λ i. (c.type_inv.octets i).fits) key.0 key.1 spelled in
    some_made_part c.args.octets.now c.in_ok-rdata.rdata.now c.in_ok-rdata.rest.now key.0 key.1 c.in_ok-signed.signed.now c.in_ok-signed.rest.now signed.0 signed.1
    c.in_ok-signature.signature.now c.in_ok-signature.behind.now c.in_ok-key.key signature.0 signature.1 is_key
