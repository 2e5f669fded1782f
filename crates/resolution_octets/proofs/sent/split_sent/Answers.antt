use Rattle.std.proofs.Common.{◌≡◌, ◌++◌, None, rules}
use Rattle.std.specs.Int.{w16, to_be_bytes}
use Rattle.names_rdata.specs.Composing.{with_length}
use Rattle.answer_judge_octets.specs.Written.{IsLong, IsShort, Splits, with_long_length}
use Rattle.resolution_octets.specs.Sent.{IsTwoOctets}
use Rattle.resolution_octets.proofs.SentSplit.{no_message_part, no_name_part, no_type_part, no_zone_part, some_sent_part}
use Rattle.resolution_octets.proofs.sent.split_sent.Goals as goal

pub returns-in_err-zone : goal.returns-in_err-zone
returns-in_err-zone c =
    let none : Splits IsShort with_length c.args.octets.now None = search rules in
    let there = no_zone_part c.args.octets.now none in search (rules, there)

pub returns-in_err-name : goal.returns-in_err-name
returns-in_err-name c =
    let zone : IsShort c.in_ok-zone.zone.now × (c.args.octets.now ≡ with_length c.in_ok-zone.zone.now ++ c.in_ok-zone.rest.now) = search rules in
    let none : Splits IsShort with_length c.in_ok-zone.rest.now None = search rules in
    let there = no_name_part c.args.octets.now c.in_ok-zone.zone.now c.in_ok-zone.rest.now zone.0 zone.1 none in search (rules, there)

pub returns-in_err-rtype : goal.returns-in_err-rtype
returns-in_err-rtype c =
    let zone : IsShort c.in_ok-zone.zone.now × (c.args.octets.now ≡ with_length c.in_ok-zone.zone.now ++ c.in_ok-zone.rest.now) = search rules in
    let name : IsShort c.in_ok-name.name.now × (c.in_ok-zone.rest.now ≡ with_length c.in_ok-name.name.now ++ c.in_ok-name.rest.now) = search rules in
    let none : Splits IsTwoOctets (to_be_bytes w16) c.in_ok-name.rest.now None = search rules in
    let there = no_type_part c.args.octets.now c.in_ok-zone.zone.now c.in_ok-zone.rest.now zone.0 zone.1 c.in_ok-name.name.now c.in_ok-name.rest.now name.0 name.1 none in
    search (rules, there)

pub returns-in_err-message : goal.returns-in_err-message
returns-in_err-message c =
    let zone : IsShort c.in_ok-zone.zone.now × (c.args.octets.now ≡ with_length c.in_ok-zone.zone.now ++ c.in_ok-zone.rest.now) = search rules in
    let name : IsShort c.in_ok-name.name.now × (c.in_ok-zone.rest.now ≡ with_length c.in_ok-name.name.now ++ c.in_ok-name.rest.now) = search rules in
    let rtype : IsTwoOctets c.in_ok-rtype.rtype × (c.in_ok-name.rest.now ≡ to_be_bytes w16 c.in_ok-rtype.rtype ++ c.in_ok-rtype.rest.now) = search rules in
    let none : Splits IsLong with_long_length c.in_ok-rtype.rest.now None = search rules in
    let there =
    no_message_part c.args.octets.now c.in_ok-zone.zone.now c.in_ok-zone.rest.now zone.0 zone.1 c.in_ok-name.name.now c.in_ok-name.rest.now name.0 name.1
    c.in_ok-rtype.rtype c.in_ok-rtype.rest.now rtype.0 rtype.1 none in
    search (rules, there)

pub returns : goal.returns
returns c =
    let zone : IsShort c.in_ok-zone.zone.now × (c.args.octets.now ≡ with_length c.in_ok-zone.zone.now ++ c.in_ok-zone.rest.now) = search rules in
    let name : IsShort c.in_ok-name.name.now × (c.in_ok-zone.rest.now ≡ with_length c.in_ok-name.name.now ++ c.in_ok-name.rest.now) = search rules in
    let rtype : IsTwoOctets c.in_ok-rtype.rtype × (c.in_ok-name.rest.now ≡ to_be_bytes w16 c.in_ok-rtype.rtype ++ c.in_ok-rtype.rest.now) = search rules in
    let message : IsLong c.in_ok-message.message.now × (c.in_ok-rtype.rest.now ≡ with_long_length c.in_ok-message.message.now ++ c.in_ok-message.behind.now) = search rules in
    some_sent_part c.args.octets.now c.in_ok-zone.zone.now c.in_ok-zone.rest.now zone.0 zone.1 c.in_ok-name.name.now c.in_ok-name.rest.now name.0 name.1
    c.in_ok-rtype.rtype c.in_ok-rtype.rest.now rtype.0 rtype.1 c.in_ok-message.message.now c.in_ok-message.behind.now message.0 message.1
