use Rattle.std.proofs.Common.{◌≡◌, map, false, Some, None}
use Rattle.messages.specs.HandedRr.{handed_of}
use Rattle.answer_terms.specs.Accepting.{sorted_records}
use Rattle.answer_terms.specs.ModeView.{mode_of}
use Rattle.answer_zone_records.specs.AliasFaults.{IsAcceptedWithAliases, IsChained, RefusesPlainList, RefusesZoneWithAliases, first_plain_fault, has_disorder}
use Rattle.answer_zone_records.proofs.ZoneFaults.{plainly, refused_plainly}
use Rattle.answer_zone_records.proofs.ZoneMade.{accepted_with_aliases, if_err_more, if_ok_both, refused_with_aliases}
use Rattle.answer_zone.proofs.zone.aliases.contents_with_aliases.Goals as goal

pub returns-in-Some-clause-fault : goal.returns-in-Some-clause-fault
returns-in-Some-clause-fault g c =
    let apex = c.args.apex.now in
    let mode = mode_of c.args.mode.now in
    let rs = map handed_of c.args.records.items in
    let hash = g.H.Nsec3Hasher.hash_of c.args.hasher.now in
    let some : first_plain_fault apex mode c.args.limit rs ≡ Some c.in-Some.fault = cc in
    refused_plainly hash apex mode c.args.limit rs c.in-Some.fault some

pub contents_in_order-requires : goal.contents_in_order-requires
contents_in_order-requires g c =
    let apex = c.args.apex.now in
    let mode = mode_of c.args.mode.now in
    let rs = map handed_of c.args.records.items in
    let none : first_plain_fault apex mode c.args.limit rs ≡ None = cc in
    (plainly apex mode c.args.limit rs none).plain

pub returns-clause-accepted : goal.returns-clause-accepted
returns-clause-accepted g c =
    let apex = c.args.apex.now in
    let mode = mode_of c.args.mode.now in
    let rs = map handed_of c.args.records.items in
    let hash = g.H.Nsec3Hasher.hash_of c.args.hasher.now in
    let none : first_plain_fault apex mode c.args.limit rs ≡ None = cc in
    if_ok_both (λ _. has_disorder apex (sorted_records rs) ≡ false) (λ _. IsChained hash apex mode rs) (λ _. IsAcceptedWithAliases hash apex mode c.args.limit rs) c.contents_in_order.result
    (λ _ o h. accepted_with_aliases hash apex mode c.args.limit rs none o h) c.contents_in_order.ensures.orderly c.contents_in_order.ensures.chained

pub returns-clause-fault : goal.returns-clause-fault
returns-clause-fault g c =
    let apex = c.args.apex.now in
    let mode = mode_of c.args.mode.now in
    let rs = map handed_of c.args.records.items in
    let hash = g.H.Nsec3Hasher.hash_of c.args.hasher.now in
    let none : first_plain_fault apex mode c.args.limit rs ≡ None = cc in
    if_err_more (RefusesPlainList hash apex mode rs) (RefusesZoneWithAliases hash apex mode c.args.limit rs) c.contents_in_order.result (refused_with_aliases hash apex mode c.args.limit rs none) c.contents_in_order.ensures.fault
