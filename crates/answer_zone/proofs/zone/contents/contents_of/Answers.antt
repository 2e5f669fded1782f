use Rattle.std.proofs.Common.{◌≡◌, map, None}
use Rattle.messages.specs.HandedRr.{handed_of}
use Rattle.answer_terms.specs.Accepted.{IsAccepted}
use Rattle.answer_terms.specs.ModeView.{mode_of}
use Rattle.answer_terms.proofs.ZoneData.{if_ok_map}
use Rattle.answer_zone_records.specs.AliasFaults.{IsChained, RefusesPlainList}
use Rattle.answer_zone_records.specs.Faults.{RefusesZone, first_fault}
use Rattle.answer_zone_records.proofs.ZoneFaults.{faultless, plain_list}
use Rattle.answer_zone_records.proofs.ZoneMade.{accepted, if_err_more, refused}
use Rattle.answer_zone.proofs.zone.contents.contents_of.Goals as goal

pub contents_in_order-requires : goal.contents_in_order-requires
contents_in_order-requires g c =
    let apex = c.args.apex.now in
    let mode = mode_of c.args.mode.now in
    let rs = map handed_of c.args.records.items in
    let none : first_fault apex mode c.args.limit rs ≡ None = cc in
    plain_list apex mode c.args.limit rs (faultless apex mode c.args.limit rs none)

pub returns-clause-accepted : goal.returns-clause-accepted
returns-clause-accepted g c =
    let apex = c.args.apex.now in
    let mode = mode_of c.args.mode.now in
    let rs = map handed_of c.args.records.items in
    let hash = g.H.Nsec3Hasher.hash_of c.args.hasher.now in
    let none : first_fault apex mode c.args.limit rs ≡ None = cc in
    if_ok_map (λ _. IsChained hash apex mode rs) (λ _. IsAccepted hash apex mode c.args.limit rs) c.contents_in_order.result (λ _ h. accepted hash apex mode c.args.limit rs none h) c.contents_in_order.ensures.chained

pub returns-clause-fault : goal.returns-clause-fault
returns-clause-fault g c =
    let apex = c.args.apex.now in
    let mode = mode_of c.args.mode.now in
    let rs = map handed_of c.args.records.items in
    let hash = g.H.Nsec3Hasher.hash_of c.args.hasher.now in
    let none : first_fault apex mode c.args.limit rs ≡ None = cc in
    if_err_more (RefusesPlainList hash apex mode rs) (RefusesZone hash apex mode c.args.limit rs) c.contents_in_order.result (refused hash apex mode c.args.limit rs none) c.contents_in_order.ensures.fault
