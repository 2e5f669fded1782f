use Rattle.std.proofs.Common.{◌≡◌, List, length, rules, subst, sym}
use Rattle.answer_findings.specs.Found.{IsFound, IsFoundWithin}
use Rattle.answer_findings.specs.Seen.{seen}
use Rattle.answer_findings.specs.Table.{Checked}
use Rattle.answer_findings.specs.Truth.{FindsTruly}
use Rattle.answer_judge_octets.specs.Places.{SaysOwn, octets_in_front}
use Rattle.answer_judge_octets.specs.Replying.{AsksOrStops, are_too_many, counted, found_reply, reply_seen}
use Rattle.answer_judge_octets.proofs.OwnVerdicts.{found_says}
use Rattle.answer_judge_octets.proofs.PlacesInFront.{says_asks, says_places}
use Rattle.answer_judge_octets.proofs.octets.judged_reply.Goals as goal

pub octets_in_front-requires : goal.octets_in_front-requires
octets_in_front-requires g c =
    let h = c.args.judge_case.now in
    let table = c.args.read.now.table.items in
    let finds = c.in-Means in
    let found : IsFound table h c.in_ok-meaning.field-0 = search rules in
    subst (λ (t : List Checked). SaysOwn t h (seen finds.meaning)) (sym c.deref-in-Means.ensures.value)
    (found_says table h finds.meaning c.in_ok-meaning.field-0 finds.validity finds.verifications finds.hashes finds.is found)

pub returns-in_ok-octets_in_front-in-Means-clause-says : goal.returns-in_ok-octets_in_front-in-Means-clause-says
returns-in_ok-octets_in_front-in-Means-clause-says g c =
    let case = c.args.case.now in
    let read = c.args.read.now in
    let h = c.args.judge_case.now in
    let table = read.table.items in
    let finds = c.in-Means in
    let found : IsFound table h c.in_ok-meaning.field-0 = search rules in
    let honest : FindsTruly table h c.in_ok-meaning.field-0 = search rules in
    let within : IsFoundWithin h c.in_ok-meaning.field-0 = search rules in
    let front : c.in_ok-octets_in_front-in-Means.field-0.items ≡ octets_in_front table h (seen finds.meaning) = search rules in
    let said : reply_seen c.counted-reply.result ≡ counted finds.verifications finds.hashes (found_reply case.moment read.error (seen finds.meaning) finds.validity) = search rules in
    says_places case read.error read.places h table finds.meaning finds.validity finds.verifications finds.hashes
    c.in_ok-octets_in_front-in-Means.field-0.items (reply_seen c.counted-reply.result) c.behind.result c.in_ok-meaning.field-0
    c.if-not-read.false finds.is found honest within front said c.behind.ensures

pub returns-in_ok-reply_of_asks-in-Asks-clause-says : goal.returns-in_ok-reply_of_asks-in-Asks-clause-says
returns-in_ok-reply_of_asks-in-Asks-clause-says g c =
    let case = c.args.case.now in
    let read = c.args.read.now in
    let h = c.args.judge_case.now in
    let table = read.table.items in
    let asks = c.in-Asks in
    let found : IsFound table h c.in_ok-meaning.field-0 = search rules in
    let honest : FindsTruly table h c.in_ok-meaning.field-0 = search rules in
    let within : IsFoundWithin h c.in_ok-meaning.field-0 = search rules in
    let stops = c.are_too_many-stops.result in
    let reply = reply_seen c.in_ok-reply_of_asks-in-Asks.field-0 in
    let many : stops ≡ are_too_many case.max_signatures h table (length asks.asks.items) = search rules in
    let asked : AsksOrStops stops asks.asks.items reply = search rules in
    let counts : reply_seen c.counted-in-Asks.result ≡ counted asks.verifications asks.hashes reply = search rules in
    says_asks case read.error read.places h table asks.asks asks.verifications asks.hashes stops reply (reply_seen c.counted-in-Asks.result) c.in_ok-meaning.field-0
    asks.is found honest within many asked counts
