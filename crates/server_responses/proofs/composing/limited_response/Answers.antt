use Rattle.std.proofs.Common.{◌≡◌, ◌<◌, Bool, false, None, Some, List, length, map, nat_le, ap, arith, rules, sym}
use Rattle.std.specs.Prelude.{if◌then◌else◌}
use Rattle.std.proofs.lemmas.Bool.{lt-leb}
use Rattle.messages.specs.HandedRr.{HandedRr, handed_of}
use Rattle.messages.specs.Record.{spelled}
use Rattle.messages.specs.Written.{Written}
use Rattle.server_queries.specs.Views.{queried_of}
use Rattle.server_responses.specs.Responses.{whole_response}
use Rattle.server_responses.specs.Sections.{written_as_handed}
use Rattle.server_responses.proofs.Parts.{length_both}
use Rattle.server_responses.proofs.Sizes.{too_many}
use Rattle.server_responses.proofs.composing.limited_response.Goals as goal

pub returns-then-additional-gt-MOST_RECORDS : goal.returns-then-additional-gt-MOST_RECORDS
returns-then-additional-gt-MOST_RECORDS c =
    let q = queried_of c.args.query.now in
    let m = c.args.message.now in
    let rs = map spelled c.args.records.now in
    let added : List HandedRr = map (λ r. handed_of r.now) c.args.additional.now in
    let more : List Written = map written_as_handed added in
    let whole = whole_response c.args.sizes.udp_size q m rs more in
    let third : length c.args.additional.now ≡ length more = length_both (λ r. handed_of r.now) written_as_handed c.args.additional.now in
    let many : 5957 < length more = omega (arith, c.if-additional-gt-MOST_RECORDS.true, third) in
    let long : 65535 < length whole = too_many c.args.sizes.udp_size q m rs more many in
    let fits : c.args.sizes.limit < 65536 = search rules in
    let over : nat_le (length whole) c.args.sizes.limit ≡ false = lt-leb (length whole) c.args.sizes.limit (omega (arith, long, fits)) in
    ap (λ (b : Bool). if b then Some whole else None) (sym over)
