use Rattle.std.proofs.Common.{◌≡◌, ◌∙◌, List, map, ap, sym, rules}
use Rattle.std.specs.Option.{option_map}
use Rattle.messages.specs.HandedRr.{HandedRr, handed_of}
use Rattle.messages.specs.Message.{Spelled}
use Rattle.messages.specs.Record.{spelled}
use Rattle.messages.specs.Written.{Written}
use Rattle.server_queries.specs.Views.{queried_of}
use Rattle.server_responses.specs.Responses.{response_of, truncated_response, whole_response}
use Rattle.server_responses.specs.Sections.{written_as_handed}
use Rattle.server_responses.proofs.Sizes.{when_cut, when_whole}
use Rattle.server_responses.proofs.composing.response.Goals as goal

pub returns-in-Some-clause-octets : goal.returns-in-Some-clause-octets
returns-in-Some-clause-octets c =
    let q = queried_of c.args.query.now in
    let m = c.args.message.now in
    let rs : List Spelled = map spelled c.deref.result.now in
    let added : List HandedRr = map (λ r. handed_of r.now) c.args.additional.now in
    let more : List Written = map written_as_handed added in
    let records : rs ≡ c.in-Ok._view.records = search rules in
    let found = ap (option_map (λ v. v.items)) (sym c.in-Some.is) ∙ c.in_ok-found.ensures in
    let is : c.in-Some.whole.items ≡ response_of c.args.sizes.limit c.args.sizes.udp_size q m rs more =
    when_whole c.args.sizes.limit (whole_response c.args.sizes.udp_size q m rs more) (truncated_response c.args.sizes.udp_size q m) c.in-Some.whole.items found in
    (c.in-Ok._view, c.in-Ok.ensures.exact, is ∙ ap (λ (xs : List Spelled). response_of c.args.sizes.limit c.args.sizes.udp_size q m xs more) records)

pub returns-clause-octets : goal.returns-clause-octets
returns-clause-octets c =
    let q = queried_of c.args.query.now in
    let m = c.args.message.now in
    let rs : List Spelled = map spelled c.deref.result.now in
    let added : List HandedRr = map (λ r. handed_of r.now) c.args.additional.now in
    let more : List Written = map written_as_handed added in
    let records : rs ≡ c.in-Ok._view.records = search rules in
    let found = ap (option_map (λ v. v.items)) (sym c.in_default-found.is) ∙ c.in_ok-found.ensures in
    let cut : c.in_ok-truncated_response.field-0.items ≡ truncated_response c.args.sizes.udp_size q m = search rules in
    let is : truncated_response c.args.sizes.udp_size q m ≡ response_of c.args.sizes.limit c.args.sizes.udp_size q m rs more =
    when_cut c.args.sizes.limit (whole_response c.args.sizes.udp_size q m rs more) (truncated_response c.args.sizes.udp_size q m) found in
    (c.in-Ok._view, c.in-Ok.ensures.exact, cut ∙ is ∙ ap (λ (xs : List Spelled). response_of c.args.sizes.limit c.args.sizes.udp_size q m xs more) records)
