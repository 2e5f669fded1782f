use Rattle.std.proofs.Common.{◌≡◌, ◌++◌, ℕ, false, length, List, map, subst, rules}
use Rattle.std.specs.Prelude.{IfOk}
use Rattle.std.specs.List.{flat_map}
use Rattle.messages.specs.HandedRr.{HandedRr, handed_of}
use Rattle.messages.specs.Message.{pair}
use Rattle.messages.specs.Record.{spelled}
use Rattle.messages.specs.Written.{Written, record_octets}
use Rattle.server_queries.specs.Views.{queried_of}
use Rattle.server_responses.specs.Responses.{answers_shown, authority_shown, counted, reply_octets, response_flags}
use Rattle.server_responses.specs.Sections.{written_as_handed}
use Rattle.server_responses.proofs.Parts.{length_both}
use Rattle.server_responses.proofs.composing.whole_response.Goals as goal

pub returns : goal.returns
returns c =
    let q = queried_of c.args.query.now in
    let m = c.args.message.now in
    let rs = map spelled c.args.records.now in
    let answers = answers_shown q m rs in
    let authority = authority_shown q m rs in
    let added : List HandedRr = map (λ r. handed_of r.now) c.args.additional.now in
    let more : List Written = map written_as_handed added in
    let flags_are : c.response_flags-flags.result ≡ response_flags q.header (pair m 2) false = search rules in
    let count : c.in_ok-answers.answers ≡ length answers = c.in_ok-answers.ensures.count in
    let other : c.in_ok-authority.authority ≡ length authority = c.in_ok-authority.ensures.count in
    let third : length c.args.additional.now ≡ length more = length_both (λ r. handed_of r.now) written_as_handed c.args.additional.now in
    let octets : c.push_additional.new.out.items ≡ flat_map record_octets answers ++ flat_map record_octets authority ++ flat_map record_octets more = search rules in
    let is : reply_octets c.args.udp_size q c.response_flags-flags.result (counted c.in_ok-answers.answers c.in_ok-authority.authority (length c.args.additional.now)) c.push_additional.new.out.items
    ≡ reply_octets c.args.udp_size q (response_flags q.header (pair m 2) false) (counted (length answers) (length authority) (length more)) (flat_map record_octets answers ++ flat_map record_octets authority ++ flat_map record_octets more) =
    λ i. reply_octets c.args.udp_size q (flags_are i) (counted (count i) (other i) (third i)) (octets i) in
    let made : IfOk c.reply_octets.result (λ v. v.items ≡ reply_octets c.args.udp_size q c.response_flags-flags.result (counted c.in_ok-answers.answers c.in_ok-authority.authority (length c.args.additional.now)) c.push_additional.new.out.items) = search rules in
    subst (λ (x : List ℕ). IfOk c.reply_octets.result (λ v. v.items ≡ x)) is made
