use Rattle.std.proofs.Common.{◌≡◌, ◌<◌, ◌≤◌, false, ap, arith, length, map, rules, subst}
use Rattle.std.specs.Prelude.{IfOk}
use Rattle.messages.specs.Message.{pair}
use Rattle.messages.specs.Record.{spelled}
use Rattle.server_queries.specs.Views.{queried_of}
use Rattle.server_responses.specs.RedirectViews.{redirected_as}
use Rattle.server_responses.specs.Redirects.{redirect_flags, whole_redirect}
use Rattle.server_responses.specs.Responses.{answers_shown, response_flags}
use Rattle.server_responses.proofs.Redirected.{cut, few_made, few_records, shown_in, whole_is, written}
use Rattle.server_responses.proofs.redirects.limited_redirect.Goals as goal

pub overflow_add-counts : goal.overflow_add-counts
overflow_add-counts c =
    let q = queried_of c.args.query.now in
    let m = c.args.message.now in
    let rs = map spelled c.args.records.now in
    let r = redirected_as c.args.redirect.now in
    let octets : c.push_authority.new.out.items ≡ written c.args.sizes.udp_size q m rs r = search rules in
    let fits : c.args.sizes.limit < 65536 = search rules in
    let short : length c.push_authority.new.out.items ≤ 65535 = omega (arith, c.if-len-from.false, c.len.ensures, c.from.ensures, fits) in
    let few : length (answers_shown q m rs) ≤ 5957 = few_records (answers_shown q m rs) (written c.args.sizes.udp_size q m rs r) (shown_in c.args.sizes.udp_size q m rs r) (omega (arith, short, ap length octets)) in
    omega (arith, c.in_ok-answers.ensures.count, c.in_ok-made.ensures.count, few, few_made q.asked.name r.dname r.lead)

pub returns-then-len-from-2 : goal.returns-then-len-from-2
returns-then-len-from-2 c =
    let q = queried_of c.args.query.now in
    let m = c.args.message.now in
    let rs = map spelled c.args.records.now in
    let r = redirected_as c.args.redirect.now in
    let size = c.args.sizes.udp_size in
    let octets : c.push_authority.new.out.items ≡ written size q m rs r = search rules in
    let flags : c.response_flags-flags.result ≡ response_flags q.header (redirect_flags (pair m 2) r.lead) false = search rules in
    let is : c.in_ok-whole.whole.items ≡ whole_redirect size q m rs r =
    whole_is size q m rs r c.response_flags-flags.result c.in_ok-answers.answers c.in_ok-made.made c.in_ok-authority.authority c.push_authority.new.out.items c.in_ok-whole.whole.items
    flags c.in_ok-answers.ensures.count c.in_ok-made.ensures.count c.in_ok-authority.ensures.count octets (search rules) in
    let long : c.args.sizes.limit < length (whole_redirect size q m rs r) = omega (arith, c.if-len-from-2.true, c.len-2.ensures, c.from-2.ensures, ap length is) in
    subst (λ x. IfOk c.truncated_response-then-len-from-2.result (λ v. v.items ≡ x)) (cut size q m rs r c.args.sizes.limit long) c.truncated_response-then-len-from-2.ensures
