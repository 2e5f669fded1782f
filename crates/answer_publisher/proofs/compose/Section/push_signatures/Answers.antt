use Rattle.std.proofs.Common.{◌≡◌, [], ◌∷◌, length, subst, sym, ap, ◌∙◌, ◌++◌, arith}
use Rattle.std.specs.List.{flat_map}
use Rattle.answer_terms.specs.Served.{written_rr}
use Rattle.answer_publisher.specs.Composed.{RefusesRecords, rrsig_of}
use Rattle.std.proofs.lemmas.Result.{err_from_is_err_and}
use Rattle.messages.proofs.Lists.{map-map}
use Rattle.answer_publisher.proofs.Refusals.{records_refused}
use Rattle.answer_publisher.proofs.SignRecords.{records_written}
use Rattle.messages.specs.Written.{record_octets}
use Rattle.answer_publisher.proofs.compose.Section.push_signatures.Goals as goal

pub returns-clause-octets : goal.returns-clause-octets
returns-clause-octets c =
    let whole : c.loop-data.data-index ≡ length c.args.datas.now = omega arith in
    records_written (λ d. rrsig_of c.args.group.now d.items) c.args.datas.now c.loop-data.data-index c.args.self.now.octets.items c.loop-data.self.octets.items c.loop-data.invariant.octets whole
    ∙ ap (λ ws. c.args.self.now.octets.items ++ flat_map record_octets ws) (sym (map-map (rrsig_of c.args.group.now) (λ d. d.items) c.args.datas.now))

pub returns-in_err-push-clause-refused : goal.returns-in_err-push-clause-refused
returns-in_err-push-clause-refused c =
    let from = err_from_is_err_and c.from_residual.result c.from_residual.ensures.1 in
    let g = c.args.group.now in
    let is : written_rr c.owner.result.now 46 c.ttl.result c.deref.result.now ≡ rrsig_of g c.data-item.result.items = λ i. written_rr (c.owner.ensures i) 46 (c.ttl.ensures i) (c.deref.ensures.value i) in
    rw (from.1, from.2) (subst (λ ws. RefusesRecords c.args.self.now.octets.items c.args.self.now.count ws c.in_err-push.field-0.0) (sym (map-map (rrsig_of g) (λ d. d.items) c.args.datas.now))
    (records_refused (λ d. rrsig_of g d.items) c.args.self.now.octets.items c.loop-data.self.octets.items c.args.self.now.count c.loop-data.self.count
    c.args.datas.now c.loop-data.data-index c.data-item.result c.in_err-push.field-0.0 c.loop-data-test.true c.data-item.is c.loop-data.invariant.octets c.loop-data.invariant.room
    (subst (λ w. RefusesRecords c.loop-data.self.octets.items c.loop-data.self.count (w ∷ []) c.in_err-push.field-0.0) is c.in_err-push.ensures.refused)))
