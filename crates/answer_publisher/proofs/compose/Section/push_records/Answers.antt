use Rattle.std.proofs.Common.{◌≡◌, [], ◌∷◌, ◌++◌, length, subst, ap, ◌∙◌, arith}
use Rattle.std.specs.Prelude.{unwrap_or}
use Rattle.std.specs.List.{flat_map}
use Rattle.std.proofs.lemmas.Result.{err_from_is_err_and}
use Rattle.messages.specs.Written.{record_octets}
use Rattle.answer_publisher.specs.Composed.{RefusesRecords}
use Rattle.answer_publisher.proofs.Refusals.{records_refused}
use Rattle.answer_publisher.proofs.SignRecords.{records_written}
use Rattle.answer_zone.specs.GroupRecords.{record_under}
use Rattle.answer_terms.specs.Served.{written_rr}
use Rattle.answer_publisher.proofs.compose.Section.push_records.Goals as goal

pub returns-clause-octets : goal.returns-clause-octets
returns-clause-octets c =
    let whole : c.loop-record.record-index ≡ length c.records-record-items.result.now = omega arith in
    records_written (record_under c.args.group.now.owner c.args.group.now.rtype) c.records-record-items.result.now c.loop-record.record-index c.args.self.now.octets.items c.loop-record.self.octets.items c.loop-record.invariant.octets whole
    ∙ ap (λ ws. c.args.self.now.octets.items ++ flat_map record_octets ws) c.records-record-items.ensures

pub returns-in_err-push-clause-refused : goal.returns-in_err-push-clause-refused
returns-in_err-push-clause-refused c =
    let from = err_from_is_err_and c.from_residual.result c.from_residual.ensures.1 in
    let g = c.args.group.now in
    let item = c.record-item.result in
    let is : written_rr c.owner_in-owner.result.now c.rtype.result item.ttl c.deref.result.now ≡ record_under g.owner g.rtype item =
    λ i. written_rr ((c.owner_in-owner.ensures ∙ ap (unwrap_or item.owner) c.owner.ensures) i) (c.rtype.ensures i) item.ttl (c.deref.ensures.value i) in
    rw (from.1, from.2) (subst (λ ws. RefusesRecords c.args.self.now.octets.items c.args.self.now.count ws c.in_err-push.field-0.0) c.records-record-items.ensures
    (records_refused (record_under g.owner g.rtype) c.args.self.now.octets.items c.loop-record.self.octets.items c.args.self.now.count c.loop-record.self.count
    c.records-record-items.result.now c.loop-record.record-index item c.in_err-push.field-0.0 c.loop-record-test.true c.record-item.is c.loop-record.invariant.octets c.loop-record.invariant.room
    (subst (λ w. RefusesRecords c.loop-record.self.octets.items c.loop-record.self.count (w ∷ []) c.in_err-push.field-0.0) is c.in_err-push.ensures.refused)))
