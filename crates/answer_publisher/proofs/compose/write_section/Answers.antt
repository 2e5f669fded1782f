use Rattle.std.proofs.Common.{[], Err, ap, refl, map, subst, sym, ◌+◌, ◌∙◌}
use Rattle.std.specs.Prelude.{if◌then◌else◌}
use Rattle.std.specs.List.{AllZip}
use Rattle.answer_terms.specs.GroupView.{IsRrsigData}
use Rattle.std.proofs.lemmas.List.{length-map}
use Rattle.std.proofs.lemmas.Result.{err_from_is_err_and}
use Rattle.answer_publisher.proofs.Refusals.{section_refused, signatures_refused, signing_refused}
use Rattle.answer_publisher.proofs.SignAnswer.{section_more}
use Rattle.answer_publisher.proofs.compose.write_section.Goals as goal

pub loop-group-preserved : goal.loop-group-preserved
loop-group-preserved g c =
    let sign = g.S.Scheme.signature_of c.args.scheme.now in
    let verifies = g.S.Scheme.verifies c.args.scheme.now in
    let apex = c.args.terms.now.apex.now in
    let at = c.args.terms.now.at in
    let life = c.args.terms.now.life in
    let keys = c.args.keys.now in
    let group = c.group-item.result in
    record {
      written = section_more sign verifies apex at life keys c.args.groups.now c.loop-group.group-index group group.written (map (λ d. d.items) c.deref.result.now)
          c.loop-group.section.octets.items c.push_records.new.self.octets.items c.push_signatures.new.self.octets.items
          c.loop-group.section.count c.push_records.new.self.count c.push_signatures.new.self.count
          c.loop-group-test.true c.group-item.is c.loop-group.invariant.written
          (subst (λ ys. AllZip (IsRrsigData sign verifies apex at life group) (if group.signed then keys else []) (map (λ d. d.items) ys)) (sym c.deref.ensures.value) c.in_ok-signatures.ensures.made)
          refl
          c.in_ok-push_records.ensures.octets c.in_ok-push_records.ensures.count
          c.in_ok-push_signatures.ensures.octets (c.in_ok-push_signatures.ensures.count ∙ ap (λ n. c.push_records.new.self.count + n) (sym (length-map c.deref.result.now (λ d. d.items))));
      room = c.in_ok-push_signatures.ensures.room (c.in_ok-push_records.ensures.room c.loop-group.invariant.room);
    }

pub returns-in_err-signatures-clause-refused : goal.returns-in_err-signatures-clause-refused
returns-in_err-signatures-clause-refused g c =
    let sign = g.S.Scheme.signature_of c.args.scheme.now in
    let verifies = g.S.Scheme.verifies c.args.scheme.now in
    let from = err_from_is_err_and c.from_residual.result c.from_residual.ensures.1 in
    rw (from.1) (signing_refused sign verifies c.args.terms.now.apex.now c.args.terms.now.at c.args.terms.now.life c.args.keys.now 0 c.args.groups.now c.loop-group.group-index c.group-item.result c.in_err-signatures.field-0.0 from.0
    c.loop-group-test.true c.group-item.is from.2 (λ e. c.in_err-signatures.ensures.failed (ap Err e)))

pub returns-in_err-push_records-clause-refused : goal.returns-in_err-push_records-clause-refused
returns-in_err-push_records-clause-refused g c =
    let sign = g.S.Scheme.signature_of c.args.scheme.now in
    let verifies = g.S.Scheme.verifies c.args.scheme.now in
    let apex = c.args.terms.now.apex.now in
    let at = c.args.terms.now.at in
    let life = c.args.terms.now.life in
    let keys = c.args.keys.now in
    let group = c.group-item.result in
    let from = err_from_is_err_and c.from_residual-in_err-push_records.result c.from_residual-in_err-push_records.ensures.1 in
    rw (from.1, from.2) (section_refused sign verifies apex at life keys c.args.groups.now c.loop-group.group-index group group.written (map (λ d. d.items) c.in_ok-signatures.signatures.items)
    c.loop-group.section.octets.items c.loop-group.section.count c.in_err-push_records.field-0.0
    c.loop-group-test.true c.group-item.is c.loop-group.invariant.written c.loop-group.invariant.room c.in_ok-signatures.ensures.made refl c.in_err-push_records.ensures.refused)

pub returns-in_err-push_signatures-clause-refused : goal.returns-in_err-push_signatures-clause-refused
returns-in_err-push_signatures-clause-refused g c =
    let sign = g.S.Scheme.signature_of c.args.scheme.now in
    let verifies = g.S.Scheme.verifies c.args.scheme.now in
    let apex = c.args.terms.now.apex.now in
    let at = c.args.terms.now.at in
    let life = c.args.terms.now.life in
    let keys = c.args.keys.now in
    let group = c.group-item.result in
    let from = err_from_is_err_and c.from_residual-in_err-push_signatures.result c.from_residual-in_err-push_signatures.ensures.1 in
    let made = subst (λ ys. AllZip (IsRrsigData sign verifies apex at life group) (if group.signed then keys else []) (map (λ d. d.items) ys)) (sym c.deref.ensures.value) c.in_ok-signatures.ensures.made in
    rw (from.1, from.2) (signatures_refused sign verifies apex at life keys c.args.groups.now c.loop-group.group-index group group.written (map (λ d. d.items) c.deref.result.now)
    c.loop-group.section.octets.items c.push_records.new.self.octets.items c.loop-group.section.count c.push_records.new.self.count c.in_err-push_signatures.field-0.0
    c.loop-group-test.true c.group-item.is c.loop-group.invariant.written (c.in_ok-push_records.ensures.room c.loop-group.invariant.room) made refl
    c.in_ok-push_records.ensures.octets c.in_ok-push_records.ensures.count c.in_err-push_signatures.ensures.refused)
