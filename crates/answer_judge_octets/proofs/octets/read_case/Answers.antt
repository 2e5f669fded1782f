use Rattle.std.proofs.Common.{◌≡◌, Some, length, rules}
use Rattle.std.specs.Prelude.{◌==◌}
use Rattle.answer_judge_octets.specs.Replying.{flag_in, stand_as_received}
use Rattle.answer_judge_octets.specs.Written.{FitsDs, IsList, ds_octets}
use Rattle.answer_judge_octets.proofs.octets.read_case.Goals as goal

pub returns-clause-ok : goal.returns-clause-ok
returns-clause-ok c =
    let case = c.args.case.now in
    let as_received = c.in_ok-as_received.as_received in
    let said : flag_in case case.no_ds ≡ Some (length case.ds.now == 0) = search rules in
    let ds_set : IsList FitsDs ds_octets case.ds.now c.in-Some.ds_set.items = search rules in
    let ds = c.judged_ds-ds.result.items in
    let form : c.if-is_empty.as_received ≡ stand_as_received ds as_received = search rules in
    record {
      spelled = record {
        as_received = as_received;
        flag = search rules;
        apex = search rules;
        no_ds = said;
        ds_set = c.in-Some.ds_set.items;
        ds = ds_set;
        ds_judged = c.judged_ds-ds.ensures;
        dnskey_bytes = search (rules, form);
        answer_bytes = search (rules, form);
        name = search rules;
        rtype = search rules;
        class = search rules;
        now = search rules;
        limit = search rules;
        one_moment = search rules;
        other_question = search rules;
        places = c.in_ok-places.places;
        wants_places = search rules;
        entries = search rules;
      };
      error_is = search rules;
      places_are = search rules;
    }
