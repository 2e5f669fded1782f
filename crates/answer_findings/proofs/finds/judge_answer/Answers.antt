use Rattle.std.proofs.Common.{◌≡◌, ◌+◌, None, refl, subst, inl, inr, arith}
use Rattle.definitions.specs.Limits.{pointer_limit}
use Rattle.answer_judge.specs.Judging.{answer_of, hashes_of}
use Rattle.answer_findings.specs.Found.{AsksBehind, hashes_found}
use Rattle.answer_findings.specs.Judgements.{alias_question, ds_question, ns_question}
use Rattle.answer_findings.specs.Seen.{hashed_in, judgements_up_to}
use Rattle.answer_findings.proofs.Hashed.{all_hashed, asks_hashed, behind_hashed, made_hashed, none_hashed, own_hashed}
use Rattle.answer_findings.proofs.Searched.{are_judgements, asked_behind, asks_in, found_in, judged_in, made_in, sought_at_ds, told, truly_in, within_in}
use Rattle.answer_findings.proofs.Within.{none_counted}
use Rattle.answer_findings.proofs.finds.judge_answer.Goals as goal

pub returns-in-Asks : goal.returns-in-Asks
returns-in-Asks g c = record { found = inl (c.in_ok-asks-in-Asks.ensures, refl, refl); honest = tt; within = none_counted c.args.case.now 0 0 refl refl; hashed = none_hashed _ _ c.in_ok-own.field-0 c.in-Asks.asks c.in-Asks.is c.in_ok-own.ensures.hashed; bound = omega (arith, c.judge_by_table.ensures.bound) }

pub returns-in-Err : goal.returns-in-Err
returns-in-Err g c =
    let table = c.args.table.now in
    let h = c.args.case.now in
    let own = c.in-Judged.own in
    let own_is = judged_in table h c.in_ok-own.field-0 own c.in-Judged.is c.in_ok-own.ensures.outcome in
    let wanted = alias_question pointer_limit h (answer_of own) in
    let aside = asks_in table h wanted c.in_ok-alias.field-0 c.in-Err.asks c.in-Err.is c.in_ok-alias.ensures.made in
    let behind = subst (λ js. AsksBehind c.in-Err.asks.items js c.asks_behind.result) c.up_to.ensures c.asks_behind.ensures in
    let is = told table h c.asks_behind.result (asked_behind table h (judgements_up_to own None None) own_is refl wanted (inl (refl, refl, refl)) c.in-Err.asks.items aside c.asks_behind.result behind) in
    let n = own_hashed _ _ c.in_ok-own.field-0 own c.in-Judged.is c.in_ok-own.ensures.hashed in
    let m = asks_hashed _ _ c.in_ok-alias.field-0 c.in-Err.asks c.in-Err.is c.in_ok-alias.ensures.hashed in
    let all : hashes_found c.asks_behind.result ≡ hashes_of own + 0 + 0 + 0 = behind_hashed c.in-Err.asks.items own None None c.asks_behind.result behind in
    record { found = is.0; honest = is.1; within = is.2; hashed = omega (arith, n, m, all); bound = omega (arith, c.judge_by_table.ensures.bound, c.judged_alias.ensures.bound) }

pub returns-in-Err-2 : goal.returns-in-Err-2
returns-in-Err-2 g c =
    let table = c.args.table.now in
    let h = c.args.case.now in
    let own = c.in-Judged.own in
    let own_is = judged_in table h c.in_ok-own.field-0 own c.in-Judged.is c.in_ok-own.ensures.outcome in
    let alias_is = made_in table h (alias_question pointer_limit h (answer_of own)) c.in_ok-alias.field-0 c.in-Ok.alias c.in-Ok.is c.in_ok-alias.ensures.made in
    let wanted = ns_question pointer_limit h (answer_of own) in
    let aside = asks_in table h wanted c.in_ok-ns.field-0 c.in-Err-2.asks c.in-Err-2.is c.in_ok-ns.ensures.made in
    let behind = subst (λ js. AsksBehind c.in-Err-2.asks.items js c.asks_behind-in-Err-2.result) c.up_to-in-Err-2.ensures c.asks_behind-in-Err-2.ensures in
    let is = told table h c.asks_behind-in-Err-2.result (asked_behind table h (judgements_up_to own c.in-Ok.alias None) own_is refl wanted (inr (alias_is, inl (refl, refl))) c.in-Err-2.asks.items aside c.asks_behind-in-Err-2.result behind) in
    let n = own_hashed _ _ c.in_ok-own.field-0 own c.in-Judged.is c.in_ok-own.ensures.hashed in
    let m = made_hashed _ _ c.in_ok-alias.field-0 c.in-Ok.alias c.in-Ok.is c.in_ok-alias.ensures.hashed in
    let o = asks_hashed _ _ c.in_ok-ns.field-0 c.in-Err-2.asks c.in-Err-2.is c.in_ok-ns.ensures.hashed in
    let all : hashes_found c.asks_behind-in-Err-2.result ≡ hashes_of own + hashed_in c.in-Ok.alias + 0 + 0 = behind_hashed c.in-Err-2.asks.items own c.in-Ok.alias None c.asks_behind-in-Err-2.result behind in
    record { found = is.0; honest = is.1; within = is.2; hashed = omega (arith, n, m, o, all); bound = omega (arith, c.judge_by_table.ensures.bound, c.judged_alias.ensures.bound, c.judged_ns.ensures.bound) }

pub returns-in-Err-3 : goal.returns-in-Err-3
returns-in-Err-3 g c =
    let table = c.args.table.now in
    let h = c.args.case.now in
    let own = c.in-Judged.own in
    let own_is = judged_in table h c.in_ok-own.field-0 own c.in-Judged.is c.in_ok-own.ensures.outcome in
    let alias_is = made_in table h (alias_question pointer_limit h (answer_of own)) c.in_ok-alias.field-0 c.in-Ok.alias c.in-Ok.is c.in_ok-alias.ensures.made in
    let ns_is = made_in table h (ns_question pointer_limit h (answer_of own)) c.in_ok-ns.field-0 c.in-Ok-2.ns c.in-Ok-2.is c.in_ok-ns.ensures.made in
    let leads = c.is_some.result in
    let wanted = ds_question pointer_limit h (answer_of own) leads in
    let aside = asks_in table h wanted c.in_ok-ds.field-0 c.in-Err-3.asks c.in-Err-3.is c.in_ok-ds.ensures.made in
    let at = sought_at_ds table h (judgements_up_to own c.in-Ok.alias c.in-Ok-2.ns) alias_is ns_is c.in_ok-lead.lead leads c.in_ok-lead.ensures c.is_some.ensures in
    let behind = subst (λ js. AsksBehind c.in-Err-3.asks.items js c.asks_behind-in-Err-3.result) c.up_to-in-Err-3.ensures c.asks_behind-in-Err-3.ensures in
    let is = told table h c.asks_behind-in-Err-3.result (asked_behind table h (judgements_up_to own c.in-Ok.alias c.in-Ok-2.ns) own_is refl wanted at c.in-Err-3.asks.items aside c.asks_behind-in-Err-3.result behind) in
    let n = own_hashed _ _ c.in_ok-own.field-0 own c.in-Judged.is c.in_ok-own.ensures.hashed in
    let m = made_hashed _ _ c.in_ok-alias.field-0 c.in-Ok.alias c.in-Ok.is c.in_ok-alias.ensures.hashed in
    let o = made_hashed _ _ c.in_ok-ns.field-0 c.in-Ok-2.ns c.in-Ok-2.is c.in_ok-ns.ensures.hashed in
    let p = asks_hashed _ _ c.in_ok-ds.field-0 c.in-Err-3.asks c.in-Err-3.is c.in_ok-ds.ensures.hashed in
    let all = behind_hashed c.in-Err-3.asks.items own c.in-Ok.alias c.in-Ok-2.ns c.asks_behind-in-Err-3.result behind in
    record { found = is.0; honest = is.1; within = is.2; hashed = omega (arith, n, m, o, p, all); bound = omega (arith, c.judge_by_table.ensures.bound, c.judged_alias.ensures.bound, c.judged_ns.ensures.bound, c.judged_ds.ensures.bound) }

pub returns : goal.returns
returns g c =
    let table = c.args.table.now in
    let h = c.args.case.now in
    let own = c.in-Judged.own in
    let alias_is = made_in table h (alias_question pointer_limit h (answer_of own)) c.in_ok-alias.field-0 c.in-Ok.alias c.in-Ok.is c.in_ok-alias.ensures.made in
    let own_is = judged_in table h c.in_ok-own.field-0 own c.in-Judged.is c.in_ok-own.ensures.outcome in
    let ns_is = made_in table h (ns_question pointer_limit h (answer_of own)) c.in_ok-ns.field-0 c.in-Ok-2.ns c.in-Ok-2.is c.in_ok-ns.ensures.made in
    let ds_is = made_in table h (ds_question pointer_limit h (answer_of own) c.is_some.result) c.in_ok-ds.field-0 c.in-Ok-3.ds c.in-Ok-3.is c.in_ok-ds.ensures.made in
    let are = are_judgements table h (record { own = own; alias = c.in-Ok.alias; ns = c.in-Ok-2.ns; ds = c.in-Ok-3.ds }) c.in_ok-lead.lead c.is_some.result own_is alias_is c.in_ok-lead.ensures c.is_some.ensures ns_is ds_is in
    let found = found_in table h (record { own = own; alias = c.in-Ok.alias; ns = c.in-Ok-2.ns; ds = c.in-Ok-3.ds }) c.combine.result are c.combine.ensures in
    let n = own_hashed _ _ c.in_ok-own.field-0 own c.in-Judged.is c.in_ok-own.ensures.hashed in
    let m = made_hashed _ _ c.in_ok-alias.field-0 c.in-Ok.alias c.in-Ok.is c.in_ok-alias.ensures.hashed in
    let o = made_hashed _ _ c.in_ok-ns.field-0 c.in-Ok-2.ns c.in-Ok-2.is c.in_ok-ns.ensures.hashed in
    let p = made_hashed _ _ c.in_ok-ds.field-0 c.in-Ok-3.ds c.in-Ok-3.is c.in_ok-ds.ensures.hashed in
    record {
      found = found;
      honest = truly_in table h c.combine.result found;
      within = within_in table h c.combine.result found;
      hashed = all_hashed _ _ h (record { own = own; alias = c.in-Ok.alias; ns = c.in-Ok-2.ns; ds = c.in-Ok-3.ds }) c.combine.result c.combine.ensures (omega (arith, n, m, o, p));
      bound = omega (arith, c.judge_by_table.ensures.bound, c.judged_alias.ensures.bound, c.judged_ns.ensures.bound, c.judged_ds.ensures.bound);
    }
