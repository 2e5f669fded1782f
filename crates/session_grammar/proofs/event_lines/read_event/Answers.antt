use Rattle.std.proofs.Common.{ap, subst, sym, ◌∙◌, ◌++◌, ◌∷◌, [], ◌≡◌, ◌*◌}
use Rattle.std.specs.Prelude.{Err}
use Rattle.std.proofs.lemmas.List.{map-append}
use Rattle.std.proofs.lemmas.Result.{err_from_is_err_and}
use Rattle.session_grammar.specs.Grammar.{act_line}
use Rattle.session_grammar.specs.declared.line_error.LineError.{LineError}
use Rattle.session_grammar.specs.Readings.{Reads, texts, act_view}
use Rattle.session_grammar.proofs.FieldLemmas.{event_read, event_refused}
use Rattle.session_grammar.proofs.event_lines.read_event.Goals as goal

pub returns-clause-read : goal.returns-clause-read
returns-clause-read c =
    let rest = c.in-Some.others.now in
    let cut : texts c.args.fields.now ≡ texts rest ++ c.in-Some.last.now.now ∷ [] = ap texts c.in-Some.ensures.cases.0 ∙ map-append (λ f. f.now) rest (c.in-Some.last.now ∷ []) in
    let at : c.new-at.result ≡ c.in-Some-number_u64.seconds * 1000000000 = c.new-at.ensures ∙ c.from_secs.ensures in
    event_read (texts c.args.fields.now) (texts rest) c.in-Some.last.now.now c.in-Some-number_u64.seconds c.new-at.result (act_view c.in_ok-act.act) cut (sym c.number_u64.ensures ∙ c.in-Some-number_u64.is) c.in_ok-act.ensures.read at

pub returns-in_err-act-clause-read : goal.returns-in_err-act-clause-read
returns-in_err-act-clause-read c =
    let rest = c.in-Some.others.now in
    let cut : texts c.args.fields.now ≡ texts rest ++ c.in-Some.last.now.now ∷ [] = ap texts c.in-Some.ensures.cases.0 ∙ map-append (λ f. f.now) rest (c.in-Some.last.now ∷ []) in
    let from = err_from_is_err_and c.from_residual.result c.from_residual.ensures.1 in
    let read = subst (λ (e : LineError). Reads act_view (Err e) (act_line (texts rest))) (sym from.2) c.in_err-act.ensures.read in
    event_refused c.from_residual.result from.0 (texts c.args.fields.now) (texts rest) c.in-Some.last.now.now c.in-Some-number_u64.seconds cut (sym c.number_u64.ensures ∙ c.in-Some-number_u64.is) read from.1
