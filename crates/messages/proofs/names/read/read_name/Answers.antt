use Rattle.std.proofs.Common.{◌≡◌, ◌∙◌, ◌<◌, Err, ap, sym, length, arith}
use Rattle.std.proofs.lemmas.Result.{err_from_is_err_and}
use Rattle.std.proofs.lemmas.Bool.{false≢true}
use Rattle.names_parsed.proofs.Parsing.{below_not}
use Rattle.messages.specs.View.{message_error}
use Rattle.messages.proofs.NameRead.{front, sought, was_read, was_refused, past_all}
use Rattle.messages.proofs.names.read.read_name.Goals as goal

pub returns-in_err-seek-clause-exact : goal.returns-in_err-seek-clause-exact
returns-in_err-seek-clause-exact c =
    let p = err_from_is_err_and c.from_residual.result c.from_residual.ensures.1 in
    let m = c.args.message.now in
    let ends : c.from_ref-parser.result.end ≡ length m = ap (λ r. r.end) c.from_ref-parser.ensures in
    let past : length m < c.args.start = below_not (λ h. false≢true (c.in_err-seek.ensures.inside.1 (omega (arith, h, ends)))) in
    rw (p.1, p.2) (past_all m c.args.start (omega (arith, past)) ∙ ap (λ e. Err (message_error e)) (sym c.in_err-seek.ensures.fault))

pub returns-in_err-name-clause-exact : goal.returns-in_err-name-clause-exact
returns-in_err-name-clause-exact c =
    let p = err_from_is_err_and c.from_residual-in_err-name.result c.from_residual-in_err-name.ensures.1 in
    let m = c.args.message.now in
    let reader : c.seek.new.self ≡ front m c.args.start = sought m c.args.start c.from_ref-parser.result c.seek.new.self c.from_ref-parser.ensures c.in_ok-seek.ensures.ok in
    rw (p.1, p.2) (was_refused m c.args.start c.seek.new.self c.in_err-name.field-0.0 reader c.in_err-name.ensures.fault)

pub returns-clause-exact : goal.returns-clause-exact
returns-clause-exact c =
    let m = c.args.message.now in
    let reader : c.seek.new.self ≡ front m c.args.start = sought m c.args.start c.from_ref-parser.result c.seek.new.self c.from_ref-parser.ensures c.in_ok-seek.ensures.ok in
    let r = was_read m c.args.start c.seek.new.self c.parse.new.parser c.in_ok-name.name reader c.in_ok-name.ensures.ok in
    rw c.pos.ensures r.owner

pub returns-clause-before : goal.returns-clause-before
returns-clause-before c =
    let m = c.args.message.now in
    let reader : c.seek.new.self ≡ front m c.args.start = sought m c.args.start c.from_ref-parser.result c.seek.new.self c.from_ref-parser.ensures c.in_ok-seek.ensures.ok in
    let r = was_read m c.args.start c.seek.new.self c.parse.new.parser c.in_ok-name.name reader c.in_ok-name.ensures.ok in
    omega (arith, r.before, c.pos.ensures)
