use Rattle.std.proofs.Common.{◌≡◌, ◌<◌, sym, ap, length, arith}
use Rattle.std.specs.Result.{result_ok}
use Rattle.std.proofs.lemmas.Bool.{false≢true}
use Rattle.names_parsed.proofs.Parsing.{below_not}
use Rattle.messages.proofs.NameRead.{front, sought, was_flat, flat_refused, flat_past, flat_pointers, no_owner}
use Rattle.messages.proofs.names.wire.name_at_place.Goals as goal

pub returns-in_default-clause-exact : goal.returns-in_default-clause-exact
returns-in_default-clause-exact c =
    let m = c.args.octets.now in
    let ends : c.from_ref-parser.result.end ≡ length m = ap (λ r. r.end) c.from_ref-parser.ensures in
    let past : length m < c.args.start = below_not (λ h. false≢true (c.in_default.ensures.inside.1 (omega (arith, h, ends)))) in
    no_owner m c.args.start (flat_past m c.args.start (omega (arith, past)))

pub returns-in_default-parse-clause-exact : goal.returns-in_default-parse-clause-exact
returns-in_default-parse-clause-exact c =
    let m = c.args.octets.now in
    let reader : c.seek.new.self ≡ front m c.args.start = sought m c.args.start c.from_ref-parser.result c.seek.new.self c.from_ref-parser.ensures c.in-Ok.ensures.ok in
    no_owner m c.args.start (flat_refused m c.args.start c.seek.new.self reader c.in_default-parse.ensures.refused)

pub returns-then-is_compressed-clause-exact : goal.returns-then-is_compressed-clause-exact
returns-then-is_compressed-clause-exact c =
    let m = c.args.octets.now in
    let reader : c.seek.new.self ≡ front m c.args.start = sought m c.args.start c.from_ref-parser.result c.seek.new.self c.from_ref-parser.ensures c.in-Ok.ensures.ok in
    no_owner m c.args.start (flat_pointers m c.args.start c.seek.new.self c.parse.new.parser c.in-Ok-parse.name reader c.in-Ok-parse.ensures.ok (c.is_compressed.ensures.compressed c.if-is_compressed.true))

pub returns-clause-exact : goal.returns-clause-exact
returns-clause-exact c =
    let m = c.args.octets.now in
    let reader : c.seek.new.self ≡ front m c.args.start = sought m c.args.start c.from_ref-parser.result c.seek.new.self c.from_ref-parser.ensures c.in-Ok.ensures.ok in
    let read = was_flat m c.args.start c.seek.new.self c.parse.new.parser c.in-Ok-parse.name reader c.in-Ok-parse.ensures.ok (c.is_compressed.ensures.flat c.if-is_compressed.false) in
    rw (c.pos.ensures, c.in_ok-flat.ensures) (sym (ap result_ok read))
