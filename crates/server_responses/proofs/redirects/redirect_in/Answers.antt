use Rattle.std.proofs.Common.{◌∙◌, ◌==◌, map, ap, sym}
use Rattle.std.proofs.lemmas.Bool.{and_parts}
use Rattle.std.specs.Option.{option_map}
use Rattle.definitions.specs.Name.{strictly_above}
use Rattle.messages.specs.Record.{spelled}
use Rattle.names_parsed.specs.Parsed.{parsed_name}
use Rattle.server_responses.specs.Redirects.{is_dname_above}
use Rattle.server_responses.proofs.Parts.{found_is}
use Rattle.server_responses.proofs.redirects.redirect_in.Goals as goal

pub redirect_by-requires : goal.redirect_by-requires
redirect_by-requires c =
    let n = parsed_name c.args.name.now in
    let dname = spelled c.in-Some.dname.now in
    let found = ap (option_map (λ r. spelled r.now)) (sym c.in-Some.is) ∙ c.dname_above.ensures in
    (and_parts (dname.rtype == 39) (strictly_above dname.owner n) (found_is (is_dname_above n) (map spelled c.answer_section.result.now) dname (sym found))).1
