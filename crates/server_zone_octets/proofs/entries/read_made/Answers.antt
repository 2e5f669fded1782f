use Rattle.std.proofs.Common.{◌<◌, List, length, inr, refl, rules, sym, ◌∙◌, arith}
use Rattle.std.specs.Prelude.{None}
use Rattle.answer_judge_octets.specs.Written.{IsList, Splits}
use Rattle.answer_judge_octets.proofs.ListsRead.{not_spelled}
use Rattle.server_answers.specs.Table.{Made}
use Rattle.server_zone_octets.specs.Entries.{FitsMade, made_octets}
use Rattle.server_zone_octets.proofs.EntriesMade.{once_made, some_made}
use Rattle.server_zone_octets.proofs.entries.read_made.Goals as goal

pub returns-in_default-clause-unread : goal.returns-in_default-clause-unread
returns-in_default-clause-unread c =
    let unread : Splits FitsMade made_octets c.loop-rest.rest.now None = search rules in
    let long : 0 < length c.loop-rest.rest.now = grind arith in
    let none : (table : List Made) → IsList FitsMade made_octets c.args.octets.now table → ⊥ =
    λ others spells.
    not_spelled FitsMade made_octets once_made some_made c.loop-rest.made.items others c.loop-rest.rest.now long unread c.loop-rest.invariant.0 spells.fit
    (sym c.loop-rest.invariant.1 ∙ spells.octets_are)
    in inr (refl, none)
