use Rattle.std.proofs.Common.{◌≡◌, ◌++◌, None, rules}
use Rattle.names_rdata.specs.Composing.{with_length}
use Rattle.answer_judge_octets.specs.Written.{IsShort, Splits}
use Rattle.answer_judge_octets.proofs.EntriesSplit.{no_ds, no_ds_part}
use Rattle.answer_judge_octets.proofs.entries.DsVecU8Entry.split_first.Goals as goal

pub returns-in_default : goal.returns-in_default
returns-in_default c =
    let none : Splits IsShort with_length c.args.octets.now None = search rules in
    no_ds_part c.args.octets.now none

pub returns-in-None : goal.returns-in-None
returns-in-None c =
    let part : IsShort c.in-Some.rdata.now × (c.args.octets.now ≡ with_length c.in-Some.rdata.now ++ c.in-Some.behind.now) = search rules in
    no_ds c.args.octets.now c.in-Some.rdata.now c.in-Some.behind.now part.0 part.1 (search rules)
