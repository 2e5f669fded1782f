use Rattle.std.proofs.Common.{sym, ◌∙◌}
use Rattle.denial_data.proofs.Sizes.{rrsig_long}
use Rattle.denial_data.proofs.rrsig.RrsigComposeRecordData.rdlen.Goals as goal

pub returns-clause-len : goal.returns-clause-len
returns-clause-len g c = c.len.ensures ∙ sym (rrsig_long g.N.Labels.name c.args.self.now)
