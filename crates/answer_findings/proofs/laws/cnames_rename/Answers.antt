use Rattle.answer_findings.proofs.Renamed.{own_cnames_rename, star_cnames_rename}
use Rattle.answer_findings.proofs.laws.cnames_rename.Goals as goal

pub returns : goal.returns
returns c = record { own = own_cnames_rename; by_wildcard = star_cnames_rename }
