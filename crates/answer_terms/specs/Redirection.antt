-- Where a DNAME leads a name below its owner.
use Rattle.denial_laws.specs.Leading.{To, TooLong}
use Rattle.denial_laws.specs.Leading as leading
use Rattle.answer_terms.specs.declared.redirection.Lead.{Lead}
use Rattle.answer_terms.specs.declared.redirection.Lead.TheVariants as lead

-- without how the name is kept
abbrev pub lead_seen : Lead → leading.Lead
lead_seen (lead.To n) = To n
lead_seen lead.TooLong = TooLong
