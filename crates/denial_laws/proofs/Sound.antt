-- True facts decide the zone's verdict on a name that is no alias, or nothing.
use Rattle.definitions.specs.ZoneChain.{Nsec, Nsec3}
use Rattle.denial_laws.specs.Laws.{TrueFactsDecideTruly}
use Rattle.denial_laws.proofs.NsecSound.{sound_links}
use Rattle.denial_laws.proofs.Nsec3Sound.{sound_hashed}

pub true_facts_decide_truly : TrueFactsDecideTruly
true_facts_decide_truly z hash Nsec f q t v s l k h = sound_links z hash f q t v s l k h
true_facts_decide_truly z hash (Nsec3 iterations salt optout) f q t v s l k h = sound_hashed z hash iterations salt optout f q t v s l k h
