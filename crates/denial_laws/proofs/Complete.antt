-- A zone's own answer decides its verdict of a name that is no alias, so both chains say the same.
use Rattle.std.proofs.Common.{sym, ◌∙◌, false}
use Rattle.definitions.specs.ZoneChain.{Nsec, Nsec3}
use Rattle.denial_laws.specs.Laws.{OwnAnswersDecide, BothChainsSayTheSame}
use Rattle.denial_laws.proofs.NsecComplete.{complete_links}
use Rattle.denial_laws.proofs.Nsec3Complete.{complete_hashed}
use Rattle.denial_laws.proofs.Unaliased.{unaliased_parts}

pub own_answers_decide : OwnAnswersDecide
own_answers_decide z hash Nsec q t s n l a k u = complete_links z s hash q t l k a (unaliased_parts z false q t u)
own_answers_decide z hash (Nsec3 iterations salt optout) q t s n l a k u = complete_hashed z hash iterations salt optout q t s n l a k (unaliased_parts z optout q t u)

pub both_chains_say_the_same : BothChainsSayTheSame
both_chains_say_the_same z hash iterations salt q t s n l a k u =
    own_answers_decide z hash Nsec q t s tt l a k u ∙ sym (own_answers_decide z hash (Nsec3 iterations salt false) q t s n l a k u)
