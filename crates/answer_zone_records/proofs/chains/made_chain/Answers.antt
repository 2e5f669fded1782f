use Rattle.std.proofs.Common.{map, sym, subst}
use Rattle.messages.specs.HandedRr.{handed_of}
use Rattle.answer_zone_records.specs.MadeLinks.{IsChain}
use Rattle.answer_terms.specs.ModeView.{mode_of}
use Rattle.answer_zone_records.specs.declared.chains.Chain.TheVariants.{Hashes}
use Rattle.answer_zone_records.proofs.chains.made_chain.Goals as goal

pub returns-in-Ok-hash_chain_of-clause-chain : goal.returns-in-Ok-hash_chain_of-clause-chain
returns-in-Ok-hash_chain_of-clause-chain g c =
    let hash = g.H.Nsec3Hasher.hash_of c.args.hasher.now in
    subst (λ m. IsChain hash c.args.apex.now (mode_of m) (map handed_of c.args.records.now) (Hashes c.in-Ok-hash_chain_of.links)) (sym c.in-Nsec3.is) c.in-Ok-hash_chain_of.ensures.links
