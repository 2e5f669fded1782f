use Rattle.std.proofs.Common.{ℕ, List, map, sym, subst}
use Rattle.definitions.specs.Name.{low}
use Rattle.answer_zone_records.specs.ChainPlaces.{AreAt}
use Rattle.answer_zone_records.proofs.ChainSpoken.{speaks_all}
use Rattle.answer_zone_records.proofs.chain.push_links.Goals as goal

pub returns : goal.returns
returns c =
    let p = speaks_all c.args.apex.now (map (λ n. low n.now) c.args.names.now) in
    c.push_places.ensures p (subst (λ (ks : List ℕ). AreAt p c.args.chain.now ks) (sym c.deref.ensures.value) (c.in_ok-places.ensures.places c.args.apex.now c.requires))
