use Rattle.std.proofs.Common.{◌≡◌, [], ◌∷◌, false, refl, ap, subst, ◌∙◌}
use Rattle.definitions.specs.Name.{low}
use Rattle.definitions.specs.Zone.{NoName, StarNoType, StarRecords, cut_above, data_at, star_under, verdict}
use Rattle.definitions.specs.ZoneChain.{optout_of}
use Rattle.denial_laws.specs.OwnFacts.{kept_ancestor}
use Rattle.answer_terms.specs.Hashing.{hash_in}
use Rattle.answer_terms.specs.Served.{expanded, proofs_of, soa, spoken}
use Rattle.answer_terms.proofs.ZoneAnswers.{groups_expanded, groups_without_name, groups_without_star_type}
use Rattle.answer_terms.proofs.ZoneData.{if_ok_map}
use Rattle.answer_zone.specs.HashedZone.{served_by}
use Rattle.answer_zone.specs.Questions.{zone_of}
use Rattle.answer_zone.specs.ZoneAnswers.{Holds}
use Rattle.answer_zone.proofs.Placing.{uncut_encloser}
use Rattle.answer_zone.proofs.Replies.{encloser_found, reply, star_found, star_lacks, unexpanded}
use Rattle.answer_zone.proofs.Verdicts.{below_none, closed, plain_zone}
use Rattle.answer_zone.proofs.zone.ZoneRecords.answer_without_name.Goals as goal

pub returns-then-not-expands : goal.returns-then-not-expands
returns-then-not-expands g c =
    let x = c.args.self.now in
    let answers_of = g.H.Nsec3Hasher.hash_of in
    let s = served_by answers_of x in
    let q = c.args.name.now in
    let t = c.args.rtype in
    let z = zone_of x in
    let plain : optout_of x.mode ≡ false = plain_zone z (optout_of x.mode) q c.requires.told c.requires.gone (below_none z q t c.requires.own.0 c.requires.gone) in
    let is = c.in_ok-around.ensures.star ∙ ap (λ b. star_under (kept_ancestor z b (low q))) plain in
    let said = unexpanded x.apex x.records q t c.requires.own.0 c.keeps.ensures.published.soa c.requires.gone c.in_ok-around.around.star is c.expands.result c.expands.ensures c.if-not-expands.true in
    let whole = closed z (optout_of x.mode) q t c.requires.told ∙ said in
    let names = spoken s (low q) NoName NoName in
    reply answers_of x q t NoName [] (soa s ∷ proofs_of s names) names c.denied.result said refl
    (groups_without_name x.apex x.mode (hash_in (answers_of x.hasher) x.mode) x.records q t whole)
    (ap (spoken s (low q) (verdict z false q t)) whole) c.denied.ensures.answer c.denied.ensures.hashed

pub returns-then-has : goal.returns-then-has
returns-then-has g c =
    let x = c.args.self.now in
    let answers_of = g.H.Nsec3Hasher.hash_of in
    let s = served_by answers_of x in
    let q = c.args.name.now in
    let t = c.args.rtype in
    let z = zone_of x in
    let plain : optout_of x.mode ≡ false = plain_zone z (optout_of x.mode) q c.requires.told c.requires.gone (below_none z q t c.requires.own.0 c.requires.gone) in
    let is = c.in_ok-around.ensures.star ∙ ap (λ b. star_under (kept_ancestor z b (low q))) plain in
    let encloser = kept_ancestor z false (low q) in
    let star = star_under encloser in
    let ds = data_at z star t in
    let said = star_found x.apex x.records q t c.requires.own.0 c.keeps.ensures.published.soa c.requires.gone c.in_ok-around.around.star is c.expands.result c.expands.ensures c.if-not-expands.false c.owned-wild.result c.owned-wild.ensures c.has.result c.has.ensures c.if-has.true in
    let ce = encloser_found x.apex x.records q t c.requires.own.0 c.keeps.ensures.published.soa c.requires.gone c.in_ok-around.around.star is c.expands.result c.expands.ensures c.if-not-expands.false c.owned-wild.result c.owned-wild.ensures c.has.result c.has.ensures in
    let whole = closed z (optout_of x.mode) q t c.requires.told ∙ said in
    let names = spoken s (low q) (StarRecords []) (StarRecords []) in
    let groups = groups_expanded x.apex x.mode (hash_in (answers_of x.hasher) x.mode) x.records q t encloser ds ce whole in
    let holds = if_ok_map _ (Holds 33792 (expanded s star q t) (proofs_of s names)) c.expanded.result (λ a h. subst (λ n. Holds 33792 (expanded s n q t) (proofs_of s names) a) is h) c.expanded.ensures.answer in
    reply answers_of x q t (StarRecords ds) (expanded s star q t) (proofs_of s names) names c.expanded.result said refl groups (ap (spoken s (low q) (verdict z false q t)) whole) holds c.expanded.ensures.hashed

pub returns : goal.returns
returns g c =
    let x = c.args.self.now in
    let answers_of = g.H.Nsec3Hasher.hash_of in
    let s = served_by answers_of x in
    let q = c.args.name.now in
    let t = c.args.rtype in
    let z = zone_of x in
    let plain : optout_of x.mode ≡ false = plain_zone z (optout_of x.mode) q c.requires.told c.requires.gone (below_none z q t c.requires.own.0 c.requires.gone) in
    let is = c.in_ok-around.ensures.star ∙ ap (λ b. star_under (kept_ancestor z b (low q))) plain in
    let said = star_lacks x.apex x.records q t c.requires.own.0 c.keeps.ensures.published.soa c.requires.gone c.in_ok-around.around.star is c.expands.result c.expands.ensures c.if-not-expands.false c.owned-wild.result c.owned-wild.ensures c.has.result c.has.ensures c.if-has.false in
    let whole = closed z (optout_of x.mode) q t c.requires.told ∙ said in
    let names = spoken s (low q) NoName NoName in
    reply answers_of x q t StarNoType [] (soa s ∷ proofs_of s names) names c.denied-2.result said refl
    (groups_without_star_type x.apex x.mode (hash_in (answers_of x.hasher) x.mode) x.records q t whole)
    (ap (spoken s (low q) (verdict z false q t)) whole) c.denied-2.ensures.answer c.denied-2.ensures.hashed

pub expands-requires-clause-uncut : goal.expands-requires-clause-uncut
expands-requires-clause-uncut g c = λ inside.
    let z = zone_of c.args.self.now in
    let q = low c.args.name.now in
    ap (cut_above z) c.in_ok-around.ensures.star ∙ uncut_encloser z (optout_of c.args.self.now.mode) q c.requires.own.1
