use Rattle.std.proofs.Common.{◌≡◌, true, false, refl, sym, ap, subst, ◌∙◌}
use Rattle.std.proofs.lemmas.Bool.{false_from_ne_true}
use Rattle.definitions.specs.Name.{low}
use Rattle.definitions.specs.Zone.{NoName, NoType, StarNoType, StarRecords, cut_above, data_at, exists, has, star_under}
use Rattle.definitions.specs.ZoneChain.{optout_of}
use Rattle.definitions.proofs.ZoneNames.{low-low}
use Rattle.denial_laws.specs.OwnFacts.{kept_ancestor, open_spoken}
use Rattle.answer_terms.specs.Hashing.{hash_in}
use Rattle.answer_terms.specs.Served.{expanded, proofs_of}
use Rattle.answer_terms.proofs.ZoneAnswers.{groups_open_expanded}
use Rattle.answer_terms.proofs.ZoneData.{if_ok_map}
use Rattle.answer_zone.specs.HashedZone.{served_by}
use Rattle.answer_zone.specs.Questions.{zone_of}
use Rattle.answer_zone.specs.ZoneAnswers.{Holds}
use Rattle.answer_zone.proofs.Placing.{exists_here, none_strictly, uncut_encloser}
use Rattle.answer_zone.proofs.Replies.{encloser_found, open_missing, open_spoke, reply, star_found, star_lacks, unexpanded}
use Rattle.answer_zone.proofs.Verdicts.{lacks_type, left_open, no_record, owner_inside}
use Rattle.answer_zone.proofs.zone.ZoneRecords.open_own_answer.Goals as goal

pub returns-then-stands : goal.returns-then-stands
returns-then-stands g c =
    let x = c.args.self.now in
    let q = c.args.name.now in
    let t = c.args.rtype in
    let z = zone_of x in
    let stood = exists_here x.apex x.records q (none_strictly z (low q) (low-low q) c.requires.own.1) in
    let none : has z (low q) t ≡ false = false_from_ne_true (has z (low q) t) (λ h. no_record z (optout_of x.mode) q t c.requires.own.0 c.requires.open (owner_inside x.apex x.records c.keeps.ensures.published.inside q t h) h) in
    let said = lacks_type z q t c.requires.own.0 (stood ∙ sym c.stands.ensures ∙ c.if-stands.true) none in
    open_missing g.H.Nsec3Hasher.hash_of x q t c.requires.own c.requires.open NoType false c.open_missing.result refl refl said refl c.open_missing.ensures.answer c.open_missing.ensures.hashed

pub returns-then-not-expands : goal.returns-then-not-expands
returns-then-not-expands g c =
    let x = c.args.self.now in
    let q = c.args.name.now in
    let t = c.args.rtype in
    let z = zone_of x in
    let gone : exists z (low q) ≡ false = exists_here x.apex x.records q (none_strictly z (low q) (low-low q) c.requires.own.1) ∙ sym c.stands.ensures ∙ c.if-stands.false in
    let said = unexpanded x.apex x.records q t c.requires.own.0 c.keeps.ensures.published.soa gone c.in_ok-star.star c.in_ok-star.ensures c.expands.result c.expands.ensures c.if-not-expands.true in
    open_missing g.H.Nsec3Hasher.hash_of x q t c.requires.own c.requires.open NoName true c.open_missing-then-not-expands.result refl refl said refl c.open_missing-then-not-expands.ensures.answer c.open_missing-then-not-expands.ensures.hashed

pub returns-then-has : goal.returns-then-has
returns-then-has g c =
    let x = c.args.self.now in
    let answers_of = g.H.Nsec3Hasher.hash_of in
    let s = served_by answers_of x in
    let q = c.args.name.now in
    let t = c.args.rtype in
    let z = zone_of x in
    let gone : exists z (low q) ≡ false = exists_here x.apex x.records q (none_strictly z (low q) (low-low q) c.requires.own.1) ∙ sym c.stands.ensures ∙ c.if-stands.false in
    let encloser = kept_ancestor z false (low q) in
    let star = star_under encloser in
    let ds = data_at z star t in
    let said = star_found x.apex x.records q t c.requires.own.0 c.keeps.ensures.published.soa gone c.in_ok-star.star c.in_ok-star.ensures c.expands.result c.expands.ensures c.if-not-expands.false c.owned-wild.result c.owned-wild.ensures c.has.result c.has.ensures c.if-has.true in
    let ce = encloser_found x.apex x.records q t c.requires.own.0 c.keeps.ensures.published.soa gone c.in_ok-star.star c.in_ok-star.ensures c.expands.result c.expands.ensures c.if-not-expands.false c.owned-wild.result c.owned-wild.ensures c.has.result c.has.ensures in
    let whole = left_open z (optout_of x.mode) q t c.requires.open in
    let names = open_spoken z x.mode (low q) false in
    let groups = groups_open_expanded x.apex x.mode (hash_in (answers_of x.hasher) x.mode) x.records q t encloser ds whole said ce in
    let holds = if_ok_map _ (Holds 33792 (expanded s star q t) (proofs_of s names)) c.open_expanded.result (λ a h. subst (λ n. Holds 33792 (expanded s n q t) (proofs_of s names) a) c.in_ok-star.ensures h) c.open_expanded.ensures.answer in
    reply answers_of x q t (StarRecords ds) (expanded s star q t) (proofs_of s names) names c.open_expanded.result said refl groups (open_spoke answers_of x q t c.requires.open (StarRecords ds) false said refl) holds c.open_expanded.ensures.hashed

pub returns : goal.returns
returns g c =
    let x = c.args.self.now in
    let q = c.args.name.now in
    let t = c.args.rtype in
    let z = zone_of x in
    let gone : exists z (low q) ≡ false = exists_here x.apex x.records q (none_strictly z (low q) (low-low q) c.requires.own.1) ∙ sym c.stands.ensures ∙ c.if-stands.false in
    let said = star_lacks x.apex x.records q t c.requires.own.0 c.keeps.ensures.published.soa gone c.in_ok-star.star c.in_ok-star.ensures c.expands.result c.expands.ensures c.if-not-expands.false c.owned-wild.result c.owned-wild.ensures c.has.result c.has.ensures c.if-has.false in
    open_missing g.H.Nsec3Hasher.hash_of x q t c.requires.own c.requires.open StarNoType true c.open_missing-2.result refl refl said refl c.open_missing-2.ensures.answer c.open_missing-2.ensures.hashed

pub expands-requires-clause-uncut : goal.expands-requires-clause-uncut
expands-requires-clause-uncut g c = λ inside.
    let z = zone_of c.args.self.now in
    let q = low c.args.name.now in
    ap (cut_above z) c.in_ok-star.ensures ∙ uncut_encloser z false q c.requires.own.1
