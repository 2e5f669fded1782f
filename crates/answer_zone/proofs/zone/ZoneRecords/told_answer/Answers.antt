use Rattle.std.proofs.Common.{[], ◌∷◌, List, None, false, Some, refl, ap, ◌∙◌, ◌++◌}
use Rattle.std.proofs.lemmas.Bool.{and_parts}
use Rattle.definitions.specs.Name.{Name, low, strictly_above}
use Rattle.definitions.specs.Zone.{Delegated, has, verdict}
use Rattle.definitions.specs.ZoneChain.{optout_of}
use Rattle.answer_terms.specs.Hashing.{hash_in}
use Rattle.answer_terms.specs.Served.{if_any, proofs_of, spoken, unsigned_ns}
use Rattle.answer_terms.proofs.ZoneAnswers.{groups_delegated}
use Rattle.answer_zone.specs.HashedZone.{served_by}
use Rattle.answer_zone.specs.Questions.{zone_of}
use Rattle.answer_zone.proofs.Replies.{reply}
use Rattle.answer_zone.proofs.Verdicts.{closed, delegation_of, referred}
use Rattle.answer_zone.proofs.zone.ZoneRecords.told_answer.Goals as goal

pub referral-requires-clause-delegation : goal.referral-requires-clause-delegation
referral-requires-clause-delegation g c =
    let z = zone_of c.args.self.now in
    let n = low c.in-Away.cut.name.now in
    (and_parts (has z n 2) (strictly_above (low c.args.self.now.apex) n) (delegation_of z c.args.name.now c.args.rtype n c.in-Away.ensures.0)).0

pub returns-in-Away : goal.returns-in-Away
returns-in-Away g c =
    let x = c.args.self.now in
    let answers_of = g.H.Nsec3Hasher.hash_of in
    let s = served_by answers_of x in
    let q = c.args.name.now in
    let t = c.args.rtype in
    let n = low c.in-Away.cut.name.now in
    let r = c.in-Away.ensures.0 in
    let said = referred (zone_of x) q t n r in
    let whole = closed (zone_of x) (optout_of x.mode) q t c.requires.told ∙ said in
    let spoke = ap (spoken s (low q) (verdict (zone_of x) false q t)) whole ∙ ap (λ o. elim o as (λ _. List Name) [ None ↦ [] | Some c ↦ c ∷ [] ]) r.topmost in
    reply answers_of x q t Delegated [] (unsigned_ns s n ++ if_any s n 43 ++ proofs_of s (n ∷ [])) (n ∷ []) c.referral.result said refl
    (groups_delegated x.apex x.mode (hash_in (answers_of x.hasher) x.mode) x.records q t n r.topmost whole)
    spoke c.referral.ensures.answer c.referral.ensures.hashed
