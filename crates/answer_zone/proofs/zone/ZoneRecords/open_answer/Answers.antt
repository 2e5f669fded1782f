use Rattle.std.proofs.Common.{[], false, refl, ◌++◌}
use Rattle.std.proofs.lemmas.Bool.{and_parts}
use Rattle.definitions.specs.Name.{low, strictly_above}
use Rattle.definitions.specs.Zone.{Delegated, has}
use Rattle.definitions.specs.ZoneChain.{optout_of}
use Rattle.denial_laws.specs.OwnFacts.{open_spoken}
use Rattle.answer_terms.specs.Hashing.{hash_in}
use Rattle.answer_terms.specs.Served.{proofs_of, unsigned_ns}
use Rattle.answer_terms.proofs.ZoneAnswers.{groups_open_delegated}
use Rattle.answer_zone.specs.HashedZone.{served_by}
use Rattle.answer_zone.specs.Questions.{zone_of}
use Rattle.answer_zone.proofs.Replies.{open_spoke, reply}
use Rattle.answer_zone.proofs.Verdicts.{delegation_of, left_open, referred}
use Rattle.answer_zone.proofs.zone.ZoneRecords.open_answer.Goals as goal

pub open_referral-requires-clause-delegation : goal.open_referral-requires-clause-delegation
open_referral-requires-clause-delegation g c =
    let z = zone_of c.args.self.now in
    let n = low c.in-Away.cut.name.now in
    (and_parts (has z n 2) (strictly_above (low c.args.self.now.apex) n) (delegation_of z c.args.name.now c.args.rtype n c.in-Away.ensures.0)).0

pub returns-in-Away : goal.returns-in-Away
returns-in-Away g c =
    let x = c.args.self.now in
    let answers_of = g.H.Nsec3Hasher.hash_of in
    let s = served_by answers_of x in
    let q = c.args.name.now in
    let t = c.args.rtype in
    let n = low c.in-Away.cut.name.now in
    let r = c.in-Away.ensures.0 in
    let said = referred (zone_of x) q t n r in
    let whole = left_open (zone_of x) (optout_of x.mode) q t c.requires.open in
    let names = open_spoken (zone_of x) x.mode (low q) false in
    reply answers_of x q t Delegated [] (unsigned_ns s n ++ proofs_of s names) names c.open_referral.result said refl
    (groups_open_delegated x.apex x.mode (hash_in (answers_of x.hasher) x.mode) x.records q t n whole said r.topmost r.away)
    (open_spoke answers_of x q t c.requires.open Delegated false said refl) c.open_referral.ensures.answer c.open_referral.ensures.hashed
