use Rattle.std.proofs.Common.{◌≡◌, List, [], ◌∷◌, true, false, refl, sym, ap, subst, ◌∙◌}
use Rattle.definitions.specs.Name.{Name, low}
use Rattle.definitions.specs.Zone.{NoType, Records, data_at, has, verdict}
use Rattle.definitions.specs.ZoneChain.{optout_of}
use Rattle.definitions.proofs.ZoneNames.{low-low}
use Rattle.std.specs.List.{list_any}
use Rattle.answer_terms.specs.Hashing.{hash_in}
use Rattle.answer_terms.specs.Served.{proofs_of, rrset, soa, spoken, under}
use Rattle.answer_terms.proofs.ZoneAnswers.{groups_found, groups_without_type}
use Rattle.answer_zone_records.specs.OwnedRecords.{is_of_type}
use Rattle.answer_zone.specs.HashedZone.{AreHashed, served_by}
use Rattle.answer_zone.specs.Questions.{zone_of}
use Rattle.answer_zone.proofs.Failures.{none_hashed}
use Rattle.answer_zone.proofs.Placing.{exists_here, has_owned, none_strictly}
use Rattle.answer_zone.proofs.Replies.{reply}
use Rattle.answer_zone.proofs.Verdicts.{answers, closed, has_type, lacks_type, owner_inside}
use Rattle.answer_zone.proofs.zone.ZoneRecords.own_answer.Goals as goal

pub returns-then-has : goal.returns-then-has
returns-then-has g c =
    let x = c.args.self.now in
    let s = served_by g.H.Nsec3Hasher.hash_of x in
    let q = c.args.name.now in
    let t = c.args.rtype in
    let z = zone_of x in
    let there : has z (low q) t ≡ true = sym (c.has.ensures ∙ ap (list_any (is_of_type t)) c.requires.owned ∙ has_owned x.apex x.records q t) ∙ c.if-has.true in
    let ds = data_at z (low q) t in
    let said = has_type z q t c.requires.own.0 (owner_inside x.apex x.records c.keeps.ensures.published.inside q t there) there in
    let whole = closed z (optout_of x.mode) q t c.requires.told ∙ said in
    let hash = g.H.Nsec3Hasher.hash_of x.hasher in
    let groups = groups_found x.apex x.mode (hash_in hash x.mode) x.records q t ds whole in (
      answers s q t (Records ds) (under q (rrset s (low q) t) ∷ []) [] c.in_ok-found.field-0 said refl groups c.in_ok-found.ensures,
      subst (λ (qs : List Name). AreHashed hash x.mode qs) (sym (ap (spoken s (low q) (verdict z false q t)) whole)) (none_hashed hash x.mode),
    )

pub returns-then-stands : goal.returns-then-stands
returns-then-stands g c =
    let x = c.args.self.now in
    let answers_of = g.H.Nsec3Hasher.hash_of in
    let s = served_by answers_of x in
    let q = c.args.name.now in
    let t = c.args.rtype in
    let z = zone_of x in
    let stood = exists_here x.apex x.records q (none_strictly z (low q) (low-low q) c.requires.own.1) in
    let none : has z (low q) t ≡ false = sym (c.has.ensures ∙ ap (list_any (is_of_type t)) c.requires.owned ∙ has_owned x.apex x.records q t) ∙ c.if-has.false in
    let said = lacks_type z q t c.requires.own.0 (stood ∙ sym c.stands.ensures ∙ c.if-stands.true) none in
    let whole = closed z (optout_of x.mode) q t c.requires.told ∙ said in
    reply answers_of x q t NoType [] (soa s ∷ proofs_of s (low q ∷ [])) (low q ∷ []) c.missing.result said refl
    (groups_without_type x.apex x.mode (hash_in (answers_of x.hasher) x.mode) x.records q t whole)
    (ap (spoken s (low q) (verdict z false q t)) whole) c.missing.ensures.answer c.missing.ensures.hashed

pub answer_without_name-requires-clause-gone : goal.answer_without_name-requires-clause-gone
answer_without_name-requires-clause-gone g c =
    let x = c.args.self.now in
    let q = c.args.name.now in
    exists_here x.apex x.records q (none_strictly (zone_of x) (low q) (low-low q) c.requires.own.1) ∙ sym c.stands.ensures ∙ c.if-stands.false
