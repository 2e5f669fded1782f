-- What is verified in the messages of a zone with aliases that has given them.
use Rattle.std.proofs.Common.{◌≡◌, ℕ, true, false, List, length, refl, sym, subst, ◌∙◌, arith}
use Rattle.std.specs.Prelude.{Some, is_none}
use Rattle.std.specs.List.{AllByRecursion, filter, find}
use Rattle.std.proofs.lemmas.Bool.{and_parts}
use Rattle.definitions.specs.Dnskey.{Dnskey}
use Rattle.definitions.specs.Name.{Name, IsLabel, at_or_above, low}
use Rattle.definitions.specs.Zone.{Zone, apex_of, cut_above}
use Rattle.definitions.specs.ZoneChain.{Mode}
use Rattle.definitions.proofs.ZoneNames.{above_lowered}
use Rattle.denial_laws.specs.OwnFacts.{own_facts}
use Rattle.denial_laws.specs.Truth.{IsServable}
use Rattle.messages.specs.Handed.{IsHanded}
use Rattle.messages.specs.HandedRr.{HandedRr}
use Rattle.messages.specs.Message.{Asked, Message}
use Rattle.messages.proofs.Lists.{all_more, all_sorted}
use Rattle.answer_scheme.specs.Answers.{Answers}
use Rattle.answer_terms.specs.Accepting.{record_cmp, soas, sorted_records, zone_of}
use Rattle.answer_terms.specs.FactsCase.{low_facts}
use Rattle.answer_terms.specs.Hashing.{hash_in}
use Rattle.answer_terms.specs.Served.{ServedRrset, Served, answer_groups, by_tag}
use Rattle.answer_terms.specs.Told.{fields_for}
use Rattle.answer_terms.proofs.AllowedTypes.{Unsigned, unsigned_from}
use Rattle.answer_terms.proofs.Servable.{asked_inside}
use Rattle.alias_laws.proofs.Leading.{redirector}
use Rattle.alias_laws.proofs.Orderly.{servable}
use Rattle.answer_judge.specs.Judging.{JudgeInput}
use Rattle.answer_judge_keys.specs.Trusted.{fits_key, is_usable}
use Rattle.answer_judge_keys.proofs.GivenKeys.{by_tag-has, find_kept}
use Rattle.answer_judge.specs.Judged.{keys_of, trusting}
use Rattle.answer_judge_facts.specs.Times.{are_unlike, proof_times}
use Rattle.answer_judge_facts.specs.Verified.{Trusting, verified_facts}
use Rattle.answer_judge.specs.Meeting.{served_from}
use Rattle.answer_judge.proofs.GivenChained.{keys_has}
use Rattle.answer_judge.proofs.GivenFacts.{FitsRecords, IsToldBy, facts_told, fitting, groups_ordinary, soa_has}
use Rattle.answer_judge.proofs.GivenLists.{has_contained}
use Rattle.answer_judge.proofs.GivenMoments.{told_alike}
use Rattle.answer_judge.proofs.GivenRrset.{is_ordinary}
use Rattle.message_laws.specs.Given.{WasGivenWithAliases}
use Rattle.message_laws.specs.InPlace.{in_place}
use Rattle.message_laws.proofs.GivenKeys.{apart}
use Rattle.message_laws.proofs.ShownPlace.{ByCname, ByDname, Own, Place, place}

module _ (a : Answers) (k : ℕ) (h : JudgeInput) (mode : Mode) (rs : List HandedRr) (given : WasGivenWithAliases a k h mode rs) where
  abbrev z : Zone
  z = zone_of h.apex rs

  abbrev hash : Name → List ℕ
  hash = hash_in a.hash mode

  abbrev of : Asked
  of = in_place z h.asked

  abbrev read : Message
  read = given.told.read

  abbrev m : List ℕ
  m = h.answer_bytes

  abbrev s : Served
  s = served_from a h mode rs

  abbrev present : List Dnskey
  present = keys_of h given.keys.told.read

  abbrev pub usable : List Dnskey
  usable = filter is_usable present

  abbrev w : Trusting
  w = trusting a h usable

  abbrev signers : List Dnskey
  signers = by_tag given.zonesigners

  pub zone_servable : IsServable z
  zone_servable = servable a.hash h.apex mode h.limit rs given.accepted

  -- ---- which question is answered

  of_plain : Unsigned of.rtype
  of_plain = go (place z h.asked)
    where
      go : Place z h.asked → Unsigned of.rtype
      go (Own e u) = subst (λ (q : Asked). Unsigned q.rtype) (sym e) (unsigned_from h.apex h.asked given.allowed)
      go (ByCname x y e) = subst (λ (q : Asked). Unsigned q.rtype) (sym e) (record { rrsig = refl; nsec = refl; dnskey = refl; nsec3 = refl; nsec3param = refl })
      go (ByDname d x y e) = subst (λ (q : Asked). Unsigned q.rtype) (sym e) (record { rrsig = refl; nsec = refl; dnskey = refl; nsec3 = refl; nsec3param = refl })

  pub n_inside : at_or_above (apex_of z) (low h.asked.name) ≡ true
  n_inside = above_lowered (low h.apex) h.asked.name ∙ (asked_inside h.apex h.asked given.allowed).inside rs

  pub of_inside : at_or_above (apex_of z) (low of.name) ≡ true
  of_inside = go (place z h.asked)
    where
      go : Place z h.asked → at_or_above (apex_of z) (low of.name) ≡ true
      go (Own e u) = subst (λ (q : Asked). at_or_above (apex_of z) (low q.name) ≡ true) (sym e) n_inside
      go (ByCname x y e) = subst (λ (q : Asked). at_or_above (apex_of z) (low q.name) ≡ true) (sym e) n_inside
      go (ByDname d x y e) =
          subst (λ (q : Asked). at_or_above (apex_of z) (low q.name) ≡ true) (sym e)
          (and_parts (at_or_above (apex_of z) (low d)) (is_none (cut_above z (low d))) (redirector z h.asked.name d y).live).0

  -- ---- what is told

  found : (g : ServedRrset) → find (fits_key (fields_for h.apex given.at given.life g given.signer)) usable ≡ Some given.signer
  found g =
      let keys = given.keys in
      find_kept is_usable present given.signer (fields_for h.apex given.at given.life g given.signer) (apart a k h keys)
      (keys_has a.verifies k keys.ttl h.apex keys.present keys.keysigners keys.at keys.life h.dnskey_bytes keys.told keys.flags_are given.signer (has_contained keys.present given.signer given.signer_present))
      given.signer_usable refl refl

  owners_named : AllByRecursion (λ (r : HandedRr). AllByRecursion IsLabel r.owner) (sorted_records rs)
  owners_named = all_sorted (λ (r : HandedRr). AllByRecursion IsLabel r.owner) record_cmp rs (all_more IsHanded (λ r. AllByRecursion IsLabel r.owner) rs (λ r is. is.owner.labels) given.records_are)

  told_by : IsToldBy w k m read.records h.apex mode hash (sorted_records rs) of.name of.rtype
  told_by =
      let one : length (soas h.apex (sorted_records rs)) ≡ 1 = given.accepted.chained.soa in
      record {
        at = given.at;
        life = given.life;
        keys = signers;
        key = given.signer;
        trusted_apex = refl;
        apex_is = given.apex_is.labels;
        named = owners_named;
        servable = zone_servable;
        soa_there = soa_has h.apex (sorted_records rs) (omega (arith, one));
        inside = of_inside;
        not_rrsig = of_plain.rrsig;
        not_nsec = of_plain.nsec;
        not_nsec3 = of_plain.nsec3;
        groups_are = given.told.groups_are;
        signer = by_tag-has given.zonesigners given.signer given.zonesigner_tags (has_contained given.zonesigners given.signer given.signs_zone);
        found = found;
        hold = given.hold;
      }

  fits : FitsRecords z mode hash
  fits = fitting a.hash z mode h.limit given.limit given.accepted.faultless.within_limit given.accepted.chained.chain

  pub facts_are : low_facts (verified_facts w k m read.records of.name of.rtype) ≡ own_facts z hash mode of.name of.rtype
  facts_are = facts_told w k m read.records h.apex mode hash (sorted_records rs) of.name of.rtype told_by fits

  ordinary : AllByRecursion is_ordinary (answer_groups s of.name of.rtype)
  ordinary = groups_ordinary w k m read.records h.apex mode hash (sorted_records rs) of.name of.rtype told_by fits

  -- all signatures are of one moment
  pub alike : (q : Name) (u : ℕ) → are_unlike (proof_times w k m read.records q u) ≡ false
  alike q u = told_alike w k m read.records h.apex given.at given.life signers (answer_groups s of.name of.rtype) ordinary given.told.groups_are q u
