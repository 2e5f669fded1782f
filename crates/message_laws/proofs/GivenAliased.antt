-- What a zone with aliases has given shows what it answers, by an alias or not.
use Rattle.std.proofs.Common.{◌≡◌, ℕ, Bool, true, false, ◌&&◌, List, [], Option, Some, None, eqb, refl, sym, ap, subst, ◌∙◌, ◌⊎◌, inl, inr}
use Rattle.std.specs.Prelude.{Contains, IfSome}
use Rattle.definitions.specs.Dnskey.{Dnskey}
use Rattle.definitions.specs.Name.{Name, at_or_above, low, strictly_above}
use Rattle.definitions.specs.Zone.{Zone, apex_of, verdict}
use Rattle.definitions.specs.ZoneChain.{Mode, optout_of}
use Rattle.definitions.proofs.ZoneNames.{above_lowered, lowered_above}
use Rattle.denial_laws.specs.Facts.{Facts, Rrset}
use Rattle.denial_laws.specs.OwnFacts.{own_facts}
use Rattle.denial_laws.specs.Truth.{IsTrueRrset, is_signed}
use Rattle.denial_laws.proofs.NameFacts.{strictly-low}
use Rattle.denial_laws.proofs.Verdicts.{verdict_signed}
use Rattle.messages.specs.HandedRr.{HandedRr}
use Rattle.messages.specs.Message.{Asked, Message}
use Rattle.messages.proofs.Lists.{eqb-back}
use Rattle.answer_scheme.specs.Answers.{Answers}
use Rattle.answer_terms.specs.Accepting.{zone_of}
use Rattle.answer_terms.specs.FactsCase.{low_facts}
use Rattle.answer_terms.specs.Hashing.{HashesHold, hash_in}
use Rattle.answer_terms.specs.Served.{Served, answer_groups, by_tag, rrset, under}
use Rattle.answer_terms.specs.Told.{TellsGroups}
use Rattle.answer_terms.proofs.AllowedTypes.{Unsigned, inside_apex, unsigned_from}
use Rattle.answer_zone.specs.Finding.{finds, redirecting}
use Rattle.alias_laws.proofs.Leading.{Redirects, redirector}
use Rattle.answer_judge.specs.Judged.{trusting}
use Rattle.answer_judge.specs.Judging.{JudgeInput}
use Rattle.answer_judge.specs.Meeting.{served_from}
use Rattle.answer_judge.proofs.OwnAnswer.{some_data}
use Rattle.answer_judge_facts.specs.Verified.{Trusting, verified_hash_links, verified_links, verified_rrset}
use Rattle.answer_findings.specs.Judgements.{asking}
use Rattle.message_laws.specs.Given.{WasGivenWithAliases}
use Rattle.message_laws.specs.InPlace.{in_place}
use Rattle.message_laws.specs.Laws.{GivenWithAliasesIsShown}
use Rattle.message_laws.specs.Shown.{AreOfChain, IsShown, IsTruthful, Shows, ShowsAlias, ShowsItself, shown_facts}
use Rattle.message_laws.proofs.Ahead.{IsAhead, IsFirst, cname_hinted, dname_hinted, first_record, front, groups_of, missing}
use Rattle.message_laws.proofs.GivenAliases.{alike, facts_are, n_inside, of_inside, usable, zone_servable}
use Rattle.message_laws.proofs.GivenKeys.{keys_shown}
use Rattle.message_laws.proofs.GivenShown.{of_chain_like}
use Rattle.message_laws.proofs.OwnLow.{hashes_low, own_low, verified_low}
use Rattle.message_laws.proofs.OwnTrue.{includes_due, own_of_chain, own_rrset_true}
use Rattle.message_laws.proofs.ShownLeads.{dname_signed, redirecting_above}
use Rattle.message_laws.proofs.ShownPlace.{ByCname, ByDname, Own, Place, cname_of, dname_of, no_alias_type, place}
use Rattle.message_laws.proofs.Whether.{TellsDs, no_rrset}

no_and : (b : Bool) → (b && false) ≡ false
no_and true = refl
no_and false = refl

module _ (a : Answers) (k : ℕ) (h : JudgeInput) (mode : Mode) (rs : List HandedRr) (given : WasGivenWithAliases a k h mode rs) where
  abbrev z : Zone
  z = zone_of h.apex rs

  abbrev hash : Name → List ℕ
  hash = hash_in a.hash mode

  abbrev n : Name
  n = h.asked.name

  abbrev t : ℕ
  t = h.asked.rtype

  abbrev s : Served
  s = served_from a h mode rs

  abbrev read : Message
  read = given.told.read

  abbrev keyed : List Dnskey
  keyed = usable a k h mode rs given

  abbrev w : Trusting
  w = trusting a h keyed

  abbrev of : Asked
  of = in_place z h.asked

  abbrev facts_on : Asked → Facts
  facts_on q = shown_facts a k h keyed read q

  -- ---- the question that is answered

  module _ (q : Asked) (inside : at_or_above (apex_of z) (low q.name) ≡ true) (are : facts_on q ≡ own_facts z hash mode q.name q.rtype) where
    chain_of : AreOfChain z hash mode (facts_on q)
    chain_of = subst (AreOfChain z hash mode) (sym are) (own_of_chain z (zone_servable a k h mode rs given) hash mode q.name q.rtype)

    shows_own : Shows a k h keyed read mode rs q
    shows_own = record {
      truthful = record {
        rrset = subst (λ (x : Facts). IfSome x.rrset (IsTrueRrset z q.name q.rtype)) (sym are) (own_rrset_true z (zone_servable a k h mode rs given) (optout_of mode) q.name q.rtype inside);
        chain = chain_of;
        moment = ap (λ b. h.one_moment && b) (alike a k h mode rs given q.name q.rtype) ∙ no_and h.one_moment;
      };
      includes = includes_due z hash mode q.name q.rtype (facts_on q) (record {
        rrset = ap (λ (x : Facts). x.rrset) are;
        links = λ l c. subst (λ (x : Facts). Contains x.links l) (sym are) c;
        hash_links = λ l c. subst (λ (x : Facts). Contains x.hash_links l) (sym are) c;
      });
    }

  -- ---- another question of whose type there is no RRset

  chain_there : AreOfChain z hash mode (facts_on of)
  chain_there = chain_of of (of_inside a k h mode rs given) (facts_are a k h mode rs given)

  truthful_without : (q : Asked) → verified_rrset w k h.answer_bytes read.records q.name q.rtype ≡ None → IsTruthful a k h keyed read mode rs q
  truthful_without q none = record {
    rrset = subst (λ (o : Option Rrset). IfSome o (IsTrueRrset z q.name q.rtype)) (sym none) tt;
    chain = of_chain_like z hash mode (facts_on q) (facts_on of) refl refl chain_there;
    moment = ap (λ b. h.one_moment && b) (alike a k h mode rs given q.name q.rtype) ∙ no_and h.one_moment;
  }

  -- ---- the question itself

  module _ (is : of ≡ h.asked) where
    told : TellsGroups a.verifies k h.answer_bytes read.records h.apex given.at given.life (by_tag given.zonesigners) (answer_groups s n t)
    told = subst (λ (q : Asked). TellsGroups a.verifies k h.answer_bytes read.records h.apex given.at given.life (by_tag given.zonesigners) (answer_groups s q.name q.rtype)) is given.told.groups_are

    abbrev tells_ds : t ≡ 43 → TellsDs a k h n mode rs
    tells_ds for_ds = record {
      read = read;
      reads = given.told.reads;
      keys = by_tag given.zonesigners;
      at = given.at;
      life = given.life;
      groups_are = subst (λ u. TellsGroups a.verifies k h.answer_bytes read.records h.apex given.at given.life (by_tag given.zonesigners) (answer_groups s n u)) for_ds told;
    }

    itself : ShowsItself a k h keyed read mode rs
    itself = record {
      answered = is;
      shows = subst (λ (q : Asked). Shows a k h keyed read mode rs q) is (shows_own of (of_inside a k h mode rs given) (facts_are a k h mode rs given));
      beside = λ for_ds none_there below.
          truthful_without (asking h n 2) (no_rrset a k h n mode rs (tells_ds for_ds) none_there below keyed 2 refl refl refl);
    }

  -- ---- an alias

  plain : Unsigned t
  plain = unsigned_from h.apex h.asked given.allowed

  -- none of the question's type and name is verified beside an alias
  module _ (q : Name) (u : ℕ) (signing : eqb u 46 ≡ false) (told : TellsGroups a.verifies k h.answer_bytes read.records h.apex given.at given.life (by_tag given.zonesigners) (answer_groups s q u))
      (x : IsAhead a k h mode rs given q u) (other : eqb u t ≡ false) where
    beside_alias : IsTruthful a k h keyed read mode rs h.asked
    beside_alias = truthful_without h.asked (missing a k h mode rs given q u signing told x n t other (eqb-back 47 t ∙ plain.nsec) (eqb-back 50 t ∙ plain.nsec3))

  told_for : (q : Asked) → of ≡ q → TellsGroups a.verifies k h.answer_bytes read.records h.apex given.at given.life (by_tag given.zonesigners) (answer_groups s q.name q.rtype)
  told_for q is = subst (λ (x : Asked). TellsGroups a.verifies k h.answer_bytes read.records h.apex given.at given.life (by_tag given.zonesigners) (answer_groups s x.name x.rtype)) is given.told.groups_are

  by_cname : finds z n t ≡ false → finds z n 5 ≡ true → of ≡ cname_of h.asked → ShowsAlias a k h keyed read mode rs
  by_cname here there is =
      let x : IsAhead a k h mode rs given n 5 = front a k h mode rs given n 5 (n_inside a k h mode rs given) there in
      let types = no_alias_type h.apex h.asked given.allowed in
      record {
        question = cname_of h.asked;
        hinted = cname_hinted a k h mode rs given n 5 refl (told_for (cname_of h.asked) is) x refl refl (inside_apex h.apex h.asked given.allowed) types.0;
        name_is = ap (λ (q : Asked). low q.name) (sym is);
        rtype_is = ap (λ (q : Asked). q.rtype) (sym is);
        leads = given.leads;
        hashes = subst (λ (q : Asked). HashesHold a.hash mode z q.name) is given.hashes_there;
        shows = subst (λ (q : Asked). Shows a k h keyed read mode rs q) is (shows_own of (of_inside a k h mode rs given) (facts_are a k h mode rs given));
        itself = beside_alias n 5 refl (told_for (cname_of h.asked) is) x (eqb-back 5 t ∙ types.0);
      }

  module _ (d : Name) (here : finds z n t ≡ false) (led : redirecting z n ≡ Some d) (is : of ≡ dname_of h.asked d) where
    redirects : Redirects z d
    redirects = redirector z n d led

    signed : is_signed z (low d) 39 ≡ true
    signed = dname_signed z (zone_servable a k h mode rs given) d redirects

    abbrev stands : IsAhead a k h mode rs given d 39
    stands = record {
      first = under d (rrset s (low d) 39);
      behind = [];
      are = ap (groups_of a k h mode rs given d 39 (verdict z false d 39)) (verdict_signed z (optout_of mode) d 39 signed);
      rtype_is = refl;
      owner_is = refl;
      some = some_data z (low d) 39 redirects.dname;
    }

    abbrev spelled : IsFirst a k h mode rs given d 39 refl (told_for (dname_of h.asked d) is) stands
    spelled = first_record a k h mode rs given d 39 refl (told_for (dname_of h.asked d) is) stands

    abbrev owner : Name
    owner = spelled.spelled.owner

    d_inside : at_or_above (apex_of z) (low d) ≡ true
    d_inside = subst (λ (q : Asked). at_or_above (apex_of z) (low q.name) ≡ true) is (of_inside a k h mode rs given)

    owner_inside : at_or_above h.apex owner ≡ true
    owner_inside = sym (above_lowered h.apex owner) ∙ ap (at_or_above h.apex) spelled.owner_is ∙ sym (lowered_above h.apex (low d)) ∙ d_inside

    owner_above : strictly_above owner n ≡ true
    owner_above = sym (strictly-low owner n) ∙ ap (λ o. strictly_above o (low n)) spelled.owner_is ∙ strictly-low d n ∙ redirecting_above z n d led

    facts_there : facts_on (asking h d 39) ≡ own_facts z hash mode d 39
    facts_there = subst (λ (q : Asked). facts_on q ≡ own_facts z hash mode q.name q.rtype) is (facts_are a k h mode rs given)

    -- under the owner as it is spelled
    facts_spelled : facts_on (asking h owner 39) ≡ own_facts z hash mode owner 39
    facts_spelled =
        (λ i. low_facts (record {
          rrset = verified_low w k h.answer_bytes read.records owner d 39 spelled.owner_is i;
          links = verified_links w k h.answer_bytes read.records;
          hash_links = verified_hash_links w k h.answer_bytes read.records;
        }))
        ∙ facts_there ∙ sym (own_low z owner d spelled.owner_is hash mode 39)

    by_dname : ShowsAlias a k h keyed read mode rs
    by_dname = record {
      question = asking h owner 39;
      hinted = dname_hinted a k h mode rs given d 39 refl (told_for (dname_of h.asked d) is) stands refl owner_inside owner_above;
      name_is = spelled.owner_is ∙ ap (λ (q : Asked). low q.name) (sym is);
      rtype_is = ap (λ (q : Asked). q.rtype) (sym is);
      leads = given.leads;
      hashes = hashes_low a.hash mode z d owner (sym spelled.owner_is) (subst (λ (q : Asked). HashesHold a.hash mode z q.name) is given.hashes_there);
      shows = shows_own (asking h owner 39) (ap (at_or_above (apex_of z)) spelled.owner_is ∙ d_inside) facts_spelled;
      itself = beside_alias d 39 refl (told_for (dname_of h.asked d) is) stands (eqb-back 39 t ∙ (no_alias_type h.apex h.asked given.allowed).1);
    }

  pub shown : IsShown a k h mode rs
  shown = record {
    keys = keys_shown a k h given.keys;
    read = read;
    reads = given.told.reads;
    accepted = given.accepted;
    asked_is = given.asked_is;
    allowed = given.allowed;
    hashes = given.hashes;
    shown = go (place z h.asked);
  }
    where
      go : Place z h.asked → ShowsItself a k h keyed read mode rs ⊎ ShowsAlias a k h keyed read mode rs
      go (Own is none) = inl (itself is)
      go (ByCname here there is) = inr (by_cname here there is)
      go (ByDname d here led is) = inr (by_dname d here led is)

pub given_with_aliases_is_shown : GivenWithAliasesIsShown
given_with_aliases_is_shown a k h mode rs given = shown a k h mode rs given
