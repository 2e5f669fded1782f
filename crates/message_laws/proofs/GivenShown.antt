-- What a zone has given shows what it answers.
use Rattle.std.proofs.Common.{◌≡◌, ℕ, ◌<◌, Bool, true, false, ◌&&◌, List, length, Option, Some, None, refl, sym, ap, subst, ◌∙◌, inl}
use Rattle.std.specs.Prelude.{Contains, IfSome, nat_eq, if◌then◌else◌}
use Rattle.std.proofs.lemmas.Bool.{and_from, eq-eqb, false≢true}
use Rattle.definitions.specs.Dnskey.{Dnskey, Ds}
use Rattle.definitions.specs.Name.{Name, at_or_above, low, strictly_above}
use Rattle.definitions.specs.Zone.{NoType, Zone, apex_of, verdict}
use Rattle.definitions.specs.ZoneChain.{Mode, Nsec, Nsec3, optout_of}
use Rattle.definitions.proofs.ZoneNames.{above_lowered}
use Rattle.denial_laws.specs.Facts.{Facts, HashLink, Link, Rrset}
use Rattle.denial_laws.specs.OwnFacts.{own_facts}
use Rattle.denial_laws.specs.Truth.{IsServable, IsTrueRrset}
use Rattle.messages.specs.HandedRr.{HandedRr}
use Rattle.messages.specs.Message.{Asked, Message}
use Rattle.messages.proofs.ZoneNames.{labels_eq-same}
use Rattle.answer_scheme.specs.Answers.{Answers}
use Rattle.answer_terms.specs.Accepting.{zone_of}
use Rattle.answer_terms.specs.Hashing.{hash_in}
use Rattle.answer_terms.specs.Served.{answer_groups, by_tag}
use Rattle.answer_terms.specs.Told.{TellsGroups}
use Rattle.answer_terms.proofs.Servable.{asked_inside}
use Rattle.answer_zone.specs.Finding.{finds, redirecting}
use Rattle.answer_zone_records.specs.AliasFaults.{IsAcceptedWithAliases}
use Rattle.alias_laws.proofs.Aliases.{leads_nowhere}
use Rattle.alias_laws.proofs.Orderly.{accepted_with_aliases, servable}
use Rattle.answer_judge.specs.Judged.{trusting}
use Rattle.answer_judge.specs.Judging.{JudgeInput}
use Rattle.answer_judge.specs.Meeting.{WasGiven, served_from}
use Rattle.answer_judge.specs.OwnFacts.{TellsZone}
use Rattle.answer_judge.proofs.GivenChained.{chained_given, keys_apart}
use Rattle.answer_judge.proofs.GivenFacts.{told_facts_are_own}
use Rattle.answer_judge.proofs.GivenJudged.{signer_found, signer_signs, some_ds, usable_keys}
use Rattle.answer_judge.proofs.GivenLists.{contained_has}
use Rattle.answer_judge.proofs.GivenMoments.{zone_alike}
use Rattle.answer_findings.specs.Judgements.{asking}
use Rattle.message_laws.specs.InPlace.{in_place}
use Rattle.message_laws.specs.Laws.{GivenIsShown}
use Rattle.message_laws.specs.Shown.{AreOfChain, IsShown, IsTruthful, Shows, ShowsKeys, shown_facts}
use Rattle.message_laws.proofs.OwnTrue.{includes_due, own_of_chain, own_rrset_true}
use Rattle.message_laws.proofs.ShownPlace.{cname_of, dname_of}
use Rattle.message_laws.proofs.Whether.{TellsDs, alike, no_rrset}

no_and : (b : Bool) → (b && false) ≡ false
no_and true = refl
no_and false = refl

-- links of other facts
pub of_chain_like : (z : Zone) (hash : Name → List ℕ) (mode : Mode) (f g : Facts) → f.links ≡ g.links → f.hash_links ≡ g.hash_links → AreOfChain z hash mode g → AreOfChain z hash mode f
of_chain_like z hash mode f g links hash_links are =
    subst (λ (ks : List Link). AreOfChain z hash mode (record { rrset = f.rrset; links = ks; hash_links = f.hash_links })) (sym links)
    (subst (λ (ls : List HashLink). AreOfChain z hash mode (record { rrset = f.rrset; links = g.links; hash_links = ls })) (sym hash_links) (by_parts mode are))
  where
    by_parts : (mode : Mode) → AreOfChain z hash mode g → AreOfChain z hash mode (record { rrset = f.rrset; links = g.links; hash_links = g.hash_links })
    by_parts Nsec are = are
    by_parts (Nsec3 iterations salt optout) are = are

module _ (a : Answers) (k : ℕ) (h : JudgeInput) (mode : Mode) (rs : List HandedRr) (short : h.limit < 65536) (given : WasGiven a k h mode rs) where
  abbrev z : Zone
  z = zone_of h.apex rs

  abbrev hash : Name → List ℕ
  hash = hash_in a.hash mode

  abbrev usable : List Dnskey
  usable = usable_keys a k h mode rs given

  abbrev read : Message
  read = given.answer_told.read

  accepted : IsAcceptedWithAliases a.hash h.apex mode h.limit rs
  accepted = accepted_with_aliases a.hash h.apex mode h.limit rs given.accepted

  zone_servable : IsServable z
  zone_servable = servable a.hash h.apex mode h.limit rs accepted

  abbrev keys_shown : ShowsKeys a k h.apex h.ds h.dnskey_bytes h.now
  keys_shown =
      let told = given.keys_told in
      let x : Asked = told.read.asked in
      record {
        read = told.read;
        reads = told.reads;
        asks = and_from _ _ (and_from _ _ (labels_eq-same (low x.name) (low h.apex) told.name_is) (eq-eqb x.rtype 48 told.rtype_is)) (eq-eqb x.class 1 told.class_is);
        ds_some = λ none. false≢true (sym (some_ds a k h mode rs given) ∙ ap (λ (ds : List Ds). nat_eq (length ds) 0) none);
        tags = keys_apart a.verifies k given.keys_ttl h.apex given.present given.keysigners given.keys_at given.life h.dnskey_bytes told given.flags_are given.present_tags;
        signed = chained_given a k h mode rs given;
      }

  abbrev tells_zone : TellsZone (trusting a h usable) k mode rs h.asked h.answer_bytes
  tells_zone = record {
    limit = h.limit;
    at = given.answer_at;
    life = given.life;
    keys = by_tag given.zonesigners;
    signer = given.meet.signer;
    apex_is = given.apex_is;
    records_are = given.records_are;
    accepted = given.accepted;
    short_limit = short;
    allowed = given.allowed;
    told = given.answer_told;
    signs = contained_has (by_tag given.zonesigners) given.meet.signer (signer_signs a k h mode rs given);
    found = signer_found a k h mode rs given;
    hold = given.answer_holds;
  }

  abbrev f : Facts
  f = shown_facts a k h usable read h.asked

  abbrev own : Facts
  own = own_facts z hash mode h.asked.name h.asked.rtype

  facts_are : f ≡ own
  facts_are = told_facts_are_own (trusting a h usable) k mode rs h.asked h.answer_bytes tells_zone

  inside : at_or_above (apex_of z) (low h.asked.name) ≡ true
  inside = above_lowered (low h.apex) h.asked.name ∙ (asked_inside h.apex h.asked given.allowed).inside rs

  chain_here : AreOfChain z hash mode f
  chain_here = subst (AreOfChain z hash mode) (sym facts_are) (own_of_chain z zone_servable hash mode h.asked.name h.asked.rtype)

  shows : Shows a k h usable read mode rs h.asked
  shows = record {
    truthful = record {
      rrset = subst (λ (x : Facts). IfSome x.rrset (IsTrueRrset z h.asked.name h.asked.rtype)) (sym facts_are) (own_rrset_true z zone_servable (optout_of mode) h.asked.name h.asked.rtype inside);
      chain = chain_here;
      moment = ap (λ b. h.one_moment && b) (zone_alike (trusting a h usable) k mode rs h.asked h.answer_bytes tells_zone) ∙ no_and h.one_moment;
    };
    includes = includes_due z hash mode h.asked.name h.asked.rtype f (record {
      rrset = ap (λ (x : Facts). x.rrset) facts_are;
      links = λ l c. subst (λ (x : Facts). Contains x.links l) (sym facts_are) c;
      hash_links = λ l c. subst (λ (x : Facts). Contains x.hash_links l) (sym facts_are) c;
    });
  }

  -- ---- of NS, where there is no DS

  module _ (for_ds : h.asked.rtype ≡ 43) (none_there : verdict z (optout_of mode) h.asked.name 43 ≡ NoType) (below : strictly_above h.apex h.asked.name ≡ true) where
    abbrev tells_ds : TellsDs a k h h.asked.name mode rs
    tells_ds = record {
      read = read;
      reads = given.answer_told.reads;
      keys = by_tag given.zonesigners;
      at = given.answer_at;
      life = given.life;
      groups_are = subst (λ t. TellsGroups a.verifies k h.answer_bytes read.records h.apex given.answer_at given.life (by_tag given.zonesigners) (answer_groups (served_from a h mode rs) h.asked.name t)) for_ds given.answer_told.groups_are;
    }

    none_signed : (shown_facts a k h usable read (asking h h.asked.name 2)).rrset ≡ None
    none_signed = no_rrset a k h h.asked.name mode rs tells_ds none_there below usable 2 refl refl refl

    truthful_ns : IsTruthful a k h usable read mode rs (asking h h.asked.name 2)
    truthful_ns = record {
      rrset = subst (λ (o : Option Rrset). IfSome o (IsTrueRrset z h.asked.name 2)) (sym none_signed) tt;
      chain = of_chain_like z hash mode (shown_facts a k h usable read (asking h h.asked.name 2)) f refl refl chain_here;
      moment = ap (λ b. h.one_moment && b) (alike a k h h.asked.name mode rs tells_ds none_there below usable) ∙ no_and h.one_moment;
    }

  -- ---- no alias is in its place

  abbrev placed : Bool → Bool → Option Name → Asked
  placed here alias o = if here then h.asked else if alias then cname_of h.asked else elim o [ None ↦ h.asked | Some d ↦ dname_of h.asked d ]

  pub answered : in_place z h.asked ≡ h.asked
  answered = go (finds z h.asked.name h.asked.rtype) refl
    where
      go : (b : Bool) → finds z h.asked.name h.asked.rtype ≡ b → in_place z h.asked ≡ h.asked
      go true e = ap (λ b. placed b (finds z h.asked.name 5) (redirecting z h.asked.name)) e
      go false e = let none = leads_nowhere a.hash h.apex mode h.limit rs h.asked.name given.accepted in λ i. placed (e i) (none.0 i) (none.1 i)

  pub shown : IsShown a k h mode rs
  shown = record {
    keys = keys_shown;
    read = read;
    reads = given.answer_told.reads;
    accepted = accepted;
    asked_is = given.asked_is;
    allowed = given.allowed;
    hashes = given.hashes;
    shown = inl (record { answered = answered; shows = shows; beside = truthful_ns });
  }

pub given_is_shown : GivenIsShown
given_is_shown a k h mode rs short given = shown a k h mode rs short given
