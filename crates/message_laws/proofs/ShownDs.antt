-- What a judge says of an answer that shows a zone's own one to the question: its verdict; and where that has no DS of a name below the
-- apex, also whether the name is delegated.
use Rattle.std.proofs.Common.{◌≡◌, ℕ, Bool, true, false, not, ◌&&◌, ◌||◌, List, [], ◌∷◌, drop, length, ◌-◌, Option, Some, None, Ok, refl, sym, ap, ◌∙◌}
use Rattle.std.specs.Prelude.{◌==◌, IfSome, if◌then◌else◌}
use Rattle.std.proofs.lemmas.Bool.{and_from, and_parts, false≢true, or_right}
use Rattle.definitions.specs.Dnskey.{Dnskey}
use Rattle.definitions.specs.Name.{Name, low, strictly_above}
use Rattle.definitions.specs.Signing.{signed_owner}
use Rattle.definitions.specs.Zone.{NoType, Verdict, Zone, apex_of, has, is_delegation, is_live, verdict}
use Rattle.definitions.specs.ZoneChain.{Mode, optout_of}
use Rattle.denial_laws.specs.Deciding.{decided}
use Rattle.denial_laws.specs.Facts.{Facts, Rrset, is_expanded}
use Rattle.denial_laws.specs.OwnFacts.{own_rrset}
use Rattle.denial_laws.specs.Truth.{IsServable, IsTrueRrset}
use Rattle.denial_laws.proofs.NameFacts.{strictly-low}
use Rattle.denial_laws.proofs.SignedNames.{whole_owner}
use Rattle.denial_laws.proofs.ZoneCuts.{no_star_ns}
use Rattle.messages.specs.HandedRr.{HandedRr}
use Rattle.messages.specs.Message.{Asked, Message, message}
use Rattle.messages.specs.WrittenLaws.{IsQuestion}
use Rattle.answer_scheme.specs.Answers.{Answers}
use Rattle.answer_terms.specs.Accepting.{zone_of}
use Rattle.answer_terms.specs.Asking.{asks_alias, is_allowed}
use Rattle.answer_terms.specs.Hashing.{HashesHold, hash_in}
use Rattle.answer_terms.proofs.AllowedTypes.{inside_apex}
use Rattle.answer_zone_records.specs.AliasFaults.{IsAcceptedWithAliases}
use Rattle.alias_laws.proofs.Orderly.{answers_decide}
use Rattle.answer_judge.specs.Judged.{judged}
use Rattle.answer_judge.specs.Judging.{Answer, JudgeInput, Says}
use Rattle.answer_findings.specs.Judgements.{asking}
use Rattle.message_laws.specs.Shown.{IsTruthful, ShowsItself, ShowsKeys, shown_facts}
use Rattle.message_laws.proofs.Denied.{SaysOf, facts_tell}
use Rattle.message_laws.proofs.Shown.{judged_there, on, says_decided, shown_decide, usable, zone_servable}
use Rattle.message_laws.proofs.ShownPlace.{answered_itself, in_zone, unaliased}

-- a judgement says something
abbrev pub SaysSome : Answer → Type 0
SaysSome answer = (v : Verdict) × (answer ≡ Says v)

-- no NS RRset below the apex is signed
module _ (z : Zone) (s : IsServable z) (n : Name) (below : strictly_above z.name n ≡ true) where
  unsigned_there : (x : Rrset) → IsTrueRrset z n 2 x → (b : Bool) → is_expanded x n ≡ b → ⊥
  unsigned_there x is false whole =
      let both = and_parts (is_live z (signed_owner x.labels n) && (not (is_delegation z (signed_owner x.labels n)) || (2 == 43))) (has z (signed_owner x.labels n) 2) is.signed in
      let plain = (and_parts (is_live z (signed_owner x.labels n)) (not (is_delegation z (signed_owner x.labels n)) || (2 == 43)) both.0).1 in
      let owner : signed_owner x.labels n ≡ low n = whole_owner x n whole in
      let delegated : is_delegation z (signed_owner x.labels n) ≡ true =
      ap (is_delegation z) owner ∙ and_from (has z (low n) 2) (strictly_above (apex_of z) (low n)) (ap (λ o. has z o 2) (sym owner) ∙ both.1) (strictly-low z.name n ∙ below) in
      false≢true (ap (λ b. not b || (2 == 43)) (sym delegated) ∙ plain)
  unsigned_there x is true wide =
      let both = and_parts (is_live z (signed_owner x.labels n) && (not (is_delegation z (signed_owner x.labels n)) || (2 == 43))) (has z (signed_owner x.labels n) 2) is.signed in
      let star : Name = (42 ∷ []) ∷ drop (length n - x.labels) (low n) in
      let owner : signed_owner x.labels n ≡ star = ap (λ b. if b then (42 ∷ []) ∷ drop (length n - x.labels) (low n) else low n) wide in
      false≢true (sym (no_star_ns z s star refl) ∙ ap (λ o. has z o 2) (sym owner) ∙ both.1)

  pub no_ns : (o : Option Rrset) → IfSome o (IsTrueRrset z n 2) → o ≡ None
  no_ns None is = refl
  no_ns (Some x) is = absurd (unsigned_there x is (is_expanded x n) refl)

module _ (a : Answers) (k : ℕ) (h : JudgeInput) (mode : Mode) (rs : List HandedRr) (keys : ShowsKeys a k h.apex h.ds h.dnskey_bytes h.now) (read : Message) (reads : message k h.answer_bytes ≡ Ok read)
    (accepted : IsAcceptedWithAliases a.hash h.apex mode h.limit rs) (asked_is : IsQuestion h.asked) (allowed : is_allowed h.apex h.asked ≡ true) (hashes : HashesHold a.hash mode (zone_of h.apex rs) h.asked.name)
    (itself : ShowsItself a k h (usable a k h mode rs keys read reads accepted) read mode rs) where
  abbrev z : Zone
  z = zone_of h.apex rs

  abbrev hash : Name → List ℕ
  hash = hash_in a.hash mode

  abbrev keyed : List Dnskey
  keyed = usable a k h mode rs keys read reads accepted

  abbrev n : Name
  n = h.asked.name

  abbrev said : Verdict
  said = verdict z (optout_of mode) n h.asked.rtype

  abbrev f : Facts
  f = shown_facts a k h keyed read h.asked

  decides : decided h.apex hash f n h.asked.rtype ≡ Some said
  decides =
      shown_decide a k h mode rs keys read reads accepted h.asked itself.shows hashes.apart asked_is.rtype
      (answers_decide a.hash h.apex mode h.limit rs hash h.asked accepted allowed asked_is.rtype hashes.apart
      (unaliased z (zone_servable a k h mode rs keys read reads accepted) (optout_of mode) h.asked (answered_itself z h.apex h.asked allowed itself.answered)))

  pub own_says : judged a k (on a k h mode rs keys read reads accepted h.asked true) ≡ Says said
  own_says =
      judged_there a k h mode rs keys read reads accepted h.asked true (or_right (asks_alias h.apex h.asked) (is_allowed h.apex h.asked) allowed) refl
      ∙ says_decided a k h mode rs keys read reads accepted h.asked itself.shows.truthful (inside_apex h.apex h.asked allowed) hashes.made true said decides

  -- ---- of NS, where there is no DS

  module _ (for_ds : h.asked.rtype ≡ 43) (none_there : verdict z (optout_of mode) n 43 ≡ NoType) (below : strictly_above h.apex n ≡ true) where
    abbrev of_ns : Asked
    of_ns = asking h n 2

    abbrev truthful : IsTruthful a k h keyed read mode rs of_ns
    truthful = itself.beside for_ds none_there below

    abbrev facts_with : Option Rrset → Facts
    facts_with o = record { rrset = o; links = f.links; hash_links = f.hash_links }

    said_none : said ≡ NoType
    said_none = ap (verdict z (optout_of mode) n) for_ds ∙ none_there

    no_ds : f.rrset ≡ None
    no_ds = itself.shows.includes.rrset ∙ ap (own_rrset z n h.asked.rtype) said_none

    shows_none : decided h.apex hash (facts_with None) n 43 ≡ Some NoType
    shows_none = (λ i. decided h.apex hash (facts_with (sym no_ds i)) n (sym for_ds i)) ∙ decides ∙ ap (λ (v : Verdict). Some v) said_none

    told : SaysOf (decided h.apex hash (facts_with None) n 2)
    told = facts_tell h.apex n below hash f.links f.hash_links shows_none

    decides_ns : decided h.apex hash (shown_facts a k h keyed read of_ns) n 2 ≡ Some told.0
    decides_ns =
        ap (λ (o : Option Rrset). decided h.apex hash (facts_with o) n 2)
        (no_ns z (zone_servable a k h mode rs keys read reads accepted) n below (shown_facts a k h keyed read of_ns).rrset truthful.rrset)
        ∙ told.1

    ready : is_allowed h.apex of_ns ≡ true
    ready =
        let inside = in_zone h.apex h.asked allowed in
        (λ i. ((inside.0 i && inside.1 i) && true) && true)

    pub ns_says : SaysSome (judged a k (on a k h mode rs keys read reads accepted of_ns true))
    ns_says = (
      told.0,
      judged_there a k h mode rs keys read reads accepted of_ns true (or_right (asks_alias h.apex of_ns) (is_allowed h.apex of_ns) ready) refl
          ∙ says_decided a k h mode rs keys read reads accepted of_ns truthful (inside_apex h.apex h.asked allowed) hashes.made true told.0 decides_ns,
    )
