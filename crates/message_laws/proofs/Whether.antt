-- A zone's answer for DS at a name below its apex, which shows that there is none, tells whether the name is delegated.
use Rattle.std.proofs.Common.{◌≡◌, ℕ, Bool, true, false, ◌&&◌, List, [], ◌∷◌, ◌++◌, map, Option, Some, None, Result, Ok, Err, eqb, refl, sym, ap, subst, ◌∙◌}
use Rattle.std.specs.Prelude.{nat_eq, length}
use Rattle.std.specs.List.{AllByRecursion, filter, list_any}
use Rattle.std.proofs.lemmas.Bool.{or_from}
use Rattle.definitions.specs.Dnskey.{Dnskey}
use Rattle.definitions.specs.Name.{Name, low, same, strictly_above}
use Rattle.definitions.specs.Zone.{Verdict, NoType, verdict}
use Rattle.definitions.specs.ZoneChain.{Mode, Nsec, Nsec3, optout_of}
use Rattle.denial_laws.specs.Facts.{Facts, Rrset}
use Rattle.messages.specs.HandedRr.{HandedRr}
use Rattle.messages.specs.Message.{Message, message}
use Rattle.messages.specs.declared.error.MessageError.{MessageError}
use Rattle.answer_scheme.specs.Answers.{Answers}
use Rattle.answer_judge_rules.specs.Hashes.{hash_among}
use Rattle.answer_terms.specs.Accepting.{sorted_records, zone_of}
use Rattle.answer_terms.specs.Hashing.{hash_in}
use Rattle.answer_terms.specs.Served.{ServedRrset, Served, ahead, answer_groups, chain_names, chain_record, proofs_of, served_of, soa, speaks_for, spoken}
use Rattle.answer_terms.specs.Told.{TellsGroups}
use Rattle.answer_judge.specs.Judging.{Answer, JudgeInput, Refuses, Says, is_judged}
use Rattle.answer_judge_keys.specs.Trusted.{is_usable}
use Rattle.answer_judge.specs.declared.verdict.Refusal.{Refusal}
use Rattle.answer_judge.specs.Judged.{are_mixed, are_over, decided_by, ds_authenticates_keys, has_unlike_times, is_unhashed, judged, judged_answer, judged_messages, judged_proof, keys_of, trusting}
use Rattle.answer_judge_facts.specs.Times.{are_unlike, proof_times}
use Rattle.answer_judge_facts.specs.Verified.{Trusting, verified_hash_links, verified_links, verified_rrset}
use Rattle.answer_judge.specs.Meeting.{served_from}
use Rattle.answer_judge.proofs.GivenMoments.{told_alike}
use Rattle.answer_judge.proofs.GivenRrset.{is_ordinary, is_signed_rrset, verified_rrset_missing}
use Rattle.answer_findings.specs.Judgements.{aside, asking}
use Rattle.message_laws.proofs.Denied.{SaysOf, facts_tell}
use Rattle.message_laws.proofs.Parts.{chained_by, first_of, judged_by, proved_by}
use Rattle.message_laws.proofs.ShownDs.{SaysSome}

abbrev SaysNoType : Answer → Type 0
SaysNoType answer = answer ≡ Says NoType

-- what facts say of the one they say of the other, where no times are unlike
proved_alike : (unlike mixed over unhashed : Bool) (one other : Option Verdict) → SaysNoType (proved_by unlike mixed over unhashed one) → (one ≡ Some NoType → SaysOf other) → SaysSome (proved_by false mixed over unhashed other)
proved_alike true mixed over unhashed one other is f = absurd cc
proved_alike false true over unhashed one other is f = absurd cc
proved_alike false false true unhashed one other is f = absurd cc
proved_alike false false false true one other is f = absurd cc
proved_alike false false false false None other is f = absurd cc
proved_alike false false false false (Some v) other is f =
    let found : SaysOf other = f (let both : Says v ≡ Says NoType = is in cc) in
    (found.0, ap (λ (o : Option Verdict). proved_by false false false false o) found.1)

no_and : (b : Bool) → (b && false) ≡ false
no_and true = refl
no_and false = refl

-- the records of a chain are of its types alone
pub of_chain : (mode : Mode) (hash : Name → List ℕ) (apex : Name) (sorted : List HandedRr) (t : ℕ) → eqb 47 t ≡ false → eqb 50 t ≡ false → (ns : List Name)
    → AllByRecursion (λ (g : ServedRrset). eqb g.rtype t ≡ false) (map (chain_record (served_of apex mode hash sorted)) ns)
of_chain mode hash apex sorted t names hashes [] = tt
of_chain Nsec hash apex sorted t names hashes (n ∷ ns) = (names, of_chain Nsec hash apex sorted t names hashes ns)
of_chain (Nsec3 iterations salt optout) hash apex sorted t names hashes (n ∷ ns) = (hashes, of_chain (Nsec3 iterations salt optout) hash apex sorted t names hashes ns)

pub unsigned : (n : Name) (t : ℕ) (gs : List ServedRrset) → AllByRecursion (λ (g : ServedRrset). eqb g.rtype t ≡ false) gs → list_any (is_signed_rrset n t) gs ≡ false
unsigned n t [] h = refl
unsigned n t (g ∷ gs) h = or_from (is_signed_rrset n t g) (list_any (is_signed_rrset n t) gs) (ap (λ b. (b && same g.owner n) && g.signed) h.0) (unsigned n t gs h.1)

module _ (a : Answers) (k : ℕ) (h : JudgeInput) (n : Name) (mode : Mode) (rs : List HandedRr) where
  abbrev s : Served
  s = served_from a h mode rs

  -- the same messages, judged for DS and for NS
  abbrev of_ds : JudgeInput
  of_ds = aside h (asking h n 43)

  abbrev of_ns : JudgeInput
  of_ns = aside h (asking h n 2)

  -- a message tells the zone's answer for DS, with signatures of these keys
  pub record TellsDs : Type 0 where
    pub read : Message
    pub reads : message k h.answer_bytes ≡ Ok read
    pub keys : List Dnskey
    pub at : ℕ
    pub life : ℕ
    pub groups_are : TellsGroups a.verifies k h.answer_bytes read.records h.apex at life keys (answer_groups s n 43)

  module _ (given : TellsDs) (none_there : verdict (zone_of h.apex rs) (optout_of mode) n 43 ≡ NoType) (below : strictly_above h.apex n ≡ true) where
    abbrev read : Message
    read = given.read

    abbrev m : List ℕ
    m = h.answer_bytes

    -- the SOA record, and the chain's that speak for the name
    abbrev groups : List ServedRrset
    groups = soa s ∷ proofs_of s (low n ∷ [])

    groups_are : answer_groups s n 43 ≡ groups
    groups_are = λ i. ahead s n 43 (none_there i) ++ proofs_of s (spoken s (low n) (verdict s.zone false n 43) (none_there i))

    tells : TellsGroups a.verifies k m read.records h.apex given.at given.life given.keys groups
    tells = subst (TellsGroups a.verifies k m read.records h.apex given.at given.life given.keys) groups_are given.groups_are

    of_types : (t : ℕ) → eqb 6 t ≡ false → eqb 47 t ≡ false → eqb 50 t ≡ false → AllByRecursion (λ (g : ServedRrset). eqb g.rtype t ≡ false) groups
    of_types t start names hashes = (start, of_chain mode (hash_in a.hash mode) h.apex (sorted_records rs) t names hashes (filter (λ o. list_any (speaks_for s o) (low n ∷ [])) (chain_names s)))

    ordinary : AllByRecursion is_ordinary groups
    ordinary = of_types 46 refl refl refl

    module _ (ks : List Dnskey) where
      abbrev w : Trusting
      w = trusting a h ks

      pub no_rrset : (t : ℕ) → eqb 6 t ≡ false → eqb 47 t ≡ false → eqb 50 t ≡ false → verified_rrset w k m read.records n t ≡ None
      no_rrset t start names hashes = verified_rrset_missing w k m read.records h.apex given.at given.life given.keys groups n t tells ordinary (unsigned n t groups (of_types t start names hashes))

      -- what the chain's records prove, of either type
      abbrev facts_with : Option Rrset → Facts
      facts_with o = record { rrset = o; links = verified_links w k m read.records; hash_links = verified_hash_links w k m read.records }

      abbrev facts : Facts
      facts = facts_with None

      pub alike : are_unlike (proof_times w k m read.records n 2) ≡ false
      alike = told_alike w k m read.records h.apex given.at given.life given.keys groups ordinary tells n 2

      answers_tell : SaysNoType (judged_answer a k of_ds ks read) → SaysSome (judged_answer a k of_ns ks read)
      answers_tell is =
          let unlike : Bool = h.one_moment && has_unlike_times a k of_ds ks read in
          let one : SaysNoType (judged_proof a of_ds facts (has_unlike_times a k of_ds ks read)) = subst (λ (o : Option Rrset). SaysNoType (judged_proof a of_ds (facts_with o) (has_unlike_times a k of_ds ks read))) (no_rrset 43 refl refl refl) is in
          let other : SaysSome (proved_by false (are_mixed facts.hash_links) (are_over h.limit facts.hash_links) (is_unhashed a of_ns facts) (decided_by a of_ns facts)) =
          proved_alike unlike (are_mixed facts.hash_links) (are_over h.limit facts.hash_links) (is_unhashed a of_ds facts) (decided_by a of_ds facts) (decided_by a of_ns facts) one
          (facts_tell h.apex n below (hash_among a.hash facts.hash_links) facts.links facts.hash_links) in (
            other.0,
            (λ i. judged_proof a of_ns (facts_with (no_rrset 2 refl refl refl i)) (alike i))
                ∙ ap (λ (b : Bool). proved_by b (are_mixed facts.hash_links) (are_over h.limit facts.hash_links) (is_unhashed a of_ns facts) (decided_by a of_ns facts)) (no_and h.one_moment)
                ∙ other.1,
          )

    messages_tell : (asked none : Bool) (dnskeys : Result Message MessageError)
        → SaysNoType (judged_by asked none dnskeys (Ok read) (first_of of_ds) (judged_messages a k of_ds)) → SaysSome (judged_by asked none dnskeys (Ok read) (first_of of_ns) (judged_messages a k of_ns))
    messages_tell false none dnskeys is = absurd cc
    messages_tell true true dnskeys is = absurd cc
    messages_tell true false (Err e) is = absurd cc
    messages_tell true false (Ok x) is = go (first_of of_ds x read) (ds_authenticates_keys a k of_ds x) is
      where
        go : (o : Option Refusal) (b : Bool)
            → SaysNoType (elim o as (λ _. Answer) [ Some e ↦ Refuses e | None ↦ chained_by b (judged_answer a k of_ds (filter is_usable (keys_of of_ds x)) read) ])
            → SaysSome (elim o as (λ _. Answer) [ Some e ↦ Refuses e | None ↦ chained_by b (judged_answer a k of_ns (filter is_usable (keys_of of_ns x)) read) ])
        go (Some e) b is = absurd cc
        go None false is = absurd cc
        go None true is = answers_tell (filter is_usable (keys_of of_ds x)) is

    pub delegation_told : SaysNoType (judged a k of_ds) → SaysSome (judged a k of_ns)
    delegation_told is =
        let one : SaysNoType (judged_by (is_judged of_ds) (nat_eq (length h.ds) 0) (message k h.dnskey_bytes) (Ok read) (first_of of_ds) (judged_messages a k of_ds)) =
        subst (λ (o : Result Message MessageError). SaysNoType (judged_by (is_judged of_ds) (nat_eq (length h.ds) 0) (message k h.dnskey_bytes) o (first_of of_ds) (judged_messages a k of_ds))) given.reads is in
        subst (λ (o : Result Message MessageError). SaysSome (judged_by (is_judged of_ds) (nat_eq (length h.ds) 0) (message k h.dnskey_bytes) o (first_of of_ns) (judged_messages a k of_ns))) (sym given.reads)
        (messages_tell (is_judged of_ds) (nat_eq (length h.ds) 0) (message k h.dnskey_bytes) one)
