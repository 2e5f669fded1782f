-- Nothing is forged in what a publisher gave: each of its signatures is over the RRset that it covers.
use Rattle.std.proofs.Common.{◌≡◌, ℕ, Bool, true, false, ◌&&◌, List, [], ◌∷◌, ◌++◌, map, Option, Some, None, eqb, length, ◌<◌, refl, sym, ap, subst, ◌∙◌, inl, inr, arith, lit<}
use Rattle.std.specs.Prelude.{◌==◌, Contains, if◌then◌else◌}
use Rattle.std.specs.List.{AllByRecursion, filter}
use Rattle.std.proofs.lemmas.Bool.{false≢true}
use Rattle.definitions.specs.Dnskey.{Dnskey, dnskey_data}
use Rattle.definitions.specs.Name.{Name, labels_eq, low}
use Rattle.definitions.specs.Signing.{Fields, signed_octets}
use Rattle.definitions.specs.Zone.{Verdict, Records, NoType, NoName, StarRecords, StarNoType, Delegated, Open, Unsigned, Rr, apex_of, ce, cut, has, is_of, sorted_data, star_under, verdict}
use Rattle.definitions.specs.ZoneChain.{Mode, Nsec, Nsec3, optout_of}
use Rattle.messages.specs.HandedRr.{HandedRr}
use Rattle.messages.specs.Handed.{IsHanded}
use Rattle.messages.specs.Message.{AreOctets, Asked, Message, Spelled}
use Rattle.messages.specs.WrittenLaws.{IsQuestion}
use Rattle.messages.proofs.Lists.{Has, all_at, all_more, all_sorted, eqb-back, some_is}
use Rattle.answer_terms.specs.Accepting.{record_cmp, soas, sorted_records, zone_of}
use Rattle.answer_terms.specs.Hashing.{hash_in}
use Rattle.answer_terms.specs.Made.{IsShortGroup, OfZone}
use Rattle.answer_terms.specs.Served.{ServedRrset, Served, ahead, ahead_open, answer_groups, by_tag, chain_record, expanded, if_any, key_group, proofs_of, rrset, served_of, soa, spoken, unsigned_ns}
use Rattle.answer_terms.specs.Told.{fields_for, octets_for}
use Rattle.answer_terms.proofs.AllowedTypes.{unadded, unsigned_from}
use Rattle.answer_terms.proofs.Servable.{servable}
use Rattle.denial_laws.specs.Truth.{IsServable}
use Rattle.answer_judge_facts.specs.Verified.{Trusting, rrset_in}
use Rattle.answer_judge_facts.proofs.GivenSorted.{sorted_twice}
use Rattle.answer_judge_facts.proofs.JudgeCase.{rrset_in-owner, signed_octets-owner}
use Rattle.answer_judge.specs.Honest.{IsHonest, NothingForged, Signing, WasSigned, sought_of_answer}
use Rattle.answer_judge.specs.Judging.{JudgeInput}
use Rattle.answer_judge_facts.specs.DnskeyAnswer.{keys_in}
use Rattle.answer_judge.specs.OwnFacts.{TellsZone}
use Rattle.answer_judge.specs.OwnMessages.{OwnAnswersAreHonest, OwnKeysAreHonest, signing_of}
use Rattle.answer_judge.proofs.GivenChained.{keys_data}
use Rattle.answer_judge.proofs.GivenFacts.{FitsRecords, IsToldBy, fitting, groups_alone, groups_ordinary, soa_has, told_by}
use Rattle.answer_judge.proofs.GivenGroups.{has_twins}
use Rattle.answer_judge.proofs.GivenLists.{has_contained}
use Rattle.answer_judge.proofs.GivenRecords.{rrset_given}
use Rattle.answer_judge.proofs.GivenRrset.{all_joined, is_ordinary}
use Rattle.answer_judge.proofs.HonestUsed.{not_keys}
use Rattle.answer_judge.proofs.HonestKeys.{keys_read}
use Rattle.answer_judge.proofs.HonestMade.{IsRoomy, chain_fits, kind_of, kind_roomy}
use Rattle.answer_judge.proofs.HonestOwn.{keys_signed, kind_signed}
use Rattle.answer_judge.proofs.HonestReads.{IsDatum, message_read, rrset_read}
use Rattle.answer_judge.proofs.Spliced.{IsSignatureOf, ok_is, signature_of}

-- ---- RRsets of an answer

-- data that ascend, each once, of another type than DNSKEY
record IsPlain (g : ServedRrset) : Type 0 where
  pub sorted : sorted_data g.datas ≡ g.datas
  pub other : eqb g.rtype 48 ≡ false

rrset_plain : (s : Served) (o : Name) (t : ℕ) → eqb t 48 ≡ false → IsPlain (rrset s o t)
rrset_plain s o t n = record { sorted = sorted_twice (map (λ (r : Rr). r.bytes) (filter (is_of o t) s.zone.records)); other = n }

soa_plain : (s : Served) → IsPlain (soa s)
soa_plain s = rrset_plain s (apex_of s.zone) 6 refl

-- of a record that is alone
one_plain : (g : ServedRrset) (d : List ℕ) → g.datas ≡ d ∷ [] → eqb g.rtype 48 ≡ false → IsPlain g
one_plain g d is n = record { sorted = ap sorted_data is ∙ sym is; other = n }

chain_plain : (apex : Name) (mode : Mode) (hash : Name → List ℕ) (rs : List HandedRr) (o : Name) → IsPlain (chain_record (served_of apex mode hash rs) o)
chain_plain apex Nsec hash rs o = one_plain (chain_record (served_of apex Nsec hash rs) o) _ refl refl
chain_plain apex (Nsec3 iterations salt optout) hash rs o = one_plain (chain_record (served_of apex (Nsec3 iterations salt optout) hash rs) o) _ refl refl

module _ (s : Served) (q : Name) (t : ℕ) (other : eqb t 48 ≡ false) where
  -- a wildcard's, under the name
  star_plain : (o : Option Name) → AllByRecursion IsPlain (elim o as (λ _. List ServedRrset) [ None ↦ [] | Some e ↦ expanded s (star_under e) q t ])
  star_plain None = tt
  star_plain (Some e) = let is = rrset_plain s (star_under e) t other in (record { sorted = is.sorted; other = other }, tt)

  ns_plain : (c : Name) → AllByRecursion IsPlain (unsigned_ns s c)
  ns_plain c = let is = rrset_plain s c 2 refl in (record { sorted = is.sorted; other = refl }, tt)

  ds_plain : (c : Name) → AllByRecursion IsPlain (if_any s c 43)
  ds_plain c = go (has s.zone c 43)
    where
      go : (b : Bool) → AllByRecursion IsPlain (if b then rrset s c 43 ∷ [] else [])
      go true = (rrset_plain s c 43 refl, tt)
      go false = tt

  cut_plain : (o : Option Name) → AllByRecursion IsPlain (elim o as (λ _. List ServedRrset) [ None ↦ [] | Some c ↦ unsigned_ns s c ++ if_any s c 43 ])
  cut_plain None = tt
  cut_plain (Some c) = all_joined IsPlain (unsigned_ns s c) (if_any s c 43) (ns_plain c) (ds_plain c)

  left_plain : (o : Option Name) → AllByRecursion IsPlain (elim o as (λ _. List ServedRrset) [ None ↦ soa s ∷ [] | Some c ↦ if labels_eq c (low q) && (t == 43) then soa s ∷ [] else unsigned_ns s c ])
  left_plain None = (soa_plain s, tt)
  left_plain (Some c) = go (labels_eq c (low q) && (t == 43))
    where
      go : (b : Bool) → AllByRecursion IsPlain (if b then soa s ∷ [] else unsigned_ns s c)
      go true = (soa_plain s, tt)
      go false = ns_plain c

  open_plain : (v : Verdict) → AllByRecursion IsPlain (ahead_open s q t v)
  open_plain (Records ds) = left_plain (cut s.zone (low q))
  open_plain NoType = left_plain (cut s.zone (low q))
  open_plain NoName = left_plain (cut s.zone (low q))
  open_plain (StarRecords ds) = star_plain (ce s.zone (low q))
  open_plain StarNoType = left_plain (cut s.zone (low q))
  open_plain Delegated = left_plain (cut s.zone (low q))
  open_plain Open = left_plain (cut s.zone (low q))
  open_plain Unsigned = left_plain (cut s.zone (low q))

  ahead_plain : (v : Verdict) → AllByRecursion IsPlain (ahead s q t v)
  ahead_plain (Records ds) = let is = rrset_plain s (low q) t other in (record { sorted = is.sorted; other = other }, tt)
  ahead_plain NoType = (soa_plain s, tt)
  ahead_plain NoName = (soa_plain s, tt)
  ahead_plain (StarRecords ds) = star_plain (ce s.zone (low q))
  ahead_plain StarNoType = (soa_plain s, tt)
  ahead_plain Delegated = cut_plain (cut s.zone (low q))
  ahead_plain Open = open_plain (verdict s.zone false q t)
  ahead_plain Unsigned = tt

each_plain : (f : Name → ServedRrset) → ((o : Name) → IsPlain (f o)) → (ns : List Name) → AllByRecursion IsPlain (map f ns)
each_plain f h [] = tt
each_plain f h (n ∷ ns) = (h n, each_plain f h ns)

answer_plain : (apex : Name) (mode : Mode) (hash : Name → List ℕ) (rs : List HandedRr) (q : Name) (t : ℕ) → eqb t 48 ≡ false → AllByRecursion IsPlain (answer_groups (served_of apex mode hash rs) q t)
answer_plain apex mode hash rs q t other =
    let s : Served = served_of apex mode hash rs in
    let v : Verdict = verdict s.zone (optout_of mode) q t in
    all_joined IsPlain (ahead s q t v) (proofs_of s (spoken s (low q) (verdict s.zone false q t) v)) (ahead_plain s q t other v) (each_plain (chain_record s) (chain_plain apex mode hash rs) _)

-- ---- messages

-- octets over an RRset of which fields, owner and data are known
over_is : (f g : Fields) (r : Spelled) (owner : Name) (ds es : List (List ℕ)) → f ≡ g → ds ≡ es → low r.owner ≡ low owner → signed_octets f r.owner 1 ds ≡ signed_octets g owner 1 es
over_is f g r owner ds es is contents owners = ap (signed_octets f r.owner 1) contents ∙ ap (λ (x : Fields). signed_octets x r.owner 1 es) is ∙ signed_octets-owner g r.owner owner es owners

-- data that were read are no longer than a record can say
short_read : (g : ServedRrset) (ds : List (List ℕ)) → AllByRecursion IsDatum ds → ds ≡ g.datas → IsShortGroup g
short_read g ds are is = subst (λ ds. AllByRecursion (λ (d : List ℕ). length d < 65536) ds) is (all_more IsDatum (λ (d : List ℕ). length d < 65536) ds (λ d i. i.short) are)

-- the RRsets of an answer
abbrev told_groups : Trusting → Mode → List HandedRr → Asked → List ServedRrset
told_groups w mode rs asked = answer_groups (served_of w.apex mode (hash_in w.answers.hash mode) (sorted_records rs)) asked.name asked.rtype

module _ (w : Trusting) (k : ℕ) (mode : Mode) (rs : List HandedRr) (h : JudgeInput) (published : List Dnskey) (signings : List Signing) (same_apex : h.apex ≡ w.apex) (octets : AreOctets h.answer_bytes) (asked_is : IsQuestion h.asked)
    (t : TellsZone w k mode rs h.asked h.answer_bytes) (there : Contains signings (signing_of mode rs t.at t.life)) where
  abbrev hash : Name → List ℕ
  hash = hash_in w.answers.hash mode

  abbrev sorted : List HandedRr
  sorted = sorted_records rs

  abbrev groups : List ServedRrset
  groups = told_groups w mode rs h.asked

  abbrev rs_told : List Spelled
  rs_told = t.told.read.records

  told : IsToldBy w k h.answer_bytes rs_told w.apex mode hash sorted h.asked.name h.asked.rtype
  told = told_by w k mode rs h.asked h.answer_bytes t

  fits : FitsRecords (zone_of w.apex rs) mode hash
  fits = fitting w.answers.hash (zone_of w.apex rs) mode t.limit t.short_limit t.accepted.faultless.within_limit t.accepted.chain

  ordinary : AllByRecursion is_ordinary groups
  ordinary = groups_ordinary w k h.answer_bytes rs_told w.apex mode hash sorted h.asked.name h.asked.rtype told fits

  alone : has_twins groups ≡ false
  alone = groups_alone w k h.answer_bytes rs_told w.apex mode hash sorted h.asked.name h.asked.rtype told fits

  types : AllByRecursion (λ (g : ServedRrset). g.rtype ≡ 46 → ⊥) groups
  types = all_more is_ordinary (λ (g : ServedRrset). g.rtype ≡ 46 → ⊥) groups (λ g n e. false≢true (sym n ∙ ap (λ u. eqb u 46) e)) ordinary

  plain : AllByRecursion IsPlain groups
  plain = answer_plain w.apex mode hash sorted h.asked.name h.asked.rtype (not_keys h.asked.rtype (unadded h.asked.rtype (unsigned_from w.apex h.asked t.allowed)))

  handed : AllByRecursion IsHanded sorted
  handed = all_sorted IsHanded record_cmp rs t.records_are

  zone_servable : IsServable (zone_of w.apex rs)
  zone_servable = servable w.answers.hash w.apex mode t.limit rs t.accepted

  soa_one : length (soas w.apex sorted) ≡ 1
  soa_one = t.accepted.soa

  -- an RRset of it that has signatures was signed
  group_signed : (g : ServedRrset) (key : Dnskey) → Has groups g → g.signed ≡ true → IsShortGroup g → WasSigned w.answers w.apex published signings (octets_for w.apex t.at t.life g key)
  group_signed g key i signed short =
      let kind = kind_of w.apex mode hash sorted zone_servable (soa_has w.apex sorted (omega (arith, soa_one))) t.apex_is handed published (OfZone h.asked) g (asked_is, t.allowed) i signed in
      let roomy = kind_roomy w.apex mode hash sorted t.apex_is handed (chain_fits w.answers.hash w.apex mode rs t.accepted.chain) published g signed kind in
      kind_signed w.answers w.apex mode rs published signings t.at t.life t.apex_is there handed zone_servable t.accepted.chain g key roomy short kind

  unforged : NothingForged w.answers k h published (WasSigned w.answers w.apex published signings) (sought_of_answer k h) h.answer_bytes
  unforged read r f signature key reads used known usable some passes =
      let same : read ≡ t.told.read = ok_is read t.told.read (sym reads ∙ t.told.reads) in
      let here : Has rs_told r = subst (λ (x : Message). Has x.records r) same (has_contained read.records r used.there) in
      let x : IsSignatureOf w.answers.verifies k h.answer_bytes r w.apex t.at t.life t.keys groups = signature_of w.answers.verifies k h.answer_bytes rs_told w.apex t.at t.life t.keys groups r types t.told.groups_are here used.rtype_is in
      let one : (f, signature) ≡ (fields_for w.apex t.at t.life x.group x.key, x.is.signature) = some_is (f, signature) (fields_for w.apex t.at t.life x.group x.key, x.is.signature) (sym used.reads ∙ x.is.fields_are) in
      let fields : f ≡ fields_for w.apex t.at t.life x.group x.key = ap (λ (y : Fields × List ℕ). y.0) one in
      let is : IsPlain x.group = all_at IsPlain groups x.group plain x.inside in
      let ds : List (List ℕ) = rrset_in k h.answer_bytes read.records r.owner f.covered in
      let covers : ds ≡ x.group.datas =
      ap (λ (y : Message). rrset_in k h.answer_bytes y.records r.owner f.covered) same
      ∙ ap (λ (y : Fields). rrset_in k h.answer_bytes rs_told r.owner y.covered) fields
      ∙ rrset_in-owner k h.answer_bytes rs_told r.owner x.group.owner x.group.rtype x.is.owner_is
      ∙ rrset_given w.answers.verifies k h.answer_bytes rs_told w.apex t.at t.life t.keys groups x.group.owner x.group.rtype x.group (eqb-back 46 x.group.rtype ∙ all_at is_ordinary groups x.group ordinary x.inside) t.told.groups_are alone x.inside refl refl
      ∙ is.sorted in
      let short : IsShortGroup x.group = short_read x.group ds (rrset_read k h.answer_bytes read.records r.owner f.covered octets (message_read k h.answer_bytes read octets reads)) covers in
      subst (WasSigned w.answers w.apex published signings) (sym (over_is f (fields_for w.apex t.at t.life x.group x.key) r x.group.owner ds x.group.datas fields covers x.is.owner_is))
      (group_signed x.group x.key x.inside x.signed short)

  pub answer_honest : IsHonest w.answers k h published (WasSigned w.answers h.apex published signings) (sought_of_answer k h) h.answer_bytes
  answer_honest = record { octets_are = octets; unforged = subst (λ n. NothingForged w.answers k h published (WasSigned w.answers n published signings) (sought_of_answer k h) h.answer_bytes) (sym same_apex) unforged }

pub own_answers_are_honest : OwnAnswersAreHonest
own_answers_are_honest w k mode rs h published signings same_apex octets asked_is t there = answer_honest w k mode rs h published signings same_apex octets asked_is t there

pub own_keys_are_honest : OwnKeysAreHonest
own_keys_are_honest a k ttl h present signers published at life signings apex_is octets small of tells = record {
  octets_are = octets;
  unforged = λ read r f signature key reads used known usable some passes.
      let g : ServedRrset = key_group h.apex ttl present in
      let same : read ≡ tells.read = ok_is read tells.read (sym reads ∙ tells.reads) in
      let here : Has tells.read.records r = subst (λ (x : Message). Has x.records r) same (has_contained read.records r used.there) in
      let x : IsSignatureOf a.verifies k h.dnskey_bytes r h.apex at life (by_tag signers) (g ∷ []) = signature_of a.verifies k h.dnskey_bytes tells.read.records h.apex at life (by_tag signers) (g ∷ []) r ((λ e. false≢true (ap (λ u. eqb u 46) e)), tt) tells.groups_are here used.rtype_is in
      let one : (f, signature) ≡ (fields_for h.apex at life x.group x.key, x.is.signature) = some_is (f, signature) (fields_for h.apex at life x.group x.key, x.is.signature) (sym used.reads ∙ x.is.fields_are) in
      let is : x.group ≡ g = only g x.group x.inside in
      let fields : f ≡ fields_for h.apex at life g x.key = ap (λ (y : Fields × List ℕ). y.0) one ∙ ap (λ (y : ServedRrset). fields_for h.apex at life y x.key) is in
      let owner : low r.owner ≡ low h.apex = x.is.owner_is ∙ ap (λ (y : ServedRrset). low y.owner) is in
      let ds : List (List ℕ) = sorted_data (map dnskey_data (keys_in h.dnskey_bytes h.apex read.records)) in
      let covers : ds ≡ g.datas =
      ap (λ (y : Message). sorted_data (map dnskey_data (keys_in h.dnskey_bytes h.apex y.records))) same
      ∙ ap sorted_data (keys_data a.verifies k ttl h.apex present signers at life h.dnskey_bytes tells small)
      ∙ sorted_twice (map dnskey_data present) in
      let short : IsShortGroup g = short_read g ds (keys_read h.dnskey_bytes h.apex read.records octets (message_read k h.dnskey_bytes read octets reads)) covers in
      let roomy : IsRoomy g = record { small = lit< tt; named = apex_is; some = subst (λ ds. 0 < length ds) covers some } in
      subst (WasSigned a h.apex published signings) (sym (over_is f (fields_for h.apex at life g x.key) r h.apex ds g.datas fields covers owner))
      (keys_signed a h.apex Nsec [] published signings at life apex_is present ttl x.key of roomy short);
}
  where
    only : (g x : ServedRrset) → Has (g ∷ []) x → x ≡ g
    only g x i = elim i [ inl e ↦ e | inr none ↦ absurd none ]
