-- A message that holds a zone's answer shows the facts of that.
use Rattle.std.proofs.Common.{◌≡◌, ℕ, Bool, true, false, List, ◌++◌, length, map, Option, Some, None, eqb, refl, sym, ap, subst, ◌∙◌, inl, inr, arith}
use Rattle.std.specs.Prelude.{Contains, nat_eq}
use Rattle.std.specs.List.{AllByRecursion, filter}
use Rattle.std.specs.Option.{option_map}
use Rattle.std.proofs.lemmas.Bool.{eqb-true, false≢true, or_from, or_parts}
use Rattle.std.proofs.lemmas.List.Folds.{list_any-append}
use Rattle.definitions.specs.Name.{IsLabel, Name, at_or_above, low}
use Rattle.definitions.specs.Signing.{Fields, label_count}
use Rattle.definitions.specs.Zone.{Verdict, Zone, apex_of, verdict}
use Rattle.definitions.specs.ZoneChain.{Mode, Nsec, Nsec3, optout_of}
use Rattle.definitions.proofs.Members.{In, append_in, contained, filter_in, in_append_left, in_contained, map_in}
use Rattle.definitions.proofs.ZoneNames.{above_lowered, lowered_above}
use Rattle.denial_laws.specs.Facts.{HashLink, Link, Rrset}
use Rattle.denial_laws.specs.OwnFacts.{own_hash_links, own_links, own_rrset, spoken}
use Rattle.denial_laws.specs.Truth.{IsServable}
use Rattle.denial_laws.proofs.ChainBits.{all_at}
use Rattle.fact_laws.proofs.MoreFacts.{items_in}
use Rattle.messages.specs.Handed.{IsHanded}
use Rattle.messages.specs.HandedRr.{HandedRr}
use Rattle.messages.specs.Message.{Asked, Spelled}
use Rattle.messages.proofs.Lists.{all_more, all_sorted}
use Rattle.answer_terms.specs.Accepting.{record_cmp, soas, sorted_records, zone_of, zone_with}
use Rattle.answer_terms.specs.FactsCase.{low_link}
use Rattle.answer_terms.specs.Hashing.{hash_in}
use Rattle.answer_terms.specs.Served.{Served, ServedRrset, ahead, answer_groups, proofs_of, served_of}
use Rattle.alias_laws.proofs.Orderly.{servable}
use Rattle.answer_judge_facts.specs.Verified.{Trusting, rrset_in, verified_by, verified_hash_links, verified_links, verified_rrset}
use Rattle.answer_judge_facts.proofs.JudgeCase.{rrset_in-owner}
use Rattle.answer_judge_facts.proofs.JudgeTimes.{alike_verified}
use Rattle.answer_judge.specs.Judged.{trusting}
use Rattle.answer_judge.proofs.GivenFacts.{FitsRecords, fitting, soa_has}
use Rattle.answer_judge.proofs.GivenGroups.{SaysHashLink, SaysLink, is_nsec, is_nsec3}
use Rattle.answer_judge.proofs.GivenLists.{contained_has}
use Rattle.answer_judge.proofs.GivenRrset.{is_signed_rrset}
use Rattle.answer_judge.proofs.OwnAnswer.{IsFront, Proves, own_front}
use Rattle.answer_judge.proofs.OwnBehind.{IsBehind, IsVerifiable, hashes_behind, names_behind}
use Rattle.answer_judge.proofs.OwnChain.{AreNamed}
use Rattle.message_laws.specs.Held.{HeldIsIncluded, HoldsAnswer, HoldsRrset}
use Rattle.message_laws.specs.Shown.{shown_facts}
use Rattle.message_laws.proofs.OwnTrue.{includes_due}
use Rattle.message_laws.proofs.HeldRecords.{hash_link_held, link_held, some_mapped, zip_from}

module _ (w : Trusting) (k : ℕ) (m : List ℕ) (rs : List Spelled) (apex : Name) (apex_is : w.apex ≡ apex) (mode : Mode) (hash : Name → List ℕ) (sorted : List HandedRr) (asked : Asked) where
  abbrev z : Zone
  z = zone_with apex sorted

  abbrev s : Served
  s = served_of apex mode hash sorted

  abbrev q : Name
  q = asked.name

  abbrev t : ℕ
  t = asked.rtype

  abbrev said : Verdict
  said = verdict z (optout_of mode) q t

  abbrev names : List Name
  names = spoken z mode (low q) (verdict z false q t) said

  abbrev front : List ServedRrset
  front = ahead s q t said

  abbrev chain : List ServedRrset
  chain = proofs_of s names

  module _ (held : HoldsAnswer w k m rs (answer_groups s q t) asked) (is_front : IsFront apex q t front (own_rrset z q t said)) (behind : IsBehind apex q t front chain (own_links z mode names) (own_hash_links z hash mode names)) where
    holds : (g : ServedRrset) → In g (front ++ chain) → g.signed ≡ true → HoldsRrset w k m rs g
    holds g i = all_at (λ (x : ServedRrset). x.signed ≡ true → HoldsRrset w k m rs x) (front ++ chain) g held.each i

    -- an RRset of a type that is not in front is the chain's
    of_chain : (p : ServedRrset → Bool) → AllByRecursion (λ g. p g ≡ false) front → (g : ServedRrset) → In g (front ++ chain) → p g ≡ true → IsVerifiable apex g
    of_chain p none g i e = elim (append_in front chain g i) [
      | inl f ↦ absurd (false≢true (sym (all_at (λ (x : ServedRrset). p x ≡ false) front g none f) ∙ e))
      | inr c ↦ all_at (IsVerifiable apex) chain g behind.each c
    ]

    links_there : (l : Link) → Contains (own_links z mode names) l → Contains (map low_link (verified_links w k m rs)) l
    links_there l c =
        let i : In l (map low_link behind.read) = items_in (own_links z mode names) (map low_link behind.read) (λ x d. subst (λ (ls : List Link). Contains ls x) (sym behind.lowered) d) l (in_own l c) in
        let from = map_in low_link behind.read l i in
        let group = zip_from SaysLink (filter is_nsec (front ++ chain)) behind.read from.item behind.says from.inside in
        let kept = filter_in is_nsec (front ++ chain) group.0 group.1.0 in
        let type_is : group.0.rtype ≡ 47 = eqb-true group.0.rtype 47 kept.1 in
        let can = of_chain is_nsec is_front.beside group.0 kept.0 kept.1 in
        let inside : at_or_above w.apex group.0.owner ≡ true = ap (λ n. at_or_above n group.0.owner) apex_is ∙ can.below type_is in
        let there = link_held w k m rs group.0 from.item (holds group.0 kept.0 can.signed) type_is group.1.1 inside in
        contained (map low_link (verified_links w k m rs)) l (subst (λ (x : Link). In x (map low_link (verified_links w k m rs))) (sym from.makes) there)
      where
        in_own : (x : Link) → Contains (own_links z mode names) x → In x (own_links z mode names)
        in_own x d = in_contained (own_links z mode names) x d.0 d.1 d.2

    hashes_there : (l : HashLink) → Contains (own_hash_links z hash mode names) l → Contains (verified_hash_links w k m rs) l
    hashes_there l c =
        let i : In l (own_hash_links z hash mode names) = in_contained (own_hash_links z hash mode names) l c.0 c.1 c.2 in
        let group = zip_from (SaysHashLink apex) (filter is_nsec3 (front ++ chain)) (own_hash_links z hash mode names) l behind.hashed i in
        let kept = filter_in is_nsec3 (front ++ chain) group.0 group.1.0 in
        let type_is : group.0.rtype ≡ 50 = eqb-true group.0.rtype 50 kept.1 in
        let can = of_chain is_nsec3 is_front.unhashed group.0 kept.0 kept.1 in
        let says : SaysHashLink w.apex group.0 l = subst (λ (n : Name). SaysHashLink n group.0 l) (sym apex_is) group.1.1 in
        contained (verified_hash_links w k m rs) l (hash_link_held w k m rs group.0 l (holds group.0 kept.0 can.signed) type_is says)

    -- ---- the RRset of the question

    abbrev rrset_of : List (List ℕ) → Option Fields → Option Rrset
    rrset_of items o = option_map (λ (f : Fields). record { datas = items; labels = f.labels }) o

    rrset_by : (r : Option Rrset) → Proves apex q t front r → verified_rrset w k m rs q t ≡ r
    rrset_by None h = held.other (list_any-append (is_signed_rrset q t) front chain ∙ or_from _ _ h behind.unasked)
    rrset_by (Some r) (g, there, is) =
        let c = contained_has front g there in
        let own : HoldsRrset w k m rs g = holds g (in_append_left front chain g (in_contained front g c.0 c.1 c.2)) is.signed in
        let first = some_mapped (λ (f : Fields). f.labels) (verified_by w k m rs g.owner g.rtype g.datas) (label_count g.source) own.labels_are in
        let items : rrset_in k m rs q t ≡ g.datas = rrset_in-owner k m rs q g.owner t (sym is.owner_is) ∙ ap (rrset_in k m rs g.owner) (sym is.rtype_is) ∙ own.datas_are in
        let by : verified_by w k m rs q t (rrset_in k m rs q t) ≡ Some first.0 =
        alike_verified w k m rs q g.owner t g.rtype (sym is.owner_is) (sym is.rtype_is) ∙ ap (verified_by w k m rs g.owner g.rtype) own.datas_are ∙ first.1 in
        (λ i. rrset_of (items i) (by i))
        ∙ ap (λ (n : ℕ). Some (record { datas = g.datas; labels = n })) first.2
        ∙ ap (λ (x : Rrset). Some x) is.is

-- behind the RRsets in front stand those of its chain
behind_of : (apex : Name) (mode : Mode) (hash : Name → List ℕ) (sorted : List HandedRr) (q : Name) (t : ℕ) (names : List Name) (front : List ServedRrset) (o : Option Rrset) → IsFront apex q t front o → IsServable (zone_with apex sorted) → AllByRecursion IsLabel apex → AreNamed sorted
    → eqb t 47 ≡ false → eqb t 50 ≡ false → FitsRecords (zone_with apex sorted) mode hash
    → IsBehind apex q t front (proofs_of (served_of apex mode hash sorted) names) (own_links (zone_with apex sorted) mode names) (own_hash_links (zone_with apex sorted) hash mode names)
behind_of apex Nsec hash sorted q t names front o f s labels named nsec nsec3 fits = names_behind apex sorted q t hash names front f.beside f.unhashed f.alone s labels named nsec
behind_of apex (Nsec3 iterations salt optout) hash sorted q t names front o f s labels named nsec nsec3 fits = hashes_behind apex sorted q t hash names front f.beside f.unhashed f.alone iterations salt optout fits.1 fits.0 nsec3

pub held_is_included : HeldIsIncluded
held_is_included a k h usable read mode rs asked apex_is records_are small accepted inside plain held =
    let w : Trusting = trusting a h usable in
    let hash : Name → List ℕ = hash_in a.hash mode in
    let sorted : List HandedRr = sorted_records rs in
    let z : Zone = zone_of h.apex rs in
    let one : length (soas h.apex sorted) ≡ 1 = accepted.chained.soa in
    let a46 = or_parts (nat_eq asked.rtype 46) _ plain in
    let a47 = or_parts (nat_eq asked.rtype 47) _ a46.1 in
    let a50 = or_parts (nat_eq asked.rtype 50) _ a47.1 in
    let zone_servable = servable a.hash h.apex mode h.limit rs accepted in
    let within : at_or_above (apex_of z) (low asked.name) ≡ true = above_lowered (low h.apex) asked.name ∙ lowered_above h.apex asked.name ∙ inside in
    let f = own_front h.apex mode hash sorted asked.name asked.rtype zone_servable (soa_has h.apex sorted (omega (arith, one))) a46.0 a47.0 a50.0 within in
    let owners = all_sorted (λ (r : HandedRr). AllByRecursion IsLabel r.owner) record_cmp rs (all_more IsHanded (λ r. AllByRecursion IsLabel r.owner) rs (λ r is. is.owner.labels) records_are) in
    let names : List Name = spoken z mode (low asked.name) (verdict z false asked.name asked.rtype) (verdict z (optout_of mode) asked.name asked.rtype) in
    let front : List ServedRrset = ahead (served_of h.apex mode hash sorted) asked.name asked.rtype (verdict z (optout_of mode) asked.name asked.rtype) in
    let b = behind_of h.apex mode hash sorted asked.name asked.rtype names front (own_rrset z asked.name asked.rtype (verdict z (optout_of mode) asked.name asked.rtype)) f zone_servable apex_is.labels owners a47.0 a50.0
    (fitting a.hash z mode h.limit small accepted.faultless.within_limit accepted.chained.chain) in
    includes_due z hash mode asked.name asked.rtype (shown_facts a k h usable read asked) (record {
      rrset = rrset_by w k h.answer_bytes read.records h.apex refl mode hash sorted asked held f b (own_rrset z asked.name asked.rtype (verdict z (optout_of mode) asked.name asked.rtype)) f.proves;
      links = links_there w k h.answer_bytes read.records h.apex refl mode hash sorted asked held f b;
      hash_links = hashes_there w k h.answer_bytes read.records h.apex refl mode hash sorted asked held f b;
    })
