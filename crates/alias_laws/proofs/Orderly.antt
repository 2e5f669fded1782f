-- Records that are accepted with aliases spell a zone whose aliases are in order.
use Rattle.std.proofs.Common.{◌≡◌, ℕ, ◌<◌, Bool, true, false, ◌&&◌, ◌||◌, not, List, [], ◌∷◌, map, length, refl, sym, ap, subst, ◌∙◌, inl, inr, cond, eqb, arith}
use Rattle.std.specs.Prelude.{Some, nat_eq, ◌==◌, Contains}
use Rattle.std.specs.List.{list_any, AllByRecursion}
use Rattle.std.proofs.lemmas.Bool.{and_parts, eqb-true, false≢true, or_parts}
use Rattle.definitions.specs.Name.{Name, labels_eq, low, same, strictly_above}
use Rattle.definitions.specs.Zone.{Rr, has, is_delegation, is_of, owner_of, owners, verdict}
use Rattle.definitions.specs.ZoneChain.{Mode, optout_of}
use Rattle.definitions.proofs.Members.{In, Of, any_of, contained, in_contained, map_in}
use Rattle.denial_laws.specs.Aliases.{IsOrderly, is_aliased}
use Rattle.denial_laws.specs.Truth.{IsServable, NoSharedHash, is_added_type, is_meta_type}
use Rattle.denial_laws.specs.Truth as zone
use Rattle.denial_laws.specs.Deciding.{decided}
use Rattle.denial_laws.specs.OwnFacts.{own_facts}
use Rattle.denial_laws.proofs.Complete.{own_answers_decide}
use Rattle.messages.specs.HandedRr.{HandedRr, is_meta}
use Rattle.messages.specs.Message.{Asked}
use Rattle.messages.specs.Star.{begins_with_star}
use Rattle.messages.proofs.Lists.{all_fail, all_more, all_sorted}
use Rattle.messages.proofs.ZoneNames.{labels_eq-same, same_labels, strictly_above-low}
use Rattle.answer_terms.specs.Accepted.{IsAccepted}
use Rattle.answer_terms.specs.Accepting.{delegates_star, is_added_by_signing, is_alias, record_cmp, rr_of, soas, sorted_records, zone_of}
use Rattle.answer_terms.specs.Asking.{is_allowed}
use Rattle.answer_terms.specs.Hashing.{Hasher}
use Rattle.answer_terms.proofs.Servable.{asked_inside, held_type, real_type}
use Rattle.answer_zone_records.specs.AliasFaults.{IsAcceptedWithAliases, crowds, has_data, has_disorder, is_below_dname, is_disorderly, lacks_target, redirects_star, repeats, rivals, rivals_cname, rivals_dname}
use Rattle.answer_zone_records.proofs.Disorder.{no_disorder}

-- ---- tests

pub and_right : (a b : Bool) → a ≡ true → (a && b) ≡ false → b ≡ false
and_right true b e h = h
and_right false b e h = absurd (false≢true e)

not_false : (b : Bool) → not b ≡ false → b ≡ true
not_false true h = refl
not_false false h = absurd (false≢true (sym h))

none_true : (b : Bool) → (b ≡ true → ⊥) → b ≡ false
none_true true f = absurd (f refl)
none_true false f = refl

-- ---- records

pub all_in : {A : Type 0} (P : A → Type 0) (xs : List A) (a : A) → AllByRecursion P xs → In a xs → P a
all_in P [] a p h = absurd h
all_in P (x ∷ xs) a p h = elim h [
  | inl e ↦ subst P (sym e) p.0
  | inr later ↦ all_in P xs a p.1 later
]

-- a record of the zone that has a name and a type
record IsAt (rs : List HandedRr) (o : Name) (t : ℕ) : Type 0 where
  record_of : HandedRr
  inside : In record_of (sorted_records rs)
  owner_is : low record_of.owner ≡ o
  type_is : record_of.rtype ≡ t

at_from : (rs : List HandedRr) (o : Name) (t : ℕ) (x : Rr) (r : HandedRr) → In r (sorted_records rs) → x ≡ rr_of r → is_of o t x ≡ true → IsAt rs o t
at_from rs o t x r inside is e =
    let both = and_parts (labels_eq (low r.owner) o) (r.rtype == t) (ap (is_of o t) (sym is) ∙ e) in
    record { record_of = r; inside = inside; owner_is = same_labels (low r.owner) o both.0; type_is = eqb-true r.rtype t both.1 }

at : (apex : Name) (rs : List HandedRr) (o : Name) (t : ℕ) → has (zone_of apex rs) o t ≡ true → IsAt rs o t
at apex rs o t e =
    let f = any_of (is_of o t) (map rr_of (sorted_records rs)) e in
    let m : Of (λ (r : HandedRr) (x : Rr). x ≡ rr_of r) (sorted_records rs) f.0 = map_in rr_of (sorted_records rs) f.0 f.1.0 in
    at_from rs o t f.0 m.item m.inside m.makes f.1.1

-- no alias is crowded by another record
module _ (apex : Name) (rs : List HandedRr) (orderly : has_disorder apex (sorted_records rs) ≡ false) where
  uncrowded : (r s : HandedRr) → In r (sorted_records rs) → In s (sorted_records rs) → is_alias r ≡ true → crowds apex r s ≡ false
  uncrowded r s i j alias =
      let ss = sorted_records rs in
      let each = all_fail (is_disorderly apex ss) ss orderly in
      let crowd = list_any (crowds apex r) ss in
      let none = and_right (is_alias r) (lacks_target r || redirects_star r || crowd) alias (all_in (λ q. is_disorderly apex ss q ≡ false) ss r each i) in
      let free = (or_parts (lacks_target r || redirects_star r) crowd none).1 in
      all_in (λ q. crowds apex r q ≡ false) ss s (all_fail (crowds apex r) ss free) j

  same_owners : (o p : Name) (r s : HandedRr) → low r.owner ≡ o → low s.owner ≡ p → o ≡ p → same r.owner s.owner ≡ true
  same_owners o p r s a b c = labels_eq-same (low r.owner) (low s.owner) (a ∙ c ∙ sym b)

  -- a record of an alias's owner is no rival
  unrivalled : (r s : HandedRr) → In r (sorted_records rs) → In s (sorted_records rs) → is_alias r ≡ true → same s.owner r.owner ≡ true → rivals apex r s ≡ false
  unrivalled r s i j alias e =
      and_right (same s.owner r.owner) (rivals apex r s) e (or_parts (same s.owner r.owner && rivals apex r s) (is_below_dname r s) (uncrowded r s i j alias)).0

  -- nothing stands beside a CNAME
  alone : (o : Name) (t : ℕ) → has (zone_of apex rs) o 5 ≡ true → has (zone_of apex rs) o t ≡ true → t ≡ 5
  alone o t c h =
      let a = at apex rs o 5 c in
      let b = at apex rs o t h in
      let r = a.record_of in
      let s = b.record_of in
      let cname : (r.rtype == 5) ≡ true = ap (λ n. eqb n 5) a.type_is in
      let alias : is_alias r ≡ true = ap (λ n. list_any (nat_eq n) (5 ∷ 39 ∷ [])) a.type_is in
      let free = (or_parts (rivals_cname r s) (rivals_dname apex r s) (unrivalled r s a.inside b.inside alias (same_owners o o s r b.owner_is a.owner_is refl))).0 in
      let repeated = not_false (repeats r s) (and_right (r.rtype == 5) (not (repeats r s)) cname free) in
      sym b.type_is ∙ eqb-true s.rtype r.rtype (and_parts (s.rtype == r.rtype) (has_data r s) repeated).0 ∙ a.type_is

  -- no DNAME stands at a delegation
  uncut : (o : Name) → has (zone_of apex rs) o 39 ≡ true → is_delegation (zone_of apex rs) o ≡ false
  uncut o d = none_true (is_delegation (zone_of apex rs) o) (λ e.
      let both = and_parts (has (zone_of apex rs) o 2) (strictly_above (low apex) o) e in
      let a = at apex rs o 39 d in
      let b = at apex rs o 2 both.0 in
      let r = a.record_of in
      let s = b.record_of in
      let dname : (r.rtype == 39) ≡ true = ap (λ n. eqb n 39) a.type_is in
      let alias : is_alias r ≡ true = ap (λ n. list_any (nat_eq n) (5 ∷ 39 ∷ [])) a.type_is in
      let free = (or_parts (rivals_cname r s) (rivals_dname apex r s) (unrivalled r s a.inside b.inside alias (same_owners o o s r b.owner_is a.owner_is refl))).1 in
      let either = and_right (r.rtype == 39) (((s.rtype == 39) && not (has_data r s)) || ((s.rtype == 2) && strictly_above apex s.owner)) dname free in
      let ns : (s.rtype == 2) ≡ true = ap (λ n. eqb n 2) b.type_is in
      let none = and_right (s.rtype == 2) (strictly_above apex s.owner) ns (or_parts ((s.rtype == 39) && not (has_data r s)) ((s.rtype == 2) && strictly_above apex s.owner) either).1 in
      false≢true (sym none ∙ sym (strictly_above-low apex s.owner) ∙ ap (strictly_above (low apex)) b.owner_is ∙ both.1))

  -- nothing stands below a DNAME
  childless : (o below : Name) → has (zone_of apex rs) o 39 ≡ true → Contains (owners (zone_of apex rs)) below → strictly_above o below ≡ false
  childless o below d c =
      let a = at apex rs o 39 d in
      let r = a.record_of in
      let x : Of (λ (y : Rr) (n : Name). n ≡ owner_of y) (map rr_of (sorted_records rs)) below = map_in owner_of (map rr_of (sorted_records rs)) below (in_contained (owners (zone_of apex rs)) below c.0 c.1 c.2) in
      let m : Of (λ (s : HandedRr) (y : Rr). y ≡ rr_of s) (sorted_records rs) x.item = map_in rr_of (sorted_records rs) x.item x.inside in
      let s = m.item in
      let owner : low s.owner ≡ below = sym (x.makes ∙ ap owner_of m.makes) in
      let dname : (r.rtype == 39) ≡ true = ap (λ n. eqb n 39) a.type_is in
      let alias : is_alias r ≡ true = ap (λ n. list_any (nat_eq n) (5 ∷ 39 ∷ [])) a.type_is in
      let none = and_right (r.rtype == 39) (strictly_above r.owner s.owner) dname (or_parts (same s.owner r.owner && rivals apex r s) (is_below_dname r s) (uncrowded r s a.inside m.inside alias)).1 in
      (λ i. strictly_above (sym a.owner_is i) (sym owner i)) ∙ strictly_above-low r.owner s.owner ∙ none

  in_order : IsOrderly (zone_of apex rs)
  in_order = record { alone = alone; uncut = uncut; childless = childless }

-- ---- the zone

all_mapped : {A B : Type 0} (P : B → Type 0) (f : A → B) (xs : List A) → AllByRecursion (λ x. P (f x)) xs → AllByRecursion P (map f xs)
all_mapped P f [] h = tt
all_mapped P f (x ∷ xs) h = (h.0, all_mapped P f xs h.1)

star_first : (n : Name) → zone.is_star n ≡ begins_with_star n
star_first [] = refl
star_first (l ∷ n) = refl

apex_or_later : (apex : Name) (r : HandedRr) (rs : List HandedRr) (b : Bool) → (same r.owner apex && (r.rtype == 6)) ≡ b → (0 < length (soas apex rs) → In (low apex) (map owner_of (map rr_of rs))) → 0 < length (cond b (r ∷ soas apex rs) (soas apex rs)) → In (low apex) (map owner_of (map rr_of (r ∷ rs)))
apex_or_later apex r rs true e later h = inl (sym (same_labels (low r.owner) (low apex) (and_parts (same r.owner apex) (r.rtype == 6) e).0))
apex_or_later apex r rs false e later h = inr (later h)

-- an SOA record at the apex has the apex as its owner
apex_in : (apex : Name) (rs : List HandedRr) → 0 < length (soas apex rs) → In (low apex) (map owner_of (map rr_of rs))
apex_in apex [] h = absurd (omega arith)
apex_in apex (r ∷ rs) h = apex_or_later apex r rs (same r.owner apex && (r.rtype == 6)) refl (apex_in apex rs) h

pub servable : (hasher : Hasher) (apex : Name) (mode : Mode) (limit : ℕ) (rs : List HandedRr) → IsAcceptedWithAliases hasher apex mode limit rs → IsServable (zone_of apex rs)
servable hasher apex mode limit rs a =
    let sorted = sorted_records rs in
    let some : 0 < length (soas apex sorted) = (let one : length (soas apex sorted) ≡ 1 = a.chained.soa in omega arith) in
    let signing = all_fail is_added_by_signing rs a.faultless.plain.unsigned in
    let stars = all_fail delegates_star rs a.faultless.plain.no_star_delegation in
    record {
      apex = contained (map owner_of (map rr_of sorted)) (low apex) (apex_in apex sorted some);
      typed = all_mapped (λ (r : Rr). r.rtype < 65536) rr_of sorted (all_sorted (λ (r : HandedRr). r.rtype < 65536) record_cmp rs
          (all_more (λ r. is_meta r ≡ false) (λ r. r.rtype < 65536) rs held_type (all_fail is_meta rs a.faultless.plain.known)));
      ordinary = all_mapped (λ (r : Rr). is_added_type r.rtype ≡ false) rr_of sorted (all_sorted (λ (r : HandedRr). is_added_type r.rtype ≡ false) record_cmp rs signing);
      real = all_mapped (λ (r : Rr). is_meta_type r.rtype ≡ false) rr_of sorted (all_sorted (λ (r : HandedRr). is_meta_type r.rtype ≡ false) record_cmp rs
          (all_more (λ r. is_meta r ≡ false) (λ r. is_meta_type r.rtype ≡ false) rs real_type (all_fail is_meta rs a.faultless.plain.known)));
      stars = all_mapped (λ (r : Rr). zone.delegates_star r ≡ false) rr_of sorted (all_sorted (λ (r : HandedRr). zone.delegates_star (rr_of r) ≡ false) record_cmp rs
          (all_more (λ r. delegates_star r ≡ false) (λ r. zone.delegates_star (rr_of r) ≡ false) rs
          (λ r e. ap (λ b. (r.rtype == 2) && b) (star_first r.owner) ∙ e) stars));
      aliases = in_order apex rs a.faultless.aliases;
    }

-- the zone's own answer decides of a name that is no alias
pub answers_decide : (hasher : Hasher) (apex : Name) (mode : Mode) (limit : ℕ) (rs : List HandedRr) (hash : Name → List ℕ) (asked : Asked) → IsAcceptedWithAliases hasher apex mode limit rs → is_allowed apex asked ≡ true → asked.rtype < 65536 → NoSharedHash (zone_of apex rs) hash mode asked.name → is_aliased (zone_of apex rs) (optout_of mode) asked.name asked.rtype ≡ false → decided apex hash (own_facts (zone_of apex rs) hash mode asked.name asked.rtype) asked.name asked.rtype ≡ Some (verdict (zone_of apex rs) (optout_of mode) asked.name asked.rtype)
answers_decide hasher apex mode limit rs hash asked a e short none free =
    let k = asked_inside apex asked e in
    own_answers_decide (zone_of apex rs) hash mode asked.name asked.rtype (servable hasher apex mode limit rs a) none short (k.inside rs) k.asked_type free

-- ---- records without aliases

pub accepted_with_aliases : (hasher : Hasher) (apex : Name) (mode : Mode) (limit : ℕ) (rs : List HandedRr) → IsAccepted hasher apex mode limit rs → IsAcceptedWithAliases hasher apex mode limit rs
accepted_with_aliases hasher apex mode limit rs a = record {
  faultless = record {
    plain = record {
      of_class_in = a.faultless.of_class_in;
      inside = a.faultless.inside;
      unsigned = a.faultless.unsigned;
      known = a.faultless.known;
      no_star_delegation = a.faultless.no_star_delegation;
    };
    aliases = no_disorder apex rs a.faultless.no_alias;
    within_limit = a.faultless.within_limit;
  };
  chained = record { soa = a.soa; ttls = a.ttls; chain = a.chain };
}
