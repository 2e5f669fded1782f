-- Laws of the aliases of accepted records, from those of their zone.
use Rattle.std.proofs.Common.{◌≡◌, ℕ, ◌<◌, true, false, ◌||◌, List, [], ◌∷◌, map, Some, None, refl, sym, ap, ◌∙◌, eqb-true}
use Rattle.std.specs.Prelude.{◌==◌, Contains}
use Rattle.std.specs.List.{AllByRecursion, list_any}
use Rattle.std.proofs.lemmas.Bool.{and_parts, false≢true, false_from_ne_true, or_parts}
use Rattle.definitions.specs.Name.{Name, labels_eq}
use Rattle.definitions.specs.Zone.{is_of, owner_of, verdict}
use Rattle.definitions.specs.ZoneChain.{Mode, optout_of}
use Rattle.definitions.proofs.Members.{In, in_contained}
use Rattle.denial_laws.specs.Aliases.{is_aliased}
use Rattle.denial_laws.specs.Deciding.{decided}
use Rattle.denial_laws.specs.OwnFacts.{own_facts}
use Rattle.denial_laws.specs.Truth.{NoSharedHash}
use Rattle.messages.specs.Handed.{AreHanded, IsHanded}
use Rattle.messages.specs.HandedRr.{HandedRr, among}
use Rattle.messages.proofs.Lists.{all_fail, all_sorted}
use Rattle.answer_terms.specs.Accepted.{IsAccepted}
use Rattle.answer_terms.specs.Accepting.{is_alias, record_cmp, rr_of, sorted_records, zone_of}
use Rattle.answer_terms.specs.Hashing.{Hasher}
use Rattle.answer_zone.specs.Finding.{finds, redirecting}
use Rattle.answer_zone_records.specs.AliasFaults.{HasTarget, IsAcceptedWithAliases, crowds, is_disorderly, lacks_target, redirects_star}
use Rattle.answer_zone_records.specs.ZoneInOrder.{AreZoneRecords}
use Rattle.answer_zone_records.proofs.Targets.{target}
use Rattle.alias_laws.specs.Leading.{leads_elsewhere}
use Rattle.alias_laws.proofs.FoundFacts.{found_decides}
use Rattle.alias_laws.proofs.Leading.{aliased_is_led, none_led, redirecting_found}
use Rattle.alias_laws.proofs.Orderly.{all_in, and_right, servable}

-- ---- targets

pub targets : (apex : Name) (rs : List HandedRr) (r : HandedRr) → AreZoneRecords apex rs → AreHanded apex rs → Contains rs r → is_alias r ≡ true → HasTarget r
targets apex rs r p h c a =
    let i : In r rs = in_contained rs r c.0 c.1 c.2 in
    let each = all_fail (is_disorderly apex rs) rs p.aliases in
    let none = and_right (is_alias r) (lacks_target r || redirects_star r || list_any (crowds apex r) rs) a (all_in (λ q. is_disorderly apex rs q ≡ false) rs r each i) in
    target r (all_in IsHanded rs r h.records_are i) a (or_parts (lacks_target r) (redirects_star r) (or_parts (lacks_target r || redirects_star r) (list_any (crowds apex r) rs) none).0).0

-- ---- where the zone leads

pub aliases_led : (hasher : Hasher) (apex : Name) (mode : Mode) (limit : ℕ) (rs : List HandedRr) (name : Name) (t : ℕ) → IsAcceptedWithAliases hasher apex mode limit rs → is_aliased (zone_of apex rs) false name t ≡ leads_elsewhere (zone_of apex rs) name t
aliases_led hasher apex mode limit rs name t a = aliased_is_led (zone_of apex rs) (servable hasher apex mode limit rs a) name t

pub redirectors_found : (hasher : Hasher) (apex : Name) (mode : Mode) (limit : ℕ) (rs : List HandedRr) (name owner : Name) → IsAcceptedWithAliases hasher apex mode limit rs → redirecting (zone_of apex rs) name ≡ Some owner → finds (zone_of apex rs) owner 39 ≡ true
redirectors_found hasher apex mode limit rs name owner a e = redirecting_found (zone_of apex rs) (servable hasher apex mode limit rs a) name owner e

pub answers_decide_found : (hasher : Hasher) (apex : Name) (mode : Mode) (limit : ℕ) (rs : List HandedRr) (hash : Name → List ℕ) (name : Name) (t : ℕ) → IsAcceptedWithAliases hasher apex mode limit rs → t < 65536 → NoSharedHash (zone_of apex rs) hash mode name → finds (zone_of apex rs) name t ≡ true
    → decided apex hash (own_facts (zone_of apex rs) hash mode name t) name t ≡ Some (verdict (zone_of apex rs) (optout_of mode) name t)
answers_decide_found hasher apex mode limit rs hash name t a l n f = found_decides (zone_of apex rs) hash mode name t (servable hasher apex mode limit rs a) n l f

-- ---- where no record is an alias

none_of_type : (t : ℕ) → among (5 ∷ 39 ∷ []) t ≡ true → (o : Name) (rs : List HandedRr) → AllByRecursion (λ r. is_alias r ≡ false) rs → list_any (is_of o t) (map rr_of rs) ≡ false
none_of_type t a o [] h = refl
none_of_type t a o (r ∷ rs) h =
    let other : is_of o t (rr_of r) ≡ false = false_from_ne_true (is_of o t (rr_of r)) (λ e.
    let typed : r.rtype ≡ t = eqb-true r.rtype t (and_parts (labels_eq (owner_of (rr_of r)) o) (r.rtype == t) e).1 in
    false≢true (sym h.0 ∙ ap (among (5 ∷ 39 ∷ [])) typed ∙ a)) in
    (λ i. other i || none_of_type t a o rs h.1 i)

pub leads_nowhere : (hasher : Hasher) (apex : Name) (mode : Mode) (limit : ℕ) (rs : List HandedRr) (name : Name) → IsAccepted hasher apex mode limit rs → (finds (zone_of apex rs) name 5 ≡ false) × (redirecting (zone_of apex rs) name ≡ None)
leads_nowhere hasher apex mode limit rs name a =
    let plain : AllByRecursion (λ r. is_alias r ≡ false) (sorted_records rs) = all_sorted (λ r. is_alias r ≡ false) record_cmp rs (all_fail is_alias rs a.faultless.no_alias) in
    none_led (zone_of apex rs) (λ o. none_of_type 5 refl o (sorted_records rs) plain) (λ o. none_of_type 39 refl o (sorted_records rs) plain) name
