-- Records that are accepted spell a zone that can be served; an allowed question is one that the zone's own answer decides.
use Rattle.std.proofs.Common.{◌≡◌, ℕ, ◌<◌, Bool, true, false, ◌&&◌, ◌||◌, not, cond, List, [], ◌∷◌, ◌++◌, map, length, refl, sym, ap, ◌∙◌, inl, inr, arith}
use Rattle.std.specs.Prelude.{Some, nat_eq, nat_le, ◌==◌}
use Rattle.std.specs.List.{list_any, AllByRecursion}
use Rattle.std.proofs.lemmas.Bool.{and_parts, or_parts, cases_lt, le-leb, not-true, false≢true}
use Rattle.definitions.specs.Name.{Name, low, same, at_or_above}
use Rattle.definitions.specs.Zone.{Rr, owner_of, verdict}
use Rattle.definitions.specs.ZoneChain.{Mode, optout_of}
use Rattle.definitions.proofs.Members.{In, contained}
use Rattle.definitions.proofs.ZoneNames.{lowered_above}
use Rattle.denial_laws.specs.Aliases.{is_alias_type, is_aliased}
use Rattle.denial_laws.specs.Truth.{IsServable, NoSharedHash, is_added_type, is_meta_type, is_star}
use Rattle.denial_laws.specs.Truth as zone
use Rattle.denial_laws.specs.Deciding.{decided}
use Rattle.denial_laws.specs.OwnFacts.{own_facts}
use Rattle.denial_laws.proofs.NameFacts.{same_names}
use Rattle.denial_laws.proofs.AliasFree.{alias_free_orderly, alias_free_unaliased}
use Rattle.denial_laws.proofs.Complete.{own_answers_decide}
use Rattle.messages.specs.HandedRr.{HandedRr, among, is_meta}
use Rattle.messages.specs.Message.{Asked}
use Rattle.messages.specs.Star.{begins_with_star}
use Rattle.messages.proofs.Lists.{all_fail, all_sorted, all_more}
use Rattle.answer_terms.specs.Accepted.{IsAccepted}
use Rattle.answer_terms.specs.Accepting.{is_added_by_signing, is_alias, delegates_star, record_cmp, rr_of, soas, sorted_records, zone_of}
use Rattle.answer_terms.specs.Asking.{is_allowed}
use Rattle.answer_terms.specs.Hashing.{Hasher}
use Rattle.answer_terms.specs.Servable.{IsAskedInside}

-- ---- types

none_of_front : (p : ℕ → Bool) (xs ys : List ℕ) → list_any p (xs ++ ys) ≡ false → list_any p xs ≡ false
none_of_front p [] ys a = refl
none_of_front p (x ∷ xs) ys a = let h = or_parts (p x) (list_any p (xs ++ ys)) a in (λ i. h.0 i || none_of_front p xs ys h.1 i)

none_of_back : (p : ℕ → Bool) (xs ys : List ℕ) → list_any p (xs ++ ys) ≡ false → list_any p ys ≡ false
none_of_back p [] ys a = a
none_of_back p (x ∷ xs) ys a = none_of_back p xs ys (or_parts (p x) (list_any p (xs ++ ys)) a).1

no_alias_type : (t : ℕ) → list_any (nat_eq t) (5 ∷ 39 ∷ []) ≡ false → is_alias_type t ≡ false
no_alias_type t h =
    let cname = or_parts (nat_eq t 5) (nat_eq t 39 || false) h in
    let dname = or_parts (nat_eq t 39) false cname.1 in
    (λ i. cname.0 i || dname.0 i)

-- ---- the records

-- it is of a type of 16 bits, and not of one that is no data
no_meta : (r : HandedRr) → is_meta r ≡ false → (is_meta_type r.rtype ≡ false) × (nat_le 65536 r.rtype ≡ false)
no_meta r e =
    let types = (r.rtype == 0) || (r.rtype == 41) || (nat_le 128 r.rtype && nat_le r.rtype 255) in
    or_parts types (nat_le 65536 r.rtype) (or_parts (types || nat_le 65536 r.rtype) (r.is_unknown && among (2 ∷ 6 ∷ []) r.rtype) e).0

pub real_type : (r : HandedRr) → is_meta r ≡ false → is_meta_type r.rtype ≡ false
real_type r e = (no_meta r e).0

pub held_type : (r : HandedRr) → is_meta r ≡ false → r.rtype < 65536
held_type r e = elim (cases_lt r.rtype 65536) [
  | inl l ↦ l
  | inr more ↦ absurd (false≢true (sym (no_meta r e).1 ∙ le-leb 65536 r.rtype more))
]

all_mapped : {A B : Type 0} (P : B → Type 0) (f : A → B) (xs : List A) → AllByRecursion (λ x. P (f x)) xs → AllByRecursion P (map f xs)
all_mapped P f [] h = tt
all_mapped P f (x ∷ xs) h = (h.0, all_mapped P f xs h.1)

star_first : (n : Name) → is_star n ≡ begins_with_star n
star_first [] = refl
star_first (l ∷ n) = refl

apex_or_later : (apex : Name) (r : HandedRr) (rs : List HandedRr) (b : Bool) → (same r.owner apex && (r.rtype == 6)) ≡ b → (0 < length (soas apex rs) → In (low apex) (map owner_of (map rr_of rs))) → 0 < length (cond b (r ∷ soas apex rs) (soas apex rs)) → In (low apex) (map owner_of (map rr_of (r ∷ rs)))
apex_or_later apex r rs true e later h = inl (sym (same_names r.owner apex (and_parts (same r.owner apex) (r.rtype == 6) e).0))
apex_or_later apex r rs false e later h = inr (later h)

-- an SOA record at the apex has the apex as its owner
apex_in : (apex : Name) (rs : List HandedRr) → 0 < length (soas apex rs) → In (low apex) (map owner_of (map rr_of rs))
apex_in apex [] h = absurd (omega arith)
apex_in apex (r ∷ rs) h = apex_or_later apex r rs (same r.owner apex && (r.rtype == 6)) refl (apex_in apex rs) h

-- none is an alias
alias_free : (hasher : Hasher) (apex : Name) (mode : Mode) (limit : ℕ) (rs : List HandedRr) → IsAccepted hasher apex mode limit rs → AllByRecursion (λ r. is_alias_type r.rtype ≡ false) (zone_of apex rs).records
alias_free hasher apex mode limit rs a =
    all_mapped (λ (r : Rr). is_alias_type r.rtype ≡ false) rr_of (sorted_records rs) (all_sorted (λ (r : HandedRr). is_alias_type r.rtype ≡ false) record_cmp rs
    (all_more (λ r. is_alias r ≡ false) (λ r. is_alias_type r.rtype ≡ false) rs (λ r e. no_alias_type r.rtype e) (all_fail is_alias rs a.faultless.no_alias)))

pub accepted_unaliased : (hasher : Hasher) (apex : Name) (mode : Mode) (limit : ℕ) (rs : List HandedRr) → IsAccepted hasher apex mode limit rs → (optout : Bool) (name : Name) (t : ℕ) → is_aliased (zone_of apex rs) optout name t ≡ false
accepted_unaliased hasher apex mode limit rs a optout name t = alias_free_unaliased (zone_of apex rs) (alias_free hasher apex mode limit rs a) optout name t

pub servable : (hasher : Hasher) (apex : Name) (mode : Mode) (limit : ℕ) (rs : List HandedRr) → IsAccepted hasher apex mode limit rs → IsServable (zone_of apex rs)
servable hasher apex mode limit rs a =
    let sorted = sorted_records rs in
    let none : 0 < length (soas apex sorted) = (let one : length (soas apex sorted) ≡ 1 = a.soa in omega arith) in
    let signing = all_fail is_added_by_signing rs a.faultless.unsigned in
    let stars = all_fail delegates_star rs a.faultless.no_star_delegation in
    record {
      apex = contained (map owner_of (map rr_of sorted)) (low apex) (apex_in apex sorted none);
      typed = all_mapped (λ (r : Rr). r.rtype < 65536) rr_of sorted (all_sorted (λ (r : HandedRr). r.rtype < 65536) record_cmp rs
          (all_more (λ r. is_meta r ≡ false) (λ r. r.rtype < 65536) rs held_type (all_fail is_meta rs a.faultless.known)));
      ordinary = all_mapped (λ (r : Rr). is_added_type r.rtype ≡ false) rr_of sorted (all_sorted (λ (r : HandedRr). is_added_type r.rtype ≡ false) record_cmp rs signing);
      real = all_mapped (λ (r : Rr). is_meta_type r.rtype ≡ false) rr_of sorted (all_sorted (λ (r : HandedRr). is_meta_type r.rtype ≡ false) record_cmp rs
          (all_more (λ r. is_meta r ≡ false) (λ r. is_meta_type r.rtype ≡ false) rs real_type (all_fail is_meta rs a.faultless.known)));
      stars = all_mapped (λ (r : Rr). zone.delegates_star r ≡ false) rr_of sorted (all_sorted (λ (r : HandedRr). zone.delegates_star (rr_of r) ≡ false) record_cmp rs
          (all_more (λ r. delegates_star r ≡ false) (λ r. zone.delegates_star (rr_of r) ≡ false) rs
          (λ r e. ap (λ b. (r.rtype == 2) && b) (star_first r.owner) ∙ e) stars));
      aliases = alias_free_orderly (zone_of apex rs) (alias_free hasher apex mode limit rs a);
    }

-- ---- questions

-- an allowed question asks for a type that is asked for, at or below the apex
pub asked_inside : (apex : Name) (asked : Asked) → is_allowed apex asked ≡ true → IsAskedInside apex asked
asked_inside apex asked e =
    let t = asked.rtype in
    let signing : List ℕ = 46 ∷ 47 ∷ 48 ∷ 50 ∷ 51 ∷ [] in
    let range = nat_le 128 t && nat_le t 255 in
    let front = (asked.class == 1) && at_or_above apex asked.name in
    let a = and_parts (front && not (among (46 ∷ 47 ∷ 48 ∷ 50 ∷ 51 ∷ 5 ∷ 39 ∷ 0 ∷ 41 ∷ []) t)) (not range) e in
    let b = and_parts front (not (among (46 ∷ 47 ∷ 48 ∷ 50 ∷ 51 ∷ 5 ∷ 39 ∷ 0 ∷ 41 ∷ []) t)) a.0 in
    let listed : list_any (nat_eq t) (signing ++ 5 ∷ 39 ∷ 0 ∷ 41 ∷ []) ≡ false = not-true (among (46 ∷ 47 ∷ 48 ∷ 50 ∷ 51 ∷ 5 ∷ 39 ∷ 0 ∷ 41 ∷ []) t) b.1 in
    let added : is_added_type t ≡ false = none_of_front (nat_eq t) signing (5 ∷ 39 ∷ 0 ∷ 41 ∷ []) listed in
    let unsigned : list_any (nat_eq t) (5 ∷ 39 ∷ 0 ∷ 41 ∷ []) ≡ false = none_of_back (nat_eq t) signing (5 ∷ 39 ∷ 0 ∷ 41 ∷ []) listed in
    let alias : is_alias_type t ≡ false = no_alias_type t (none_of_front (nat_eq t) (5 ∷ 39 ∷ []) (0 ∷ 41 ∷ []) unsigned) in
    let others : list_any (nat_eq t) (0 ∷ 41 ∷ []) ≡ false = none_of_back (nat_eq t) (5 ∷ 39 ∷ []) (0 ∷ 41 ∷ []) unsigned in
    let zeroth = or_parts (nat_eq t 0) (nat_eq t 41 || false) others in
    let opt = or_parts (nat_eq t 41) false zeroth.1 in
    let meta : range ≡ false = not-true range a.1 in
    let within : at_or_above apex asked.name ≡ true = (and_parts (asked.class == 1) (at_or_above apex asked.name) b.0).1 in
    record {
      asked_type = (λ i. not ((added i || alias i) || (zeroth.0 i || opt.0 i || meta i)));
      inside = λ rs. lowered_above apex asked.name ∙ within;
    }

-- the zone's own answer decides it
pub allowed_answers_decide : (hasher : Hasher) (apex : Name) (mode : Mode) (limit : ℕ) (rs : List HandedRr) (hash : Name → List ℕ) (asked : Asked) → IsAccepted hasher apex mode limit rs → is_allowed apex asked ≡ true → asked.rtype < 65536 → NoSharedHash (zone_of apex rs) hash mode asked.name → decided apex hash (own_facts (zone_of apex rs) hash mode asked.name asked.rtype) asked.name asked.rtype ≡ Some (verdict (zone_of apex rs) (optout_of mode) asked.name asked.rtype)
allowed_answers_decide hasher apex mode limit rs hash asked a e short none =
    let k = asked_inside apex asked e in
    own_answers_decide (zone_of apex rs) hash mode asked.name asked.rtype (servable hasher apex mode limit rs a) none short (k.inside rs) k.asked_type
    (accepted_unaliased hasher apex mode limit rs a (optout_of mode) asked.name asked.rtype)
