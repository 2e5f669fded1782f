-- Why records have no chain, said of them as they were handed in.
use Rattle.std.proofs.Common.{◌≡◌, ℕ, Bool, true, false, ◌&&◌, ◌||◌, not, List, [], ◌∷◌, map, length, Some, None, refl, sym, ap, ◌∙◌, eqb, arith, cond}
use Rattle.std.specs.Prelude.{IsSome}
use Rattle.std.specs.List.{list_any, AllByRecursion, filter}
use Rattle.std.specs.Option.{option_map}
use Rattle.std.proofs.lemmas.Bool.{or_parts, false≢true}
use Rattle.std.proofs.lemmas.List.{length-map}
use Rattle.definitions.specs.Name.{Name, low, same}
use Rattle.definitions.specs.Zone.{Zone, is_kept}
use Rattle.definitions.proofs.Members.{any_kept}
use Rattle.denial_laws.proofs.NameFacts.{same_names}
use Rattle.plain.specs.ZoneData.{zone_canonical, zone_type}
use Rattle.plain.specs.declared.record.Record.{Record}
use Rattle.plain.specs.declared.zone_data.ZoneRecordData.{ZoneRecordData}
use Rattle.plain.specs.declared.zone_data.ZoneRecordData.TheVariants.{Soa, Ns, Unknown}
use Rattle.denial_rrsets.specs.Groups.{is_at}
use Rattle.denial_chain_owners.specs.Soa.{minimum_of, soa_ttls, ttls_of, ttls_of_one}
use Rattle.denial_chain_owners.specs.Ttls as words
use Rattle.messages.specs.HandedRr.{HandedRr, among, handed_of, is_meta, is_unknown}
use Rattle.answer_terms.specs.Accepting.{has_unlike_ttls, soas, unlike_ttls, zone_with}
use Rattle.answer_terms.proofs.ZoneNaming.{all_filter}
use Rattle.answer_terms.proofs.ZoneData.{filter-map}
use Rattle.answer_zone_records.proofs.ZoneWords.{zone_is}

-- ---- tests of lists

any_alike : {A : Type 0} (p q : A → Bool) → ((x : A) → p x ≡ q x) → (xs : List A) → list_any p xs ≡ list_any q xs
any_alike p q h [] = refl
any_alike p q h (x ∷ xs) = λ i. h x i || any_alike p q h xs i

all_of_map : {A B : Type 0} (P : B → Type 0) (f : A → B) (xs : List A) → AllByRecursion P (map f xs) → AllByRecursion (λ x. P (f x)) xs
all_of_map P f [] h = tt
all_of_map P f (x ∷ xs) h = (h.0, all_of_map P f xs h.1)

filter_agree : {A : Type 0} (p q : A → Bool) → ((x : A) → p x ≡ q x) → (xs : List A) → filter p xs ≡ filter q xs
filter_agree p q h [] = refl
filter_agree p q h (x ∷ xs) = λ i. cond (h x i) (x ∷ filter_agree p q h xs i) (filter_agree p q h xs i)

pass_one : {A : Type 0} (p : A → Bool) (x : A) (rest : List A) (b : Bool) → p x ≡ b → AllByRecursion (λ x. p x ≡ true) rest → AllByRecursion (λ x. p x ≡ true) (cond b (x ∷ rest) rest)
pass_one p x rest true e h = (e, h)
pass_one p x rest false e h = h

filter_passes : {A : Type 0} (p : A → Bool) (xs : List A) → AllByRecursion (λ x. p x ≡ true) (filter p xs)
filter_passes p [] = tt
filter_passes p (x ∷ xs) = pass_one p x (filter p xs) (p x) refl (filter_passes p xs)

and_back : (a b : Bool) → (a && b) ≡ (b && a)
and_back true true = refl
and_back true false = refl
and_back false true = refl
and_back false false = refl

and_first : (a b : Bool) → (a && b) ≡ true → a ≡ true
and_first true b e = refl
and_first false b e = e

in_front : (a b c d : Bool) → (a && ((b && c) && d)) ≡ (((a && b) && c) && d)
in_front true b c d = refl
in_front false b c d = refl

module _ {O : Type 0} where
  -- ---- the SOA record

  -- data of an SOA record that are known have a minimum
  has_minimum : (d : ZoneRecordData O Name) → (is_unknown d && among (2 ∷ 6 ∷ []) (zone_type d)) ≡ false → eqb (zone_type d) 6 ≡ true → (m : ℕ) × (minimum_of d ≡ Some m)
  has_minimum (Soa s) n e = (s.times.minimum, refl)
  has_minimum (Ns d) n e = absurd (false≢true e)
  has_minimum (Unknown u) n e =
      let a = or_parts (eqb u.rtype 2) (eqb u.rtype 6 || false) n in
      let b = or_parts (eqb u.rtype 6) false a.1 in
      absurd (false≢true (sym b.0 ∙ e))

  abbrev IsKnown : Record Name (ZoneRecordData O Name) → Type 0
  IsKnown r = is_meta (handed_of r) ≡ false

  abbrev at_apex : Name → Record Name (ZoneRecordData O Name) → Bool
  at_apex apex r = is_at (λ n. n) zone_type apex 6 r

  has_ttls : (apex : Name) (r : Record Name (ZoneRecordData O Name)) → IsKnown r → at_apex apex r ≡ true → ttls_of r ≡ None → ⊥
  has_ttls apex r known here none =
      let unknown = (or_parts _ (is_unknown r.content && among (2 ∷ 6 ∷ []) (zone_type r.content)) known).1 in
      let m = has_minimum r.content unknown (and_first (eqb (zone_type r.content) 6) (same r.owner apex) here) in
      let some : ttls_of r ≡ Some (record { ttl = r.ttl; minimum = m.0 }) = ap (option_map (λ m. record { ttl = r.ttl; minimum = m })) m.1 in
      cc

  none_or_one : (apex : Name) (xs : List (Record Name (ZoneRecordData O Name))) → AllByRecursion IsKnown xs → AllByRecursion (λ r. at_apex apex r ≡ true) xs → ttls_of_one xs ≡ None → length xs ≡ 1 → ⊥
  none_or_one apex [] k h e l = absurd (omega (arith, l))
  none_or_one apex (r ∷ []) k h e l = has_ttls apex r k.0 h.0 e
  none_or_one apex (r ∷ s ∷ xs) k h e l = absurd (omega (arith, l))

  some_is_one : (xs : List (Record Name (ZoneRecordData O Name))) → IsSome (ttls_of_one xs) → length xs ≡ 1
  some_is_one [] s = cc
  some_is_one (r ∷ []) s = refl
  some_is_one (r ∷ t ∷ xs) s = cc

  soas_are : (apex : Name) (rs : List (Record Name (ZoneRecordData O Name))) → length (soas apex (map handed_of rs)) ≡ length (filter (at_apex apex) rs)
  soas_are apex rs =
      ap length (filter-map (λ (r : HandedRr). same r.owner apex && eqb r.rtype 6) handed_of rs)
      ∙ length-map (filter (λ r. same r.owner apex && eqb (zone_type r.content) 6) rs) handed_of
      ∙ ap length (filter_agree (λ (r : Record Name (ZoneRecordData O Name)). same r.owner apex && eqb (zone_type r.content) 6) (at_apex apex) (λ r. and_back (same r.owner apex) (eqb (zone_type r.content) 6)) rs)

  -- no single SOA record
  pub no_single_soa : (apex : Name) (rs : List (Record Name (ZoneRecordData O Name))) → AllByRecursion (λ r. is_meta r ≡ false) (map handed_of rs) → soa_ttls (λ n. n) apex rs ≡ None → length (soas apex (map handed_of rs)) ≡ 1 → ⊥
  no_single_soa apex rs known none one =
      none_or_one apex (filter (at_apex apex) rs)
      (all_filter IsKnown (at_apex apex) rs (all_of_map (λ r. is_meta r ≡ false) handed_of rs known))
      (filter_passes (at_apex apex) rs) none (sym (soas_are apex rs) ∙ one)

  pub single_soa : (apex : Name) (rs : List (Record Name (ZoneRecordData O Name))) → IsSome (soa_ttls (λ n. n) apex rs) → length (soas apex (map handed_of rs)) ≡ 1
  single_soa apex rs some = soas_are apex rs ∙ some_is_one (filter (at_apex apex) rs) some

  -- ---- TTLs

  -- what another record of an owner is compared with
  abbrev unlike : Record Name (ZoneRecordData O Name) → Record Name (ZoneRecordData O Name) → Bool
  unlike r s = same r.owner s.owner && words.unlike_ttls zone_type r s

  abbrev keeps : Bool → Zone → Record Name (ZoneRecordData O Name) → Bool
  keeps ex z r = is_kept z ex (low r.owner)

  -- records of one owner are kept or not alike
  kept_alike : (ex : Bool) (z : Zone) (r s : Record Name (ZoneRecordData O Name)) → keeps ex z r ≡ true → unlike r s ≡ (keeps ex z s && unlike_ttls (handed_of r) (handed_of s))
  kept_alike ex z r s k =
      go (same r.owner s.owner) refl
      ∙ ap (λ b. keeps ex z s && b) (in_front (same r.owner s.owner) (eqb (zone_type r.content) (zone_type s.content)) (not (eqb r.ttl s.ttl)) (not (eqb (zone_type r.content) 46)))
    where
      go : (b : Bool) → same r.owner s.owner ≡ b → (b && words.unlike_ttls zone_type r s) ≡ (keeps ex z s && (b && words.unlike_ttls zone_type r s))
      go true e = sym (ap (λ b. b && words.unlike_ttls zone_type r s) (ap (is_kept z ex) (sym (same_names r.owner s.owner e)) ∙ k))
      go false e = and_back false (keeps ex z s)

  one_alike : (ex : Bool) (z : Zone) (rs : List (Record Name (ZoneRecordData O Name))) (r : Record Name (ZoneRecordData O Name)) (b : Bool) → keeps ex z r ≡ b
      → (b && list_any (unlike r) rs) ≡ (b && list_any (λ s. keeps ex z s && unlike_ttls (handed_of r) (handed_of s)) rs)
  one_alike ex z rs r true k = any_alike (unlike r) (λ s. keeps ex z s && unlike_ttls (handed_of r) (handed_of s)) (λ s. kept_alike ex z r s k) rs
  one_alike ex z rs r false k = refl

  -- unequal TTLs, among the records of the owners that a zone keeps
  pub ttls_are : (ex : Bool) (apex : Name) (rs : List (Record Name (ZoneRecordData O Name)))
      → words.has_unequal_ttls (λ n. n) zone_type (zone_canonical (λ n. n)) apex ex rs ≡ has_unlike_ttls (zone_with apex (map handed_of rs)) ex (map handed_of rs)
  ttls_are ex apex rs =
      let hs = map handed_of rs in
      let z = zone_with apex hs in
      let kept : HandedRr → Bool = λ r. is_kept z ex (low r.owner) in
      ap (λ z. list_any (λ r. keeps ex z r && list_any (unlike r) rs) rs) (zone_is apex rs)
      ∙ any_alike (λ r. keeps ex z r && list_any (unlike r) rs) (λ r. kept (handed_of r) && list_any (unlike_ttls (handed_of r)) (filter kept hs))
      (λ r. one_alike ex z rs r (keeps ex z r) refl ∙ ap (λ b. keeps ex z r && b) (sym (any_kept kept (unlike_ttls (handed_of r)) handed_of rs))) rs
      ∙ sym (any_kept kept (λ r. list_any (unlike_ttls r) (filter kept hs)) handed_of rs)
