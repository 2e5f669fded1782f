-- Each record of a zone's chain leads to the next: of its NSEC records up to the apex again, of its NSEC3 records round a circle.
use Rattle.std.proofs.Common.{◌≡◌, ℕ, Bool, true, false, List, [], ◌∷◌, map, inl, inr, refl, sym, ap, subst, ◌∙◌}
use Rattle.std.specs.Prelude.{if◌then◌else◌}
use Rattle.std.specs.List.{AllByRecursion}
use Rattle.std.specs.Cmp.{on_total}
use Rattle.std.specs.Cmp.Lexicographic.{bytes_decides}
use Rattle.std.specs.Str.{bytes_eq}
use Rattle.std.specs.declared.cmp.Ordering.{Ordering}
use Rattle.std.specs.declared.cmp.Ordering.TheVariants.{Less, Equal}
use Rattle.std.proofs.lemmas.Bool.{false_from_ne_true}
use Rattle.std.proofs.lemmas.Cmp.{nat_list_cmp_total, tied_itself}
use Rattle.definitions.specs.Name.{Name, at_or_above, labels_eq, low, name_cmp, same}
use Rattle.definitions.specs.Zone.{apex_of, kept_owners}
use Rattle.definitions.specs.ZoneChain.{Mode, behind, hash_cmp, hashed_names, hashes, head_or, links, nsec3_names, nsec_names, nsec_next, optout_of}
use Rattle.definitions.proofs.ChainSpeaks.{Apart, all_from}
use Rattle.definitions.proofs.Members.{In, Rises, sort_rises}
use Rattle.definitions.proofs.NameLaws.{apex_first, labels_decide, name_cmp_total}
use Rattle.definitions.proofs.ZoneNames.{and_parts, live_owner, low-low, owner_lowered}
use Rattle.denial_laws.proofs.NameFacts.{before_unlike, names_same, same_names, up_to_before}
use Rattle.messages.specs.HandedRr.{HandedRr}
use Rattle.messages.proofs.ZoneNames.{name_cmp-low}
use Rattle.answer_terms.specs.Accepting.{zone_with}
use Rattle.answer_terms.specs.HashedLinks.{HashedLink, hashed_link_at, hashed_links_of}
use Rattle.answer_terms.specs.Links.{ChainLink, link_at, links_of}
use Rattle.answer_terms.specs.Served.{spelled_among, spelled_as}
use Rattle.answer_zone_records.specs.Round.{Climbs, IsCircle, IsRound, Leads, LeadsRound, first_hash}
use Rattle.answer_zone_records.proofs.ZoneLinks.{next_low, spelled_low}

-- ---- what stands behind each item of a list

module _ {A : Type 0} (eq : A → A → Bool) (itself : (a : A) → eq a a ≡ true) where
  abbrev pub NextIs : (A → A) → A → List A → Type 0
  NextIs next first [] = Unit {0}
  NextIs next first (a ∷ []) = next a ≡ first
  NextIs next first (a ∷ b ∷ bs) = (next a ≡ b) × NextIs next first (b ∷ bs)

  carry : (d first : A) (l : A × A) (ls : List (A × A)) (ys : List A) → AllByRecursion (λ x. eq x l.0 ≡ false) ys → NextIs (λ o. behind eq d o ls) first ys → NextIs (λ o. behind eq d o (l ∷ ls)) first ys
  carry d first l ls [] h k = tt
  carry d first l ls (y ∷ []) h k = ap (λ c. if c then l.1 else behind eq d y ls) h.0 ∙ k
  carry d first l ls (y ∷ z ∷ zs) h k = (ap (λ c. if c then l.1 else behind eq d y ls) h.0 ∙ k.0, carry d first l ls (z ∷ zs) h.1 k.1)

  led : (d first : A) (xs : List A) → Apart eq xs → NextIs (λ o. behind eq d o (links first xs)) first xs
  led d first [] h = tt
  led d first (a ∷ []) h = ap (λ c. if c then first else d) (itself a)
  led d first (a ∷ b ∷ bs) h =
      (ap (λ c. if c then b else behind eq d a (links first (b ∷ bs))) (itself a), carry d first (a, b) (links first (b ∷ bs)) (b ∷ bs) h.0 (led d first (b ∷ bs) h.1))

-- ---- names

names_unlike : (a b : Name) → name_cmp a b ≡ Less → labels_eq b a ≡ false
names_unlike a b e = false_from_ne_true (labels_eq b a) (λ h.
    let n : name_cmp a b ≡ Equal = ap (name_cmp a) ((labels_decide b a).0 h) ∙ tied_itself name_cmp_total a in
    let x : Less ≡ Equal = sym e ∙ n in cc)

apart_names : (xs : List Name) → Rises name_cmp name_cmp_total xs → Apart labels_eq xs
apart_names [] h = tt
apart_names (a ∷ xs) h = (all_from (λ x. labels_eq x a ≡ false) xs (λ x i. names_unlike a x (h.0 x i)), apart_names xs h.1)

module _ (apex : Name) (rs : List HandedRr) where
  abbrev Inside : Name → Type 0
  Inside o = (low o ≡ o) × (at_or_above (low apex) o ≡ true)

  inside : AllByRecursion Inside (nsec_names (zone_with apex rs))
  inside =
      let z = zone_with apex rs in
      all_from Inside (nsec_names z) (λ o i.
      let l = live_owner z o i in
      (owner_lowered z o l.0, (and_parts (at_or_above (apex_of z) o) _ l.1).0))

  climbs_all : (o : Name) (ns : List Name) → low o ≡ o → AllByRecursion Inside ns → ((x : Name) → In x ns → name_cmp o x ≡ Less) → AllByRecursion (λ (m : ChainLink). name_cmp (link_at apex rs o).owner m.owner ≡ Less) (map (link_at apex rs) ns)
  climbs_all o [] lo h f = tt
  climbs_all o (p ∷ ns) lo h f = (
    sym (name_cmp-low (spelled_among rs o) (spelled_among rs p)) ∙ (λ i. name_cmp (spelled_low rs o lo i) (spelled_low rs p h.0.0 i)) ∙ f p (inl refl),
    climbs_all o ns lo h.1 (λ x i. f x (inr i)),
  )

  climbs : (ns : List Name) → AllByRecursion Inside ns → Rises name_cmp name_cmp_total ns → Climbs name_cmp (λ (l : ChainLink). l.owner) (map (link_at apex rs) ns)
  climbs [] h r = tt
  climbs (o ∷ ns) h r = (climbs_all o ns h.0.0 h.1 r.0, climbs ns h.1 r.1)

  abbrev next : Name → Name
  next o = nsec_next (zone_with apex rs) o

  spelled_next : (o p : Name) → low p ≡ p → next o ≡ p → low (spelled_as apex rs (next o)) ≡ p
  spelled_next o p lp e = next_low apex rs (next o) (ap low e ∙ lp ∙ sym e) ∙ e

  leads : (ns : List Name) → AllByRecursion Inside ns → Rises name_cmp name_cmp_total ns → NextIs labels_eq (λ a. (labels_decide a a).1 refl) next (low apex) ns → Leads apex (map (link_at apex rs) ns)
  leads [] h r k = tt
  leads (o ∷ []) h r k = names_same (spelled_as apex rs (next o)) apex (spelled_next o (low apex) (low-low apex) k)
  leads (o ∷ p ∷ ns) h r k =
      let there : low (spelled_as apex rs (next o)) ≡ p = spelled_next o p h.1.0.0 k.0 in
      let less : name_cmp (low apex) p ≡ Less = up_to_before (low apex) o p (apex_first (low apex) o h.0.1) (r.0 p (inl refl)) in (
        there ∙ sym (spelled_low rs p h.1.0.0),
        false_from_ne_true (same (spelled_as apex rs (next o)) apex) (λ s.
            let is : p ≡ low apex = sym there ∙ same_names (spelled_as apex rs (next o)) apex s in
            before_unlike (low apex) p less (names_same (low apex) p (low-low apex ∙ sym is ∙ sym h.1.0.0))),
        leads (p ∷ ns) h.1 r.1 k.1,
      )

  -- the chain of names
  pub chain_round : IsRound apex (links_of apex rs)
  chain_round =
      let z = zone_with apex rs in
      let rises : Rises name_cmp name_cmp_total (nsec_names z) = sort_rises name_cmp name_cmp_total (kept_owners z false) in
      record {
        climbing = climbs (nsec_names z) inside rises;
        leads = leads (nsec_names z) inside rises (led labels_eq (λ a. (labels_decide a a).1 refl) (low apex) (low apex) (nsec_names z) (apart_names (nsec_names z) rises));
      }

-- ---- hashes

hashes_unlike : (a b : List ℕ) → hash_cmp a b ≡ Less → bytes_eq b a ≡ false
hashes_unlike a b e = false_from_ne_true (bytes_eq b a) (λ h.
    let n : hash_cmp a b ≡ Equal = ap (hash_cmp a) ((bytes_decides b a).0 h) ∙ tied_itself nat_list_cmp_total a in
    let x : Less ≡ Equal = sym e ∙ n in cc)

module _ (hash : Name → List ℕ) where
  abbrev by_hash : Name → Name → Ordering
  by_hash a b = hash_cmp (hash a) (hash b)

  apart_all : (o : Name) (ns : List Name) → ((x : Name) → In x ns → by_hash o x ≡ Less) → AllByRecursion (λ x. bytes_eq x (hash o) ≡ false) (map hash ns)
  apart_all o [] f = tt
  apart_all o (p ∷ ns) f = (hashes_unlike (hash o) (hash p) (f p (inl refl)), apart_all o ns (λ x i. f x (inr i)))

  apart_hashes : (ns : List Name) → Rises by_hash (on_total hash nat_list_cmp_total) ns → Apart bytes_eq (map hash ns)
  apart_hashes [] r = tt
  apart_hashes (o ∷ ns) r = (apart_all o ns r.0, apart_hashes ns r.1)

  module _ (mode : Mode) (apex : Name) (rs : List HandedRr) where
    abbrev link : Name → HashedLink
    link o = hashed_link_at hash mode apex rs o

    ascends_all : (o : Name) (ns : List Name) → ((x : Name) → In x ns → by_hash o x ≡ Less) → AllByRecursion (λ (m : HashedLink). hash_cmp (hash o) m.hash ≡ Less) (map link ns)
    ascends_all o [] f = tt
    ascends_all o (p ∷ ns) f = (f p (inl refl), ascends_all o ns (λ x i. f x (inr i)))

    ascends : (ns : List Name) → Rises by_hash (on_total hash nat_list_cmp_total) ns → Climbs hash_cmp (λ (l : HashedLink). l.hash) (map link ns)
    ascends [] r = tt
    ascends (o ∷ ns) r = (ascends_all o ns r.0, ascends ns r.1)

    abbrev hs : List (List ℕ)
    hs = hashes hash (zone_with apex rs) (optout_of mode)

    abbrev next_hash : List ℕ → List ℕ
    next_hash h = behind bytes_eq [] h (links (head_or [] hs) hs)

    leads_round : (first : List ℕ) (ns : List Name) → NextIs bytes_eq (λ a. (bytes_decides a a).1 refl) next_hash first (map hash ns) → LeadsRound first (map link ns)
    leads_round first [] k = tt
    leads_round first (o ∷ []) k = k
    leads_round first (o ∷ p ∷ ns) k = (k.0, leads_round first (p ∷ ns) k.1)

    first_is : (ns : List Name) → head_or [] (map hash ns) ≡ first_hash (map link ns)
    first_is [] = refl
    first_is (o ∷ ns) = refl

    -- the chain of hashes
    pub chain_circle : IsCircle (hashed_links_of hash mode apex rs)
    chain_circle =
        let z = zone_with apex rs in
        let ns : List Name = hashed_names hash z (optout_of mode) in
        let rises : Rises by_hash (on_total hash nat_list_cmp_total) ns = sort_rises by_hash (on_total hash nat_list_cmp_total) (nsec3_names z (optout_of mode)) in
        record {
          ascending = ascends ns rises;
          leads = subst (λ f. LeadsRound f (map link ns)) (first_is ns) (leads_round (head_or [] hs) ns (led bytes_eq (λ a. (bytes_decides a a).1 refl) [] (head_or [] hs) (map hash ns) (apart_hashes ns rises)));
        }
