-- The RRsets of a zone's NSEC records in an answer: they are apart, and say the links of the zone's own facts, up to case.
use Rattle.std.proofs.Common.{◌≡◌, ℕ, Bool, true, false, ◌&&◌, ◌||◌, cond, List, [], ◌∷◌, ◌++◌, map, eqb, refl, sym, ap, ◌∙◌, inl, inr}
use Rattle.std.specs.Cmp.{IsTotalOrder}
use Rattle.std.specs.declared.cmp.Ordering.{Ordering}
use Rattle.std.specs.declared.cmp.Ordering.TheVariants.{Less, Equal}
use Rattle.std.specs.List.{AllByRecursion, AllZip, filter, list_any}
use Rattle.std.proofs.lemmas.Bool.{false_from_ne_true, false≢true, or_from, or_parts}
use Rattle.std.proofs.lemmas.List.Elements.{filter-append}
use Rattle.std.proofs.lemmas.List.Folds.{list_any-append}
use Rattle.definitions.specs.Bitmap.{bitmap}
use Rattle.definitions.specs.Name.{Name, IsLabel, labels_eq, low, same, at_or_above, name_cmp}
use Rattle.definitions.specs.Signing.{label_count}
use Rattle.definitions.specs.Zone.{Zone, owner_of, owners}
use Rattle.definitions.specs.ZoneChain.{Nsec, nsec_names, nsec_next, nsec_types}
use Rattle.definitions.proofs.Members.{In, Rises, filter_in}
use Rattle.definitions.proofs.NameLaws.{name_cmp_total, labels_decide, same_is_equal}
use Rattle.definitions.proofs.ZoneNames.{above_lowered, live_owner, lowered_above, owner_lowered}
use Rattle.denial_laws.specs.Facts.{Link}
use Rattle.denial_laws.specs.OwnFacts.{link_of}
use Rattle.denial_laws.specs.Truth.{IsServable}
use Rattle.denial_laws.proofs.Adjacent.{chain_inside, next_in}
use Rattle.messages.specs.HandedRr.{HandedRr}
use Rattle.messages.proofs.Lists.{eqb-back}
use Rattle.messages.proofs.ZoneNames.{labels_eq-same, same_labels}
use Rattle.answer_terms.specs.Accepting.{rr_of, zone_with}
use Rattle.answer_terms.specs.Served.{ServedRrset, chain_record, served_of, spelled_among, spelled_as}
use Rattle.answer_terms.proofs.ZoneData.{label_count-low, low-spelled_among}
use Rattle.answer_terms.specs.FactsCase.{low_link}
use Rattle.answer_judge.proofs.GivenGroups.{SaysLink, has_twins, is_rrset}

-- the labels of each owner are labels
abbrev pub AreNamed : List HandedRr → Type 0
AreNamed rs = AllByRecursion (λ r. AllByRecursion IsLabel r.owner) rs

-- an owner as the first record of its name spells it
spelled_named : (rs : List HandedRr) → AreNamed rs → (n : Name) → In n (map owner_of (map rr_of rs)) → AllByRecursion IsLabel (spelled_among rs n)
spelled_named [] h n i = absurd i
spelled_named (r ∷ rs) h n i = go (labels_eq (low r.owner) n) refl (λ j. spelled_named rs h.1 n j)
  where
    go : (b : Bool) → labels_eq (low r.owner) n ≡ b → (In n (map owner_of (map rr_of rs)) → AllByRecursion IsLabel (spelled_among rs n)) → AllByRecursion IsLabel (cond b r.owner (spelled_among rs n))
    go true e f = h.0
    go false e f = elim i [
      | inl s ↦ absurd (false≢true (sym e ∙ labels_eq-same (low r.owner) n (sym s)))
      | inr j ↦ f j
    ]

low-spelled : (rs : List HandedRr) (n : Name) → low n ≡ n → low (spelled_among rs n) ≡ n
low-spelled rs n l = ap (λ m. low (spelled_among rs m)) (sym l) ∙ low-spelled_among rs n ∙ l

pub low-spelled_as : (apex : Name) (rs : List HandedRr) (n : Name) → low n ≡ n → low (spelled_as apex rs n) ≡ n
low-spelled_as apex rs n l = go (labels_eq (low apex) n) refl
  where
    go : (b : Bool) → labels_eq (low apex) n ≡ b → low (cond b apex (spelled_among rs n)) ≡ n
    go true e = same_labels (low apex) n e
    go false e = low-spelled rs n l

spelled_as_named : (apex : Name) (rs : List HandedRr) → AllByRecursion IsLabel apex → AreNamed rs → (n : Name) → In n (owners (zone_with apex rs)) → AllByRecursion IsLabel (spelled_as apex rs n)
spelled_as_named apex rs a h n i = go (labels_eq (low apex) n)
  where
    go : (b : Bool) → AllByRecursion IsLabel (cond b apex (spelled_among rs n))
    go true = a
    go false = spelled_named rs h n i

-- ---- lists of RRsets

-- all of them are of a kind, or none
all_kept : (p : ServedRrset → Bool) (f : Name → ServedRrset) → ((o : Name) → p (f o) ≡ true) → (ns : List Name) → filter p (map f ns) ≡ map f ns
all_kept p f h [] = refl
all_kept p f h (o ∷ ns) = ap (λ b. cond b (f o ∷ filter p (map f ns)) (filter p (map f ns))) (h o) ∙ ap (λ gs. f o ∷ gs) (all_kept p f h ns)

pub none_kept : (p : ServedRrset → Bool) (gs : List ServedRrset) → AllByRecursion (λ g. p g ≡ false) gs → filter p gs ≡ []
none_kept p [] h = refl
none_kept p (g ∷ gs) h = ap (λ b. cond b (g ∷ filter p gs) (filter p gs)) h.0 ∙ none_kept p gs h.1

-- behind others
pub kept_behind : (p : ServedRrset → Bool) (f : Name → ServedRrset) → ((o : Name) → p (f o) ≡ true) → (front : List ServedRrset) (ns : List Name) → AllByRecursion (λ g. p g ≡ false) front → filter p (front ++ map f ns) ≡ map f ns
kept_behind p f h front ns none = filter-append p front (map f ns) ∙ (λ i. none_kept p front none i ++ all_kept p f h ns i)

-- what is kept of items that rise rises
pub kept_rise : (R : Name → Name → Ordering) (o : IsTotalOrder R) (p : Name → Bool) (ns : List Name) → Rises R o ns → Rises R o (filter p ns)
kept_rise R o p [] h = tt
kept_rise R o p (n ∷ ns) h = go (p n) (kept_rise R o p ns h.1)
  where
    go : (b : Bool) → Rises R o (filter p ns) → Rises R o (cond b (n ∷ filter p ns) (filter p ns))
    go true r = ((λ x i. h.0 x (filter_in p ns x i).0), r)
    go false r = r

-- RRsets of one type are none of another
pub all_other : (f : Name → ServedRrset) (u : ℕ) → ((n : Name) → (f n).rtype ≡ u) → (o : Name) (t : ℕ) → eqb u t ≡ false → (ns : List Name) → list_any (is_rrset o t) (map f ns) ≡ false
all_other f u k o t e [] = refl
all_other f u k o t e (n ∷ ns) = λ i. ((ap (λ x. eqb x t) (k n) ∙ e) i && same (f n).owner o) || all_other f u k o t e ns i

other_way : (a b : ℕ) → eqb a b ≡ false → eqb b a ≡ false
other_way a b e = eqb-back b a ∙ e

pub apart_behind : (f : Name → ServedRrset) (u : ℕ) → ((n : Name) → (f n).rtype ≡ u) → (front : List ServedRrset) (ns : List Name) → AllByRecursion (λ g. eqb g.rtype u ≡ false) front → has_twins front ≡ false → has_twins (map f ns) ≡ false → has_twins (front ++ map f ns) ≡ false
apart_behind f u k [] ns h alone e = e
apart_behind f u k (g ∷ gs) ns h alone e =
    let parts = or_parts (list_any (is_rrset g.owner g.rtype) gs) (has_twins gs) alone in
    or_from _ _
    (list_any-append (is_rrset g.owner g.rtype) gs (map f ns) ∙ or_from _ _ parts.0 (all_other f u k g.owner g.rtype (other_way g.rtype u h.0) ns))
    (apart_behind f u k gs ns h.1 parts.1 e)

map_within : {A B : Type 0} (f g : A → B) (xs : List A) → ((x : A) → In x xs → f x ≡ g x) → map f xs ≡ map g xs
map_within f g [] h = refl
map_within f g (x ∷ xs) h = λ i. h x (inl refl) i ∷ map_within f g xs (λ y j. h y (inr j)) i

map_twice : {A B C : Type 0} (g : B → C) (f : A → B) (xs : List A) → map g (map f xs) ≡ map (λ x. g (f x)) xs
map_twice g f [] = refl
map_twice g f (x ∷ xs) = ap (λ ys. g (f x) ∷ ys) (map_twice g f xs)

-- ---- the records

module _ (apex : Name) (rs : List HandedRr) (hash : Name → List ℕ) where
  abbrev z : Zone
  z = zone_with apex rs

  abbrev pub chain_group : Name → ServedRrset
  chain_group o = chain_record (served_of apex Nsec hash rs) o

  -- what a judge reads of one
  abbrev pub read_link : Name → Link
  read_link o = record { owner = spelled_among rs o; next = spelled_as apex rs (nsec_next z o); bits = bitmap (nsec_types z true o) }

  chain_low : (o : Name) → In o (nsec_names z) → low o ≡ o
  chain_low o i = owner_lowered z o (live_owner z o i).0

  pub low-chain_owner : (o : Name) → In o (nsec_names z) → low (chain_group o).owner ≡ o
  low-chain_owner o i = low-spelled rs o (chain_low o i)

  pub chain_labels : (o : Name) → In o (nsec_names z) → label_count (chain_group o).source ≡ label_count (chain_group o).owner
  chain_labels o i = ap label_count (sym (low-chain_owner o i)) ∙ label_count-low (chain_group o).owner

  unlike : (o n : Name) → In o (nsec_names z) → In n (nsec_names z) → name_cmp o n ≡ Less → same (chain_group n).owner (chain_group o).owner ≡ false
  unlike o n i j l = false_from_ne_true _ (λ e.
      let is : n ≡ o = sym (low-chain_owner n j) ∙ same_labels (low (chain_group n).owner) (low (chain_group o).owner) e ∙ low-chain_owner o i in
      let even : name_cmp o n ≡ Equal = same_is_equal o n ((labels_decide (low o) (low n)).1 (ap low (sym is))) in
      let bad : Less ≡ Equal = sym l ∙ even in
      cc)

  none_later : (o : Name) → In o (nsec_names z) → (ns : List Name) → ((n : Name) → In n ns → In n (nsec_names z)) → ((n : Name) → In n ns → name_cmp o n ≡ Less) → list_any (is_rrset (chain_group o).owner 47) (map chain_group ns) ≡ false
  none_later o i [] f h = refl
  none_later o i (n ∷ ns) f h =
      let first = unlike o n i (f n (inl refl)) (h n (inl refl)) in
      let rest = none_later o i ns (λ x j. f x (inr j)) (λ x j. h x (inr j)) in
      or_from _ _ first rest

  pub chain_apart : (ns : List Name) → ((n : Name) → In n ns → In n (nsec_names z)) → Rises name_cmp name_cmp_total ns → has_twins (map chain_group ns) ≡ false
  chain_apart [] f h = refl
  chain_apart (n ∷ ns) f h = or_from _ _ (none_later n (f n (inl refl)) ns (λ x j. f x (inr j)) h.0) (chain_apart ns (λ x j. f x (inr j)) h.1)

  module _ (s : IsServable z) where
    pub chain_below : (o : Name) → In o (nsec_names z) → at_or_above apex (chain_group o).owner ≡ true
    chain_below o i =
        sym (above_lowered apex (chain_group o).owner) ∙ ap (at_or_above apex) (low-chain_owner o i)
        ∙ sym (lowered_above apex o) ∙ chain_inside z s o i

    pub read_low : (o : Name) → In o (nsec_names z) → low_link (read_link o) ≡ link_of z o
    read_low o i =
        let owner : low (spelled_among rs o) ≡ o = low-chain_owner o i in
        let next : low (spelled_as apex rs (nsec_next z o)) ≡ nsec_next z o = low-spelled_as apex rs (nsec_next z o) (chain_low (nsec_next z o) (next_in z s o i)) in
        λ j. record { owner = owner j; next = next j; bits = bitmap (nsec_types z true o) }

    pub links_low : (ns : List Name) → ((n : Name) → In n ns → In n (nsec_names z)) → map low_link (map read_link ns) ≡ map (link_of z) ns
    links_low ns f = map_twice low_link read_link ns ∙ map_within (λ o. low_link (read_link o)) (link_of z) ns (λ o i. read_low o (f o i))

    -- each says its link
    pub chain_says : AllByRecursion IsLabel apex → AreNamed rs → (ns : List Name) → ((n : Name) → In n ns → In n (nsec_names z)) → AllZip SaysLink (map chain_group ns) (map read_link ns)
    chain_says a h [] f = tt
    chain_says a h (o ∷ ns) f =
        let i : In o (nsec_names z) = f o (inl refl) in
        let next : AllByRecursion IsLabel (spelled_as apex rs (nsec_next z o)) = spelled_as_named apex rs a h (nsec_next z o) (live_owner z (nsec_next z o) (next_in z s o i)).0 in
        (record { owner_is = refl; labels = next; data_are = refl }, chain_says a h ns (λ n j. f n (inr j)))
