-- The NSEC records of a zone's own answer: they are true, and one speaks for each name that the proof speaks of.
use Rattle.std.proofs.Common.{◌≡◌, true, false, not, List, refl, sym, ap, subst, ◌∙◌, ◌⊎◌, inl, inr}
use Rattle.std.specs.Prelude.{filter}
use Rattle.std.specs.List.{list_any}
use Rattle.std.proofs.lemmas.Bool.{and_parts, and_from, or_cases, or_left, or_right, not_from_false, false_from_ne_true}
use Rattle.definitions.specs.Name.{Name, low, same, labels_eq, at_or_above, strictly_above}
use Rattle.definitions.specs.Covering.{covers}
use Rattle.definitions.specs.Bitmap.{bitmap, bitmap_has}
use Rattle.definitions.specs.Zone.{Zone, apex_of}
use Rattle.definitions.specs.ZoneChain.{Nsec, nsec_names, nsec_next, nsec_types}
use Rattle.definitions.specs.Laws.{nsec_speaks}
use Rattle.definitions.proofs.Members.{In, contained, in_map, map_in, in_filter, filter_in, any_in}
use Rattle.definitions.proofs.NameLaws.{labels_decide}
use Rattle.definitions.proofs.OwnChains.{one_nsec_record_speaks}
use Rattle.definitions.proofs.ZoneNames.{low-low, same_lowered, owner_lowered, live_owner}
use Rattle.denial_laws.specs.Aliases.{is_redirected}
use Rattle.denial_laws.specs.Facts.{Link}
use Rattle.denial_laws.specs.NsecRules.{redirects, link_covers}
use Rattle.denial_laws.specs.OwnFacts.{link_of, link_speaks, own_links}
use Rattle.denial_laws.specs.Truth.{IsServable, IsTrueLink}
use Rattle.denial_laws.proofs.NameFacts.{covers-low, strictly_lowered}
use Rattle.denial_laws.proofs.ChainBits.{nsec_shows}
use Rattle.denial_laws.proofs.Adjacent.{next_in}
use Rattle.denial_laws.proofs.Unaliased.{no_redirector}

-- A record of an answer that speaks for a name: it matches it, or covers it.
pub record Speaks (z : Zone) (qs : List Name) (n : Name) : Type 0 where
  pub owner : Name
  pub inside : In owner (nsec_names z)
  pub listed : In (link_of z owner) (own_links z Nsec qs)
  pub says : (owner ≡ n) ⊎ (covers (apex_of z) owner (nsec_next z owner) n ≡ true)

module _ (z : Zone) (s : IsServable z) where
  chain_low : (o : Name) → In o (nsec_names z) → low o ≡ o
  chain_low o i = owner_lowered z o (live_owner z o i).0

  pub own_link_true : (o : Name) → In o (nsec_names z) → IsTrueLink z (link_of z o)
  own_link_true o i =
      let lo : low o ≡ o = chain_low o i in
      record {
        owner = contained (nsec_names z) (low o) (subst (λ n. In n (nsec_names z)) (sym lo) i);
        next = chain_low (nsec_next z o) (next_in z s o i) ∙ ap (nsec_next z) (sym lo);
        bits = ap (λ n. bitmap (nsec_types z true n)) (sym lo);
      }

  pub own_links_true : (qs : List Name) (g : Link) → In g (own_links z Nsec qs) → IsTrueLink z g
  own_links_true qs g i =
      let m = map_in (link_of z) (filter (λ o. list_any (link_speaks z o) qs) (nsec_names z)) g i in
      subst (IsTrueLink z) (sym m.makes) (own_link_true m.item (filter_in (λ o. list_any (link_speaks z o) qs) (nsec_names z) m.item m.inside).0)

  pub listed : (qs : List Name) (o n : Name) → In o (nsec_names z) → In n qs → link_speaks z o n ≡ true → In (link_of z o) (own_links z Nsec qs)
  listed qs o n i j h =
      in_map (link_of z) (filter (λ o. list_any (link_speaks z o) qs) (nsec_names z)) o
      (in_filter (λ o. list_any (link_speaks z o) qs) (nsec_names z) o i (any_in (link_speaks z o) qs n j h))

  pub speaker : (qs : List Name) (n : Name) → low n ≡ n → In n qs → at_or_above (apex_of z) n ≡ true → Speaks z qs n
  speaker qs n ln j a =
      let one = (one_nsec_record_speaks z s.apex).one n a in
      let o : Name = one.0 in
      let in_one : In o (filter (nsec_speaks z n) (nsec_names z)) = subst (λ ns. In o ns) (sym one.1) (inl refl) in
      let both = filter_in (nsec_speaks z n) (nsec_names z) o in_one in
      let next : Name = nsec_next z o in
      elim (or_cases (same o n) (covers (apex_of z) o next n) both.1) [
        | inl e ↦
            let is : o ≡ n = same_lowered o n (chain_low o both.0) ln e in
            record { owner = o; inside = both.0; listed = listed qs o n both.0 j (or_left (labels_eq o n) _ ((labels_decide o n).1 is)); says = inl is }
        | inr e ↦ record { owner = o; inside = both.0; listed = listed qs o n both.0 j (or_right (labels_eq o n) _ e); says = inr e }
      ]

  -- a record of the chain that covers a name covers it in the rules, where nothing redirects the name
  pub own_covers : (o q : Name) → In o (nsec_names z) → is_redirected z (low q) ≡ false → covers (apex_of z) o (nsec_next z o) (low q) ≡ true → link_covers z.name (link_of z o) q ≡ true
  own_covers o q i n h =
      let next : Name = nsec_next z o in
      let lo : low o ≡ o = chain_low o i in
      let ln : low next ≡ next = chain_low next (next_in z s o i) in
      and_from (covers z.name o next q) (not (redirects q (link_of z o)))
      (sym (covers-low z.name o next q) ∙ (λ i. covers (apex_of z) (lo i) (ln i) (low q)) ∙ h)
      (not_from_false (redirects q (link_of z o)) (false_from_ne_true (redirects q (link_of z o)) (λ r.
      let both = and_parts (strictly_above o q) (bitmap_has (bitmap (nsec_types z true o)) 39) r in
      no_redirector z (low q) o (low-low q) n (record { redirects = sym (nsec_shows z s o).redirect ∙ both.1; live = (live_owner z o i).1; above = strictly_lowered o q ∙ both.0 }))))
