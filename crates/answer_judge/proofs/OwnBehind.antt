-- The RRsets of a zone's chain behind the others of an answer, whichever chain it is.
use Rattle.std.proofs.Common.{◌≡◌, ℕ, ◌<◌, Bool, true, false, length, List, [], ◌∷◌, ◌++◌, map, eqb, refl, sym, ap, subst, ◌∙◌, inl, inr, arith}
use Rattle.std.specs.List.{AllByRecursion, AllZip, Contains, filter, list_any}
use Rattle.std.proofs.lemmas.Bool.{and_left, or_from}
use Rattle.definitions.specs.Name.{Name, IsLabel, at_or_above, name_cmp}
use Rattle.definitions.specs.Zone.{Zone, kept_owners}
use Rattle.definitions.specs.ZoneChain.{Mode, Nsec, Nsec3, hashed_names, nsec3_names, nsec_names}
use Rattle.definitions.proofs.Members.{In, contained, filter_in, sort_has, sort_rises}
use Rattle.definitions.proofs.NameLaws.{name_cmp_total}
use Rattle.denial_laws.specs.Facts.{HashLink, Link}
use Rattle.denial_laws.specs.OwnFacts.{hash_link_speaks, link_speaks, own_hash_links, own_links}
use Rattle.denial_laws.specs.Truth.{IsServable}
use Rattle.messages.specs.HandedRr.{HandedRr}
use Rattle.messages.proofs.Lists.{eqb-back}
use Rattle.answer_terms.specs.Accepting.{zone_with}
use Rattle.answer_terms.specs.FactsCase.{low_link}
use Rattle.answer_terms.specs.Served.{ServedRrset, proofs_of, served_of}
use Rattle.answer_judge.proofs.GivenGroups.{SaysHashLink, SaysLink, has_twins, is_nsec, is_nsec3}
use Rattle.answer_judge.proofs.GivenRrset.{all_joined, is_ordinary, is_signed_rrset}
use Rattle.answer_judge.proofs.GivenSignatures.{fits_equal, fits_owner}
use Rattle.answer_judge.proofs.OwnChain.{AreNamed, apart_behind, chain_apart, chain_below, chain_group, chain_labels, chain_says, kept_behind, kept_rise, links_low, none_kept, read_link}
use Rattle.answer_judge.proofs.OwnHashed.{by_hash, by_hash_total, hash_link, hashed_apart, hashed_group, hashed_say}

-- an RRset of the chain can be verified
pub record IsVerifiable (apex : Name) (g : ServedRrset) : Type 0 where
  pub signed : g.signed ≡ true
  pub some : 0 < length g.datas
  pub fits : fits_owner apex g ≡ true
  pub below : g.rtype ≡ 47 → at_or_above apex g.owner ≡ true

-- the chain's RRsets behind others say these links
pub record IsBehind (apex q : Name) (t : ℕ) (front chain : List ServedRrset) (links : List Link) (hash_links : List HashLink) : Type 0 where
  pub ordinary : AllByRecursion is_ordinary chain
  pub unasked : list_any (is_signed_rrset q t) chain ≡ false
  pub alone : has_twins (front ++ chain) ≡ false
  pub each : AllByRecursion (IsVerifiable apex) chain
  pub read : List Link
  pub says : AllZip SaysLink (filter is_nsec (front ++ chain)) read
  pub lowered : map low_link read ≡ links
  pub hashed : AllZip (SaysHashLink apex) (filter is_nsec3 (front ++ chain)) hash_links

-- what is told of each name of a list
all_mapped : (P : ServedRrset → Type 0) (f : Name → ServedRrset) (ns : List Name) → ((o : Name) → In o ns → P (f o)) → AllByRecursion P (map f ns)
all_mapped P f [] h = tt
all_mapped P f (n ∷ ns) h = (h n (inl refl), all_mapped P f ns (λ o i. h o (inr i)))

-- no RRset of theirs is asked for
none_asked : (f : Name → ServedRrset) (u : ℕ) → ((n : Name) → (f n).rtype ≡ u) → (q : Name) (t : ℕ) → eqb t u ≡ false → (ns : List Name) → list_any (is_signed_rrset q t) (map f ns) ≡ false
none_asked f u k q t e [] = refl
none_asked f u k q t e (n ∷ ns) =
    let other : eqb (f n).rtype t ≡ false = ap (λ x. eqb x t) (k n) ∙ eqb-back u t ∙ e in
    or_from _ _ (and_left _ _ (and_left (eqb (f n).rtype t) _ other)) (none_asked f u k q t e ns)

both_none : (p : ServedRrset → Bool) (f : Name → ServedRrset) → ((o : Name) → p (f o) ≡ false) → (front : List ServedRrset) (ns : List Name) → AllByRecursion (λ g. p g ≡ false) front → filter p (front ++ map f ns) ≡ []
both_none p f h front ns none = none_kept p (front ++ map f ns) (all_joined (λ g. p g ≡ false) front (map f ns) none (all_mapped (λ g. p g ≡ false) f ns (λ o i. h o)))

module _ (apex : Name) (rs : List HandedRr) (q : Name) (t : ℕ) (hash : Name → List ℕ) (qs : List Name) (front : List ServedRrset)
    (beside : AllByRecursion (λ g. is_nsec g ≡ false) front) (unhashed : AllByRecursion (λ g. is_nsec3 g ≡ false) front) (alone : has_twins front ≡ false) where
  abbrev z : Zone
  z = zone_with apex rs

  -- ---- a chain of names

  abbrev chosen : List Name
  chosen = filter (λ o. list_any (link_speaks z o) qs) (nsec_names z)

  chosen_in : (o : Name) → In o chosen → In o (nsec_names z)
  chosen_in o i = (filter_in (λ o. list_any (link_speaks z o) qs) (nsec_names z) o i).0

  pub names_behind : IsServable z → AllByRecursion IsLabel apex → AreNamed rs → eqb t 47 ≡ false → IsBehind apex q t front (proofs_of (served_of apex Nsec hash rs) qs) (own_links z Nsec qs) (own_hash_links z hash Nsec qs)
  names_behind s labels named other =
      let f : Name → ServedRrset = chain_group apex rs hash in
      let rise = kept_rise name_cmp name_cmp_total (λ o. list_any (link_speaks z o) qs) (nsec_names z) (sort_rises name_cmp name_cmp_total (kept_owners z false)) in
      record {
        ordinary = all_mapped is_ordinary f chosen (λ o i. refl);
        unasked = none_asked f 47 (λ o. refl) q t other chosen;
        alone = apart_behind f 47 (λ o. refl) front chosen beside alone (chain_apart apex rs hash chosen chosen_in rise);
        each = all_mapped (IsVerifiable apex) f chosen (λ o i. record {
          signed = refl;
          some = omega arith;
          fits = fits_equal apex (f o) (chain_labels apex rs hash o (chosen_in o i));
          below = λ e. chain_below apex rs hash s o (chosen_in o i);
        });
        read = map (read_link apex rs hash) chosen;
        says = subst (λ gs. AllZip SaysLink gs (map (read_link apex rs hash) chosen)) (sym (kept_behind is_nsec f (λ o. refl) front chosen beside)) (chain_says apex rs hash s labels named chosen chosen_in);
        lowered = links_low apex rs hash s chosen chosen_in;
        hashed = subst (λ gs. AllZip (SaysHashLink apex) gs []) (sym (both_none is_nsec3 f (λ o. refl) front chosen unhashed)) tt;
      }

  -- ---- a chain of hashes

  module _ (iterations : ℕ) (salt : List ℕ) (optout : Bool) where
    abbrev mode : Mode
    mode = Nsec3 iterations salt optout

    abbrev taken : List Name
    taken = filter (λ o. list_any (hash_link_speaks z hash optout o) qs) (hashed_names hash z optout)

    taken_in : (o : Name) → In o taken → In o (nsec3_names z optout)
    taken_in o i = sort_has (by_hash hash) (by_hash_total hash) (nsec3_names z optout) o (filter_in (λ o. list_any (hash_link_speaks z hash optout o) qs) (hashed_names hash z optout) o i).0

    pub hashes_behind : ((n : Name) → Contains (nsec3_names z optout) n → AllByRecursion (λ x. x < 256) (hash n)) → iterations < 65536 → eqb t 50 ≡ false → IsBehind apex q t front (proofs_of (served_of apex mode hash rs) qs) (own_links z mode qs) (own_hash_links z hash mode qs)
    hashes_behind octets small other =
        let f : Name → ServedRrset = hashed_group apex rs hash iterations salt optout in
        let bytes : (o : Name) → In o taken → AllByRecursion (λ x. x < 256) (hash o) = λ o i. octets o (contained (nsec3_names z optout) o (taken_in o i)) in
        let rise = kept_rise (by_hash hash) (by_hash_total hash) (λ o. list_any (hash_link_speaks z hash optout o) qs) (hashed_names hash z optout) (sort_rises (by_hash hash) (by_hash_total hash) (nsec3_names z optout)) in
        record {
          ordinary = all_mapped is_ordinary f taken (λ o i. refl);
          unasked = none_asked f 50 (λ o. refl) q t other taken;
          alone = apart_behind f 50 (λ o. refl) front taken unhashed alone (hashed_apart apex rs hash iterations salt optout taken bytes rise);
          each = all_mapped (IsVerifiable apex) f taken (λ o i. record {
            signed = refl;
            some = omega arith;
            fits = fits_equal apex (f o) refl;
            below = λ e. absurd (omega (arith, e));
          });
          read = [];
          says = subst (λ gs. AllZip SaysLink gs []) (sym (both_none is_nsec f (λ o. refl) front taken beside)) tt;
          lowered = refl;
          hashed = subst (λ gs. AllZip (SaysHashLink apex) gs (map (hash_link apex rs hash iterations salt optout) taken)) (sym (kept_behind is_nsec3 f (λ o. refl) front taken unhashed)) (hashed_say apex rs hash iterations salt optout small taken bytes);
        }
