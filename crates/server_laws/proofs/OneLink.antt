-- Where a zone's answer has the NSEC record of the name, it has that record and the SOA record, and no others.
use Rattle.std.proofs.Common.{◌≡◌, ℕ, Bool, true, false, ◌&&◌, ◌||◌, List, [], ◌∷◌, ◌++◌, map, Option, Some, None, eqb, refl, sym, subst, ap, ◌∙◌}
use Rattle.std.specs.Prelude.{if◌then◌else◌}
use Rattle.std.specs.List.{AllByRecursion, filter, list_any}
use Rattle.std.proofs.lemmas.Bool.{false_from_ne_true, true≢false}
use Rattle.definitions.specs.Covering.{covers}
use Rattle.definitions.specs.Laws.{nsec_speaks}
use Rattle.definitions.specs.Name.{Name, at_or_above, labels_eq, low, same}
use Rattle.definitions.specs.Zone.{Delegated, NoType, Records, Verdict, apex_of, at_existing, ce, cut, data_at, exists, has, verdict}
use Rattle.definitions.specs.ZoneChain.{Mode, Nsec, Nsec3, nsec_names, nsec_next, optout_of}
use Rattle.definitions.proofs.ChainSpeaks.{all_from}
use Rattle.definitions.proofs.Members.{In}
use Rattle.definitions.proofs.OwnChains.{one_nsec_record_speaks}
use Rattle.definitions.proofs.VerdictCases.{said, verdict-said}
use Rattle.definitions.proofs.ZoneNames.{live_owner, low-low, owner_lowered}
use Rattle.denial_laws.specs.Truth.{IsServable}
use Rattle.denial_laws.proofs.NsecEncloser.{owner_exists}
use Rattle.denial_laws.proofs.ZoneCuts.{kept_inside}
use Rattle.messages.proofs.ZoneNames.{same_labels}
use Rattle.answer_terms.specs.Served.{ServedRrset, Served, ahead, answer_groups, chain_names, chain_record, proofs_of, rrset, soa, speaks_for, spoken, under}
use Rattle.answer_terms.proofs.ZoneNaming.{all_filter}
use Rattle.server_laws.proofs.Alone.{IsOther}
use Rattle.server_laws.proofs.Lists.{all_joined, all_mapped, filters_alike, none_kept, nothing}
use Rattle.server_laws.proofs.ZoneGroups.{ahead_other}

none_more : (b : Bool) → (b || false) ≡ b
none_more true = refl
none_more false = refl

-- ---- NSEC records of a name

-- no NSEC record of the name
abbrev pub IsNoLink : Name → ServedRrset → Type 0
IsNoLink n g = (eqb g.rtype 47 && same g.owner n) ≡ false

others_no_link : (n : Name) (gs : List ServedRrset) → AllByRecursion (IsOther 47) gs → AllByRecursion (IsNoLink n) gs
others_no_link n [] h = tt
others_no_link n (g ∷ gs) h = (ap (λ b. b && same g.owner n) h.0, others_no_link n gs h.1)

-- the answer that has the NSEC record of the name
pub record IsLinked (s : Served) (n : Name) (t : ℕ) : Type 0 where
  pub told_is : verdict s.zone false n t ≡ NoType
  pub link : ServedRrset
  pub groups_are : answer_groups s n t ≡ soa s ∷ link ∷ []
  pub link_is : link.rtype ≡ 47
  pub owner_is : same link.owner n ≡ true

-- an answer has it, has none, or is a referral
pub data Linking (s : Served) (n : Name) (t : ℕ) : Type 0 where
  Linked : IsLinked s n t → Linking s n t
  Unlinked : AllByRecursion (IsNoLink n) (answer_groups s n t) → Linking s n t
  Referred : verdict s.zone false n t ≡ Delegated → Linking s n t

module _ (s : Served) (servable : IsServable s.zone) (spelled : (o : Name) → low o ≡ o → low (s.owner_of o 47) ≡ o) where
  abbrev named : Mode → Served
  named mode = record s { mode = mode }

  chain_low : (o : Name) → In o (nsec_names s.zone) → low o ≡ o
  chain_low o i = owner_lowered s.zone o (live_owner s.zone o i).0

  -- one record of the chain speaks for a name
  one_speaks : (n : Name) → low n ≡ n → at_or_above (apex_of s.zone) n ≡ true → s.mode ≡ Nsec → (o : Name) × (proofs_of s (n ∷ []) ≡ chain_record s o ∷ [])
  one_speaks n lowered inside e =
      let one = (one_nsec_record_speaks s.zone servable.apex).one n inside in
      let next : Name → Name = nsec_next s.zone in
      let same_tests : filter (λ o. list_any (speaks_for (named Nsec) o) (n ∷ [])) (nsec_names s.zone) ≡ filter (nsec_speaks s.zone n) (nsec_names s.zone) =
      filters_alike (λ o. list_any (speaks_for (named Nsec) o) (n ∷ [])) (nsec_speaks s.zone n) (nsec_names s.zone)
      (λ o i. none_more (labels_eq o n || covers (apex_of s.zone) o (next o) n) ∙ (λ j. labels_eq (sym (chain_low o i) j) (sym lowered j) || covers (apex_of s.zone) o (next o) n)) in
      subst (λ (mode : Mode). (o : Name) × (proofs_of (named mode) (n ∷ []) ≡ chain_record (named mode) o ∷ [])) (sym e)
      (one.0, ap (map (chain_record (named Nsec))) (same_tests ∙ one.1))

  link_type : (o : Name) → s.mode ≡ Nsec → (chain_record s o).rtype ≡ 47
  link_type o e = subst (λ (mode : Mode). (chain_record (named mode) o).rtype ≡ 47) (sym e) refl

  -- of a name that is not there the chain has no record
  none_there : (n : Name) → exists s.zone (low n) ≡ false → s.mode ≡ Nsec → (qs : List Name) → AllByRecursion (IsNoLink n) (proofs_of s qs)
  none_there n gone e qs = subst (λ (mode : Mode). AllByRecursion (IsNoLink n) (proofs_of (named mode) qs)) (sym e) chained
    where
      away : (o : Name) → In o (nsec_names s.zone) → IsNoLink n (chain_record (named Nsec) o)
      away o i = false_from_ne_true (same (s.owner_of o 47) n) (λ h.
          let is : o ≡ low n = sym (spelled o (chain_low o i)) ∙ same_labels (low (s.owner_of o 47)) (low n) h in
          true≢false (sym (owner_exists s.zone servable (low n) (subst (λ x. In x (nsec_names s.zone)) is i)) ∙ gone))

      chained : AllByRecursion (IsNoLink n) (proofs_of (named Nsec) qs)
      chained =
          all_mapped (IsNoLink n) (chain_record (named Nsec)) (filter (λ o. list_any (speaks_for (named Nsec) o) qs) (nsec_names s.zone))
          (all_filter (λ o. IsNoLink n (chain_record (named Nsec) o)) (λ o. list_any (speaks_for (named Nsec) o) qs) (nsec_names s.zone)
          (all_from (λ o. IsNoLink n (chain_record (named Nsec) o)) (nsec_names s.zone) away))

  -- ---- answers

  module _ (n : Name) (t : ℕ) (unlike : eqb t 47 ≡ false) (other : eqb t 43 ≡ false) where
    abbrev told : Verdict
    told = verdict s.zone false n t

    abbrev shown_verdict : Verdict
    shown_verdict = verdict s.zone (optout_of s.mode) n t

    abbrev said_of : List Name
    said_of = spoken s (low n) told shown_verdict

    in_front : AllByRecursion (IsNoLink n) (ahead s n t shown_verdict)
    in_front = others_no_link n (ahead s n t shown_verdict) (ahead_other s n t 47 (record { ns = refl; soa = refl; ds = refl }) unlike shown_verdict)

    hashed : (iterations : ℕ) (salt : List ℕ) (optout : Bool) → s.mode ≡ Nsec3 iterations salt optout → Linking s n t
    hashed iterations salt optout e =
        Unlinked (all_joined (IsNoLink n) (ahead s n t shown_verdict) (proofs_of s said_of) in_front
        (subst (λ (mode : Mode). AllByRecursion (IsNoLink n) (proofs_of (named mode) said_of)) (sym e)
        (others_no_link n (proofs_of (named (Nsec3 iterations salt optout)) said_of) (hashes (filter (λ o. list_any (speaks_for (named (Nsec3 iterations salt optout)) o) said_of) (chain_names (named (Nsec3 iterations salt optout))))))))
      where
        hashes : (ns : List Name) → AllByRecursion (IsOther 47) (map (chain_record (named (Nsec3 iterations salt optout))) ns)
        hashes [] = tt
        hashes (o ∷ ns) = (refl, hashes ns)

    -- by a chain of names, without opt-out
    module _ (e : s.mode ≡ Nsec) where
      both_told : shown_verdict ≡ told
      both_told = ap (λ (mode : Mode). verdict s.zone (optout_of mode) n t) e

      abbrev groups_for : Verdict → Verdict → List ServedRrset
      groups_for first second = ahead s n t first ++ proofs_of s (spoken s (low n) second first)

      -- where it says this without opt-out
      groups_by : (v : Verdict) → told ≡ v → answer_groups s n t ≡ groups_for v v
      groups_by v is = λ i. groups_for ((both_told ∙ is) i) (is i)

      gone : exists s.zone (low n) ≡ false → Linking s n t
      gone away = Unlinked (all_joined (IsNoLink n) (ahead s n t shown_verdict) (proofs_of s said_of) in_front (none_there n away e said_of))

      held : told ≡ Records (data_at s.zone (low n) t) → Linking s n t
      held is =
          let ds = data_at s.zone (low n) t in
          let alone : answer_groups s n t ≡ under n (rrset s (low n) t) ∷ [] =
          groups_by (Records ds) is ∙ ap (λ ns. under n (rrset s (low n) t) ∷ map (chain_record s) ns) (none_kept (chain_names s)) in
          Unlinked (subst (AllByRecursion (IsNoLink n)) (sym alone) (ap (λ b. b && same n n) unlike, tt))

      missing : exists s.zone (low n) ≡ true → told ≡ NoType → Linking s n t
      missing there is =
          let one = one_speaks (low n) (low-low n) (kept_inside s.zone false (low n) there) e in
          let link : ServedRrset = chain_record s one.0 in
          let two : answer_groups s n t ≡ soa s ∷ link ∷ [] = groups_by NoType is ∙ ap (λ gs. soa s ∷ gs) one.1 in
          let kind : link.rtype ≡ 47 = link_type one.0 e in
          go link two kind (same link.owner n) refl
        where
          go : (link : ServedRrset) → answer_groups s n t ≡ soa s ∷ link ∷ [] → link.rtype ≡ 47 → (b : Bool) → same link.owner n ≡ b → Linking s n t
          go link two kind true own = Linked (record { told_is = is; link = link; groups_are = two; link_is = kind; owner_is = own })
          go link two kind false own = Unlinked (subst (AllByRecursion (IsNoLink n)) (sym two) (refl, ((λ i. eqb (kind i) 47 && own i), tt)))

      by_type : exists s.zone (low n) ≡ true → told ≡ at_existing s.zone (low n) t → Linking s n t
      by_type there is = go (has s.zone (low n) t) refl
        where
          go : (b : Bool) → has s.zone (low n) t ≡ b → Linking s n t
          go true h = held (is ∙ ap (λ b. if b then Records (data_at s.zone (low n) t) else NoType) h)
          go false h = missing there (is ∙ ap (λ b. if b then Records (data_at s.zone (low n) t) else NoType) h)

      by_name : Linking s n t
      by_name = go (cut s.zone (low n)) refl (exists s.zone (low n)) refl
        where
          by_parts : (c : Option Name) (x : Bool) → cut s.zone (low n) ≡ c → exists s.zone (low n) ≡ x → told ≡ said s.zone (low n) t false c x (ce s.zone (low n))
          by_parts c x hc hx = verdict-said s.zone false n (low n) t refl ∙ (λ i. said s.zone (low n) t false (hc i) (hx i) (ce s.zone (low n)))

          go : (c : Option Name) → cut s.zone (low n) ≡ c → (x : Bool) → exists s.zone (low n) ≡ x → Linking s n t
          go c hc false hx = gone hx
          go None hc true hx = by_type hx (by_parts None true hc hx)
          go (Some c) hc true hx =
              Referred (by_parts (Some c) true hc hx
              ∙ ap (λ b. if labels_eq c (low n) && b then at_existing s.zone (low n) 43 else Delegated) other
              ∙ ap (λ b. if b then at_existing s.zone (low n) 43 else Delegated) (nothing (labels_eq c (low n))))

    pub linking : Linking s n t
    linking = go s.mode refl
      where
        go : (mode : Mode) → s.mode ≡ mode → Linking s n t
        go Nsec e = by_name e
        go (Nsec3 iterations salt optout) e = hashed iterations salt optout e
