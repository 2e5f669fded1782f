-- The facts that an answer must have decide as the zone's own answer does.
use Rattle.std.proofs.Common.{◌≡◌, ℕ, ◌<◌, Bool, true, false, List, [], ◌∷◌, length, Option, Some, None, refl, sym, ap, subst, ◌∙◌, ◌⊎◌, inl, inr, lit<}
use Rattle.std.specs.Prelude.{Contains, filter}
use Rattle.std.specs.List.{list_any}
use Rattle.std.proofs.lemmas.Bool.{false_from_ne_true, false≢true}
use Rattle.definitions.specs.Name.{Name, at_or_above, low, strictly_above}
use Rattle.definitions.specs.Zone.{Delegated, NoName, NoType, Open, Records, StarNoType, StarRecords, Unsigned, Verdict, Zone, apex_of, ce, data_at, exists, kept, star_under, verdict}
use Rattle.definitions.specs.ZoneChain.{Mode, Nsec, Nsec3, hashed_names, nsec_names, optout_of}
use Rattle.definitions.proofs.Members.{In, any_in, any_of, contained, filter_in, in_contained, in_filter, in_map, map_in}
use Rattle.definitions.proofs.ZoneNames.{above_lowered, low-low, lowered_above}
use Rattle.denial_laws.specs.Deciding.{by_chain, by_wildcard, decided, decided_inside}
use Rattle.denial_laws.specs.Facts.{Facts, HashLink, Link, Rrset, is_expanded}
use Rattle.denial_laws.specs.NsecRules.{expanded}
use Rattle.denial_laws.specs.Nsec3Rules.{hash_expanded}
use Rattle.denial_laws.specs.OwnFacts.{hash_link_of, hash_link_speaks, kept_ancestor, link_of, link_speaks, next_closer, own_facts, own_hash_links, own_links, own_rrset, own_star, spoken}
use Rattle.denial_laws.specs.Truth.{AreTrue, IsServable, NoSharedHash, is_signed}
use Rattle.denial_laws.proofs.AtName.{Answers, on_true}
use Rattle.denial_laws.proofs.KeptAncestor.{IsKeptParent, ancestor_lowered, kept_encloser, kept_parent}
use Rattle.denial_laws.proofs.NameFacts.{star_below, strictly_at, strictly_lowered}
use Rattle.denial_laws.proofs.Nsec3Own.{expanded_answers}
use Rattle.denial_laws.proofs.ChainSays.{chains_say_truly}
use Rattle.denial_laws.proofs.Nsec3Sound.{sound_hashed}
use Rattle.denial_laws.proofs.Nsec3Wildcard.{signed_star_kept}
use Rattle.denial_laws.proofs.OwnHashes.{own, own_speaks, own_true}
use Rattle.denial_laws.proofs.OwnRrset.{own_expanded, own_star_is, own_star_true, starred}
use Rattle.denial_laws.proofs.VerdictView.{Cut, Gone, Missing, Signed, Starred, Unstarred, View, view}
use Rattle.denial_laws.proofs.ZoneCuts.{IsEncloser, ce_encloses, kept_exists, kept_inside, kept_lowered, kept_up}
use Rattle.fact_laws.specs.Due.{DueFactsDecide, OwnIncludesDue, due_facts, due_names}

-- ---- which names

-- these are the names of the own answer, or one of them where opt-out leaves a wildcard's RRset open
names_of : (z : Zone) (mode : Mode) (q : Name) (told v : Verdict) → ((ds : List (List ℕ)) × (told ≡ StarRecords ds) × (v ≡ Open)) ⊎ (due_names z mode q told v ≡ spoken z mode q told v)
names_of z mode q (Records ds) v = inr refl
names_of z mode q NoType v = inr refl
names_of z mode q NoName v = inr refl
names_of z mode q StarNoType v = inr refl
names_of z mode q Delegated v = inr refl
names_of z mode q Open v = inr refl
names_of z mode q Unsigned v = inr refl
names_of z mode q (StarRecords ds) Open = inl (ds, refl, refl)
names_of z mode q (StarRecords ds) (Records es) = inr refl
names_of z mode q (StarRecords ds) NoType = inr refl
names_of z mode q (StarRecords ds) NoName = inr refl
names_of z mode q (StarRecords ds) (StarRecords es) = inr refl
names_of z mode q (StarRecords ds) StarNoType = inr refl
names_of z mode q (StarRecords ds) Delegated = inr refl
names_of z mode q (StarRecords ds) Unsigned = inr refl

names_in : (z : Zone) (mode : Mode) (q : Name) (told v : Verdict) (n : Name) → In n (due_names z mode q told v) → In n (spoken z mode q told v)
names_in z mode q told v n i = go (names_of z mode q told v)
  where
    go : ((ds : List (List ℕ)) × (told ≡ StarRecords ds) × (v ≡ Open)) ⊎ (due_names z mode q told v ≡ spoken z mode q told v) → In n (spoken z mode q told v)
    go (inr same) = subst (λ (ns : List Name). In n ns) same i
    go (inl (ds, star, left)) =
        let here : In n (due_names z mode q (StarRecords ds) Open) = subst (λ (x : Verdict). In n (due_names z mode q (StarRecords ds) x)) left (subst (λ (x : Verdict). In n (due_names z mode q x v)) star i) in
        let there : In n (spoken z mode q (StarRecords ds) Open) = elim here [ inl s ↦ inr (inl s) | inr none ↦ absurd none ] in
        subst (λ (x : Verdict). In n (spoken z mode q x v)) (sym star) (subst (λ (x : Verdict). In n (spoken z mode q (StarRecords ds) x)) (sym left) there)

-- records that speak for some names are among those that speak for more
links_more : (z : Zone) (mode : Mode) (ns ms : List Name) → ((n : Name) → In n ns → In n ms) → (l : Link) → In l (own_links z mode ns) → In l (own_links z mode ms)
links_more z Nsec ns ms more l i =
    let m = map_in (link_of z) (filter (λ o. list_any (link_speaks z o) ns) (nsec_names z)) l i in
    let f = filter_in (λ o. list_any (link_speaks z o) ns) (nsec_names z) m.item m.inside in
    let n = any_of (link_speaks z m.item) ns f.1 in
    subst (λ (x : Link). In x (own_links z Nsec ms)) (sym m.makes)
    (in_map (link_of z) (filter (λ o. list_any (link_speaks z o) ms) (nsec_names z)) m.item
    (in_filter (λ o. list_any (link_speaks z o) ms) (nsec_names z) m.item f.0 (any_in (link_speaks z m.item) ms n.0 (more n.0 n.1.0) n.1.1)))
links_more z (Nsec3 iterations salt ex) ns ms more l i = absurd i

hash_links_more : (z : Zone) (hash : Name → List ℕ) (mode : Mode) (ns ms : List Name) → ((n : Name) → In n ns → In n ms) → (l : HashLink) → In l (own_hash_links z hash mode ns) → In l (own_hash_links z hash mode ms)
hash_links_more z hash Nsec ns ms more l i = absurd i
hash_links_more z hash (Nsec3 iterations salt ex) ns ms more l i =
    let makes : Name → HashLink = hash_link_of z hash iterations salt ex in
    let m = map_in makes (filter (λ o. list_any (hash_link_speaks z hash ex o) ns) (hashed_names hash z ex)) l i in
    let f = filter_in (λ o. list_any (hash_link_speaks z hash ex o) ns) (hashed_names hash z ex) m.item m.inside in
    let n = any_of (hash_link_speaks z hash ex m.item) ns f.1 in
    subst (λ (x : HashLink). In x (own_hash_links z hash (Nsec3 iterations salt ex) ms)) (sym m.makes)
    (in_map makes (filter (λ o. list_any (hash_link_speaks z hash ex o) ms) (hashed_names hash z ex)) m.item
    (in_filter (λ o. list_any (hash_link_speaks z hash ex o) ms) (hashed_names hash z ex) m.item f.0 (any_in (hash_link_speaks z hash ex m.item) ms n.0 (more n.0 n.1.0) n.1.1)))

contains_more : {X : Type 0} (xs ys : List X) → ((x : X) → In x xs → In x ys) → (x : X) → Contains xs x → Contains ys x
contains_more xs ys more x c = contained ys x (more x (in_contained xs x c.0 c.1 c.2))

pub own_includes_due : OwnIncludesDue
own_includes_due z hash mode q t =
    let v : Verdict = verdict z (optout_of mode) q t in
    let told : Verdict = verdict z false q t in
    let due : List Name = due_names z mode (low q) told v in
    let ns : List Name = spoken z mode (low q) told v in
    record {
      rrset = refl;
      links = contains_more (own_links z mode due) (own_links z mode ns) (links_more z mode due ns (names_in z mode (low q) told v));
      hash_links = contains_more (own_hash_links z hash mode due) (own_hash_links z hash mode ns) (hash_links_more z hash mode due ns (names_in z mode (low q) told v));
    }

-- ---- a wildcard's RRset that opt-out leaves open

module _ (z : Zone) (hash : Name → List ℕ) (iterations : ℕ) (salt : List ℕ) (ex : Bool) (q : Name) (t : ℕ) (s : IsServable z) (apart : NoSharedHash z hash (Nsec3 iterations salt ex) q) (l : t < 65536) (inside : at_or_above (apex_of z) q ≡ true)
    (left : verdict z ex q t ≡ Open) where
  abbrev parent : Name
  parent = kept_ancestor z ex (low q)

  abbrev ns : List Name
  ns = next_closer parent (low q) ∷ []

  abbrev records : List HashLink
  records = own z hash ex s apart.0 iterations salt ns

  abbrev facts : Option Rrset → Facts
  facts o = record { rrset = o; links = []; hash_links = records }

  some_links : (fs : List HashLink) (g : HashLink) (o r : Option Verdict) → In g fs → (elim fs as (λ _. Option Verdict) [ [] ↦ o | _ ∷ _ ↦ r ]) ≡ r
  some_links [] g o r i = absurd i
  some_links (x ∷ xs) g o r i = refl

  abbrev of_rrset : Facts → Option Rrset → Option Verdict
  of_rrset f o = elim o [
    | None ↦ by_chain z.name hash f q t
    | Some r ↦ elim (is_expanded r q) [ false ↦ Some (Records r.datas) | true ↦ by_wildcard z.name hash f r q ]
  ]

  module _ (e : Name) (x : exists z (low q) ≡ false) (c : ce z (low q) ≡ Some e) (h : is_signed z (star_under e) t ≡ true) where
    gone : kept z ex q ≡ false
    gone = false_from_ne_true (kept z ex q) (λ k. false≢true (sym x ∙ kept_lowered z false q ∙ kept_exists z ex q k))

    kept_there : kept z ex e ≡ true
    kept_there =
        let r : IsEncloser z (low q) e = ce_encloses z (low q) e c in
        kept_up z ex e (star_under e) (signed_star_kept z s ex (star_under e) t refl h) (strictly_at e (star_under e) (star_below e)) (kept_inside z false e r.there)

    is_parent : parent ≡ e
    is_parent = kept_encloser z ex (low q) e (low-low q) c kept_there

    has_parent : IsKeptParent z ex q parent
    has_parent =
        let up : strictly_above e (low q) ≡ true = (ce_encloses z (low q) e c).above in
        let k = kept_parent z ex (low q) e kept_there up in
        record { there = k.there; above = sym (strictly_lowered parent q) ∙ k.above; longest = λ p k' b. k.longest p k' (strictly_lowered p q ∙ b) }

    abbrev f : Facts
    f = facts (Some (starred z e t))

    within : at_or_above z.name q ≡ true
    within = sym (lowered_above z.name q) ∙ inside

    answers : Answers (decided z.name hash f q t)
    answers =
        let some = own_speaks z hash ex s apart.0 iterations salt ns (next_closer parent (low q)) (inl refl) in
        let w = expanded_answers z hash ex s iterations salt q 1 (lit< tt) refl apart inside ns (starred z e t) parent (ancestor_lowered z ex (low q) (low-low q)) (ap length (sym is_parent)) has_parent gone (inl refl) in (
          w.0,
          ap (λ b. elim b as (λ _. Option Verdict) [ true ↦ decided_inside z.name hash f q t | false ↦ None ]) within
              ∙ ap (λ b. elim b as (λ _. Option Verdict) [ false ↦ Some (Records (starred z e t).datas) | true ↦ by_wildcard z.name hash f (starred z e t) q ]) (own_expanded z q e t x c h)
              ∙ some_links records some.link (expanded z.name q (starred z e t) []) (hash_expanded hash q (starred z e t) records) some.inside
              ∙ w.1,
        )

    are_true : AreTrue z hash (Nsec3 iterations salt ex) q t f
    are_true = record { rrset = own_star_true z q e t x c h; said = chains_say_truly z hash (Nsec3 iterations salt ex) q f s apart (refl, own_true z hash ex s apart.0 iterations salt ns) }

    star_decided : decided z.name hash f q t ≡ Some (verdict z ex q t)
    star_decided = answers.1 ∙ ap (λ (v : Verdict). Some v) (sound_hashed z hash iterations salt ex f q t answers.0 s l are_true answers.1).0

  abbrev Decided : Option Rrset → Type 0
  Decided o = decided z.name hash (facts o) q t ≡ Some (verdict z ex q t)

  pub open_star_decided : (ds : List (List ℕ)) → verdict z false q t ≡ StarRecords ds → Decided (own_star z q (verdict z false q t))
  open_star_decided ds star = go (view z s q t (above_lowered (apex_of z) q ∙ inside))
    where
      other : (v : Verdict) → verdict z false q t ≡ v → (v ≡ StarRecords ds → ⊥) → Decided (own_star z q (verdict z false q t))
      other v is unlike = absurd (unlike (sym is ∙ star))

      go : View z q t → Decided (own_star z q (verdict z false q t))
      go (Starred e x c h v) = subst Decided (sym (ap (own_star z q) v ∙ own_star_is z q e t x c h)) (star_decided e x c h)
      go (Signed h v) = other (Records (data_at z (low q) t)) v (λ e. absurd cc)
      go (Missing x h v) = other NoType v (λ e. absurd cc)
      go (Cut c e n v) = other Delegated v (λ e. absurd cc)
      go (Unstarred e x c y h v) = other StarNoType v (λ e. absurd cc)
      go (Gone e x c y v) = other NoName v (λ e. absurd cc)

-- ---- whichever

abbrev due_by : Zone → (Name → List ℕ) → Mode → Name → ℕ → Verdict → List Name → Facts
due_by z hash mode q t v ns = record { rrset = own_rrset z q t v; links = own_links z mode ns; hash_links = own_hash_links z hash mode ns }

pub due_facts_decide : DueFactsDecide
due_facts_decide z hash mode q t s apart l own_decides = go mode apart own_decides (names_of z mode (low q) (verdict z false q t) (verdict z (optout_of mode) q t))
  where
    -- as the own ones
    same_names : (mode : Mode) → decided z.name hash (own_facts z hash mode q t) q t ≡ Some (verdict z (optout_of mode) q t)
        → due_names z mode (low q) (verdict z false q t) (verdict z (optout_of mode) q t) ≡ spoken z mode (low q) (verdict z false q t) (verdict z (optout_of mode) q t)
        → decided z.name hash (due_facts z hash mode q t) q t ≡ Some (verdict z (optout_of mode) q t)
    same_names mode decides same = ap (λ (ns : List Name). decided z.name hash (due_by z hash mode q t (verdict z (optout_of mode) q t) ns) q t) same ∙ decides

    go : (mode : Mode) → NoSharedHash z hash mode q → decided z.name hash (own_facts z hash mode q t) q t ≡ Some (verdict z (optout_of mode) q t)
        → ((ds : List (List ℕ)) × (verdict z false q t ≡ StarRecords ds) × (verdict z (optout_of mode) q t ≡ Open))
        ⊎ (due_names z mode (low q) (verdict z false q t) (verdict z (optout_of mode) q t) ≡ spoken z mode (low q) (verdict z false q t) (verdict z (optout_of mode) q t))
        → decided z.name hash (due_facts z hash mode q t) q t ≡ Some (verdict z (optout_of mode) q t)
    go mode apart decides (inr same) = same_names mode decides same
    go Nsec apart decides (inl (ds, star, left)) = absurd (let both : StarRecords ds ≡ Open = sym star ∙ left in cc)
    go (Nsec3 iterations salt ex) apart decides (inl (ds, star, left)) =
        let inside = on_true (at_or_above z.name q) (decided_inside z.name hash (own_facts z hash (Nsec3 iterations salt ex) q t) q t) (verdict z ex q t) decides in
        let facts_are : due_facts z hash (Nsec3 iterations salt ex) q t ≡ due_by z hash (Nsec3 iterations salt ex) q t Open (due_names z (Nsec3 iterations salt ex) (low q) (StarRecords ds) Open) =
        (λ i. due_by z hash (Nsec3 iterations salt ex) q t (left i) (due_names z (Nsec3 iterations salt ex) (low q) (star i) (left i))) in
        ap (λ (f : Facts). decided z.name hash f q t) facts_are
        ∙ open_star_decided z hash iterations salt ex q t s apart l (lowered_above z.name q ∙ inside.0) left ds star
