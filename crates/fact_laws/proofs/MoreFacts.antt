-- More true facts decide as fewer do.
use Rattle.std.proofs.Common.{◌≡◌, ℕ, Bool, true, false, List, [], ◌∷◌, Option, Some, None, refl, sym, ap, subst, ◌∙◌, inl}
use Rattle.std.specs.Prelude.{Contains, IfSome}
use Rattle.std.specs.List.{AllByRecursion}
use Rattle.definitions.specs.Name.{Name, at_or_above}
use Rattle.definitions.specs.Zone.{Records, Verdict, Zone, verdict}
use Rattle.definitions.specs.ZoneChain.{Mode, Nsec, Nsec3, optout_of}
use Rattle.definitions.proofs.ChainSpeaks.{all_from}
use Rattle.definitions.proofs.Members.{In, contained, in_contained}
use Rattle.definitions.proofs.ZoneNames.{lowered_above}
use Rattle.denial_laws.specs.Deciding.{by_chain, by_wildcard, decided, decided_inside}
use Rattle.denial_laws.specs.Facts.{Facts, HashLink, Link, Rrset, is_expanded}
use Rattle.denial_laws.specs.NsecRules.{denied, expanded}
use Rattle.denial_laws.specs.Nsec3Rules.{hash_denied, hash_expanded}
use Rattle.denial_laws.specs.Truth.{AreTrue, IsServable, IsTrueRrset, SayTruly, SaysTruly, SaysTrulyHash}
use Rattle.denial_laws.proofs.AtName.{Answers, on_true}
use Rattle.denial_laws.proofs.ChainBits.{all_at}
use Rattle.denial_laws.proofs.Sound.{true_facts_decide_truly}
use Rattle.fact_laws.specs.Laws.{Includes, MoreFactsDecide}
use Rattle.fact_laws.proofs.MoreHashes.{hash_denied_more, hash_expanded_more}
use Rattle.fact_laws.proofs.MoreLinks.{denied_more, expanded_more}

in_from : {X : Type 0} (xs : List X) (x : X) → Contains xs x → In x xs
in_from xs x c = in_contained xs x c.0 c.1 c.2

-- items of a list are items of another
pub items_in : {X : Type 0} (xs ys : List X) → ((x : X) → Contains xs x → Contains ys x) → (x : X) → In x xs → In x ys
items_in xs ys more x i = in_from ys x (more x (contained xs x i))

none_of : {X : Type 0} (xs ys : List X) → ((x : X) → In x xs → In x ys) → ys ≡ [] → xs ≡ []
none_of [] ys more e = refl
none_of {X} (x ∷ xs) ys more e = absurd (subst (λ (zs : List X). In x zs) e (more x (inl refl)))

all_less : {X : Type 0} (P : X → Type 0) (xs ys : List X) → ((x : X) → In x xs → In x ys) → AllByRecursion P ys → AllByRecursion P xs
all_less P xs ys more h = all_from P xs (λ x i. all_at P ys x h (more x i))

-- ---- whether there are hashes

abbrev by_hashes : Option Verdict → Option Verdict → List HashLink → Option Verdict
by_hashes without within fs = elim fs [ [] ↦ without | _ ∷ _ ↦ within ]

hashes_there : (without within : Option Verdict) (fs : List HashLink) (l : HashLink) → In l fs → by_hashes without within fs ≡ within
hashes_there without within [] l i = absurd i
hashes_there without within (x ∷ xs) l i = refl

-- where all is none, or one of a list answers
by_one : (without within other : Option Verdict) (fs gs : List HashLink) → ((l : HashLink) → In l fs → In l gs) → without ≡ None → ((v : Verdict) → within ≡ Some v → Answers other)
    → (v : Verdict) (besides : Option Verdict) → by_hashes without within fs ≡ Some v → Answers (by_hashes besides other gs)
by_one without within other [] gs more none f v besides h = let wrong : None ≡ Some v = sym none ∙ h in absurd cc
by_one without within other (l ∷ fs) gs more none f v besides h = let told = f v h in (told.0, hashes_there besides other gs l (more l (inl refl)) ∙ told.1)

-- ---- what is decided

abbrev by_rrset : Name → Option Verdict → (Rrset → Option Verdict) → Option Rrset → Option Verdict
by_rrset q chain wildcard o = elim o [
  | None ↦ chain
  | Some r ↦ elim (is_expanded r q) [ false ↦ Some (Records r.datas) | true ↦ wildcard r ]
]

more_inside : (q : Name) (chain other : Option Verdict) (wildcard others : Rrset → Option Verdict) → ((v : Verdict) → chain ≡ Some v → Answers other) → ((r : Rrset) (v : Verdict) → wildcard r ≡ Some v → Answers (others r))
    → (o : Option Rrset) (v : Verdict) → by_rrset q chain wildcard o ≡ Some v → Answers (by_rrset q other others o)
more_inside q chain other wildcard others f g None v h = f v h
more_inside q chain other wildcard others f g (Some r) v h = go (is_expanded r q) h
  where
    expanding : (Rrset → Option Verdict) → Bool → Option Verdict
    expanding w b = elim b [ false ↦ Some (Records r.datas) | true ↦ w r ]

    go : (b : Bool) → expanding wildcard b ≡ Some v → Answers (expanding others b)
    go false h = (Records r.datas, refl)
    go true h = g r v h

module _ (z : Zone) (hash : Name → List ℕ) (f more : Facts) (q : Name) (t : ℕ) (s : IsServable z) (has : Includes more f) where
  links_in : (l : Link) → In l f.links → In l more.links
  links_in l i = items_in f.links more.links has.links l i

  hashes_in : (l : HashLink) → In l f.hash_links → In l more.hash_links
  hashes_in l i = items_in f.hash_links more.hash_links has.hash_links l i

  abbrev Goes : (Facts → Option Verdict) → Type 0
  Goes rule = (v : Verdict) → rule f ≡ Some v → Answers (rule more)

  -- by NSEC records
  by_links : (rule other : Facts → Option Verdict) → (f.hash_links ≡ [] → more.hash_links ≡ []) → f.hash_links ≡ [] → ((v : Verdict) → rule f ≡ Some v → Answers (rule more))
      → (v : Verdict) → by_hashes (rule f) (other f) f.hash_links ≡ Some v → Answers (by_hashes (rule more) (other more) more.hash_links)
  by_links rule other none here go v h =
      let told = go v (sym (ap (by_hashes (rule f) (other f)) here) ∙ h) in
      (told.0, ap (by_hashes (rule more) (other more)) (none here) ∙ told.1)

  more_answers : (mode : Mode) → SayTruly z hash mode q more → at_or_above z.name q ≡ true → (v : Verdict) → decided_inside z.name hash f q t ≡ Some v → Answers (decided_inside z.name hash more q t)
  more_answers Nsec are inside v h =
      let none : f.hash_links ≡ [] = none_of f.hash_links more.hash_links hashes_in are.1 in
      let told =
      more_inside q (by_chain z.name hash f q t) (by_chain z.name hash more q t) (λ r. by_wildcard z.name hash f r q) (λ r. by_wildcard z.name hash more r q)
      (by_links (λ g. denied z.name q t g.links) (λ g. hash_denied z.name hash q t g.hash_links) (λ _. are.1) none (denied_more z.name q t f.links more.links links_in))
      (λ r. by_links (λ g. expanded z.name q r g.links) (λ g. hash_expanded hash q r g.hash_links) (λ _. are.1) none (expanded_more z.name q t f.links more.links links_in r))
      f.rrset v h in
      (told.0, ap (by_rrset q (by_chain z.name hash more q t) (λ r. by_wildcard z.name hash more r q)) has.rrset ∙ told.1)
  more_answers (Nsec3 iterations salt ex) are inside v h =
      let none : f.links ≡ [] = none_of f.links more.links links_in are.0 in
      let told =
      more_inside q (by_chain z.name hash f q t) (by_chain z.name hash more q t) (λ r. by_wildcard z.name hash f r q) (λ r. by_wildcard z.name hash more r q)
      (λ w. by_one (denied z.name q t f.links) (hash_denied z.name hash q t f.hash_links) (hash_denied z.name hash q t more.hash_links) f.hash_links more.hash_links hashes_in (ap (denied z.name q t) none)
      (hash_denied_more z hash ex q t f.hash_links more.hash_links hashes_in (λ l i. all_at (SaysTrulyHash z hash ex q) more.hash_links l are.1 i) (lowered_above z.name q ∙ inside)) w (denied z.name q t more.links))
      (λ r w. by_one (expanded z.name q r f.links) (hash_expanded hash q r f.hash_links) (hash_expanded hash q r more.hash_links) f.hash_links more.hash_links hashes_in (ap (expanded z.name q r) none)
      (hash_expanded_more z.name hash t f.hash_links more.hash_links hashes_in q r) w (expanded z.name q r more.links))
      f.rrset v h in
      (told.0, ap (by_rrset q (by_chain z.name hash more q t) (λ r. by_wildcard z.name hash more r q)) has.rrset ∙ told.1)

  pub fewer_say : (mode : Mode) → SayTruly z hash mode q more → SayTruly z hash mode q f
  fewer_say Nsec are = (all_less (SaysTruly z q) f.links more.links links_in are.0, none_of f.hash_links more.hash_links hashes_in are.1)
  fewer_say (Nsec3 iterations salt ex) are = (none_of f.links more.links links_in are.0, all_less (SaysTrulyHash z hash ex q) f.hash_links more.hash_links hashes_in are.1)

pub more_facts_decide : MoreFactsDecide
more_facts_decide z hash mode f more q t v s l are has h =
    let inside = on_true (at_or_above z.name q) (decided_inside z.name hash f q t) v h in
    let told = more_answers z hash f more q t s has mode are.said inside.0 v inside.1 in
    let answers : decided z.name hash more q t ≡ Some told.0 = ap (λ b. elim b as (λ _. Option Verdict) [ true ↦ decided_inside z.name hash more q t | false ↦ None ]) inside.0 ∙ told.1 in
    let own : AreTrue z hash mode q t f = record { rrset = subst (λ o. IfSome o (IsTrueRrset z q t)) has.rrset are.rrset; said = fewer_say z hash f more q t s has mode are.said } in
    let first : v ≡ verdict z (optout_of mode) q t = (true_facts_decide_truly z hash mode f q t v s l own h).0 in
    let second : told.0 ≡ verdict z (optout_of mode) q t = (true_facts_decide_truly z hash mode more q t told.0 s l are answers).0 in
    answers ∙ ap (λ w. Some w) (second ∙ sym first)
