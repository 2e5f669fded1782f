-- What leads anywhere is an alias, and where aliases are in order it leads to one name at most.
use Rattle.std.proofs.Common.{◌≡◌, ℕ, Bool, true, false, not, List, [], ◌∷◌, get_or, Option, Some, None, sym, ap, ◌∙◌, inl, inr}
use Rattle.std.proofs.lemmas.Bool.{and_from, or_left, or_right, not_from_false}
use Rattle.definitions.specs.Name.{Name, low, wire}
use Rattle.definitions.specs.Zone.{Zone, is_open, cut, exists, ce, star_under, data_at}
use Rattle.definitions.proofs.ZoneNames.{low-low, same_lowered, owner_lowered}
use Rattle.denial_laws.specs.Aliases.{IsOrderly, is_redirected, has_alias, has_own_alias}
use Rattle.denial_laws.specs.Leading.{Lead, To, exchanged, IsRedirectedTo, IsRenamedTo, source_of, OnlyAliasesLead, AliasesLeadToOne}
use Rattle.denial_laws.proofs.NameFacts.{above_cases, above_either, strictly_at}
use Rattle.denial_laws.proofs.ZoneCuts.{has_owner}
use Rattle.denial_laws.proofs.Unaliased.{IsRedirector, redirected_by, no_redirector, none_below, own_alias}
use Rattle.denial_laws.proofs.WireTells.{wire_tells}

-- ---- aliases

redirector_of : (z : Zone) (name : Name) (lead : Lead) (r : IsRedirectedTo z name lead) → IsRedirector z (low name) r.owner
redirector_of z name lead r = record { redirects = r.stands; live = r.live; above = r.above }

-- the source's CNAME is the name's own alias
source_alias : (z : Zone) (q o : Name) (t : ℕ) → source_of z q ≡ Some o → has_own_alias z q t ≡ has_alias z o t
source_alias z q o t h = go (cut z q) (exists z q) (ce z q) h
  where
    go : (c : Option Name) (x : Bool) (e : Option Name)
        → (elim c as (λ _. Option Name) [ Some d ↦ None | None ↦ elim x [ true ↦ Some q | false ↦ elim e [ None ↦ None | Some n ↦ Some (star_under n) ] ] ]) ≡ Some o
        → own_alias z q t c x e ≡ has_alias z o t
    go (Some d) x e h = absurd cc
    go None true e h = let is : q ≡ o = cc in ap (λ n. has_alias z n t) is
    go None false None h = absurd cc
    go None false (Some n) h = let is : star_under n ≡ o = cc in ap (λ n. has_alias z n t) is

pub only_aliases_lead : OnlyAliasesLead
only_aliases_lead z optout name t lead h = elim h [
  | inl r ↦ or_left (is_redirected z (low name)) _ (redirected_by z (low name) r.owner (low-low name) (redirector_of z name lead r))
  | inr r ↦ or_right (is_redirected z (low name)) _ (and_from (not (is_open z optout (low name))) (has_own_alias z (low name) t)
      (not_from_false (is_open z optout (low name)) r.closed) (source_alias z (low name) r.owner t r.source ∙ r.answers))
]

-- ---- one name

one_target : (a b : Name) (ds : List (List ℕ)) → ds ≡ wire a ∷ [] → ds ≡ wire b ∷ [] → a ≡ b
one_target a b ds h k = wire_tells a b (ap (λ (l : List (List ℕ)). get_or l 0 []) (sym h ∙ k))

module _ (z : Zone) (s : IsOrderly z) where
  -- of two DNAMEs above a name one would stand below the other
  one_redirector : (q d e : Name) → IsRedirector z q d → IsRedirector z q e → d ≡ e
  one_redirector q d e r k =
      let od = has_owner z d 39 r.redirects in
      let oe = has_owner z e 39 k.redirects in
      elim (above_either d e q (strictly_at d q r.above) (strictly_at e q k.above)) [
        | inl up ↦ elim (above_cases d e up) [
          | inl m ↦ same_lowered d e (owner_lowered z d od) (owner_lowered z e oe) m
          | inr m ↦ absurd (none_below z s d e r.redirects oe m)
        ]
        | inr down ↦ elim (above_cases e d down) [
          | inl m ↦ sym (same_lowered e d (owner_lowered z e oe) (owner_lowered z d od) m)
          | inr m ↦ absurd (none_below z s e d k.redirects od m)
        ]
      ]

  redirected_once : (name : Name) (a b : Lead) → IsRedirectedTo z name a → IsRedirectedTo z name b → a ≡ b
  redirected_once name a b r k =
      let owner : r.owner ≡ k.owner = one_redirector (low name) r.owner k.owner (redirector_of z name a r) (redirector_of z name b k) in
      let target : r.target ≡ k.target = one_target r.target k.target (data_at z r.owner 39) r.datas (ap (λ n. data_at z n 39) owner ∙ k.datas) in
      r.is ∙ (λ i. exchanged name (owner i) (target i)) ∙ sym k.is

renamed_once : (z : Zone) (optout : Bool) (name : Name) (t : ℕ) (a b : Lead) → IsRenamedTo z optout name t a → IsRenamedTo z optout name t b → a ≡ b
renamed_once z optout name t a b r k =
    let owner : r.owner ≡ k.owner = (let both : Some r.owner ≡ Some k.owner = sym r.source ∙ k.source in cc) in
    let target : r.target ≡ k.target = one_target r.target k.target (data_at z r.owner 5) r.datas (ap (λ n. data_at z n 5) owner ∙ k.datas) in
    r.is ∙ ap (λ n. To n) target ∙ sym k.is

-- what is redirected is not renamed
not_both : (z : Zone) (optout : Bool) (name : Name) (t : ℕ) (a b : Lead) → IsRedirectedTo z name a → IsRenamedTo z optout name t b → ⊥
not_both z optout name t a b r k = no_redirector z (low name) r.owner (low-low name) k.direct (redirector_of z name a r)

pub aliases_lead_to_one : AliasesLeadToOne
aliases_lead_to_one z optout name t a b s h k = elim h [
  | inl r ↦ elim k [ inl m ↦ redirected_once z s name a b r m | inr m ↦ absurd (not_both z optout name t a b r m) ]
  | inr r ↦ elim k [ inl m ↦ absurd (not_both z optout name t b a m r) | inr m ↦ renamed_once z optout name t a b r m ]
]
