-- The closest encloser that a covering record shows is the zone's.
use Rattle.std.proofs.Common.{◌≡◌, ℕ, Bool, true, false, List, [], ◌∷◌, drop, Option, Some, refl, sym, ap, ◌∙◌, inl, inr}
use Rattle.std.specs.Prelude.{if◌then◌else◌}
use Rattle.std.proofs.lemmas.Bool.{or_left, or_right, false≢true, false_from_ne_true}
use Rattle.definitions.specs.Name.{Name, low, same, at_or_above, strictly_above}
use Rattle.definitions.specs.Covering.{covers}
use Rattle.definitions.specs.Zone.{Zone, apex_of, exists, ce}
use Rattle.definitions.specs.ZoneChain.{nsec_names}
use Rattle.definitions.proofs.Members.{In}
use Rattle.definitions.proofs.ZoneNames.{above_itself, low-low, lowered_above, kept-live, live_owner, owner_in_chain}
use Rattle.denial_laws.specs.Facts.{Link}
use Rattle.denial_laws.specs.Truth.{Concerns, IsServable, SaysTruly, Own, Bare, MadeUp, Denied, Starred}
use Rattle.denial_laws.specs.NsecRules.{has_more, shown_owner, shows, closest}
use Rattle.denial_laws.proofs.NameFacts.{above-low, same_names, strictly_at, strictly_from, above_trans}
use Rattle.denial_laws.proofs.Adjacent.{Covered, apex_in, chain_inside, link_covered, beside}
use Rattle.denial_laws.proofs.BareTypes.{bare_no_more, denied_no_more}
use Rattle.denial_laws.proofs.ZoneCuts.{IsKeptBy, kept_by, by_kept, kept_live}

module _ (z : Zone) (s : IsServable z) where
  -- a live owner stands at or below a name that exists
  pub exists_from : (q : Name) → exists z q ≡ true → (w : Name) × (In w (nsec_names z) × (at_or_above q w ≡ true))
  exists_from q h =
      let k : IsKeptBy z false q = kept_by z false q h in
      (k.owner, (owner_in_chain z k.owner k.inside (kept_live z false k.owner k.kept), k.below))

  pub exists_is : (q w : Name) → at_or_above (apex_of z) q ≡ true → In w (nsec_names z) → at_or_above q w ≡ true → exists z q ≡ true
  exists_is q w a i h =
      let o = live_owner z w i in
      by_kept z false q (record { owner = w; inside = o.0; kept = kept-live z w ∙ o.1; below = h; apex = a })

  -- a live owner exists
  pub owner_exists : (w : Name) → In w (nsec_names z) → exists z w ≡ true
  owner_exists w i = exists_is w w (chain_inside z s w i) i (above_itself w)

-- A proper ancestor of a name: the closest that a record shows, and the closest that the zone has.
pub record Encloser (z : Zone) (f : Link) (q : Name) : Type 0 where
  pub name : Name
  pub shown : closest f q ≡ Some name
  pub is : ce z (low q) ≡ Some (low name)
  pub above : strictly_above name q ≡ true
  pub inside : at_or_above (apex_of z) name ≡ true

above_parent : (p o : Name) → strictly_above p o ≡ true → at_or_above p (drop 1 o) ≡ true
above_parent p [] h = absurd (false≢true h)
above_parent p (l ∷ o) h = h

module _ (z : Zone) (s : IsServable z) {Q : Name} (f : Link) (g : SaysTruly z Q f) (q : Name) (asked : Concerns z Q q) (h : covers z.name f.owner f.next q ≡ true) where
  k : Covered z (low f.owner) (low f.next) (low q)
  k = link_covered z s f g q h

  -- a record that covers the name has more types exactly where its owner exists
  pub more_exists : has_more f.bits ≡ exists z (low f.owner)
  more_exists = elim g.owner [
    | Own i more ↦ more ∙ sym i.exists_is
    | Bare b ↦ absurd (false≢true (sym (b.silent q asked) ∙ h))
    | MadeUp m ↦ bare_no_more f.bits m.bare ∙ sym m.gone
    | Denied d ↦ denied_no_more f.bits d.nxname ∙ sym d.missing.missing.gone
    | Starred w ↦ absurd (false≢true (sym (w.silent q asked) ∙ h))
  ]

  -- so it shows what is at or above the owner and exists
  owner_shown : (p : Name) → at_or_above p f.owner ≡ true → exists z (low p) ≡ true → at_or_above p (shown_owner f) ≡ true
  owner_shown p a e = go (has_more f.bits) refl
    where
      go : (b : Bool) → has_more f.bits ≡ b → at_or_above p (shown_owner f) ≡ true
      go true m = ap (λ b. at_or_above p (if b then f.owner else drop 1 f.owner)) m ∙ a
      go false m =
          let apart : same p f.owner ≡ true → ⊥ = λ t. false≢true (sym m ∙ more_exists ∙ ap (exists z) (sym (same_names p f.owner t)) ∙ e) in
          ap (λ b. at_or_above p (if b then f.owner else drop 1 f.owner)) m ∙ above_parent p f.owner (strictly_from p f.owner a apart)

  -- it shows an ancestor exactly where it exists
  exists_shown : (p : Name) → at_or_above p q ≡ true → exists z (low p) ≡ true → shows f p ≡ true
  exists_shown p h e =
      let w = exists_from z s (low p) e in
      elim (beside z s (low f.owner) (low f.next) (low q) k (low p) w.0 (above-low p q ∙ h) w.1.0 w.1.1) [
        | inl a ↦ or_left (at_or_above p (shown_owner f)) (at_or_above p f.next) (owner_shown p (sym (above-low p f.owner) ∙ a) e)
        | inr a ↦ or_right (at_or_above p (shown_owner f)) (at_or_above p f.next) (sym (above-low p f.next) ∙ a)
      ]

  shown_exists : (p : Name) → at_or_above (apex_of z) p ≡ true → at_or_above p q ≡ true → shows f p ≡ true → exists z (low p) ≡ true
  shown_exists p a up e = g.shown p q asked h up (sym (lowered_above z.name p) ∙ a) e

  apex_shown : (p : Name) → at_or_above p q ≡ true → same (apex_of z) p ≡ true → shows f p ≡ true
  apex_shown p h e = exists_shown p h (ap (exists z) (sym (same_names (apex_of z) p e) ∙ low-low z.name) ∙ owner_exists z s (apex_of z) (apex_in z s))

  found : (l : List ℕ) (p : Name) (b : Bool) → shows f p ≡ b → at_or_above (l ∷ p) q ≡ true → at_or_above (apex_of z) p ≡ true
      → (strictly_above (apex_of z) p ≡ true → at_or_above p q ≡ true → Encloser z f p) → Encloser z f (l ∷ p)
  found l p true e h a later = record {
    name = p;
    shown = ap (λ b. elim b as (λ _. Option Name) [ true ↦ Some p | false ↦ closest f p ]) e;
    is = ap (λ b. if b then Some (low p) else ce z (low p)) (shown_exists p a (above_trans p (l ∷ p) q (strictly_at p (l ∷ p) (above_itself p)) h) e);
    above = above_itself p;
    inside = a;
  }
  found l p false e h a later =
      let below : at_or_above p q ≡ true = above_trans p (l ∷ p) q (strictly_at p (l ∷ p) (above_itself p)) h in
      let apart : same (apex_of z) p ≡ true → ⊥ = λ t. false≢true (sym e ∙ apex_shown p below t) in
      let r : Encloser z f p = later (strictly_from (apex_of z) p a apart) below in
      record {
        name = r.name;
        shown = ap (λ b. elim b as (λ _. Option Name) [ true ↦ Some p | false ↦ closest f p ]) e ∙ r.shown;
        is = ap (λ b. if b then Some (low p) else ce z (low p)) (false_from_ne_true (exists z (low p)) (λ x. false≢true (sym e ∙ exists_shown p below x))) ∙ r.is;
        above = strictly_at r.name p r.above;
        inside = r.inside;
      }

  enclosed : (p : Name) → at_or_above p q ≡ true → strictly_above (apex_of z) p ≡ true → Encloser z f p
  enclosed [] h a = absurd (false≢true a)
  enclosed (l ∷ p) h a = found l p (shows f p) refl h a (λ b below. enclosed p below b)

  pub encloser : strictly_above (apex_of z) q ≡ true → Encloser z f q
  encloser a = enclosed q (above_itself q) a
