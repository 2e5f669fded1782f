-- The facts of a zone's own answer are true, and of the chain that it is published with.
use Rattle.std.proofs.Common.{◌≡◌, ℕ, Bool, true, false, List, Option, refl, sym, ap, subst, ◌∙◌}
use Rattle.std.specs.Prelude.{IfSome, filter}
use Rattle.std.specs.List.{AllByRecursion, list_any}
use Rattle.definitions.specs.Name.{Name, at_or_above, low}
use Rattle.definitions.specs.Zone.{Verdict, Zone, apex_of, ce, cut, exists, is_open, verdict}
use Rattle.definitions.specs.ZoneChain.{Mode, Nsec, Nsec3, hashed_names, optout_of}
use Rattle.definitions.proofs.ChainSpeaks.{all_from}
use Rattle.definitions.proofs.Members.{contained, filter_in, map_in}
use Rattle.definitions.proofs.VerdictCases.{said, verdict-open, verdict-said}
use Rattle.denial_laws.specs.Facts.{Facts, Rrset}
use Rattle.denial_laws.specs.OwnFacts.{hash_link_of, hash_link_speaks, own_facts, own_hash_links, own_links, own_rrset, own_star, spoken}
use Rattle.denial_laws.specs.Truth.{IsServable, IsTrueLink, IsTrueRrset}
use Rattle.denial_laws.proofs.OwnLinks.{own_links_true}
use Rattle.denial_laws.proofs.OwnRrset.{own_records_true, own_star_is, own_star_true}
use Rattle.denial_laws.proofs.VerdictView.{Cut, Gone, Missing, Signed, Starred, Unstarred, View, view}
use Rattle.fact_laws.specs.Due.{due_facts}
use Rattle.fact_laws.specs.Laws.{Includes}
use Rattle.fact_laws.proofs.DueFacts.{own_includes_due}
use Rattle.message_laws.specs.Shown.{AreOfChain, IsChainLink}

module _ (z : Zone) (s : IsServable z) (ex : Bool) (q : Name) (t : ℕ) (inside : at_or_above (apex_of z) (low q) ≡ true) where
  abbrev IsTrue : Option Rrset → Type 0
  IsTrue o = IfSome o (IsTrueRrset z q t)

  closed_true : View z q t → IsTrue (own_rrset z q t (verdict z false q t))
  closed_true (Signed h v) = subst (λ (x : Verdict). IsTrue (own_rrset z q t x)) (sym v) (own_records_true z q t h)
  closed_true (Starred e x c h v) =
      subst (λ (y : Verdict). IsTrue (own_rrset z q t y)) (sym v) (subst IsTrue (sym (own_star_is z q e t x c h)) (own_star_true z q e t x c h))
  closed_true (Missing x h v) = subst (λ (y : Verdict). IsTrue (own_rrset z q t y)) (sym v) tt
  closed_true (Cut c e n v) = subst (λ (y : Verdict). IsTrue (own_rrset z q t y)) (sym v) tt
  closed_true (Unstarred e x c y h v) = subst (λ (y : Verdict). IsTrue (own_rrset z q t y)) (sym v) tt
  closed_true (Gone e x c y v) = subst (λ (y : Verdict). IsTrue (own_rrset z q t y)) (sym v) tt

  open_true : View z q t → IsTrue (own_star z q (verdict z false q t))
  open_true (Signed h v) = subst (λ (x : Verdict). IsTrue (own_star z q x)) (sym v) tt
  open_true (Starred e x c h v) = subst (λ (y : Verdict). IsTrue (own_star z q y)) (sym v) (subst IsTrue (sym (own_star_is z q e t x c h)) (own_star_true z q e t x c h))
  open_true (Missing x h v) = subst (λ (y : Verdict). IsTrue (own_star z q y)) (sym v) tt
  open_true (Cut c e n v) = subst (λ (y : Verdict). IsTrue (own_star z q y)) (sym v) tt
  open_true (Unstarred e x c y h v) = subst (λ (y : Verdict). IsTrue (own_star z q y)) (sym v) tt
  open_true (Gone e x c y v) = subst (λ (y : Verdict). IsTrue (own_star z q y)) (sym v) tt

  closed : is_open z ex (low q) ≡ false → verdict z ex q t ≡ verdict z false q t
  closed o = verdict-said z ex q (low q) t refl ∙ ap (λ b. said z (low q) t b (cut z (low q)) (exists z (low q)) (ce z (low q))) o ∙ sym (verdict-said z false q (low q) t refl)

  pub own_rrset_true : IsTrue (own_rrset z q t (verdict z ex q t))
  own_rrset_true = go (is_open z ex (low q)) refl
    where
      go : (b : Bool) → is_open z ex (low q) ≡ b → IsTrue (own_rrset z q t (verdict z ex q t))
      go false o = subst (λ (v : Verdict). IsTrue (own_rrset z q t v)) (sym (closed o)) (closed_true (view z s q t inside))
      go true o = subst (λ (v : Verdict). IsTrue (own_rrset z q t v)) (sym (verdict-open z ex q (low q) t refl o)) (open_true (view z s q t inside))

-- what has the facts of the own answer has those that are due
pub includes_due : (z : Zone) (hash : Name → List ℕ) (mode : Mode) (q : Name) (t : ℕ) (f : Facts) → Includes f (own_facts z hash mode q t) → Includes f (due_facts z hash mode q t)
includes_due z hash mode q t f has =
    let own = own_includes_due z hash mode q t in
    record {
      rrset = has.rrset ∙ own.rrset;
      links = λ l c. has.links l (own.links l c);
      hash_links = λ l c. has.hash_links l (own.hash_links l c);
    }

-- the links of a chain of hashes
own_chain_links : (z : Zone) (hash : Name → List ℕ) (iterations : ℕ) (salt : List ℕ) (optout : Bool) (qs : List Name) → AllByRecursion (IsChainLink z hash iterations salt optout) (own_hash_links z hash (Nsec3 iterations salt optout) qs)
own_chain_links z hash iterations salt optout qs =
    all_from (IsChainLink z hash iterations salt optout) (own_hash_links z hash (Nsec3 iterations salt optout) qs) (λ l i.
    let m = map_in (hash_link_of z hash iterations salt optout) (filter (λ o. list_any (hash_link_speaks z hash optout o) qs) (hashed_names hash z optout)) l i in
    let f = filter_in (λ o. list_any (hash_link_speaks z hash optout o) qs) (hashed_names hash z optout) m.item m.inside in
    subst (IsChainLink z hash iterations salt optout) (sym m.makes) (
      record { name = m.item; named = contained (hashed_names hash z optout) m.item f.0; owner = refl; next = refl; bits = refl; opts = refl },
      refl,
      refl,
    ))

pub own_of_chain : (z : Zone) (s : IsServable z) (hash : Name → List ℕ) (mode : Mode) (q : Name) (t : ℕ) → AreOfChain z hash mode (own_facts z hash mode q t)
own_of_chain z s hash Nsec q t =
    let qs : List Name = spoken z Nsec (low q) (verdict z false q t) (verdict z (optout_of Nsec) q t) in
    (all_from (IsTrueLink z) (own_links z Nsec qs) (own_links_true z s qs), refl)
own_of_chain z s hash (Nsec3 iterations salt optout) q t =
    let mode : Mode = Nsec3 iterations salt optout in
    (refl, own_chain_links z hash iterations salt optout (spoken z mode (low q) (verdict z false q t) (verdict z (optout_of mode) q t)))
