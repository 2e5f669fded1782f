-- What the answer for each verdict of a zone holds, with a chain of either kind.
use Rattle.std.proofs.Common.{◌≡◌, ℕ, Bool, false, ◌&&◌, List, [], ◌∷◌, ◌++◌, map, Option, Some, None, refl, sym, ap, ◌∙◌}
use Rattle.std.specs.Prelude.{◌==◌, if◌then◌else◌}
use Rattle.std.specs.List.{filter}
use Rattle.definitions.specs.Name.{Name, low, labels_eq}
use Rattle.definitions.specs.Zone.{Verdict, Records, NoType, NoName, StarRecords, StarNoType, Delegated, Open, ce, cut, star_under, verdict}
use Rattle.definitions.specs.ZoneChain.{Mode, optout_of}
use Rattle.denial_laws.specs.OwnFacts as own
use Rattle.messages.specs.HandedRr.{HandedRr}
use Rattle.answer_terms.specs.Accepting.{zone_with}
use Rattle.answer_terms.specs.Served.{ServedRrset, Served, ahead, ahead_open, answer_groups, chain_names, chain_record, expanded, if_any, proofs_of, rrset, served_of, soa, spoken, under, unsigned_ns}

none_chosen : (xs : List Name) → filter (λ _. false) xs ≡ []
none_chosen [] = refl
none_chosen (x ∷ xs) = none_chosen xs

no_proofs : (s : Served) → proofs_of s [] ≡ []
no_proofs s = ap (map (chain_record s)) (none_chosen (chain_names s))

abbrev groups_for : Served → Name → ℕ → Verdict → List ServedRrset
groups_for s q t v = ahead s q t v ++ proofs_of s (spoken s (low q) (verdict s.zone false q t) v)

module _ (apex : Name) (mode : Mode) (hash : Name → List ℕ) (rs : List HandedRr) (q : Name) (t : ℕ) where
  abbrev ours : Served
  ours = served_of apex mode hash rs

  abbrev says : Verdict → Type 0
  says v = verdict (zone_with apex rs) (optout_of mode) q t ≡ v

  pub groups_found : (ds : List (List ℕ)) → says (Records ds) → under q (rrset ours (low q) t) ∷ [] ≡ answer_groups ours q t
  groups_found ds e = sym (ap (groups_for ours q t) e ∙ ap (λ gs. under q (rrset ours (low q) t) ∷ gs) (no_proofs ours))

  pub groups_without_type : says NoType → soa ours ∷ proofs_of ours (low q ∷ []) ≡ answer_groups ours q t
  groups_without_type e = sym (ap (groups_for ours q t) e)

  pub groups_without_name : says NoName → soa ours ∷ proofs_of ours (own.spoken (zone_with apex rs) mode (low q) NoName NoName) ≡ answer_groups ours q t
  groups_without_name e = sym (ap (groups_for ours q t) e)

  pub groups_expanded : (n : Name) (ds : List (List ℕ)) → ce (zone_with apex rs) (low q) ≡ Some n → says (StarRecords ds) → expanded ours (star_under n) q t ++ proofs_of ours (own.spoken (zone_with apex rs) mode (low q) (StarRecords []) (StarRecords [])) ≡ answer_groups ours q t
  groups_expanded n ds c e =
      sym (ap (groups_for ours q t) e
      ∙ ap (λ o. (elim o [ None ↦ [] | Some n ↦ expanded ours (star_under n) q t ]) ++ proofs_of ours (own.spoken (zone_with apex rs) mode (low q) (StarRecords []) (StarRecords []))) c)

  pub groups_without_star_type : says StarNoType → soa ours ∷ proofs_of ours (own.spoken (zone_with apex rs) mode (low q) NoName NoName) ≡ answer_groups ours q t
  groups_without_star_type e = sym (ap (groups_for ours q t) e)

  pub groups_delegated : (c : Name) → cut (zone_with apex rs) (low q) ≡ Some c → says Delegated → unsigned_ns ours c ++ if_any ours c 43 ++ proofs_of ours (c ∷ []) ≡ answer_groups ours q t
  groups_delegated c f e =
      sym (ap (groups_for ours q t) e
      ∙ ap (λ o. (elim o [ None ↦ [] | Some n ↦ unsigned_ns ours n ++ if_any ours n 43 ]) ++ proofs_of ours (elim o [ None ↦ [] | Some n ↦ n ∷ [] ])) f)

  -- ---- what opt-out leaves open

  abbrev left_open : Bool → List ServedRrset
  left_open star = proofs_of ours (own.open_spoken (zone_with apex rs) mode (low q) star)

  abbrev open_for : Verdict → List ServedRrset
  open_for v = ahead_open ours q t v ++ left_open (own.denies_star v)

  -- an answer that is no wildcard's: the SOA record, or the name servers of a delegation
  abbrev by_cut : Option Name → List ServedRrset
  by_cut o = elim o [ None ↦ soa ours ∷ [] | Some c ↦ if labels_eq c (low q) && (t == 43) then soa ours ∷ [] else unsigned_ns ours c ]

  groups_open : (v : Verdict) → says Open → verdict (zone_with apex rs) false q t ≡ v → open_for v ≡ answer_groups ours q t
  groups_open v e f = sym (ap (groups_for ours q t) e ∙ ap open_for f)

  pub groups_open_expanded : (n : Name) (ds : List (List ℕ)) → says Open → verdict (zone_with apex rs) false q t ≡ StarRecords ds → ce (zone_with apex rs) (low q) ≡ Some n → expanded ours (star_under n) q t ++ left_open false ≡ answer_groups ours q t
  groups_open_expanded n ds e f c =
      sym (ap (λ o. (elim o [ None ↦ [] | Some n ↦ expanded ours (star_under n) q t ]) ++ left_open false) c)
      ∙ groups_open (StarRecords ds) e f

  pub groups_open_delegated : (c : Name) → says Open → verdict (zone_with apex rs) false q t ≡ Delegated → cut (zone_with apex rs) (low q) ≡ Some c → (labels_eq c (low q) && (t == 43)) ≡ false → unsigned_ns ours c ++ left_open false ≡ answer_groups ours q t
  groups_open_delegated c e f k n =
      sym (ap (λ o. by_cut o ++ left_open false) k ∙ ap (λ b. (if b then soa ours ∷ [] else unsigned_ns ours c) ++ left_open false) n)
      ∙ groups_open Delegated e f

  pub groups_open_missing : (v : Verdict) (star : Bool) → own.denies_star v ≡ star → (ahead_open ours q t v ≡ by_cut (cut (zone_with apex rs) (low q))) → by_cut (cut (zone_with apex rs) (low q)) ≡ soa ours ∷ [] → says Open → verdict (zone_with apex rs) false q t ≡ v → soa ours ∷ left_open star ≡ answer_groups ours q t
  groups_open_missing v star d a k e f =
      sym (ap (λ gs. gs ++ left_open (own.denies_star v)) (a ∙ k) ∙ ap (λ b. soa ours ∷ left_open b) d)
      ∙ groups_open v e f
