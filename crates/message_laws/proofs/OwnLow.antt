-- In which case a name is spelled means nothing to a zone's own answer for it, nor to what is verified on it.
use Rattle.std.proofs.Common.{◌≡◌, ℕ, false, List, Option, Some, None, length, refl, ap, subst, ◌∙◌}
use Rattle.std.specs.Prelude.{Contains, IsSome}
use Rattle.std.specs.Option.{option_map}
use Rattle.definitions.specs.Name.{Name, low, wire}
use Rattle.definitions.specs.Signing.{Fields}
use Rattle.definitions.specs.Zone.{Delegated, NoName, NoType, Open, Records, StarNoType, StarRecords, Unsigned, Verdict, Zone, apex_of, ce, verdict}
use Rattle.definitions.specs.ZoneChain.{Mode, Nsec, Nsec3, nsec3_names, optout_of}
use Rattle.definitions.specs.Laws.{SharesNone}
use Rattle.denial_laws.specs.Facts.{Rrset}
use Rattle.denial_laws.specs.OwnFacts.{own_facts, own_hash_links, own_links, own_rrset, own_star, spoken}
use Rattle.denial_laws.specs.Truth.{concerned}
use Rattle.messages.specs.Message.{Spelled}
use Rattle.answer_terms.specs.Hashing.{Hasher, HashesHold, hash_in}
use Rattle.answer_judge_facts.specs.Verified.{Trusting, rrset_in, verified_by, verified_rrset}
use Rattle.answer_judge_facts.proofs.JudgeCase.{label_count-owner, rrset_in-owner}
use Rattle.answer_judge_facts.proofs.JudgeTimes.{alike_verified}
use Rattle.message_laws.proofs.ShownLeads.{same_verdict}

-- ---- a zone's own facts

module _ (z : Zone) (p q : Name) (e : low p ≡ low q) where
  star_low : (v : Verdict) → own_star z p v ≡ own_star z q v
  star_low (Records ds) = refl
  star_low (StarRecords ds) = ap (λ (n : Name). elim (ce z n) as (λ _. Option Rrset) [ None ↦ None | Some y ↦ Some (record { datas = ds; labels = length y }) ]) e
  star_low NoType = refl
  star_low NoName = refl
  star_low StarNoType = refl
  star_low Delegated = refl
  star_low Open = refl
  star_low Unsigned = refl

  pub rrset_low : (t : ℕ) (v : Verdict) → own_rrset z p t v ≡ own_rrset z q t v
  rrset_low t (Records ds) = ap (λ (n : ℕ). Some (record { datas = ds; labels = n })) (label_count-owner p q e)
  rrset_low t (StarRecords ds) = star_low (StarRecords ds)
  rrset_low t NoType = refl
  rrset_low t NoName = refl
  rrset_low t StarNoType = refl
  rrset_low t Delegated = refl
  rrset_low t Open = star_low (verdict z false p t) ∙ ap (own_star z q) (same_verdict z false p q t e)
  rrset_low t Unsigned = refl

  pub own_low : (hash : Name → List ℕ) (mode : Mode) (t : ℕ) → own_facts z hash mode p t ≡ own_facts z hash mode q t
  own_low hash mode t =
      let said = same_verdict z (optout_of mode) p q t e in
      let told = same_verdict z false p q t e in
      let rrset : own_rrset z p t (verdict z (optout_of mode) p t) ≡ own_rrset z q t (verdict z (optout_of mode) q t) = rrset_low t (verdict z (optout_of mode) p t) ∙ ap (own_rrset z q t) said in
      let names : spoken z mode (low p) (verdict z false p t) (verdict z (optout_of mode) p t) ≡ spoken z mode (low q) (verdict z false q t) (verdict z (optout_of mode) q t) = λ i. spoken z mode (e i) (told i) (said i) in
      λ i. record { rrset = rrset i; links = own_links z mode (names i); hash_links = own_hash_links z hash mode (names i) }

-- ---- its hashes

pub hashes_low : (hash : Hasher) (mode : Mode) (z : Zone) (p q : Name) → low p ≡ low q → HashesHold hash mode z p → HashesHold hash mode z q
hashes_low hash Nsec z p q e h = record { made = tt; apart = tt }
hashes_low hash (Nsec3 iterations salt optout) z p q e h = record {
  made = subst (λ (lower : Name). (n : Name) → Contains (concerned (low z.name) lower) n → IsSome (hash (wire n) 1 iterations salt)) e h.made;
  apart = (
    h.apart.0,
    subst (λ (lower : Name). (n : Name) → Contains (concerned (apex_of z) lower) n → SharesNone (hash_in hash (Nsec3 iterations salt optout)) (nsec3_names z optout) n) e h.apart.1,
  );
}

-- ---- what is verified

pub verified_low : (w : Trusting) (k : ℕ) (m : List ℕ) (rs : List Spelled) (p q : Name) (t : ℕ) → low p ≡ low q → verified_rrset w k m rs p t ≡ verified_rrset w k m rs q t
verified_low w k m rs p q t e =
    let items : rrset_in k m rs p t ≡ rrset_in k m rs q t = rrset_in-owner k m rs p q t e in
    let by : verified_by w k m rs p t (rrset_in k m rs p t) ≡ verified_by w k m rs q t (rrset_in k m rs q t) =
    alike_verified w k m rs p q t t e refl in
    λ i. option_map (λ (f : Fields). record { datas = items i; labels = f.labels }) (by i)
