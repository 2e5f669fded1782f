-- What NSEC3 records prove beside a wildcard's RRset is the zone's verdict.
use Rattle.std.proofs.Common.{◌≡◌, ℕ, zero, suc, ◌+◌, ◌-◌, ◌<◌, ◌≤◌, Bool, true, false, ◌&&◌, ◌||◌, not, List, [], ◌∷◌, length, drop, Some, refl, sym, ap, ◌∙◌, inl, arith}
use Rattle.std.specs.Prelude.{◌==◌, if◌then◌else◌}
use Rattle.std.specs.List.{AllByRecursion}
use Rattle.std.specs.Str.{bytes_eq, str_to_ascii_lowercase}
use Rattle.std.proofs.lemmas.Bool.{and_parts, or_right, ltb-true, false_from_ne_true}
use Rattle.std.proofs.lemmas.List.{length-drop}
use Rattle.definitions.specs.Name.{Name, low, same, at_or_above}
use Rattle.definitions.specs.Signing.{label_count, signed_owner}
use Rattle.definitions.specs.Zone.{Zone, Verdict, NoName, StarRecords, StarNoType, Open, apex_of, is_delegation, is_live, kept, exists, has, star_under, data_at, at_star}
use Rattle.definitions.proofs.ZoneNames.{above_itself, low-low, above_lowered, lowered_above}
use Rattle.denial_laws.specs.Facts.{Rrset, HashLink, is_expanded}
use Rattle.denial_laws.specs.Nsec3Rules.{covers_hash, last_labels, hash_expanded_by, hash_expanded}
use Rattle.denial_laws.specs.Truth.{IsServable, IsTrueRrset, SaysTrulyHash, is_signed, is_star}
use Rattle.denial_laws.specs.Laws.{IsSaidBy}
use Rattle.denial_laws.proofs.NameFacts.{above-low, shorter_above, strictly_at, strictly_above_at, star_below}
use Rattle.denial_laws.proofs.ChainBits.{all_at}
use Rattle.denial_laws.proofs.Found.{first_from}
use Rattle.denial_laws.proofs.HashChain.{concerns_name}
use Rattle.denial_laws.proofs.HashSays.{said_gone}
use Rattle.denial_laws.proofs.AtName.{on_true}
use Rattle.denial_laws.proofs.SignedNames.{star_owner}
use Rattle.denial_laws.proofs.Nsec3Climb.{gap_says}
use Rattle.denial_laws.proofs.Verdicts.{IsGap}
use Rattle.denial_laws.proofs.Unaliased.{none_below, typed_no_alias}
use Rattle.denial_laws.proofs.ZoneCuts.{has_owner, live_kept, kept_up, kept_lowered, kept_uncut, owner_kept, no_star_cut}

-- ---- the last labels of a name

pub drop_above : (n : ℕ) (q : Name) → at_or_above (drop n q) q ≡ true
drop_above zero q = above_itself q
drop_above (suc n) [] = refl
drop_above (suc n) (l ∷ q) = or_right (same (drop n q) (l ∷ q)) (at_or_above (drop n q) q) (drop_above n q)

pub record IsLast (n : ℕ) (q : Name) : Type 0 where
  pub label : List ℕ
  pub parent : Name
  pub is : last_labels (n + 1) q ≡ label ∷ parent
  pub long : length parent ≡ n
  pub above : at_or_above (label ∷ parent) q ≡ true

pub last_labels_are : (n : ℕ) (q : Name) → n < length q → IsLast n q
last_labels_are n q h = go (last_labels (n + 1) q) refl
  where
    long : length (last_labels (n + 1) q) ≡ n + 1
    long = length-drop (length q - (n + 1)) q ∙ (let e : length q - (length q - (n + 1)) ≡ n + 1 = omega arith in e)

    go : (m : Name) → last_labels (n + 1) q ≡ m → IsLast n q
    go [] e = let none : length (last_labels (n + 1) q) ≡ 0 = ap length e in absurd (omega (arith, long))
    go (l ∷ p) e =
        let whole : length (last_labels (n + 1) q) ≡ suc (length p) = ap length e in
        record { label = l; parent = p; is = e; long = omega (arith, long); above = ap (λ m. at_or_above m q) (sym e) ∙ drop_above (length q - (n + 1)) q }

count_within : (q : Name) → label_count q ≤ length q
count_within [] = omega arith
count_within (l ∷ q) = go (bytes_eq l (42 ∷ []))
  where
    go : (b : Bool) → (if b then length q else length q + 1) ≤ suc (length q)
    go true = omega arith
    go false = omega arith

-- ---- a signed wildcard

-- it is kept: it is no delegation
pub signed_star_kept : (z : Zone) → IsServable z → (ex : Bool) (n : Name) (t : ℕ) → is_star n ≡ true → is_signed z n t ≡ true → kept z ex n ≡ true
signed_star_kept z s ex n t star signed =
    let parts = and_parts (is_live z n && (not (is_delegation z n) || (t == 43))) (has z n t) signed in
    let live = (and_parts (is_live z n) (not (is_delegation z n) || (t == 43)) parts.0).0 in
    owner_kept z ex n (has_owner z n t parts.1) (live_kept z ex n live (inl (no_star_cut z s n star)))

-- it answers with the type's data
signed_star_says : (z : Zone) → IsServable z → (e : Name) (t : ℕ) → is_signed z (star_under e) t ≡ true → at_star z (star_under e) t ≡ StarRecords (data_at z (star_under e) t)
signed_star_says z s e t signed =
    let n : Name = star_under e in
    let there : exists z n ≡ true = signed_star_kept z s false n t refl signed in
    let typed : has z n t ≡ true = (and_parts (is_live z n && (not (is_delegation z n) || (t == 43))) (has z n t) signed).1 in
    λ i. if there i then (if typed i then StarRecords (data_at z n t) else StarNoType) else NoName

-- ---- the rule

module _ (z : Zone) (hash : Name → List ℕ) (ex : Bool) (s : IsServable z) (q : Name) (t : ℕ) where
  -- below the parent of a signed wildcard
  star_gap : (a : List ℕ) (e : Name) → at_or_above (a ∷ e) q ≡ true → at_or_above (apex_of z) e ≡ true → is_signed z (star_under (low e)) t ≡ true → kept z ex (a ∷ e) ≡ false → IsGap z ex (str_to_ascii_lowercase a) (low e) (low q)
  star_gap a e above inside signed gone =
      let star : Name = star_under (low e) in
      let there : kept z ex star ≡ true = signed_star_kept z s ex star t refl signed in
      record {
        lowered = low-low (a ∷ e);
        there = kept_up z ex (low e) star there (strictly_at (low e) star (star_below (low e))) (above_lowered (apex_of z) e ∙ inside);
        plain = false_from_ne_true (is_delegation z (low e)) (λ d. kept_uncut z ex star there (low e) d (star_below (low e)));
        gone = kept_lowered z ex (a ∷ e) ∙ gone;
        above = above-low (a ∷ e) q ∙ above;
      }

  pub hash_expanded_truly : at_or_above z.name q ≡ true → (r : Rrset) → IsTrueRrset z q t r → is_expanded r q ≡ true → (fs : List HashLink) → AllByRecursion (SaysTrulyHash z hash ex q) fs → (v : Verdict)
      → hash_expanded hash q r fs ≡ Some v → IsSaidBy z ex q t v
  hash_expanded_truly inside r true_rrset x fs all v h =
      let fewer : r.labels < length q = omega (arith, ltb-true r.labels (label_count q) x, count_within q) in
      let last = last_labels_are r.labels q fewer in
      let e : Name = last.parent in
      let up : at_or_above e q ≡ true = strictly_at e q (strictly_above_at e (last.label ∷ e) q (above_itself e) last.above) in
      let low_apex : length (apex_of z) ≤ length e = omega (arith, true_rrset.inside x, last.long) in
      let apex : at_or_above (apex_of z) e ≡ true = shorter_above (apex_of z) e q (lowered_above z.name q ∙ inside) up low_apex in
      let owner : signed_owner r.labels q ≡ star_under (low e) = star_owner r q e x up last.long in
      let signed : is_signed z (star_under (low e)) t ≡ true = ap (λ n. is_signed z n t) (sym owner) ∙ true_rrset.signed in
      let found = first_from (hash_expanded_by (hash (low (last_labels (r.labels + 1) q))) r) fs v h in
      let f : HashLink = found.0 in
      let k = all_at (SaysTrulyHash z hash ex q) fs f all found.1.0 in
      let m = on_true (covers_hash (hash (low (last_labels (r.labels + 1) q))) f) (elim f.opt_out [ true ↦ Some Open | false ↦ Some (StarRecords r.datas) ]) v found.1.1 in
      let closer : Name = last_labels (r.labels + 1) q in
      let inside_closer : at_or_above (apex_of z) closer ≡ true = ap (at_or_above (apex_of z)) last.is ∙ strictly_at (apex_of z) (last.label ∷ e) apex in
      let above_closer : at_or_above closer q ≡ true = ap (λ n. at_or_above n q) last.is ∙ last.above in
      let gone : kept z ex (last.label ∷ e) ≡ false = ap (kept z ex) (sym last.is) ∙ said_gone z hash ex q f k closer (concerns_name (apex_of z) closer q inside_closer above_closer) m.0 in
      let typed : has z (star_under (low e)) t ≡ true = (and_parts (is_live z (star_under (low e)) && (not (is_delegation z (star_under (low e))) || (t == 43))) (has z (star_under (low e)) t) signed).1 in
      let plain : has z (low e) 39 ≡ false = false_from_ne_true (has z (low e) 39) (λ d. none_below z s.aliases (low e) (star_under (low e)) d (has_owner z (star_under (low e)) t typed) (star_below (low e))) in
      gap_says z s ex (str_to_ascii_lowercase last.label) (low e) q t v (star_gap last.label e last.above apex signed gone) plain f.opt_out k.opts (Some (StarRecords r.datas)) (λ _ w.
      let is : StarRecords r.datas ≡ v = cc in (
        sym is ∙ ap (λ ds. StarRecords ds) (true_rrset.datas ∙ ap (λ n. data_at z n t) owner) ∙ sym (signed_star_says z s (low e) t signed),
        typed_no_alias z s.aliases (star_under (low e)) t typed,
      )) m.1
