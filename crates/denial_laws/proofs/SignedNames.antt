-- The owner as signed: the name itself, or the wildcard that its RRset was expanded from.
use Rattle.std.proofs.Common.{◌≡◌, ℕ, ◌-◌, Bool, true, false, ◌&&◌, ◌||◌, not, [], ◌∷◌, length, drop, sym, ap, ◌∙◌}
use Rattle.std.specs.Prelude.{◌==◌, if◌then◌else◌}
use Rattle.std.proofs.lemmas.Bool.{and_parts}
use Rattle.definitions.proofs.ZoneNames.{kept-live}
use Rattle.definitions.specs.Name.{Name, low, at_or_above}
use Rattle.definitions.specs.Signing.{signed_owner}
use Rattle.definitions.specs.Zone.{Zone, Records, has, is_delegation, is_live, exists, data_at, star_under}
use Rattle.denial_laws.specs.Facts.{Rrset, is_expanded}
use Rattle.denial_laws.specs.Truth.{IsServable, IsTrueRrset, is_signed}
use Rattle.denial_laws.specs.Laws.{IsSaidBy}
use Rattle.denial_laws.proofs.NameFacts.{above_drop}
use Rattle.denial_laws.proofs.Verdicts.{verdict_signed}
use Rattle.denial_laws.proofs.ZoneCuts.{has_owner, owner_kept}
use Rattle.denial_laws.proofs.Unaliased.{kept_unredirected, typed_no_alias, there_unaliased, unaliased}

pub whole_owner : (r : Rrset) (q : Name) → is_expanded r q ≡ false → signed_owner r.labels q ≡ low q
whole_owner r q x = ap (λ b. if b then (42 ∷ []) ∷ drop (length q - r.labels) (low q) else low q) x

-- the owner as signed is the wildcard under an ancestor with as many labels
pub star_owner : (r : Rrset) (q e : Name) → is_expanded r q ≡ true → at_or_above e q ≡ true → length e ≡ r.labels → signed_owner r.labels q ≡ star_under (low e)
star_owner r q e x a n =
    ap (λ b. if b then (42 ∷ []) ∷ drop (length q - r.labels) (low q) else low q) x
    ∙ ap star_under (ap (λ k. drop (length q - k) (low q)) (sym n) ∙ sym (above_drop e q a))

-- an RRset of the name itself is what the zone says, and of no alias
pub records_truly : (z : Zone) → IsServable z → (ex : Bool) (q : Name) (t : ℕ) (r : Rrset) → IsTrueRrset z q t r → is_expanded r q ≡ false → IsSaidBy z ex q t (Records r.datas)
records_truly z s ex q t r k x =
    let owner : signed_owner r.labels q ≡ low q = whole_owner r q x in
    let signed : is_signed z (low q) t ≡ true = ap (λ n. is_signed z n t) (sym owner) ∙ k.signed in
    let rest = and_parts (is_live z (low q) && (not (is_delegation z (low q)) || (t == 43))) (has z (low q) t) signed in
    let live = (and_parts (is_live z (low q)) _ rest.0).0 in
    let there : exists z (low q) ≡ true = owner_kept z false (low q) (has_owner z (low q) t rest.1) (kept-live z (low q) ∙ live) in (
      ap (λ ds. Records ds) (k.datas ∙ ap (λ n. data_at z n t) owner) ∙ sym (verdict_signed z ex q t signed),
      unaliased z ex q t (kept_unredirected z s.aliases false (low q) there) (λ _. there_unaliased z (low q) t there (typed_no_alias z s.aliases (low q) t rest.1)),
    )
