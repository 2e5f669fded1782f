-- The names that the proofs of verdicts speak of.
use Rattle.std.proofs.Common.{◌≡◌, ℕ, Bool, true, false, List, [], ◌∷◌, refl, sym, ap, subst}
use Rattle.definitions.specs.Name.{Name, low}
use Rattle.definitions.specs.Zone.{Zone, NoName, StarRecords}
use Rattle.definitions.specs.ZoneChain.{Mode, Nsec, Nsec3, optout_of}
use Rattle.denial_laws.specs.OwnFacts.{open_spoken, spoken}
use Rattle.answer_zone.specs.Around.{IsAround}
use Rattle.answer_zone.specs.declared.zone.around.Around.{Around}

module _ (z : Zone) (mode : Mode) (q : Name) where
  pub covered_itself : mode ≡ Nsec → q ∷ [] ≡ spoken z mode q (StarRecords []) (StarRecords [])
  covered_itself e = subst (λ m. q ∷ [] ≡ spoken z m q (StarRecords []) (StarRecords [])) (sym e) refl

  module _ (a : Around) where
    pub covered_hash : (i : ℕ) (s : List ℕ) (o : Bool) → IsAround z (optout_of mode) q a → mode ≡ Nsec3 i s o → low a.closer ∷ [] ≡ spoken z mode q (StarRecords []) (StarRecords [])
    covered_hash i s o k e = subst (λ m. IsAround z (optout_of m) q a → low a.closer ∷ [] ≡ spoken z m q (StarRecords []) (StarRecords [])) (sym e) (λ k. ap (λ n. n ∷ []) k.closer) k

    pub denied_names : IsAround z (optout_of mode) q a → mode ≡ Nsec → q ∷ low a.star ∷ [] ≡ spoken z mode q NoName NoName
    denied_names k e = subst (λ m. IsAround z (optout_of m) q a → q ∷ low a.star ∷ [] ≡ spoken z m q NoName NoName) (sym e) (λ k. ap (λ n. q ∷ n ∷ []) k.star) k

    pub denied_hashes : (i : ℕ) (s : List ℕ) (o : Bool) → IsAround z (optout_of mode) q a → mode ≡ Nsec3 i s o → low a.encloser ∷ low a.closer ∷ low a.star ∷ [] ≡ spoken z mode q NoName NoName
    denied_hashes i s o k e = subst (λ m. IsAround z (optout_of m) q a → low a.encloser ∷ low a.closer ∷ low a.star ∷ [] ≡ spoken z m q NoName NoName) (sym e) (λ k t. k.encloser t ∷ k.closer t ∷ k.star t ∷ []) k

    pub open_names : IsAround z (optout_of mode) q a → low a.encloser ∷ low a.closer ∷ [] ≡ open_spoken z mode q false
    open_names k = λ t. k.encloser t ∷ k.closer t ∷ []

    pub open_star_names : IsAround z (optout_of mode) q a → low a.encloser ∷ low a.closer ∷ low a.star ∷ [] ≡ open_spoken z mode q true
    open_star_names k = λ t. k.encloser t ∷ k.closer t ∷ k.star t ∷ []
