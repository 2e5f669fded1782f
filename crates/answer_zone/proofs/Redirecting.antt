-- The nearest name above another at which a DNAME stands, sought from the name upwards.
use Rattle.std.proofs.Common.{◌≡◌, true, false, List, [], ◌∷◌, Option, Some, None, refl, sym, ap}
use Rattle.std.specs.Prelude.{if◌then◌else◌}
use Rattle.definitions.specs.Name.{Name, low}
use Rattle.definitions.specs.Zone.{Zone}
use Rattle.names_labels.specs.Suffixes.{suffixes}
use Rattle.answer_zone.specs.Finding.{redirecting, zone_redirects}
use Rattle.answer_zone.proofs.Placing.{behind_first}

-- the first of some names
abbrev pub redirecting_among : Zone → List Name → Option Name
redirecting_among z [] = None
redirecting_among z (s ∷ ss) = if zone_redirects z (low s) then Some s else redirecting_among z ss

among_suffixes : (z : Zone) (q : Name) → redirecting_among z (suffixes q) ≡ (if zone_redirects z (low q) then Some q else redirecting z q)
among_suffixes z [] = refl
among_suffixes z (l ∷ q) = ap (λ o. if zone_redirects z (low (l ∷ q)) then Some (l ∷ q) else o) (among_suffixes z q)

pub among_first : (z : Zone) (q : Name) → redirecting z q ≡ redirecting_among z (behind_first q)
among_first z [] = refl
among_first z (l ∷ q) = sym (among_suffixes z q)

-- a name that does not redirect is passed over; one that does is the first
pub among_passes : (z : Zone) (a : Name) (rest : List Name) → zone_redirects z (low a) ≡ false → redirecting_among z (a ∷ rest) ≡ redirecting_among z rest
among_passes z a rest e = ap (λ b. if b then Some a else redirecting_among z rest) e

pub among_takes : (z : Zone) (a : Name) (rest : List Name) → zone_redirects z (low a) ≡ true → redirecting_among z (a ∷ rest) ≡ Some a
among_takes z a rest e = ap (λ b. if b then Some a else redirecting_among z rest) e
