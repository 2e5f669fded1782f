-- Questions of a zone, and how they are answered.
use Rattle.std.specs.Prelude.{◌≡◌, ℕ, Bool, false, ◌||◌, ◌==◌, None}
use Rattle.definitions.specs.Name.{Name, low}
use Rattle.definitions.specs.Zone.{Zone, cut_above, is_open}
use Rattle.definitions.specs.ZoneChain.{optout_of}
use Rattle.answer_terms.specs.Accepting.{zone_with}
use Rattle.answer_zone.specs.Cuts.{NoneRefers}
use Rattle.answer_zone.specs.HashedZone.{HashedZone}

-- none of the types that the chain has
abbrev pub IsPlain : ℕ → Type 0
IsPlain t = ((t == 47) || (t == 50)) ≡ false

-- a zone's names and what they own
abbrev pub zone_of : {H : Type 0} → HashedZone H → Zone
zone_of z = zone_with z.apex z.records

-- whether opt-out leaves a name open
abbrev pub LeavesOpen : {H : Type 0} → HashedZone H → Name → Bool → Type 0
LeavesOpen z q b = is_open (zone_of z) (optout_of z.mode) (low q) ≡ b

-- the zone's own records answer: no delegation refers the question away, and none stands above the name
abbrev pub AnswersItself : {H : Type 0} → HashedZone H → Name → ℕ → Type 0
AnswersItself z q t = NoneRefers (zone_of z) (low q) t × (cut_above (zone_of z) (low q) ≡ None)
