-- What a message tells is so of the zone.
use Rattle.std.specs.Prelude.{◌≡◌, ℕ, Bool, true, false, List, [], ◌∷◌, Some, None}
use Rattle.definitions.specs.Dnskey.{Ds}
use Rattle.definitions.specs.Limits.{pointer_limit}
use Rattle.definitions.specs.Name.{Name, at_or_above, low}
use Rattle.definitions.specs.Zone.{Zone, apex_of, cut, is_open, data_at}
use Rattle.definitions.specs.ZoneChain.{optout_of}
use Rattle.denial_laws.specs.Aliases.{is_aliased}
use Rattle.answer_findings.specs.Versions.{Version, zone_in}
use Rattle.answer_judge.specs.Judging.{JudgeInput}
use Rattle.answer_findings.specs.Table.{AreTrue, Checked, Tried, answers_with, passes_in}
pub use Rattle.answer_findings.specs.Truth.{AreHonestBeside}
use Rattle.tree_laws.specs.Tree.{TreeZone, Secure, LeftOpen, Leads, SaysItself, is_bound, refers_to}
use Rattle.tree_laws.specs.Orderly.{IsOrderlyZone}
use Rattle.resolution_step.specs.KnownDs.{known_ds, knows}
use Rattle.resolution_step.specs.Told.{StepSeen, TellsVerdict, TellsLead, TellsDown, TellsUnsigned, TellsOpen, TellsNoCut, TellsNoneBelow}

-- the zone of a version, as one of a tree
abbrev pub zone_of_version : Name → Version → TreeZone
zone_of_version apex v = record { zone = zone_in apex v; optout = optout_of v.mode }

-- the zone has the way down: a delegation with these DS records of a known kind
pub record IsWayDown (algorithms : List ℕ) (z : TreeZone) (c : Name) (ds : List Ds) : Type 0 where
  pub bound : is_bound (knows algorithms) z.zone c ≡ true
  pub ds_are : ds ≡ known_ds algorithms (data_at z.zone c 43)

-- the zone has a delegation with these DS data, none of them of a known kind, or with none
pub record IsUnbound (algorithms : List ℕ) (z : TreeZone) (c : Name) (datas : List (List ℕ)) : Type 0 where
  pub unbound : is_bound (knows algorithms) z.zone c ≡ false
  pub datas_are : datas ≡ data_at z.zone c 43

-- The zone has no delegation at a name or above it, nor, below its apex, at any name below it.
pub record HasNoCutBelow (z : Zone) (n : Name) : Type 0 where
  pub uncut : cut z (low n) ≡ None
  pub below : (q : Name) → at_or_above (apex_of z) n ≡ true → at_or_above n q ≡ true → cut z (low q) ≡ None

-- of a name at which a delegation is sought
abbrev pub IsCutSo : List ℕ → TreeZone → Name → StepSeen → Type 0
IsCutSo algorithms z n (TellsDown c ds) = (c ≡ low n) × (cut z.zone (low n) ≡ Some (low n)) × IsWayDown algorithms z c ds
IsCutSo algorithms z n (TellsUnsigned c datas) = (c ≡ low n) × (cut z.zone (low n) ≡ Some (low n)) × IsUnbound algorithms z c datas
IsCutSo algorithms z n TellsOpen = (is_open z.zone z.optout (low n) ≡ true) × (is_aliased z.zone z.optout n 43 ≡ false)
IsCutSo algorithms z n TellsNoCut = cut z.zone (low n) ≡ None
IsCutSo algorithms z n TellsNoneBelow = HasNoCutBelow z.zone n
IsCutSo algorithms z n _ = Unit {0}

-- of a question
abbrev pub IsToldSo : List ℕ → TreeZone → Name → ℕ → StepSeen → Type 0
IsToldSo algorithms z q t (TellsVerdict v) = SaysItself (knows algorithms) q t z (Secure z.zone.name v)
IsToldSo algorithms z q t (TellsLead lead) = SaysItself (knows algorithms) q t z (Leads lead)
IsToldSo algorithms z q t (TellsDown c ds) = (refers_to z.zone q t ≡ Some c) × IsWayDown algorithms z c ds
IsToldSo algorithms z q t (TellsUnsigned c datas) = (refers_to z.zone q t ≡ Some c) × IsUnbound algorithms z c datas
IsToldSo algorithms z q t TellsOpen = SaysItself (knows algorithms) q t z (LeftOpen z.zone.name)
IsToldSo algorithms z q t _ = Unit {0}

-- Messages in which nothing is forged, of a zone that is in order and doesn't change, whatever signatures truly pass, those that
-- pass in the table among them.
pub record AreOfZone (table : List Checked) (h : JudgeInput) (v : Version) : Type 0 where
  pub passes : Tried → Bool
  pub true_are : AreTrue (passes_in table) passes
  pub honest : AreHonestBeside (answers_with passes) pointer_limit h (v ∷ [])
  pub in_order : IsOrderlyZone (zone_of_version h.apex v)

-- of such messages nothing is told but what is so
abbrev pub TellsTruly : List ℕ → List Checked → JudgeInput → StepSeen → Type 0
TellsTruly algorithms table h said = (v : Version) → AreOfZone table h v → IsToldSo algorithms (zone_of_version h.apex v) h.asked.name h.asked.rtype said

-- nor of a delegation, where they are judged for DS
abbrev pub TellsCutTruly : List ℕ → List Checked → JudgeInput → StepSeen → Type 0
TellsCutTruly algorithms table h said = (v : Version) → h.asked.rtype ≡ 43 → AreOfZone table h v → IsCutSo algorithms (zone_of_version h.apex v) h.asked.name said
