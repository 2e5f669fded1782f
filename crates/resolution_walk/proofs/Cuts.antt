-- What an answer for DS tells of a delegation.
use Rattle.std.proofs.Common.{◌≡◌, ℕ, true, false, List, [], ◌∷◌, Option, refl, sym, subst}
use Rattle.std.proofs.lemmas.Bool.{false≢true}
use Rattle.definitions.specs.Dnskey.{Ds}
use Rattle.definitions.specs.Name.{Name, low}
use Rattle.definitions.specs.Zone.{Verdict, Records, NoType, NoName, StarRecords, StarNoType, Delegated, Open, Unsigned}
use Rattle.messages.specs.Message.{Asked}
use Rattle.answer_judge_facts.specs.declared.validity.Validity.{Validity}
use Rattle.evidence_laws.specs.Counts.{Counts}
use Rattle.evidence_laws.specs.Given.{Given}
use Rattle.evidence_laws.specs.KnownDs.{known_ds}
use Rattle.evidence_laws.specs.Seen.{Seen, SeesVerdict, SeesDelegated, SeesNoDs, SeesAlias, SeesStarAlias, SeesOpen, SeesDname, SeesReferral}
use Rattle.evidence_laws.specs.Told.{StepSeen, Search, Sees, Refuses, Wants, at_cut, by_known, cut_said, cut_searched, cut_told}
use Rattle.evidence_laws.specs.Walking.{IsNameStep}
use Rattle.resolution_walk.specs.Judged.{is_uncut}

-- what it tells is of a delegation, or that none is there
abbrev IsOfCut : StepSeen → Type 0
IsOfCut said = is_uncut said ≡ false → said ≡ at_cut said

module _ (algorithms : List ℕ) (n : Name) where
  known_cut : (datas : List (List ℕ)) (ds : List Ds) → IsOfCut (by_known (low n) datas ds)
  known_cut datas [] other = refl
  known_cut datas (d ∷ ds) other = refl

  said_cut : (v : Verdict) → IsOfCut (cut_said algorithms n v)
  said_cut (Records datas) other = known_cut datas (known_ds algorithms datas) other
  said_cut NoType other = refl
  said_cut NoName other = absurd (false≢true (sym other))
  said_cut (StarRecords datas) other = absurd (false≢true (sym other))
  said_cut StarNoType other = absurd (false≢true (sym other))
  said_cut Delegated other = refl
  said_cut Open other = refl
  said_cut Unsigned other = refl

  seen_cut : (x : Seen) → IsOfCut (cut_told algorithms n x)
  seen_cut (SeesVerdict v) other = said_cut v other
  seen_cut (SeesDelegated c) other = refl
  seen_cut (SeesNoDs true) other = refl
  seen_cut (SeesNoDs false) other = absurd (false≢true (sym other))
  seen_cut (SeesAlias target) other = absurd (false≢true (sym other))
  seen_cut (SeesStarAlias target) other = absurd (false≢true (sym other))
  seen_cut SeesOpen other = refl
  seen_cut (SeesDname owner lead) other = absurd (false≢true (sym other))
  seen_cut (SeesReferral c datas) other = refl

  searched_cut : (came : Search) → IsOfCut (cut_searched algorithms n came)
  searched_cut (Sees x) other = seen_cut x other
  searched_cut (Refuses refusal) other = refl
  searched_cut (Wants asks) other = refl

pub name_cut : (e : Given) (zone : Name) (ds : List Ds) (sought : Asked) (said : StepSeen) (l : Option Validity) (m : Counts) → IsNameStep e zone ds sought said l m → is_uncut said ≡ false → said ≡ at_cut said
name_cut e zone ds sought said l m k = subst IsOfCut (sym k.told_is.is) (searched_cut e.algorithms k.judged.asked.name k.told_is.came)
