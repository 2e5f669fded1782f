-- What leads down leads to a delegation at or above the question's name.
use Rattle.std.proofs.Common.{◌≡◌, ℕ, Bool, true, false, ◌&&◌, List, [], ◌∷◌, Option, Some, None, refl, sym, ap, subst, ◌∙◌, arith}
use Rattle.std.specs.Prelude.{◌==◌, if◌then◌else◌}
use Rattle.definitions.specs.Dnskey.{Ds}
use Rattle.definitions.specs.Limits.{pointer_limit}
use Rattle.definitions.specs.Name.{Name, at_or_above, low, same}
use Rattle.definitions.specs.Zone.{Verdict, Records, NoType, NoName, StarRecords, StarNoType, Delegated, Open, Unsigned}
use Rattle.definitions.proofs.ZoneNames.{lowered_above}
use Rattle.messages.specs.Message.{AreOctets, Asked}
use Rattle.answer_judge.specs.Judging.{JudgeInput}
use Rattle.answer_judge_facts.specs.declared.validity.Validity.{Validity}
use Rattle.answer_judge.specs.Lasts.{at_moment}
use Rattle.answer_findings.specs.Judgements.{aside, asking, cut_question}
use Rattle.answer_findings.specs.Seen.{Seen, SeesVerdict, SeesDelegated, SeesNoDs, SeesAlias, SeesStarAlias, SeesOpen, SeesDname, SeesReferral}
use Rattle.answer_findings.specs.Table.{Checked}
use Rattle.answer_findings.proofs.Beside.{SeeksCut, cut_above, seeks_cut}
use Rattle.resolution_step.specs.KnownDs.{known_ds}
use Rattle.resolution_step.specs.Told.{StepSeen, TellsVerdict, TellsLead, TellsDown, TellsUnsigned, TellsOpen, TellsNoCut, TellsNoneBelow, TellsNothing, AsksFor, IsCutTold, IsTold, at_cut, bound_told, by_known, cut_said, cut_told, referral_told, seen_told, verdict_told}
use Rattle.resolution_step.specs.declared.judged_step.Counts.{Counts}
use Rattle.resolution_step.specs.Proved.{IsCutProved, IsProved, IsSeenProved, Proves}
use Rattle.resolution_step.proofs.Staying.{LastsFor, cut_told_stays, told_stays}

-- where something leads down to, if it does
abbrev down_of : StepSeen → Option Name
down_of (TellsDown c ds) = Some c
down_of _ = None

-- DS records lead down to their name in lower case
known_down : (n c : Name) (datas : List (List ℕ)) (ds : List Ds) → down_of (by_known n datas ds) ≡ Some c → n ≡ c
known_down n c datas [] e = absurd cc
known_down n c datas (d ∷ ds) e = let both : Some n ≡ Some c = e in cc

module _ (algorithms : List ℕ) (c : Name) where
  said_down : (n : Name) (v : Verdict) → down_of (cut_said algorithms n v) ≡ Some c → low n ≡ c
  said_down n (Records datas) e = known_down (low n) c datas (known_ds algorithms datas) e
  said_down n NoType e = absurd cc
  said_down n NoName e = absurd cc
  said_down n (StarRecords datas) e = absurd cc
  said_down n StarNoType e = absurd cc
  said_down n Delegated e = absurd cc
  said_down n Open e = absurd cc
  said_down n Unsigned e = absurd cc

  seen_cut_down : (n : Name) (x : Seen) → down_of (cut_told algorithms n x) ≡ Some c → low n ≡ c
  seen_cut_down n (SeesVerdict v) e = said_down n v e
  seen_cut_down n (SeesDelegated o) e = absurd cc
  seen_cut_down n (SeesNoDs true) e = absurd cc
  seen_cut_down n (SeesNoDs false) e = absurd cc
  seen_cut_down n (SeesAlias target) e = absurd cc
  seen_cut_down n (SeesStarAlias target) e = absurd cc
  seen_cut_down n SeesOpen e = absurd cc
  seen_cut_down n (SeesDname owner lead) e = absurd cc
  seen_cut_down n (SeesReferral o datas) e = absurd cc

  verdict_down : (v : Verdict) → down_of (verdict_told v) ≡ Some c → ⊥
  verdict_down (Records datas) e = cc
  verdict_down NoType e = cc
  verdict_down NoName e = cc
  verdict_down (StarRecords datas) e = cc
  verdict_down StarNoType e = cc
  verdict_down Delegated e = cc
  verdict_down Open e = cc
  verdict_down Unsigned e = cc

  referral_down : (asked : Asked) (n : Name) (datas : List (List ℕ)) → down_of (referral_told algorithms asked n datas) ≡ Some c → low n ≡ c
  referral_down asked n datas e = go (same n asked.name && (asked.rtype == 43)) e
    where
      go : (b : Bool) → down_of (if b then TellsNothing None else bound_told algorithms n datas) ≡ Some c → low n ≡ c
      go true k = absurd cc
      go false k = known_down (low n) c datas (known_ds algorithms datas) k

  cut_down : (said : StepSeen) → down_of (at_cut said) ≡ Some c → down_of said ≡ Some c
  cut_down (TellsDown d ds) e = e
  cut_down (TellsVerdict v) e = absurd cc
  cut_down (TellsLead lead) e = absurd cc
  cut_down (TellsUnsigned d datas) e = absurd cc
  cut_down TellsOpen e = absurd cc
  cut_down TellsNoCut e = absurd cc
  cut_down TellsNoneBelow e = absurd cc
  cut_down (TellsNothing r) e = absurd cc
  cut_down (AsksFor asks) e = absurd cc

  -- of a delegation at a name
  pub cut_proved_down : (table : List Checked) (h : JudgeInput) (said : StepSeen) → IsCutProved algorithms table h said → down_of said ≡ Some c → low h.asked.name ≡ c
  cut_proved_down table h said k e = seen_cut_down h.asked.name k.seen (ap down_of (sym k.is) ∙ e)

  lowered : (n q : Name) → low n ≡ c → at_or_above n q ≡ true → at_or_above c q ≡ true
  lowered n q is above = subst (λ m. at_or_above m q ≡ true) is (lowered_above n q ∙ above)

  -- a delegation that the answer's NS records suggest
  suggested : (h : JudgeInput) (t : ℕ) (asked : Asked) (n : Name) → cut_question pointer_limit h t ≡ Some asked → n ≡ asked.name → at_or_above n h.asked.name ≡ true
  suggested h t asked n wanted is =
      let s : SeeksCut pointer_limit h t asked = seeks_cut pointer_limit h t asked wanted in
      subst (λ m. at_or_above m h.asked.name ≡ true) (ap (λ (q : Asked). q.name) s.is ∙ sym is) (cut_above pointer_limit h s.cut s.hint).1

  -- of the question
  pub proved_down : (table : List Checked) (h : JudgeInput) (said : StepSeen) → IsProved algorithms table h said → down_of said ≡ Some c → at_or_above c h.asked.name ≡ true
  proved_down table h said k e = go k.seen k.proves k.is
    where
      alone : (x : Seen) → said ≡ seen_told algorithms h.asked x → down_of (seen_told algorithms h.asked x) ≡ Some c
      alone x is = ap down_of (sym is) ∙ e

      go : (x : Seen) → Proves table h x → IsSeenProved algorithms table h x said → at_or_above c h.asked.name ≡ true
      go (SeesDelegated (Some n)) p is =
          let below = cut_proved_down table (aside h (asking h n 43)) is.below is.proved (cut_down is.below (ap down_of (sym is.is) ∙ e)) in
          lowered n h.asked.name below (suggested h 2 p.1.ns n p.1.delegated.is p.1.cut_is)
      go (SeesReferral n datas) p is = lowered n h.asked.name (referral_down h.asked n datas (alone (SeesReferral n datas) is)) (suggested h 43 p.asked n p.said.is p.cut_is)
      go (SeesVerdict v) p is = absurd (verdict_down v (alone (SeesVerdict v) is))
      go (SeesDelegated None) p is = let none : None ≡ Some c = alone (SeesDelegated None) is in absurd cc
      go (SeesNoDs d) p is = let none : None ≡ Some c = alone (SeesNoDs d) is in absurd cc
      go (SeesAlias target) p is = let none : None ≡ Some c = alone (SeesAlias target) is in absurd cc
      go (SeesStarAlias target) p is = let none : None ≡ Some c = alone (SeesStarAlias target) is in absurd cc
      go SeesOpen p is = let none : None ≡ Some c = alone SeesOpen is in absurd cc
      go (SeesDname owner lead) p is = let none : None ≡ Some c = alone (SeesDname owner lead) is in absurd cc

-- ---- as it is told

no_seconds : (l : Option Validity) → LastsFor 0 l
no_seconds None = tt
no_seconds (Some l) = omega arith

module _ (algorithms : List ℕ) (table : List Checked) (at : ℕ) (h : JudgeInput) (keys : AreOctets h.dnskey_bytes) (answer : AreOctets h.answer_bytes) (c : Name) (ds : List Ds) (l : Option Validity) (counts : Counts) where
  pub told_down : IsTold algorithms table (at_moment at h) (TellsDown c ds) l counts → at_or_above c h.asked.name ≡ true
  told_down is = proved_down algorithms c table (at_moment at h) (TellsDown c ds) (told_stays algorithms table at at 0 (omega arith) (omega arith) h keys answer (TellsDown c ds) l counts is refl (no_seconds l)) refl

  pub cut_told_down : IsCutTold algorithms table (at_moment at h) (TellsDown c ds) l counts → low h.asked.name ≡ c
  cut_told_down is = cut_proved_down algorithms c table (at_moment at h) (TellsDown c ds) (cut_told_stays table at at 0 (omega arith) (omega arith) h keys answer algorithms (TellsDown c ds) l counts is refl (no_seconds l)) refl
