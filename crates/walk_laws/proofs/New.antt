-- What a walk wants is not there.
use Rattle.std.proofs.Common.{◌≡◌, ℕ, ◌<◌, ◌≤◌, length, Bool, true, false, List, [], ◌∷◌, ◌++◌, Option, Some, None, refl, sym, ap, subst, ◌∙◌, inl, inr, arith}
use Rattle.std.specs.Prelude.{◌&&◌, ◌||◌, ◌==◌, is_none, if◌then◌else◌}
use Rattle.std.specs.Global.{Vec}
use Rattle.std.proofs.lemmas.Bool.{and_parts, false≢true}
use Rattle.definitions.specs.Dnskey.{Ds}
use Rattle.definitions.specs.Name.{Name, low, same}
use Rattle.definitions.specs.Zone.{Verdict, Records, NoType, NoName, StarRecords, StarNoType, Delegated, Open, Unsigned}
use Rattle.definitions.proofs.Members.{In}
use Rattle.messages.specs.Message.{Asked}
use Rattle.answer_judge.specs.Judging.{JudgeInput}
use Rattle.answer_judge_facts.specs.declared.validity.Validity.{Validity}
use Rattle.answer_judge_table.specs.Asking.{AreAsked, are_new, unchecked}
use Rattle.answer_findings.specs.Table.{Checked, Tried, is_entry_of, is_same_try, told}
use Rattle.answer_findings.specs.Found.{AreAskedFor, IsFound}
use Rattle.answer_findings.specs.Judgements.{aside, asking}
use Rattle.answer_findings.specs.declared.meaning.AnswerOutcome.{AnswerOutcome}
use Rattle.answer_findings.specs.declared.meaning.AnswerOutcome.TheVariants as f
use Rattle.answer_findings.specs.Seen.{SeesVerdict, SeesDelegated, SeesNoDs, SeesAlias, SeesStarAlias, SeesOpen, SeesDname, SeesReferral, Seen}
use Rattle.resolution_step.specs.KnownDs.{known_ds}
use Rattle.resolution_step.specs.Told.{StepSeen, TellsVerdict, TellsLead, TellsDown, TellsUnsigned, TellsOpen, TellsNoCut, TellsNoneBelow, TellsNothing, AsksFor, Search, Sees, Refuses, Wants, IsCutTold, IsSearched, IsSearchTold, IsSeenTold, IsTold, IsToldAt, at_cut, bound_told, by_known, cut_said, cut_searched, cut_told, search_of, seen_told, verdict_told}
use Rattle.resolution_step.specs.declared.judged_step.Counts.{Counts}
use Rattle.evidence_laws.specs.Given.{Given, Message}
use Rattle.resolution_walk.specs.Judged.{IsHeard, OfAnswer, OfName, IsHeardThere}
use Rattle.resolution_walk.specs.Stopping.{EndsAt, StopsWithin}
use Rattle.resolution_walk.specs.Wanted.{AreWantedOf, is_for_keys, lacks, lacks_besides, wanted_if, wanted_of}
use Rattle.resolution_walk.specs.declared.ending.Ending.{Ending}
use Rattle.resolution_walk.specs.declared.ending.Ending.TheVariants as ends
use Rattle.resolution_walk.specs.declared.ending.Walk.{Walk}
use Rattle.resolution_walk.specs.declared.ending.Wanted.{Wanted}
use Rattle.resolution_walk.specs.declared.walk.Limits.{Limits}
use Rattle.walk_laws.specs.New.{AreUnanswered, NothingIsWantedTwice, answers}
use Rattle.walk_laws.proofs.Ends.{EndsSomewhere, ends_somewhere, wants_more}
use Rattle.walk_laws.proofs.Found.{in_both, in_front, in_list, none_passes}

-- ---- messages

-- no message of the zone answers what is wanted
abbrev pub is_lacking : Given → Wanted → Bool
is_lacking e x = lacks e x.zone x.name x.rtype

lacking_if : (e : Given) (b : Bool) (x y : Wanted) → is_lacking e x ≡ b → In y (wanted_if b x) → is_lacking e y ≡ true
lacking_if e true x y is (inl same) = ap (is_lacking e) same ∙ is
lacking_if e true x y is (inr later) = absurd later
lacking_if e false x y is there = absurd there

lacking_besides : (e : Given) (a f b : Bool) (x y : Wanted) → is_lacking e x ≡ b → In y (wanted_if (lacks_besides a f b) x) → is_lacking e y ≡ true
lacking_besides e true true true x y is there = absurd there
lacking_besides e true false true x y is (inl same) = ap (is_lacking e) same ∙ is
lacking_besides e true false true x y is (inr later) = absurd later
lacking_besides e false f true x y is (inl same) = ap (is_lacking e) same ∙ is
lacking_besides e false f true x y is (inr later) = absurd later
lacking_besides e a f false x y is there = absurd there

module _ (e : Given) (asked : Asked) (zone : Name) (ds : List Ds) (ws : List Wanted) (k : AreWantedOf e asked zone ds ws) where
  abbrev of_keys : Wanted
  of_keys = wanted_of zone zone 48

  abbrev of_answer : Wanted
  of_answer = wanted_of zone k.sought.name k.sought.rtype

  abbrev is_first : Bool
  is_first = is_for_keys zone k.sought

  abbrev besides : List Wanted
  besides = wanted_if (lacks_besides (is_lacking e of_keys) is_first (is_lacking e of_answer)) of_answer

  pub lacking_each : (x : Wanted) → In x ws → is_lacking e x ≡ true
  lacking_each x there =
      elim (in_both (wanted_if (is_lacking e of_keys) of_keys) besides x (subst (In x) k.are there)) [
        | inl l ↦ lacking_if e (is_lacking e of_keys) of_keys x refl l
        | inr r ↦ lacking_besides e (is_lacking e of_keys) is_first (is_lacking e of_answer) of_answer x refl r
      ]

  some_if : (a f b : Bool) (x y : Wanted) → (a || b) ≡ true → 0 < length (wanted_if a x ++ wanted_if (lacks_besides a f b) y)
  some_if true f b x y h = omega arith
  some_if false f true x y h = omega arith
  some_if false f false x y h = absurd (false≢true h)

  pub some_wanted : 0 < length ws
  some_wanted = subst (λ (xs : List Wanted). 0 < length xs) (sym k.are) (some_if (is_lacking e of_keys) is_first (is_lacking e of_answer) of_keys of_answer k.some)

  few_if : (a b : Bool) (x y : Wanted) → length (wanted_if a x ++ wanted_if b y) ≤ 2
  few_if true true x y = omega arith
  few_if true false x y = omega arith
  few_if false true x y = omega arith
  few_if false false x y = omega arith

  pub unanswered : AreUnanswered e ws
  unanswered = record {
    some = some_wanted;
    few = subst (λ (xs : List Wanted). length xs ≤ 2) (sym k.are) (few_if (is_lacking e of_keys) (lacks_besides (is_lacking e of_keys) is_first (is_lacking e of_answer)) of_keys of_answer);
    new = λ x m wanted there. none_passes (λ (m : Message). m.octets) (answers x) e.messages m (in_list e.messages m there) (lacking_each x (in_list ws x wanted));
  }

-- ---- what is told asks for nothing

abbrev is_asking : StepSeen → Bool
is_asking (AsksFor asks) = true
is_asking _ = false

module _ (algorithms : List ℕ) where
  known_asks : (c : Name) (datas : List (List ℕ)) (ds : List Ds) → is_asking (by_known c datas ds) ≡ false
  known_asks c datas [] = refl
  known_asks c datas (d ∷ ds) = refl

  said_asks : (n : Name) (v : Verdict) → is_asking (cut_said algorithms n v) ≡ false
  said_asks n (Records datas) = known_asks (low n) datas (known_ds algorithms datas)
  said_asks n NoType = refl
  said_asks n NoName = refl
  said_asks n (StarRecords datas) = refl
  said_asks n StarNoType = refl
  said_asks n Delegated = refl
  said_asks n Open = refl
  said_asks n Unsigned = refl

  seen_asks : (n : Name) (x : Seen) → is_asking (cut_told algorithms n x) ≡ false
  seen_asks n (SeesVerdict v) = said_asks n v
  seen_asks n (SeesDelegated c) = refl
  seen_asks n (SeesNoDs true) = refl
  seen_asks n (SeesNoDs false) = refl
  seen_asks n (SeesAlias target) = refl
  seen_asks n (SeesStarAlias target) = refl
  seen_asks n SeesOpen = refl
  seen_asks n (SeesDname owner lead) = refl
  seen_asks n (SeesReferral c datas) = refl

  verdict_asks : (v : Verdict) → is_asking (verdict_told v) ≡ false
  verdict_asks (Records datas) = refl
  verdict_asks NoType = refl
  verdict_asks NoName = refl
  verdict_asks (StarRecords datas) = refl
  verdict_asks StarNoType = refl
  verdict_asks Delegated = refl
  verdict_asks Open = refl
  verdict_asks Unsigned = refl

  referral_asks : (c : Name) (datas : List (List ℕ)) (b : Bool) → is_asking (if b then TellsNothing None else bound_told algorithms c datas) ≡ false
  referral_asks c datas true = refl
  referral_asks c datas false = known_asks (low c) datas (known_ds algorithms datas)

  told_asks : (asked : Asked) (x : Seen) → is_asking (seen_told algorithms asked x) ≡ false
  told_asks asked (SeesVerdict v) = verdict_asks v
  told_asks asked (SeesDelegated c) = refl
  told_asks asked (SeesNoDs d) = refl
  told_asks asked (SeesAlias target) = refl
  told_asks asked (SeesStarAlias target) = refl
  told_asks asked SeesOpen = refl
  told_asks asked (SeesDname owner lead) = refl
  told_asks asked (SeesReferral c datas) = referral_asks c datas (same c asked.name && (asked.rtype == 43))

at_cut_asks : (said : StepSeen) (asks : List Tried) → AsksFor asks ≡ at_cut said → said ≡ AsksFor asks
at_cut_asks (AsksFor other) asks e = sym e
at_cut_asks (TellsVerdict v) asks e = absurd cc
at_cut_asks (TellsLead lead) asks e = absurd cc
at_cut_asks (TellsDown c ds) asks e = absurd cc
at_cut_asks (TellsUnsigned c datas) asks e = absurd cc
at_cut_asks TellsOpen asks e = absurd cc
at_cut_asks TellsNoCut asks e = absurd cc
at_cut_asks TellsNoneBelow asks e = absurd cc
at_cut_asks (TellsNothing r) asks e = absurd cc

-- ---- signatures

-- some that the table doesn't have, each once
pub record AreSomeNew (table : List Checked) (asks : List Tried) : Type 0 where
  pub some : 0 < length asks
  pub new : are_new table asks ≡ true

module _ (table : List Checked) where
  asked_new : (h : JudgeInput) (asks : List Tried) → AreAsked table h asks → AreSomeNew table asks
  asked_new h asks k = record { some = k.some; new = k.are_new }

  asked_for_new : (h : JudgeInput) (asks : List Tried) (v n : ℕ) → AreAskedFor table h asks v n → AreSomeNew table asks
  asked_for_new h asks v n (inl (inl own, verified, hashed)) = asked_new h asks own.are_asked
  asked_for_new h asks v n (inl (inr first, verified, hashed)) = asked_new (aside h first.are.asked) asks first.are.are_asked
  asked_for_new h asks v n (inr later) = asked_new (aside h later.are.asked) asks later.are.are_asked

  found_new : (h : JudgeInput) (asks : List Tried) (found : AnswerOutcome) → IsFound table h found → Wants asks ≡ search_of found → AreSomeNew table asks
  found_new h asks (f.Means meaning validity v n) is e = absurd cc
  found_new h asks (f.Refused refusal v n) is e = absurd cc
  found_new h asks (f.Asks said v n) is e =
      let same : said.items ≡ asks = (let both : Wants asks ≡ Wants said.items = e in cc) in
      subst (AreSomeNew table) same (asked_for_new h said.items v n is)

  searched_new : (h : JudgeInput) (asks : List Tried) (l : Option Validity) (n : Counts) → IsSearched table h (Wants asks) l n → AreSomeNew table asks
  searched_new h asks l n k = found_new h asks k.found k.is_found k.is

  -- ---- what is told

  cut_new : (algorithms : List ℕ) (h : JudgeInput) (asks : List Tried) (l : Option Validity) (n : Counts) → IsCutTold algorithms table h (AsksFor asks) l n → AreSomeNew table asks
  cut_new algorithms h asks l n k = go k.came k.searched k.is
    where
      go : (came : Search) → IsSearched table h came l n → AsksFor asks ≡ cut_searched algorithms h.asked.name came → AreSomeNew table asks
      go (Sees x) s e = absurd (false≢true (sym (seen_asks algorithms h.asked.name x) ∙ sym (ap is_asking e)))
      go (Refuses r) s e = absurd cc
      go (Wants other) s e =
          let same : other ≡ asks = (let both : AsksFor asks ≡ AsksFor other = e in cc) in
          subst (AreSomeNew table) same (searched_new h other l n s)

  at_new : (algorithms : List ℕ) (h : JudgeInput) (c : Name) (asks : List Tried) (found l : Option Validity) (counts n : Counts) → IsToldAt algorithms table h c found counts (AsksFor asks) l n → AreSomeNew table asks
  at_new algorithms h c asks found l counts n k =
      cut_new algorithms (aside h (asking h c 43)) asks k.below_validity k.below_counts
      (subst (λ (said : StepSeen). IsCutTold algorithms table (aside h (asking h c 43)) said k.below_validity k.below_counts) (at_cut_asks k.below asks k.is) k.told_is)

  told_new : (algorithms : List ℕ) (h : JudgeInput) (asks : List Tried) (l : Option Validity) (n : Counts) → IsTold algorithms table h (AsksFor asks) l n → AreSomeNew table asks
  told_new algorithms h asks l n k = go k.came k.searched k.is
    where
      none : (x : Seen) → AsksFor asks ≡ seen_told algorithms h.asked x → AreSomeNew table asks
      none x e = absurd (false≢true (sym (told_asks algorithms h.asked x) ∙ sym (ap is_asking e)))

      seen : (x : Seen) → IsSeenTold algorithms table h x k.found_validity k.found_counts (AsksFor asks) l n → AreSomeNew table asks
      seen (SeesDelegated (Some c)) is = at_new algorithms h c asks k.found_validity l k.found_counts n is
      seen (SeesDelegated None) is = none (SeesDelegated None) is.0
      seen (SeesVerdict v) is = none (SeesVerdict v) is.0
      seen (SeesNoDs d) is = none (SeesNoDs d) is.0
      seen (SeesAlias target) is = none (SeesAlias target) is.0
      seen (SeesStarAlias target) is = none (SeesStarAlias target) is.0
      seen SeesOpen is = none SeesOpen is.0
      seen (SeesDname owner lead) is = none (SeesDname owner lead) is.0
      seen (SeesReferral c datas) is = none (SeesReferral c datas) is.0

      go : (came : Search) → IsSearched table h came k.found_validity k.found_counts → IsSearchTold algorithms table h came k.found_validity k.found_counts (AsksFor asks) l n → AreSomeNew table asks
      go (Sees x) s is = seen x is
      go (Refuses r) s is = absurd (let both : AsksFor asks ≡ TellsNothing (Some r) = is.0 in cc)
      go (Wants other) s is =
          let same : other ≡ asks = (let both : AsksFor asks ≡ AsksFor other = is.0 in cc) in
          subst (AreSomeNew table) same (searched_new h other k.found_validity k.found_counts s)

heard_new : (e : Given) (asked sought : Asked) (zone : Name) (ds : List Ds) (asks : List Tried) (l : Option Validity) → IsHeard e asked zone ds sought (AsksFor asks) l → AreSomeNew e.table asks
heard_new e asked sought zone ds asks l (OfAnswer n same memory step) = told_new e.table e.algorithms step.judged asks l n step.told_is
heard_new e asked sought zone ds asks l (OfName n between memory step cut) = cut_new e.table e.algorithms step.judged asks l n step.told_is

unasked : (table : List Checked) (asks : List Tried) (t : Tried) (c : Checked) → are_new table asks ≡ true → In t asks → In c table → is_same_try t c.tried ≡ false
unasked table [] t c new asked there = absurd asked
unasked table (a ∷ asks) t c new asked there =
    let parts = and_parts (is_none (told table a)) (are_new (table ++ unchecked a ∷ []) asks) new in
    elim asked [
      | inl is ↦ ap (λ u. is_same_try u c.tried) is ∙ none_passes (λ (x : Checked). x.passes) (is_entry_of a) table c there parts.0
      | inr later ↦ unasked (table ++ unchecked a ∷ []) asks t c parts.1 later (in_front table (unchecked a ∷ []) c there)
    ]

pub asks_new : (e : Given) (asked : Asked) (limits : Limits) (w : Walk) (asks : Vec Tried) → StopsWithin e asked limits w → w.ending ≡ ends.Asks asks → AreSomeNew e.table asks.items
asks_new e asked limits w asks stops is =
    let k : EndsSomewhere e w.ending = ends_somewhere e asked limits w stops (ap wants_more is) in
    let heard : IsHeardThere e k.asked k.zone k.ds (AsksFor asks.items) k.validity = subst (λ (g : Ending). EndsAt e k.asked k.zone k.ds g k.validity) is k.ends in
    heard_new e k.asked heard.sought k.zone k.ds asks.items k.validity heard.heard

pub nothing_is_wanted_twice : NothingIsWantedTwice
nothing_is_wanted_twice = record {
  messages = λ e asked limits w ws stops is.
      let k : EndsSomewhere e w.ending = ends_somewhere e asked limits w stops (ap wants_more is) in
      unanswered e k.asked k.zone k.ds ws.items (subst (λ (g : Ending). EndsAt e k.asked k.zone k.ds g k.validity) is k.ends);
  signatures = λ e asked limits w asks stops is.
      let k : AreSomeNew e.table asks.items = asks_new e asked limits w asks stops is in
      record { some = k.some; new = λ t c asked_for there. unasked e.table asks.items t c k.new (in_list asks.items t asked_for) (in_list e.table c there) };
}
