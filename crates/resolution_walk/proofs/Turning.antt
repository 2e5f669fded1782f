-- Where a zone's messages lead by what one of them tells.
use Rattle.std.proofs.Common.{◌≡◌, true, false, ◌&&◌, List, Option, Result, Ok, Err, IfOk, refl, sym, ap, subst, ◌∙◌}
use Rattle.std.specs.declared.alloc.AllocError.{AllocError}
use Rattle.std.proofs.lemmas.Bool.{false≢true}
use Rattle.definitions.specs.Dnskey.{Ds}
use Rattle.definitions.specs.Name.{Name}
use Rattle.denial_laws.proofs.NameFacts.{names_same}
use Rattle.messages.specs.Message.{Asked}
use Rattle.answer_judge_facts.specs.declared.validity.Validity.{Validity}
use Rattle.answer_judge.specs.declared.verdict.Refusal.{Refusal}
use Rattle.evidence_laws.specs.Counts.{Counts}
use Rattle.evidence_laws.specs.Given.{Given}
use Rattle.evidence_laws.specs.Told.{StepSeen, TellsVerdict, TellsLead, TellsDown, TellsUnsigned, TellsOpen, TellsNoCut, TellsNoneBelow, TellsNothing, AsksFor, at_cut}
use Rattle.evidence_laws.specs.Walking.{IsNameStep, IsOwnStep, ds_at}
use Rattle.resolution_walk.specs.Between.{IsAnswerUntold, IsBetween, IsNothing, is_itself, lacked_memory}
use Rattle.resolution_walk.specs.Judged.{IsHeard, OfAnswer, OfName, IsHeardThere, IsLast, asks_in, is_asking, is_nothing}
use Rattle.resolution_walk.specs.Query.{Query}
use Rattle.resolution_walk.specs.Stopping.{IsHopUntold, IsHopTo, HopStops}
use Rattle.resolution_walk.specs.declared.ending.Ending.TheVariants as ends
use Rattle.resolution_walk.specs.declared.ending.Hop.{Hop}
use Rattle.resolution_walk.specs.declared.ending.Hop.TheVariants as hops

-- another question of the same zone
abbrev pub asking : Query → Asked → Query
asking q sought = record q { asked = sought }

-- the same question of a zone below, with its DS set
abbrev pub delegated : Query → Name → List Ds → Query
delegated q c below = record { zone = c; ds = below; asked = q.asked }

-- what is something of the way is not nothing
something : (said : StepSeen) (r : Option Refusal) → is_nothing said ≡ false → IsNothing said r → ⊥
something (TellsNothing x) r tells k = false≢true (sym tells)
something TellsNoCut r tells k = false≢true (sym tells)
something TellsNoneBelow r tells k = false≢true (sym tells)
something (TellsVerdict v) r tells k = k
something (TellsLead l) r tells k = k
something (TellsDown c ds) r tells k = k
something (TellsUnsigned c datas) r tells k = k
something TellsOpen r tells k = k
something (AsksFor asks) r tells k = k

-- what tells nothing asks for nothing
nothing_asks : (said : StepSeen) (r : Option Refusal) → IsNothing said r → is_asking said ≡ false
nothing_asks (TellsNothing x) r k = refl
nothing_asks TellsNoCut r k = refl
nothing_asks TellsNoneBelow r k = refl
nothing_asks (TellsVerdict v) r k = refl
nothing_asks (TellsLead l) r k = refl
nothing_asks (TellsDown c ds) r k = refl
nothing_asks (TellsUnsigned c datas) r k = refl
nothing_asks TellsOpen r k = refl
nothing_asks (AsksFor asks) r k = absurd k

module _ (q : Query) (said : StepSeen) where
  -- a turn asks for signatures if what is told does
  pub turn_asks : (t : Hop) → IsHopTo q said t → is_asking said ≡ asks_in t
  turn_asks (hops.Down c below) k = ap is_asking k
  turn_asks (hops.Ends (ends.Secure of v)) k = ap is_asking k.1
  turn_asks (hops.Ends (ends.Leads lead)) k = ap is_asking k
  turn_asks (hops.Ends (ends.Unsigned c datas)) k = ap is_asking k
  turn_asks (hops.Ends (ends.LeftOpen of)) k = ap is_asking k.1
  turn_asks (hops.Ends (ends.Untold of by name t r)) k = nothing_asks said r k.4
  turn_asks (hops.Ends (ends.Asks asks)) k = ap is_asking k
  turn_asks (hops.Ends _) k = absurd k

  untold_turn : (r : Option Refusal) (t : Hop) → IsNothing said r → IsHopUntold q r t → IsHopTo q said t
  untold_turn r (hops.Down c below) nothing k = absurd k
  untold_turn r (hops.Ends (ends.Untold of by name t x)) nothing k = (k.0, k.1, k.2, k.3, subst (IsNothing said) (sym k.4) nothing)
  untold_turn r (hops.Ends _) nothing k = absurd k

  pub untold_turned : (r : Option Refusal) (x : Result Hop AllocError) → IsNothing said r → IfOk x (IsHopUntold q r) → IfOk x (IsHopTo q said)
  untold_turned r (Ok t) nothing k = untold_turn r t nothing k
  untold_turned r (Err x) nothing k = tt

-- a turn where an answer tells nothing asks for none
pub untold_asks : (q : Query) (r : Option Refusal) (t : Hop) → IsHopUntold q r t → false ≡ asks_in t
untold_asks q r t k = turn_asks q (TellsNothing r) t (untold_turn q (TellsNothing r) r t refl k)

module _ (e : Given) (q : Query) where
  -- a turn ends, or leads down, as what is heard says
  module _ (sought : Asked) (said : StepSeen) (l : Option Validity) (heard : IsHeard e q.asked q.zone q.ds sought said l) where
    there : (told : StepSeen) → said ≡ told → IsHeardThere e q.asked q.zone q.ds told l
    there told is = record { sought = sought; heard = subst (λ (x : StepSeen). IsHeard e q.asked q.zone q.ds sought x l) is heard }

    turn_stops : (t : Hop) → ((r : Option Refusal) → IsNothing said r → sought ≡ q.asked → IsLast e q.asked q.zone q.ds r) → IsHopTo (asking q sought) said t → HopStops e q t l
    turn_stops (hops.Down c below) last k = there (TellsDown c below.items) k
    turn_stops (hops.Ends (ends.Secure of v)) last k = (k.0, there _ k.1)
    turn_stops (hops.Ends (ends.Leads lead)) last k = there _ k
    turn_stops (hops.Ends (ends.Unsigned c datas)) last k = there (TellsUnsigned c datas) k
    turn_stops (hops.Ends (ends.LeftOpen of)) last k = (k.0, there TellsOpen k.1)
    turn_stops (hops.Ends (ends.Untold of by name t r)) last k =
        record { zone_is = k.0; ds_are = k.1; sought = sought; name_is = k.2; type_is = k.3; said = said; validity = l; heard = heard; nothing = k.4; last = last r k.4 }
    turn_stops (hops.Ends (ends.Asks asks)) last k = there (AsksFor asks.items) k
    turn_stops (hops.Ends _) last k = absurd k

  -- by the answer to the question
  pub own_stop : (said : StepSeen) (l : Option Validity) (n : Counts) (t : Hop) → is_nothing said ≡ false → lacked_memory said ≡ false → IsOwnStep e q.zone q.ds q.asked said l n → IsHopTo q said t → HopStops e q t l
  own_stop said l n t tells memory step k = turn_stops q.asked said l (OfAnswer n refl memory step) t (λ r nothing same. absurd (something said r tells nothing)) k

  -- by the answer to the question that tells nothing, where it is the last
  pub untold_stop : (refusal : Option Refusal) (own : Counts) (t : Hop) (l : Option Validity) → IsAnswerUntold e q.asked q.zone q.ds refusal own → IsLast e q.asked q.zone q.ds refusal → IsHopUntold q refusal t → HopStops e q t l
  untold_stop refusal own (hops.Ends (ends.Untold of by name t r)) l k last hop = record {
    zone_is = hop.0;
    ds_are = hop.1;
    sought = q.asked;
    name_is = hop.2;
    type_is = hop.3;
    said = k.said;
    validity = k.validity;
    heard = OfAnswer own refl k.in_memory k.step;
    nothing = subst (IsNothing k.said) (sym hop.4) k.nothing;
    last = λ same. subst (IsLast e q.asked q.zone q.ds) (sym hop.4) last;
  }
  untold_stop refusal own (hops.Ends _) l k last hop = absurd hop
  untold_stop refusal own (hops.Down c below) l k last hop = absurd hop

  -- by an answer for DS at a name between, which is another question
  not_itself : (sought : Asked) → IsBetween e q.asked q.zone q.ds sought → sought ≡ q.asked → ⊥
  not_itself sought between same =
      let itself : is_itself (ds_at q.asked between.name) between.name ≡ true = ap (λ b. b && true) (names_same between.name between.name refl) in
      false≢true (sym between.other ∙ ap (λ (x : Asked). is_itself x between.name) (sym same ∙ between.is) ∙ itself)

  pub name_stop : (sought : Asked) (said now : StepSeen) (l : Option Validity) (n : Counts) (t : Hop) → IsBetween e q.asked q.zone q.ds sought → lacked_memory said ≡ false → IsNameStep e q.zone q.ds sought said l n
      → now ≡ said → now ≡ at_cut said → IsHopTo (asking q sought) now t → HopStops e q t l
  name_stop sought said now l n t between memory step same cut hop_of =
      let told : IsNameStep e q.zone q.ds sought now l n = subst (λ (x : StepSeen). IsNameStep e q.zone q.ds sought x l n) (sym same) step in
      let heard : IsHeard e q.asked q.zone q.ds sought now l = OfName n between (ap lacked_memory same ∙ memory) told (cut ∙ ap at_cut (sym same)) in
      turn_stops sought now l heard t (λ r nothing itself. absurd (not_itself sought between itself)) hop_of
