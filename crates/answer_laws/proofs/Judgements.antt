-- A simulation's judgements of things that were given in one state of the keys, and in three.
use Rattle.std.proofs.Common.{◌≡◌, ℕ, zero, suc, ◌+◌, ◌<◌, true, false, List, [], ◌∷◌, ◌++◌, Vec, length, map, refl, sym, ap, subst, ◌∙◌}
use Rattle.std.proofs.lemmas.List.{length_push}
use Rattle.std.specs.declared.alloc.Global.{Global}
use Rattle.std.specs.Prelude.{Option, Some, None, Ok, Err, slice_get}
use Rattle.std.specs.declared.result.Result.{Result}
use Rattle.definitions.specs.Dnskey.{Dnskey, Ds}
use Rattle.definitions.specs.Zone.{verdict}
use Rattle.definitions.specs.ZoneChain.{Mode, optout_of}
use Rattle.answer_events.specs.declared.event.Act.{Act}
use Rattle.answer_events.specs.declared.event.Act.TheVariants as act
use Rattle.answer_outcomes.specs.declared.outcome.Outcome.{Outcome}
use Rattle.answer_outcomes.specs.declared.outcome.Outcome.TheVariants as outcome
use Rattle.answer_judge.specs.declared.verdict.Judgement.{Judgement}
use Rattle.answer_judge.specs.declared.verdict.Refused.{Refused}
use Rattle.keyset_rolls.specs.declared.rolls.Action.{Action}
use Rattle.std.specs.List.{AllByRecursion}
use Rattle.definitions.specs.Name.{IsName, Name}
use Rattle.definitions.specs.Limits.{pointer_limit}
use Rattle.answer_scheme.specs.Answers.{Answers}
use Rattle.messages.specs.Handed.{IsHanded}
use Rattle.messages.specs.HandedRr.{HandedRr, handed_of}
use Rattle.answer_terms.specs.Accepted.{IsAccepted}
use Rattle.answer_terms.specs.Accepting.{sorted_records, zone_of}
use Rattle.answer_terms.specs.Hashing.{HashesHold}
use Rattle.answer_terms.specs.Served.{keys_ttl}
use Rattle.answer_terms.specs.ZoneView.{AcceptedZone}
use Rattle.answer_publisher_keys.specs.Bindings as bindings
use Rattle.answer_publisher_keys.specs.Bindings.{ZoneKeys, apply, ds_set, set_call}
use Rattle.answer_judge.specs.Judging.{Says, answer_of, hashes_of, verifications_of}
use Rattle.answer_terms.specs.Asking.{is_allowed}
use Rattle.answer_judge.specs.Judged.{AnswersAs}
use Rattle.answer_judge.specs.Meeting.{IsJudgement, holds}
use Rattle.messages.specs.Message.{Asked}
use Rattle.answer_laws.specs.OneState.{Moment, VerdictAt, moment, moments_with}
use Rattle.answer_publisher.specs.Publishing.{digest_at}
use Rattle.answer_scheme.specs.Moments.{second_of}
use Rattle.messages.specs.Questions.{asked_of}
use Rattle.messages.specs.declared.question.Question.{Question}
use Rattle.answer_laws.specs.Simulating.{JudgesBytes, JudgesThings, OfKeys, OfParent, OfZone, Shown, ShowsAnswer, ShowsKeys, Sofar, StepOf, begin, judge_input, now_in, with_records}
use Rattle.answer_events.specs.Calls.{call_of}
use Rattle.answer_publisher.specs.Replacing.{noted}
use Rattle.answer_publisher.specs.World.{TellsAnswer, TellsKeys, World, served_in}
use Rattle.messages.specs.WrittenLaws.{IsQuestion}
use Rattle.answer_laws.proofs.KeyLife.{apply_binds}
use Rattle.answer_terms.proofs.GivenTold.{told}
use Rattle.answer_publisher_keys.proofs.KeyTags.{apply_own, none_own, own_of}
use Rattle.answer_laws.specs.Simulations.{IsZoneOf}
use Rattle.answer_laws.proofs.GivenThings.{AreLeft, given}
use Rattle.answer_laws.proofs.KeyHistory.{Reach, accepted_did, reach_more, reached_at, state_stays, stay_here, stay_on}
use Rattle.answer_laws.proofs.KeysMeet.{IsPast, KeysMeet, keys_meet, some_at_parent}
use Rattle.answer_laws.specs.ThroughRolls.{History, Showing, VerdictThrough, history_with, no_history, past_with, steps, with_call, with_thing}
use Rattle.answer_laws.specs.Versions.{IsAbout, Versions, first_version, in_version, replaced_by, versions_with, with_showing}
use Rattle.keyset.specs.KeyRuns.{Call, no_keys}
use Rattle.keyset.specs.KeyState.{ds as at_parent}
use Rattle.keyset_laws.specs.KeyLife.{states}
use Rattle.keyset_laws.specs.Sides.{is_empty}
use Rattle.keyset_laws.proofs.Meets.{unretired_things_meet}
use Rattle.messages.proofs.Lists.{all_at, some_is}
use Rattle.answer_judge.proofs.GivenLists.{has_contained}
use Rattle.answer_judge.proofs.GivenRrset.{all_joined}

-- what is known of a thing that was shown, of a version of the zone
abbrev ThingIs : World → Moment → List HandedRr → Shown → Type 0
ThingIs w m rs (OfParent ds) = ds ≡ ds_set m.keys
ThingIs w m rs (OfKeys bytes) = ShowsKeys (in_version w rs) m.keys m.at bytes
ThingIs w m rs (OfZone asked bytes) = (is_allowed w.zone.apex asked ≡ true) × IsQuestion asked × ShowsAnswer (in_version w rs) m.keys m.at asked bytes

pub record IsShown (w : World) (m : Moment) (rs : List HandedRr) (x : Shown) : Type 0 where
  pub left : AreLeft w m.keys
  pub zone : IsZoneOf (in_version w rs) rs
  pub thing : ThingIs w m rs x

-- of keys that the calls so far left behind them, in the state behind so many of these calls
pub record IsPlaced (w : World) (cs : List (ℕ × Call)) (now : ZoneKeys) (y : Showing) (rs : List HandedRr) (x : Shown) : Type 0 where
  pub keys : ZoneKeys
  pub shown : IsShown w (moment keys y.at) rs x
  pub past : IsPast keys now
  pub state : slice_get (states (no_keys w.zone.apex) (steps w.zone.apex cs)) y.behind ≡ Some keys.keys

-- keys that the calls so far left behind them, in the state behind so many of these calls
pub record IsPassed (w : World) (cs : List (ℕ × Call)) (now : ZoneKeys) (behind : ℕ) (keys : ZoneKeys) : Type 0 where
  pub left : AreLeft w keys
  pub past : IsPast keys now
  pub state : slice_get (states (no_keys w.zone.apex) (steps w.zone.apex cs)) behind ≡ Some keys.keys

-- all keys that were passed, the present ones last
pub record ArePassed (w : World) (cs : List (ℕ × Call)) (past : List ZoneKeys) (now : ZoneKeys) : Type 0 where
  pub count : length past ≡ length cs
  pub each : (behind : ℕ) (keys : ZoneKeys) → slice_get (past ++ now ∷ []) behind ≡ Some keys → IsPassed w cs now behind keys

-- ---- what is known of each thing

-- of its showing, of the version that it was shown of, and of itself
abbrev pub Stand : {M : Type 0} → (M → List HandedRr → Shown → Type 0) → List M → List (List HandedRr) → List Shown → Type 0
Stand P [] [] [] = Unit {0}
Stand P (m ∷ ms) (r ∷ rs) (x ∷ xs) = P m r x × Stand P ms rs xs
Stand P _ _ _ = ⊥

module _ {M : Type 0} where
  one_more : (P : M → List HandedRr → Shown → Type 0) (ms : List M) (rs : List (List HandedRr)) (xs : List Shown) (m : M) (r : List HandedRr) (x : Shown) → Stand P ms rs xs → P m r x → Stand P (ms ++ m ∷ []) (rs ++ r ∷ []) (xs ++ x ∷ [])
  one_more P [] [] [] m r x h is = (is, tt)
  one_more P (n ∷ ms) (q ∷ rs) (y ∷ xs) m r x h is = (h.0, one_more P ms rs xs m r x h.1 is)
  one_more P [] [] (y ∷ xs) m r x h is = absurd h
  one_more P [] (q ∷ rs) [] m r x h is = absurd h
  one_more P [] (q ∷ rs) (y ∷ xs) m r x h is = absurd h
  one_more P (n ∷ ms) [] [] m r x h is = absurd h
  one_more P (n ∷ ms) [] (y ∷ xs) m r x h is = absurd h
  one_more P (n ∷ ms) (q ∷ rs) [] m r x h is = absurd h

  stands_at : (P : M → List HandedRr → Shown → Type 0) (ms : List M) (rs : List (List HandedRr)) (xs : List Shown) (i : ℕ) (m : M) (x : Shown) → Stand P ms rs xs → slice_get ms i ≡ Some m → slice_get xs i ≡ Some x → (r : List HandedRr) × (slice_get rs i ≡ Some r) × P m r x
  stands_at P [] [] [] i m x h e f = cc
  stands_at P (n ∷ ms) (q ∷ rs) (y ∷ xs) zero m x h e f = (q, refl, subst (λ (n : M). P n q x) (some_is n m e) (subst (λ (y : Shown). P n q y) (some_is y x f) h.0))
  stands_at P (n ∷ ms) (q ∷ rs) (y ∷ xs) (suc i) m x h e f = stands_at P ms rs xs i m x h.1 e f
  stands_at P [] [] (y ∷ xs) i m x h e f = absurd h
  stands_at P [] (q ∷ rs) [] i m x h e f = absurd h
  stands_at P [] (q ∷ rs) (y ∷ xs) i m x h e f = absurd h
  stands_at P (n ∷ ms) [] [] i m x h e f = absurd h
  stands_at P (n ∷ ms) [] (y ∷ xs) i m x h e f = absurd h
  stands_at P (n ∷ ms) (q ∷ rs) [] i m x h e f = absurd h

  -- the version is the one at the place
  stands_of : (P : M → List HandedRr → Shown → Type 0) (ms : List M) (vs : List (List HandedRr)) (xs : List Shown) (i : ℕ) (m : M) (rs : List HandedRr) (x : Shown) → Stand P ms vs xs → slice_get ms i ≡ Some m → slice_get vs i ≡ Some rs → slice_get xs i ≡ Some x → P m rs x
  stands_of P ms vs xs i m rs x h e v f =
      let c = stands_at P ms vs xs i m x h e f in
      subst (λ (r : List HandedRr). P m r x) (some_is c.0 rs (sym c.1 ∙ v)) c.2

  stand_so : (P Q : M → List HandedRr → Shown → Type 0) (ms : List M) (rs : List (List HandedRr)) (xs : List Shown) → ((m : M) (r : List HandedRr) (x : Shown) → P m r x → Q m r x) → Stand P ms rs xs → Stand Q ms rs xs
  stand_so P Q [] [] [] f h = tt
  stand_so P Q (m ∷ ms) (r ∷ rs) (x ∷ xs) f h = (f m r x h.0, stand_so P Q ms rs xs f h.1)
  stand_so P Q [] [] (y ∷ xs) f h = absurd h
  stand_so P Q [] (q ∷ rs) [] f h = absurd h
  stand_so P Q [] (q ∷ rs) (y ∷ xs) f h = absurd h
  stand_so P Q (n ∷ ms) [] [] f h = absurd h
  stand_so P Q (n ∷ ms) [] (y ∷ xs) f h = absurd h
  stand_so P Q (n ∷ ms) (q ∷ rs) [] f h = absurd h

-- ---- a judgement

abbrev IsOf : World → ℕ → List Ds → List ℕ → List ℕ → Asked → Result Judgement Refused → Type 0
IsOf w at ds keys bytes asked j = IsJudgement pointer_limit w.answers (judge_input w ds keys bytes asked at) (answer_of j) (verifications_of j) (hashes_of j)

things : (w : World) (at : ℕ) (p q : Option Shown) (asked : Asked) (bytes : List ℕ) (j : Result Judgement Refused) → JudgesThings w at p q (Some (OfZone asked bytes)) (outcome.Judged j)
    → (ds : List Ds) × (keys : List ℕ) × (p ≡ Some (OfParent ds)) × (q ≡ Some (OfKeys keys)) × IsOf w at ds keys bytes asked j
things w at (Some (OfParent ds)) (Some (OfKeys keys)) asked bytes j h = (ds, keys, refl, refl, h)
things w at (Some (OfParent ds)) (Some (OfParent d)) asked bytes j h = cc
things w at (Some (OfParent ds)) (Some (OfZone a b)) asked bytes j h = cc
things w at (Some (OfParent ds)) None asked bytes j h = cc
things w at (Some (OfKeys k)) q asked bytes j h = cc
things w at (Some (OfZone a b)) q asked bytes j h = cc
things w at None q asked bytes j h = cc

beside : (w : World) (at : ℕ) (p : Option Shown) (keys bytes : List ℕ) (asked : Asked) (j : Result Judgement Refused) → JudgesBytes w at p keys bytes asked (outcome.Judged j)
    → (ds : List Ds) × (p ≡ Some (OfParent ds)) × IsOf w at ds keys bytes asked j
beside w at (Some (OfParent ds)) keys bytes asked j h = (ds, refl, h)
beside w at (Some (OfKeys k)) keys bytes asked j h = cc
beside w at (Some (OfZone a b)) keys bytes asked j h = cc
beside w at None keys bytes asked j h = cc

-- bytes tell the DNSKEY answer of keys that calls have left
abbrev TellKeys : World → Moment → List ℕ → Type 0
TellKeys w m bytes = AreLeft w m.keys × TellsKeys w m.keys m.at bytes

-- bytes tell the answer of a version of the zone to a question, signed by keys that calls have left
pub record TellAnswer (w : World) (rs : List HandedRr) (m : Moment) (asked : Asked) (bytes : List ℕ) : Type 0 where
  pub left : AreLeft w m.keys
  pub allowed : is_allowed w.zone.apex asked ≡ true
  pub question : IsQuestion asked
  pub tells : TellsAnswer (in_version w rs) m.keys m.at asked bytes

-- what was shown tells so
keys_told : (w : World) (m : Moment) (rs : List HandedRr) (bytes : List ℕ) → IsShown w m rs (OfKeys bytes) → TellKeys w m bytes
keys_told w m rs bytes is = (is.left, (keys_ttl (served_in (in_version w rs)), told _ _ _ _ _ _ _ _ _ is.thing.1))

answer_told : (w : World) (m : Moment) (rs : List HandedRr) (asked : Asked) (bytes : List ℕ) → IsShown w m rs (OfZone asked bytes) → TellAnswer w rs m asked bytes
answer_told w m rs asked bytes is = record {
  left = is.left;
  allowed = is.thing.0;
  question = is.thing.1;
  tells = told _ _ _ _ _ _ _ _ _ is.thing.2.1;
}

-- of a DS set, and bytes that tell answers, whose keys meet
says : (w : World) (rs : List HandedRr) (x y z : Moment) (at : ℕ) (ds : List Ds) (keys bytes : List ℕ) (asked : Asked) (j : Result Judgement Refused) → IsZoneOf (in_version w rs) rs → IsOf w at ds keys bytes asked j
    → AreLeft w x.keys → ds ≡ ds_set x.keys → TellKeys w y keys → TellAnswer w rs z asked bytes → KeysMeet x.keys y.keys z.keys → holds (second_of y.at) w.life (second_of at) ≡ true → holds (second_of z.at) w.life (second_of at) ≡ true
    → HashesHold w.answers.hash w.zone.mode (zone_of w.zone.apex rs) asked.name → AnswersAs (answer_of j) (Says (verdict (zone_of w.zone.apex rs) (optout_of w.zone.mode) asked.name asked.rtype))
says w rs x y z at ds keys bytes asked j zone is left ds_is b c meets keys_hold answer_holds hashes =
    let of : IsOf w at (ds_set x.keys) keys bytes asked j = subst (λ (d : List Ds). IsOf w at d keys bytes asked j) ds_is is in
    of.given w.zone.mode rs (given w rs x.keys y.keys z.keys y.at z.at at keys bytes asked zone left b.0 c.left b.1 c.question c.allowed c.tells meets keys_hold answer_holds hashes)

-- the things of a judgement, where the zone's answer is known
abbrev JudgesAt : World → Sofar → ℕ → ℕ → ℕ → ℕ → Result Judgement Refused → Type 0
JudgesAt w s at ds dnskey answer j = JudgesThings w at (slice_get s.shown ds) (slice_get s.shown dnskey) (slice_get s.shown answer) (outcome.Judged j)

things_at : (w : World) (s : Sofar) (at ds dnskey answer : ℕ) (asked : Asked) (bytes : List ℕ) (j : Result Judgement Refused) → JudgesAt w s at ds dnskey answer j → slice_get s.shown answer ≡ Some (OfZone asked bytes)
    → (set : List Ds) × (keys : List ℕ) × (slice_get s.shown ds ≡ Some (OfParent set)) × (slice_get s.shown dnskey ≡ Some (OfKeys keys)) × IsOf w at set keys bytes asked j
things_at w s at ds dnskey answer asked bytes j h shown =
    things w at (slice_get s.shown ds) (slice_get s.shown dnskey) asked bytes j (subst (λ (r : Option Shown). JudgesThings w at (slice_get s.shown ds) (slice_get s.shown dnskey) r (outcome.Judged j)) shown h)

-- shown in one state
judged_at : (w : World) (rs : List HandedRr) (ms : List Moment) (vs : List (List HandedRr)) (s : Sofar) (at ds dnskey answer : ℕ) (j : Result Judgement Refused) → Stand (IsShown w) ms vs s.shown
    → JudgesAt w s at ds dnskey answer j → slice_get vs answer ≡ Some rs → VerdictAt (in_version w rs) rs ms s at (act.Judge ds dnskey answer) (outcome.Judged j)
judged_at w rs ms vs s at ds dnskey answer j stand h about keys parent_at keys_at answer_at asked bytes md mk ma shown meets keys_hold answer_holds hashes =
    let t = things_at w s at ds dnskey answer asked bytes j h shown in
    let a = (stands_at (IsShown w) ms vs s.shown ds (moment keys parent_at) (OfParent t.0) stand md t.2).2 in
    let b = stands_at (IsShown w) ms vs s.shown dnskey (moment keys keys_at) (OfKeys t.1) stand mk t.3 in
    let c = stands_of (IsShown w) ms vs s.shown answer (moment keys answer_at) rs (OfZone asked bytes) stand ma about shown in
    let tells = keys_told w (moment keys keys_at) b.0 t.1 b.2 in
    let answered = answer_told w (moment keys answer_at) rs asked bytes c in
    says w rs (moment keys parent_at) (moment keys keys_at) (moment keys answer_at) at t.0 t.1 bytes asked j c.zone t.4 a.left a.thing tells answered meets keys_hold answer_holds hashes

-- of bytes that tell what one state gives
bytes_at : (w : World) (rs : List HandedRr) (ms : List Moment) (vs : List (List HandedRr)) (s : Sofar) (at ds : ℕ) (dnskey answer : Vec ℕ Global) (q : Question Name) (j : Result Judgement Refused) → IsZoneOf (in_version w rs) rs → Stand (IsShown w) ms vs s.shown
    → JudgesBytes w at (slice_get s.shown ds) dnskey.items answer.items (asked_of q) (outcome.Judged j) → IsQuestion (asked_of q) → VerdictAt (in_version w rs) rs ms s at (act.JudgeBytes ds dnskey answer q) (outcome.Judged j)
bytes_at w rs ms vs s at ds dnskey answer q j zone stand judges is keys parent_at keys_at answer_at md tells answers allowed meets keys_hold answer_holds hashes =
    let t = beside w at (slice_get s.shown ds) dnskey.items answer.items (asked_of q) j judges in
    let a = (stands_at (IsShown w) ms vs s.shown ds (moment keys parent_at) (OfParent t.0) stand md t.1).2 in
    let answered : TellAnswer w rs (moment keys answer_at) (asked_of q) answer.items = record { left = a.left; allowed = allowed; question = is; tells = answers } in
    says w rs (moment keys parent_at) (moment keys keys_at) (moment keys answer_at) at t.0 dnskey.items answer.items (asked_of q) j zone t.2 a.left a.thing (a.left, tells) answered meets keys_hold answer_holds hashes

some_ds : (ds set : List Ds) (o : Option Shown) (keys : ZoneKeys) → o ≡ Some (OfParent ds) → o ≡ Some (OfParent set) → ds ≡ ds_set keys → is_empty set ≡ false → is_empty (at_parent keys.keys) ≡ false
some_ds ds set o keys e f is some =
    let same : set ≡ ds = cc in
    some_at_parent keys (subst (λ (d : List Ds). is_empty d ≡ false) (same ∙ is) some)

-- shown in three
judged_through : (w : World) (rs : List HandedRr) (h : History) (past : List ZoneKeys) (vs : List (List HandedRr)) (s : Sofar) (at ds dnskey answer : ℕ) (j : Result Judgement Refused) → Stand (IsPlaced w h.calls s.keys) h.shown vs s.shown
    → JudgesAt w s at ds dnskey answer j → slice_get vs answer ≡ Some rs → VerdictThrough (in_version w rs) rs h past s at (act.Judge ds dnskey answer) (outcome.Judged j)
judged_through w rs h past vs s at ds dnskey answer j stand judges about x y z set asked bytes hx hy hz parent shown lives some keys_hold answer_holds hashes =
    let t = things_at w s at ds dnskey answer asked bytes j judges shown in
    let P = IsPlaced w h.calls s.keys in
    let a = (stands_at P h.shown vs s.shown ds x (OfParent t.0) stand hx t.2).2 in
    let bs = stands_at P h.shown vs s.shown dnskey y (OfKeys t.1) stand hy t.3 in
    let b = bs.2 in
    let c = stands_of P h.shown vs s.shown answer z rs (OfZone asked bytes) stand hz about shown in
    let some_parent = some_ds t.0 set (slice_get s.shown ds) a.keys t.2 parent a.shown.thing some in
    let references = unretired_things_meet w.zone.apex h.calls at x.behind y.behind z.behind a.keys.keys b.keys.keys c.keys.keys lives.by_rolls lives.in_time lives.first a.state b.state c.state lives.ds_lives lives.dnskey_lives lives.answer_lives some_parent in
    let tells = keys_told w (moment b.keys y.at) bs.0 t.1 b.shown in
    let answered = answer_told w (moment c.keys z.at) rs asked bytes c.shown in
    says w rs (moment a.keys x.at) (moment b.keys y.at) (moment c.keys z.at) at t.0 t.1 bytes asked j c.shown.zone t.4 a.shown.left a.shown.thing tells answered (keys_meet a.keys b.keys c.keys s.keys a.past b.past c.past references) keys_hold answer_holds hashes

-- of bytes that tell what any states give
bytes_through : (w : World) (rs : List HandedRr) (h : History) (past : List ZoneKeys) (vs : List (List HandedRr)) (s : Sofar) (at ds : ℕ) (dnskey answer : Vec ℕ Global) (q : Question Name) (j : Result Judgement Refused) → IsZoneOf (in_version w rs) rs
    → Stand (IsPlaced w h.calls s.keys) h.shown vs s.shown → ArePassed w h.calls past s.keys → JudgesBytes w at (slice_get s.shown ds) dnskey.items answer.items (asked_of q) (outcome.Judged j) → IsQuestion (asked_of q)
    → VerdictThrough (in_version w rs) rs h past s at (act.JudgeBytes ds dnskey answer q) (outcome.Judged j)
bytes_through w rs h past vs s at ds dnskey answer q j zone stand passed judges is x y z set hx parent was_y was_z tells answers allowed lives some keys_hold answer_holds hashes =
    let t = beside w at (slice_get s.shown ds) dnskey.items answer.items (asked_of q) j judges in
    let a = (stands_at (IsPlaced w h.calls s.keys) h.shown vs s.shown ds x (OfParent t.0) stand hx t.1).2 in
    let b = passed.each y.behind y.keys was_y in
    let c = passed.each z.behind z.keys was_z in
    let some_parent = some_ds t.0 set (slice_get s.shown ds) a.keys t.1 parent a.shown.thing some in
    let references = unretired_things_meet w.zone.apex h.calls at x.behind y.behind z.behind a.keys.keys y.keys.keys z.keys.keys lives.by_rolls lives.in_time lives.first a.state b.state c.state lives.ds_lives lives.dnskey_lives lives.answer_lives some_parent in
    let answered : TellAnswer w rs (moment z.keys z.at) (asked_of q) answer.items = record { left = c.left; allowed = allowed; question = is; tells = answers } in
    let meets = keys_meet a.keys y.keys z.keys s.keys a.past b.past c.past references in
    says w rs (moment a.keys x.at) (moment y.keys y.at) (moment z.keys z.at) at t.0 dnskey.items answer.items (asked_of q) j zone t.2 a.shown.left a.shown.thing (b.left, tells) answered meets keys_hold answer_holds hashes

-- ---- what is known of the whole

-- the keys, and the calls that led to them
pub record Led (w : World) (cs : List (ℕ × Call)) (keys : ZoneKeys) : Type 0 where
  pub left : AreLeft w keys
  pub reach : Reach (no_keys w.zone.apex) cs keys.keys

-- a version is a zone
abbrev pub IsVersionOf : World → List HandedRr → Type 0
IsVersionOf w rs = IsZoneOf (in_version w rs) rs

pub record IsKnown (w : World) (ms : List Moment) (h : History) (past : List ZoneKeys) (v : Versions) (s : Sofar) : Type 0 where
  pub led : Led w h.calls s.keys
  pub passed : ArePassed w h.calls past s.keys
  pub moments : Stand (IsShown w) ms v.shown s.shown
  pub places : Stand (IsPlaced w h.calls s.keys) h.shown v.shown s.shown
  pub records_are : s.records ≡ sorted_records v.now
  pub now_is : IsVersionOf w v.now
  pub all_are : AllByRecursion (IsVersionOf w) v.all

-- ---- a step

led_more : (w : World) (cs : List (ℕ × Call)) (s t : ZoneKeys) (c : bindings.Call) (at : ℕ) (acts : List Action) → Led w cs s → apply (digest_at w.answers.digest w.zone.apex) c at s ≡ Ok (t, acts) → Led w (cs ++ (at, set_call c at) ∷ []) t
led_more w cs s t c at acts h e =
    let digest = digest_at w.answers.digest w.zone.apex in
    record {
      left = record {
        bound = apply_binds digest c at s t acts h.left.bound e;
        own = own_of (apply digest c at s) t acts (apply_own digest c at s h.left.own) e;
      };
      reach = reach_more (no_keys w.zone.apex) s.keys t.keys cs (at, set_call c at) acts h.reach (accepted_did digest c at s t acts e).0;
    }

placed_more : (w : World) (cs : List (ℕ × Call)) (s t : ZoneKeys) (c : bindings.Call) (at : ℕ) (acts : List Action) → Led w cs s → apply (digest_at w.answers.digest w.zone.apex) c at s ≡ Ok (t, acts)
    → (y : Showing) (rs : List HandedRr) (x : Shown) → IsPlaced w cs s y rs x → IsPlaced w (cs ++ (at, set_call c at) ∷ []) t y rs x
placed_more w cs s t c at acts led e y rs x h = record {
  keys = h.keys;
  shown = h.shown;
  past = record {
    own = h.past.own;
    stays = stay_on h.keys.bound s.bound t.bound h.past.stays (accepted_did (digest_at w.answers.digest w.zone.apex) c at s t acts e).1;
  };
  state = state_stays (no_keys w.zone.apex) s.keys cs ((at, set_call c at) ∷ []) y.behind h.keys.keys led.reach h.state;
}

-- the keys of now, and those passed, are passed behind one more call
now_passed : (w : World) (cs : List (ℕ × Call)) (keys : ZoneKeys) → Led w cs keys → IsPassed w cs keys (length cs) keys
now_passed w cs keys led = record {
  left = led.left;
  past = record { own = led.left.own; stays = stay_here keys.bound };
  state = reached_at (no_keys w.zone.apex) keys.keys cs led.reach;
}

still_passed : (w : World) (cs : List (ℕ × Call)) (s t : ZoneKeys) (c : bindings.Call) (at : ℕ) (acts : List Action) → Led w cs s → apply (digest_at w.answers.digest w.zone.apex) c at s ≡ Ok (t, acts)
    → (behind : ℕ) (keys : ZoneKeys) → IsPassed w cs s behind keys → IsPassed w (cs ++ (at, set_call c at) ∷ []) t behind keys
still_passed w cs s t c at acts led e behind keys h = record {
  left = h.left;
  past = record {
    own = h.past.own;
    stays = stay_on keys.bound s.bound t.bound h.past.stays (accepted_did (digest_at w.answers.digest w.zone.apex) c at s t acts e).1;
  };
  state = state_stays (no_keys w.zone.apex) s.keys cs ((at, set_call c at) ∷ []) behind keys.keys led.reach h.state;
}

-- an item of a list with one more at its end
last_or : {X : Type 0} (P : ℕ → X → Type 0) (xs : List X) (x : X) → P (length xs) x → ((i : ℕ) (y : X) → slice_get xs i ≡ Some y → P i y) → (i : ℕ) (y : X) → slice_get (xs ++ x ∷ []) i ≡ Some y → P i y
last_or P [] x now before zero y e = subst (P zero) (some_is x y e) now
last_or P [] x now before (suc i) y e = cc
last_or P (z ∷ xs) x now before zero y e = before zero y e
last_or P (z ∷ xs) x now before (suc i) y e = last_or (λ i. P (suc i)) xs x now (λ i. before (suc i)) i y e

passed_more : (w : World) (cs : List (ℕ × Call)) (past : List ZoneKeys) (s t : ZoneKeys) (c : bindings.Call) (at : ℕ) (acts : List Action) → Led w cs s → Led w (cs ++ (at, set_call c at) ∷ []) t
    → apply (digest_at w.answers.digest w.zone.apex) c at s ≡ Ok (t, acts) → ArePassed w cs past s → ArePassed w (cs ++ (at, set_call c at) ∷ []) (past ++ s ∷ []) t
passed_more w cs past s t c at acts led next e h =
    let more : List (ℕ × Call) = cs ++ (at, set_call c at) ∷ [] in
    let count : length (past ++ s ∷ []) ≡ length more = length_push past s ∙ ap (λ n. n + 1) h.count ∙ sym (length_push cs (at, set_call c at)) in
    record {
      count = count;
      each = last_or (IsPassed w more t) (past ++ s ∷ []) t (subst (λ n. IsPassed w more t n t) (sym count) (now_passed w more t next))
          (λ i keys f. still_passed w cs s t c at acts led e i keys (h.each i keys f));
    }

called : (w : World) (ms : List Moment) (h : History) (past : List ZoneKeys) (v : Versions) (s t : Sofar) (c : bindings.Call) (at : ℕ) (acts : List Action) → IsKnown w ms h past v s → apply (digest_at w.answers.digest w.zone.apex) c at s.keys ≡ Ok (t.keys, acts) → t ≡ record s { keys = t.keys } → IsKnown w ms (with_call h at c) (past ++ s.keys ∷ []) v t
called w ms h past v s t c at acts known e same =
    let P = IsPlaced w h.calls s.keys in
    let Q = IsPlaced w (h.calls ++ (at, set_call c at) ∷ []) t.keys in
    let shown : t.shown ≡ s.shown = ap (λ (x : Sofar). x.shown) same in
    record {
      led = led_more w h.calls s.keys t.keys c at acts known.led e;
      passed = passed_more w h.calls past s.keys t.keys c at acts known.led (led_more w h.calls s.keys t.keys c at acts known.led e) e known.passed;
      moments = subst (Stand (IsShown w) ms v.shown) (sym shown) known.moments;
      places = subst (Stand Q h.shown v.shown) (sym shown) (stand_so P Q h.shown v.shown s.shown (placed_more w h.calls s.keys t.keys c at acts known.led e) known.places);
      records_are = ap (λ (x : Sofar). x.records) same ∙ known.records_are;
      now_is = known.now_is;
      all_are = known.all_are;
    }

-- a thing is shown
shows : (w : World) (ms : List Moment) (h : History) (past : List ZoneKeys) (v : Versions) (s t : Sofar) (at : ℕ) (latest : Option ℕ) (x : Shown) → IsKnown w ms h past v s → ThingIs w (moment s.keys at) v.now x → t ≡ record s { latest = latest; shown = s.shown ++ x ∷ [] } → IsKnown w (ms ++ moment s.keys at ∷ []) (with_thing h at) past (with_showing v) t
shows w ms h past v s t at latest x known is e =
    let is_shown : IsShown w (moment s.keys at) v.now x = record { left = known.led.left; zone = known.now_is; thing = is } in
    subst (IsKnown w (ms ++ moment s.keys at ∷ []) (with_thing h at) past (with_showing v)) (sym e) (record {
      led = known.led;
      passed = known.passed;
      moments = one_more (IsShown w) ms v.shown s.shown (moment s.keys at) v.now x known.moments is_shown;
      places = one_more (IsPlaced w h.calls s.keys) h.shown v.shown s.shown (record { behind = length h.calls; at = at }) v.now x known.places (record {
        keys = s.keys;
        shown = is_shown;
        past = record { own = known.led.left.own; stays = stay_here s.keys.bound };
        state = reached_at (no_keys w.zone.apex) s.keys.keys h.calls known.led.reach;
      });
      records_are = known.records_are;
      now_is = known.now_is;
      all_are = known.all_are;
    })

-- the zone's records are replaced
replaced : (w : World) (ms : List Moment) (h : History) (past : List ZoneKeys) (v : Versions) (s t : Sofar) (rs : List HandedRr) → IsKnown w ms h past v s → IsVersionOf w rs → t ≡ record s { records = sorted_records rs } → IsKnown w ms h past (replaced_by v rs) t
replaced w ms h past v s t rs known is e = subst (IsKnown w ms h past (replaced_by v rs)) (sym e) (record {
  led = known.led;
  passed = known.passed;
  moments = known.moments;
  places = known.places;
  records_are = refl;
  now_is = is;
  all_are = all_joined (IsVersionOf w) v.all (rs ∷ []) known.all_are (is, tt);
})

stays : (w : World) (ms : List Moment) (h : History) (past : List ZoneKeys) (v : Versions) (s t : Sofar) → IsKnown w ms h past v s → t ≡ s → IsKnown w ms h past v t
stays w ms h past v s t known e = subst (IsKnown w ms h past v) (sym e) known

-- what a replacement takes is a zone
pub version_is : (w : World) (now rs : List HandedRr) → IsVersionOf w now → AllByRecursion IsHanded rs → IsAccepted w.answers.hash w.zone.apex w.zone.mode w.zone.limit rs → IsVersionOf w rs
version_is w now rs is handed accepted = record { apex_is = is.apex_is; records_are = handed; short_limit = is.short_limit; accepted = accepted; zone_is = refl }

-- what is shown of the zone's present records is of the present version
pub keys_of_now : (w : World) (now : List HandedRr) (s : Sofar) (at : ℕ) (bytes : List ℕ) → s.records ≡ sorted_records now → ShowsKeys (now_in w s) s.keys at bytes → ShowsKeys (in_version w now) s.keys at bytes
keys_of_now w now s at bytes e is = subst (λ (r : List HandedRr). ShowsKeys (with_records w r) s.keys at bytes) e is

pub answer_of_now : (w : World) (now : List HandedRr) (s : Sofar) (at : ℕ) (asked : Asked) (bytes : List ℕ) → s.records ≡ sorted_records now → ShowsAnswer (now_in w s) s.keys at asked bytes → ShowsAnswer (in_version w now) s.keys at asked bytes
answer_of_now w now s at asked bytes e is = subst (λ (r : List HandedRr). ShowsAnswer (with_records w r) s.keys at asked bytes) e is

-- a key call that is refused
refused : (w : World) (ms : List Moment) (h : History) (past : List ZoneKeys) (v : Versions) (s t : Sofar) → IsKnown w ms h past v s → t.keys ≡ s.keys → t ≡ record s { keys = t.keys } → IsKnown w ms h past v t
refused w ms h past v s t known e f = stays w ms h past v s t known (f ∙ ap (λ (k : ZoneKeys). record s { keys = k }) e)

pub stepped : (w : World) (ms : List Moment) (h : History) (past : List ZoneKeys) (v : Versions) (s t : Sofar) (at : ℕ) (a : Act) (o : Outcome) → IsKnown w ms h past v s → StepOf w s at a o t → IsKnown w (moments_with ms s.keys at a o) (history_with h at a o) (past_with past s.keys a o) (versions_with v a o) t
stepped w ms h past v s t at (act.Key c) (outcome.Key (Ok acts)) known is = called w ms h past v s t (call_of c) at acts.items known is.0 is.1
stepped w ms h past v s t at (act.Key c) (outcome.Key (Err e)) known is = refused w ms h past v s t known is.0.0 is.1
stepped w ms h past v s t at (act.Key c) _ known is = absurd is
stepped w ms h past v s t at (act.Replace records) (outcome.Replaced (Ok u)) known is =
    let rs : List HandedRr = map handed_of records.items in
    replaced w ms h past v s t rs known (version_is w v.now rs known.now_is is.1 is.2) is.3
stepped w ms h past v s t at (act.Replace records) (outcome.Replaced (Err e)) known is = stays w ms h past v s t known is.1
stepped w ms h past v s t at (act.Replace records) _ known is = absurd is
stepped w ms h past v s t at act.ShowDs (outcome.Ds place set) known is = shows w ms h past v s t at s.latest (OfParent set.items) known is.1 is.2
stepped w ms h past v s t at act.ShowDs _ known is = absurd is
stepped w ms h past v s t at act.ShowCds (outcome.Cds set) known is = stays w ms h past v s t known is.1
stepped w ms h past v s t at act.ShowCds _ known is = absurd is
stepped w ms h past v s t at act.ShowCdnskey (outcome.Cdnskey set) known is = stays w ms h past v s t known is.1
stepped w ms h past v s t at act.ShowCdnskey _ known is = absurd is
stepped w ms h past v s t at act.ShowDnskey (outcome.Message place octets) known is = shows w ms h past v s t at s.latest (OfKeys octets.items) known (keys_of_now w v.now s at octets.items known.records_are is.1) is.2
stepped w ms h past v s t at act.ShowDnskey (outcome.Refused e) known is = stays w ms h past v s t known is.1
stepped w ms h past v s t at act.ShowDnskey _ known is = absurd is
stepped w ms h past v s t at (act.Ask q) (outcome.Message place octets) known is =
    shows w ms h past v s t at (noted s.latest at) (OfZone (asked_of q) octets.items) known (is.1, is.2, answer_of_now w v.now s at (asked_of q) octets.items known.records_are is.3) is.4
stepped w ms h past v s t at (act.Ask q) (outcome.Refused e) known is = stays w ms h past v s t known is.2
stepped w ms h past v s t at (act.Ask q) _ known is = absurd is
stepped w ms h past v s t at (act.Judge ds dnskey answer) o known is = stays w ms h past v s t known is.1
stepped w ms h past v s t at (act.JudgeBytes ds dnskey answer q) o known is = stays w ms h past v s t known is.2

-- ---- what a judgement says of one state, and of three, of each version that it is about

abbrev pub SaysOneState : World → List Moment → Versions → Sofar → ℕ → Act → Outcome → Type 0
SaysOneState w ms v s at a o = (rs : List HandedRr) → IsAbout v a rs → VerdictAt (in_version w rs) rs ms s at a o

pub spoken_at : (w : World) (ms : List Moment) (h : History) (past : List ZoneKeys) (v : Versions) (s t : Sofar) (at : ℕ) (a : Act) (o : Outcome) → IsKnown w ms h past v s → StepOf w s at a o t → SaysOneState w ms v s at a o
spoken_at w ms h past v s t at (act.Judge ds dnskey answer) (outcome.Judged j) known is = λ rs about. judged_at w rs ms v.shown s at ds dnskey answer j known.moments is.0 about
spoken_at w ms h past v s t at (act.Judge ds dnskey answer) _ known is = λ rs about. tt
spoken_at w ms h past v s t at (act.JudgeBytes ds dnskey answer q) (outcome.Judged j) known is = λ rs about.
    bytes_at w rs ms v.shown s at ds dnskey answer q j (all_at (IsVersionOf w) v.all rs known.all_are (has_contained v.all rs about)) known.moments is.0 is.1
spoken_at w ms h past v s t at (act.JudgeBytes ds dnskey answer q) _ known is = λ rs about. tt
spoken_at w ms h past v s t at (act.Key c) o known is = λ rs about. tt
spoken_at w ms h past v s t at (act.Replace records) o known is = λ rs about. tt
spoken_at w ms h past v s t at act.ShowDs o known is = λ rs about. tt
spoken_at w ms h past v s t at act.ShowCds o known is = λ rs about. tt
spoken_at w ms h past v s t at act.ShowCdnskey o known is = λ rs about. tt
spoken_at w ms h past v s t at act.ShowDnskey o known is = λ rs about. tt
spoken_at w ms h past v s t at (act.Ask q) o known is = λ rs about. tt

abbrev pub SaysThrough : World → History → List ZoneKeys → Versions → Sofar → ℕ → Act → Outcome → Type 0
SaysThrough w h past v s at a o = (rs : List HandedRr) → IsAbout v a rs → VerdictThrough (in_version w rs) rs h past s at a o

pub spoken_through : (w : World) (ms : List Moment) (h : History) (past : List ZoneKeys) (v : Versions) (s t : Sofar) (at : ℕ) (a : Act) (o : Outcome) → IsKnown w ms h past v s → StepOf w s at a o t → SaysThrough w h past v s at a o
spoken_through w ms h past v s t at (act.Judge ds dnskey answer) (outcome.Judged j) known is = λ rs about. judged_through w rs h past v.shown s at ds dnskey answer j known.places is.0 about
spoken_through w ms h past v s t at (act.Judge ds dnskey answer) _ known is = λ rs about. tt
spoken_through w ms h past v s t at (act.JudgeBytes ds dnskey answer q) (outcome.Judged j) known is = λ rs about.
    bytes_through w rs h past v.shown s at ds dnskey answer q j (all_at (IsVersionOf w) v.all rs known.all_are (has_contained v.all rs about)) known.places known.passed is.0 is.1
spoken_through w ms h past v s t at (act.JudgeBytes ds dnskey answer q) _ known is = λ rs about. tt
spoken_through w ms h past v s t at (act.Key c) o known is = λ rs about. tt
spoken_through w ms h past v s t at (act.Replace records) o known is = λ rs about. tt
spoken_through w ms h past v s t at act.ShowDs o known is = λ rs about. tt
spoken_through w ms h past v s t at act.ShowCds o known is = λ rs about. tt
spoken_through w ms h past v s t at act.ShowCdnskey o known is = λ rs about. tt
spoken_through w ms h past v s t at act.ShowDnskey o known is = λ rs about. tt
spoken_through w ms h past v s t at (act.Ask q) o known is = λ rs about. tt

-- ---- at the beginning

none_led : (w : World) → Led w [] (bindings.no_keys w.zone.apex)
none_led w = record {
  left = record { bound = tt; own = none_own w.zone.apex };
  reach = refl;
}

pub none_known : (w : World) (rs : List HandedRr) → IsZoneOf w rs → IsKnown w [] no_history [] (first_version rs) (begin w.zone)
none_known w rs zone =
    let is : IsVersionOf w rs = record { apex_is = zone.apex_is; records_are = zone.records_are; short_limit = zone.short_limit; accepted = zone.accepted; zone_is = refl } in
    record {
      led = none_led w;
      passed = record {
        count = refl;
        each = last_or (IsPassed w [] (bindings.no_keys w.zone.apex)) [] (bindings.no_keys w.zone.apex) (now_passed w [] (bindings.no_keys w.zone.apex) (none_led w)) (λ i keys e. cc);
      };
      moments = tt;
      places = tt;
      records_are = ap (λ (z : AcceptedZone). z.records) zone.zone_is;
      now_is = is;
      all_are = (is, tt);
    }

-- an accepted zone
pub zone_known : (apex : Name) (mode : Mode) (limit : ℕ) (rs : List HandedRr) (life : ℕ) (sign : Dnskey → List ℕ → Option (List ℕ)) (answers : Answers) → limit < 65536 → IsAccepted answers.hash apex mode limit rs → IsName apex → AllByRecursion IsHanded rs
    → IsZoneOf (record { zone = record { apex = apex; mode = mode; limit = limit; records = sorted_records rs }; life = life; sign = sign; answers = answers }) rs
zone_known apex mode limit rs life sign answers short accepted name handed = record { apex_is = name; records_are = handed; short_limit = short; accepted = accepted; zone_is = refl }
