-- A simulation's judgements of messages in which nothing is forged.
use Rattle.std.proofs.Common.{◌≡◌, ℕ, zero, suc, ◌<◌, true, false, List, [], ◌∷◌, ◌++◌, map, refl, sym, ap, subst, ◌∙◌, inl, inr}
use Rattle.std.specs.Prelude.{Contains, Option, Some, Ok, Err, slice_get}
use Rattle.std.specs.List.{AllByRecursion, flat_map}
use Rattle.std.specs.declared.result.Result.{Result}
use Rattle.std.proofs.lemmas.List.{length-map}
use Rattle.definitions.specs.Dnskey.{Ds}
use Rattle.definitions.specs.Limits.{pointer_limit}
use Rattle.definitions.specs.Name.{IsName}
use Rattle.definitions.specs.Zone.{Zone}
use Rattle.definitions.specs.ZoneChain.{Mode, Nsec, Nsec3}
use Rattle.messages.specs.HandedRr.{HandedRr, handed_of}
use Rattle.messages.specs.Message.{Asked}
use Rattle.messages.specs.Questions.{asked_of}
use Rattle.messages.specs.WrittenLaws.{IsQuestion}
use Rattle.messages.proofs.Lists.{all_at, all_more, some_is}
use Rattle.answer_terms.specs.Accepting.{over_limit, sorted_records, zone_of}
use Rattle.answer_terms.specs.Chainable.{HasChain}
use Rattle.answer_terms.specs.Hashing.{Hasher}
use Rattle.answer_terms.proofs.Servable.{servable}
use Rattle.answer_events.specs.declared.event.Act.{Act}
use Rattle.answer_events.specs.declared.event.Act.TheVariants as act
use Rattle.answer_events.specs.Calls.{call_of}
use Rattle.answer_scheme.specs.Moments.{second_of}
use Rattle.answer_judge.specs.Versions.{Version}
use Rattle.answer_judge.specs.Honest.{FewIterations, IsVersion, Settled, Signing}
use Rattle.answer_judge.specs.Meeting.{IsJudgement}
use Rattle.answer_judge.specs.OwnMessages.{signing_of}
use Rattle.answer_judge.specs.Judging.{JudgeInput, answer_of, hashes_of, verifications_of}
use Rattle.answer_judge.specs.declared.verdict.Judgement.{Judgement}
use Rattle.answer_judge.specs.declared.verdict.Refused.{Refused}
use Rattle.answer_judge.proofs.GivenFacts.{fitting}
use Rattle.answer_judge.proofs.GivenLists.{contained_has, has_contained, has_left, has_right}
use Rattle.answer_judge.proofs.GivenRrset.{all_joined}
use Rattle.answer_judge_facts.proofs.KeptItems.{has_from_map, has_map}
use Rattle.answer_publisher_keys.specs.Bindings.{Call, ZoneKeys, apply, dnskeys, published}
use Rattle.answer_publisher.specs.Publishing.{digest_at}
use Rattle.answer_publisher.specs.Replacing.{noted}
use Rattle.answer_publisher.specs.World.{World, present_keys}
use Rattle.answer_publisher_keys.specs.declared.keys.Publication.TheVariants as publication
use Rattle.keyset_rolls.specs.declared.rolls.Action.{Action}
use Rattle.answer_outcomes.specs.declared.outcome.Outcome.{Outcome}
use Rattle.answer_outcomes.specs.declared.outcome.Outcome.TheVariants as outcome
use Rattle.answer_laws.specs.HonestBytes.{AtJudgement, IsApart, IsOfRun, published_by, published_in, signings_with, version_of}
use Rattle.answer_laws.specs.Simulating as things
use Rattle.answer_laws.specs.Simulating.{JudgesBytes, JudgesThings, Shown, Sofar, StepOf, begin, judge_input}
use Rattle.answer_laws.specs.ThroughRolls.{past_with}
use Rattle.answer_laws.specs.Versions.{AreTimely, IsSettled, SaysOneHonestly, Story, Versions, first_version, replaced_by, versions_with, with_showing}
use Rattle.answer_laws.proofs.OneAtATime.{OneBegins, one_at_a_time}
use Rattle.answer_laws.proofs.Judgements.{IsVersionOf}
use Rattle.answer_laws.proofs.KeyLife.{AreBound, HasFlags, apply_binds, published_flags}

-- ---- published keys

abbrev Bound : World → ZoneKeys → Type 0
Bound w keys = AreBound (digest_at w.answers.digest w.zone.apex) keys.bound

state_flags : (w : World) (keys : ZoneKeys) → Bound w keys → AllByRecursion HasFlags (published_in keys)
state_flags w keys h =
    let digest = digest_at w.answers.digest w.zone.apex in
    all_joined HasFlags (dnskeys (published keys publication.AtParent)) (present_keys keys)
    (published_flags digest keys publication.AtParent h) (published_flags digest keys publication.Present h)

all_flags : (w : World) (states : List ZoneKeys) → AllByRecursion (Bound w) states → AllByRecursion HasFlags (flat_map published_in states)
all_flags w [] h = tt
all_flags w (keys ∷ states) h = all_joined HasFlags (published_in keys) (flat_map published_in states) (state_flags w keys h.0) (all_flags w states h.1)

-- ---- what was signed

-- a question that was answered is one
abbrev HasQuestion : Shown → Type 0
HasQuestion (things.OfParent ds) = Unit {0}
HasQuestion (things.OfKeys bytes) = Unit {0}
HasQuestion (things.OfZone asked bytes) = IsQuestion asked

-- of one of these versions
abbrev IsOfVersion : World → List (List HandedRr) → Signing → Type 0
IsOfVersion w all x = Contains (map (version_of w) all) x.version

-- what is known of a run so far
pub record IsSo (w : World) (signings : List Signing) (past : List ZoneKeys) (v : Versions) (s : Sofar) : Type 0 where
  pub bound : AllByRecursion (Bound w) (past ++ s.keys ∷ [])
  pub now_bound : Bound w s.keys
  pub of_versions : AllByRecursion (IsOfVersion w v.all) signings
  pub now_among : Contains v.all v.now
  pub asked : AllByRecursion HasQuestion s.shown

-- ---- a step

called : (w : World) (signings : List Signing) (past : List ZoneKeys) (v : Versions) (s t : Sofar) (c : Call) (at : ℕ) (acts : List Action) → IsSo w signings past v s → apply (digest_at w.answers.digest w.zone.apex) c at s.keys ≡ Ok (t.keys, acts) → t ≡ record s { keys = t.keys } → IsSo w signings (past ++ s.keys ∷ []) v t
called w signings past v s t c at acts known e same =
    let next : Bound w t.keys = apply_binds (digest_at w.answers.digest w.zone.apex) c at s.keys t.keys acts known.now_bound e in
    record {
      bound = all_joined (Bound w) (past ++ s.keys ∷ []) (t.keys ∷ []) known.bound (next, tt);
      now_bound = next;
      of_versions = known.of_versions;
      now_among = known.now_among;
      asked = subst (AllByRecursion HasQuestion) (sym (ap (λ (x : Sofar). x.shown) same)) known.asked;
    }

stays : (w : World) (signings : List Signing) (past : List ZoneKeys) (v : Versions) (s t : Sofar) → IsSo w signings past v s → t ≡ s → IsSo w signings past v t
stays w signings past v s t known e = subst (IsSo w signings past v) (sym e) known

-- a thing is shown for which nothing of a version was signed
shows : (w : World) (signings : List Signing) (past : List ZoneKeys) (v : Versions) (s t : Sofar) (x : Shown) → IsSo w signings past v s → HasQuestion x → t ≡ record s { shown = s.shown ++ x ∷ [] } → IsSo w signings past (with_showing v) t
shows w signings past v s t x known is e = subst (IsSo w signings past (with_showing v)) (sym e) (record {
  bound = known.bound;
  now_bound = known.now_bound;
  of_versions = known.of_versions;
  now_among = known.now_among;
  asked = all_joined HasQuestion s.shown (x ∷ []) known.asked (is, tt);
})

version_among : (w : World) (all : List (List HandedRr)) (rs : List HandedRr) → Contains all rs → Contains (map (version_of w) all) (version_of w rs)
version_among w all rs h = contained_has (map (version_of w) all) (version_of w rs) (has_map (version_of w) all rs (has_contained all rs h))

-- an answer of the present version
answers : (w : World) (signings : List Signing) (past : List ZoneKeys) (v : Versions) (s t : Sofar) (at : ℕ) (asked : Asked) (bytes : List ℕ) → IsSo w signings past v s → IsQuestion asked → t ≡ record s { latest = noted s.latest at; shown = s.shown ++ things.OfZone asked bytes ∷ [] }
    → IsSo w (signings ++ signing_of w.zone.mode v.now (second_of at) w.life ∷ []) past (with_showing v) t
answers w signings past v s t at asked bytes known is e =
    let new : List Signing = signing_of w.zone.mode v.now (second_of at) w.life ∷ [] in
    subst (IsSo w (signings ++ new) past (with_showing v)) (sym e) (record {
      bound = known.bound;
      now_bound = known.now_bound;
      of_versions = all_joined (IsOfVersion w v.all) signings new known.of_versions (version_among w v.all v.now known.now_among, tt);
      now_among = known.now_among;
      asked = all_joined HasQuestion s.shown (things.OfZone asked bytes ∷ []) known.asked (is, tt);
    })

-- the zone's records are replaced
still_version : (w : World) (all : List (List HandedRr)) (rs : List HandedRr) (x : Signing) → IsOfVersion w all x → IsOfVersion w (all ++ rs ∷ []) x
still_version w all rs x h =
    let i = has_from_map (version_of w) all x.version (has_contained (map (version_of w) all) x.version h) in
    let among = contained_has (all ++ rs ∷ []) i.0 (has_left all (rs ∷ []) i.0 i.1) in
    subst (Contains (map (version_of w) (all ++ rs ∷ []))) (sym i.2) (version_among w (all ++ rs ∷ []) i.0 among)

replaced : (w : World) (signings : List Signing) (past : List ZoneKeys) (v : Versions) (s t : Sofar) (rs : List HandedRr) → IsSo w signings past v s → t ≡ record s { records = sorted_records rs } → IsSo w signings past (replaced_by v rs) t
replaced w signings past v s t rs known e = subst (IsSo w signings past (replaced_by v rs)) (sym e) (record {
  bound = known.bound;
  now_bound = known.now_bound;
  of_versions = all_more (IsOfVersion w v.all) (IsOfVersion w (v.all ++ rs ∷ [])) signings (still_version w v.all rs) known.of_versions;
  now_among = contained_has (v.all ++ rs ∷ []) rs (has_right v.all (rs ∷ []) rs (inl refl));
  asked = known.asked;
})

pub stepped : (w : World) (signings : List Signing) (past : List ZoneKeys) (v : Versions) (s t : Sofar) (at : ℕ) (a : Act) (o : Outcome) → IsSo w signings past v s → StepOf w s at a o t
    → IsSo w (signings_with signings w v.now at a o) (past_with past s.keys a o) (versions_with v a o) t
stepped w signings past v s t at (act.Key c) (outcome.Key (Ok acts)) known is = called w signings past v s t (call_of c) at acts.items known is.0 is.1
stepped w signings past v s t at (act.Key c) (outcome.Key (Err e)) known is = stays w signings past v s t known (is.1 ∙ ap (λ (k : ZoneKeys). record s { keys = k }) is.0.0)
stepped w signings past v s t at (act.Key c) _ known is = absurd is
stepped w signings past v s t at (act.Replace records) (outcome.Replaced (Ok u)) known is = replaced w signings past v s t (map handed_of records.items) known is.3
stepped w signings past v s t at (act.Replace records) (outcome.Replaced (Err e)) known is = stays w signings past v s t known is.1
stepped w signings past v s t at (act.Replace records) _ known is = absurd is
stepped w signings past v s t at act.ShowDs (outcome.Ds place set) known is = shows w signings past v s t (things.OfParent set.items) known tt is.2
stepped w signings past v s t at act.ShowDs _ known is = absurd is
stepped w signings past v s t at act.ShowCds (outcome.Cds set) known is = stays w signings past v s t known is.1
stepped w signings past v s t at act.ShowCds _ known is = absurd is
stepped w signings past v s t at act.ShowCdnskey (outcome.Cdnskey set) known is = stays w signings past v s t known is.1
stepped w signings past v s t at act.ShowCdnskey _ known is = absurd is
stepped w signings past v s t at act.ShowDnskey (outcome.Message place octets) known is = shows w signings past v s t (things.OfKeys octets.items) known tt is.2
stepped w signings past v s t at act.ShowDnskey (outcome.Refused e) known is = stays w signings past v s t known is.1
stepped w signings past v s t at act.ShowDnskey _ known is = absurd is
stepped w signings past v s t at (act.Ask q) (outcome.Message place octets) known is = answers w signings past v s t at (asked_of q) octets.items known is.2 is.4
stepped w signings past v s t at (act.Ask q) (outcome.Refused e) known is = stays w signings past v s t known is.2
stepped w signings past v s t at (act.Ask q) _ known is = absurd is
stepped w signings past v s t at (act.Judge ds dnskey answer) o known is = stays w signings past v s t known is.1
stepped w signings past v s t at (act.JudgeBytes ds dnskey answer q) o known is = stays w signings past v s t known is.2

-- ---- a judgement

abbrev Judges : World → ℕ → List Ds → List ℕ → List ℕ → Asked → Result Judgement Refused → Type 0
Judges w at ds keys bytes asked j = IsJudgement pointer_limit w.answers (judge_input w ds keys bytes asked at) (answer_of j) (verifications_of j) (hashes_of j)

-- iterations within a limit of 16 bits are few
few_within : (hash : Hasher) (z : Zone) (mode : Mode) (limit : ℕ) → limit < 65536 → over_limit mode limit ≡ false → HasChain hash mode z → FewIterations mode
few_within hash z Nsec limit short within chain = tt
few_within hash z (Nsec3 iterations salt optout) limit short within chain = (fitting hash z (Nsec3 iterations salt optout) limit short within chain).0

-- each version is one of the judge's
versions_are : (w : World) (at : ℕ) (set : List Ds) (keys bytes : List ℕ) (asked : Asked) (all : List (List HandedRr)) → AllByRecursion (IsVersionOf w) all → AllByRecursion (IsApart w asked) all → AllByRecursion (IsVersion w.answers (judge_input w set keys bytes asked at)) (map (version_of w) all)
versions_are w at set keys bytes asked [] is apart = tt
versions_are w at set keys bytes asked (rs ∷ all) is apart = (
  record {
    records_are = is.0.records_are;
    in_order = servable w.answers.hash w.zone.apex w.zone.mode w.zone.limit rs is.0.accepted;
    few = few_within w.answers.hash (zone_of w.zone.apex rs) w.zone.mode w.zone.limit is.0.short_limit is.0.accepted.faultless.within_limit is.0.accepted.chain;
    chain = is.0.accepted.chain;
    apart = apart.0;
    truly = tt;
  },
  versions_are w at set keys bytes asked all is.1 apart.1,
)

some_version : (w : World) (all : List (List HandedRr)) (rs : List HandedRr) → Contains all rs → map (version_of w) all ≡ [] → ⊥
some_version w [] rs h e = has_contained [] rs h
some_version w (x ∷ all) rs h e = cc

-- at one moment there was one version, or what the answer proves rests on one RRset
settled_so : (w : World) (h : JudgeInput) (y : Story) (s : Sofar) (signed : List Signing) → AllByRecursion (IsOfRun y.signings) signed → h.one_moment ≡ true → (AreTimely y → OneBegins y.signings) → IsSettled w y s h
    → Settled w.answers pointer_limit h (published_by y.past s.keys) (map (version_of w) y.versions.all) signed
settled_so w h y s signed of_run on one (inl e) = inl (length-map y.versions.all (version_of w) ∙ e)
settled_so w h y s signed of_run on one (inr (inl timely)) = inr (inl (on, one_at_a_time y.signings signed (one timely) of_run))
settled_so w h y s signed of_run on one (inr (inr single)) = inr (inr single)

-- what was signed with versions of the run is of its versions
of_run_versions : (versions : List Version) (signings signed : List Signing) → AllByRecursion (λ (s : Signing). Contains versions s.version) signings → AllByRecursion (IsOfRun signings) signed → AllByRecursion (λ (s : Signing). Contains versions s.version) signed
of_run_versions versions signings signed of = all_more (IsOfRun signings) (λ (s : Signing). Contains versions s.version) signed
    (λ s d. subst (Contains versions) (sym d.version_is) (all_at (λ (s : Signing). Contains versions s.version) signings d.given of (has_contained signings d.given d.there)))

honestly : (w : World) (y : Story) (s : Sofar) (at : ℕ) (set : List Ds) (keys bytes : List ℕ) (asked : Asked) (j : Result Judgement Refused) → IsName w.zone.apex → AllByRecursion (IsVersionOf w) y.versions.all → (AreTimely y → OneBegins y.signings)
    → IsSo w y.signings y.past y.versions s → IsQuestion asked → Judges w at set keys bytes asked j → SaysOneHonestly w y s at set keys bytes asked (answer_of j)
honestly w y s at set keys bytes asked j apex all one known question judges honest apart settled = judges.honest (map (version_of w) y.versions.all) (record {
  published = published_by y.past s.keys;
  signings = honest.signed;
  apex_is = apex;
  one = some_version w y.versions.all y.versions.now known.now_among;
  versions_are = versions_are w at set keys bytes asked y.versions.all all apart;
  asked_is = question;
  ds_some = honest.some;
  flags_are = all_flags w (y.past ++ s.keys ∷ []) known.bound;
  of_versions = of_run_versions (map (version_of w) y.versions.all) y.signings honest.signed known.of_versions honest.of_run;
  settled = settled_so w (judge_input w set keys bytes asked at) y s honest.signed honest.of_run refl one settled;
  keys_honest = honest.keys_honest;
  keys_known = honest.keys_known;
  answer_honest = honest.answer_honest;
})

question_at : (xs : List Shown) (i : ℕ) (asked : Asked) (bytes : List ℕ) → AllByRecursion HasQuestion xs → slice_get xs i ≡ Some (things.OfZone asked bytes) → IsQuestion asked
question_at [] i asked bytes h e = cc
question_at (x ∷ xs) zero asked bytes h e = subst HasQuestion (some_is x (things.OfZone asked bytes) e) h.0
question_at (x ∷ xs) (suc i) asked bytes h e = question_at xs i asked bytes h.1 e

pub spoken : (w : World) (y : Story) (s t : Sofar) (at : ℕ) (a : Act) (o : Outcome) → IsName w.zone.apex → AllByRecursion (IsVersionOf w) y.versions.all → (AreTimely y → OneBegins y.signings) → IsSo w y.signings y.past y.versions s → StepOf w s at a o t
    → AtJudgement (SaysOneHonestly w y s at) s a o
spoken w y s t at (act.JudgeBytes ds dnskey answer q) (outcome.Judged j) apex all one known is = λ set a.
    honestly w y s at set dnskey.items answer.items (asked_of q) j apex all one known is.1
    (subst (λ (x : Option Shown). JudgesBytes w at x dnskey.items answer.items (asked_of q) (outcome.Judged j)) a is.0)
spoken w y s t at (act.JudgeBytes ds dnskey answer q) _ apex all one known is = tt
spoken w y s t at (act.Judge ds dnskey answer) (outcome.Judged j) apex all one known is = λ set keys bytes asked a b c.
    honestly w y s at set keys bytes asked j apex all one known (question_at s.shown answer asked bytes known.asked c)
    (subst (λ (x : Option Shown). JudgesThings w at x (Some (things.OfKeys keys)) (Some (things.OfZone asked bytes)) (outcome.Judged j)) a
    (subst (λ (x : Option Shown). JudgesThings w at (slice_get s.shown ds) x (Some (things.OfZone asked bytes)) (outcome.Judged j)) b
    (subst (λ (x : Option Shown). JudgesThings w at (slice_get s.shown ds) (slice_get s.shown dnskey) x (outcome.Judged j)) c is.0)))
spoken w y s t at (act.Judge ds dnskey answer) _ apex all one known is = tt
spoken w y s t at (act.Key c) o apex all one known is = tt
spoken w y s t at (act.Replace records) o apex all one known is = tt
spoken w y s t at act.ShowDs o apex all one known is = tt
spoken w y s t at act.ShowCds o apex all one known is = tt
spoken w y s t at act.ShowCdnskey o apex all one known is = tt
spoken w y s t at act.ShowDnskey o apex all one known is = tt
spoken w y s t at (act.Ask q) o apex all one known is = tt

-- at the beginning
pub none_so : (w : World) (rs : List HandedRr) → IsSo w [] [] (first_version rs) (begin w.zone)
none_so w rs = record { bound = (tt, tt); now_bound = tt; of_versions = tt; now_among = contained_has (rs ∷ []) rs (inl refl); asked = tt }
