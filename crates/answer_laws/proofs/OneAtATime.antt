-- Signatures of answers that begin and end in the same seconds are of one version of the zone, where replacements part the seconds.
use Rattle.std.proofs.Common.{◌≡◌, ℕ, ◌+◌, ◌%◌, ◌<◌, ◌≤◌, Bool, true, false, ◌&&◌, List, [], ◌∷◌, ◌++◌, refl, sym, ap, subst, ◌∙◌, inl, inr, ⊎_elim, ◌⊎◌, arith}
use Rattle.std.specs.Prelude.{Contains, Option, Some, None, Ok, Err, map}
use Rattle.std.specs.List.{AllByRecursion}
use Rattle.std.proofs.lemmas.Bool.{false≢true}
use Rattle.std.proofs.lemmas.Bool.Decides.{nat_tests}
use Rattle.messages.specs.HandedRr.{HandedRr, handed_of}
use Rattle.messages.proofs.Lists.{Has, all_at, all_more}
use Rattle.answer_events.specs.declared.event.Act.{Act}
use Rattle.answer_events.specs.declared.event.Act.TheVariants as act
use Rattle.answer_scheme.specs.Moments.{second_of}
use Rattle.answer_judge.specs.Honest.{OneAtATime, Signing}
use Rattle.answer_judge.specs.OwnMessages.{signing_of}
use Rattle.answer_judge_facts.specs.Times.{Times}
use Rattle.answer_judge.proofs.GivenLists.{contained_has, has_contained, has_left, has_right}
use Rattle.answer_judge.proofs.GivenRrset.{all_joined}
use Rattle.answer_publisher.specs.Replacing.{is_too_soon, noted, whole_second}
use Rattle.answer_publisher.specs.World.{World}
use Rattle.answer_outcomes.specs.declared.outcome.Outcome.{Outcome}
use Rattle.answer_outcomes.specs.declared.outcome.Outcome.TheVariants as outcome
use Rattle.answer_laws.specs.HonestBytes.{IsOfRun, signings_with, version_of}
use Rattle.answer_laws.specs.Simulating.{Sofar, StepOf, begin}
use Rattle.answer_laws.specs.Versions.{AreTimely, Parting, Story, Versions, first_version, is_behind, no_parting, parting_with, versions_with}

-- an answer of the zone: its moment, and the version that it was of
pub record Given : Type 0 where
  pub moment : ℕ
  pub records : List HandedRr

abbrev IsBy : Option ℕ → ℕ → Type 0
IsBy None second = ⊥
IsBy (Some latest) second = second ≤ latest

-- an answer at one of some moments, whose second was noted
pub record IsNoted (times : List ℕ) (latest : Option ℕ) (d : Given) : Type 0 where
  pub among : Has times d.moment
  pub by : IsBy latest (whole_second d.moment)

-- what one of these answers is signed of
abbrev signing : World → Given → Signing
signing w d = signing_of w.zone.mode d.records (second_of d.moment) w.life

-- a signing is that of one of these answers
pub record IsGiven (w : World) (answers : List Given) (x : Signing) : Type 0 where
  pub given : Given
  pub there : Has answers given
  pub is : x ≡ signing w given

-- of the present version, or of a second before some second
abbrev IsOlder : List HandedRr → ℕ → Given → Type 0
IsOlder now since d = (d.records ≡ now) ⊎ (whole_second d.moment < since)

-- a second is not behind another; 0 where there is none
abbrev IsSince : Option ℕ → ℕ → Type 0
IsSince None since = since ≡ 0
IsSince (Some second) since = since ≤ second

-- answers that are not of the present version come before the second of its beginning, and those of one second are of one version
pub record AreApart (closed : Option ℕ) (now : List HandedRr) (since : ℕ) (answers : List Given) : Type 0 where
  pub since_is : IsSince closed since
  pub older : AllByRecursion (IsOlder now since) answers
  pub one : (d e : Given) → Has answers d → Has answers e → whole_second d.moment ≡ whole_second e.moment → d.records ≡ e.records

-- what is known of the answers so far
pub record AreDated (w : World) (times : List ℕ) (parting : Parting) (latest : Option ℕ) (now : List HandedRr) (signings : List Signing) : Type 0 where
  pub since : ℕ
  pub answers : List Given
  pub noted_are : AllByRecursion (IsNoted times latest) answers
  pub given_are : AllByRecursion (IsGiven w answers) signings
  pub apart : parting.kept ≡ true → AreApart parting.since now since answers

-- ---- a step

noted_more : (times : List ℕ) (at : ℕ) (latest : Option ℕ) (d : Given) → IsNoted times latest d → IsNoted (times ++ at ∷ []) latest d
noted_more times at latest d h = record { among = has_left times (at ∷ []) d.moment h.among; by = h.by }

-- a moment passes
passes : (w : World) (times : List ℕ) (at : ℕ) (parting : Parting) (latest : Option ℕ) (now : List HandedRr) (signings : List Signing) → AreDated w times parting latest now signings → AreDated w (times ++ at ∷ []) parting latest now signings
passes w times at parting latest now signings h = record {
  since = h.since;
  answers = h.answers;
  noted_are = all_more (IsNoted times latest) (IsNoted (times ++ at ∷ []) latest) h.answers (noted_more times at latest) h.noted_are;
  given_are = h.given_are;
  apart = h.apart;
}

by_later : (latest : Option ℕ) (at second : ℕ) → IsBy latest second → IsBy (noted latest at) second
by_later None at second h = absurd h
by_later (Some l) at second h = grind arith

by_now : (latest : Option ℕ) (at : ℕ) → IsBy (noted latest at) (whole_second at)
by_now None at = grind arith
by_now (Some l) at = grind arith

noted_later : (times : List ℕ) (at : ℕ) (latest : Option ℕ) (d : Given) → IsNoted times latest d → IsNoted (times ++ at ∷ []) (noted latest at) d
noted_later times at latest d h = record { among = has_left times (at ∷ []) d.moment h.among; by = by_later latest at (whole_second d.moment) h.by }

given_more : (w : World) (answers : List Given) (d : Given) (x : Signing) → IsGiven w answers x → IsGiven w (answers ++ d ∷ []) x
given_more w answers d x h = record { given = h.given; there = has_left answers (d ∷ []) h.given h.there; is = h.is }

-- the second of the present version's beginning is not behind that of an answer
since_up : (closed : Option ℕ) (at since : ℕ) → is_behind closed at ≡ true → IsSince closed since → since ≤ whole_second at
since_up None at since behind e = omega (arith, e)
since_up (Some second) at since behind h = grind (arith, nat_tests)

-- the second of a replacement is not behind the greatest one
since_now : (closed : Option ℕ) (at : ℕ) → IsSince (noted closed at) (whole_second at)
since_now None at = grind arith
since_now (Some second) at = grind arith

both_true : (b c : Bool) → (b && c) ≡ true → (b ≡ true) × (c ≡ true)
both_true true c h = (refl, h)
both_true false c h = absurd (false≢true h)

-- one more answer
pub either_has : {A : Type 0} (xs : List A) (x y : A) → Has (xs ++ x ∷ []) y → Has xs y ⊎ (y ≡ x)
either_has [] x y h = ⊎_elim (λ e. inr e) (λ no. absurd no) h
either_has (z ∷ xs) x y h = ⊎_elim (λ e. inl (inl e)) (λ k. ⊎_elim (λ i. inl (inr i)) (λ e. inr e) (either_has xs x y k)) h

old_and_new : (at since : ℕ) (now : List HandedRr) (answers : List Given) (d : Given) → since ≤ whole_second at → AllByRecursion (IsOlder now since) answers → Has answers d → whole_second d.moment ≡ whole_second at → d.records ≡ now
old_and_new at since now answers d up older i e = ⊎_elim
    (λ same. same)
    (λ (before : whole_second d.moment < since). absurd (omega arith))
    (all_at (IsOlder now since) answers d older i)

with_answer : (at since : ℕ) (closed : Option ℕ) (now : List HandedRr) (answers : List Given) → is_behind closed at ≡ true → AreApart closed now since answers → AreApart closed now since (answers ++ (record { moment = at; records = now }) ∷ [])
with_answer at since closed now answers behind a =
    let new : Given = record { moment = at; records = now } in
    let up : since ≤ whole_second at = since_up closed at since behind a.since_is in
    record {
      since_is = a.since_is;
      older = all_joined (IsOlder now since) answers (new ∷ []) a.older (inl refl, tt);
      one = λ d e hd he same. ⊎_elim
          (λ (i : Has answers d). ⊎_elim
          (λ (j : Has answers e). a.one d e i j same)
          (λ (f : e ≡ new). old_and_new at since now answers d up a.older i (same ∙ ap (λ (g : Given). whole_second g.moment) f) ∙ sym (ap (λ (g : Given). g.records) f))
          (either_has answers new e he))
          (λ (f : d ≡ new). ⊎_elim
          (λ (j : Has answers e). ap (λ (g : Given). g.records) f ∙ sym (old_and_new at since now answers e up a.older j (sym same ∙ ap (λ (g : Given). whole_second g.moment) f)))
          (λ (k : e ≡ new). ap (λ (g : Given). g.records) f ∙ sym (ap (λ (g : Given). g.records) k))
          (either_has answers new e he))
          (either_has answers new d hd);
    }

answered : (w : World) (times : List ℕ) (parting : Parting) (latest : Option ℕ) (now : List HandedRr) (signings : List Signing) (at : ℕ) → AreDated w times parting latest now signings
    → AreDated w (times ++ at ∷ []) (record parting { kept = parting.kept && is_behind parting.since at }) (noted latest at) now (signings ++ signing_of w.zone.mode now (second_of at) w.life ∷ [])
answered w times parting latest now signings at h =
    let new : Given = record { moment = at; records = now } in
    let more : List Given = h.answers ++ new ∷ [] in
    record {
      since = h.since;
      answers = more;
      noted_are = all_joined (IsNoted (times ++ at ∷ []) (noted latest at)) h.answers (new ∷ [])
          (all_more (IsNoted times latest) (IsNoted (times ++ at ∷ []) (noted latest at)) h.answers (noted_later times at latest) h.noted_are)
          (record { among = has_right times (at ∷ []) at (inl refl); by = by_now latest at }, tt);
      given_are = all_joined (IsGiven w more) signings (signing w new ∷ [])
          (all_more (IsGiven w h.answers) (IsGiven w more) signings (given_more w h.answers new) h.given_are)
          (record { given = new; there = has_right h.answers (new ∷ []) new (inl refl); is = refl }, tt);
      apart = λ kept. let both = both_true parting.kept (is_behind parting.since at) kept in with_answer at h.since parting.since now h.answers both.1 (h.apart both.0);
    }

-- a replacement that does not come too soon is behind all answers
behind_noted : (latest : Option ℕ) (at second : ℕ) → is_too_soon latest at ≡ false → IsBy latest second → second < whole_second at
behind_noted None at second soon h = absurd h
behind_noted (Some l) at second soon h = grind (arith, nat_tests)

replaced_at : (w : World) (times : List ℕ) (parting : Parting) (latest : Option ℕ) (now rs : List HandedRr) (signings : List Signing) (at : ℕ) → is_too_soon latest at ≡ false → AreDated w times parting latest now signings
    → AreDated w (times ++ at ∷ []) (record parting { since = noted parting.since at }) latest rs signings
replaced_at w times parting latest now rs signings at soon h = record {
  since = whole_second at;
  answers = h.answers;
  noted_are = all_more (IsNoted times latest) (IsNoted (times ++ at ∷ []) latest) h.answers (noted_more times at latest) h.noted_are;
  given_are = h.given_are;
  apart = λ kept. let a = h.apart kept in record {
    since_is = since_now parting.since at;
    older = all_more (IsNoted times latest) (IsOlder rs (whole_second at)) h.answers (λ d is. inr (behind_noted latest at (whole_second d.moment) soon is.by)) h.noted_are;
    one = a.one;
  };
}

-- ---- each event

abbrev pub AreDatedSo : World → List ℕ → Parting → Versions → List Signing → Sofar → Type 0
AreDatedSo w times parting v signings s = AreDated w times parting s.latest v.now signings

same : (w : World) (times : List ℕ) (at : ℕ) (p : Parting) (v : Versions) (signings : List Signing) (s t : Sofar) → t.latest ≡ s.latest → AreDatedSo w times p v signings s → AreDatedSo w (times ++ at ∷ []) p v signings t
same w times at p v signings s t e h = subst (λ (l : Option ℕ). AreDated w (times ++ at ∷ []) p l v.now signings) (sym e) (passes w times at p s.latest v.now signings h)

latest_of : (s t : Sofar) → t ≡ s → t.latest ≡ s.latest
latest_of s t e = ap (λ (x : Sofar). x.latest) e

pub stepped : (w : World) (times : List ℕ) (p : Parting) (v : Versions) (signings : List Signing) (s t : Sofar) (at : ℕ) (a : Act) (o : Outcome) → AreDatedSo w times p v signings s → StepOf w s at a o t
    → AreDatedSo w (times ++ at ∷ []) (parting_with p at a o) (versions_with v a o) (signings_with signings w v.now at a o) t
stepped w times p v signings s t at (act.Key c) (outcome.Key (Ok acts)) known is = same w times at p v signings s t (ap (λ (x : Sofar). x.latest) is.1) known
stepped w times p v signings s t at (act.Key c) (outcome.Key (Err e)) known is = same w times at p v signings s t (ap (λ (x : Sofar). x.latest) is.1) known
stepped w times p v signings s t at (act.Key c) _ known is = absurd is
stepped w times p v signings s t at (act.Replace records) (outcome.Replaced (Ok u)) known is =
    let rs : List HandedRr = map handed_of records.items in
    subst (λ (l : Option ℕ). AreDated w (times ++ at ∷ []) (record p { since = noted p.since at }) l rs signings) (sym (ap (λ (x : Sofar). x.latest) is.3)) (replaced_at w times p s.latest v.now rs signings at is.0 known)
stepped w times p v signings s t at (act.Replace records) (outcome.Replaced (Err e)) known is = same w times at p v signings s t (latest_of s t is.1) known
stepped w times p v signings s t at (act.Replace records) _ known is = absurd is
stepped w times p v signings s t at act.ShowDs (outcome.Ds place set) known is = same w times at p v signings s t (ap (λ (x : Sofar). x.latest) is.2) known
stepped w times p v signings s t at act.ShowDs _ known is = absurd is
stepped w times p v signings s t at act.ShowCds (outcome.Cds set) known is = same w times at p v signings s t (latest_of s t is.1) known
stepped w times p v signings s t at act.ShowCds _ known is = absurd is
stepped w times p v signings s t at act.ShowCdnskey (outcome.Cdnskey set) known is = same w times at p v signings s t (latest_of s t is.1) known
stepped w times p v signings s t at act.ShowCdnskey _ known is = absurd is
stepped w times p v signings s t at act.ShowDnskey (outcome.Message place octets) known is = same w times at p v signings s t (ap (λ (x : Sofar). x.latest) is.2) known
stepped w times p v signings s t at act.ShowDnskey (outcome.Refused e) known is = same w times at p v signings s t (latest_of s t is.1) known
stepped w times p v signings s t at act.ShowDnskey _ known is = absurd is
stepped w times p v signings s t at (act.Ask q) (outcome.Message place octets) known is =
    subst (λ (l : Option ℕ). AreDated w (times ++ at ∷ []) (record p { kept = p.kept && is_behind p.since at }) l v.now (signings ++ signing_of w.zone.mode v.now (second_of at) w.life ∷ [])) (sym (ap (λ (x : Sofar). x.latest) is.4))
    (answered w times p s.latest v.now signings at known)
stepped w times p v signings s t at (act.Ask q) (outcome.Refused e) known is = same w times at p v signings s t (latest_of s t is.2) known
stepped w times p v signings s t at (act.Ask q) _ known is = absurd is
stepped w times p v signings s t at (act.Judge ds dnskey answer) o known is = same w times at p v signings s t (latest_of s t is.1) known
stepped w times p v signings s t at (act.JudgeBytes ds dnskey answer q) o known is = same w times at p v signings s t (latest_of s t is.2) known

-- at the beginning
pub none_dated : (w : World) (rs : List HandedRr) → AreDatedSo w [] no_parting (first_version rs) [] (begin w.zone)
none_dated w rs = record {
  since = 0;
  answers = [];
  noted_are = tt;
  given_are = tt;
  apart = λ kept. record { since_is = refl; older = tt; one = λ d e i j same. absurd i };
}

-- ---- one version at a moment

-- seconds that are the same modulo 2^32, and less than that apart
same_second : (a b : ℕ) → a % 4294967296 % 4294967296 ≡ b % 4294967296 % 4294967296 → a < b + 4294967296 → b < a + 4294967296 → a ≡ b
same_second a b e f g = omega arith

-- what begins in one second is of one version
abbrev pub OneBegins : List Signing → Type 0
OneBegins signings = (x z : Signing) → Contains signings x → Contains signings z → x.times.inception ≡ z.times.inception → x.version ≡ z.version

pub one_begins : (w : World) (y : Story) (latest : Option ℕ) (now : List HandedRr) (signings : List Signing) → AreDated w y.times y.parting latest now signings → AreTimely y → OneBegins signings
one_begins w y latest now signings h timely x z hx hz e =
    let d = all_at (IsGiven w h.answers) signings x h.given_are (has_contained signings x hx) in
    let f = all_at (IsGiven w h.answers) signings z h.given_are (has_contained signings z hz) in
    let i = all_at (IsNoted y.times latest) h.answers d.given h.noted_are d.there in
    let j = all_at (IsNoted y.times latest) h.answers f.given h.noted_are f.there in
    let md = contained_has y.times d.given.moment i.among in
    let mf = contained_has y.times f.given.moment j.among in
    let seconds : second_of d.given.moment % 4294967296 ≡ second_of f.given.moment % 4294967296 =
    sym (ap (λ (u : Signing). u.times.inception) d.is) ∙ e ∙ ap (λ (u : Signing). u.times.inception) f.is in
    let same : whole_second d.given.moment ≡ whole_second f.given.moment = same_second (whole_second d.given.moment) (whole_second f.given.moment) seconds
    (timely.near d.given.moment f.given.moment md mf) (timely.near f.given.moment d.given.moment mf md) in
    ap (λ (u : Signing). u.version) d.is
    ∙ ap (version_of w) ((h.apart timely.parted).one d.given f.given d.there f.there same)
    ∙ sym (ap (λ (u : Signing). u.version) f.is)

-- so of what was signed with versions of the run, what is of one moment is of one version
pub one_at_a_time : (signings signed : List Signing) → OneBegins signings → AllByRecursion (IsOfRun signings) signed → OneAtATime signed
one_at_a_time signings signed one of_run x z hx hz e =
    let d = all_at (IsOfRun signings) signed x of_run (has_contained signed x hx) in
    let f = all_at (IsOfRun signings) signed z of_run (has_contained signed z hz) in
    d.version_is ∙ one d.given f.given d.there f.there (sym d.began ∙ ap (λ (t : Times). t.inception) e ∙ f.began) ∙ sym f.version_is
