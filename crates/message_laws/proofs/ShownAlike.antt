-- Messages in which alike is proved show alike.
use Rattle.std.proofs.Common.{◌≡◌, ℕ, true, false, ◌&&◌, List, filter, Some, Result, Ok, refl, sym, ap, subst, ◌∙◌, ◌⊎◌, inl, inr}
use Rattle.std.specs.Prelude.{◌==◌, IfSome}
use Rattle.std.proofs.lemmas.Bool.{eq-eqb, false≢true}
use Rattle.definitions.specs.Dnskey.{Dnskey}
use Rattle.definitions.specs.Name.{Name}
use Rattle.definitions.specs.ZoneChain.{Mode}
use Rattle.denial_laws.specs.Facts.{Facts}
use Rattle.denial_laws.specs.Truth.{IsTrueRrset}
use Rattle.fact_laws.specs.Due.{due_facts}
use Rattle.fact_laws.specs.Laws.{Includes}
use Rattle.messages.specs.HandedRr.{HandedRr}
use Rattle.messages.specs.Message.{Asked, Message, message}
use Rattle.answer_scheme.specs.Answers.{Answers}
use Rattle.answer_terms.specs.Accepting.{zone_of}
use Rattle.answer_terms.specs.Asking.{is_allowed}
use Rattle.answer_terms.specs.EqualTags.{has_equal_tags}
use Rattle.answer_terms.specs.FactsCase.{low_facts}
use Rattle.answer_terms.specs.Hashing.{hash_in}
use Rattle.answer_judge_facts.specs.DnskeyAnswer.{keys_in}
use Rattle.answer_judge_facts.specs.Times.{Times, are_unlike, proof_times}
use Rattle.answer_judge_facts.specs.Trusted.{is_usable}
use Rattle.answer_judge_facts.specs.Verified.{verified_facts}
use Rattle.answer_judge.specs.Judged.{ds_authenticates_keys, trusting}
use Rattle.answer_judge.specs.Judging.{JudgeInput, same_question}
use Rattle.answer_findings.specs.Judgements.{alias_hint, asking}
use Rattle.message_laws.specs.InPlace.{in_place}
use Rattle.message_laws.specs.Laws.{AlikeShowsAlike}
use Rattle.message_laws.specs.SeenAlike.{SeenAlike, VerifiesAlike}
use Rattle.message_laws.specs.Shown.{AreOfChain, IsTruthful, Shows, ShowsAlias, ShowsItself, ShowsKeys, shown_facts, usable_of}
use Rattle.message_laws.proofs.JudgedAlike.{keys_asked, keys_chained, same_keys}
use Rattle.message_laws.proofs.ShownLeads.{hint_cases}
use Rattle.message_laws.proofs.ShownPlace.{no_alias_type}

ok_is : {A E : Type 0} (x y : A) (o : Result A E) → o ≡ Ok x → o ≡ Ok y → x ≡ y
ok_is x y o e f = let h = sym e ∙ f in cc

module _ (a : Answers) (k : ℕ) (h : JudgeInput) (x y m n : List ℕ) (mode : Mode) (rs : List HandedRr) (usable : List Dnskey) where
  module _ (asked : Asked) (one other : Message) (facts : shown_facts a k (record h { dnskey_bytes = x; answer_bytes = m }) usable one asked ≡ shown_facts a k (record h { dnskey_bytes = y; answer_bytes = n }) usable other asked)
      (times : proof_times (trusting a h usable) k m one.records asked.name asked.rtype ≡ proof_times (trusting a h usable) k n other.records asked.name asked.rtype) where
    truthful_alike : IsTruthful a k (record h { dnskey_bytes = y; answer_bytes = n }) usable other mode rs asked → IsTruthful a k (record h { dnskey_bytes = x; answer_bytes = m }) usable one mode rs asked
    truthful_alike t = record {
      rrset = subst (λ (z : Facts). IfSome z.rrset (IsTrueRrset (zone_of h.apex rs) asked.name asked.rtype)) (sym facts) t.rrset;
      chain = subst (AreOfChain (zone_of h.apex rs) (hash_in a.hash mode) mode) (sym facts) t.chain;
      moment = ap (λ (ts : List Times). h.one_moment && are_unlike ts) times ∙ t.moment;
    }

    shows_alike : Shows a k (record h { dnskey_bytes = y; answer_bytes = n }) usable other mode rs asked → Shows a k (record h { dnskey_bytes = x; answer_bytes = m }) usable one mode rs asked
    shows_alike s = record {
      truthful = truthful_alike s.truthful;
      includes = subst (λ (z : Facts). Includes z (due_facts (zone_of h.apex rs) (hash_in a.hash mode) mode asked.name asked.rtype)) (sym facts) s.includes;
    }

-- what is proved alike of types is so of these messages
module _ (a : Answers) (k : ℕ) (h : JudgeInput) (x y m n : List ℕ) (mode : Mode) (rs : List HandedRr) (usable : List Dnskey) (alike : (t : ℕ) → (t == 41) ≡ false → VerifiesAlike k t m n) (allowed : is_allowed h.apex h.asked ≡ true)
    (one other : Message) (reads_one : message k m ≡ Ok one) (reads_other : message k n ≡ Ok other) where
  facts_of : (asked : Asked) → (asked.rtype == 41) ≡ false → shown_facts a k (record h { dnskey_bytes = x; answer_bytes = m }) usable one asked ≡ shown_facts a k (record h { dnskey_bytes = y; answer_bytes = n }) usable other asked
  facts_of asked e =
      let p = alike asked.rtype e in
      (λ i. low_facts (verified_facts (trusting a h usable) k m (ok_is one p.one (message k m) reads_one p.reads_one i).records asked.name asked.rtype))
      ∙ p.facts (trusting a h usable) asked.name
      ∙ (λ i. low_facts (verified_facts (trusting a h usable) k n (ok_is p.other other (message k n) p.reads_other reads_other i).records asked.name asked.rtype))

  times_there : (asked : Asked) → (asked.rtype == 41) ≡ false → proof_times (trusting a h usable) k m one.records asked.name asked.rtype ≡ proof_times (trusting a h usable) k n other.records asked.name asked.rtype
  times_there asked e =
      let p = alike asked.rtype e in
      (λ i. proof_times (trusting a h usable) k m (ok_is one p.one (message k m) reads_one p.reads_one i).records asked.name asked.rtype)
      ∙ p.times (trusting a h usable) asked.name
      ∙ (λ i. proof_times (trusting a h usable) k n (ok_is p.other other (message k n) p.reads_other reads_other i).records asked.name asked.rtype)

  truthful_of : (asked : Asked) → (asked.rtype == 41) ≡ false → IsTruthful a k (record h { dnskey_bytes = y; answer_bytes = n }) usable other mode rs asked → IsTruthful a k (record h { dnskey_bytes = x; answer_bytes = m }) usable one mode rs asked
  truthful_of asked e = truthful_alike a k h x y m n mode rs usable asked one other (facts_of asked e) (times_there asked e)

  shows_of : (asked : Asked) → (asked.rtype == 41) ≡ false → Shows a k (record h { dnskey_bytes = y; answer_bytes = n }) usable other mode rs asked → Shows a k (record h { dnskey_bytes = x; answer_bytes = m }) usable one mode rs asked
  shows_of asked e = shows_alike a k h x y m n mode rs usable asked one other (facts_of asked e) (times_there asked e)

  plain : (h.asked.rtype == 41) ≡ false
  plain = (no_alias_type h.apex h.asked allowed).2

  itself_alike : ShowsItself a k (record h { dnskey_bytes = y; answer_bytes = n }) usable other mode rs → ShowsItself a k (record h { dnskey_bytes = x; answer_bytes = m }) usable one mode rs
  itself_alike s = record {
    answered = s.answered;
    shows = shows_of h.asked plain s.shows;
    beside = λ for_ds none below. truthful_of (asking h h.asked.name 2) refl (s.beside for_ds none below);
  }

  -- what one suggests where the other suggests it
  abbrev Hints : Type 0
  Hints = (q : Asked) → alias_hint k (record h { dnskey_bytes = y; answer_bytes = n }) ≡ Some q → alias_hint k (record h { dnskey_bytes = x; answer_bytes = m }) ≡ Some q

  -- a question that is answered itself suggests no alias
  hints_there : (in_place (zone_of h.apex rs) h.asked ≡ h.asked) ⊎ Hints → ShowsAlias a k (record h { dnskey_bytes = y; answer_bytes = n }) usable other mode rs → Hints
  hints_there (inr hints) s = hints
  hints_there (inl same) s = absurd (wrong (hint_cases k (record h { dnskey_bytes = y; answer_bytes = n }) s.question s.hinted))
    where
      rtype_is : s.question.rtype ≡ h.asked.rtype
      rtype_is = s.rtype_is ∙ ap (λ (q : Asked). q.rtype) same

      wrong : ((owner : Name) × (s.question ≡ asking h owner 39)) ⊎ (s.question ≡ asking h h.asked.name 5) → ⊥
      wrong (inl (owner, is)) = false≢true (sym (no_alias_type h.apex h.asked allowed).1 ∙ eq-eqb h.asked.rtype 39 (sym rtype_is ∙ ap (λ (q : Asked). q.rtype) is))
      wrong (inr is) = false≢true (sym (no_alias_type h.apex h.asked allowed).0 ∙ eq-eqb h.asked.rtype 5 (sym rtype_is ∙ ap (λ (q : Asked). q.rtype) is))

  alias_alike : Hints → ShowsAlias a k (record h { dnskey_bytes = y; answer_bytes = n }) usable other mode rs → ShowsAlias a k (record h { dnskey_bytes = x; answer_bytes = m }) usable one mode rs
  alias_alike hints s = record {
    question = s.question;
    hinted = hints s.question s.hinted;
    name_is = s.name_is;
    rtype_is = s.rtype_is;
    leads = s.leads;
    hashes = s.hashes;
    shows = shows_of s.question (of_alias (hint_cases k (record h { dnskey_bytes = y; answer_bytes = n }) s.question s.hinted)) s.shows;
    itself = truthful_of h.asked plain s.itself;
  }
    where
      of_alias : ((owner : Name) × (s.question ≡ asking h owner 39)) ⊎ (s.question ≡ asking h h.asked.name 5) → (s.question.rtype == 41) ≡ false
      of_alias (inl (owner, same)) = ap (λ (q : Asked). q.rtype == 41) same
      of_alias (inr same) = ap (λ (q : Asked). q.rtype == 41) same

-- ---- keys

module _ (a : Answers) (k : ℕ) (h : JudgeInput) (m n : List ℕ) (seen : SeenAlike k 48 m n) (keys : ShowsKeys a k h.apex h.ds n h.now) where
  same_read : seen.other ≡ keys.read
  same_read = ok_is seen.other keys.read (message k n) seen.reads_other keys.reads

  keys_are : keys_in m h.apex seen.one.records ≡ keys_in n h.apex keys.read.records
  keys_are = same_keys a k h m n seen ∙ ap (λ (y : Message). keys_in n h.apex y.records) same_read

  abbrev keys_seen : ShowsKeys a k h.apex h.ds m h.now
  keys_seen = record {
    read = seen.one;
    reads = seen.reads_one;
    asks = keys_asked a k h m n seen ∙ ap (λ (x : Message). same_question x.asked (record { name = h.apex; rtype = 48; class = 1 })) same_read ∙ keys.asks;
    ds_some = keys.ds_some;
    tags = ap has_equal_tags keys_are ∙ keys.tags;
    signed = keys_chained a k h m n seen ∙ ap (ds_authenticates_keys a k (record h { dnskey_bytes = n })) same_read ∙ keys.signed;
  }

  usable_same : usable_of keys_seen ≡ usable_of keys
  usable_same = ap (filter is_usable) keys_are

-- ---- both

pub alike_shows_alike : AlikeShowsAlike
alike_shows_alike a k h mode rs key_octets key_m octets m seen alike hints shown =
    let p = alike h.asked.rtype (no_alias_type h.apex h.asked shown.allowed).2 in
    let there = keys_seen a k h key_octets key_m seen shown.keys in
    let usable : List Dnskey = usable_of shown.keys in
    let same : usable_of there ≡ usable = usable_same a k h key_octets key_m seen shown.keys in
    record {
      keys = there;
      read = p.one;
      reads = p.reads_one;
      accepted = shown.accepted;
      asked_is = shown.asked_is;
      allowed = shown.allowed;
      hashes = shown.hashes;
      shown = elim shown.shown [
        | inl itself ↦ inl (subst (λ (ks : List Dnskey). ShowsItself a k (record h { dnskey_bytes = key_octets; answer_bytes = octets }) ks p.one mode rs) (sym same)
            (itself_alike a k h key_octets key_m octets m mode rs usable alike shown.allowed p.one shown.read p.reads_one shown.reads itself))
        | inr alias ↦ inr (subst (λ (ks : List Dnskey). ShowsAlias a k (record h { dnskey_bytes = key_octets; answer_bytes = octets }) ks p.one mode rs) (sym same)
            (alias_alike a k h key_octets key_m octets m mode rs usable alike shown.allowed p.one shown.read p.reads_one shown.reads
            (hints_there a k h key_octets key_m octets m mode rs usable alike shown.allowed p.one shown.read p.reads_one shown.reads hints alias) alias))
      ];
    }
