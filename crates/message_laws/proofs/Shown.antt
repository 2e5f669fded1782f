-- What a judge says of messages that show a zone's answer.
use Rattle.std.proofs.Common.{◌≡◌, ℕ, ◌<◌, Bool, true, false, not, ◌&&◌, List, [], ◌∷◌, length, Option, Some, None, Ok, refl, ap, ◌∙◌, ◌⊎◌, inl, inr, arith}
use Rattle.std.specs.Prelude.{IfSome, nat_eq, if◌then◌else◌}
use Rattle.std.proofs.lemmas.Bool.{ne_eqb, or_right}
use Rattle.definitions.specs.Dnskey.{Dnskey, Ds}
use Rattle.definitions.specs.Name.{Name, at_or_above, low}
use Rattle.definitions.specs.Zone.{Verdict, Zone, verdict}
use Rattle.definitions.specs.ZoneChain.{Mode, Nsec, Nsec3, optout_of}
use Rattle.definitions.proofs.ZoneNames.{low-low, same-length}
use Rattle.denial_laws.specs.Deciding.{decided}
use Rattle.denial_laws.specs.Facts.{Facts, Rrset}
use Rattle.denial_laws.specs.OwnFacts.{own_facts}
use Rattle.denial_laws.specs.Truth.{AreChain, AreTrue, IsServable, IsTrueHashLink, IsTrueRrset, NoSharedHash}
use Rattle.denial_laws.proofs.ChainSays.{chains_say_truly}
use Rattle.denial_laws.proofs.NameFacts.{names_same}
use Rattle.fact_laws.specs.Due.{due_facts}
use Rattle.fact_laws.proofs.DueFacts.{due_facts_decide}
use Rattle.fact_laws.proofs.MoreFacts.{more_facts_decide}
use Rattle.messages.specs.HandedRr.{HandedRr}
use Rattle.messages.specs.Message.{Asked, Message, message}
use Rattle.messages.proofs.Lists.{all_more}
use Rattle.answer_scheme.specs.Answers.{Answers}
use Rattle.answer_terms.specs.Accepting.{zone_of}
use Rattle.answer_terms.specs.Asking.{asks_alias, is_allowed}
use Rattle.answer_terms.specs.Hashing.{HaveHashes, hash_in}
use Rattle.answer_terms.proofs.AllowedTypes.{inside_apex}
use Rattle.answer_zone_records.specs.AliasFaults.{IsAcceptedWithAliases}
use Rattle.alias_laws.proofs.Orderly.{answers_decide, servable}
use Rattle.answer_judge.specs.Judged.{by_facts, facts_in, judged, judged_answer, judged_facts, judged_messages}
use Rattle.answer_judge.specs.Judging.{Answer, JudgeInput, Refuses, Says, is_judged, may_ask}
use Rattle.answer_judge.specs.declared.verdict.Refusal.TheVariants as r
use Rattle.answer_judge.proofs.GivenHashing.{AreHashedBy, ExpandsInside, SaysHashing, hashes_agree, none_fails, not_mixed, not_over}
use Rattle.message_laws.specs.Laws.{ShownIsSaid}
use Rattle.message_laws.specs.Shown.{AreOfChain, IsChainLink, IsTruthful, Shows, ShowsKeys, shown_facts, usable_of}
use Rattle.message_laws.proofs.JudgedAlike.{judged_low}
use Rattle.message_laws.proofs.Parts.{chained_by, first_of, judged_by, proved_by}

-- ---- facts of a chain

-- what is of the chain is true, and hashed as the chain is
pub chain_true : (z : Zone) (hash : Name → List ℕ) (mode : Mode) (f : Facts) → AreOfChain z hash mode f → AreChain z hash mode f
chain_true z hash Nsec f c = c
chain_true z hash (Nsec3 iterations salt optout) f c = (c.0, all_more (IsChainLink z hash iterations salt optout) (IsTrueHashLink z hash optout) f.hash_links (λ l h. h.0) c.1)

pub chain_hashed : (z : Zone) (hash : Name → List ℕ) (mode : Mode) (f : Facts) → AreOfChain z hash mode f → AreHashedBy mode f.hash_links
chain_hashed z hash Nsec f c = c.1
chain_hashed z hash (Nsec3 iterations salt optout) f c = all_more (IsChainLink z hash iterations salt optout) (SaysHashing iterations salt) f.hash_links (λ l h. (h.1, h.2)) c.1

-- a true RRset is expanded no further than from the apex
pub expands_inside : (z : Zone) (q : Name) (t : ℕ) (o : Option Rrset) → IfSome o (IsTrueRrset z q t) → IfSome o (ExpandsInside z.name q)
expands_inside z q t None h = tt
expands_inside z q t (Some x) h = λ wide.
    let far = h.inside wide in
    let even : length (low z.name) ≡ length z.name = same-length (low z.name) z.name (names_same (low z.name) z.name (low-low z.name)) in
    omega (arith, far, even)

-- a judgement says something, or that nothing is proven
abbrev pub SaysOrLacks : Answer → Type 0
SaysOrLacks answer = ((v : Verdict) × (answer ≡ Says v)) ⊎ (answer ≡ Refuses r.NotProven)

pub some_named : (ds : List Ds) → (ds ≡ [] → ⊥) → nat_eq (length ds) 0 ≡ false
some_named [] some = absurd (some refl)
some_named (d ∷ ds) some = ne_eqb (length (d ∷ ds)) 0 (λ e. omega (arith, e))

module _ (a : Answers) (k : ℕ) (h : JudgeInput) (mode : Mode) (rs : List HandedRr) (keys : ShowsKeys a k h.apex h.ds h.dnskey_bytes h.now) (read : Message) (reads : message k h.answer_bytes ≡ Ok read)
    (accepted : IsAcceptedWithAliases a.hash h.apex mode h.limit rs) where
  abbrev z : Zone
  z = zone_of h.apex rs

  abbrev hash : Name → List ℕ
  hash = hash_in a.hash mode

  abbrev pub usable : List Dnskey
  usable = usable_of keys

  pub zone_servable : IsServable z
  zone_servable = servable a.hash h.apex mode h.limit rs accepted

  -- ---- both messages

  -- they are judged for a question
  abbrev pub on : Asked → Bool → JudgeInput
  on q other = record h { asked = q; other_question = other }

  abbrev by_question : Asked → Bool → Bool → Bool → Bool → Bool → Answer
  by_question q other keyed may tags authentic = elim (if not (keyed && may) then Some r.QuestionMismatch else if tags then Some r.EqualTags else None) [
    | Some e ↦ Refuses e
    | None ↦ chained_by authentic (judged_answer a k (on q other) usable read)
  ]

  pub judged_there : (q : Asked) (other : Bool) → is_judged (on q other) ≡ true → may_ask (on q other) read.asked ≡ true → judged a k (on q other) ≡ judged_answer a k (on q other) usable read
  judged_there q other ready may =
      (λ i. judged_by (ready i) (some_named h.ds keys.ds_some i) (keys.reads i) (reads i) (first_of (on q other)) (judged_messages a k (on q other)))
      ∙ (λ i. by_question q other (keys.asks i) (may i) (keys.tags i) (keys.signed i))

  -- ---- what is verified is true

  module _ (q : Asked) (truthful : IsTruthful a k h usable read mode rs q) where
    abbrev f : Facts
    f = shown_facts a k h usable read q

    kind : AreHashedBy mode f.hash_links
    kind = chain_hashed z hash mode f truthful.chain

    pub are_true : NoSharedHash z hash mode q.name → AreTrue z hash mode q.name q.rtype f
    are_true apart = record { rrset = truthful.rrset; said = chains_say_truly z hash mode q.name f zone_servable apart (chain_true z hash mode f truthful.chain) }

    module _ (inside : at_or_above h.apex q.name ≡ true) (made : HaveHashes a.hash mode h.apex q.name) where
      by_decision : (other : Bool) → judged_answer a k (on q other) usable read ≡ by_facts (decided h.apex hash f q.name q.rtype)
      by_decision other =
          let g : Facts = facts_in a k (on q other) usable read in
          ap (λ b. if b then Refuses r.MixedVersions else judged_facts a (on q other) g) truthful.moment
          ∙ judged_low a (on q other) g
          ∙ (λ i. proved_by false (not_mixed mode f.hash_links kind i) (not_over mode h.limit f.hash_links accepted.faultless.within_limit kind i)
          (none_fails a.hash mode h.apex f.rrset f.links f.hash_links q.name kind made inside (expands_inside z q.name q.rtype f.rrset truthful.rrset) i)
          (hashes_agree a.hash mode h.apex f.rrset f.links f.hash_links q.name q.rtype kind i))

      pub says_or_lacks : (other : Bool) → SaysOrLacks (judged_answer a k (on q other) usable read)
      says_or_lacks other = go (decided h.apex hash f q.name q.rtype) (by_decision other)
        where
          go : (o : Option Verdict) → judged_answer a k (on q other) usable read ≡ by_facts o → SaysOrLacks (judged_answer a k (on q other) usable read)
          go None is = inr is
          go (Some v) is = inl (v, is)

      pub says_decided : (other : Bool) (v : Verdict) → decided h.apex hash f q.name q.rtype ≡ Some v → judged_answer a k (on q other) usable read ≡ Says v
      says_decided other v is = by_decision other ∙ ap by_facts is

  -- what is due of the zone's own answer is among it
  pub shown_decide : (q : Asked) → Shows a k h usable read mode rs q → NoSharedHash z hash mode q.name → q.rtype < 65536
      → decided h.apex hash (own_facts z hash mode q.name q.rtype) q.name q.rtype ≡ Some (verdict z (optout_of mode) q.name q.rtype)
      → decided h.apex hash (shown_facts a k h usable read q) q.name q.rtype ≡ Some (verdict z (optout_of mode) q.name q.rtype)
  shown_decide q shows apart small is =
      more_facts_decide z hash mode (due_facts z hash mode q.name q.rtype) (shown_facts a k h usable read q) q.name q.rtype (verdict z (optout_of mode) q.name q.rtype) zone_servable small (are_true q shows.truthful apart) shows.includes
      (due_facts_decide z hash mode q.name q.rtype zone_servable apart small is)

pub shown_is_said : ShownIsSaid
shown_is_said a k h mode rs keys read reads asks accepted asked_is allowed hashes plain shows =
    let hash : Name → List ℕ = hash_in a.hash mode in
    let said : Verdict = verdict (zone_of h.apex rs) (optout_of mode) h.asked.name h.asked.rtype in
    judged_there a k h mode rs keys read reads accepted h.asked h.other_question (or_right (h.other_question && asks_alias h.apex h.asked) (is_allowed h.apex h.asked) allowed) asks
    ∙ says_decided a k h mode rs keys read reads accepted h.asked shows.truthful (inside_apex h.apex h.asked allowed) hashes.made h.other_question said
    (shown_decide a k h mode rs keys read reads accepted h.asked shows hashes.apart asked_is.rtype
    (answers_decide a.hash h.apex mode h.limit rs hash h.asked accepted allowed asked_is.rtype hashes.apart plain))
