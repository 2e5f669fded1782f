-- What is verified of an answer decides, whatever memory is left.
use Rattle.std.proofs.Common.{◌≡◌, ◌<◌, ◌≤◌, ◌+◌, ℕ, Bool, true, false, not, ◌&&◌, ◌||◌, List, length, inl, inr, ⊎_elim, refl, sym, ap, subst, ◌∙◌, arith}
use Rattle.std.specs.Prelude.{◌⊎◌, Option, Some, None, nat_eq, if◌then◌else◌}
use Rattle.std.proofs.lemmas.Bool.{false≢true}
use Rattle.definitions.specs.Dnskey.{Ds}
use Rattle.definitions.specs.Limits.{pointer_limit}
use Rattle.definitions.specs.Zone.{Verdict}
use Rattle.denial_laws.specs.Deciding.{hashed}
use Rattle.denial_laws.specs.Facts.{Facts}
use Rattle.denial_laws.proofs.FewHashes.{few_hashes}
use Rattle.answer_scheme.specs.Answers.{Answers, EachAgreeing, SignatureTest}
use Rattle.answer_judge_rules.specs.Hashes.{fails_among, hash_among, up_to}
use Rattle.answer_judge_rules.proofs.InTurn.{no_more}
use Rattle.answer_judge.specs.Due.{hashes_of_facts, hashes_of_proof}
use Rattle.answer_judge.specs.Judged.{are_mixed, are_over, by_facts, decided_by, is_unhashed, judged_facts, judged_proof}
use Rattle.answer_judge.specs.Judging.{Answer, AnswersFirst, JudgeInput, Judges, Refuses, Says, first_refusal, hash_bound, is_judged, message_refusal, verification_bound}
use Rattle.answer_judge.specs.declared.verdict.Refusal.{Refusal}
use Rattle.answer_judge.specs.declared.verdict.Refusal.TheVariants as r
use Rattle.answer_judge.specs.Decided.{HashesDecided, HashesDecidedBeyond, IsDecidedBeyond, is_out_of_memory}
use Rattle.answer_judge.proofs.JudgedWholly.{each_wholly}

-- ---- an answer of verified facts

-- it is no refusal for want of memory
enough_unless : (b : Bool) (e : Refusal) (x : Answer) → is_out_of_memory (Refuses e) ≡ false → is_out_of_memory x ≡ false → is_out_of_memory (if b then Refuses e else x) ≡ false
enough_unless true e x h k = h
enough_unless false e x h k = k

enough_by : (o : Option Verdict) → is_out_of_memory (by_facts o) ≡ false
enough_by None = refl
enough_by (Some v) = refl

enough_facts : (a : Answers) (h : JudgeInput) (f : Facts) → is_out_of_memory (judged_facts a h f) ≡ false
enough_facts a h f =
    enough_unless (are_mixed f.hash_links) r.MixedNsec3Parameters _ refl
    (enough_unless (are_over h.limit f.hash_links) r.IterationsOverLimit _ refl
    (enough_unless (is_unhashed a h f) r.HashFailed _ refl (enough_by (decided_by a h f))))

pub enough : (a : Answers) (h : JudgeInput) (f : Facts) (unlike : Bool) → is_out_of_memory (judged_proof a h f unlike) ≡ false
enough a h f unlike = enough_unless (h.one_moment && unlike) r.MixedVersions (judged_facts a h f) refl (enough_facts a h f)

-- nor one of the first refusals
last_unless : (b : Bool) (e : Refusal) (x : Answer) → AnswersFirst (Refuses e) None → AnswersFirst x None → AnswersFirst (if b then Refuses e else x) None
last_unless true e x h k = h
last_unless false e x h k = k

last_by : (o : Option Verdict) → AnswersFirst (by_facts o) None
last_by None = refl
last_by (Some v) = refl

last_facts : (a : Answers) (h : JudgeInput) (f : Facts) → AnswersFirst (judged_facts a h f) None
last_facts a h f =
    last_unless (are_mixed f.hash_links) r.MixedNsec3Parameters _ refl
    (last_unless (are_over h.limit f.hash_links) r.IterationsOverLimit _ refl
    (last_unless (is_unhashed a h f) r.HashFailed _ refl (last_by (decided_by a h f))))

pub last : (a : Answers) (h : JudgeInput) (f : Facts) (unlike : Bool) → AnswersFirst (judged_proof a h f unlike) None
last a h f unlike = last_unless (h.one_moment && unlike) r.MixedVersions (judged_facts a h f) refl (last_facts a h f)

-- few names are hashed for it
few_unless : (b : Bool) (n m : ℕ) → n ≤ m → (if b then 0 else n) ≤ m
few_unless true n m h = omega arith
few_unless false n m h = h

few_facts : (a : Answers) (h : JudgeInput) (f : Facts) → hashes_of_facts a h f ≤ hash_bound h
few_facts a h f =
    let fails = fails_among a.hash f.hash_links in
    let names = hashed h.apex (hash_among a.hash f.hash_links) f h.asked.name in
    let fewer : length (up_to fails names) ≤ length names = no_more fails names in
    let least : length names ≤ length h.asked.name + 2 = (few_hashes h.apex (hash_among a.hash f.hash_links) f h.asked.name).few in
    let most : length (up_to fails names) ≤ length h.asked.name + 2 = omega (arith, fewer, least) in
    few_unless (are_mixed f.hash_links || are_over h.limit f.hash_links) (length (up_to fails names)) (hash_bound h) most

pub few : (a : Answers) (h : JudgeInput) (f : Facts) (unlike : Bool) → hashes_of_proof a h f unlike ≤ hash_bound h
few a h f unlike = few_unless (h.one_moment && unlike) (hashes_of_facts a h f) (hash_bound h) (few_facts a h f)

-- ---- of the case

-- beside a question that is judged, a DS set that isn't empty, and messages that bring no refusal
none_first : (h : JudgeInput) → is_judged h ≡ true → nat_eq (length h.ds) 0 ≡ false → message_refusal pointer_limit h ≡ None → first_refusal pointer_limit h ≡ None
none_first h allowed some none = (λ i. if not (allowed i) then Some r.QuestionNotAllowed else if some i then None else message_refusal pointer_limit h) ∙ none

keeps : (h : JudgeInput) (answer : Answer) (verifications hashes : ℕ) → is_judged h ≡ true → nat_eq (length h.ds) 0 ≡ false → message_refusal pointer_limit h ≡ None → AnswersFirst answer None → verifications ≤ verification_bound pointer_limit h → hashes ≤ hash_bound h
    → Judges pointer_limit h answer verifications hashes
keeps h answer verifications hashes allowed some none last verified few = record {
  first = subst (AnswersFirst answer) (sym (none_first h allowed some none)) last;
  empty = λ judged empty. absurd (false≢true (sym some ∙ ap (λ (ds : List Ds). nat_eq (length ds) 0) empty));
  verifications_bound = verified;
  hashes_bound = few;
}

-- what is decided of both messages is decided of the case
pub case_decided : (own was : Answers) (agrees later : SignatureTest → Type 0) (h : JudgeInput) (verifications hashes : ℕ) → h.limit < 65536 → was ≡ own → is_judged h ≡ true → nat_eq (length h.ds) 0 ≡ false
    → verifications ≤ verification_bound pointer_limit h → ((test : SignatureTest) → later test → agrees test) → HashesDecidedBeyond was agrees h verifications hashes
    → HashesDecided own later pointer_limit h verifications hashes
case_decided own was agrees later h verifications hashes short same allowed some verified before (inl none) = inl none
case_decided own was agrees later h verifications hashes short same allowed some verified before (inr is) = inr (record {
  answer = is.answer;
  hashes = is.hashes;
  in_memory = is.in_memory;
  made = λ test fits.
      each_wholly own was agrees h is.answer verifications is.hashes short same allowed some
      (keeps h is.answer verifications is.hashes allowed some is.none is.last verified is.few) is.says test
      (⊎_elim (λ e. inl e) (λ f. inr (before test f)) fits);
})
