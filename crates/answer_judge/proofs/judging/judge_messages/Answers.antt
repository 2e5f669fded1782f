use Rattle.std.proofs.Common.{◌≡◌, ℕ, List, false, map, [], ◌+◌, inl, inr, ⊎_elim, refl, sym, ap, subst, ◌∙◌, arith}
use Rattle.std.specs.Prelude.{IfErr, Some}
use Rattle.std.proofs.lemmas.Result.{err_from_is_err_and}
use Rattle.definitions.specs.Dnskey.{Dnskey}
use Rattle.definitions.specs.Limits.{pointer_limit}
use Rattle.messages.specs.Message.{Message, Spelled}
use Rattle.messages.specs.Record.{spelled}
use Rattle.messages.proofs.CountedRecords.{same_count}
use Rattle.answer_judge.specs.Beyond.{SaysBeyond}
use Rattle.answer_judge.specs.Stages.{FindsUnsigned}
use Rattle.answer_scheme.specs.Answers.{Answers, with_test}
use Rattle.answer_judge_facts.specs.Counted.{tries}
use Rattle.answer_judge.specs.Due.{hashes_beyond, hashes_of_proof}
use Rattle.answer_judge.specs.Judged.{AnswersAs, ds_authenticates_keys, judged_beyond, judged_proof, said, trusting}
use Rattle.answer_judge.specs.Judging.{JudgeInput, IsRead, Refuses, RefusesFirst, message_refusal}
use Rattle.answer_judge_facts.specs.DnskeyAnswer.{keys_in}
use Rattle.answer_judge_facts.specs.Validity.{answer_validity}
use Rattle.answer_judge_facts.specs.Sought.{answer_sought}
use Rattle.answer_judge_facts.specs.Times.{are_unlike, proof_times}
use Rattle.answer_judge_facts.specs.Verified.{verified_facts}
use Rattle.answer_judge_facts.specs.declared.validity.Validity.{Validity}
use Rattle.answer_judge.specs.declared.verdict.Refusal.{Refusal}
use Rattle.answer_judge_facts.proofs.JudgeAsked.{agreed, agreed_by}
use Rattle.answer_judge.proofs.Decided.{enough, few, last}
use Rattle.answer_judge.proofs.JudgeAsks.{answer_pass, keys_pass}
use Rattle.answer_judge.proofs.JudgeHashes.{counts_as, facts_hashed, none_hashed}
use Rattle.answer_judge.proofs.JudgeLasts.{lasts_as, on_ok}
use Rattle.answer_judge.proofs.JudgeTotals.{key_tries_as, keys_alone, keys_and_answer}
use Rattle.answer_judge.proofs.JudgeWhole.{BothRead, beyond, both_read, chained_as, decided_as, untrusted, usable_as}
use Rattle.answer_judge.proofs.judging.judge_messages.Goals as goal

pub read_proof-requires-clause-room : goal.read_proof-requires-clause-room
read_proof-requires-clause-room g c = omega (
  arith,
  c.requires.counts,
  c.in_ok-messages.ensures.few,
  c.keys_that_may_sign.ensures.few,
  same_count c.in_ok-messages.messages.key_records.items c.in_ok-messages.messages.keys.records c.in_ok-messages.ensures.key_records,
  same_count c.in_ok-messages.messages.answer_records.items c.in_ok-messages.messages.answer.records c.in_ok-messages.ensures.answer_records,
)

-- what is said where the keys aren't signed: their signatures alone were tried, and no name was hashed
module _ (a : Answers) (h : JudgeInput) (keys answer : Message) (rs : List Spelled) (ks : List Dnskey) (count hashes : ℕ) (both : BothRead h keys answer rs ks) (zero : hashes ≡ 0) where
  unsigned_says : (r : Refusal) → FindsUnsigned a pointer_limit h rs ks count r → SaysBeyond a pointer_limit h (Refuses r) count hashes
  unsigned_says r found = ⊎_elim
      (λ m. let lost = ap Refuses m in (inl lost, inl lost, inl lost))
      (λ u.
      let chain : false ≡ ds_authenticates_keys a pointer_limit h keys = sym u.1 ∙ chained_as a h keys rs ks both.records_are both.keys_are in (
        subst (λ x. AnswersAs (Refuses x) (judged_beyond a pointer_limit h)) (sym u.0) (untrusted a h keys answer (beyond a pointer_limit h keys answer both.dnskey both.zone both.none) chain),
        inr (keys_alone a h keys answer count both.none both.dnskey both.zone chain (u.2 ∙ key_tries_as a h keys rs ks both.records_are both.keys_are)),
        inr (zero ∙ sym (none_hashed a h keys answer both.none both.dnskey both.zone chain)),
      ))
      found

  unsigned_refuses : (r : Refusal) → FindsUnsigned a pointer_limit h rs ks count r → RefusesFirst r (message_refusal pointer_limit h)
  unsigned_refuses r found = ⊎_elim
      (λ m. subst (λ x. RefusesFirst x (message_refusal pointer_limit h)) (sym m) (subst IsRead (sym both.none) tt))
      (λ u. subst (λ x. RefusesFirst x (message_refusal pointer_limit h)) (sym u.0) both.none)
      found

pub returns-in_err-usable-clause-says : goal.returns-in_err-usable-clause-says
returns-in_err-usable-clause-says g c = λ test fits.
    let a = with_test (g.C.Checks.answers c.args.check_run.now.checks.now) test in
    let h : JudgeInput = c.args.case.now in
    let reads = c.in_ok-messages.ensures in
    let keys = c.in_ok-messages.messages.keys in
    let answer = c.in_ok-messages.messages.answer in
    let rs = map spelled c.deref-2.result.now in
    let ks = c.in_ok-keys.keys.items in
    let whole = ap (map spelled) c.deref-2.ensures.value ∙ reads.key_records in
    let are = c.in_ok-keys.ensures.keys ∙ ap (λ vs. keys_in h.dnskey_bytes h.apex (map spelled vs)) (c.deref.ensures.value ∙ sym c.deref-2.ensures.value) in
    let both : BothRead h keys answer rs ks = both_read h keys answer rs ks reads.keys reads.answer reads.asks_keys reads.asks_answer whole are c.in_ok-keys.ensures.unlike in
    let count = c.keys_that_may_sign.new.check_run.count in
    let from = err_from_is_err_and c.from_residual-in_err-usable.result c.from_residual-in_err-usable.ensures.1 in
    let found = subst (FindsUnsigned a pointer_limit h rs ks count) (sym from.2) (c.in_err-usable.ensures.unsigned test fits) in
    subst (λ r. SaysBeyond a pointer_limit h (said r) count c.args.hashes.now) (sym from.1)
    (unsigned_says a h keys answer rs ks count c.args.hashes.now both c.requires.none_hashed from.0 found)

pub returns-in_err-usable-clause-refusal : goal.returns-in_err-usable-clause-refusal
returns-in_err-usable-clause-refusal g c =
    let own = g.C.Checks.answers c.args.check_run.now.checks.now in
    let a = with_test own own.verifies in
    let h : JudgeInput = c.args.case.now in
    let reads = c.in_ok-messages.ensures in
    let keys = c.in_ok-messages.messages.keys in
    let answer = c.in_ok-messages.messages.answer in
    let rs = map spelled c.deref-2.result.now in
    let ks = c.in_ok-keys.keys.items in
    let whole = ap (map spelled) c.deref-2.ensures.value ∙ reads.key_records in
    let are = c.in_ok-keys.ensures.keys ∙ ap (λ vs. keys_in h.dnskey_bytes h.apex (map spelled vs)) (c.deref.ensures.value ∙ sym c.deref-2.ensures.value) in
    let both : BothRead h keys answer rs ks = both_read h keys answer rs ks reads.keys reads.answer reads.asks_keys reads.asks_answer whole are c.in_ok-keys.ensures.unlike in
    let count = c.keys_that_may_sign.new.check_run.count in
    let from = err_from_is_err_and c.from_residual-in_err-usable.result c.from_residual-in_err-usable.ensures.1 in
    let found = subst (FindsUnsigned a pointer_limit h rs ks count) (sym from.2) (c.in_err-usable.ensures.unsigned own.verifies (inl refl)) in
    subst (λ r. IfErr r (λ e. RefusesFirst e (message_refusal pointer_limit h))) (sym from.1)
    (unsigned_refuses a h keys answer rs ks count c.args.hashes.now both c.requires.none_hashed from.0 found)

-- they are: what verifies of the answer decides
pub returns-clause-says : goal.returns-clause-says
returns-clause-says g c = λ test fits.
    let own = g.C.Checks.answers c.args.check_run.now.checks.now in
    let a = with_test own test in
    let h : JudgeInput = c.args.case.now in
    let reads = c.in_ok-messages.ensures in
    let keys = c.in_ok-messages.messages.keys in
    let answer = c.in_ok-messages.messages.answer in
    let rs = map spelled c.deref-2.result.now in
    let ks = c.in_ok-keys.keys.items in
    let whole = ap (map spelled) c.deref-2.ensures.value ∙ reads.key_records in
    let are = c.in_ok-keys.ensures.keys ∙ ap (λ vs. keys_in h.dnskey_bytes h.apex (map spelled vs)) (c.deref.ensures.value ∙ sym c.deref-2.ensures.value) in
    let both : BothRead h keys answer rs ks = both_read h keys answer rs ks reads.keys reads.answer reads.asks_keys reads.asks_answer whole are c.in_ok-keys.ensures.unlike in
    let at_proof = agreed own.verifies test _ _ (c.judge_proof.ensures.none.0 test) fits in
    let at_keys = agreed own.verifies test _ _ (c.in_ok-proof.ensures.agrees test) at_proof in
    let found = c.in_ok-usable.ensures.signed test at_keys in
    let chain = sym found.0 ∙ chained_as a h keys rs ks both.records_are both.keys_are in
    let first = found.1 ∙ key_tries_as a h keys rs ks both.records_are both.keys_are in
    let held = c.deref-4.result.now in
    let usable = c.deref-4.ensures.value ∙ usable_as h keys rs ks c.in_ok-usable.usable.items both.records_are both.keys_are c.in_ok-usable.ensures.usable in
    let read_rs = map spelled c.deref-3.result.now in
    let all_read = ap (map spelled) c.deref-3.ensures.value ∙ reads.answer_records in
    let later_own = c.in_ok-usable.ensures.same in
    let later = ap (λ x. with_test x test) later_own in
    let second = agreed_by own _ test _ later_own at_proof in
    let facts = c.in_ok-proof.proof.facts in
    let unlike_times = c.in_ok-proof.proof.has_unlike_times in
    let proved = c.in_ok-proof.ensures.proves test second in
    let read = proved.0 ∙ ap (λ x. verified_facts (trusting x h held) pointer_limit h.answer_bytes read_rs h.asked.name h.asked.rtype) later in
    let timed = proved.1 ∙ ap (λ x. are_unlike (proof_times (trusting x h held) pointer_limit h.answer_bytes read_rs h.asked.name h.asked.rtype)) later in
    let sought = answer_sought pointer_limit h.answer_bytes h.apex read_rs h.asked.name h.asked.rtype in
    let more = proved.2 ∙ ap (λ x. c.keys_that_may_sign.new.check_run.count + tries (trusting x h held) pointer_limit h.answer_bytes sought [] read_rs) later in
    let all = decided_as a h keys answer held read_rs facts unlike_times (beyond a pointer_limit h keys answer both.dnskey both.zone both.none) chain usable all_read read timed in
    let due = facts_hashed a h keys answer held read_rs facts unlike_times both.none both.dnskey both.zone chain usable all_read read timed in
    let last = c.in_ok-proof.ensures.same ∙ later_own in (
      subst (AnswersAs (said c.judge_proof.result)) (ap (λ v. judged_proof v h facts unlike_times) last ∙ all) c.judge_proof.ensures.exact,
      inr (keys_and_answer a h keys answer held read_rs c.keys_that_may_sign.new.check_run.count c.read_proof.new.check_run.count both.none both.dnskey both.zone chain first usable all_read more),
      counts_as (said c.judge_proof.result) c.judge_proof.new.hashes (hashes_of_proof (g.C.Checks.answers c.read_proof.new.check_run.checks.now) h facts unlike_times) (hashes_beyond a pointer_limit h)
          (ap (λ v. hashes_of_proof v h facts unlike_times) last ∙ due) c.judge_proof.ensures.hash_counts,
    )

-- whatever memory is left for that
pub returns-clause-decided : goal.returns-clause-decided
returns-clause-decided g c =
    let own = g.C.Checks.answers c.args.check_run.now.checks.now in
    let h : JudgeInput = c.args.case.now in
    let reads = c.in_ok-messages.ensures in
    let keys = c.in_ok-messages.messages.keys in
    let answer = c.in_ok-messages.messages.answer in
    let rs = map spelled c.deref-2.result.now in
    let ks = c.in_ok-keys.keys.items in
    let whole = ap (map spelled) c.deref-2.ensures.value ∙ reads.key_records in
    let are = c.in_ok-keys.ensures.keys ∙ ap (λ vs. keys_in h.dnskey_bytes h.apex (map spelled vs)) (c.deref.ensures.value ∙ sym c.deref-2.ensures.value) in
    let both : BothRead h keys answer rs ks = both_read h keys answer rs ks reads.keys reads.answer reads.asks_keys reads.asks_answer whole are c.in_ok-keys.ensures.unlike in
    let held = c.deref-4.result.now in
    let usable = c.deref-4.ensures.value ∙ usable_as h keys rs ks c.in_ok-usable.usable.items both.records_are both.keys_are c.in_ok-usable.ensures.usable in
    let read_rs = map spelled c.deref-3.result.now in
    let all_read = ap (map spelled) c.deref-3.ensures.value ∙ reads.answer_records in
    let later_own = c.in_ok-usable.ensures.same in
    let facts = c.in_ok-proof.proof.facts in
    let unlike_times = c.in_ok-proof.proof.has_unlike_times in
    let sought = answer_sought pointer_limit h.answer_bytes h.apex read_rs h.asked.name h.asked.rtype in
    inr (record {
      answer = judged_proof own h facts unlike_times;
      hashes = hashes_of_proof own h facts unlike_times;
      in_memory = enough own h facts unlike_times;
      none = both.none;
      last = last own h facts unlike_times;
      few = few own h facts unlike_times;
      says = λ test fits.
          let a = with_test own test in
          let at_proof = agreed own.verifies test _ _ (c.judge_proof.ensures.none.0 test) fits in
          let at_keys = agreed own.verifies test _ _ (c.in_ok-proof.ensures.agrees test) at_proof in
          let found = c.in_ok-usable.ensures.signed test at_keys in
          let chain = sym found.0 ∙ chained_as a h keys rs ks both.records_are both.keys_are in
          let first = found.1 ∙ key_tries_as a h keys rs ks both.records_are both.keys_are in
          let later = ap (λ x. with_test x test) later_own in
          let second = agreed_by own _ test _ later_own at_proof in
          let proved = c.in_ok-proof.ensures.proves test second in
          let read = proved.0 ∙ ap (λ x. verified_facts (trusting x h held) pointer_limit h.answer_bytes read_rs h.asked.name h.asked.rtype) later in
          let timed = proved.1 ∙ ap (λ x. are_unlike (proof_times (trusting x h held) pointer_limit h.answer_bytes read_rs h.asked.name h.asked.rtype)) later in
          let more = proved.2 ∙ ap (λ x. c.keys_that_may_sign.new.check_run.count + tries (trusting x h held) pointer_limit h.answer_bytes sought [] read_rs) later in
          let all = decided_as a h keys answer held read_rs facts unlike_times (beyond a pointer_limit h keys answer both.dnskey both.zone both.none) chain usable all_read read timed in
          let due = facts_hashed a h keys answer held read_rs facts unlike_times both.none both.dnskey both.zone chain usable all_read read timed in (
            inr all,
            inr (keys_and_answer a h keys answer held read_rs c.keys_that_may_sign.new.check_run.count c.read_proof.new.check_run.count both.none both.dnskey both.zone chain first usable all_read more),
            inr due,
          );
    })

pub returns-clause-lasts : goal.returns-clause-lasts
returns-clause-lasts g c = λ test fits.
    let own = g.C.Checks.answers c.args.check_run.now.checks.now in
    let a = with_test own test in
    let h : JudgeInput = c.args.case.now in
    let reads = c.in_ok-messages.ensures in
    let keys = c.in_ok-messages.messages.keys in
    let answer = c.in_ok-messages.messages.answer in
    let rs = map spelled c.deref-2.result.now in
    let ks = c.in_ok-keys.keys.items in
    let whole = ap (map spelled) c.deref-2.ensures.value ∙ reads.key_records in
    let are = c.in_ok-keys.ensures.keys ∙ ap (λ vs. keys_in h.dnskey_bytes h.apex (map spelled vs)) (c.deref.ensures.value ∙ sym c.deref-2.ensures.value) in
    let both : BothRead h keys answer rs ks = both_read h keys answer rs ks reads.keys reads.answer reads.asks_keys reads.asks_answer whole are c.in_ok-keys.ensures.unlike in
    let at_proof = agreed own.verifies test _ _ (c.judge_proof.ensures.none.0 test) fits in
    let at_keys = agreed own.verifies test _ _ (c.in_ok-proof.ensures.agrees test) at_proof in
    let held = c.deref-4.result.now in
    let usable = c.deref-4.ensures.value ∙ usable_as h keys rs ks c.in_ok-usable.usable.items both.records_are both.keys_are c.in_ok-usable.ensures.usable in
    let read_rs = map spelled c.deref-3.result.now in
    let all_read = ap (map spelled) c.deref-3.ensures.value ∙ reads.answer_records in
    let later_own = c.in_ok-usable.ensures.same in
    let second = agreed_by own _ test _ later_own at_proof in
    let later = ap (λ x. with_test x test) later_own in
    let validity = c.in_ok-proof.ensures.lasts test second ∙ ap (λ x. answer_validity (trusting x h held) pointer_limit h.answer_bytes read_rs h.asked.name h.asked.rtype) later in
    on_ok c.judge_proof.result _ (ap (λ (l : Validity). Some l) c.shortened.ensures ∙ lasts_as a h keys answer rs ks both held usable read_rs all_read c.keys_that_may_sign.new.seconds c.in_ok-proof.proof.validity (c.in_ok-usable.ensures.lasts test at_keys) validity)

-- ---- all that are verified are tried of the messages

pub returns-in_err-usable-clause-asked : goal.returns-in_err-usable-clause-asked
returns-in_err-usable-clause-asked g c = λ test implies before.
    let own = g.C.Checks.answers c.args.check_run.now.checks.now in
    let h : JudgeInput = c.args.case.now in
    let reads = c.in_ok-messages.ensures in
    let keys = c.in_ok-messages.messages.keys in
    let answer = c.in_ok-messages.messages.answer in
    let rs = map spelled c.deref-2.result.now in
    let ks = c.in_ok-keys.keys.items in
    let whole = ap (map spelled) c.deref-2.ensures.value ∙ reads.key_records in
    let are = c.in_ok-keys.ensures.keys ∙ ap (λ vs. keys_in h.dnskey_bytes h.apex (map spelled vs)) (c.deref.ensures.value ∙ sym c.deref-2.ensures.value) in
    let both : BothRead h keys answer rs ks = both_read h keys answer rs ks reads.keys reads.answer reads.asks_keys reads.asks_answer whole are c.in_ok-keys.ensures.unlike in
    c.keys_that_may_sign.ensures.asked test (keys_pass own h keys answer both.none both.dnskey both.zone test rs ks implies both.records_are both.keys_are) before

pub returns-in_err-proof-clause-asked : goal.returns-in_err-proof-clause-asked
returns-in_err-proof-clause-asked g c = λ test implies before.
    let own = g.C.Checks.answers c.args.check_run.now.checks.now in
    let h : JudgeInput = c.args.case.now in
    let reads = c.in_ok-messages.ensures in
    let keys = c.in_ok-messages.messages.keys in
    let answer = c.in_ok-messages.messages.answer in
    let rs = map spelled c.deref-2.result.now in
    let ks = c.in_ok-keys.keys.items in
    let whole = ap (map spelled) c.deref-2.ensures.value ∙ reads.key_records in
    let are = c.in_ok-keys.ensures.keys ∙ ap (λ vs. keys_in h.dnskey_bytes h.apex (map spelled vs)) (c.deref.ensures.value ∙ sym c.deref-2.ensures.value) in
    let both : BothRead h keys answer rs ks = both_read h keys answer rs ks reads.keys reads.answer reads.asks_keys reads.asks_answer whole are c.in_ok-keys.ensures.unlike in
    let first = c.keys_that_may_sign.ensures.asked test (keys_pass own h keys answer both.none both.dnskey both.zone test rs ks implies both.records_are both.keys_are) before in
    let found = c.in_ok-usable.ensures.signed own.verifies (inl refl) in
    let chain = sym found.0 ∙ chained_as own h keys rs ks both.records_are both.keys_are in
    let usable = c.deref-4.ensures.value ∙ usable_as h keys rs ks c.in_ok-usable.usable.items both.records_are both.keys_are c.in_ok-usable.ensures.usable in
    let all_read = ap (map spelled) c.deref-3.ensures.value ∙ reads.answer_records in
    let second = c.read_proof.ensures.asked test (answer_pass own h keys answer both.none both.dnskey both.zone test _ (map spelled c.deref-3.result.now) c.deref-4.result.now implies c.in_ok-usable.ensures.same chain all_read usable) first in
    second

pub returns-clause-asked : goal.returns-clause-asked
returns-clause-asked g c = λ test implies before.
    let own = g.C.Checks.answers c.args.check_run.now.checks.now in
    let h : JudgeInput = c.args.case.now in
    let reads = c.in_ok-messages.ensures in
    let keys = c.in_ok-messages.messages.keys in
    let answer = c.in_ok-messages.messages.answer in
    let rs = map spelled c.deref-2.result.now in
    let ks = c.in_ok-keys.keys.items in
    let whole = ap (map spelled) c.deref-2.ensures.value ∙ reads.key_records in
    let are = c.in_ok-keys.ensures.keys ∙ ap (λ vs. keys_in h.dnskey_bytes h.apex (map spelled vs)) (c.deref.ensures.value ∙ sym c.deref-2.ensures.value) in
    let both : BothRead h keys answer rs ks = both_read h keys answer rs ks reads.keys reads.answer reads.asks_keys reads.asks_answer whole are c.in_ok-keys.ensures.unlike in
    let first = c.keys_that_may_sign.ensures.asked test (keys_pass own h keys answer both.none both.dnskey both.zone test rs ks implies both.records_are both.keys_are) before in
    let found = c.in_ok-usable.ensures.signed own.verifies (inl refl) in
    let chain = sym found.0 ∙ chained_as own h keys rs ks both.records_are both.keys_are in
    let usable = c.deref-4.ensures.value ∙ usable_as h keys rs ks c.in_ok-usable.usable.items both.records_are both.keys_are c.in_ok-usable.ensures.usable in
    let all_read = ap (map spelled) c.deref-3.ensures.value ∙ reads.answer_records in
    let second = c.read_proof.ensures.asked test (answer_pass own h keys answer both.none both.dnskey both.zone test _ (map spelled c.deref-3.result.now) c.deref-4.result.now implies c.in_ok-usable.ensures.same chain all_read usable) first in
    c.judge_proof.ensures.none.1 test second
