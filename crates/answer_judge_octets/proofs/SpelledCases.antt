-- What a case in octets spells.
use Rattle.std.proofs.Common.{◌≡◌, ℕ, ◌+◌, ◌-◌, Bool, true, false, List, [], ◌∷◌, ◌++◌, length, Some, Ok, Err, Result, sym, ap, subst, ◌∙◌, length-append, arith}
use Rattle.std.specs.Prelude.{Option}
use Rattle.definitions.specs.Limits.{pointer_limit}
use Rattle.messages.specs.Message.{Message, message}
use Rattle.messages.specs.declared.error.MessageError.{MessageError}
use Rattle.messages_canonical.specs.Canonical.{IsCanonical, canonical_octets}
use Rattle.messages_canonical.specs.InForm.{IsFormOf, are_in_form}
use Rattle.std.specs.List.{AllByRecursion, flat_map}
use Rattle.std.specs.Option.{unwrap_or}
use Rattle.std.proofs.lemmas.List.{append-nil, take_at}
use Rattle.std.proofs.lemmas.Grind.{flat_map-append}
use Rattle.definitions.specs.Name.{Name}
use Rattle.names_rdata.specs.Composing.{with_length}
use Rattle.definitions.specs.Dnskey.{dnskey_data}
use Rattle.answer_judge.specs.Judging.{JudgeInput}
use Rattle.answer_judge_octets.specs.declared.octets.OctetCase.{OctetCase}
use Rattle.answer_judge_octets.specs.EntryLaws.{once_checked, once_ds, some_checked, some_ds}
use Rattle.answer_judge_octets.specs.Laws.{ListsGrow, OctetsSpellOneCase, answered_entry}
use Rattle.answer_judge_octets.specs.Replying.{IsJudged, Spells, flag_in, judged_ds, stand_as_received}
use Rattle.answer_findings.specs.Table.{Checked, Tried, checked}
use Rattle.answer_judge_octets.specs.Written.{FitsChecked, FitsDs, checked_octets, ds_octets, passes_octets, with_long_length}
use Rattle.answer_judge_octets.proofs.ListsRead.{spelled_once}

pub one_some : (n m : Name) (o : Option Name) → o ≡ Some n → o ≡ Some m → n ≡ m
one_some n m o p q = ap (λ s. unwrap_or s n) (sym p ∙ q)

pub one_flag : (a b : Bool) (o : Option Bool) → o ≡ Some a → o ≡ Some b → a ≡ b
one_flag a b o p q = ap (λ s. unwrap_or s a) (sym p ∙ q)

abbrev found : Message → Result Message MessageError
found r = Ok r

found_once : (r s : Message) → found r ≡ found s → r ≡ s
found_once r s e = cc

-- a message has one canonical form
one_canonical : (m x y : List ℕ) → IsCanonical m x → IsCanonical m y → x ≡ y
one_canonical m x y p q =
    let same : p.read ≡ q.read = found_once p.read q.read (sym p.reads ∙ q.reads) in
    p.octets_are ∙ ap (canonical_octets pointer_limit m) same ∙ sym q.octets_are

-- one that is in form, or isn't
one_form : (m x y : List ℕ) (b : Bool) → IsFormOf b m x → IsFormOf b m y → x ≡ y
one_form m x y true p q = p ∙ sym q
one_form m x y false p q = one_canonical m x y p q

-- as what it reads as is to be seen
abbrev FormOf : List ℕ → List ℕ → Result Message MessageError → Type 0
FormOf m octets r = elim r [ Err fault ↦ octets ≡ m | Ok read ↦ IsFormOf (are_in_form pointer_limit m read.records) m octets ]

one_of_read : (m x y : List ℕ) (r : Result Message MessageError) → FormOf m x r → FormOf m y r → x ≡ y
one_of_read m x y (Err fault) p q = p ∙ sym q
one_of_read m x y (Ok read) p q = one_form m x y (are_in_form pointer_limit m read.records) p q

pub one_of : (m x y : List ℕ) (a : Bool) → IsJudged a m x → IsJudged a m y → x ≡ y
one_of m x y true p q = p ∙ sym q
one_of m x y false p q = one_of_read m x y (message pointer_limit m) p q

one_judged : (m x y : List ℕ) (a b : Bool) → a ≡ b → IsJudged a m x → IsJudged b m y → x ≡ y
one_judged m x y a b e p q = one_of m x y b (subst (λ f. IsJudged f m x) e p) q

one_handing : (case : OctetCase) (h j : JudgeInput) (table others : List Checked) → Spells case h table → Spells case j others → h ≡ j
one_handing case h j table others p q =
    let apex = one_some h.apex j.apex _ p.apex q.apex in
    let ds_set = spelled_once FitsDs ds_octets once_ds some_ds p.ds_set q.ds_set p.ds.fit q.ds.fit (sym p.ds.octets_are ∙ q.ds.octets_are) in
    let ds = p.ds_judged ∙ ap (judged_ds case.algorithms.now) ds_set ∙ sym q.ds_judged in
    let flag = one_flag p.as_received q.as_received (flag_in case case.as_received) p.flag q.flag in
    let received : stand_as_received h.ds p.as_received ≡ stand_as_received j.ds q.as_received = λ i. stand_as_received (ds i) (flag i) in
    let dnskey_bytes = one_judged case.dnskey.now h.dnskey_bytes j.dnskey_bytes _ _ received p.dnskey_bytes q.dnskey_bytes in
    let answer_bytes = one_judged case.answer.now h.answer_bytes j.answer_bytes _ _ received p.answer_bytes q.answer_bytes in
    let one_moment = one_flag h.one_moment j.one_moment (flag_in case case.one_moment) p.one_moment q.one_moment in
    let name = one_some h.asked.name j.asked.name _ p.name q.name in
    let rtype = p.rtype ∙ sym q.rtype in
    let class = p.class ∙ sym q.class in
    let now = p.now ∙ sym q.now in
    let limit = p.limit ∙ sym q.limit in
    let other_question = one_flag h.other_question j.other_question (flag_in case case.other_question) p.other_question q.other_question in
    λ i. record {
      apex = apex i;
      ds = ds i;
      dnskey_bytes = dnskey_bytes i;
      answer_bytes = answer_bytes i;
      asked = record { name = name i; rtype = rtype i; class = class i };
      now = now i;
      limit = limit i;
      one_moment = one_moment i;
      other_question = other_question i;
    }

pub one_case : OctetsSpellOneCase
one_case case h j table others p q = (
  one_handing case h j table others p q,
  spelled_once FitsChecked checked_octets once_checked some_checked table others p.entries.fit q.entries.fit (sym p.entries.octets_are ∙ q.entries.octets_are),
)

-- ---- a list that grows

fit_behind : (table : List Checked) (c : Checked) → AllByRecursion FitsChecked table → FitsChecked c → AllByRecursion FitsChecked (table ++ c ∷ [])
fit_behind [] c fit fits = (fits, tt)
fit_behind (d ∷ table) c fit fits = (fit.0, fit_behind table c fit.1 fits)

-- all but the last octet
front : Tried → List ℕ
front t = with_length (dnskey_data t.key) ++ with_long_length t.octets ++ with_length t.signature

fronted : (t : Tried) (passes : Bool) → answered_entry (checked_octets (checked t false)) passes ≡ checked_octets (checked t passes)
unfolding front
fronted t passes =
    let f = front t in
    let long : length (f ++ passes_octets false) ≡ length f + 1 = length-append f (passes_octets false) in
    let but_one : length (f ++ passes_octets false) - 1 ≡ length f = omega (arith, long) in
    ap (λ (l : List ℕ). l ++ passes_octets passes) (take_at f (passes_octets false) (length (f ++ passes_octets false) - 1) (sym but_one))

fits_said : (t : Tried) (passes : Bool) → FitsChecked (checked t false) → FitsChecked (checked t passes)
fits_said t passes fits = record { flags = fits.flags; short = fits.short; octets = fits.octets; signature = fits.signature }

pub lists_grow : ListsGrow
lists_grow octets table t passes is fits =
    let c = checked t passes in
    record {
      fit = fit_behind table c is.fit (fits_said t passes fits);
      octets_are =
          ap (λ (l : List ℕ). l ++ answered_entry (checked_octets (checked t false)) passes) is.octets_are ∙ ap (λ (l : List ℕ). flat_map checked_octets table ++ l) (fronted t passes)
          ∙ ap (λ (l : List ℕ). flat_map checked_octets table ++ l) (sym (append-nil (checked_octets c))) ∙ sym (flat_map-append checked_octets table (c ∷ []));
    }
