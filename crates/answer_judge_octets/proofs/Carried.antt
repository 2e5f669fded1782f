-- Signatures that are asked for stand in the messages, so they count from then on.
use Rattle.std.proofs.Common.{◌≡◌, ℕ, ◌+◌, Bool, true, false, List, [], ◌∷◌, ◌++◌, length, filter, map, suc, Option, Some, None, Result, Ok, Err, refl, sym, ap, subst, inl, inr, arith}
use Rattle.std.specs.Prelude.{◌&&◌, ◌||◌, nat_eq, if◌then◌else◌}
use Rattle.std.specs.List.{AllByRecursion, slice_range}
use Rattle.std.specs.Str.{bytes_eq}
use Rattle.std.proofs.lemmas.Bool.{and_parts, false≢true, ltb-false}
use Rattle.std.proofs.lemmas.Slice.Eq.{bytes_eq-Decides}
use Rattle.definitions.specs.Dnskey.{Dnskey}
use Rattle.definitions.specs.Limits.{pointer_limit}
use Rattle.definitions.specs.Name.{Name, low, wire}
use Rattle.definitions.specs.Signing.{Fields, signed_octets}
use Rattle.messages.specs.Message.{Asked, Message, Spelled, behind, fits, if_true, message, name_in, rrsig_at, rrsig_fields}
use Rattle.messages.specs.declared.error.MessageError.{MessageError}
use Rattle.answer_scheme.specs.Answers.{Answers}
use Rattle.answer_judge_facts.specs.Asked as asked
use Rattle.answer_judge.specs.Tried as tried
use Rattle.answer_judge_facts.specs.Counted.{is_tried}
use Rattle.answer_judge.specs.Judged.{ds_authenticates_keys, keys_of, trusting}
use Rattle.answer_judge_facts.specs.Sought.{Sought, answer_sought, keys_sought}
use Rattle.answer_judge_facts.specs.Verified.{Trusting}
use Rattle.answer_judge.specs.Judging.{JudgeInput, first_refusal}
use Rattle.answer_judge_keys.specs.Trusted.{is_trusted, is_usable}
use Rattle.answer_judge.specs.declared.verdict.Refusal.{Refusal}
use Rattle.answer_findings.specs.Asking.{AreAsked, IsTriedBy}
use Rattle.answer_findings.specs.Table.{Checked, Tried, answers_with, may_pass_in}
use Rattle.answer_findings.specs.Judgements.{AreAskedAside, aside, first_question}
use Rattle.answer_judge_octets.specs.Laws.{AsksStayFew, StaysFew}
use Rattle.answer_judge_octets.specs.Replying.{are_too_many, is_carried, most_of, stands_in}
use Rattle.answer_judge_octets.proofs.Standing.{stands_cut}

-- ---- the signature of a record

abbrev Cut : Type 0
Cut = Fields × List ℕ

some_is : (a b : Cut) → Some a ≡ Some b → a ≡ b
some_is a b e = cc

if_some : (b : Bool) (p f : Cut) → if_true b p ≡ Some f → p ≡ f
if_some true p f e = some_is p f e
if_some false p f e = cc

abbrev signed_from : List ℕ → Spelled → Name × ℕ → Option Cut
signed_from m r signer =
    let signature = slice_range m signer.1 (behind r) in
    if_true (fits (slice_range m r.start (r.start + 18) ++ (wire signer.0 ++ signature))) (rrsig_fields m r.start (low signer.0), signature)

abbrev from_name : List ℕ → Spelled → Option (Name × ℕ) → Option Cut
from_name m r o = elim o [ None ↦ None | Some signer ↦ signed_from m r signer ]

name_stands : (m : List ℕ) (r : Spelled) (o : Option (Name × ℕ)) (f : Cut) → from_name m r o ≡ Some f → stands_in m f.1 ≡ true
name_stands m r None f e = cc
name_stands m r (Some signer) f e =
    let signature = slice_range m signer.1 (behind r) in
    let is = if_some (fits (slice_range m r.start (r.start + 18) ++ (wire signer.0 ++ signature))) (rrsig_fields m r.start (low signer.0), signature) f e in
    subst (λ s. stands_in m s ≡ true) (ap (λ p. p.1) is) (stands_cut m signer.1 (behind r))

abbrev long_enough : ℕ → List ℕ → Spelled → Bool → Option Cut
long_enough k m r b = elim b [ false ↦ None | true ↦ from_name m r (name_in k m r (r.start + 18)) ]

cut_stands : (k : ℕ) (m : List ℕ) (r : Spelled) (b : Bool) (f : Cut) → long_enough k m r b ≡ Some f → stands_in m f.1 ≡ true
cut_stands k m r false f e = cc
cut_stands k m r true f e = name_stands m r (name_in k m r (r.start + 18)) f e

signature_stands : (k : ℕ) (m : List ℕ) (r : Spelled) (f : Cut) → rrsig_at k m r ≡ Some f → stands_in m f.1 ≡ true
signature_stands k m r f e = cut_stands k m r _ f e

-- ---- signatures that are tried

module _ (w : Trusting) (k : ℕ) (m : List ℕ) (s : Sought) (key : Dnskey) (octets signature : List ℕ) where
  abbrev carries : Spelled → Option Cut → Bool
  carries r o = elim o [
    | None ↦ false
    | Some f ↦ asked.is_found w f.0 key && bytes_eq signature f.1 && bytes_eq octets (signed_octets f.0 r.owner 1 (s.datas r.owner f.0.covered))
  ]

  carried_by : (r : Spelled) (o : Option Cut) → rrsig_at k m r ≡ o → carries r o ≡ true → stands_in m signature ≡ true
  carried_by r None e h = absurd (false≢true h)
  carried_by r (Some f) e h =
      let both = and_parts (asked.is_found w f.0 key && bytes_eq signature f.1) (bytes_eq octets (signed_octets f.0 r.owner 1 (s.datas r.owner f.0.covered))) h in
      let is = (bytes_eq-Decides signature f.1).0 (and_parts (asked.is_found w f.0 key) (bytes_eq signature f.1) both.0).1 in
      subst (λ x. stands_in m x ≡ true) (sym is) (signature_stands k m r f e)

  carried_record : (r : Spelled) → asked.is_carried w k m s r key octets signature ≡ true → stands_in m signature ≡ true
  carried_record r h = carried_by r (rrsig_at k m r) refl h

  one_of_both : (b : Bool) (rest goal : Bool) → (b || rest) ≡ true → (b ≡ true → goal ≡ true) → (rest ≡ true → goal ≡ true) → goal ≡ true
  one_of_both true rest goal h first later = first refl
  one_of_both false rest goal h first later = later h

  tried_among : (earlier rs : List Spelled) → asked.is_tried_among w k m s earlier rs key octets signature ≡ true → stands_in m signature ≡ true
  tried_among earlier [] h = absurd (false≢true h)
  tried_among earlier (r ∷ rs) h =
      one_of_both (is_tried w k m s earlier r && asked.is_carried w k m s r key octets signature) (asked.is_tried_among w k m s (earlier ++ r ∷ []) rs key octets signature) (stands_in m signature) h
      (λ first. carried_record r (and_parts (is_tried w k m s earlier r) (asked.is_carried w k m s r key octets signature) first).1)
      (λ later. tried_among (earlier ++ r ∷ []) rs later)

-- ---- of both messages

unless_refused : (o : Option Refusal) (b : Bool) → (elim o as (λ _. Bool) [ Some e ↦ false | None ↦ b ]) ≡ true → b ≡ true
unless_refused None b h = h
unless_refused (Some e) b h = absurd (false≢true h)

unless_empty : (c b : Bool) → (if c then false else b) ≡ true → b ≡ true
unless_empty true b h = absurd (false≢true h)
unless_empty false b h = h

either_left : (b c : Bool) → b ≡ true → (b || c) ≡ true
either_left true c h = refl
either_left false c h = absurd (false≢true h)

either_right : (b c : Bool) → c ≡ true → (b || c) ≡ true
either_right true c h = refl
either_right false c h = h

module _ (a : Answers) (h : JudgeInput) (key : Dnskey) (octets signature : List ℕ) where
  abbrev Stands : Type 0
  Stands = (stands_in h.dnskey_bytes signature || stands_in h.answer_bytes signature) ≡ true

  by_keys : (keys : Message) → tried.is_tried_of_keys a pointer_limit h keys key octets signature ≡ true → stands_in h.dnskey_bytes signature ≡ true
  by_keys keys t =
      let ks = keys_of h keys in
      tried_among (trusting a h (filter (is_trusted a h.apex h.ds) ks)) pointer_limit h.dnskey_bytes (keys_sought h.apex ks) key octets signature [] keys.records t

  by_answer : (keys answer : Message) → tried.is_tried_of_answer a pointer_limit h keys answer key octets signature ≡ true → stands_in h.answer_bytes signature ≡ true
  by_answer keys answer t =
      tried_among (trusting a h (filter is_usable (keys_of h keys))) pointer_limit h.answer_bytes
      (answer_sought pointer_limit h.answer_bytes h.apex answer.records h.asked.name h.asked.rtype) key octets signature [] answer.records t

  in_messages : (keys answer : Message) → tried.is_tried_in_messages a pointer_limit h keys answer key octets signature ≡ true → Stands
  in_messages keys answer t = go (tried.is_tried_of_keys a pointer_limit h keys key octets signature) refl t
    where
      go : (b : Bool) → tried.is_tried_of_keys a pointer_limit h keys key octets signature ≡ b
          → (b || (ds_authenticates_keys a pointer_limit h keys && tried.is_tried_of_answer a pointer_limit h keys answer key octets signature)) ≡ true → Stands
      go true e both = either_left (stands_in h.dnskey_bytes signature) (stands_in h.answer_bytes signature) (by_keys keys e)
      go false e both =
          let later = and_parts (ds_authenticates_keys a pointer_limit h keys) (tried.is_tried_of_answer a pointer_limit h keys answer key octets signature) both in
          either_right (stands_in h.dnskey_bytes signature) (stands_in h.answer_bytes signature) (by_answer keys answer later.1)

  abbrev of_answer : Message → Result Message MessageError → Bool
  of_answer keys r = elim r [ Err e ↦ false | Ok answer ↦ tried.is_tried_in_messages a pointer_limit h keys answer key octets signature ]

  abbrev of_both : Result Message MessageError → Bool
  of_both r = elim r [ Err e ↦ false | Ok keys ↦ of_answer keys (message pointer_limit h.answer_bytes) ]

  in_answer : (keys : Message) (r : Result Message MessageError) → of_answer keys r ≡ true → Stands
  in_answer keys (Err e) t = absurd (false≢true t)
  in_answer keys (Ok answer) t = in_messages keys answer t

  in_both : (r : Result Message MessageError) → of_both r ≡ true → Stands
  in_both (Err e) t = absurd (false≢true t)
  in_both (Ok keys) t = in_answer keys (message pointer_limit h.answer_bytes) t

  pub tried_stands : tried.is_tried_signature a pointer_limit h key octets signature ≡ true → Stands
  tried_stands t =
      let beyond = unless_refused (first_refusal pointer_limit h) (if nat_eq (length h.ds) 0 then false else tried.is_tried_in_bytes a pointer_limit h key octets signature) t in
      in_both (message pointer_limit h.dnskey_bytes) (unless_empty (nat_eq (length h.ds) 0) (tried.is_tried_in_bytes a pointer_limit h key octets signature) beyond)

-- ---- they count from then on

all_kept : (p : Checked → Bool) (ys : List Checked) → AllByRecursion (λ c. p c ≡ true) ys → length (filter p ys) ≡ length ys
all_kept p [] all = refl
all_kept p (y ∷ ys) all = kept (p y) all.0 (all_kept p ys all.1)
  where
    kept : (b : Bool) → b ≡ true → length (filter p ys) ≡ length ys → length (if b then y ∷ filter p ys else filter p ys) ≡ length (y ∷ ys)
    kept true e more = ap (λ n. suc n) more
    kept false e more = absurd (false≢true e)

length-kept : (p : Checked → Bool) (xs ys : List Checked) → AllByRecursion (λ c. p c ≡ true) ys → length (filter p (xs ++ ys)) ≡ length (filter p xs) + length ys
length-kept p [] ys all = let same : length (filter p ys) ≡ length ys = all_kept p ys all in omega (arith, same)
length-kept p (x ∷ xs) ys all = one (p x) (length-kept p xs ys all)
  where
    one : (b : Bool) → length (filter p (xs ++ ys)) ≡ length (filter p xs) + length ys
        → length (if b then x ∷ filter p (xs ++ ys) else filter p (xs ++ ys)) ≡ length (if b then x ∷ filter p xs else filter p xs) + length ys
    one true more = omega (arith, more)
    one false more = more

-- each entry of what was asked for
abbrev tried_in : Checked → Tried
tried_in c = c.tried

each_carried : (table : List Checked) (h : JudgeInput) (answered : List Checked) → AllByRecursion (IsTriedBy (may_pass_in table) h) (map tried_in answered)
    → AllByRecursion (λ c. is_carried h.dnskey_bytes h.answer_bytes c ≡ true) answered
each_carried table h [] all = tt
each_carried table h (c ∷ answered) all = (
  tried_stands (answers_with (may_pass_in table)) h c.tried.key c.tried.octets c.tried.signature all.0,
  each_carried table h answered all.1,
)

stay_few : (most : ℕ) (h : JudgeInput) (table answered : List Checked) → AreAsked table h (map tried_in answered) → are_too_many most h table (length answered) ≡ false → StaysFew most h table answered
stay_few most h table answered asks few =
    let counts = length-kept (is_carried h.dnskey_bytes h.answer_bytes) table answered (each_carried table h answered asks.tried.each) in
    let room = ltb-false (most_of most) (length (filter (is_carried h.dnskey_bytes h.answer_bytes) table) + length answered) few in
    record { counted = counts; few = omega (arith, counts, room) }

-- A question beside the case's is asked of the same messages.
aside_stay_few : (most : ℕ) (h : JudgeInput) (table answered : List Checked) (wanted : Option Asked) → AreAskedAside table h wanted (map tried_in answered)
    → are_too_many most h table (length answered) ≡ false → StaysFew most h table answered
aside_stay_few most h table answered wanted are few =
    let stays = stay_few most (aside h are.asked) table answered are.are_asked few in
    record { counted = stays.counted; few = stays.few }

pub asks_stay_few : AsksStayFew
asks_stay_few most h table answered verifications hashes (inl (inl own, v, n)) few = stay_few most h table answered own.are_asked few
asks_stay_few most h table answered verifications hashes (inl (inr first, v, n)) few = aside_stay_few most h table answered (first_question pointer_limit h) first.are few
asks_stay_few most h table answered verifications hashes (inr later) few = aside_stay_few most h table answered later.wanted later.are few
