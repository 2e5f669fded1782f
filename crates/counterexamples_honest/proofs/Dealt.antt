-- Nothing is forged in a message each of whose records is dealt with.
use Rattle.std.proofs.Common.{◌≡◌, ℕ, ◌<◌, true, false, List, [], ◌∷◌, ◌++◌, length, take, drop, Option, Some, Ok, eqb, sym, ap, subst, ◌∙◌, inl, inr}
use Rattle.std.specs.Prelude.{Contains, get_or, nat_le, nat_lt}
use Rattle.std.specs.List.{AllByRecursion, list_any}
use Rattle.std.specs.Str.{bytes_eq}
use Rattle.std.proofs.lemmas.Bool.{false≢true, leb-false, ltb-true}
use lib.Pointwise.{bytes_decides}
use Rattle.definitions.specs.Dnskey.{Dnskey}
use Rattle.definitions.specs.Limits.{pointer_limit}
use Rattle.definitions.specs.Name.{same}
use Rattle.answer_judge_keys.specs.Trusted.{is_usable}
use Rattle.definitions.specs.Signing.{Fields, in_time}
use Rattle.messages.specs.Message.{AreOctets, Message, Spelled, message, rrsig_at}
use Rattle.messages.proofs.Lists.{Has, all_at, all_fail, all_more, some_is}
use Rattle.answer_scheme.specs.Answers.{Answers}
use Rattle.answer_judge.specs.Honest.{NothingForged, over}
use Rattle.answer_judge.specs.Judging.{JudgeInput}
use Rattle.answer_judge_facts.specs.Sought.{Sought}
use Rattle.answer_judge.proofs.GivenLists.{has_contained}
use Rattle.answer_judge.proofs.Spliced.{ok_is}
use Rattle.counterexamples_honest.specs.World.{own_key, plain}

-- ---- lists

pub at_place : {A : Type 0} (xs : List A) (x : A) (k : ℕ) → nat_lt k (length xs) ≡ true → get_or xs k x ≡ x → Contains xs x
at_place xs x k inside is = (k, ltb-true k (length xs) inside, is)

pub small_octets : (m : List ℕ) → list_any (nat_le 256) m ≡ false → AreOctets m
small_octets m e = all_more (λ x. nat_le 256 x ≡ false) (λ x. x < 256) m (λ x h. leb-false 256 x h) (all_fail (nat_le 256) m e)

-- ---- messages

-- a record is no signature that holds and passes under a published key, but over octets that were signed
abbrev pub IsDealt : Answers → ℕ → List Dnskey → (List ℕ → Type 0) → List ℕ → Spelled → Type 0
IsDealt a now published Signed m r =
    (f : Fields) (signature octets : List ℕ) (key : Dnskey) → r.rtype ≡ 46 → rrsig_at pointer_limit m r ≡ Some (f, signature)
    → in_time f now ≡ true → Has published key → a.verifies key octets signature ≡ true → Signed octets

-- the same of those that a judge may use: the apex's, under a key that may sign
abbrev pub IsDealtHere : Answers → JudgeInput → List Dnskey → (List ℕ → Type 0) → List ℕ → Spelled → Type 0
IsDealtHere a h published Signed m r =
    (f : Fields) (signature octets : List ℕ) (key : Dnskey) → r.rtype ≡ 46 → rrsig_at pointer_limit m r ≡ Some (f, signature)
    → in_time f h.now ≡ true → same f.signer h.apex ≡ true → Has published key → is_usable key ≡ true → a.verifies key octets signature ≡ true → Signed octets

pub here : (a : Answers) (h : JudgeInput) (published : List Dnskey) (Signed : List ℕ → Type 0) (m : List ℕ) (r : Spelled) → IsDealt a h.now published Signed m r → IsDealtHere a h published Signed m r
here a h published Signed m r dealt f signature octets key kind fields time signer inside usable passes = dealt f signature octets key kind fields time inside passes

pub unforged_here : (a : Answers) (h : JudgeInput) (published : List Dnskey) (Signed : List ℕ → Type 0) (sought : List Spelled → Sought) (m : List ℕ) (read : Message) → message pointer_limit m ≡ Ok read → AllByRecursion (IsDealtHere a h published Signed m) read.records
    → NothingForged a pointer_limit h published Signed sought m
unforged_here a h published Signed sought m read reads dealt other r f signature key is used inside usable some passes =
    let alike : other ≡ read = ok_is other read (sym is ∙ reads) in
    all_at (IsDealtHere a h published Signed m) read.records r dealt (subst (λ (x : Message). Has x.records r) alike (has_contained other.records r used.there)) f signature (over (sought other.records) r f) key used.rtype_is used.reads used.timely used.signer_is
    (has_contained published key inside) usable passes

pub unforged : (a : Answers) (h : JudgeInput) (published : List Dnskey) (Signed : List ℕ → Type 0) (sought : List Spelled → Sought) (m : List ℕ) (read : Message) → message pointer_limit m ≡ Ok read → AllByRecursion (IsDealt a h.now published Signed m) read.records
    → NothingForged a pointer_limit h published Signed sought m
unforged a h published Signed sought m read reads dealt other r f signature key is used inside usable some passes =
    let same : other ≡ read = ok_is other read (sym is ∙ reads) in
    all_at (IsDealt a h.now published Signed m) read.records r dealt (subst (λ (x : Message). Has x.records r) same (has_contained other.records r used.there)) f signature (over (sought other.records) r f) key used.rtype_is used.reads used.timely
    (has_contained published key inside) passes

-- ---- records

-- of another type
pub no_signature : (a : Answers) (now : ℕ) (published : List Dnskey) (Signed : List ℕ → Type 0) (m : List ℕ) (r : Spelled) → eqb r.rtype 46 ≡ false → IsDealt a now published Signed m r
no_signature a now published Signed m r e f signature octets key kind fields time inside passes = absurd (false≢true (sym e ∙ ap (λ n. eqb n 46) kind))

abbrev f_and : Fields × List ℕ → Option (Fields × List ℕ)
f_and x = Some x

-- what a signature's record says, it says alone
said : (m : List ℕ) (r : Spelled) (f g : Fields) (x y : List ℕ) → rrsig_at pointer_limit m r ≡ Some (f, x) → rrsig_at pointer_limit m r ≡ Some (g, y) → (f ≡ g) × (x ≡ y)
said m r f g x y first second =
    let one : (f, x) ≡ (g, y) = some_is (f, x) (g, y) (sym first ∙ second) in
    (ap (λ (p : Fields × List ℕ). p.0) one, ap (λ (p : Fields × List ℕ). p.1) one)

-- out of its time
pub late : (a : Answers) (now : ℕ) (published : List Dnskey) (Signed : List ℕ → Type 0) (m : List ℕ) (r : Spelled) (g : Fields) (x : List ℕ) → rrsig_at pointer_limit m r ≡ Some (g, x) → in_time g now ≡ false → IsDealt a now published Signed m r
late a now published Signed m r g x is out f signature octets key kind fields time inside passes =
    absurd (false≢true (sym out ∙ ap (λ (h : Fields). in_time h now) (sym (said m r f g signature x fields is).0) ∙ time))

-- a signature that passes under the zone's key is its octets and what it is made over
by_own : (key : Dnskey) (octets signature : List ℕ) → Has (own_key ∷ []) key → plain.verifies key octets signature ≡ true → signature ≡ 0 ∷ 16 ∷ octets
by_own key octets signature inside passes = elim inside [
  | inl is ↦ (bytes_decides signature (0 ∷ 16 ∷ octets)).0 (subst (λ (k : Dnskey). bytes_eq signature (k.octets ++ octets) ≡ true) is passes)
  | inr none ↦ absurd none
]

-- by the zone's key, over octets that were signed
pub signed : (now : ℕ) (Signed : List ℕ → Type 0) (m : List ℕ) (r : Spelled) (g : Fields) (over : List ℕ) → rrsig_at pointer_limit m r ≡ Some (g, 0 ∷ 16 ∷ over) → Signed over → IsDealt plain now (own_key ∷ []) Signed m r
signed now Signed m r g over is there f signature octets key kind fields time inside passes =
    let other : signature ≡ 0 ∷ 16 ∷ octets = by_own key octets signature inside passes in
    subst Signed (ap (drop 2) (sym (said m r f g signature (0 ∷ 16 ∷ over) fields is).1 ∙ other)) there

-- by the apex of another zone
pub of_another : (a : Answers) (h : JudgeInput) (published : List Dnskey) (Signed : List ℕ → Type 0) (m : List ℕ) (r : Spelled) (g : Fields) (x : List ℕ) → rrsig_at pointer_limit m r ≡ Some (g, x) → same g.signer h.apex ≡ false → IsDealtHere a h published Signed m r
of_another a h published Signed m r g x is unlike f signature octets key kind fields time signer inside usable passes =
    absurd (false≢true (sym unlike ∙ ap (λ (y : Fields). same y.signer h.apex) (sym (said m r f g signature x fields is).0) ∙ signer))

-- by a key with other octets
pub foreign : (now : ℕ) (Signed : List ℕ → Type 0) (m : List ℕ) (r : Spelled) (g : Fields) (x : List ℕ) → rrsig_at pointer_limit m r ≡ Some (g, x) → bytes_eq (take 2 x) (0 ∷ 16 ∷ []) ≡ false → IsDealt plain now (own_key ∷ []) Signed m r
foreign now Signed m r g x is unlike f signature octets key kind fields time inside passes =
    let other : signature ≡ 0 ∷ 16 ∷ octets = by_own key octets signature inside passes in
    absurd (false≢true (sym unlike ∙ ap (λ s. bytes_eq (take 2 s) (0 ∷ 16 ∷ [])) (sym (said m r f g signature x fields is).1 ∙ other)))
