-- Why answers are not written.
use Rattle.std.proofs.Common.{[], ◌≡◌, ℕ, ◌+◌, ◌<◌, ◌≤◌, Bool, true, List, ◌∷◌, ◌++◌, Option, Result, Ok, Err, map, length, take, drop, get_or, refl, sym, ap, subst, ◌∙◌, append_assoc, length-append, arith, zero, suc}
use Rattle.std.specs.Prelude.{Contains, if◌then◌else◌}
use Rattle.std.specs.List.{AllZip, flat_map}
use Rattle.std.proofs.lemmas.Grind.{flat_map-append}
use Rattle.std.proofs.lemmas.List.Elements.{Contains-append_left, Contains-append_right, Contains-get_or}
use Rattle.std.specs.Result.{IfErr}
use Rattle.std.proofs.lemmas.List.{append-nil, take-append-drop}
use Rattle.std.specs.Int.{w16, w32, to_be_bytes}
use Rattle.definitions.specs.Name.{Name, wire, wire_len}
use Rattle.definitions.specs.Dnskey.{Dnskey}
use Rattle.answer_publisher.specs.declared.fault.AnswerFault.{AnswerFault}
use Rattle.answer_publisher.specs.declared.fault.AnswerFault.TheVariants as fault
use Rattle.answer_scheme.specs.declared.error.SchemeError.{SchemeError}
use Rattle.answer_scheme.specs.declared.error.SchemeError.TheVariants as error
use Rattle.answer_terms.specs.Hashing.{Hasher}
use Rattle.answer_publisher.specs.AnswerFaults.{fault_of}
use Rattle.answer_publisher.specs.Answering.{RefusesAnswer, RefusesApex, ahead_of_records, apex_question}
use Rattle.answer_publisher.specs.Composed.{HasRoom, IsSection, IsTooLong, IsWritten, RefusesGroups, RefusesRecords, joined, rrsig_of}
use Rattle.answer_terms.specs.GroupView.{FailsFor, GroupView, IsRrsigData, Presents}
use Rattle.messages.specs.Message.{Asked}
use Rattle.answer_terms.specs.Served.{ServedRrset, Served, answer_groups}
use Rattle.messages.specs.Written.{Written, header_octets, question_octets, record_octets}
use Rattle.messages.proofs.MessageWritten.{record_parts, wire-length}
use Rattle.messages.proofs.NameLaws.{wire_len-some}
use Rattle.answer_publisher.proofs.SignAnswer.{section_more}
use Rattle.messages.proofs.Lists.{zip_append}

pub length_record : (r : Written) → length (record_octets r) ≡ wire_len r.owner + 10 + length r.octets
length_record r =
    let tail = to_be_bytes w16 (length r.octets) ++ (r.octets ++ []) in
    let rest = to_be_bytes w16 r.rtype ++ (to_be_bytes w16 r.class ++ (to_be_bytes w32 r.ttl ++ tail)) in
    omega (
      arith,
      ap length (sym (append-nil (record_octets r)) ∙ record_parts r []),
      length-append (wire r.owner) rest,
      length-append (to_be_bytes w16 r.rtype) (to_be_bytes w16 r.class ++ (to_be_bytes w32 r.ttl ++ tail)),
      length-append (to_be_bytes w16 r.class) (to_be_bytes w32 r.ttl ++ tail),
      length-append (to_be_bytes w32 r.ttl) tail,
      length-append (to_be_bytes w16 (length r.octets)) (r.octets ++ []),
      length-append r.octets [],
      wire-length r.owner,
    )

-- a record more
pub room_more : (old new : List ℕ) (c d : ℕ) (w : Written) → new ≡ old ++ record_octets w → d ≡ c + 1 → HasRoom old c → HasRoom new d
room_more old new c d w e n h = omega (arith, ap length e, length-append old (record_octets w), length_record w, wire_len-some w.owner)

one_record : (old : List ℕ) (w : Written) → length (old ++ flat_map record_octets (w ∷ [])) ≡ length old + length (record_octets w)
one_record old w = length-append old (record_octets w ++ []) ∙ ap (λ x. length old + length x) (append-nil (record_octets w))

pub long_data : (old : List ℕ) (w : Written) → 65535 < length w.octets → 65535 < length (old ++ flat_map record_octets (w ∷ []))
long_data old w h = omega (arith, one_record old w, length_record w)

part_length : {V : Type 0} (f : V → List ℕ) (vs : List V) (i : ℕ) (v : V) → i < length vs → v ≡ get_or vs i v → length (flat_map f (take i vs)) + length (f v) ≤ length (flat_map f vs)
part_length f [] i v h e = absurd (omega arith)
part_length f (x ∷ vs) zero v h e = omega (arith, length-append (f x) (flat_map f vs), ap (λ y. length (f y)) e)
part_length f (x ∷ vs) (suc i) v h e = omega (arith, length-append (f x) (flat_map f vs), length-append (f x) (flat_map f (take i vs)), part_length f vs i v (omega arith) e)

mapped : {V : Type 0} (f : V → Written) (vs : List V) → length (flat_map record_octets (map f vs)) ≡ length (flat_map (λ x. record_octets (f x)) vs)
mapped f [] = refl
mapped f (v ∷ vs) = omega (arith, length-append (record_octets (f v)) (flat_map record_octets (map f vs)), length-append (record_octets (f v)) (flat_map (λ x. record_octets (f x)) vs), mapped f vs)

-- a record of some that is too long makes them all too long
pub records_refused : {V : Type 0} (g : V → Written) (old mid : List ℕ) (c d : ℕ) (vs : List V) (i : ℕ) (v : V) (f : AnswerFault)
    → i < length vs → v ≡ get_or vs i v → mid ≡ old ++ flat_map (λ x. record_octets (g x)) (take i vs) → (HasRoom old c → HasRoom mid d)
    → RefusesRecords mid d (g v ∷ []) f → RefusesRecords old c (map g vs) f
records_refused g old mid c d vs i v fault.Memory inside is made room r = tt
records_refused g old mid c d vs i v fault.QuestionNotAllowed inside is made room r = r
records_refused g old mid c d vs i v fault.HashFailed inside is made room r = r
records_refused g old mid c d vs i v fault.SignFailed inside is made room r = r
records_refused {V} g old mid c d vs i v fault.TooLong inside is made room r = λ k.
    let o : V → List ℕ = λ x. record_octets (g x) in
    let long = r (room k) in
    omega (arith, long, one_record mid (g v), ap length made, length-append old (flat_map o (take i vs)), part_length o vs i v inside is, length-append old (flat_map record_octets (map g vs)), mapped g vs)

contains_at : (gs : List GroupView) (i : ℕ) (g : GroupView) → i < length gs → g ≡ get_or gs i g → Contains gs g
contains_at gs i g h e = subst (Contains gs) (sym e) (Contains-get_or gs i g h)

-- why a signature is missing
pub signing_refused : (sign : Dnskey → List ℕ → Option (List ℕ)) (verifies : Dnskey → List ℕ → List ℕ → Bool) (apex : Name) (at life : ℕ) (keys : List Dnskey) (more : ℕ) (gs : List GroupView) (i : ℕ) (g : GroupView) (e : SchemeError) (f : AnswerFault)
    → i < length gs → g ≡ get_or gs i g → f ≡ fault_of e → (e ≡ error.Failed → (g.signed ≡ true) × FailsFor sign apex at life g keys) → RefusesGroups sign verifies apex at life keys more gs f
signing_refused sign verifies apex at life keys more gs i g error.Failed f inside is e h =
    let p = h refl in subst (RefusesGroups sign verifies apex at life keys more gs) (sym e) (g, contains_at gs i g inside is, p.0, p.1)
signing_refused sign verifies apex at life keys more gs i g error.Memory f inside is e h = subst (RefusesGroups sign verifies apex at life keys more gs) (sym e) tt

pub if_err_map : {T E : Type 0} (P Q : E → Type 0) (r : Result T E) → ((e : E) → P e → Q e) → IfErr r P → IfErr r Q
if_err_map P Q (Ok x) f h = tt
if_err_map P Q (Err e) f h = f e h

-- the RRsets up to one, with that one's signatures, are too long
pub section_refused : (sign : Dnskey → List ℕ → Option (List ℕ)) (verifies : Dnskey → List ℕ → List ℕ → Bool) (apex : Name) (at life : ℕ) (keys : List Dnskey) (gs : List GroupView) (i : ℕ) (g : GroupView) (own : List Written) (datas : List (List ℕ)) (o : List ℕ) (c : ℕ) (f : AnswerFault)
    → i < length gs → g ≡ get_or gs i g → IsSection sign verifies apex at life keys (take i gs) o c → HasRoom o c
    → AllZip (IsRrsigData sign verifies apex at life g) (if g.signed then keys else []) datas
    → own ≡ g.written
    → RefusesRecords o c own f → RefusesGroups sign verifies apex at life keys 0 gs f
section_refused sign verifies apex at life keys gs i g own datas o c fault.Memory inside is before room made written r = tt
section_refused sign verifies apex at life keys gs i g own datas o c fault.QuestionNotAllowed inside is before room made written r = r
section_refused sign verifies apex at life keys gs i g own datas o c fault.HashFailed inside is before room made written r = r
section_refused sign verifies apex at life keys gs i g own datas o c fault.SignFailed inside is before room made written r = absurd r
section_refused sign verifies apex at life keys gs i g own datas o c fault.TooLong inside is before room made written r =
    let signatures = flat_map record_octets (map (rrsig_of g) datas) in
    let mid = o ++ flat_map record_octets own in
    let new = mid ++ signatures in
    let whole = section_more sign verifies apex at life keys gs i g own datas o mid new c (c + length own) (c + length own + length datas) inside is before made written refl refl refl refl in
    (take (i + 1) gs, drop (i + 1) gs, new, c + length own + length datas, sym (take-append-drop (i + 1) gs), whole, omega (arith, r room, length-append mid signatures))

pub signatures_refused : (sign : Dnskey → List ℕ → Option (List ℕ)) (verifies : Dnskey → List ℕ → List ℕ → Bool) (apex : Name) (at life : ℕ) (keys : List Dnskey) (gs : List GroupView) (i : ℕ) (g : GroupView) (own : List Written) (datas : List (List ℕ)) (o mid : List ℕ) (c d : ℕ) (f : AnswerFault)
    → i < length gs → g ≡ get_or gs i g → IsSection sign verifies apex at life keys (take i gs) o c → HasRoom mid d
    → AllZip (IsRrsigData sign verifies apex at life g) (if g.signed then keys else []) datas
    → own ≡ g.written
    → mid ≡ o ++ flat_map record_octets own → d ≡ c + length own
    → RefusesRecords mid d (map (rrsig_of g) datas) f → RefusesGroups sign verifies apex at life keys 0 gs f
signatures_refused sign verifies apex at life keys gs i g own datas o mid c d fault.Memory inside is before room made written m n r = tt
signatures_refused sign verifies apex at life keys gs i g own datas o mid c d fault.QuestionNotAllowed inside is before room made written m n r = r
signatures_refused sign verifies apex at life keys gs i g own datas o mid c d fault.HashFailed inside is before room made written m n r = r
signatures_refused sign verifies apex at life keys gs i g own datas o mid c d fault.SignFailed inside is before room made written m n r = absurd r
signatures_refused sign verifies apex at life keys gs i g own datas o mid c d fault.TooLong inside is before room made written m n r =
    let new = mid ++ flat_map record_octets (map (rrsig_of g) datas) in
    let whole = section_more sign verifies apex at life keys gs i g own datas o mid new c d (d + length datas) inside is before made written m n refl refl in
    (take (i + 1) gs, drop (i + 1) gs, new, d + length datas, sym (take-append-drop (i + 1) gs), whole, omega (arith, r room))

-- what refuses the first section, or the second, refuses the whole
pub first_refused : (sign : Dnskey → List ℕ → Option (List ℕ)) (verifies : Dnskey → List ℕ → List ℕ → Bool) (apex : Name) (at life : ℕ) (keys : List Dnskey) (more : ℕ) (gs hs : List GroupView) (f : AnswerFault)
    → RefusesGroups sign verifies apex at life keys 0 gs f → RefusesGroups sign verifies apex at life keys more (gs ++ hs) f
first_refused sign verifies apex at life keys more gs hs fault.Memory r = tt
first_refused sign verifies apex at life keys more gs hs fault.QuestionNotAllowed r = r
first_refused sign verifies apex at life keys more gs hs fault.HashFailed r = r
first_refused sign verifies apex at life keys more gs hs fault.SignFailed r = (r.0, Contains-append_left gs hs r.0 r.1, r.2, r.3)
first_refused sign verifies apex at life keys more gs hs fault.TooLong r =
    (r.0, r.1 ++ hs, r.2, r.3, ap (λ x. x ++ hs) r.4 ∙ append_assoc r.0 r.1 hs, r.5, omega (arith, r.6))

-- one section behind another
pub sections_joined : (sign : Dnskey → List ℕ → Option (List ℕ)) (verifies : Dnskey → List ℕ → List ℕ → Bool) (apex : Name) (at life : ℕ) (keys : List Dnskey) (gs hs : List GroupView) (o p : List ℕ) (c d : ℕ)
    → IsSection sign verifies apex at life keys gs o c → IsSection sign verifies apex at life keys hs p d → IsSection sign verifies apex at life keys (gs ++ hs) (o ++ p) (c + d)
sections_joined sign verifies apex at life keys gs hs o p c d s t =
    let both : joined (s.0 ++ t.0) ≡ joined s.0 ++ joined t.0 = flat_map-append (λ x. x) s.0 t.0 in (
      s.0 ++ t.0,
      (
        zip_append (IsWritten sign verifies apex at life keys) gs s.0 hs t.0 s.1.0 t.1.0,
        (λ j. s.1.1 j ++ t.1.1 j) ∙ sym (ap (flat_map record_octets) both ∙ flat_map-append record_octets (joined s.0) (joined t.0)),
        omega (arith, s.1.2, t.1.2, ap length both, length-append (joined s.0) (joined t.0)),
      ),
    )

pub second_refused : (sign : Dnskey → List ℕ → Option (List ℕ)) (verifies : Dnskey → List ℕ → List ℕ → Bool) (apex : Name) (at life : ℕ) (keys : List Dnskey) (more : ℕ) (gs hs : List GroupView) (o : List ℕ) (c : ℕ) (f : AnswerFault)
    → IsSection sign verifies apex at life keys gs o c → RefusesGroups sign verifies apex at life keys 0 hs f → RefusesGroups sign verifies apex at life keys more (gs ++ hs) f
second_refused sign verifies apex at life keys more gs hs o c fault.Memory s r = tt
second_refused sign verifies apex at life keys more gs hs o c fault.QuestionNotAllowed s r = r
second_refused sign verifies apex at life keys more gs hs o c fault.HashFailed s r = r
second_refused sign verifies apex at life keys more gs hs o c fault.SignFailed s r = (r.0, Contains-append_right gs hs r.0 r.1, r.2, r.3)
second_refused sign verifies apex at life keys more gs hs o c fault.TooLong s r =
    (gs ++ r.0, r.1, o ++ r.2, c + r.3, ap (λ x. gs ++ x) r.4 ∙ sym (append_assoc gs r.0 r.1), sections_joined sign verifies apex at life keys gs r.0 o r.2 c r.3 s r.5, omega (arith, r.6, length-append o r.2))

-- a whole message that is too long
pub message_refused : (sign : Dnskey → List ℕ → Option (List ℕ)) (verifies : Dnskey → List ℕ → List ℕ → Bool) (apex : Name) (at life : ℕ) (keys : List Dnskey) (flags : ℕ) (asked : Asked) (gs hs : List GroupView) (o p start head question first all : List ℕ) (n m : ℕ)
    → IsSection sign verifies apex at life keys gs o n → IsSection sign verifies apex at life keys hs p m
    → start ≡ [] → head ≡ start ++ header_octets flags n m → question ≡ head ++ question_octets asked.name asked.rtype asked.class → first ≡ question ++ o → all ≡ first ++ p → 65535 < length all
    → IsTooLong sign verifies apex at life keys (ahead_of_records asked) (gs ++ hs)
unfolding header_octets
message_refused sign verifies apex at life keys flags asked gs hs o p start head question first all n m s t empty h q f a long =
    let asks = question_octets asked.name asked.rtype asked.class in
    let headed : length head ≡ 12 = ap length (h ∙ ap (λ x. x ++ header_octets flags n m) empty) in (
      gs ++ hs,
      [],
      o ++ p,
      n + m,
      sym (append-nil (gs ++ hs)),
      sections_joined sign verifies apex at life keys gs hs o p n m s t,
      omega (arith, long, headed, ap length q, length-append head asks, ap length f, length-append question o, ap length a, length-append first p, length-append o p),
    )

-- what refuses the RRsets of an answer refuses the question
pub answer_refused : (sign : Dnskey → List ℕ → Option (List ℕ)) (verifies : Dnskey → List ℕ → List ℕ → Bool) (hash : Hasher) (s : Served) (apex : Name) (at life : ℕ) (keys : List Dnskey) (asked : Asked) (gs : List GroupView) (f : AnswerFault)
    → AllZip Presents gs (answer_groups s asked.name asked.rtype) → RefusesGroups sign verifies apex at life keys (ahead_of_records asked) gs f → RefusesAnswer sign verifies hash s apex at life keys asked f
answer_refused sign verifies hash s apex at life keys asked gs fault.Memory z r = tt
answer_refused sign verifies hash s apex at life keys asked gs fault.QuestionNotAllowed z r = absurd r
answer_refused sign verifies hash s apex at life keys asked gs fault.HashFailed z r = absurd r
answer_refused sign verifies hash s apex at life keys asked gs fault.SignFailed z r = (gs, z, r)
answer_refused sign verifies hash s apex at life keys asked gs fault.TooLong z r = (gs, z, r)

-- what refuses an RRset of the apex as it is seen refuses it
pub apex_refused : (sign : Dnskey → List ℕ → Option (List ℕ)) (verifies : Dnskey → List ℕ → List ℕ → Bool) (apex : Name) (at life : ℕ) (keys : List Dnskey) (of : ServedRrset) (g : GroupView) (f : AnswerFault)
    → Presents g of → RefusesGroups sign verifies apex at life keys (ahead_of_records (apex_question apex g.rtype)) (g ∷ []) f → RefusesApex sign verifies apex at life keys of f
apex_refused sign verifies apex at life keys of g fault.Memory z r = tt
apex_refused sign verifies apex at life keys of g fault.QuestionNotAllowed z r = (g, z, r)
apex_refused sign verifies apex at life keys of g fault.HashFailed z r = (g, z, r)
apex_refused sign verifies apex at life keys of g fault.SignFailed z r = (g, z, r)
apex_refused sign verifies apex at life keys of g fault.TooLong z r =
    (g, z, subst (λ t. RefusesGroups sign verifies apex at life keys (ahead_of_records (apex_question apex t)) (g ∷ []) fault.TooLong) z.rtype_is r)
