-- What a walk over a message tells of it.
use Rattle.std.proofs.Common.{◌≡◌, ℕ, zero, suc, ◌+◌, ◌-◌, ◌<◌, ◌≤◌, Bool, true, false, List, [], ◌∷◌, length, map, drop, Option, Some, None, Result, Ok, Err, get_or, inl, inr, refl, sym, ap, subst, ◌∙◌, arith}
use Rattle.std.specs.Prelude.{slice_get, unwrap_or}
use Rattle.std.proofs.lemmas.Option.{slice_get_cases, get_or_from_slice_get}
use Rattle.definitions.specs.Limits.{pointer_limit}
use Rattle.messages.specs.declared.error.MessageError.{MessageError}
use Rattle.messages.specs.Message.{Message, Spelled, behind, message, pair, record_at, records_at, u16_at}
use Rattle.messages.specs.Numbers.{NumbersReadAlike}
use Rattle.std.proofs.lemmas.List.{length-map}
use Rattle.messages.specs.declared.view.ViewRecord.{ViewRecord}
use Rattle.messages.specs.Record.{spelled}
use Rattle.messages.proofs.Lists.{items_from}
use Rattle.messages.proofs.MessageParts.{headed, next_record, placed_record, records_at-length}
use Rattle.messages.proofs.MessageRecords.{one_less}
use Rattle.messages_canonical.specs.Canonical.{IsCanonical, IsTooLong}
use Rattle.messages_canonical.specs.InForm.{GrowsTooLong, IsFormOf, IsInForm, are_in_form, is_in_form}
use Rattle.messages_canonical.specs.Walking.{EndsName, FindsRecords, Passes, StandsAt, TellsForm, data_in_form}
use Rattle.messages_canonical.proofs.InPlace.{in_form_there}
use Rattle.messages_canonical.proofs.Walked.{Leaves, owner_ends}

-- ---- octets

pub octet_is : (m : List ℕ) (p x : ℕ) → p < length m → x ≡ get_or m p 0 → slice_get m p ≡ Some x
octet_is m p x inside is =
    elim (slice_get_cases m p).1 [
      | inl w ↦ w.2 ∙ ap Some (sym (get_or_from_slice_get m p w.0 0 w.2) ∙ sym is)
      | inr w ↦ absurd (omega (arith, w.0, inside))
    ]

pub octet_none : (m : List ℕ) (p : ℕ) → length m ≤ p → slice_get m p ≡ None
octet_none m p outside =
    elim (slice_get_cases m p).1 [
      | inl w ↦ absurd (omega (arith, w.1, outside))
      | inr w ↦ w.1
    ]

get_outside : (m : List ℕ) (p d : ℕ) → length m ≤ p → get_or m p d ≡ d
get_outside [] p d h = refl
get_outside (x ∷ m) zero d h = absurd (omega (arith, h))
get_outside (x ∷ m) (suc p) d h = get_outside m p d (omega (arith, h))

-- an octet that is told whatever stands for one that isn't there
pub octet_told : (m : List ℕ) (p : ℕ) (o : Option ℕ) → ((d : ℕ) → unwrap_or o d ≡ get_or m p d) → slice_get m p ≡ o
octet_told m p (Some x) told =
    elim (slice_get_cases m p).1 [
      | inl w ↦ w.2 ∙ ap Some (sym (get_or_from_slice_get m p w.0 0 w.2) ∙ sym (told 0))
      | inr w ↦ absurd (omega (arith, told 0, told 1, get_outside m p 0 w.0, get_outside m p 1 w.0))
    ]
octet_told m p None told =
    elim (slice_get_cases m p).1 [
      | inl w ↦ absurd (omega (arith, told 0, told 1, get_or_from_slice_get m p w.0 0 w.2, get_or_from_slice_get m p w.0 1 w.2))
      | inr w ↦ w.1
    ]

-- ---- numbers

nothing_is : (x : ℕ) → None ≡ Some x → ⊥
nothing_is x e = cc

something_is : (x y : ℕ) → Some x ≡ Some y → x ≡ y
something_is x y e = cc

number_is : (x y : ℕ) (r : Result ℕ MessageError) → r ≡ Ok x → r ≡ Ok y → x ≡ y
number_is x y r p q = cc

module _ (alike : NumbersReadAlike) (m : List ℕ) where
  -- a number that is there is the one that was read
  pair_is : (p x : ℕ) → p + 1 < length m → u16_at m p ≡ Ok x → pair m p ≡ x
  pair_is p x inside h = number_is (pair m p) x (u16_at m p) (alike.pairs m p inside) h

  -- ---- the header

  pub no_place : EndsName m 12 None → (read : Message) → message pointer_limit m ≡ Ok read → ⊥
  no_place ends read h = let q = (headed pointer_limit m read h).question in nothing_is q.end (owner_ends m 12 (read.asked.name, q.end) None q.name ends)

  pub place : (count end : ℕ) → 12 ≤ length m → count ≡ pair m 6 + pair m 8 + pair m 10 → EndsName m 12 (Some end) → FindsRecords m (Some (end + 4, count))
  place count end long sum ends read h =
      let w = headed pointer_limit m read h in
      let q = w.question in
      let same : end ≡ q.end = something_is end q.end (owner_ends m 12 (read.asked.name, q.end) (Some end) q.name ends) in
      let behind : end + 4 ≡ w.behind = ap (λ n. n + 4) same ∙ sym q.limit in
      let a = pair_is 6 w.answers (omega (arith, long)) w.answers_at in
      let b = pair_is 8 w.authority (omega (arith, long)) w.authority_at in
      let c = pair_is 10 w.additional (omega (arith, long)) w.additional_at in
      let all : count ≡ w.answers + w.authority + w.additional = omega (arith, sum, a, b, c) in
      (w.behind, w.answers + w.authority + w.additional, (λ i. Some (behind i, all i)), w.records)

  -- ---- a record

  pub no_owner : (p : ℕ) (r : Spelled) (e : ℕ) → EndsName m p None → record_at pointer_limit m p ≡ Ok (r, e) → ⊥
  no_owner p r e ends h = let w = placed_record pointer_limit m p (r, e) h in nothing_is w.end (owner_ends m p (r.owner, w.end) None w.owner ends)

  pub no_numbers : (p end : ℕ) (r : Spelled) (e : ℕ) → EndsName m p (Some end) → length m < end + 10 → record_at pointer_limit m p ≡ Ok (r, e) → ⊥
  no_numbers p end r e ends short h =
      let w = placed_record pointer_limit m p (r, e) h in
      let same : end ≡ w.end = something_is end w.end (owner_ends m p (r.owner, w.end) (Some end) w.owner ends) in
      omega (arith, short, same, w.start, w.limit, w.inside)

  pub record_there : (p end t size : ℕ) (r : Spelled) (e : ℕ) → EndsName m p (Some end) → end + 10 ≤ length m → t ≡ pair m end → size ≡ pair m (end + 8) → record_at pointer_limit m p ≡ Ok (r, e)
      → (t ≡ r.rtype) × (end + 10 ≡ r.start) × (end + 10 + size ≡ e) × (e ≤ length m)
  record_there p end t size r e ends there type long h =
      let w = placed_record pointer_limit m p (r, e) h in
      let same : end ≡ w.end = something_is end w.end (owner_ends m p (r.owner, w.end) (Some end) w.owner ends) in
      let rtype : pair m end ≡ r.rtype = pair_is end r.rtype (omega (arith, there)) (ap (u16_at m) same ∙ w.rtype) in
      let len : pair m (end + 8) ≡ r.length = pair_is (end + 8) r.length (omega (arith, there)) (ap (λ n. u16_at m (n + 8)) same ∙ w.length_at) in
      (type ∙ rtype, omega (arith, same, w.start), omega (arith, same, w.start, w.limit, long, len), w.inside)

-- ---- records in turn

abbrev Place : Type 0
Place = ℕ × ℕ

places_are : (a b : Place) → Some a ≡ Some b → a ≡ b
places_are a b e = cc

-- the records that were found are those of the message
pub found_records : (m : List ℕ) (first count : ℕ) (read : Message) → FindsRecords m (Some (first, count)) → message pointer_limit m ≡ Ok read → records_at count pointer_limit m first ≡ Ok read.records
found_records m first count read finds h =
    let w = finds read h in
    ap (λ (x : Place). records_at x.1 pointer_limit m x.0) (places_are (first, count) (w.0, w.1) w.2) ∙ w.3

abbrev Told : Type 0
Told = ℕ × ℕ × ℕ

told_are : (a b : Told) → Some a ≡ Some b → a ≡ b
told_are a b e = cc

-- what is told of the data of a record that reads there
pub form_here : (m : List ℕ) (p t start limit : ℕ) (b : Bool) → Passes m p (Some (t, start, limit)) → b ≡ data_in_form pointer_limit m t start limit → (r : Spelled × ℕ) → record_at pointer_limit m p ≡ Ok r → (limit ≡ r.1) × (is_in_form pointer_limit m r.0 ≡ b)
form_here m p t start limit b passes is r h =
    let w = placed_record pointer_limit m p r h in
    let same = told_are (t, start, limit) (r.0.rtype, r.0.start, r.1) (passes r.0 r.1 h) in
    let inside : behind r.0 ≤ length m = omega (arith, w.limit, w.inside) in
    let end : behind r.0 ≡ r.1 = sym w.limit in (
      ap (λ (x : Told). x.2) same,
      in_form_there m r.0 inside ∙ ap (data_in_form pointer_limit m r.0.rtype r.0.start) end ∙ sym (ap (λ (x : Told). data_in_form pointer_limit m x.0 x.1 x.2) same) ∙ sym is,
    )

-- there is a record where some are left
pub record_left : (m : List ℕ) (rs : List Spelled) (left p : ℕ) → Leaves m rs (suc left) p → Passes m p None → ⊥
record_left m rs left p l passes =
    let n = next_record pointer_limit m left p l.rest l.reads in
    let e = passes n.next.0 n.next.1 n.is in
    cc

-- ---- records of a list, where they stand in the message

-- the records of a list from a place in it on stand in the message from a place on
abbrev pub StandOn : List ℕ → List ViewRecord → ℕ → ℕ → Type 0
StandOn m rs i p = records_at (length rs - i) pointer_limit m p ≡ Ok (map spelled (drop i rs))

heads_are : (a b : Spelled) (xs ys : List Spelled) → a ∷ xs ≡ b ∷ ys → (a ≡ b) × (xs ≡ ys)
heads_are a b xs ys e = (cc, cc)

pub next_stands : (m : List ℕ) (rs : List ViewRecord) (i p : ℕ) (r : ViewRecord) → i < length rs → r ≡ get_or rs i r → StandOn m rs i p → StandsAt m p (spelled r) × StandOn m rs (i + 1) (r.start + r.length)
next_stands m rs i p r inside is stand =
    let left = length rs - (i + 1) in
    let all : map spelled (drop i rs) ≡ spelled r ∷ map spelled (drop (i + 1) rs) = ap (map spelled) (items_from rs i r inside is) in
    let some : records_at (suc left) pointer_limit m p ≡ Ok (spelled r ∷ map spelled (drop (i + 1) rs)) =
    ap (λ n. records_at n pointer_limit m p) (sym (one_less (length rs) i inside)) ∙ stand ∙ ap Ok all in
    let n = next_record pointer_limit m left p (spelled r ∷ map spelled (drop (i + 1) rs)) some in
    let same = heads_are (spelled r) n.next.0 (map spelled (drop (i + 1) rs)) n.more n.whole in
    let w = placed_record pointer_limit m p n.next n.is in
    let end : r.start + r.length ≡ n.next.1 = ap behind same.0 ∙ sym w.limit in (
      n.is ∙ (λ i. Ok (sym same.0 i, sym end i)),
      ap (λ x. records_at left pointer_limit m x) end ∙ n.reads ∙ ap Ok (sym same.1),
    )

-- all records of a message that reads
pub all_stand : (m : List ℕ) (read : Message) (rs : List ViewRecord) (first count : ℕ) → FindsRecords m (Some (first, count)) → message pointer_limit m ≡ Ok read → map spelled rs ≡ read.records → records_at (length rs) pointer_limit m first ≡ Ok (map spelled rs)
all_stand m read rs first count finds h are =
    let reads = found_records m first count read finds h in
    let counted : count ≡ length rs = sym (records_at-length count pointer_limit m first read.records reads) ∙ sym (ap length are) ∙ length-map rs spelled in
    ap (λ n. records_at n pointer_limit m first) (sym counted) ∙ reads ∙ ap Ok (sym are)

-- ---- the whole

abbrev FormOf : List ℕ → List ℕ → Result Message MessageError → Type 0
FormOf m octets r = elim r [ Err fault ↦ octets ≡ m | Ok read ↦ IsFormOf (are_in_form pointer_limit m read.records) m octets ]

pub as_received : (m : List ℕ) → TellsForm m true → IsInForm m m
as_received m told = go (message pointer_limit m) refl
  where
    go : (r : Result Message MessageError) → message pointer_limit m ≡ r → FormOf m m r
    go (Err fault) e = refl
    go (Ok read) e = subst (λ b. IsFormOf b m m) (told read e) refl

pub written_anew : (m octets : List ℕ) → TellsForm m false → IsCanonical m octets → IsInForm m octets
written_anew m octets told is =
    let form : FormOf m octets (Ok is.read) = subst (λ b. IsFormOf b m octets) (told is.read is.reads) is in
    subst (FormOf m octets) (sym is.reads) form

pub not_read : (m : List ℕ) (fault : MessageError) → message pointer_limit m ≡ Err fault → IsInForm m m
not_read m fault e = let form : FormOf m m (Err fault) = refl in subst (FormOf m m) (sym e) form

pub grows_long : (m : List ℕ) → TellsForm m false → IsTooLong m → GrowsTooLong m
grows_long m told is = record { read = is.read; reads = is.reads; unlike = sym (told is.read is.reads); long = is.long }
