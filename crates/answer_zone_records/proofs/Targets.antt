-- Octets that are exactly one name, without pointers.
use Rattle.std.proofs.Common.{◌≡◌, ℕ, Bool, true, false, not, List, [], ◌∷◌, ◌++◌, ◌+◌, ◌-◌, length, take, inl, inr, refl, sym, ap, subst, ◌∙◌, arith, Option, Some, None, Result, Ok, Err}
use Rattle.std.specs.Prelude.{◌↔◌, ◌⊎◌, IsOk, MatchBool, nat_eq, slice_range}
use Rattle.std.specs.Option.{is_none}
use Rattle.std.specs.Result.{is_ok}
use Rattle.std.proofs.lemmas.Bool.{eq-eqb, eqb-true, false≢true}
use Rattle.std.proofs.lemmas.List.{append-nil, take_all}
use Rattle.definitions.specs.Limits.{pointer_limit}
use Rattle.definitions.specs.Name.{Name, wire, wire_len}
use Rattle.definitions.specs.Reading.{ReadFault, name_at}
use Rattle.definitions.proofs.ReadingLaws.{reads_exactly}
use Rattle.names_labels.specs.Flat.{SpellsName}
use Rattle.names_labels.proofs.Checks.{length-wire}
use Rattle.names_parsed.specs.Standing.{Stands, name_from}
use Rattle.names_parsed.proofs.Inversion.{limit_fits, more_pointers, standing}
use Rattle.names_parsed.proofs.Parsing.{is_name}
use Rattle.names_parsed.proofs.Rows.{row_spells, row_stands}
use Rattle.messages.specs.Handed.{IsHanded, SpellsNs, SpellsSoa}
use Rattle.messages.specs.HandedRr.{HandedRr, among}
use Rattle.messages.specs.Message.{fault_of, if_true, owner_at}
use Rattle.messages.specs.NameOctets.{name_of_octets}
use Rattle.messages.specs.declared.error.MessageError.{MessageError}
use Rattle.messages.proofs.NameWritten.{owner_wire}
use Rattle.answer_terms.specs.Accepting.{is_alias}
use Rattle.answer_zone_records.specs.AliasFaults.{HasTarget, lacks_target}

-- ---- what is read of a message at its front

abbrev faulted : Result (Name × ℕ) ReadFault → Result (Name × ℕ) MessageError
faulted r = elim r [ Ok r ↦ Ok r | Err f ↦ Err (fault_of f) ]

found_in : (r : Result (Name × ℕ) ReadFault) (n : Name × ℕ) → faulted r ≡ Ok n → r ≡ Ok n
found_in (Ok m) n h = let is : m ≡ n = cc in ap (λ x. Ok x) is
found_in (Err f) n h = absurd cc

owner_named : (bs : List ℕ) (n : Name × ℕ) → owner_at 0 bs 0 ≡ Ok n → name_at 0 bs 0 ≡ Ok n
unfolding owner_at
owner_named bs n h = found_in (name_at 0 bs 0) n h

-- the name, if it ends where the octets end
abbrev whole : List ℕ → Result (Name × ℕ) MessageError → Option Name
whole bs r = elim r [ Err e ↦ None | Ok n ↦ if_true (nat_eq n.1 (length bs)) n.0 ]

if_is : (b : Bool) (m n : Name) → if_true b m ≡ Some n → (b ≡ true) × (m ≡ n)
if_is true m n h = (refl, cc)
if_is false m n h = absurd cc

-- a name that ends where the octets end has them as its wire form
spells_at : (bs : List ℕ) (n : Name) → name_at 0 bs 0 ≡ Ok (n, length bs) → SpellsName bs n
spells_at bs n at =
    let r = (reads_exactly bs 0 0 n (length bs)).0 at in
    let stands : Stands bs 0 n (length bs) = record { reads = more_pointers r.0 pointer_limit limit_fits; short = r.1 } in
    let named = standing bs 0 n (length bs) stands in
    let spells : SpellsName (slice_range bs 0 (length bs)) (name_from bs 0) = row_spells bs 0 (length bs) (is_name bs 0 named.0) (row_stands bs 0 (length bs) n r.0 r.1) in
    let count : length bs - 0 ≡ length bs = omega arith in
    let all : slice_range bs 0 (length bs) ≡ bs = ap (λ k. take k bs) count ∙ take_all (length bs) bs (omega arith) in
    subst (λ o. SpellsName o n) all (subst (SpellsName (slice_range bs 0 (length bs))) named.1 spells)

pub spells : (bs : List ℕ) (n : Name) → name_of_octets bs ≡ Some n → SpellsName bs n
spells bs n h = go (owner_at 0 bs 0) refl h
  where
    go : (r : Result (Name × ℕ) MessageError) → owner_at 0 bs 0 ≡ r → whole bs r ≡ Some n → SpellsName bs n
    go (Err e) f h = absurd cc
    go (Ok m) f h =
        let both = if_is (nat_eq m.1 (length bs)) m.0 n h in
        let end : m.1 ≡ length bs = eqb-true m.1 (length bs) both.0 in
        spells_at bs n (owner_named bs m f ∙ (λ i. Ok (both.1 i, end i)))

pub spelled : (bs : List ℕ) (n : Name) → SpellsName bs n → name_of_octets bs ≡ Some n
spelled bs n s =
    let wired : bs ≡ wire n ++ [] = sym (append-nil (wire n) ∙ s.octets) in
    let long : wire_len n ≡ length bs = sym (length-wire n) ∙ ap length s.octets in
    let ends : nat_eq (0 + wire_len n) (length bs) ≡ true = eq-eqb (0 + wire_len n) (length bs) (omega (arith, long)) in
    ap (whole bs) (owner_wire 0 n [] [] bs 0 s.name wired refl) ∙ ap (λ b. if_true b n) ends

-- what tells whether octets spell a name tells whether the definition has one
pub tells_name : {E : Type 0} (bs : List ℕ) (r : Result (Name) E) → (IsOk r ↔ ((n : Name) × SpellsName bs n)) → is_ok r ≡ not (is_none (name_of_octets bs))
tells_name {E} bs r told = go r told (name_of_octets bs) refl
  where
    go : (r : Result Name E) → (IsOk r ↔ ((n : Name) × SpellsName bs n)) → (o : Option Name) → name_of_octets bs ≡ o → is_ok r ≡ not (is_none o)
    go (Ok m) t None e = let s = t.0 refl in absurd (let x : None ≡ Some s.0 = sym e ∙ spelled bs s.0 s.1 in cc)
    go (Ok m) t (Some n) e = refl
    go (Err f) t None e = refl
    go (Err f) t (Some n) e = absurd (false≢true (t.1 (n, spells bs n e)))

-- ---- aliases

named : (o : Option Name) → is_none o ≡ false → (n : Name) × (o ≡ Some n)
named None h = absurd (false≢true (sym h))
named (Some n) h = (n, refl)

-- an alias is of no type whose data are kept in parts
as_written : (r : HandedRr) → IsHanded r → is_alias r ≡ true → r.written ≡ r.bytes
as_written r h a = go r.is_unknown h.spells
  where
    no_part : (t : ℕ) → r.rtype ≡ t → among (5 ∷ 39 ∷ []) t ≡ false → r.written ≡ r.bytes
    no_part t e f = absurd (false≢true (sym (ap (among (5 ∷ 39 ∷ [])) e ∙ f) ∙ a))

    go : (b : Bool) → MatchBool b (r.bytes ≡ r.written) (((r.rtype ≡ 2) × SpellsNs r.written r.bytes) ⊎ ((r.rtype ≡ 6) × SpellsSoa r.written r.bytes)) → r.written ≡ r.bytes
    go true e = sym e
    go false (inl p) = no_part 2 p.0 refl
    go false (inr p) = no_part 6 p.0 refl

-- the target of an alias that does not lack one
pub target : (r : HandedRr) → IsHanded r → is_alias r ≡ true → lacks_target r ≡ false → HasTarget r
target r h a l =
    let n = named (name_of_octets r.bytes) l in
    let s = spells r.bytes n.0 n.1 in
    record { name = n.0; is = s.name; written_is = as_written r h a ∙ sym s.octets }
