-- Data that spell one name are its wire form.
use Rattle.std.proofs.Common.{◌≡◌, ℕ, ◌+◌, ◌≤◌, Bool, true, false, List, [], ◌∷◌, ◌++◌, length, drop, refl, sym, ap, ◌∙◌, arith, append_assoc, Option, Some, None, Result, Ok, Err}
use Rattle.std.specs.Prelude.{slice_range, nat_eq}
use Rattle.std.specs.List.{flat_map}
use Rattle.std.proofs.lemmas.Bool.{eqb-true}
use Rattle.std.proofs.lemmas.List.{append-nil, drop_all}
use Rattle.std.proofs.lemmas.List.Folds.{drop_split}
use Rattle.definitions.specs.Name.{Name, wire}
use Rattle.definitions.specs.Reading.{Reads, root, label, pointer, pointers_of, ReadFault, name_at}
use Rattle.definitions.proofs.ReadingLaws.{reads_exactly, length-range, pointers_few}
use Rattle.names_wire.proofs.AlongNames.{drop_at}
use Rattle.messages.specs.declared.error.MessageError.{MessageError}
use Rattle.messages.specs.Message.{fault_of, if_true, owner_at}
use Rattle.messages.specs.NameOctets.{name_of_octets}
use Rattle.answer_findings.specs.Seen.{one_name}

-- what is read without pointers is the wire form of a name, and what stands behind it
octets_on : {m : List ℕ} {p k e : ℕ} {n : Name} → (r : Reads m p k n e) → pointers_of r ≡ 0 → drop p m ≡ wire n ++ drop e m
octets_on {m} {p} (root h b) z = drop_at m p 0 h ∙ ap (λ q. 0 ∷ drop q m) (sym b)
octets_on {m} {p} {k} {e = b} (label {n = n} {e = e} {l = l} {ls = ls} h a s c d g r) z =
    let inside : p + 1 + n ≤ length m = omega (arith, c, d) in
    let len : length l ≡ n = ap length g ∙ ap (λ x. length (slice_range m (p + 1) x)) c ∙ length-range m (p + 1) n inside in
    let behind : drop (p + 1) m ≡ l ++ (wire ls ++ drop b m) =
    drop_split m (p + 1) e (omega (arith, c)) ∙ ap (λ x. x ++ drop e m) (sym g) ∙ ap (λ x. l ++ x) (octets_on r z) in
    drop_at m p n h ∙ (λ i. sym len i ∷ behind i)
    ∙ sym (append_assoc (length l ∷ l) (wire ls) (drop b m))
    ∙ ap (λ x. x ++ drop b m) (sym (append_assoc (length l ∷ l) (flat_map (λ k. length k ∷ k) ls) (0 ∷ [])))
octets_on (pointer h a b c d e r) z = absurd (omega (arith, z))

-- a name that all of the octets spell, without pointers
all_wire : (octets : List ℕ) (n : Name) → Reads octets 0 0 n (length octets) → octets ≡ wire n
all_wire octets n r =
    octets_on r (omega (arith, pointers_few r)) ∙ ap (λ x. wire n ++ x) (drop_all (length octets) octets (omega arith)) ∙ append-nil (wire n)

abbrev faulted : Result (Name × ℕ) ReadFault → Result (Name × ℕ) MessageError
faulted r = elim r [ Ok r ↦ Ok r | Err f ↦ Err (fault_of f) ]

found_in : (r : Result (Name × ℕ) ReadFault) (n : Name × ℕ) → faulted r ≡ Ok n → r ≡ Ok n
found_in (Ok m) n h = let is : m ≡ n = cc in ap (λ x. Ok x) is
found_in (Err f) n h = absurd cc

owner_named : (octets : List ℕ) (n : Name × ℕ) → owner_at 0 octets 0 ≡ Ok n → name_at 0 octets 0 ≡ Ok n
unfolding owner_at
owner_named octets n h = found_in (name_at 0 octets 0) n h

abbrev whole : List ℕ → Result (Name × ℕ) MessageError → Option Name
whole octets r = elim r [ Err e ↦ None | Ok n ↦ if_true (nat_eq n.1 (length octets)) n.0 ]

if_is : (b : Bool) (m n : Name) → if_true b m ≡ Some n → (b ≡ true) × (m ≡ n)
if_is true m n h = (refl, cc)
if_is false m n h = absurd cc

-- octets that spell a name are its wire form
pub spells_wire : (octets : List ℕ) (n : Name) → name_of_octets octets ≡ Some n → octets ≡ wire n
spells_wire octets n h = go (owner_at 0 octets 0) refl h
  where
    go : (r : Result (Name × ℕ) MessageError) → owner_at 0 octets 0 ≡ r → whole octets r ≡ Some n → octets ≡ wire n
    go (Err e) f h = absurd cc
    go (Ok m) f h =
        let both = if_is (nat_eq m.1 (length octets)) m.0 n h in
        let end : m.1 ≡ length octets = eqb-true m.1 (length octets) both.0 in
        let at : name_at 0 octets 0 ≡ Ok (n, length octets) = owner_named octets m f ∙ (λ i. Ok (both.1 i, end i)) in
        all_wire octets n ((reads_exactly octets 0 0 n (length octets)).0 at).0

pub one_name_is : (ds : List (List ℕ)) (n : Name) → one_name ds ≡ Some n → ds ≡ wire n ∷ []
one_name_is [] n h = absurd cc
one_name_is (d ∷ []) n h = ap (λ o. o ∷ []) (spells_wire d n h)
one_name_is (d ∷ e ∷ ds) n h = absurd cc
