-- The links that a given message proves are those of its NSEC records.
use Rattle.std.proofs.Common.{[], ◌≡◌, ℕ, Bool, true, false, ◌&&◌, List, ◌∷◌, ◌++◌, Option, Some, None, cond, eqb, length, refl, sym, ap, subst, ◌∙◌, inl, inr}
use Rattle.std.specs.Prelude.{if◌then◌else◌}
use Rattle.std.specs.List.{AllZip, cons_option, filter, filter_map}
use Rattle.std.specs.Option.{option_map}
use Rattle.std.proofs.lemmas.Bool.{and_from, eq-eqb, eqb-true}
use Rattle.std.proofs.lemmas.List.Elements.{filter_map-append}
use Rattle.definitions.specs.Name.{Name, at_or_above, wire}
use Rattle.definitions.specs.Dnskey.{Dnskey}
use Rattle.definitions.specs.Zone.{sorted_data}
use Rattle.denial_laws.specs.Facts.{Link}
use Rattle.answer_terms.specs.Told.{TellsGroups, AreRecords, AreSignatures, IsRecord, IsValidSignature}
use Rattle.answer_judge.proofs.GivenGroups.{SameLink, SaysLink, has_twins, is_nsec}
use Rattle.messages.specs.Message.{Spelled, nsec_at}
use Rattle.answer_terms.specs.Served.{ServedRrset}
use Rattle.answer_judge_facts.specs.Verified.{Trusting, is_link, is_verified, link_at, link_of, rrset_in, verified_links}
use Rattle.answer_judge.proofs.GivenNext.{nsec_given}
use Rattle.answer_judge.proofs.GivenRecords.{rrset_given}
use Rattle.answer_judge_facts.proofs.JudgeCase.{above-owner}
use Rattle.answer_judge.proofs.GivenSignatures.{IsSignedBy, verified_given}
use Rattle.messages.proofs.Lists.{Has}

-- ---- one record

abbrev link_when : Bool → Option Link → Option Link
link_when b o = elim b [ true ↦ o | false ↦ None ]

other_type : (w : Trusting) (k : ℕ) (m : List ℕ) (rs : List Spelled) (r : Spelled) → eqb r.rtype 47 ≡ false → link_at w k m rs r ≡ None
other_type w k m rs r e = ap (λ b. link_when (b && eqb r.class 1 && at_or_above w.apex r.owner && eqb (length (rrset_in k m rs r.owner 47)) 1 && is_verified w k m rs r.owner 47 (rrset_in k m rs r.owner 47)) (link_of k m r)) e

-- a record says its link
pub record Proves (w : Trusting) (k : ℕ) (m : List ℕ) (rs : List Spelled) (r : Spelled) (l : Link) : Type 0 where
  pub link : Link
  pub proven : link_at w k m rs r ≡ Some link
  pub is : SameLink link l

pub sorted_one : (d : List ℕ) (ds : List (List ℕ)) → ds ≡ d ∷ [] → sorted_data ds ≡ d ∷ []
sorted_one d ds e = ap sorted_data e

abbrev with_owner : Name → Option (Name × List ℕ) → Option Link
with_owner o n = option_map (λ (x : Name × List ℕ). record { owner = o; next = x.0; bits = x.1 }) n

-- what is known of the NSEC records of the whole message
pub record IsProof (w : Trusting) (apex : Name) (at life : ℕ) (keys : List Dnskey) (gs : List ServedRrset) (g : ServedRrset) (key : Dnskey) : Type 0 where
  pub by : IsSignedBy w apex at life keys gs g key
  pub below : at_or_above apex g.owner ≡ true

proves : (w : Trusting) (k : ℕ) (m : List ℕ) (rs : List Spelled) (apex : Name) (at life : ℕ) (keys : List Dnskey) (gs : List ServedRrset) (g : ServedRrset) (key : Dnskey) (r : Spelled) (l : Link) (d : List ℕ) → TellsGroups w.answers.verifies k m rs apex at life keys gs → has_twins gs ≡ false
    → IsProof w apex at life keys gs g key → g.rtype ≡ 47 → SaysLink g l → g.datas ≡ d ∷ [] → IsRecord k m r g.owner g.rtype d → Proves w k m rs r l
proves w k m rs apex at life keys gs g key r l d are alone p t says one is =
    let type_is : r.rtype ≡ 47 = is.type_is ∙ t in
    let there : rrset_in k m rs r.owner 47 ≡ d ∷ [] = rrset_given w.answers.verifies k m rs apex at life keys gs r.owner 47 g refl are alone p.by.group t (sym is.owner_is) ∙ sorted_one d g.datas one in
    let verified : is_verified w k m rs r.owner 47 (d ∷ []) ≡ true = ap (is_verified w k m rs r.owner 47) (sym one) ∙ verified_given w k m rs apex at life keys gs r.owner 47 g key are p.by t (sym is.owner_is) in
    let inside : at_or_above w.apex r.owner ≡ true = ap (λ n. at_or_above n r.owner) p.by.apex_is ∙ above-owner apex r.owner g.owner is.owner_is ∙ p.below in
    let linked : is_link w k m rs r ≡ true = and_from _ _ (and_from _ _ (and_from _ _ (and_from _ _ (eq-eqb r.rtype 47 type_is) (eq-eqb r.class 1 is.class_is)) inside) (ap (λ (ds : List (List ℕ)). eqb (length ds) 1) there)) (ap (is_verified w k m rs r.owner 47) there ∙ verified) in
    let datum : d ≡ wire l.next ++ l.bits = head_is d (wire l.next ++ l.bits) (sym one ∙ says.data_are) in
    let reads : nsec_at k m r ≡ Some (l.next, l.bits) = nsec_given k m r l.next l.bits says.labels type_is (is.data_is ∙ ap Some datum) in
    record {
      link = record { owner = r.owner; next = l.next; bits = l.bits };
      proven = ap (λ b. link_when b (link_of k m r)) linked ∙ ap (with_owner r.owner) reads;
      is = record { owner_is = is.owner_is ∙ says.owner_is; next_is = refl; bits_are = refl };
    }
  where
    head_is : (a b : List ℕ) → a ∷ [] ≡ b ∷ [] → a ≡ b
    head_is a b e = cc

-- ---- all records

none_signed : (w : Trusting) (v : Dnskey → List ℕ → List ℕ → Bool) (k : ℕ) (m : List ℕ) (rs xs : List Spelled) (apex : Name) (at life : ℕ) (g : ServedRrset) (keys : List Dnskey) → AreSignatures v k m xs apex at life g keys → filter_map (link_at w k m rs) xs ≡ []
none_signed w v k m rs [] apex at life g [] h = refl
none_signed w v k m rs [] apex at life g (key ∷ keys) h = absurd h
none_signed w v k m rs (r ∷ xs) apex at life g [] h = absurd h
none_signed w v k m rs (r ∷ xs) apex at life g (key ∷ keys) h =
    let is : IsValidSignature v k m r apex at life g key = h.0 in
    let other : eqb r.rtype 47 ≡ false = ap (λ n. eqb n 47) is.type_is in
    λ i. cons_option (other_type w k m rs r other i) (none_signed w v k m rs xs apex at life g keys h.1 i)

none_other : (w : Trusting) (k : ℕ) (m : List ℕ) (rs xs : List Spelled) (g : ServedRrset) (ds : List (List ℕ)) → is_nsec g ≡ false → AreRecords k m xs g ds → filter_map (link_at w k m rs) xs ≡ []
none_other w k m rs [] g [] e h = refl
none_other w k m rs [] g (d ∷ ds) e h = absurd h
none_other w k m rs (r ∷ xs) g [] e h = absurd h
none_other w k m rs (r ∷ xs) g (d ∷ ds) e h =
    let is : IsRecord k m r g.owner g.rtype d = h.0 in
    let other : eqb r.rtype 47 ≡ false = ap (λ n. eqb n 47) is.type_is ∙ e in
    λ i. cons_option (other_type w k m rs r other i) (none_other w k m rs xs g ds e h.1 i)

-- a group with one datum has one record
pub record OneRecord (k : ℕ) (m : List ℕ) (xs : List Spelled) (g : ServedRrset) (d : List ℕ) : Type 0 where
  pub spelled : Spelled
  pub are : xs ≡ spelled ∷ []
  pub is : IsRecord k m spelled g.owner g.rtype d

pub one_record : (k : ℕ) (m : List ℕ) (xs : List Spelled) (g : ServedRrset) (d : List ℕ) → AreRecords k m xs g (d ∷ []) → OneRecord k m xs g d
one_record k m [] g d h = absurd h
one_record k m (r ∷ []) g d h = record { spelled = r; are = refl; is = h.0 }
one_record k m (r ∷ s ∷ xs) g d h = absurd h.1

abbrev Linked : Trusting → ℕ → List ℕ → List Spelled → List Spelled → List Link → Type 0
Linked w k m rs xs ls = AllZip SameLink (filter_map (link_at w k m rs) xs) ls

-- what the records of one NSEC group prove is put in front
linked_more : (w : Trusting) (k : ℕ) (m : List ℕ) (rs own signatures rest : List Spelled) (r : Spelled) (l : Link) (ls : List Link) → own ≡ r ∷ [] → filter_map (link_at w k m rs) signatures ≡ [] → Proves w k m rs r l → Linked w k m rs rest ls → Linked w k m rs (own ++ signatures ++ rest) (l ∷ ls)
linked_more w k m rs own signatures rest r l ls one none p h =
    let f = link_at w k m rs in
    let first : filter_map f own ≡ p.link ∷ [] = ap (filter_map f) one ∙ ap (λ o. cons_option o []) p.proven in
    let whole : filter_map f (own ++ signatures ++ rest) ≡ p.link ∷ filter_map f rest =
    filter_map-append f (own ++ signatures) rest ∙ ap (λ ys. ys ++ filter_map f rest) (filter_map-append f own signatures ∙ (λ i. first i ++ none i)) in
    subst (λ ys. AllZip SameLink ys (l ∷ ls)) (sym whole) (p.is, h)

linked_same : (w : Trusting) (k : ℕ) (m : List ℕ) (rs own signatures rest : List Spelled) (ls : List Link) → filter_map (link_at w k m rs) own ≡ [] → filter_map (link_at w k m rs) signatures ≡ [] → Linked w k m rs rest ls → Linked w k m rs (own ++ signatures ++ rest) ls
linked_same w k m rs own signatures rest ls first none h =
    let f = link_at w k m rs in
    let whole : filter_map f (own ++ signatures ++ rest) ≡ filter_map f rest =
    filter_map-append f (own ++ signatures) rest ∙ ap (λ ys. ys ++ filter_map f rest) (filter_map-append f own signatures ∙ (λ i. first i ++ none i)) in
    subst (λ ys. AllZip SameLink ys ls) (sym whole) h

module _ (w : Trusting) (k : ℕ) (m : List ℕ) (rs : List Spelled) (apex : Name) (at life : ℕ) (keys : List Dnskey) (all : List ServedRrset) (key : Dnskey)
    (are : TellsGroups w.answers.verifies k m rs apex at life keys all) (alone : has_twins all ≡ false) where
  linked_in : (xs : List Spelled) (gs : List ServedRrset) (ls : List Link) → ((g : ServedRrset) → Has gs g → g.rtype ≡ 47 → IsProof w apex at life keys all g key) → TellsGroups w.answers.verifies k m xs apex at life keys gs → AllZip SaysLink (filter is_nsec gs) ls → Linked w k m rs xs ls
  linked_in xs [] [] each h z = subst (λ ys. Linked w k m rs ys []) (sym h) tt
  linked_in xs [] (l ∷ ls) each h z = absurd z
  linked_in xs (g ∷ gs) ls each (own, signatures, rest, parts, records, signs, more) z =
      subst (λ ys. Linked w k m rs ys ls) (sym parts) (go (is_nsec g) refl ls z (λ ks y. linked_in rest gs ks (λ x i. each x (inr i)) more y))
    where
      none : filter_map (link_at w k m rs) signatures ≡ []
      none = none_signed w w.answers.verifies k m rs signatures apex at life g (if g.signed then keys else []) signs

      go : (b : Bool) → is_nsec g ≡ b → (ks : List Link) → AllZip SaysLink (cond b (g ∷ filter is_nsec gs) (filter is_nsec gs)) ks → ((js : List Link) → AllZip SaysLink (filter is_nsec gs) js → Linked w k m rs rest js) → Linked w k m rs (own ++ signatures ++ rest) ks
      go true e [] y later = absurd y
      go true e (l ∷ ks) y later =
          let says : SaysLink g l = y.0 in
          let t : g.rtype ≡ 47 = eqb-true g.rtype 47 e in
          let d : List ℕ = wire l.next ++ l.bits in
          let one : OneRecord k m own g d = one_record k m own g d (subst (λ ds. AreRecords k m own g ds) says.data_are records) in
          linked_more w k m rs own signatures rest one.spelled l ks one.are none (proves w k m rs apex at life keys all g key one.spelled l d are alone (each g (inl refl) t) t says says.data_are one.is) (later ks y.1)
      go false e ks y later = linked_same w k m rs own signatures rest ks (none_other w k m rs own g g.datas e records) none (later ks y)

-- the links of a message are what its NSEC groups say
pub verified_links_given : (w : Trusting) (k : ℕ) (m : List ℕ) (rs : List Spelled) (apex : Name) (at life : ℕ) (keys : List Dnskey) (gs : List ServedRrset) (key : Dnskey) (ls : List Link) → TellsGroups w.answers.verifies k m rs apex at life keys gs → has_twins gs ≡ false
    → ((g : ServedRrset) → Has gs g → g.rtype ≡ 47 → IsProof w apex at life keys gs g key) → AllZip SaysLink (filter is_nsec gs) ls → AllZip SameLink (verified_links w k m rs) ls
verified_links_given w k m rs apex at life keys gs key ls are alone each says = linked_in w k m rs apex at life keys gs key are alone rs gs ls each are says
