-- The data that a given message holds of an owner and a type are those of its RRset.
use Rattle.std.proofs.Common.{◌≡◌, ℕ, Bool, true, false, ◌&&◌, List, [], ◌∷◌, ◌++◌, Option, Some, None, eqb, refl, sym, ap, ◌∙◌, ⊎_elim}
use Rattle.std.specs.Prelude.{if◌then◌else◌}
use Rattle.std.specs.List.{cons_option, filter_map, flat_map, list_any}
use Rattle.messages.proofs.ZoneNames.{labels_eq-same, same_labels}
use Rattle.std.proofs.lemmas.Bool.{and_from, and_parts, eqb-true, and_left, and_right, cases_Bool, eq-eqb, false≢true, or_parts}
use Rattle.std.proofs.lemmas.List.{append-nil}
use Rattle.std.proofs.lemmas.List.Elements.{filter_map-append}
use Rattle.definitions.specs.Name.{Name, labels_eq, low, same}
use Rattle.definitions.specs.Dnskey.{Dnskey}
use Rattle.definitions.specs.Zone.{sorted_data}
use Rattle.answer_terms.specs.Told.{TellsGroups, AreRecords, AreSignatures, IsRecord, IsValidSignature}
use Rattle.answer_judge.proofs.GivenGroups.{has_twins, is_rrset}
use Rattle.messages.specs.Message.{Spelled, canonical_data}
use Rattle.answer_terms.specs.Served.{ServedRrset}
use Rattle.answer_judge_facts.specs.Verified.{datum_of, rrset_in}
use Rattle.messages.proofs.Lists.{Has, any_from}

-- ---- one RRset

abbrev datum_by : ℕ → List ℕ → Spelled → Bool → Bool → Bool → Option (List ℕ)
datum_by k m r c t o = elim ((c && t) && o) [ true ↦ canonical_data k m r | false ↦ None ]

datum_there : (k : ℕ) (m : List ℕ) (o : Name) (t : ℕ) (owner : Name) (rtype : ℕ) (d : List ℕ) (r : Spelled) → IsRecord k m r owner rtype d
    → datum_of k m o t r ≡ (if eqb rtype t && same owner o then Some d else None)
datum_there k m o t owner rtype d r is =
    (λ i. datum_by k m r (eqb (is.class_is i) 1) (eqb (is.type_is i) t) (labels_eq (is.owner_is i) (low o)))
    ∙ elim (eqb rtype t && same owner o) as (λ b. (elim b [ true ↦ canonical_data k m r | false ↦ None ]) ≡ (if b then Some d else None)) [
      | true ↦ is.data_is
      | false ↦ refl
    ]

abbrev taken : Bool → List (List ℕ) → List (List ℕ)
taken b ds = if b then ds else []

taken_more : (b : Bool) (d : List ℕ) (ds : List (List ℕ)) → cons_option (if b then Some d else None) (taken b ds) ≡ taken b (d ∷ ds)
taken_more true d ds = refl
taken_more false d ds = refl

taken_none : (b : Bool) → taken b [] ≡ []
taken_none true = refl
taken_none false = refl

records_there : (k : ℕ) (m : List ℕ) (o : Name) (t : ℕ) (g : ServedRrset) (rs : List Spelled) (ds : List (List ℕ)) → AreRecords k m rs g ds → filter_map (datum_of k m o t) rs ≡ taken (is_rrset o t g) ds
records_there k m o t g [] [] h = sym (taken_none (is_rrset o t g))
records_there k m o t g [] (d ∷ ds) h = absurd h
records_there k m o t g (r ∷ rs) [] h = absurd h
records_there k m o t g (r ∷ rs) (d ∷ ds) h =
    (λ i. cons_option (datum_there k m o t g.owner g.rtype d r h.0 i) (records_there k m o t g rs ds h.1 i))
    ∙ taken_more (is_rrset o t g) d ds

-- a signature is no datum of another type
no_datum : (v : Dnskey → List ℕ → List ℕ → Bool) (k : ℕ) (m : List ℕ) (r : Spelled) (apex : Name) (at life : ℕ) (g : ServedRrset) (key : Dnskey) (o : Name) (t : ℕ) → eqb 46 t ≡ false → IsValidSignature v k m r apex at life g key → datum_of k m o t r ≡ None
no_datum v k m r apex at life g key o t other is =
    let unlike : eqb r.rtype t ≡ false = ap (λ n. eqb n t) is.type_is ∙ other in
    ap (λ b. elim b as (λ _. Option (List ℕ)) [ true ↦ canonical_data k m r | false ↦ None ]) (and_left (eqb r.class 1 && eqb r.rtype t) (same r.owner o) (and_right (eqb r.class 1) (eqb r.rtype t) unlike))

no_data : (v : Dnskey → List ℕ → List ℕ → Bool) (k : ℕ) (m : List ℕ) (rs : List Spelled) (apex : Name) (at life : ℕ) (g : ServedRrset) (keys : List Dnskey) (o : Name) (t : ℕ) → eqb 46 t ≡ false → AreSignatures v k m rs apex at life g keys → filter_map (datum_of k m o t) rs ≡ []
no_data v k m [] apex at life g [] o t other h = refl
no_data v k m [] apex at life g (key ∷ keys) o t other h = absurd h
no_data v k m (r ∷ rs) apex at life g [] o t other h = absurd h
no_data v k m (r ∷ rs) apex at life g (key ∷ keys) o t other h =
    λ i. cons_option (no_datum v k m r apex at life g key o t other h.0 i) (no_data v k m rs apex at life g keys o t other h.1 i)

-- ---- all of them

data_in : (v : Dnskey → List ℕ → List ℕ → Bool) (k : ℕ) (m : List ℕ) (rs : List Spelled) (apex : Name) (at life : ℕ) (keys : List Dnskey) (gs : List ServedRrset) (o : Name) (t : ℕ) → eqb 46 t ≡ false → TellsGroups v k m rs apex at life keys gs
    → filter_map (datum_of k m o t) rs ≡ flat_map (λ g. taken (is_rrset o t g) g.datas) gs
data_in v k m rs apex at life keys [] o t other h = ap (filter_map (datum_of k m o t)) h
data_in v k m rs apex at life keys (g ∷ gs) o t other (own, signatures, rest, are, records, signs, more) =
    let f = datum_of k m o t in
    let first : filter_map f (own ++ signatures) ≡ taken (is_rrset o t g) g.datas =
    filter_map-append f own signatures
    ∙ (λ i. records_there k m o t g own g.datas records i ++ no_data v k m signatures apex at life g (if g.signed then keys else []) o t other signs i)
    ∙ append-nil (taken (is_rrset o t g) g.datas) in
    ap (filter_map f) are ∙ filter_map-append f (own ++ signatures) rest
    ∙ (λ i. first i ++ data_in v k m rest apex at life keys gs o t other more i)

none_taken : (o : Name) (t : ℕ) (gs : List ServedRrset) → list_any (is_rrset o t) gs ≡ false → flat_map (λ g. taken (is_rrset o t g) g.datas) gs ≡ []
none_taken o t [] e = refl
none_taken o t (g ∷ gs) e =
    let h = or_parts (is_rrset o t g) (list_any (is_rrset o t) gs) e in
    λ i. taken (h.0 i) g.datas ++ none_taken o t gs h.1 i

-- an RRset's owner and type in place of another's
rrset_as : (o p : Name) (t s : ℕ) (gs : List ServedRrset) → low o ≡ low p → t ≡ s → list_any (is_rrset o t) gs ≡ list_any (is_rrset p s) gs
rrset_as o p t s gs e f = λ i. list_any (λ g. eqb g.rtype (f i) && labels_eq (low g.owner) (e i)) gs

pub rrset_here : (o : Name) (t : ℕ) (g : ServedRrset) → g.rtype ≡ t → low g.owner ≡ low o → is_rrset o t g ≡ true
rrset_here o t g f e = and_from (eqb g.rtype t) (same g.owner o) (eq-eqb g.rtype t f) (labels_eq-same (low g.owner) (low o) e)

one_taken : (o : Name) (t : ℕ) (gs : List ServedRrset) (g : ServedRrset) → has_twins gs ≡ false → Has gs g → g.rtype ≡ t → low g.owner ≡ low o → flat_map (λ g. taken (is_rrset o t g) g.datas) gs ≡ g.datas
one_taken o t [] g alone h f e = absurd h
one_taken o t (x ∷ gs) g alone h f e =
    let apart = or_parts (list_any (is_rrset x.owner x.rtype) gs) (has_twins gs) alone in
    ⊎_elim
    (λ (q : g ≡ x).
    let here : is_rrset o t x ≡ true = ap (is_rrset o t) (sym q) ∙ rrset_here o t g f e in
    let others : list_any (is_rrset o t) gs ≡ false = rrset_as o x.owner t x.rtype gs (sym e ∙ ap (λ (y : ServedRrset). low y.owner) q) (sym f ∙ ap (λ (y : ServedRrset). y.rtype) q) ∙ apart.0 in
    (λ i. taken (here i) x.datas ++ none_taken o t gs others i) ∙ append-nil x.datas ∙ ap (λ (y : ServedRrset). y.datas) (sym q))
    (λ (later : Has gs g).
    ⊎_elim
    (λ (same_one : is_rrset o t x ≡ true).
    let p = and_parts (eqb x.rtype t) (same x.owner o) same_one in
    let twin : is_rrset x.owner x.rtype g ≡ true = rrset_here x.owner x.rtype g (f ∙ sym (eqb-true x.rtype t p.0)) (e ∙ sym (same_labels (low x.owner) (low o) p.1)) in
    absurd (false≢true (sym apart.0 ∙ any_from (is_rrset x.owner x.rtype) gs g later twin)))
    (λ (other : is_rrset o t x ≡ false).
    λ i. taken (other i) x.datas ++ one_taken o t gs g apart.1 later f e i)
    (cases_Bool (is_rrset o t x)))
    h

-- the RRset of a message
pub rrset_given : (v : Dnskey → List ℕ → List ℕ → Bool) (k : ℕ) (m : List ℕ) (rs : List Spelled) (apex : Name) (at life : ℕ) (keys : List Dnskey) (gs : List ServedRrset) (o : Name) (t : ℕ) (g : ServedRrset) → eqb 46 t ≡ false → TellsGroups v k m rs apex at life keys gs
    → has_twins gs ≡ false → Has gs g → g.rtype ≡ t → low g.owner ≡ low o → rrset_in k m rs o t ≡ sorted_data g.datas
rrset_given v k m rs apex at life keys gs o t g other are alone h f e =
    ap sorted_data (data_in v k m rs apex at life keys gs o t other are ∙ one_taken o t gs g alone h f e)
