-- Octets that spell names and records spell one only.
use Rattle.std.proofs.Common.{◌≡◌, ℕ, zero, suc, ◌-◌, ◌^◌, ◌<◌, true, false, List, [], ◌∷◌, ◌++◌, length, take, drop, get_or, refl, sym, ap, ◌∙◌, append_assoc, arith}
use Rattle.std.specs.Prelude.{nat_lt, if◌then◌else◌}
use Rattle.std.specs.List.{AllByRecursion, flat_map}
use Rattle.std.specs.Int.{w16, w32, to_be_bytes, from_be_bytes}
use Rattle.std.specs.Str.{str_to_ascii_lowercase}
use Rattle.std.proofs.lemmas.List.{take_at, drop_at}
use Rattle.std.proofs.lemmas.Nat.{from_be_bytes-to_be_bytes_2, from_be_bytes-to_be_bytes_4}
use Rattle.definitions.specs.Name.{Name, Label, IsLabel, wire, low}
use Rattle.definitions.specs.Signing.{Fields, fields_data, label_count, signed_owner, canonical_record}
use Rattle.definitions.specs.Laws.{WireSpells, IsSignable, SignedOctetsSpell}
use Rattle.definitions.proofs.NameLaws.{labels_decide}

-- ---- pieces of one length

pub pieces : (a b x y : List ℕ) → length a ≡ length b → a ++ x ≡ b ++ y → (a ≡ b) × (x ≡ y)
pieces a b x y n e = (
  sym (take_at a x (length a) refl) ∙ ap (take (length a)) e ∙ take_at b y (length a) (sym n),
  sym (drop_at a x (length a) refl) ∙ ap (drop (length a)) e ∙ drop_at b y (length a) (sym n),
)

two_back : (a b : ℕ) → a < 2 ^ 16 → b < 2 ^ 16 → to_be_bytes w16 a ≡ to_be_bytes w16 b → a ≡ b
two_back a b fa fb e = sym (from_be_bytes-to_be_bytes_2 a fa) ∙ ap (from_be_bytes w16) e ∙ from_be_bytes-to_be_bytes_2 b fb

four_back : (a b : ℕ) → a < 2 ^ 32 → b < 2 ^ 32 → to_be_bytes w32 a ≡ to_be_bytes w32 b → a ≡ b
four_back a b fa fb e = sym (from_be_bytes-to_be_bytes_4 a fa) ∙ ap (from_be_bytes w32) e ∙ from_be_bytes-to_be_bytes_4 b fb

two_of : (a b : ℕ) (x y : List ℕ) → a < 2 ^ 16 → b < 2 ^ 16 → to_be_bytes w16 a ++ x ≡ to_be_bytes w16 b ++ y → (a ≡ b) × (x ≡ y)
two_of a b x y fa fb e =
    let p : (to_be_bytes w16 a ≡ to_be_bytes w16 b) × (x ≡ y) = pieces (to_be_bytes w16 a) (to_be_bytes w16 b) x y refl e in
    (two_back a b fa fb p.0, p.1)

four_of : (a b : ℕ) (x y : List ℕ) → a < 2 ^ 32 → b < 2 ^ 32 → to_be_bytes w32 a ++ x ≡ to_be_bytes w32 b ++ y → (a ≡ b) × (x ≡ y)
four_of a b x y fa fb e =
    let p : (to_be_bytes w32 a ≡ to_be_bytes w32 b) × (x ≡ y) = pieces (to_be_bytes w32 a) (to_be_bytes w32 b) x y refl e in
    (four_back a b fa fb p.0, p.1)

one_of : (a b : ℕ) (x y : List ℕ) → a ∷ x ≡ b ∷ y → (a ≡ b) × (x ≡ y)
one_of a b x y e = (ap (λ l. get_or l 0 0) e, ap (drop 1) e)

-- ---- names

-- no label is empty
abbrev pub Labelled : Name → Type 0
Labelled n = AllByRecursion (λ l. 0 < length l) n

labelled : (n : Name) → AllByRecursion IsLabel n → Labelled n
labelled [] h = tt
labelled (l ∷ n) h = (h.0.some, labelled n h.1)

wire-cons : (l : Label) (n : Name) (x : List ℕ) → wire (l ∷ n) ++ x ≡ length l ∷ (l ++ (wire n ++ x))
wire-cons l n x =
    let labels : List ℕ = flat_map (λ k. length k ∷ k) n in
    ap (λ r. length l ∷ r) (ap (λ r. r ++ x) (append_assoc l labels (0 ∷ [])) ∙ append_assoc l (labels ++ 0 ∷ []) x)

no_root : (k : ℕ) (x y : List ℕ) → 0 < k → 0 ∷ x ≡ k ∷ y → ⊥
no_root k x y h e = let z : 0 ≡ k = (one_of 0 k x y e).0 in omega arith

-- a name's octets and what follows spell one name
pub wire_of : (n m : Name) (x y : List ℕ) → Labelled n → Labelled m → wire n ++ x ≡ wire m ++ y → (n ≡ m) × (x ≡ y)
wire_of [] [] x y p q e = (refl, (one_of 0 0 x y e).1)
wire_of [] (k ∷ m) x y p q e = absurd (no_root (length k) x (k ++ (wire m ++ y)) q.0 (e ∙ wire-cons k m y))
wire_of (l ∷ n) [] x y p q e = absurd (no_root (length l) y (l ++ (wire n ++ x)) p.0 (sym e ∙ wire-cons l n x))
wire_of (l ∷ n) (k ∷ m) x y p q e =
    let head : (length l ≡ length k) × (l ++ (wire n ++ x) ≡ k ++ (wire m ++ y)) =
    one_of (length l) (length k) (l ++ (wire n ++ x)) (k ++ (wire m ++ y)) (sym (wire-cons l n x) ∙ e ∙ wire-cons k m y) in
    let label : (l ≡ k) × (wire n ++ x ≡ wire m ++ y) = pieces l k (wire n ++ x) (wire m ++ y) head.0 head.1 in
    let rest : (n ≡ m) × (x ≡ y) = wire_of n m x y p.1 q.1 label.1 in
    ((λ i. label.0 i ∷ rest.0 i), rest.1)

pub wire_spells : WireSpells
wire_spells n m x y p q e = wire_of n m x y (labelled n p.labels) (labelled m q.labels) e

low_labelled : (n : Name) → Labelled n → Labelled (low n)
low_labelled [] h = tt
low_labelled (l ∷ n) h = (low_some l h.0, low_labelled n h.1)
  where
    low_some : (l : Label) → 0 < length l → 0 < length (str_to_ascii_lowercase l)
    low_some [] h = h
    low_some (c ∷ l) h = omega arith

drop_labelled : (k : ℕ) (n : Name) → Labelled n → Labelled (drop k n)
drop_labelled zero n h = h
drop_labelled (suc k) [] h = tt
drop_labelled (suc k) (l ∷ n) h = drop_labelled k n h.1

owner_labelled : (count : ℕ) (n : Name) → Labelled n → Labelled (signed_owner count n)
owner_labelled count n h =
    elim (nat_lt count (label_count n)) as (λ b. Labelled (if b then (42 ∷ []) ∷ drop (length n - count) (low n) else low n)) [
      | true ↦ (omega arith, drop_labelled (length n - count) (low n) (low_labelled n h))
      | false ↦ low_labelled n h
    ]

-- ---- records

regroup : (o t c l n d x : List ℕ) → (o ++ t ++ c ++ l ++ n ++ d) ++ x ≡ o ++ (t ++ (c ++ (l ++ (n ++ (d ++ x)))))
regroup o t c l n d x = simp append_assoc

-- the octets of a record and what follows spell one record
pub record RecordsAgree (o p : Name) (c k : ℕ) (d e x y : List ℕ) : Type 0 where
  pub owners : o ≡ p
  pub classes : c ≡ k
  pub contents : d ≡ e
  pub rest : x ≡ y

record_of : (o p : Name) (t c k ttl : ℕ) (d e x y : List ℕ) → Labelled o → Labelled p → t < 2 ^ 16 → c < 2 ^ 16 → k < 2 ^ 16 → ttl < 2 ^ 32 → length d < 2 ^ 16 → length e < 2 ^ 16 → canonical_record o t c ttl d ++ x ≡ canonical_record p t k ttl e ++ y → RecordsAgree o p c k d e x y
record_of o p t c k ttl d e x y lo lp ft fc fk fttl fd fe h =
    let T : List ℕ = to_be_bytes w16 t in
    let L : List ℕ = to_be_bytes w32 ttl in
    let C : ℕ → List ℕ = λ n. to_be_bytes w16 n in
    let a : (o ≡ p) × (T ++ (C c ++ (L ++ (C (length d) ++ (d ++ x)))) ≡ T ++ (C k ++ (L ++ (C (length e) ++ (e ++ y))))) =
    wire_of o p _ _ lo lp (sym (regroup (wire o) T (C c) L (C (length d)) d x) ∙ h ∙ regroup (wire p) T (C k) L (C (length e)) e y) in
    let b : (t ≡ t) × (C c ++ (L ++ (C (length d) ++ (d ++ x))) ≡ C k ++ (L ++ (C (length e) ++ (e ++ y)))) = two_of t t _ _ ft ft a.1 in
    let q : (c ≡ k) × (L ++ (C (length d) ++ (d ++ x)) ≡ L ++ (C (length e) ++ (e ++ y))) = two_of c k _ _ fc fk b.1 in
    let r : (ttl ≡ ttl) × (C (length d) ++ (d ++ x) ≡ C (length e) ++ (e ++ y)) = four_of ttl ttl _ _ fttl fttl q.1 in
    let s : (length d ≡ length e) × (d ++ x ≡ e ++ y) = two_of (length d) (length e) _ _ fd fe r.1 in
    let u : (d ≡ e) × (x ≡ y) = pieces d e x y s.0 s.1 in
    record { owners = a.0; classes = q.0; contents = u.0; rest = u.1 }

wire_some : (n : Name) (x : List ℕ) → 0 < length (wire n ++ x)
wire_some [] x = omega arith
wire_some (l ∷ n) x = omega arith

record_some : (o : Name) (t c ttl : ℕ) (d x : List ℕ) → [] ≡ canonical_record o t c ttl d ++ x → ⊥
record_some o t c ttl d x e =
    let T : List ℕ = to_be_bytes w16 t in
    let L : List ℕ = to_be_bytes w32 ttl in
    let C : ℕ → List ℕ = λ n. to_be_bytes w16 n in
    let n : 0 ≡ length (wire o ++ (T ++ (C c ++ (L ++ (C (length d) ++ (d ++ x)))))) = ap length (e ∙ regroup (wire o) T (C c) L (C (length d)) d x) in
    let some : 0 < length (wire o ++ (T ++ (C c ++ (L ++ (C (length d) ++ (d ++ x)))))) = wire_some o _ in
    omega arith

records_of : (o p : Name) (t c k ttl : ℕ) (ds es : List (List ℕ)) → Labelled o → Labelled p → t < 2 ^ 16 → c < 2 ^ 16 → k < 2 ^ 16 → ttl < 2 ^ 32 → AllByRecursion (λ d. length d < 2 ^ 16) ds → AllByRecursion (λ d. length d < 2 ^ 16) es → flat_map (canonical_record o t c ttl) ds ≡ flat_map (canonical_record p t k ttl) es → ds ≡ es
records_of o p t c k ttl [] [] lo lp ft fc fk fttl fd fe h = refl
records_of o p t c k ttl [] (e ∷ es) lo lp ft fc fk fttl fd fe h = absurd (record_some p t k ttl e (flat_map (canonical_record p t k ttl) es) h)
records_of o p t c k ttl (d ∷ ds) [] lo lp ft fc fk fttl fd fe h = absurd (record_some o t c ttl d (flat_map (canonical_record o t c ttl) ds) (sym h))
records_of o p t c k ttl (d ∷ ds) (e ∷ es) lo lp ft fc fk fttl fd fe h =
    let a : RecordsAgree o p c k d e (flat_map (canonical_record o t c ttl) ds) (flat_map (canonical_record p t k ttl) es) = record_of o p t c k ttl d e _ _ lo lp ft fc fk fttl fd.0 fe.0 h in
    let rest : ds ≡ es = records_of o p t c k ttl ds es lo lp ft fc fk fttl fd.1 fe.1 a.rest in
    λ i. a.contents i ∷ rest i

-- the first records tell the owner and the class
first_of : (o p : Name) (t c k ttl : ℕ) (ds es : List (List ℕ)) → 0 < length ds → 0 < length es → Labelled o → Labelled p → t < 2 ^ 16 → c < 2 ^ 16 → k < 2 ^ 16 → ttl < 2 ^ 32 → AllByRecursion (λ d. length d < 2 ^ 16) ds → AllByRecursion (λ d. length d < 2 ^ 16) es → flat_map (canonical_record o t c ttl) ds ≡ flat_map (canonical_record p t k ttl) es → (o ≡ p) × (c ≡ k)
first_of o p t c k ttl [] es sd se lo lp ft fc fk fttl fd fe h = absurd (omega arith)
first_of o p t c k ttl (d ∷ ds) [] sd se lo lp ft fc fk fttl fd fe h = absurd (omega arith)
first_of o p t c k ttl (d ∷ ds) (e ∷ es) sd se lo lp ft fc fk fttl fd fe h =
    let a : RecordsAgree o p c k d e (flat_map (canonical_record o t c ttl) ds) (flat_map (canonical_record p t k ttl) es) = record_of o p t c k ttl d e _ _ lo lp ft fc fk fttl fd.0 fe.0 h in
    (a.owners, a.classes)

-- ---- fields

pub record FieldsAgree (f g : Fields) (x y : List ℕ) : Type 0 where
  pub covered : f.covered ≡ g.covered
  pub algorithm : f.algorithm ≡ g.algorithm
  pub labels : f.labels ≡ g.labels
  pub ttl : f.ttl ≡ g.ttl
  pub expiration : f.expiration ≡ g.expiration
  pub inception : f.inception ≡ g.inception
  pub tag : f.tag ≡ g.tag
  pub signer : low f.signer ≡ low g.signer
  pub rest : x ≡ y

abbrev behind_tag : Fields → List ℕ → List ℕ
behind_tag f x = wire (low f.signer) ++ x

abbrev behind_inception : Fields → List ℕ → List ℕ
behind_inception f x = to_be_bytes w16 f.tag ++ behind_tag f x

abbrev behind_expiration : Fields → List ℕ → List ℕ
behind_expiration f x = to_be_bytes w32 f.inception ++ behind_inception f x

abbrev behind_ttl : Fields → List ℕ → List ℕ
behind_ttl f x = to_be_bytes w32 f.expiration ++ behind_expiration f x

abbrev behind_labels : Fields → List ℕ → List ℕ
behind_labels f x = to_be_bytes w32 f.ttl ++ behind_ttl f x

fields_spelled : (f : Fields) (x : List ℕ) → fields_data f ++ x ≡ to_be_bytes w16 f.covered ++ (f.algorithm ∷ f.labels ∷ behind_labels f x)
fields_spelled f x = refl

fields_of : (f g : Fields) (owner other : Name) (c k : ℕ) (ds es : List (List ℕ)) (x y : List ℕ) → IsSignable f owner c ds → IsSignable g other k es → fields_data f ++ x ≡ fields_data g ++ y → FieldsAgree f g x y
fields_of f g owner other c k ds es x y p q h =
    let a : (f.covered ≡ g.covered) × (f.algorithm ∷ f.labels ∷ behind_labels f x ≡ g.algorithm ∷ g.labels ∷ behind_labels g y) = two_of f.covered g.covered _ _ p.covered q.covered (sym (fields_spelled f x) ∙ h ∙ fields_spelled g y) in
    let b : (f.algorithm ≡ g.algorithm) × (f.labels ∷ behind_labels f x ≡ g.labels ∷ behind_labels g y) = one_of f.algorithm g.algorithm _ _ a.1 in
    let l : (f.labels ≡ g.labels) × (behind_labels f x ≡ behind_labels g y) = one_of f.labels g.labels _ _ b.1 in
    let t : (f.ttl ≡ g.ttl) × (behind_ttl f x ≡ behind_ttl g y) = four_of f.ttl g.ttl _ _ p.ttl q.ttl l.1 in
    let e : (f.expiration ≡ g.expiration) × (behind_expiration f x ≡ behind_expiration g y) = four_of f.expiration g.expiration _ _ p.expiration q.expiration t.1 in
    let i : (f.inception ≡ g.inception) × (behind_inception f x ≡ behind_inception g y) = four_of f.inception g.inception _ _ p.inception q.inception e.1 in
    let n : (f.tag ≡ g.tag) × (behind_tag f x ≡ behind_tag g y) = two_of f.tag g.tag _ _ p.tag q.tag i.1 in
    let s : (low f.signer ≡ low g.signer) × (x ≡ y) = wire_of (low f.signer) (low g.signer) x y (low_labelled f.signer (labelled f.signer p.signer.labels)) (low_labelled g.signer (labelled g.signer q.signer.labels)) n.1 in
    record { covered = a.0; algorithm = b.0; labels = l.0; ttl = t.0; expiration = e.0; inception = i.0; tag = n.0; signer = s.0; rest = s.1 }

-- ---- the law

pub signed_octets_spell : SignedOctetsSpell
signed_octets_spell f g owner other c k ds es p q h =
    let a : FieldsAgree f g (flat_map (canonical_record (signed_owner f.labels owner) f.covered c f.ttl) ds) (flat_map (canonical_record (signed_owner g.labels other) g.covered k g.ttl) es) = fields_of f g owner other c k ds es _ _ p q h in
    let o : Labelled (signed_owner f.labels owner) = owner_labelled f.labels owner (labelled owner p.named.labels) in
    let r : Labelled (signed_owner g.labels other) = owner_labelled g.labels other (labelled other q.named.labels) in
    let alike : flat_map (canonical_record (signed_owner f.labels owner) f.covered c f.ttl) ds ≡ flat_map (canonical_record (signed_owner g.labels other) f.covered k f.ttl) es =
    a.rest ∙ (λ i. flat_map (canonical_record (signed_owner g.labels other) (sym a.covered i) k (sym a.ttl i)) es) in
    let first : (signed_owner f.labels owner ≡ signed_owner g.labels other) × (c ≡ k) = first_of _ _ f.covered c k f.ttl ds es p.some q.some o r p.covered p.classed q.classed p.ttl p.short q.short alike in
    record {
      covered = a.covered;
      algorithm = a.algorithm;
      labels = a.labels;
      ttl = a.ttl;
      expiration = a.expiration;
      inception = a.inception;
      tag = a.tag;
      signer = (labels_decide (low f.signer) (low g.signer)).1 a.signer;
      owners = first.0;
      classes = first.1;
      contents = records_of _ _ f.covered c k f.ttl ds es o r p.covered p.classed q.classed p.ttl p.short q.short alike;
    }
