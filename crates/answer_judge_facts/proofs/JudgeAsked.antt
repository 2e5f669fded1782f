-- What a judge asks of signatures, and which other answers it may have had.
use lib.Pointwise.{bytes_decides}
use Rattle.std.proofs.Common.{◌≡◌, ◌⊎◌, ℕ, zero, suc, ◌+◌, ◌<◌, Bool, true, false, not, ◌&&◌, ◌==◌, List, [], ◌∷◌, ◌++◌, map, length, drop, get_or, refl, sym, subst, ap, ◌∙◌, arith, inl, inr, ⊎_elim}
use Rattle.std.specs.Prelude.{Some, None, is_some}
use Rattle.std.specs.List.{AllByRecursion, find, list_any}
use Rattle.std.specs.Cow.{cow_slice_items}
use Rattle.std.proofs.lemmas.List.{length-map}
use Rattle.std.specs.Str.{bytes_eq}
use Rattle.std.proofs.lemmas.Bool.{and_parts, or_left, or_right}
use Rattle.definitions.specs.Dnskey.{Dnskey, same_key}
use Rattle.definitions.specs.Name.{Name, low, same}
use Rattle.definitions.specs.Limits.{pointer_limit}
use Rattle.definitions.specs.Signing.{Fields, signed_octets}
use Rattle.messages.specs.Message.{Spelled, rrsig_at}
use Rattle.messages.specs.Record.{Signature, fields_of, fields_read, signature_of, spelled}
use Rattle.messages.specs.declared.view.ViewRecord.{ViewRecord}
use Rattle.messages.proofs.Lists.{items_from}
use Rattle.messages.proofs.ZoneNames.{same_labels}
use Rattle.answer_scheme.specs.Answers.{Answers, SignatureTest}
use Rattle.answer_judge_facts.specs.Asked.{Implies, PassesGroup, PassesGroups, PassesOver, PassesRecord, is_carried, is_found, is_tried_among}
use Rattle.answer_judge_facts.specs.Counted.{can_try, is_tried, tries_fields}
use Rattle.answer_judge_keys.specs.Trusted.{fits_key, is_due, is_signature, signs}
use Rattle.answer_judge_facts.specs.Marked.{data_in, is_of, marked, tries_group}
use Rattle.answer_judge_facts.specs.Sought.{Sought}
use Rattle.answer_judge_facts.specs.Verified.{Trusting}
use Rattle.answer_judge_facts.specs.declared.groups.SignedRrset.{SignedRrset}
use Rattle.answer_judge_facts.proofs.JudgeCase.{signed_octets-owner, signed_octets-signer}
use Rattle.answer_judge_facts.proofs.JudgeCounted.{AreSought, marked_more, tried_fields, try-signer}
use Rattle.answer_judge_facts.proofs.JudgeMarks.{marked_done}
use Rattle.answer_judge_keys.proofs.KeyClashes.{same_itself}

-- ---- tests that agree

-- what agrees later agreed before
pub agreed : (own test : SignatureTest) (Before Now : Type 0) → (Now → Before) → (test ≡ own) ⊎ Now → (test ≡ own) ⊎ Before
agreed own test Before Now back h = ⊎_elim (λ e. inl e) (λ a. inr (back a)) h

-- the same, where the answers are the same
pub agreed_by : (a b : Answers) (test : SignatureTest) (Agrees : Type 0) → b ≡ a → (test ≡ a.verifies) ⊎ Agrees → (test ≡ b.verifies) ⊎ Agrees
agreed_by a b test Agrees e h = ⊎_elim (λ is. inl (is ∙ ap (λ (x : Answers). x.verifies) (sym e))) (λ g. inr g) h

-- what was answered is what such a test says
pub answered : (own test : SignatureTest) (key : Dnskey) (octets signature : List ℕ) (result : Bool) (Before Now : Type 0) → (test ≡ own) ⊎ Now → result ≡ own key octets signature → (Now → Before × (result ≡ test key octets signature)) → result ≡ test key octets signature
answered own test key octets signature result Before Now fits is agrees = ⊎_elim (λ e. is ∙ ap (λ (t : SignatureTest). t key octets signature) (sym e)) (λ a. (agrees a).1) fits

-- data that aren't empty, and a signature that is due
pub due_then : (g : SignedRrset) (empty due : Bool) (b : Bool) → empty ≡ (length g.items.items == 0) → empty ≡ false → due ≡ b → due ≡ true → (not (length (data_in g) == 0) && b) ≡ true
due_then g empty due b e none d is = (λ i. not ((ap (λ n. n == 0) (length-map g.items.items cow_slice_items) ∙ sym e ∙ none) i) && (sym d ∙ is) i)

-- a signature that is due, with its key, verifies what passes
pub signs_found : (a : Answers) (apex : Name) (keys : List Dnskey) (now : ℕ) (owner : Name) (items : List (List ℕ)) (f : Fields) (signature : List ℕ) (key : Dnskey) → (not (length items == 0) && is_due apex now owner f) ≡ true → find (fits_key f) keys ≡ Some key
    → signs a apex keys now owner items f signature ≡ a.verifies key (signed_octets f owner 1 items) signature
signs_found a apex keys now owner items f signature key due found =
    (λ i. elim (due i) as (λ _. Bool) [
      | false ↦ false
      | true ↦ elim (find (fits_key f) keys) as (λ _. Bool) [ None ↦ false | Some k ↦ a.verifies k (signed_octets f owner 1 items) signature ]
    ])
    ∙ (λ i. elim (found i) as (λ _. Bool) [ None ↦ false | Some k ↦ a.verifies k (signed_octets f owner 1 items) signature ])

-- such a signature is tried
pub tries_found : (w : Trusting) (owner : Name) (items : List (List ℕ)) (f : Fields) (key : Dnskey) → (not (length items == 0) && is_due w.apex w.now owner f) ≡ true → find (fits_key f) w.keys ≡ Some key → can_try w owner items f ≡ true
tries_found w owner items f key due found =
    (λ i. elim (due i) as (λ _. Bool) [ false ↦ false | true ↦ is_some (find (fits_key f) w.keys) ])
    ∙ ap is_some found

-- ---- records

-- one record more
pub next_passes : (test : SignatureTest) (w : Trusting) (m : List ℕ) (rs : List ViewRecord) (i : ℕ) (r : ViewRecord) (now new : List SignedRrset) → i < length rs → r ≡ get_or rs i r → new ≡ map (marked w m (spelled r ∷ [])) now
    → PassesGroups test w m now (map spelled (drop i rs)) → PassesRecord test w m now (spelled r) × PassesGroups test w m new (map spelled (drop (i + 1) rs))
next_passes test w m rs i r now new h e n passes =
    let both : PassesGroups test w m now (map spelled (r ∷ drop (i + 1) rs)) = subst (λ (ys : List ViewRecord). PassesGroups test w m now (map spelled ys)) (items_from rs i r h e) passes in
    (both.0, subst (λ (gs : List SignedRrset). PassesGroups test w m gs (map spelled (drop (i + 1) rs))) (sym n) both.1)

item_at : (P : SignedRrset → Type 0) (gs : List SignedRrset) (i : ℕ) (x : SignedRrset) → AllByRecursion P gs → i < length gs → x ≡ get_or gs i x → P x
item_at P [] i x a h e = absurd (omega arith)
item_at P (g ∷ gs) zero x a h e = subst P (sym e) a.0
item_at P (g ∷ gs) (suc i) x a h e = let inside : i < length gs = omega arith in item_at P gs i x a.1 inside e

-- a record's signature, over the group at a place that is not verified yet
pub passes_at : (test : SignatureTest) (w : Trusting) (m : List ℕ) (r : Spelled) (s : Signature) (gs : List SignedRrset) (i : ℕ) (x : SignedRrset) → rrsig_at pointer_limit m r ≡ Some (signature_of s) → is_signature r ≡ true → (r.class == 1) ≡ true
    → i < length gs → x ≡ get_or gs i x → is_of r.owner (fields_read s).covered x ≡ true → is_some x.verified ≡ false → PassesRecord test w m gs r
    → can_try w (get_or gs i x).owner (data_in (get_or gs i x)) (fields_read s) ≡ true → PassesOver test w.keys (fields_read s) s.signature (get_or gs i x).owner (data_in (get_or gs i x))
passes_at test w m r s gs i x read is class within at own not_yet passes can =
    let here : can_try w x.owner (data_in x) (fields_of s) ≡ true = try-signer w x.owner (data_in x) s ∙ ap (λ (y : SignedRrset). can_try w y.owner (data_in y) (fields_read s)) at ∙ can in
    let tries : tries_group w r.owner (fields_of s) x ≡ true = λ j. own j && (not (not_yet j) && here j) in
    let over : PassesOver test w.keys (fields_of s) s.signature x.owner (data_in x) =
    item_at (PassesGroup test w r.owner (fields_of s) s.signature) gs i x (passes (fields_of s) s.signature (λ j. is j && class j) read) within at tries in
    subst (λ (y : SignedRrset). PassesOver test w.keys (fields_read s) s.signature y.owner (data_in y)) at
    (λ key found. ap (λ octets. test key octets s.signature) (sym (signed_octets-signer s x.owner (data_in x))) ∙ over key found)

-- ---- RRsets that are sought

itself : (octets : List ℕ) → bytes_eq octets octets ≡ true
itself octets = (bytes_decides octets octets).1 refl

-- a signature that is tried, with its key and octets
one_tried : (w : Trusting) (m : List ℕ) (s : Sought) (earlier : List Spelled) (r : Spelled) (f : Fields) (signature : List ℕ) (key : Dnskey) → (is_signature r && (r.class == 1)) ≡ true → rrsig_at pointer_limit m r ≡ Some (f, signature)
    → tries_fields w pointer_limit m s earlier r.owner f ≡ true → find (fits_key f) w.keys ≡ Some key
    → (is_tried w pointer_limit m s earlier r && is_carried w pointer_limit m s r key (signed_octets f r.owner 1 (s.datas r.owner f.covered)) signature) ≡ true
one_tried w m s earlier r f signature key is read tries found =
    let octets = signed_octets f r.owner 1 (s.datas r.owner f.covered) in
    let tried : is_tried w pointer_limit m s earlier r ≡ true =
    (λ i. elim (is i) as (λ _. Bool) [ false ↦ false | true ↦ elim (read i) as (λ _. Bool) [ None ↦ false | Some f ↦ tries_fields w pointer_limit m s earlier r.owner f.0 ] ]) ∙ tries in
    let carried : is_carried w pointer_limit m s r key octets signature ≡ true =
    (λ i. elim (read i) as (λ _. Bool) [ None ↦ false | Some f ↦ is_found w f.0 key && bytes_eq signature f.1 && bytes_eq octets (signed_octets f.0 r.owner 1 (s.datas r.owner f.0.covered)) ])
    ∙ (λ i. elim (found i) as (λ _. Bool) [ None ↦ false | Some found ↦ same_key key found ] && itself signature i && itself octets i)
    ∙ ap (λ b. b && true && true) (same_itself key) in
    λ i. tried i && carried i

each_group : (test : SignatureTest) (w : Trusting) (s : Sought) (o : Name) (f : Fields) (signature : List ℕ) (gs : List SignedRrset)
    → AllByRecursion (λ g. is_of o f.covered g ≡ true → data_in g ≡ s.datas o f.covered) gs → (list_any (tries_group w o f) gs ≡ true → PassesOver test w.keys f signature o (s.datas o f.covered))
    → AllByRecursion (PassesGroup test w o f signature) gs
each_group test w s o f signature [] d over = tt
each_group test w s o f signature (g ∷ gs) d over = (
  (λ tries key found.
      let is = (and_parts (is_of o f.covered g) (not (is_some g.verified) && can_try w g.owner (data_in g) f) tries).0 in
      let p = and_parts (g.rtype == f.covered) (same o g.owner) is in
      let owner : low g.owner ≡ low o = sym (same_labels (low o) (low g.owner) p.1) in
      let octets : signed_octets f g.owner 1 (data_in g) ≡ signed_octets f o 1 (s.datas o f.covered) = ap (signed_octets f g.owner 1) (d.0 is) ∙ signed_octets-owner f g.owner o (s.datas o f.covered) owner in
      ap (λ os. test key os signature) octets ∙ over (or_left (tries_group w o f g) (list_any (tries_group w o f) gs) tries) key found),
  each_group test w s o f signature gs d.1 (λ any. over (or_right (tries_group w o f g) (list_any (tries_group w o f) gs) any)),
)

datas_marked : (w : Trusting) (m : List ℕ) (earlier : List Spelled) (s : Sought) (o : Name) (t : ℕ) (gs : List SignedRrset) → AllByRecursion (λ g. is_of o t g ≡ true → data_in g ≡ s.datas o t) gs
    → AllByRecursion (λ g. is_of o t g ≡ true → data_in g ≡ s.datas o t) (map (marked w m earlier) gs)
datas_marked w m earlier s o t [] d = tt
datas_marked w m earlier s o t (g ∷ gs) d = (d.0, datas_marked w m earlier s o t gs d.1)

passes_behind : (test : SignatureTest) (w : Trusting) (m : List ℕ) (s : Sought) (gs : List SignedRrset) (earlier rs : List Spelled) → AreSought s gs → Implies (is_tried_among w pointer_limit m s earlier rs) test → PassesGroups test w m (map (marked w m earlier) gs) rs
passes_behind test w m s gs earlier [] a passes = tt
passes_behind test w m s gs earlier (r ∷ rs) a passes = (
  (λ f signature is read.
      each_group test w s r.owner f signature (map (marked w m earlier) gs) (datas_marked w m earlier s r.owner f.covered gs (a.datas r.owner f.covered))
      (λ any key found. passes key (signed_octets f r.owner 1 (s.datas r.owner f.covered)) signature (or_left _ _ (one_tried w m s earlier r f signature key is read (sym (tried_fields w m s gs earlier r.owner f a) ∙ any) found)))),
  subst (λ (ys : List SignedRrset). PassesGroups test w m ys rs) (sym (marked_more w m earlier r gs))
      (passes_behind test w m s gs (earlier ++ r ∷ []) rs a (λ key octets signature later. passes key octets signature (or_right _ _ later))),
)

-- where a test passes for the signatures that are tried on what is sought, it passes for the groups of it
pub sought_passes : (test : SignatureTest) (w : Trusting) (m : List ℕ) (s : Sought) (gs : List SignedRrset) (rs : List Spelled) → AreSought s gs → Implies (is_tried_among w pointer_limit m s [] rs) test → PassesGroups test w m gs rs
sought_passes test w m s gs rs a passes = subst (λ (ys : List SignedRrset). PassesGroups test w m ys rs) (marked_done w m gs) (passes_behind test w m s gs [] rs a passes)
