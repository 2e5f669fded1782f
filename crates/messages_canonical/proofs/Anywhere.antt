-- Data that are canonical by themselves are so wherever they stand in a message.
use Rattle.std.proofs.Common.{◌≡◌, ℕ, ◌+◌, ◌-◌, ◌≤◌, Bool, true, false, List, [], ◌∷◌, ◌++◌, length, take, drop, Option, Some, None, Result, Ok, Err, inl, inr, refl, sym, ap, subst, ◌∙◌, append_assoc, length-append, arith}
use Rattle.std.specs.Prelude.{◌==◌, slice_get, slice_index, slice_range, nat_eq, nat_le, unwrap_or}
use Rattle.std.specs.Option.{option_map}
use Rattle.std.specs.Str.{bytes_eq}
use Rattle.std.proofs.lemmas.Bool.{cases_Bool, eq-eqb, eqb-true, leb-true, le-leb, or_cases, or_left, or_right}
use Rattle.std.proofs.lemmas.List.{append-nil, drop_at, length-take-le, take-append-le, take_all}
use Rattle.std.proofs.lemmas.List.Edits.{split_between}
use Rattle.std.proofs.lemmas.Option.{get_or_from_slice_get}
use Rattle.std.proofs.lemmas.Slice.Eq.{bytes_eq-Decides}
use Rattle.definitions.specs.Limits.{pointer_limit}
use Rattle.definitions.specs.Name.{Name, IsName, wire, wire_len, low}
use Rattle.definitions.proofs.ReadingLaws.{length-range}
use Rattle.names_flat.proofs.Splits.{lower_spells}
use Rattle.messages.specs.declared.error.MessageError.{MessageError}
use Rattle.messages.specs.Message.{Spelled, behind, data_of, if_true, name_upto, owner_at}
use Rattle.messages.proofs.MessageWritten.{StandsAt, owner_here, wire-length}
use Rattle.messages.proofs.NameWritten.{octet_there}
use Rattle.messages_canonical.specs.declared.form.Part.{Part}
use Rattle.messages_canonical.specs.declared.form.Part.TheVariants.{Octets, Text, Suffix, Lowered, Kept, Rest}
use Rattle.messages_canonical.specs.Forms.{form_of, is_among}
use Rattle.messages_canonical.specs.Canonical.{canonical_rdata, formed_data, in_front, is_canonical_data, octets_upto, part_at, parts_at, suffix_width, width_at}
use Rattle.messages_canonical.specs.InForm.{has_form, read_by_name}
use Rattle.messages_canonical.specs.Laws.{DataStayInForm}
use Rattle.messages_canonical.proofs.NamesRead.{owner_name}

low_name : (n : Name) → IsName n → IsName (low n)
low_name n h = (lower_spells (wire n) n (record { octets = refl; name = h })).name

-- what parts make of a name
abbrev lowered : Name × ℕ → List ℕ × ℕ
lowered n = (wire (low n.0), n.1)

abbrev spelled : Name × ℕ → List ℕ × ℕ
spelled n = (wire n.0, n.1)

abbrev prefixed : Option ℕ → Option ℕ
prefixed o = elim o [ None ↦ None | Some n ↦ suffix_width n ]

abbrev behind_part : (ℕ → Option (List ℕ)) → Option (List ℕ × ℕ) → Option (List ℕ)
behind_part rest o = elim o [ None ↦ None | Some d ↦ in_front d.0 (rest d.1) ]

abbrev told_canonical : List ℕ → Option (List ℕ) → Bool
told_canonical octets o = elim o [ None ↦ false | Some d ↦ bytes_eq d octets ]

-- ---- what is there

some_is : {A : Type 0} (a b : A) → Some a ≡ Some b → a ≡ b
some_is a b e = cc

held : {A : Type 0} (t : Bool) (x y : A) → if_true t x ≡ Some y → (t ≡ true) × (x ≡ y)
held true x y h = (refl, some_is x y h)
held false x y h = cc

-- what stands in front of others
pub record Fronts (octets : List ℕ) (rest : Option (List ℕ)) (whole : List ℕ) : Type 0 where
  pub more : List ℕ
  pub behind_is : rest ≡ Some more
  pub whole_is : whole ≡ octets ++ more

fronts : (octets whole : List ℕ) (rest : Option (List ℕ)) → in_front octets rest ≡ Some whole → Fronts octets rest whole
fronts octets whole None h = cc
fronts octets whole (Some more) h = record { more = more; behind_is = refl; whole_is = sym (some_is (octets ++ more) whole h) }

-- ---- names

abbrev cut : ℕ → Result (Name × ℕ) MessageError → Option (Name × ℕ)
cut limit r = elim r [ Err e ↦ None | Ok n ↦ if_true (nat_le n.1 limit) n ]

-- a name that ends by a limit
pub record Ends (m : List ℕ) (limit p : ℕ) (n : Name × ℕ) : Type 0 where
  pub read : owner_at pointer_limit m p ≡ Ok n
  pub within : n.1 ≤ limit

ends : (m : List ℕ) (limit p : ℕ) (n : Name × ℕ) → name_upto pointer_limit m p limit ≡ Some n → Ends m limit p n
ends m limit p n h = go (owner_at pointer_limit m p) refl h
  where
    go : (r : Result (Name × ℕ) MessageError) → owner_at pointer_limit m p ≡ r → cut limit r ≡ Some n → Ends m limit p n
    go (Err e) is k = cc
    go (Ok x) is k = let t = held (nat_le x.1 limit) x n k in record { read = is ∙ ap (λ (y : Name × ℕ). Ok y) t.1; within = omega (arith, leb-true x.1 limit t.0, ap (λ (y : Name × ℕ). y.1) t.1) }

ends_here : (m : List ℕ) (limit p : ℕ) (n : Name × ℕ) → owner_at pointer_limit m p ≡ Ok n → n.1 ≤ limit → name_upto pointer_limit m p limit ≡ Some n
ends_here m limit p n h within = ap (cut limit) h ∙ ap (λ b. if_true b n) (le-leb n.1 limit within)

owner_pair : (a b : Name × ℕ) (r : Result (Name × ℕ) MessageError) → r ≡ Ok a → r ≡ Ok b → a ≡ b
owner_pair a b r p q = cc

-- ---- one part

range_front : (whole done left : List ℕ) (n : ℕ) → whole ≡ done ++ left → slice_range whole (length done) (length done + n) ≡ take n left
range_front whole done left n e =
    let q = length done in
    let count : q + n - q ≡ n = omega arith in
    ap (λ k. take k (drop q whole)) count ∙ ap (take n) (ap (drop q) e ∙ drop_at done left q refl)

no_octet : (done : List ℕ) → slice_get (done ++ []) (length done) ≡ None
no_octet [] = refl
no_octet (x ∷ done) = no_octet done

module _ (before o after : List ℕ) where
  abbrev m : List ℕ
  m = before ++ (o ++ after)

  abbrev p : ℕ
  p = length before

  abbrev limit : ℕ
  limit = p + length o

  -- from a place on
  stands_here : (done left : List ℕ) → o ≡ done ++ left → StandsAt m (p + length done) (left ++ after)
  stands_here done left e = record {
    front = before ++ done;
    whole = ap (λ (l : List ℕ). before ++ (l ++ after)) e ∙ ap (λ (l : List ℕ). before ++ l) (append_assoc done left after) ∙ sym (append_assoc before done (left ++ after));
    place = sym (length-append before done);
  }

  -- a name whose form in full, whatever is made of its labels, stands where it was read
  name_there : (f : Name → Name) → ((n : Name) → IsName n → IsName (f n)) → (done more : List ℕ) (n : Name × ℕ) → o ≡ done ++ (wire (f n.0) ++ more) → name_upto pointer_limit o (length done) (length o) ≡ Some n
      → (n.1 ≡ length done + length (wire (f n.0))) × (name_upto pointer_limit m (p + length done) limit ≡ Some (f n.0, p + n.1)) × (f (f n.0) ≡ f n.0)
  name_there f keeps done more n e h =
      let q = length done in
      let w = wire (f n.0) in
      let was = ends o (length o) q n h in
      let is : IsName (f n.0) = keeps n.0 (owner_name pointer_limit o q n was.read) in
      let here : StandsAt o q (w ++ more) = record { front = done; whole = e; place = refl } in
      let read = owner_here o q (f n.0) more is here in
      let same : n ≡ (f n.0, q + wire_len (f n.0)) = owner_pair n (f n.0, q + wire_len (f n.0)) (owner_at pointer_limit o q) was.read read in
      let end : n.1 ≡ q + wire_len (f n.0) = ap (λ (x : Name × ℕ). x.1) same in
      let long : n.1 ≡ q + length w = omega (arith, end, wire-length (f n.0)) in
      let standing : StandsAt m (p + q) (w ++ (more ++ after)) =
      subst (StandsAt m (p + q)) (append_assoc w more after) (stands_here done (w ++ more) e) in
      let there : owner_at pointer_limit m (p + q) ≡ Ok (f n.0, p + n.1) =
      owner_here m (p + q) (f n.0) (more ++ after) is standing ∙ ap (λ (x : ℕ). Ok (f n.0, x)) (omega (arith, end)) in
      (long, ends_here m limit (p + q) (f n.0, p + n.1) there (omega (arith, was.within)), ap f (sym (ap (λ (x : Name × ℕ). x.0) same)))

  -- octets of some width
  octets_there : (done left : List ℕ) (w u : Option ℕ) (d : List ℕ × ℕ) → o ≡ done ++ left → ((n : ℕ) → w ≡ Some n → u ≡ Some n) → octets_upto o (length o) (length done) w ≡ Some d
      → (d.1 ≡ length done + length d.0) × (octets_upto m limit (p + length done) u ≡ Some (d.0, p + d.1))
  octets_there done left None u d e same h = cc
  octets_there done left (Some n) u d e same h =
      let q = length done in
      let t = held (nat_le (q + n) (length o)) (slice_range o q (q + n), q + n) d h in
      let inside : q + n ≤ length o = leb-true (q + n) (length o) t.0 in
      let octets : d.0 ≡ slice_range o q (q + n) = sym (ap (λ (x : List ℕ × ℕ). x.0) t.1) in
      let end : d.1 ≡ q + n = sym (ap (λ (x : List ℕ × ℕ). x.1) t.1) in
      let long : length d.0 ≡ n = ap length octets ∙ length-range o q n inside in
      let room : n ≤ length left = omega (arith, inside, ap length e, length-append done left) in
      let own : slice_range o q (q + n) ≡ take n left = range_front o done left n e in
      let here = stands_here done left e in
      let other : slice_range m (p + q) (p + q + n) ≡ take n (left ++ after) =
      ap (λ (l : List ℕ). slice_range l (p + q) (p + q + n)) here.whole ∙ ap (λ x. slice_range (here.front ++ (left ++ after)) x (x + n)) here.place ∙ range_front (here.front ++ (left ++ after)) here.front (left ++ after) n refl in
      let both : slice_range m (p + q) (p + q + n) ≡ d.0 = other ∙ take-append-le n left after room ∙ sym own ∙ sym octets in
      let fits : nat_le (p + q + n) limit ≡ true = le-leb (p + q + n) limit (omega (arith, inside)) in (
        omega (arith, end, long),
        ap (λ v. octets_upto m limit (p + q) v) (same n refl)
            ∙ ap (λ b. if_true b (slice_range m (p + q) (p + q + n), p + q + n)) fits
            ∙ ap (λ (l : List ℕ). Some (l, p + q + n)) both
            ∙ ap (λ (x : ℕ). Some (d.0, x)) (omega (arith, end)),
      )

  -- an octet
  octet_same : (done left : List ℕ) → o ≡ done ++ left → (x : ℕ) → slice_get o (length done) ≡ Some x → slice_get m (p + length done) ≡ Some x
  octet_same done [] e x h = let none : slice_get o (length done) ≡ None = ap (λ (l : List ℕ). slice_get l (length done)) e ∙ no_octet done in cc
  octet_same done (y ∷ left) e x h =
      let here = stands_here done (y ∷ left) e in
      let own : slice_get o (length done) ≡ Some y = octet_there o done y left (length done) e refl in
      let same : Some y ≡ Some x = sym own ∙ h in
      octet_there m here.front y (left ++ after) (p + length done) here.whole here.place ∙ same

  -- how many octets a part has
  width_same : (part : Part) (done left : List ℕ) → o ≡ done ++ left → (n : ℕ) → width_at o (length o) part (length done) ≡ Some n → width_at m limit part (p + length done) ≡ Some n
  width_same (Octets c) done left e n h = h
  width_same Text done left e n h = go (slice_get o (length done)) refl h
    where
      go : (x : Option ℕ) → slice_get o (length done) ≡ x → option_map (λ k. 1 + k) x ≡ Some n → width_at m limit Text (p + length done) ≡ Some n
      go None is k = cc
      go (Some x) is k = ap (option_map (λ k. 1 + k)) (octet_same done left e x is) ∙ k
  width_same Suffix done left e n h = go (slice_get o (length done)) refl h
    where
      go : (x : Option ℕ) → slice_get o (length done) ≡ x → prefixed x ≡ Some n → width_at m limit Suffix (p + length done) ≡ Some n
      go None is k = cc
      go (Some x) is k = ap prefixed (octet_same done left e x is) ∙ k
  width_same Rest done left e n h = ap Some (omega arith) ∙ h
  width_same Lowered done left e n h = h
  width_same Kept done left e n h = h

  -- a part
  part_there : (part : Part) (done left more : List ℕ) (d : List ℕ × ℕ) → o ≡ done ++ left → left ≡ d.0 ++ more → part_at pointer_limit o (length o) part (length done) ≡ Some d
      → (d.1 ≡ length done + length d.0) × (part_at pointer_limit m limit part (p + length done) ≡ Some (d.0, p + d.1))
  part_there Lowered done left more d e f h = go (name_upto pointer_limit o (length done) (length o)) refl h
    where
      go : (x : Option (Name × ℕ)) → name_upto pointer_limit o (length done) (length o) ≡ x → option_map lowered x ≡ Some d → (d.1 ≡ length done + length d.0) × (part_at pointer_limit m limit Lowered (p + length done) ≡ Some (d.0, p + d.1))
      go None is k = cc
      go (Some n) is k =
          let d_is : lowered n ≡ d = some_is (lowered n) d k in
          let octets : wire (low n.0) ≡ d.0 = ap (λ (x : List ℕ × ℕ). x.0) d_is in
          let end : n.1 ≡ d.1 = ap (λ (x : List ℕ × ℕ). x.1) d_is in
          let whole : o ≡ done ++ (wire (low n.0) ++ more) = e ∙ ap (λ (l : List ℕ). done ++ l) (f ∙ ap (λ (l : List ℕ). l ++ more) (sym octets)) in
          let t = name_there low low_name done more n whole is in (
            sym end ∙ t.0 ∙ ap (λ (l : List ℕ). length done + length l) octets,
            ap (option_map lowered) t.1 ∙ (λ i. Some (wire (t.2 i), p + end i)) ∙ ap (λ (l : List ℕ). Some (l, p + d.1)) octets,
          )
  part_there Kept done left more d e f h = go (name_upto pointer_limit o (length done) (length o)) refl h
    where
      go : (x : Option (Name × ℕ)) → name_upto pointer_limit o (length done) (length o) ≡ x → option_map spelled x ≡ Some d → (d.1 ≡ length done + length d.0) × (part_at pointer_limit m limit Kept (p + length done) ≡ Some (d.0, p + d.1))
      go None is k = cc
      go (Some n) is k =
          let d_is : spelled n ≡ d = some_is (spelled n) d k in
          let octets : wire n.0 ≡ d.0 = ap (λ (x : List ℕ × ℕ). x.0) d_is in
          let end : n.1 ≡ d.1 = ap (λ (x : List ℕ × ℕ). x.1) d_is in
          let whole : o ≡ done ++ (wire n.0 ++ more) = e ∙ ap (λ (l : List ℕ). done ++ l) (f ∙ ap (λ (l : List ℕ). l ++ more) (sym octets)) in
          let t = name_there (λ n. n) (λ n h. h) done more n whole is in (
            sym end ∙ t.0 ∙ ap (λ (l : List ℕ). length done + length l) octets,
            ap (option_map spelled) t.1 ∙ ap (λ (x : ℕ). Some (wire n.0, p + x)) end ∙ ap (λ (l : List ℕ). Some (l, p + d.1)) octets,
          )
  part_there (Octets c) done left more d e f h = octets_there done left _ _ d e (width_same (Octets c) done left e) h
  part_there Text done left more d e f h = octets_there done left _ _ d e (width_same Text done left e) h
  part_there Suffix done left more d e f h = octets_there done left _ _ d e (width_same Suffix done left e) h
  part_there Rest done left more d e f h = octets_there done left _ _ d e (width_same Rest done left e) h

  -- parts one behind another
  parts_there : (ps : List Part) (done left : List ℕ) → o ≡ done ++ left → parts_at pointer_limit o (length o) ps (length done) ≡ Some left → parts_at pointer_limit m limit ps (p + length done) ≡ Some left
  parts_there [] done left e h =
      let t = held (nat_eq (length done) (length o)) [] left h in
      let same : length done ≡ length o = eqb-true (length done) (length o) t.0 in
      ap (λ b. if_true b []) (eq-eqb (p + length done) limit (ap (λ n. p + n) same)) ∙ ap Some t.1
  parts_there (part ∷ ps) done left e h = go (part_at pointer_limit o (length o) part (length done)) refl h (λ next more whole reads. parts_there ps next more whole reads)
    where
      go : (x : Option (List ℕ × ℕ)) → part_at pointer_limit o (length o) part (length done) ≡ x → behind_part (parts_at pointer_limit o (length o) ps) x ≡ Some left
          → ((next more : List ℕ) → o ≡ next ++ more → parts_at pointer_limit o (length o) ps (length next) ≡ Some more → parts_at pointer_limit m limit ps (p + length next) ≡ Some more)
          → parts_at pointer_limit m limit (part ∷ ps) (p + length done) ≡ Some left
      go None is k on = cc
      go (Some d) is k on =
          let f = fronts d.0 left (parts_at pointer_limit o (length o) ps d.1) k in
          let t = part_there part done left f.more d e f.whole_is is in
          let long : length (done ++ d.0) ≡ d.1 = length-append done d.0 ∙ sym t.0 in
          let whole : o ≡ (done ++ d.0) ++ f.more = e ∙ ap (λ (l : List ℕ). done ++ l) f.whole_is ∙ sym (append_assoc done d.0 f.more) in
          let rest = on (done ++ d.0) f.more whole (ap (parts_at pointer_limit o (length o) ps) long ∙ f.behind_is) in
          let here : parts_at pointer_limit m limit ps (p + d.1) ≡ Some f.more = ap (λ n. parts_at pointer_limit m limit ps (p + n)) (sym long) ∙ rest in
          ap (behind_part (parts_at pointer_limit m limit ps)) t.1 ∙ ap (in_front d.0) here ∙ ap Some (sym f.whole_is)

-- ---- the form of data

-- it depends on the first octet for addresses behind a prefix alone
form_same : (t x y : ℕ) → (t == 38) ≡ false → form_of t x ≡ form_of t y
form_same t x y h = rw h

no_prefix : (t : ℕ) (d : List ℕ) → t ≡ 38 → parts_at pointer_limit [] 0 (form_of t 0) 0 ≡ Some d → ⊥
no_prefix t d e h =
    let none : parts_at pointer_limit [] 0 (form_of 38 0) 0 ≡ None = refl in
    let is = ap (λ x. parts_at pointer_limit [] 0 (form_of x 0) 0) e in
    cc

-- ---- the data of a record

canonical_is : (k t : ℕ) (octets : List ℕ) → is_canonical_data k t octets ≡ true → parts_at k octets (length octets) (form_of t (slice_index octets 0)) 0 ≡ Some octets
canonical_is k t octets h = go (parts_at k octets (length octets) (form_of t (slice_index octets 0)) 0) h
  where
    go : (o : Option (List ℕ)) → told_canonical octets o ≡ true → o ≡ Some octets
    go None e = cc
    go (Some d) e = ap Some ((bytes_eq-Decides d octets).0 e)

abbrev when_there : Option (List ℕ) → Bool → Option (List ℕ)
when_there o b = elim b [ false ↦ None | true ↦ o ]

form_here : (t : ℕ) (m : List ℕ) (octets before after : List ℕ) (d : List ℕ) → m ≡ before ++ (octets ++ after) → parts_at pointer_limit octets (length octets) (form_of t (slice_index octets 0)) 0 ≡ Some d → form_of t (slice_index octets 0) ≡ form_of t (slice_index m (length before))
form_here t m [] before after d e h =
    elim (cases_Bool (t == 38)) [
      | inl is ↦ absurd (no_prefix t d (eqb-true t 38 is) h)
      | inr isnt ↦ form_same t 0 (slice_index m (length before)) isnt
    ]
form_here t m (x ∷ octets) before after d e h =
    ap (form_of t) (sym (get_or_from_slice_get m (length before) x 0 (octet_there m before x (octets ++ after) (length before) e refl)))

pub canonical_there : (m : List ℕ) (r : Spelled) → behind r ≤ length m → is_canonical_data pointer_limit r.rtype (data_of m r) ≡ true → formed_data pointer_limit m r ≡ Some (data_of m r)
canonical_there m r inside h =
    let o = data_of m r in
    let before = take r.start m in
    let after = drop (behind r) m in
    let whole : m ≡ before ++ (o ++ after) = split_between m r.start (behind r) (omega arith) in
    let start : length before ≡ r.start = length-take-le r.start m (omega (arith, inside)) in
    let long : length o ≡ r.length = length-range m r.start r.length inside in
    let own = canonical_is pointer_limit r.rtype o h in
    let form = form_here r.rtype m o before after o whole own in
    let there = parts_there before o after (form_of r.rtype (slice_index o 0)) [] o refl own in
    let place : r.start ≡ length before + 0 = omega (arith, start) in
    let end : behind r ≡ length before + length o = omega (arith, start, long) in
    let same_form : form_of r.rtype (slice_index m r.start) ≡ form_of r.rtype (slice_index o 0) = ap (λ n. form_of r.rtype (slice_index m n)) (sym start) ∙ sym form in
    ap (when_there (parts_at pointer_limit m (behind r) (form_of r.rtype (slice_index m r.start)) r.start)) (le-leb (behind r) (length m) inside)
    ∙ (λ i. parts_at pointer_limit (whole i) (end i) (same_form i) (place i)) ∙ there

canonical_stand : (m : List ℕ) (r : Spelled) → behind r ≤ length m → is_canonical_data pointer_limit r.rtype (data_of m r) ≡ true → canonical_rdata pointer_limit m r ≡ data_of m r
canonical_stand m r inside h = ap (λ o. unwrap_or o (data_of m r)) (canonical_there m r inside h)

pub stay_in_form : DataStayInForm
stay_in_form m r inside h =
    elim (or_cases (is_among r.rtype read_by_name) (is_canonical_data pointer_limit r.rtype (data_of m r)) h) [
      | inl among ↦ or_left (is_among r.rtype read_by_name) (bytes_eq (canonical_rdata pointer_limit m r) (data_of m r)) among
      | inr canonical ↦
          or_right (is_among r.rtype read_by_name) (bytes_eq (canonical_rdata pointer_limit m r) (data_of m r)) ((bytes_eq-Decides (canonical_rdata pointer_limit m r) (data_of m r)).1 (canonical_stand m r inside canonical))
    ]

-- ---- data without names

rest_alone : (d : List ℕ) → parts_at pointer_limit d (length d) (Rest ∷ []) 0 ≡ Some d
rest_alone d =
    let n = length d in
    let end : 0 + (n - 0) ≡ n = omega arith in
    let whole : take n d ≡ d = take_all n d (omega arith) in
    let octets : slice_range d 0 (0 + (n - 0)) ≡ d = ap (λ k. take (k - 0) d) end ∙ ap (λ k. take k d) (omega arith) ∙ whole in
    ap (λ b. behind_part (parts_at pointer_limit d n []) (if_true b (slice_range d 0 (0 + (n - 0)), 0 + (n - 0)))) (le-leb (0 + (n - 0)) n (omega arith))
    ∙ (λ i. in_front (octets i) (if_true (nat_eq (end i) n) []))
    ∙ ap (λ b. in_front d (if_true b [])) (eq-eqb n n refl) ∙ ap Some (append-nil d)

-- data of a type without names are in form
pub without_names : (t : ℕ) (d : List ℕ) → form_of t (slice_index d 0) ≡ Rest ∷ [] → has_form t d ≡ true
without_names t d h =
    or_right (is_among t read_by_name) (is_canonical_data pointer_limit t d)
    (ap (λ ps. told_canonical d (parts_at pointer_limit d (length d) ps 0)) h ∙ ap (told_canonical d) (rest_alone d) ∙ (bytes_eq-Decides d d).1 refl)
