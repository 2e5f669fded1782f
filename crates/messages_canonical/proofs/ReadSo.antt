-- NS, SOA and NSEC data read in canonical form however they stand.
use Rattle.std.proofs.Common.{◌≡◌, ℕ, ◌+◌, ◌-◌, ◌≤◌, Bool, true, false, List, [], ◌++◌, length, Option, Some, None, Result, Ok, Err, inl, inr, refl, sym, ap, ◌∙◌, append_assoc, arith}
use Rattle.std.specs.Prelude.{◌==◌, ◌||◌, ◌&&◌, nat_eq, nat_le, slice_index, slice_range, unwrap_or}
use Rattle.std.specs.Option.{option_map}
use Rattle.std.proofs.lemmas.Bool.{eqb-true, eq-eqb, le-leb, leb-true, or_cases}
use Rattle.std.proofs.lemmas.List.{append-nil}
use Rattle.definitions.specs.Bitmap.{is_bitmap}
use Rattle.definitions.specs.Limits.{pointer_limit}
use Rattle.definitions.specs.Name.{Name, low, wire}
use Rattle.messages.specs.declared.error.MessageError.{MessageError}
use Rattle.messages.specs.Message.{Spelled, behind, data_of, fits, if_true, name_upto, ns_data, nsec3_data, nsec_data, owner_at, soa_data}
use Rattle.messages_canonical.specs.Forms.{form_of}
use Rattle.messages_canonical.specs.Canonical.{canonical_rdata, in_front, octets_upto, parts_at}
use Rattle.messages_canonical.specs.Laws.{NamesAreReadSo}

some_is : {A : Type 0} (a b : A) → Some a ≡ Some b → a ≡ b
some_is a b e = cc

held : {A : Type 0} (t : Bool) (x y : A) → if_true t x ≡ Some y → (t ≡ true) × (x ≡ y)
held true x y h = (refl, some_is x y h)
held false x y h = cc

-- a name that was read ends by the limit
ends_by : (m : List ℕ) (p limit : ℕ) (n : Name × ℕ) → name_upto pointer_limit m p limit ≡ Some n → n.1 ≤ limit
ends_by m p limit n h = go (owner_at pointer_limit m p) h
  where
    go : (r : Result (Name × ℕ) MessageError) → (elim r as (λ _. Option (Name × ℕ)) [ Err e ↦ None | Ok n ↦ if_true (nat_le n.1 limit) n ]) ≡ Some n → n.1 ≤ limit
    go (Err e) k = cc
    go (Ok x) k = let t = held (nat_le x.1 limit) x n k in omega (arith, leb-true x.1 limit t.0, ap (λ (y : Name × ℕ). y.1) t.1)

-- ---- what is behind a name, where one is there

abbrev lowered : Name × ℕ → List ℕ × ℕ
lowered n = (wire (low n.0), n.1)

abbrev kept : Name × ℕ → List ℕ × ℕ
kept n = (wire n.0, n.1)

abbrev then : Option (List ℕ × ℕ) → (ℕ → Option (List ℕ)) → Option (List ℕ)
then o rest = elim o [ None ↦ None | Some d ↦ in_front d.0 (rest d.1) ]

-- the data are within the message
abbrev when : {A : Type 0} → Bool → Option A → Option A
when b o = elim b [ false ↦ None | true ↦ o ]

module _ (m : List ℕ) (start limit : ℕ) where
  abbrev name_from : ℕ → Option (Name × ℕ)
  name_from p = name_upto pointer_limit m p limit

  abbrev at_end : ℕ → Option (List ℕ)
  at_end p = if_true (nat_eq p limit) []

  -- NS: a name and nothing else
  abbrev ns_by : Option (Name × ℕ) → Option (List ℕ)
  ns_by o = elim o [ None ↦ None | Some n ↦ if_true (nat_eq n.1 limit) (wire (low n.0)) ]

  ns_formed : (o : Option (Name × ℕ)) (d : List ℕ) → ns_by o ≡ Some d → then (option_map lowered o) at_end ≡ Some d
  ns_formed None d h = cc
  ns_formed (Some n) d h =
      let t = held (nat_eq n.1 limit) (wire (low n.0)) d h in
      ap (λ b. in_front (wire (low n.0)) (if_true b [])) t.0 ∙ ap Some (append-nil (wire (low n.0)) ∙ t.1)

  -- SOA: two names and five numbers
  abbrev numbers : ℕ → Option (List ℕ)
  numbers p = then (octets_upto m limit p (Some 20)) at_end

  numbers_there : (p : ℕ) → nat_eq (p + 20) limit ≡ true → numbers p ≡ Some (slice_range m p limit)
  numbers_there p h =
      let end : p + 20 ≡ limit = eqb-true (p + 20) limit h in
      ap (λ b. then (if_true b (slice_range m p (p + 20), p + 20)) at_end) (le-leb (p + 20) limit (omega (arith, end)))
      ∙ ap (λ b. in_front (slice_range m p (p + 20)) (if_true b [])) h
      ∙ ap Some (append-nil (slice_range m p (p + 20)) ∙ ap (slice_range m p) end)

  abbrev soa_tail : Name × ℕ → Option (Name × ℕ) → Option (List ℕ)
  soa_tail n o = elim o [ None ↦ None | Some o ↦ if_true (nat_eq (o.1 + 20) limit) (wire (low n.0) ++ wire (low o.0) ++ slice_range m o.1 limit) ]

  abbrev soa_by : Option (Name × ℕ) → Option (List ℕ)
  soa_by o = elim o [ None ↦ None | Some n ↦ soa_tail n (name_from n.1) ]

  tail_formed : (n : Name × ℕ) (o : Option (Name × ℕ)) (d : List ℕ) → soa_tail n o ≡ Some d → in_front (wire (low n.0)) (then (option_map lowered o) numbers) ≡ Some d
  tail_formed n None d h = cc
  tail_formed n (Some o) d h =
      let t = held (nat_eq (o.1 + 20) limit) (wire (low n.0) ++ wire (low o.0) ++ slice_range m o.1 limit) d h in
      ap (λ x. in_front (wire (low n.0)) (in_front (wire (low o.0)) x)) (numbers_there o.1 t.0)
      ∙ ap Some (sym (append_assoc (wire (low n.0)) (wire (low o.0)) (slice_range m o.1 limit)) ∙ t.1)

  soa_formed : (o : Option (Name × ℕ)) (d : List ℕ) → soa_by o ≡ Some d → then (option_map lowered o) (λ p. then (option_map lowered (name_from p)) numbers) ≡ Some d
  soa_formed None d h = cc
  soa_formed (Some n) d h = tail_formed n (name_from n.1) d h

  -- NSEC: a name and a bitmap
  abbrev nsec_by : Option (Name × ℕ) → Option (List ℕ)
  nsec_by o = elim (elim o as (λ _. Option (Name × List ℕ)) [
    | None ↦ None
    | Some n ↦ let bits = slice_range m n.1 limit in if_true (is_bitmap bits && fits (wire n.0 ++ bits)) (n.0, bits)
  ]) [ None ↦ None | Some n ↦ Some (wire n.0 ++ n.1) ]

  abbrev rest : ℕ → Option (List ℕ)
  rest p = then (octets_upto m limit p (Some (limit - p))) at_end

  rest_there : (p : ℕ) → p ≤ limit → rest p ≡ Some (slice_range m p limit)
  rest_there p h =
      let end : p + (limit - p) ≡ limit = omega (arith, h) in
      ap (λ x. then (if_true (nat_le x limit) (slice_range m p x, x)) at_end) end
      ∙ ap (λ b. then (if_true b (slice_range m p limit, limit)) at_end) (le-leb limit limit (omega arith))
      ∙ ap (λ b. in_front (slice_range m p limit) (if_true b [])) (eq-eqb limit limit refl) ∙ ap Some (append-nil (slice_range m p limit))

  nsec_formed : (o : Option (Name × ℕ)) (d : List ℕ) → ((n : Name × ℕ) → o ≡ Some n → n.1 ≤ limit) → nsec_by o ≡ Some d → then (option_map kept o) rest ≡ Some d
  nsec_formed None d within h = cc
  nsec_formed (Some n) d within h = go (is_bitmap (slice_range m n.1 limit) && fits (wire n.0 ++ slice_range m n.1 limit)) h
    where
      go : (b : Bool) → (elim (if_true {A = Name × List ℕ} b (n.0, slice_range m n.1 limit)) as (λ _. Option (List ℕ)) [ None ↦ None | Some n ↦ Some (wire n.0 ++ n.1) ]) ≡ Some d → then (option_map kept (Some n)) rest ≡ Some d
      go true e = ap (in_front (wire n.0)) (rest_there n.1 (within n refl)) ∙ e
      go false e = cc

  soa_inside : (b : Bool) (o : Option (Name × ℕ)) (d : List ℕ) → (elim (when b o) as (λ _. Option (List ℕ)) [ None ↦ None | Some n ↦ soa_tail n (when b (name_from n.1)) ]) ≡ Some d
      → when b (then (option_map lowered o) (λ p. then (option_map lowered (name_from p)) numbers)) ≡ Some d
  soa_inside true o d h = soa_formed o d h
  soa_inside false o d h = cc

-- where the message has the data
inside_so : (b : Bool) (by : Option (Name × ℕ) → Option (List ℕ)) (o : Option (Name × ℕ)) (formed : Option (List ℕ)) (d : List ℕ) → by None ≡ None → (by o ≡ Some d → formed ≡ Some d) → by (when b o) ≡ Some d → when b formed ≡ Some d
inside_so true by o formed d none f h = f h
inside_so false by o formed d none f h = let e : None ≡ Some d = sym none ∙ h in cc

-- ---- by type

module _ (m : List ℕ) (r : Spelled) (d : List ℕ) where
  abbrev formed_as : ℕ → Option (List ℕ)
  formed_as t = when (nat_le (behind r) (length m)) (parts_at pointer_limit m (behind r) (form_of t (slice_index m r.start)) r.start)

  by_form : (t : ℕ) → r.rtype ≡ t → formed_as t ≡ Some d → canonical_rdata pointer_limit m r ≡ d
  by_form t e h = ap (λ o. unwrap_or o (data_of m r)) (ap formed_as e ∙ h)

  abbrev data_as : ℕ → Option (List ℕ)
  data_as t = elim (nat_eq t 2) [
    | true ↦ ns_data pointer_limit m r
    | false ↦ elim (nat_eq t 6) [
      | true ↦ soa_data pointer_limit m r
      | false ↦ elim (nat_eq t 47) [ true ↦ nsec_data pointer_limit m r | false ↦ elim (nat_eq t 50) [ true ↦ nsec3_data m r | false ↦ Some (data_of m r) ] ]
    ]
  ]

  so_ns : r.rtype ≡ 2 → data_as r.rtype ≡ Some d → canonical_rdata pointer_limit m r ≡ d
  so_ns e h = by_form 2 e (inside_so (nat_le (behind r) (length m)) (ns_by m r.start (behind r)) (name_upto pointer_limit m r.start (behind r)) _ d refl (ns_formed m r.start (behind r) (name_upto pointer_limit m r.start (behind r)) d) (ap data_as (sym e) ∙ h))

  so_soa : r.rtype ≡ 6 → data_as r.rtype ≡ Some d → canonical_rdata pointer_limit m r ≡ d
  so_soa e h = by_form 6 e (soa_inside m r.start (behind r) (nat_le (behind r) (length m)) (name_upto pointer_limit m r.start (behind r)) d (ap data_as (sym e) ∙ h))

  so_nsec : r.rtype ≡ 47 → data_as r.rtype ≡ Some d → canonical_rdata pointer_limit m r ≡ d
  so_nsec e h = by_form 47 e (inside_so (nat_le (behind r) (length m)) (nsec_by m r.start (behind r)) (name_upto pointer_limit m r.start (behind r)) _ d refl (nsec_formed m r.start (behind r) (name_upto pointer_limit m r.start (behind r)) d (ends_by m r.start (behind r))) (ap data_as (sym e) ∙ h))

pub names_so : NamesAreReadSo
names_so m r d among h =
    elim (or_cases (r.rtype == 2) ((r.rtype == 6) || ((r.rtype == 47) || false)) among) [
      | inl is ↦ so_ns m r d (eqb-true r.rtype 2 is) h
      | inr more ↦ elim (or_cases (r.rtype == 6) ((r.rtype == 47) || false) more) [
        | inl is ↦ so_soa m r d (eqb-true r.rtype 6 is) h
        | inr last ↦ elim (or_cases (r.rtype == 47) false last) [ inl is ↦ so_nsec m r d (eqb-true r.rtype 47 is) h | inr none ↦ cc ]
      ]
    ]
