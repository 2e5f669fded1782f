-- Data that are seen to stand in canonical form.
use Rattle.std.proofs.Common.{◌≡◌, ℕ, ◌+◌, ◌-◌, ◌<◌, ◌≤◌, Bool, true, false, List, [], ◌∷◌, ◌++◌, length, take, drop, get_or, Option, Some, None, Result, Ok, Err, refl, sym, ap, ◌∙◌, arith}
use Rattle.std.specs.Prelude.{◌||◌, slice_index, slice_range, nat_eq, nat_le, unwrap_or}
use Rattle.std.specs.Option.{option_map}
use Rattle.std.specs.Str.{bytes_eq, str_to_ascii_lowercase}
use Rattle.std.proofs.Math.Seq.{take-add}
use Rattle.std.proofs.lemmas.Bool.{false≢true, le-leb, leb-true}
use Rattle.std.proofs.lemmas.List.{drop-drop}
use Rattle.definitions.specs.Limits.{pointer_limit}
use Rattle.definitions.specs.Name.{Name, wire, low}
use Rattle.names_labels.specs.Flat.{IsRunOf}
use Rattle.names_rdata.proofs.Names.{row_is_wire, row_lowered}
use Rattle.messages.specs.declared.error.MessageError.{MessageError}
use Rattle.messages.specs.Message.{Spelled, behind, data_of, if_true, name_upto, owner_at}
use Rattle.messages_canonical.specs.declared.form.Part.{Part}
use Rattle.messages_canonical.specs.declared.form.Part.TheVariants.{Kept, Lowered}
use Rattle.messages_canonical.specs.Forms.{form_of, is_among}
use Rattle.messages_canonical.specs.Canonical.{PutsData, in_front, part_at, parts_at}
use Rattle.messages_canonical.specs.InForm.{is_in_form, read_by_name}
use Rattle.messages_canonical.specs.Walking.{StandsInFull, data_in_form}
use Rattle.messages_canonical.proofs.Pieces.{all_parts, front_none, part_more}

abbrev when_there : Option (List ℕ) → Bool → Option (List ℕ)
when_there o b = elim b [ false ↦ None | true ↦ o ]

pub range_join : (m : List ℕ) (p q e : ℕ) → p ≤ q → q ≤ e → slice_range m p e ≡ slice_range m p q ++ slice_range m q e
range_join m p q e h k =
    let n : e - p ≡ (q - p) + (e - q) = omega (arith, h, k) in
    let at : p + (q - p) ≡ q = omega (arith, h) in
    ap (λ n. take n (drop p m)) n ∙ take-add (q - p) (e - q) (drop p m)
    ∙ ap (λ xs. slice_range m p q ++ take (e - q) xs) (drop-drop (q - p) p m ∙ ap (λ k. drop k m) at)

pub standing_none : (m : List ℕ) (start : ℕ) (o : Option (List ℕ)) → o ≡ in_front (slice_range m start start) o
standing_none m start o =
    let none : start - start ≡ 0 = omega arith in
    sym (ap (λ n. in_front (take n (drop start m)) o) none ∙ front_none o)

-- one more part that stands behind those so far
pub standing_more : (m : List ℕ) (limit : ℕ) (ps : List Part) (i : ℕ) (d : Part) (start p b : ℕ) (whole : Option (List ℕ)) → i < length ps → start ≤ p → p ≤ b
    → whole ≡ in_front (slice_range m start p) (parts_at pointer_limit m limit (drop i ps) p) → part_at pointer_limit m limit (get_or ps i d) p ≡ Some (slice_range m p b, b)
    → whole ≡ in_front (slice_range m start b) (parts_at pointer_limit m limit (drop (i + 1) ps) b)
standing_more m limit ps i d start p b whole inside before behind h is =
    part_more pointer_limit m limit ps i d p b (slice_range m start p) (slice_range m start b) (slice_range m p b) whole inside h is (range_join m start p b before behind)

-- all of them
pub standing_all : (m : List ℕ) (limit start p : ℕ) (whole : Option (List ℕ)) → nat_eq p limit ≡ true → p ≡ limit → whole ≡ in_front (slice_range m start p) (parts_at pointer_limit m limit [] p) → whole ≡ Some (slice_range m start limit)
standing_all m limit start p whole t e h =
    put (nat_eq p limit) (all_parts pointer_limit m limit p (slice_range m start p) whole h) t ∙ ap (λ n. Some (slice_range m start n)) e
  where
    put : (b : Bool) → PutsData b (slice_range m start p) whole → b ≡ true → whole ≡ Some (slice_range m start p)
    put true is k = is
    put false is k = absurd (false≢true k)

-- ---- names that stand in full

abbrev spelled : Name × ℕ → List ℕ × ℕ
spelled n = (wire n.0, n.1)

abbrev lowered : Name × ℕ → List ℕ × ℕ
lowered n = (wire (low n.0), n.1)

pub kept_stands : (m : List ℕ) (limit p e : ℕ) → StandsInFull m limit p e → part_at pointer_limit m limit Kept p ≡ Some (slice_range m p e, e)
kept_stands m limit p e s = ap (option_map spelled) s.read ∙ ap (λ (l : List ℕ). Some (l, e)) (sym s.spelled)

pub lowered_stands : (m : List ℕ) (limit p e : ℕ) → StandsInFull m limit p e → str_to_ascii_lowercase (slice_range m p e) ≡ slice_range m p e → part_at pointer_limit m limit Lowered p ≡ Some (slice_range m p e, e)
lowered_stands m limit p e s low = ap (option_map lowered) s.read ∙ ap (λ (l : List ℕ). Some (l, e)) (sym s.lowered ∙ low)

-- where the row of a name's labels is what stands from its place up to its end
pub in_full : (m : List ℕ) (limit p e : ℕ) (n labels : Name) (row : List ℕ) → name_upto pointer_limit m p limit ≡ Some (n, e) → IsRunOf row labels → labels ≡ n ++ [] ∷ [] → row ≡ slice_range m p e → p ≤ e → StandsInFull m limit p e
in_full m limit p e n labels row read run rooted is onward = record {
  name = n;
  read = read;
  spelled = sym is ∙ row_is_wire row labels n run rooted;
  lowered = ap str_to_ascii_lowercase (sym is) ∙ row_lowered row labels n run rooted;
  onward = onward;
  short = within (owner_at pointer_limit m p) read;
}
  where
    within : (r : Result (Name × ℕ) MessageError) → (elim r as (λ _. Option (Name × ℕ)) [ Err e ↦ None | Ok n ↦ if_true (nat_le n.1 limit) n ]) ≡ Some (n, e) → e ≤ limit
    within (Err f) h = cc
    within (Ok x) h = by_test (nat_le x.1 limit) x refl h
      where
        by_test : (b : Bool) (x : Name × ℕ) → nat_le x.1 limit ≡ b → if_true b x ≡ Some (n, e) → e ≤ limit
        by_test true x t k = let end : x.1 ≡ e = cc in omega (arith, leb-true x.1 limit t, end)
        by_test false x t k = cc

-- ---- the data of a record

pub in_form_there : (m : List ℕ) (r : Spelled) → behind r ≤ length m → is_in_form pointer_limit m r ≡ data_in_form pointer_limit m r.rtype r.start (behind r)
in_form_there m r inside =
    let formed = parts_at pointer_limit m (behind r) (form_of r.rtype (slice_index m r.start)) r.start in
    ap (λ b. is_among r.rtype read_by_name || bytes_eq (unwrap_or (when_there formed b) (data_of m r)) (data_of m r)) (le-leb (behind r) (length m) inside)
