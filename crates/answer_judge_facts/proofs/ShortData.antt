-- Data of NSEC3 records are no longer than a message can say.
use Rattle.std.proofs.Common.{◌≡◌, ℕ, ◌+◌, ◌-◌, ◌≤◌, true, false, List, [], ◌∷◌, map, length, drop, sym, subst, ap, ◌∙◌, arith, refl}
use Rattle.std.specs.Prelude.{Option, Some, None, nat_eq}
use Rattle.std.specs.List.{AllByRecursion, cons_option, filter_map}
use Rattle.std.specs.Ordering.{nat_cmp}
use Rattle.std.specs.Cmp.Lexicographic.{slice_cmp}
use Rattle.std.proofs.lemmas.List.{length-take}
use Rattle.definitions.specs.Limits.{pointer_limit}
use Rattle.messages.specs.Message.{HashedNext, Spelled, canonical_data, data_of, ns_data, nsec3_at, nsec3_data, nsec_data, soa_data}
use Rattle.messages.specs.Record.{spelled}
use Rattle.messages.specs.declared.view.ViewRecord.{ViewRecord}
use Rattle.messages.proofs.Lists.{all_sorted}
use Rattle.answer_judge_facts.specs.Ranked.{run_data}

abbrev IsShort : List ℕ → Type 0
IsShort d = length d ≤ 65535

-- data of the type are as they stand
abbrev by_type : List ℕ → Spelled → ℕ → Option (List ℕ)
by_type m r t =
    elim (nat_eq t 2) as (λ _. Option (List ℕ)) [
      | true ↦ ns_data pointer_limit m r
      | false ↦ elim (nat_eq t 6) as (λ _. Option (List ℕ)) [
        | true ↦ soa_data pointer_limit m r
        | false ↦ elim (nat_eq t 47) as (λ _. Option (List ℕ)) [
          | true ↦ nsec_data pointer_limit m r
          | false ↦ elim (nat_eq t 50) as (λ _. Option (List ℕ)) [ true ↦ nsec3_data m r | false ↦ Some (data_of m r) ]
        ]
      ]
    ]

pub hashed_is : (m : List ℕ) (r : Spelled) → r.rtype ≡ 50 → canonical_data pointer_limit m r ≡ nsec3_data m r
hashed_is m r e = ap (by_type m r) e

standing : (o : Option HashedNext) (x d : List ℕ) → elim o as (λ _. Option (List ℕ)) [ None ↦ None | Some n ↦ Some x ] ≡ Some d → x ≡ d
standing None x d e = cc
standing (Some n) x d e = cc

short_one : (m : List ℕ) (v : ViewRecord) (d : List ℕ) → v.rtype ≡ 50 → canonical_data pointer_limit m (spelled v) ≡ Some d → IsShort d
short_one m v d kind e =
    let r = spelled v in
    let is : data_of m r ≡ d = standing (nsec3_at m r) (data_of m r) d (sym (hashed_is m r kind) ∙ e) in
    subst IsShort is (omega (arith, v.few, length-take (v.start + v.length - v.start) (drop v.start m)))

short_cons : (o : Option (List ℕ)) (ds : List (List ℕ)) → ((d : List ℕ) → o ≡ Some d → IsShort d) → AllByRecursion IsShort ds → AllByRecursion IsShort (cons_option o ds)
short_cons None ds f h = h
short_cons (Some d) ds f h = (f d refl, h)

short_items : (m : List ℕ) (t : ℕ) (vs : List ViewRecord) → t ≡ 50 → AllByRecursion (λ (v : ViewRecord). v.rtype ≡ t) vs → AllByRecursion IsShort (filter_map (canonical_data pointer_limit m) (map spelled vs))
short_items m t [] e h = tt
short_items m t (v ∷ vs) e h = short_cons (canonical_data pointer_limit m (spelled v)) _ (λ d k. short_one m v d (h.0 ∙ e) k) (short_items m t vs e h.1)

pub short_run : (m : List ℕ) (t : ℕ) (vs : List ViewRecord) → t ≡ 50 → AllByRecursion (λ (v : ViewRecord). v.rtype ≡ t) vs → AllByRecursion (λ d. length d ≤ 65535) (run_data m (map spelled vs))
short_run m t vs e h = all_sorted IsShort (slice_cmp nat_cmp) (filter_map (canonical_data pointer_limit m) (map spelled vs)) (short_items m t vs e h)
