-- A type of which a zone holds no record is answered as any other such type.
use Rattle.std.proofs.Common.{◌≡◌, ℕ, Bool, true, false, not, ◌&&◌, ◌||◌, List, [], ◌∷◌, ◌++◌, map, Option, Some, None, cond, eqb, refl, sym, ap, ◌∙◌, ⊎_elim}
use Rattle.std.specs.List.{AllByRecursion, list_any}
use Rattle.std.proofs.lemmas.Bool.{and_parts, eqb-true, or_cases, or_left, or_right, true≢false}
use Rattle.definitions.specs.Name.{Name, labels_eq, low}
use Rattle.definitions.specs.Zone.{Delegated, NoName, NoType, Open, Records, StarNoType, StarRecords, Unsigned, Verdict, Zone, at_existing, ce, cut, data_at, exists, is_of, is_open, star_under, verdict}
use Rattle.definitions.specs.ZoneChain.{Mode, optout_of}
use Rattle.denial_laws.specs.Aliases.{is_alias_type}
use Rattle.messages.specs.HandedRr.{HandedRr, among}
use Rattle.messages.proofs.Lists.{all_fail, all_more, all_sorted, eqb-back}
use Rattle.answer_terms.specs.Accepting.{record_cmp, rr_of, sorted_records}
use Rattle.answer_terms.specs.Served.{ServedRrset, Served, ahead, ahead_open, answer_groups, proofs_of, served_of, soa, spoken, unsigned_ns}
use Rattle.server_laws.specs.Synthesized.{AbsentAnsweredAlike, IsNowhere, SynthesizedAnsweredAlike, SynthesizedAnsweredAlikeWithAliases, holds_none}
use Rattle.server_laws.proofs.Lists.{nothing}

-- verdicts that tell no data
abbrev NoData : Verdict → Type 0
NoData (Records ds) = ⊥
NoData NoType = Unit {0}
NoData NoName = Unit {0}
NoData (StarRecords ds) = ⊥
NoData StarNoType = Unit {0}
NoData Delegated = Unit {0}
NoData Open = Unit {0}
NoData Unsigned = Unit {0}

module _ (s : Served) (q : Name) where
  abbrev z : Zone
  z = s.zone

  -- what a zone says of a type that it does not hold
  abbrev denied_by : Bool → Option Name → Bool → Option Name → Verdict
  denied_by hidden cut_off there encloser = elim hidden [
    | true ↦ Open
    | false ↦ elim cut_off [
      | Some c ↦ Delegated
      | None ↦ elim there [
        | true ↦ NoType
        | false ↦ elim encloser [ None ↦ NoName | Some e ↦ cond (exists z (star_under e)) StarNoType NoName ]
      ]
    ]
  ]

  abbrev denied : Bool → Verdict
  denied optout = denied_by (is_open z optout (low q)) (cut z (low q)) (exists z (low q)) (ce z (low q))

  star_denied : (b : Bool) → NoData (cond b StarNoType NoName)
  star_denied true = tt
  star_denied false = tt

  no_data_by : (a : Bool) (c : Option Name) (x : Bool) (e : Option Name) → NoData (denied_by a c x e)
  no_data_by true c x e = tt
  no_data_by false (Some c) x e = tt
  no_data_by false None true e = tt
  no_data_by false None false None = tt
  no_data_by false None false (Some e) = star_denied (exists z (star_under e))

  no_data : (optout : Bool) → NoData (denied optout)
  no_data optout = no_data_by (is_open z optout (low q)) (cut z (low q)) (exists z (low q)) (ce z (low q))

  -- so it says
  said : (t : ℕ) → eqb t 43 ≡ false → IsNowhere z t → (optout : Bool) → verdict z optout q t ≡ denied optout
  said t other none optout =
      let away : (c : Name) → (labels_eq c (low q) && eqb t 43) ≡ false = λ c. ap (λ b. labels_eq c (low q) && b) other ∙ nothing (labels_eq c (low q)) in
      λ i. elim (is_open z optout (low q)) as (λ _. Verdict) [
        | true ↦ Open
        | false ↦ elim (cut z (low q)) as (λ _. Verdict) [
          | Some c ↦ cond (away c i) (at_existing z (low q) 43) Delegated
          | None ↦ elim (exists z (low q)) as (λ _. Verdict) [
            | true ↦ cond (none (low q) i) (Records (data_at z (low q) t)) NoType
            | false ↦ elim (ce z (low q)) as (λ _. Verdict) [
              | None ↦ NoName
              | Some e ↦ cond (exists z (star_under e)) (cond (none (star_under e) i) (StarRecords (data_at z (star_under e) t)) StarNoType) NoName
            ]
          ]
        ]
      ]

  module _ (t u : ℕ) (other : eqb t 43 ≡ false) (another : eqb u 43 ≡ false) (none : IsNowhere z t) (no_more : IsNowhere z u) where
    left : (elim (cut z (low q)) as (λ _. List ServedRrset) [ None ↦ soa s ∷ [] | Some c ↦ cond (labels_eq c (low q) && eqb t 43) (soa s ∷ []) (unsigned_ns s c) ])
        ≡ (elim (cut z (low q)) as (λ _. List ServedRrset) [ None ↦ soa s ∷ [] | Some c ↦ cond (labels_eq c (low q) && eqb u 43) (soa s ∷ []) (unsigned_ns s c) ])
    left = ap (λ b. elim (cut z (low q)) as (λ _. List ServedRrset) [ None ↦ soa s ∷ [] | Some c ↦ cond (labels_eq c (low q) && b) (soa s ∷ []) (unsigned_ns s c) ]) (other ∙ sym another)

    open_alike : (v : Verdict) → NoData v → ahead_open s q t v ≡ ahead_open s q u v
    open_alike (Records ds) h = absurd h
    open_alike (StarRecords ds) h = absurd h
    open_alike NoType h = left
    open_alike NoName h = left
    open_alike StarNoType h = left
    open_alike Delegated h = left
    open_alike Open h = left
    open_alike Unsigned h = left

    ahead_alike : (v : Verdict) → NoData v → ahead s q t v ≡ ahead s q u v
    ahead_alike (Records ds) h = absurd h
    ahead_alike (StarRecords ds) h = absurd h
    ahead_alike NoType h = refl
    ahead_alike NoName h = refl
    ahead_alike StarNoType h = refl
    ahead_alike Delegated h = refl
    ahead_alike Open h = ap (ahead_open s q t) (said t other none false) ∙ open_alike (denied false) (no_data false) ∙ sym (ap (ahead_open s q u) (said u another no_more false))
    ahead_alike Unsigned h = refl

    abbrev proofs : List ServedRrset
    proofs = proofs_of s (spoken s (low q) (denied false) (denied (optout_of s.mode)))

    groups_of : (k : ℕ) → eqb k 43 ≡ false → IsNowhere z k → answer_groups s q k ≡ ahead s q k (denied (optout_of s.mode)) ++ proofs
    groups_of k is nowhere =
        let first = said k is nowhere (optout_of s.mode) in
        let second = said k is nowhere false in
        λ i. ahead s q k (first i) ++ proofs_of s (spoken s (low q) (second i) (first i))

    groups_alike : answer_groups s q t ≡ answer_groups s q u
    groups_alike =
        groups_of t other none
        ∙ ap (λ gs. gs ++ proofs) (ahead_alike (denied (optout_of s.mode)) (no_data (optout_of s.mode)))
        ∙ sym (groups_of u another no_more)

pub absent_alike : AbsentAnsweredAlike
absent_alike s q t u other another none no_more = groups_alike s q t u other another none no_more

-- ---- accepted zones

nowhere : (o : Name) (t : ℕ) (rs : List HandedRr) → AllByRecursion (λ (r : HandedRr). eqb r.rtype t ≡ false) rs → list_any (is_of o t) (map rr_of rs) ≡ false
nowhere o t [] h = refl
nowhere o t (r ∷ rs) h =
    (λ i. (labels_eq (low r.owner) o && h.0 i) || nowhere o t rs h.1 i)
    ∙ ap (λ b. b || false) (nothing (labels_eq (low r.owner) o))

-- a type that passes a test, and one that does not
apart : (p : ℕ → Bool) (t u : ℕ) → p t ≡ true → p u ≡ false → eqb u t ≡ false
apart p t u passes fails = go (eqb u t) refl
  where
    go : (b : Bool) → eqb u t ≡ b → b ≡ false
    go true e = absurd (true≢false (sym passes ∙ ap p (sym (eqb-true u t e)) ∙ fails))
    go false e = refl

-- where no record passes a test of its type, none is of a type that does
none_passes : (p : ℕ → Bool) (t : ℕ) (rs : List HandedRr) → p t ≡ true → list_any (λ (r : HandedRr). p r.rtype) rs ≡ false → AllByRecursion (λ (r : HandedRr). eqb r.rtype t ≡ false) rs
none_passes p t rs is none = all_more (λ (r : HandedRr). p r.rtype ≡ false) (λ (r : HandedRr). eqb r.rtype t ≡ false) rs (λ r fails. apart p t r.rtype is fails) (all_fail (λ (r : HandedRr). p r.rtype) rs none)

not_held : (b : Bool) → not b ≡ true → b ≡ false
not_held true e = sym e
not_held false e = refl

module _ (apex : Name) (mode : Mode) (rs : List HandedRr) (hash : Name → List ℕ) (q : Name) (t : ℕ) where
  -- a type of which the records have none, beside the reserved one
  synthesized_by : eqb t 43 ≡ false → AllByRecursion (λ (r : HandedRr). eqb r.rtype t ≡ false) rs → list_any (λ (r : HandedRr). eqb r.rtype 65535) rs ≡ false
      → answer_groups (served_of apex mode hash (sorted_records rs)) q t ≡ answer_groups (served_of apex mode hash (sorted_records rs)) q 65535
  synthesized_by other none reserved =
      let no_more = all_sorted (λ (r : HandedRr). eqb r.rtype 65535 ≡ false) record_cmp rs (all_fail (λ (r : HandedRr). eqb r.rtype 65535) rs reserved) in
      absent_alike (served_of apex mode hash (sorted_records rs)) q t 65535 other refl
      (λ o. nowhere o t (sorted_records rs) (all_sorted (λ (r : HandedRr). eqb r.rtype t ≡ false) record_cmp rs none)) (λ o. nowhere o 65535 (sorted_records rs) no_more)

  -- of a test that none of them passes
  synthesized_type : (p : ℕ → Bool) → p 43 ≡ false → p t ≡ true → list_any (λ (r : HandedRr). p r.rtype) rs ≡ false → list_any (λ (r : HandedRr). eqb r.rtype 65535) rs ≡ false
      → answer_groups (served_of apex mode hash (sorted_records rs)) q t ≡ answer_groups (served_of apex mode hash (sorted_records rs)) q 65535
  synthesized_type p ds is none reserved = synthesized_by (eqb-back t 43 ∙ apart p t 43 is ds) (none_passes p t rs is none) reserved

-- types whose records signing adds, and those of aliases
abbrev signing : ℕ → Bool
signing = among (46 ∷ 47 ∷ 48 ∷ 50 ∷ 51 ∷ [])

abbrev of_alias : ℕ → Bool
of_alias = among (5 ∷ 39 ∷ [])

is_signing : (t : ℕ) → among (48 ∷ 50 ∷ 51 ∷ []) t ≡ true → signing t ≡ true
is_signing t e = or_right (eqb t 46) _ (or_right (eqb t 47) _ e)

pub synthesized_alike : SynthesizedAnsweredAlike
synthesized_alike hasher apex mode limit rs hash q t accepted reserved is =
    let by_alias : of_alias t ≡ true → answer_groups (served_of apex mode hash (sorted_records rs)) q t ≡ answer_groups (served_of apex mode hash (sorted_records rs)) q 65535 =
    λ alias. synthesized_type apex mode rs hash q t of_alias refl alias accepted.faultless.no_alias reserved in
    ⊎_elim
    (λ five. by_alias (or_left (eqb t 5) _ five))
    (λ later. ⊎_elim
    (λ dname. by_alias (or_right (eqb t 5) _ (or_left (eqb t 39) _ dname)))
    (λ added. synthesized_type apex mode rs hash q t signing refl (is_signing t added) accepted.faultless.unsigned reserved)
    (or_cases (eqb t 39) _ later))
    (or_cases (eqb t 5) _ is)

pub synthesized_alike_with_aliases : SynthesizedAnsweredAlikeWithAliases
synthesized_alike_with_aliases hasher apex mode limit rs hash q t accepted reserved is =
    let kept = not_held (list_any (λ (r : HandedRr). eqb r.rtype 65535) rs) reserved in
    ⊎_elim
    (λ added. synthesized_type apex mode rs hash q t signing refl (is_signing t added) accepted.faultless.plain.unsigned kept)
    (λ alias.
    let both = and_parts (is_alias_type t) (holds_none rs t) alias in
    synthesized_by apex mode rs hash q t (eqb-back t 43 ∙ apart is_alias_type t 43 both.0 refl) (all_fail (λ (r : HandedRr). eqb r.rtype t) rs (not_held _ both.1)) kept)
    (or_cases (among (48 ∷ 50 ∷ 51 ∷ []) t) _ is)
