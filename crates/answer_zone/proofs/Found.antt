-- What is found of a type of which no name has a record, and of aliases among records without any.
use Rattle.std.proofs.Common.{◌≡◌, ℕ, Bool, true, false, ◌&&◌, ◌||◌, List, [], ◌∷◌, Option, Some, None, refl, sym, ap, ◌∙◌}
use Rattle.std.specs.Prelude.{◌==◌, nat_lt, if◌then◌else◌}
use Rattle.std.specs.List.{list_any}
use Rattle.std.proofs.lemmas.Bool.{eqb-true, false≢true, false_from_ne_true, or_parts}
use Rattle.definitions.specs.Name.{Name, labels_eq, low}
use Rattle.definitions.specs.Zone.{Zone, Verdict, Records, NoType, NoName, StarRecords, StarNoType, Delegated, has, is_live, cut, exists, ce, data_at, at_existing, at_star, star_under}
use Rattle.definitions.proofs.VerdictCases.{said, verdict-said}
use Rattle.messages.specs.HandedRr.{HandedRr, among}
use Rattle.answer_terms.specs.Accepting.{is_alias, zone_with}
use Rattle.answer_zone.specs.Finding.{finds, redirecting}
use Rattle.answer_zone.specs.ZoneAnswers.{answered}

and_nothing : (b : Bool) → (b && false) ≡ false
and_nothing true = refl
and_nothing false = refl

abbrev pub told : Verdict → Bool
told v = nat_lt 0 (answered v)

pub finds_said : (z : Zone) (n : Name) (t : ℕ) (c : Option Name) (x : Bool) (e : Option Name) → cut z (low n) ≡ c → exists z (low n) ≡ x → ce z (low n) ≡ e → finds z n t ≡ told (said z (low n) t false c x e)
finds_said z n t c x e hc hx he = ap told (verdict-said z false n (low n) t refl) ∙ (λ i. told (said z (low n) t false (hc i) (hx i) (he i)))

pub told_existing : (z : Zone) (q : Name) (t : ℕ) → told (at_existing z q t) ≡ has z q t
told_existing z q t = elim (has z q t) as (λ b. told (if b then Records (data_at z q t) else NoType) ≡ b) [ true ↦ refl | false ↦ refl ]

pub told_no_star : (z : Zone) (s : Name) (t : ℕ) → has z s t ≡ false → told (at_star z s t) ≡ false
told_no_star z s t h =
    ap (λ b. told (if exists z s then (if b then StarRecords (data_at z s t) else StarNoType) else NoName)) h
    ∙ elim (exists z s) as (λ b. told (if b then StarNoType else NoName) ≡ false) [ true ↦ refl | false ↦ refl ]

-- no name has a record of a type, which is not DS
module _ (z : Zone) (t : ℕ) (other : (t == 43) ≡ false) (nowhere : (o : Name) → has z o t ≡ false) where
  at_cut : (q c : Name) → told (if labels_eq c q && (t == 43) then at_existing z q 43 else Delegated) ≡ false
  at_cut q c =
      ap (λ b. told (if labels_eq c q && b then at_existing z q 43 else Delegated)) other
      ∙ ap (λ b. told (if b then at_existing z q 43 else Delegated)) (and_nothing (labels_eq c q))

  by_encloser : (e : Option Name) → told (elim e [ None ↦ NoName | Some n ↦ at_star z (star_under n) t ]) ≡ false
  by_encloser None = refl
  by_encloser (Some n) = told_no_star z (star_under n) t (nowhere (star_under n))

  by_there : (q : Name) (x : Bool) (e : Option Name) → told (said z q t false None x e) ≡ false
  by_there q true e = told_existing z q t ∙ nowhere q
  by_there q false e = by_encloser e

  by_cut : (q : Name) (c : Option Name) (x : Bool) (e : Option Name) → told (said z q t false c x e) ≡ false
  by_cut q None x e = by_there q x e
  by_cut q (Some d) x e = at_cut q d

  pub found_nowhere : (n : Name) → finds z n t ≡ false
  found_nowhere n = finds_said z n t (cut z (low n)) (exists z (low n)) (ce z (low n)) refl refl refl ∙ by_cut (low n) (cut z (low n)) (exists z (low n)) (ce z (low n))

pub redirecting_nowhere : (z : Zone) → ((o : Name) → has z o 39 ≡ false) → (n : Name) → redirecting z n ≡ None
redirecting_nowhere z nowhere [] = refl
redirecting_nowhere z nowhere (l ∷ q) = ap (λ b. if b && is_live z (low q) then Some q else redirecting z q) (nowhere (low q)) ∙ redirecting_nowhere z nowhere q

neither : (b : Bool) → ((b && false) || false) ≡ false
neither true = refl
neither false = refl

-- without aliases no name has a record of their types
pub no_alias_at : (apex : Name) (rs : List HandedRr) → list_any is_alias rs ≡ false → (t : ℕ) → among (5 ∷ 39 ∷ []) t ≡ true → (o : Name) → has (zone_with apex rs) o t ≡ false
no_alias_at apex [] e t alias o = refl
no_alias_at apex (r ∷ rs) e t alias o =
    let parts = or_parts (is_alias r) (list_any is_alias rs) e in
    let unlike : (r.rtype == t) ≡ false = false_from_ne_true (r.rtype == t) (λ h. false≢true (sym parts.0 ∙ ap (λ u. among (5 ∷ 39 ∷ []) u) (eqb-true r.rtype t h) ∙ alias)) in
    (λ i. (labels_eq (low r.owner) o && unlike i) || no_alias_at apex rs parts.1 t alias o i) ∙ neither (labels_eq (low r.owner) o)
