-- Which question a zone answers in the place of an allowed one.
use Rattle.std.proofs.Common.{◌≡◌, Bool, true, false, not, ◌&&◌, ◌||◌, [], ◌∷◌, Option, Some, None, eqb, refl, sym, ap, ◌∙◌}
use Rattle.std.specs.Prelude.{◌==◌, nat_eq, nat_le, if◌then◌else◌}
use Rattle.std.specs.Option.{is_some}
use Rattle.std.proofs.lemmas.Bool.{and_parts, and_right, eq-eqb, false≢true, not-true, or_from, or_parts}
use Rattle.definitions.specs.Name.{Name, at_or_above, low}
use Rattle.definitions.specs.Zone.{Zone, is_open}
use Rattle.denial_laws.specs.Aliases.{has_own_alias, is_aliased, is_redirected}
use Rattle.denial_laws.specs.Truth.{IsServable}
use Rattle.messages.specs.HandedRr.{among}
use Rattle.messages.specs.Message.{Asked}
use Rattle.answer_terms.specs.Asking.{is_allowed}
use Rattle.answer_zone.specs.Finding.{finds, redirecting}
use Rattle.alias_laws.specs.Leading.{leads_elsewhere}
use Rattle.alias_laws.proofs.Leading.{aliased_is_led}
use Rattle.message_laws.specs.InPlace.{in_place}

-- ---- allowed questions

abbrev is_inside : Name → Asked → Bool
is_inside apex q = (q.class == 1) && at_or_above apex q.name

abbrev is_listed : Asked → Bool
is_listed q = among (46 ∷ 47 ∷ 48 ∷ 50 ∷ 51 ∷ 5 ∷ 39 ∷ 0 ∷ 41 ∷ []) q.rtype

module _ (apex : Name) (q : Asked) (allowed : is_allowed apex q ≡ true) where
  allowed_parts : (is_inside apex q && not (is_listed q)) ≡ true
  allowed_parts = (and_parts (is_inside apex q && not (is_listed q)) (not (nat_le 128 q.rtype && nat_le q.rtype 255)) allowed).0

  pub in_zone : ((q.class == 1) ≡ true) × (at_or_above apex q.name ≡ true)
  in_zone = and_parts (q.class == 1) (at_or_above apex q.name) (and_parts (is_inside apex q) (not (is_listed q)) allowed_parts).0

  -- it asks for no alias and for no OPT record
  pub no_alias_type : (eqb q.rtype 5 ≡ false) × (eqb q.rtype 39 ≡ false) × (eqb q.rtype 41 ≡ false)
  no_alias_type =
      let a46 = or_parts (nat_eq q.rtype 46) _ (not-true (is_listed q) (and_parts (is_inside apex q) (not (is_listed q)) allowed_parts).1) in
      let a47 = or_parts (nat_eq q.rtype 47) _ a46.1 in
      let a48 = or_parts (nat_eq q.rtype 48) _ a47.1 in
      let a50 = or_parts (nat_eq q.rtype 50) _ a48.1 in
      let a51 = or_parts (nat_eq q.rtype 51) _ a50.1 in
      let a5 = or_parts (nat_eq q.rtype 5) _ a51.1 in
      let a39 = or_parts (nat_eq q.rtype 39) _ a5.1 in
      let a0 = or_parts (nat_eq q.rtype 0) _ a39.1 in
      let a41 = or_parts (nat_eq q.rtype 41) _ a0.1 in
      (a5.0, a39.0, a41.0)

-- ---- the place

abbrev pub cname_of : Asked → Asked
cname_of q = record { name = q.name; rtype = 5; class = q.class }

abbrev pub dname_of : Asked → Name → Asked
dname_of q d = record { name = d; rtype = 39; class = q.class }

pub data Place (z : Zone) (q : Asked) : Type 0 where
  Own : in_place z q ≡ q → leads_elsewhere z q.name q.rtype ≡ false → Place z q
  ByCname : finds z q.name q.rtype ≡ false → finds z q.name 5 ≡ true → in_place z q ≡ cname_of q → Place z q
  ByDname : (d : Name) → finds z q.name q.rtype ≡ false → redirecting z q.name ≡ Some d → in_place z q ≡ dname_of q d → Place z q

module _ (z : Zone) (q : Asked) where
  abbrev placed : Bool → Bool → Option Name → Asked
  placed here alias o = if here then q else if alias then cname_of q else elim o [ None ↦ q | Some d ↦ dname_of q d ]

  abbrev led : Bool → Bool → Option Name → Bool
  led here alias o = not here && (alias || is_some o)

  pub place : Place z q
  place = go (finds z q.name q.rtype) (finds z q.name 5) (redirecting z q.name) refl refl refl
    where
      go : (here alias : Bool) (o : Option Name) → finds z q.name q.rtype ≡ here → finds z q.name 5 ≡ alias → redirecting z q.name ≡ o → Place z q
      go true alias o x y e = Own (ap (λ b. placed b (finds z q.name 5) (redirecting z q.name)) x) (ap (λ b. led b (finds z q.name 5) (redirecting z q.name)) x)
      go false true o x y e = ByCname x y (λ i. placed (x i) (y i) (redirecting z q.name))
      go false false (Some d) x y e = ByDname d x e (λ i. placed (x i) (y i) (e i))
      go false false None x y e = Own (λ i. placed (x i) (y i) (e i)) (λ i. led (x i) (y i) (e i))

-- what leads nowhere is no alias
pub unaliased : (z : Zone) → IsServable z → (optout : Bool) (q : Asked) → leads_elsewhere z q.name q.rtype ≡ false → is_aliased z optout q.name q.rtype ≡ false
unaliased z s optout q none =
    let both = or_parts (is_redirected z (low q.name)) (has_own_alias z (low q.name) q.rtype) (aliased_is_led z s q.name q.rtype ∙ none) in
    or_from (is_redirected z (low q.name)) (not (is_open z optout (low q.name)) && has_own_alias z (low q.name) q.rtype) both.0
    (and_right (not (is_open z optout (low q.name))) (has_own_alias z (low q.name) q.rtype) both.1)

-- a question that is answered itself, of a type that is no alias's, leads nowhere
pub answered_itself : (z : Zone) (apex : Name) (q : Asked) → is_allowed apex q ≡ true → in_place z q ≡ q → leads_elsewhere z q.name q.rtype ≡ false
answered_itself z apex q allowed is = go (place z q)
  where
    go : Place z q → leads_elsewhere z q.name q.rtype ≡ false
    go (Own same none) = none
    go (ByCname x y same) = absurd (false≢true (sym (no_alias_type apex q allowed).0 ∙ eq-eqb q.rtype 5 (ap (λ (x : Asked). x.rtype) (sym is ∙ same))))
    go (ByDname d x y same) = absurd (false≢true (sym (no_alias_type apex q allowed).1 ∙ eq-eqb q.rtype 39 (ap (λ (x : Asked). x.rtype) (sym is ∙ same))))
