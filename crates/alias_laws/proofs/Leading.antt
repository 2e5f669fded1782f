-- Where a zone leads elsewhere, the name is an alias, and nowhere else.
use Rattle.std.proofs.Common.{◌≡◌, ℕ, Bool, true, false, ◌&&◌, ◌||◌, not, [], ◌∷◌, Option, Some, None, refl, sym, ap, ◌∙◌, cond}
use Rattle.std.specs.Prelude.{◌==◌, nat_lt, if◌then◌else◌}
use Rattle.std.specs.Option.{is_some}
use Rattle.std.proofs.lemmas.Bool.{and_parts, eqb-true, eq-eqb, false≢true, false_from_ne_true}
use Rattle.definitions.specs.Name.{Name, labels_eq, low}
use Rattle.definitions.specs.Zone.{Zone, Verdict, Records, NoType, NoName, StarRecords, StarNoType, Delegated, apex_of, has, is_delegation, is_live, cut, exists, ce, data_at, at_existing, at_star, star_under}
use Rattle.definitions.proofs.VerdictCases.{said, verdict-said}
use Rattle.definitions.proofs.ZoneNames.{kept-live, low-low, owner_lowered}
use Rattle.denial_laws.specs.Aliases.{has_alias, has_own_alias, is_aliased, is_redirected}
use Rattle.denial_laws.specs.Truth.{IsServable, is_signed}
use Rattle.denial_laws.proofs.NameFacts.{above_trans, strictly_at}
use Rattle.denial_laws.proofs.Unaliased.{cut_unaliased, cut_unredirected, kept_unredirected, no_alias, none_below, own_alias, unredirected}
use Rattle.denial_laws.proofs.Verdicts.{verdict_signed}
use Rattle.denial_laws.proofs.ZoneCuts.{IsCut, IsEncloser, ce_encloses, cut_is, cut_live, has_owner, kept_inside, owner_kept, uncut, uncut_live}
use Rattle.answer_zone.specs.Finding.{finds, redirecting, zone_redirects}
use Rattle.answer_zone.proofs.Found.{finds_said, told, told_existing, told_no_star}
use Rattle.alias_laws.specs.Leading.{leads_elsewhere}
use Rattle.answer_zone.specs.ZoneAnswers.{answered}

-- ---- tests

and_nothing : (b : Bool) → (b && false) ≡ false
and_nothing true = refl
and_nothing false = refl

or_nothing : (b : Bool) → (b || false) ≡ b
or_nothing true = refl
or_nothing false = refl

-- ---- what is redirected

pub led_above : (z : Zone) (q : Name) → is_some (redirecting z q) ≡ is_redirected z (low q)
led_above z [] = refl
led_above z (l ∷ q) =
    elim (has z (low q) 39 && is_live z (low q)) as (λ b. is_some (cond b (Some q) (redirecting z q)) ≡ (b || is_redirected z (low q))) [ true ↦ refl | false ↦ led_above z q ]

-- a name that redirects
pub record Redirects (z : Zone) (d : Name) : Type 0 where
  pub dname : has z (low d) 39 ≡ true
  pub live : is_live z (low d) ≡ true

nearest : (z : Zone) (q d : Name) (rest : Option Name) → (rest ≡ Some d → Redirects z d) → (b : Bool) → zone_redirects z (low q) ≡ b → cond b (Some q) rest ≡ Some d → Redirects z d
nearest z q d rest later true r e =
    let is : q ≡ d = cc in
    let both = and_parts (has z (low q) 39) (is_live z (low q)) r in
    record { dname = ap (λ n. has z (low n) 39) (sym is) ∙ both.0; live = ap (λ n. is_live z (low n)) (sym is) ∙ both.1 }
nearest z q d rest later false r e = later e

pub redirector : (z : Zone) (q d : Name) → redirecting z q ≡ Some d → Redirects z d
redirector z [] d e = absurd cc
redirector z (l ∷ q) d e = nearest z q d (redirecting z q) (redirector z q d) (zone_redirects z (low q)) refl e

-- ---- what is found

told_star : (z : Zone) (s : Name) (t : ℕ) → exists z s ≡ true → told (at_star z s t) ≡ has z s t
told_star z s t x =
    ap (λ b. told (if b then (if has z s t then StarRecords (data_at z s t) else StarNoType) else NoName)) x
    ∙ elim (has z s t) as (λ b. told (if b then StarRecords (data_at z s t) else StarNoType) ≡ b) [ true ↦ refl | false ↦ refl ]

-- beside a delegation no CNAME is told
told_cut : (z : Zone) (q c : Name) → told (if labels_eq c q && (5 == 43) then at_existing z q 43 else Delegated) ≡ false
told_cut z q c = ap (λ b. told (if b then at_existing z q 43 else Delegated)) (and_nothing (labels_eq c q))

-- a DNAME that redirects is found
pub redirecting_found : (z : Zone) → IsServable z → (n d : Name) → redirecting z n ≡ Some d → finds z d 39 ≡ true
redirecting_found z s n d e =
    let r = redirector z n d e in
    let plain : is_delegation z (low d) ≡ false = s.aliases.uncut (low d) r.dname in
    let signed : is_signed z (low d) 39 ≡ true = (λ i. r.live i && (not (plain i) || (39 == 43)) && r.dname i) in
    ap told (verdict_signed z false d 39 signed)

-- ---- names below no delegation that do not exist

module _ (z : Zone) (s : IsServable z) (q e : Name) (lq : low q ≡ q) (u : cut z q ≡ None) (c : ce z q ≡ Some e) where
  encloses : IsEncloser z q e
  encloses = ce_encloses z q e c

  -- an owner under the closest encloser is there
  pub star_there : (t : ℕ) → has z (star_under e) t ≡ true → exists z (star_under e) ≡ true
  star_there t h =
      let o = has_owner z (star_under e) t h in
      let n = uncut z q lq u in
      let live : is_live z (star_under e) ≡ true = uncut_live z (star_under e) (owner_lowered z (star_under e) o) (strictly_at (apex_of z) (star_under e) (kept_inside z false e encloses.there))
      (λ d i b. n d i (above_trans d e q b (strictly_at e q encloses.above))) in
      owner_kept z false (star_under e) o (kept-live z (star_under e) ∙ live)

-- and no DNAME redirects the name
pub star_unredirected : (z : Zone) → IsServable z → (q e : Name) → ce z q ≡ Some e → (t : ℕ) → has z (star_under e) t ≡ true → is_redirected z q ≡ false
star_unredirected z s q e c t h = unredirected z q (λ d k.
    let r : IsEncloser z q e = ce_encloses z q e c in
    let there : exists z d ≡ true = owner_kept z false d (has_owner z d 39 k.redirects) (kept-live z d ∙ k.live) in
    none_below z s.aliases d (star_under e) k.redirects (has_owner z (star_under e) t h) (r.longest d there k.above))

-- ---- aliases

-- beside a CNAME stands no other type
beside : (z : Zone) → IsServable z → (o : Name) (t : ℕ) → has_alias z o t ≡ (not (has z o t) && (has z o 5 || false))
beside z s o t = go (has z o 5) refl (has z o t) refl
  where
    go : (b : Bool) → has z o 5 ≡ b → (d : Bool) → has z o t ≡ d → has_alias z o t ≡ (not (has z o t) && (has z o 5 || false))
    go false b true d = (λ i. b i && not (t == 5)) ∙ (λ i. not (sym d i) && (sym b i || false))
    go false b false d = (λ i. b i && not (t == 5)) ∙ (λ i. not (sym d i) && (sym b i || false))
    go true b true d =
        let is : t ≡ 5 = s.aliases.alone o t b d in
        (λ i. b i && not (eq-eqb t 5 is i)) ∙ (λ i. not (sym d i) && (sym b i || false))
    go true b false d =
        let other : (t == 5) ≡ false = false_from_ne_true (t == 5) (λ h. false≢true (sym d ∙ ap (has z o) (eqb-true t 5 h) ∙ b)) in
        (λ i. b i && not (other i)) ∙ (λ i. not (sym d i) && (sym b i || false))

module _ (z : Zone) (s : IsServable z) (name : Name) (t : ℕ) where
  abbrev q : Name
  q = low name

  -- from what is redirected, what has an alias of its own, and what is found
  joined : (r o f c : Bool) → is_redirected z q ≡ r → has_own_alias z q t ≡ o → finds z name t ≡ f → finds z name 5 ≡ c → (r || o) ≡ (not f && (c || r)) → is_aliased z false name t ≡ leads_elsewhere z name t
  joined r o f c hr ho hf hc e =
      (λ i. hr i || ho i) ∙ e ∙ (λ i. not (sym hf i) && (sym hc i || (sym hr ∙ sym (led_above z name)) i))

  by_cut : (c : Name) → cut z q ≡ Some c → is_aliased z false name t ≡ leads_elsewhere z name t
  by_cut c e =
      let k : IsCut z q c = cut_is z q c (low-low name) e in
      let direct : is_redirected z q ≡ false = cut_unredirected z s.aliases q c k.delegation (cut_live z q c k) k.above in
      joined false false (finds z name t) false direct (cut_unaliased z q t c e) refl (finds_said z name 5 (Some c) (exists z q) (ce z q) e refl refl ∙ told_cut z q c) (sym (and_nothing (not (finds z name t))))

  by_name : cut z q ≡ None → exists z q ≡ true → is_aliased z false name t ≡ leads_elsewhere z name t
  by_name u x =
      joined false (has_alias z q t) (has z q t) (has z q 5) (kept_unredirected z s.aliases false q x)
      (λ i. own_alias z q t (u i) (x i) (ce z q))
      (finds_said z name t None true (ce z q) u x refl ∙ told_existing z q t)
      (finds_said z name 5 None true (ce z q) u x refl ∙ told_existing z q 5)
      (beside z s q t)

  by_none : cut z q ≡ None → exists z q ≡ false → ce z q ≡ None → is_aliased z false name t ≡ leads_elsewhere z name t
  by_none u x c =
      joined (is_redirected z q) false false false refl (λ i. own_alias z q t (u i) (x i) (c i)) (finds_said z name t None false None u x c) (finds_said z name 5 None false None u x c) (or_nothing (is_redirected z q))

  by_star : (e : Name) → cut z q ≡ None → exists z q ≡ false → ce z q ≡ Some e → is_aliased z false name t ≡ leads_elsewhere z name t
  by_star e u x c = go (has z (star_under e) 5) refl (has z (star_under e) t) refl
    where
      own : has_own_alias z q t ≡ has_alias z (star_under e) t
      own = λ i. own_alias z q t (u i) (x i) (c i)

      there : (k : ℕ) → has z (star_under e) k ≡ true → is_aliased z false name t ≡ leads_elsewhere z name t
      there k h =
          let star : exists z (star_under e) ≡ true = star_there z s q e (low-low name) u c k h in
          joined false (has_alias z (star_under e) t) (has z (star_under e) t) (has z (star_under e) 5) (star_unredirected z s q e c k h) own
          (finds_said z name t None false (Some e) u x c ∙ told_star z (star_under e) t star)
          (finds_said z name 5 None false (Some e) u x c ∙ told_star z (star_under e) 5 star)
          (beside z s (star_under e) t)

      go : (b : Bool) → has z (star_under e) 5 ≡ b → (d : Bool) → has z (star_under e) t ≡ d → is_aliased z false name t ≡ leads_elsewhere z name t
      go true b d h = there 5 b
      go false b true h = there t h
      go false b false h =
          joined (is_redirected z q) false false false refl (own ∙ no_alias z (star_under e) t b)
          (finds_said z name t None false (Some e) u x c ∙ told_no_star z (star_under e) t h)
          (finds_said z name 5 None false (Some e) u x c ∙ told_no_star z (star_under e) 5 b)
          (or_nothing (is_redirected z q))

  by_case : is_aliased z false name t ≡ leads_elsewhere z name t
  by_case = go (cut z q) refl (exists z q) refl (ce z q) refl
    where
      go : (c : Option Name) → cut z q ≡ c → (x : Bool) → exists z q ≡ x → (e : Option Name) → ce z q ≡ e → is_aliased z false name t ≡ leads_elsewhere z name t
      go (Some c) hc x hx e he = by_cut c hc
      go None hc true hx e he = by_name hc hx
      go None hc false hx None he = by_none hc hx he
      go None hc false hx (Some e) he = by_star e hc hx he

pub aliased_is_led : (z : Zone) → IsServable z → (name : Name) (t : ℕ) → is_aliased z false name t ≡ leads_elsewhere z name t
aliased_is_led z s name t = by_case z s name t

-- ---- where no record is an alias

none_redirects : (z : Zone) → ((o : Name) → has z o 39 ≡ false) → (q : Name) → redirecting z q ≡ None
none_redirects z n [] = refl
none_redirects z n (l ∷ q) = ap (λ b. cond (b && is_live z (low q)) (Some q) (redirecting z q)) (n (low q)) ∙ none_redirects z n q

no_cname_found : (z : Zone) → ((o : Name) → has z o 5 ≡ false) → (name : Name) → finds z name 5 ≡ false
no_cname_found z n name = finds_said z name 5 (cut z (low name)) (exists z (low name)) (ce z (low name)) refl refl refl ∙ go (cut z (low name)) (exists z (low name)) (ce z (low name))
  where
    go : (c : Option Name) (x : Bool) (e : Option Name) → told (said z (low name) 5 false c x e) ≡ false
    go (Some c) x e = told_cut z (low name) c
    go None true e = told_existing z (low name) 5 ∙ n (low name)
    go None false None = refl
    go None false (Some e) = told_no_star z (star_under e) 5 (n (star_under e))

pub none_led : (z : Zone) → ((o : Name) → has z o 5 ≡ false) → ((o : Name) → has z o 39 ≡ false) → (name : Name) → (finds z name 5 ≡ false) × (redirecting z name ≡ None)
none_led z n m name = (no_cname_found z n name, none_redirects z m name)
