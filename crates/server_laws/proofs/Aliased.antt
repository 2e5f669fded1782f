-- Which names an RRset of an alias answers, and that such an answer is never refused as not allowed.
use Rattle.std.proofs.Common.{◌≡◌, ◌∙◌, ℕ, ◌≤◌, Bool, true, false, not, ◌&&◌, ◌||◌, List, [], ◌∷◌, Option, Some, None, ap, arith, eqb, nat_le, refl, subst, sym}
use Rattle.std.specs.Prelude.{◌==◌, if◌then◌else◌}
use Rattle.std.specs.Option.{is_some, option_map}
use Rattle.std.proofs.lemmas.Bool.{and_parts, eqb-true, false≢true, false_from_ne_true, le-leb, leb-true, or_parts, or_right}
use Rattle.definitions.specs.Name.{Name, at_or_above, low}
use Rattle.definitions.specs.Zone.{Zone, apex_of, has}
use Rattle.definitions.specs.ZoneChain.{Mode}
use Rattle.denial_laws.specs.Aliases.{is_alias_type, is_aliased}
use Rattle.messages.specs.HandedRr.{HandedRr, among}
use Rattle.messages.specs.Message.{Asked}
use Rattle.messages.proofs.ZoneNames.{at_or_above-low}
use Rattle.answer_terms.specs.Accepting.{zone_of, zone_with}
use Rattle.answer_terms.specs.Asking.{asks_alias, is_allowed}
use Rattle.answer_zone.specs.Finding.{finds, links_names, redirecting}
use Rattle.alias_laws.specs.Leading.{leads_elsewhere}
use Rattle.alias_laws.proofs.Aliases.{aliases_led}
use Rattle.alias_laws.proofs.Leading.{redirector}
use Rattle.server_answers.specs.Aliases.{alias_in_place, alias_of, asks_all, asks_beside, for_type, is_answered, may_lead}
use Rattle.server_laws.specs.Aliased.{AliasesAreAnswered, AllowedAreAliased}
use Rattle.server_laws.proofs.Chosen.{not_true}
use Rattle.server_laws.proofs.Denied.{of_aliases}

some_same : {A : Type 0} (a b : A) → Some a ≡ Some b → a ≡ b
some_same a b e = cc

no_some : {A : Type 0} (a : A) → None ≡ Some a → ⊥
no_some a e = cc

-- ---- what answers is answered

module _ (mode : Mode) (z : Zone) (a : Asked) (lead : may_lead z.name a ≡ true) where
  of_class : (a.class == 1) ≡ true
  of_class = (and_parts (a.class == 1) (at_or_above z.name a.name) (and_parts ((a.class == 1) && at_or_above z.name a.name) (not (among (0 ∷ 41 ∷ []) a.rtype)) (and_parts _ (not (nat_le 128 a.rtype && nat_le a.rtype 254)) lead).0).0).0

  inside : at_or_above z.name a.name ≡ true
  inside = (and_parts (a.class == 1) (at_or_above z.name a.name) (and_parts ((a.class == 1) && at_or_above z.name a.name) (not (among (0 ∷ 41 ∷ []) a.rtype)) (and_parts _ (not (nat_le 128 a.rtype && nat_le a.rtype 254)) lead).0).0).1

  answered_at : (n : Name) (t : ℕ) → at_or_above z.name n ≡ true → among (5 ∷ 39 ∷ []) t ≡ true → is_answered z.name (record { name = n; rtype = t; class = a.class }) ≡ true
  answered_at n t at alias =
      or_right (is_allowed z.name (record { name = n; rtype = t; class = a.class })) (asks_alias z.name (record { name = n; rtype = t; class = a.class }))
      (λ i. alias i && of_class i && at i)

  by_dname : (o : Option Name) → redirecting z a.name ≡ o → (b : Asked) → option_map (λ d. record { name = d; rtype = 39; class = a.class }) o ≡ Some b → is_answered z.name b ≡ true
  by_dname None e b h = absurd (no_some b h)
  by_dname (Some d) e b h =
      let live = redirector z a.name d e in
      let at : at_or_above z.name d ≡ true = sym (at_or_above-low z.name d) ∙ (and_parts (at_or_above (apex_of z) (low d)) _ live.live).0 in
      subst (λ x. is_answered z.name x ≡ true) (some_same _ b h) (answered_at d 39 at refl)

  in_place : (d c : Bool) (b : Asked) → (if d then Some (for_type 39 a) else (if c then Some (for_type 5 a) else option_map (λ n. record { name = n; rtype = 39; class = a.class }) (redirecting z a.name))) ≡ Some b → is_answered z.name b ≡ true
  in_place true c b h = subst (λ x. is_answered z.name x ≡ true) (some_same _ b h) (answered_at a.name 39 inside refl)
  in_place false true b h = subst (λ x. is_answered z.name x ≡ true) (some_same _ b h) (answered_at a.name 5 inside refl)
  in_place false false b h = by_dname (redirecting z a.name) refl b h

  by_found : (f k : Bool) (b : Asked) → is_alias_type a.rtype ≡ k → (if f then (if k then Some a else None) else alias_in_place mode z a) ≡ Some b → is_answered z.name b ≡ true
  by_found true true b e h = subst (λ x. is_answered z.name x ≡ true) (some_same a b h) (answered_at a.name a.rtype inside (of_aliases (λ u. among (5 ∷ 39 ∷ []) u ≡ true) refl refl a.rtype e))
  by_found true false b e h = absurd (no_some b h)
  by_found false k b e h = in_place (asks_all a && finds z a.name 39) (not (asks_beside mode z a) && finds z a.name 5) b h

pub aliases_answered : AliasesAreAnswered
aliases_answered mode z a b e = go (may_lead z.name a) refl e
  where
    go : (l : Bool) → may_lead z.name a ≡ l → (if not l then None else (if finds z a.name a.rtype then (if is_alias_type a.rtype then Some a else None) else alias_in_place mode z a)) ≡ Some b → is_answered z.name b ≡ true
    go true lead h = by_found mode z a lead (finds z a.name a.rtype) (is_alias_type a.rtype) b refl h
    go false lead h = absurd (no_some b h)

-- ---- allowed questions

-- an allowed question may be answered by an alias, and is for none of the types that stand for others or beside a CNAME
record IsPlainAsked (apex : Name) (a : Asked) : Type 0 where
  lead : may_lead apex a ≡ true
  own : is_alias_type a.rtype ≡ false
  single : asks_all a ≡ false
  link : (a.rtype == 47) ≡ false

under_meta : (t : ℕ) → (nat_le 128 t && nat_le t 255) ≡ false → (nat_le 128 t && nat_le t 254) ≡ false
under_meta t e = false_from_ne_true (nat_le 128 t && nat_le t 254) (λ h.
    let both = and_parts (nat_le 128 t) (nat_le t 254) h in
    let most : t ≤ 254 = leb-true t 254 both.1 in
    false≢true (sym e ∙ (λ i. both.0 i && le-leb t 255 (omega (arith, most)) i)))

unlike : (t u : ℕ) → (nat_le 128 t && nat_le t 255) ≡ false → (nat_le 128 u && nat_le u 255) ≡ true → (t == u) ≡ false
unlike t u e w = false_from_ne_true (t == u) (λ h. false≢true (sym e ∙ ap (λ k. nat_le 128 k && nat_le k 255) (eqb-true t u h) ∙ w))

plain_asked : (apex : Name) (a : Asked) → is_allowed apex a ≡ true → IsPlainAsked apex a
plain_asked apex a allowed =
    let t = a.rtype in
    let signing = among (46 ∷ 47 ∷ 48 ∷ 50 ∷ 51 ∷ 5 ∷ 39 ∷ 0 ∷ 41 ∷ []) t in
    let here = (a.class == 1) && at_or_above apex a.name in
    let parts = and_parts (here && not signing) (not (nat_le 128 t && nat_le t 255)) allowed in
    let stands = (and_parts here (not signing) parts.0).0 in
    let none : signing ≡ false = not_true signing (and_parts here (not signing) parts.0).1 in
    let meta : (nat_le 128 t && nat_le t 255) ≡ false = not_true _ parts.1 in
    let p46 = or_parts (eqb t 46) _ none in
    let p47 = or_parts (eqb t 47) _ p46.1 in
    let p48 = or_parts (eqb t 48) _ p47.1 in
    let p50 = or_parts (eqb t 50) _ p48.1 in
    let p51 = or_parts (eqb t 51) _ p50.1 in
    let p5 = or_parts (eqb t 5) _ p51.1 in
    let p39 = or_parts (eqb t 39) _ p5.1 in
    let p0 = or_parts (eqb t 0) _ p39.1 in
    let p41 = or_parts (eqb t 41) _ p0.1 in
    let any : (t == 255) ≡ false = unlike t 255 meta refl in
    record {
      lead = (λ i. stands i && not (p0.0 i || (p41.0 i || false)) && not (under_meta t meta i));
      own = (λ i. p5.0 i || p39.0 i);
      single = (λ i. p46.0 i || (any i || false));
      link = p47.0;
    }

chosen : (a x : Asked) (g : Name → Asked) (f c : Bool) (o : Option Name) → is_some (if f then None else (if c then Some x else option_map g o)) ≡ (not f && (c || is_some o))
chosen a x g true c o = refl
chosen a x g false true o = refl
chosen a x g false false None = refl
chosen a x g false false (Some d) = refl

led_as : (mode : Mode) (z : Zone) (a : Asked) → IsPlainAsked z.name a → is_some (alias_of mode z a) ≡ leads_elsewhere z a.name a.rtype
led_as mode z a p =
    let g : Name → Asked = λ d. record { name = d; rtype = 39; class = a.class } in
    (λ i. is_some (if not (p.lead i) then None else (if finds z a.name a.rtype then (if p.own i then Some a else None)
    else (if p.single i && finds z a.name 39 then Some (for_type 39 a) else (if not (p.link i && links_names mode && has z (low a.name) 5) && finds z a.name 5 then Some (for_type 5 a) else option_map g (redirecting z a.name))))))
    ∙ chosen a (for_type 5 a) g (finds z a.name a.rtype) (finds z a.name 5) (redirecting z a.name)

pub allowed_aliased : AllowedAreAliased
allowed_aliased w a zone allowed =
    let Same : List HandedRr → Type 0 = λ rs. is_some (alias_of w.zone.mode (zone_with w.zone.apex rs) a) ≡ is_aliased (zone_with w.zone.apex rs) false a.name a.rtype in
    subst Same (sym zone.sorted)
    (led_as w.zone.mode (zone_of w.zone.apex zone.records) a (plain_asked w.zone.apex a allowed)
    ∙ sym (aliases_led w.answers.hash w.zone.apex w.zone.mode w.zone.limit zone.records a.name a.rtype zone.accepted))
