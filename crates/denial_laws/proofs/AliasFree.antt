-- Zones without CNAME and DNAME: their aliases are in order, and none of their names is an alias.
use Rattle.std.proofs.Common.{◌≡◌, ℕ, Bool, true, false, Option, Some, None, refl, sym, ◌∙◌}
use Rattle.std.specs.List.{AllByRecursion}
use Rattle.std.proofs.lemmas.Bool.{false≢true}
use Rattle.definitions.specs.Name.{Name, low}
use Rattle.definitions.specs.Zone.{Zone, has, cut, exists, ce, star_under}
use Rattle.denial_laws.specs.Aliases.{IsOrderly, is_alias_type, is_aliased}
use Rattle.denial_laws.proofs.ChainBits.{none_of_types}
use Rattle.denial_laws.proofs.Unaliased.{unredirected, no_alias, own_alias, unaliased}

module _ (z : Zone) (free : AllByRecursion (λ r. is_alias_type r.rtype ≡ false) z.records) where
  no_cname : (o : Name) → has z o 5 ≡ false
  no_cname o = none_of_types is_alias_type z free o 5 refl

  no_dname : (o : Name) → has z o 39 ≡ false
  no_dname o = none_of_types is_alias_type z free o 39 refl

  pub alias_free_orderly : IsOrderly z
  alias_free_orderly = record {
    alone = λ o t c h. absurd (false≢true (sym (no_cname o) ∙ c));
    uncut = λ o d. absurd (false≢true (sym (no_dname o) ∙ d));
    childless = λ o below d c. absurd (false≢true (sym (no_dname o) ∙ d));
  }

  pub alias_free_unaliased : (ex : Bool) (q : Name) (t : ℕ) → is_aliased z ex q t ≡ false
  alias_free_unaliased ex q t = unaliased z ex q t (unredirected z (low q) (λ d r. false≢true (sym (no_dname d) ∙ r.redirects))) (λ _. own (cut z (low q)) (exists z (low q)) (ce z (low q)))
    where
      own : (c : Option Name) (x : Bool) (e : Option Name) → own_alias z (low q) t c x e ≡ false
      own (Some c) x e = refl
      own None true e = no_alias z (low q) t (no_cname (low q))
      own None false None = refl
      own None false (Some e) = no_alias z (star_under e) t (no_cname (star_under e))
