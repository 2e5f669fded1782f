-- DS records of a known kind, and delegations that have some.
use Rattle.std.proofs.Common.{◌≡◌, ℕ, Bool, true, false, List, [], ◌∷◌, Option, Some, None, refl, sym, ap, ◌∙◌}
use Rattle.std.specs.List.{list_any}
use Rattle.definitions.specs.Dnskey.{Ds}
use Rattle.definitions.specs.Name.{Name, low}
use Rattle.definitions.specs.Zone.{cut, data_at}
use Rattle.tree_laws.specs.Tree.{TreeZone, is_bound, refers_to}
use Rattle.resolution_step.specs.KnownDs.{known_ds, known_in, knows}
use Rattle.resolution_step.specs.Told.{bound_told, by_known}
use Rattle.resolution_step.specs.Truth.{IsCutSo, IsToldSo}

abbrev has_some : List Ds → Bool
has_some [] = false
has_some (d ∷ ds) = true

-- some data spell a record of a known kind exactly where there are such records
known_any : (algorithms : List ℕ) (datas : List (List ℕ)) → list_any (knows algorithms) datas ≡ has_some (known_ds algorithms datas)
known_any algorithms [] = refl
known_any algorithms (x ∷ xs) = go (known_in algorithms x) refl (known_any algorithms xs)
  where
    go : (o : Option Ds) → known_in algorithms x ≡ o → list_any (knows algorithms) xs ≡ has_some (known_ds algorithms xs)
        → list_any (knows algorithms) (x ∷ xs) ≡ has_some (known_ds algorithms (x ∷ xs))
    go None e rest = rw e rest
    go (Some d) e rest = rw e refl

module _ (algorithms : List ℕ) (z : TreeZone) (datas : List (List ℕ)) where
  bound_is : (c : Name) → datas ≡ data_at z.zone c 43 → is_bound (knows algorithms) z.zone c ≡ has_some (known_ds algorithms datas)
  bound_is c e = ap (list_any (knows algorithms)) (sym e) ∙ known_any algorithms datas

  pub bound_at_cut : (n : Name) → cut z.zone (low n) ≡ Some (low n) → datas ≡ data_at z.zone (low n) 43 → IsCutSo algorithms z n (bound_told algorithms n datas)
  bound_at_cut n k e = go (known_ds algorithms datas) refl
    where
      go : (ds : List Ds) → known_ds algorithms datas ≡ ds → IsCutSo algorithms z n (by_known (low n) datas ds)
      go [] f = (refl, k, record { unbound = bound_is (low n) e ∙ ap has_some f; datas_are = e })
      go (d ∷ ds) f = (refl, k, record { bound = bound_is (low n) e ∙ ap has_some f; ds_are = sym f ∙ ap (known_ds algorithms) e })

  pub bound_below : (q : Name) (t : ℕ) (c : Name) → refers_to z.zone q t ≡ Some (low c) → datas ≡ data_at z.zone (low c) 43 → IsToldSo algorithms z q t (bound_told algorithms c datas)
  bound_below q t c k e = go (known_ds algorithms datas) refl
    where
      go : (ds : List Ds) → known_ds algorithms datas ≡ ds → IsToldSo algorithms z q t (by_known (low c) datas ds)
      go [] f = (k, record { unbound = bound_is (low c) e ∙ ap has_some f; datas_are = e })
      go (d ∷ ds) f = (k, record { bound = bound_is (low c) e ∙ ap has_some f; ds_are = sym f ∙ ap (known_ds algorithms) e })
