-- Both zones are in order.
use Rattle.std.proofs.Common.{◌≡◌, ℕ, true, false, List, [], ◌∷◌, length, get_or, map, nat_lt, refl, sym, ap, subst, ◌∙◌, inl, inr, arith}
use Rattle.std.specs.Prelude.{◌==◌, Contains}
use Rattle.std.specs.List.{AllByRecursion}
use Rattle.std.proofs.lemmas.Bool.{and_parts, eq-eqb, eqb-true, false≢true, ltb-true}
use Rattle.definitions.specs.Name.{IsName, Name, labels_eq, low, strictly_above, wire}
use Rattle.definitions.specs.Zone.{Rr, Zone, has, is_delegation, is_of, owner_of, owners}
use Rattle.definitions.proofs.Members.{In, any_of, in_contained}
use Rattle.denial_laws.proofs.ChainBits.{all_at}
use Rattle.messages.specs.Handed.{IsHanded}
use Rattle.messages.proofs.ZoneNames.{same_labels}
use Rattle.answer_judge.specs.Versions.{zone_in}
use Rattle.tree_laws.specs.Orderly.{IsOrderlyZone}
use Rattle.evidence_laws.specs.Truth.{zone_of}
use Rattle.witness_laws.specs.Zones.{address, c_s, child, child_version, d_s, delegation, ds_data, e_s, handed, p, parent, parent_version, s, soa, star_e, u, y_d}
use Rattle.witness_laws.proofs.Names.{is_name}

pub at_place : {A : Type 0} (xs : List A) (x : A) (k : ℕ) → nat_lt k (length xs) ≡ true → get_or xs k x ≡ x → Contains xs x
at_place xs x k inside is = (k, ltb-true k (length xs) inside, is)

pub in_list : {A : Type 0} (xs : List A) (x : A) → Contains xs x → In x xs
in_list xs x c = in_contained xs x c.0 c.1 c.2

-- ---- records as they are handed in

handed_is : (owner : Name) (t : ℕ) (octets : List ℕ) → IsName owner → nat_lt t 65536 ≡ true → IsHanded (handed owner t octets)
handed_is owner t octets is small = record { owner = is; rtype = ltb-true t 65536 small; ttl = ltb-true 3600 4294967296 refl; spells = refl }

soa_is : (apex : Name) → IsName apex → IsHanded (soa apex)
soa_is apex is = record {
  owner = is;
  rtype = ltb-true 6 65536 refl;
  ttl = ltb-true 3600 4294967296 refl;
  spells = inr (
    refl,
    record {
      mname = [];
      rname = [];
      numbers = 0 ∷ 0 ∷ 0 ∷ 1 ∷ 0 ∷ 0 ∷ 0 ∷ 0 ∷ 0 ∷ 0 ∷ 0 ∷ 0 ∷ 0 ∷ 0 ∷ 0 ∷ 0 ∷ 0 ∷ 0 ∷ 0 ∷ 0 ∷ [];
      mname_is = is_name [] refl refl;
      rname_is = is_name [] refl refl;
      five = refl;
      written_is = refl;
      canonical_is = refl;
    },
  );
}

delegation_is : (cut : Name) → IsName cut → low cut ≡ cut → IsHanded (delegation cut)
delegation_is cut is lower = record {
  owner = is;
  rtype = ltb-true 2 65536 refl;
  ttl = ltb-true 3600 4294967296 refl;
  spells = inl (refl, record { name = cut; is = is; written_is = refl; canonical_is = ap wire (sym lower) });
}

pub p_is : IsName p
p_is = is_name p refl refl

pub s_is : IsName s
s_is = is_name s refl refl

pub u_is : IsName u
u_is = is_name u refl refl

pub parent_records : AllByRecursion IsHanded parent_version.records
parent_records = (soa_is p p_is, (delegation_is s s_is refl, (handed_is s 43 ds_data s_is refl, (delegation_is u u_is refl, tt))))

pub child_records : AllByRecursion IsHanded child_version.records
child_records = (
  soa_is s s_is,
  (
    handed_is c_s 5 (wire y_d) (is_name c_s refl refl) refl,
    (handed_is d_s 39 (wire e_s) (is_name d_s refl refl) refl, (handed_is star_e 1 address (is_name star_e refl refl) refl, tt)),
  ),
)

-- ---- what holds of each record of a zone that has an owner and a type

abbrev pub parent_zone : Zone
parent_zone = zone_in p parent_version

abbrev pub child_zone : Zone
child_zone = zone_in s child_version

pub by_record : (z : Zone) (o : Name) (t : ℕ) (P : Name → ℕ → Type 0) → AllByRecursion (λ (r : Rr). P (owner_of r) r.rtype) z.records → has z o t ≡ true → P o t
by_record z o t P each h =
    let r = any_of (is_of o t) z.records h in
    let both = and_parts (labels_eq (owner_of r.0) o) (r.0.rtype == t) r.1.1 in
    let there : P (owner_of r.0) r.0.rtype = all_at (λ (x : Rr). P (owner_of x) x.rtype) z.records r.0 each r.1.0 in
    subst (λ (n : Name). P n t) (same_labels (owner_of r.0) o both.0) (subst (λ (m : ℕ). P (owner_of r.0) m) (eqb-true r.0.rtype t both.1) there)

-- it is of another type
abbrev Not : ℕ → ℕ → Type 0
Not t u = t ≡ u → ⊥

pub other : (t u : ℕ) → (t == u) ≡ false → Not t u
other t u e is = false≢true (sym e ∙ eq-eqb t u is)

-- ---- in order

-- DS stands at the delegation
parent_cuts : (o : Name) → has parent_zone o 43 ≡ true → is_delegation parent_zone o ≡ true
parent_cuts o h = by_record parent_zone o 43 (λ n t. t ≡ 43 → is_delegation parent_zone n ≡ true) (λ is. absurd (other 6 43 refl is), (λ is. refl, (λ is. refl, (λ is. absurd (other 2 43 refl is), tt)))) h refl

pub never : (z : Zone) (t : ℕ) → AllByRecursion (λ (r : Rr). (r.rtype == t) ≡ false) z.records → (o : Name) → has z o t ≡ true → ⊥
never z t none o h =
    let r = any_of (is_of o t) z.records h in
    let both = and_parts (labels_eq (owner_of r.0) o) (r.0.rtype == t) r.1.1 in
    false≢true (sym (all_at (λ (x : Rr). (x.rtype == t) ≡ false) z.records r.0 none r.1.0) ∙ both.1)

pub parent_orderly : IsOrderlyZone (zone_of parent)
parent_orderly = record {
  servable = record {
    apex = at_place (map owner_of parent_zone.records) p 0 refl refl;
    typed = (omega arith, (omega arith, (omega arith, (omega arith, tt))));
    ordinary = (refl, (refl, (refl, (refl, tt))));
    real = (refl, (refl, (refl, (refl, tt))));
    stars = (refl, (refl, (refl, (refl, tt))));
    aliases = record {
      alone = λ o t alias more. absurd (never parent_zone 5 (refl, (refl, (refl, (refl, tt)))) o alias);
      uncut = λ o redirected. absurd (never parent_zone 39 (refl, (refl, (refl, (refl, tt)))) o redirected);
      childless = λ o below redirected there. absurd (never parent_zone 39 (refl, (refl, (refl, (refl, tt)))) o redirected);
    };
  };
  ds = λ o ds live. parent_cuts o ds;
  lowered = refl;
}

-- the alias stands alone at its owner
only_alias : (t : ℕ) → has child_zone c_s t ≡ true → t ≡ 5
only_alias t h =
    let r = any_of (is_of c_s t) child_zone.records h in
    let both = and_parts (labels_eq (owner_of r.0) c_s) (r.0.rtype == t) r.1.1 in
    let there : labels_eq (owner_of r.0) c_s ≡ true → r.0.rtype ≡ 5 =
    all_at (λ (x : Rr). labels_eq (owner_of x) c_s ≡ true → x.rtype ≡ 5) child_zone.records r.0
    ((λ e. absurd (false≢true e)), (λ e. refl, (λ e. absurd (false≢true e), (λ e. absurd (false≢true e), tt)))) r.1.0 in
    sym (eqb-true r.0.rtype t both.1) ∙ there both.0

alias_alone : (o : Name) (t : ℕ) → has child_zone o 5 ≡ true → has child_zone o t ≡ true → t ≡ 5
alias_alone o t alias more =
    by_record child_zone o 5 (λ n u. u ≡ 5 → has child_zone n t ≡ true → t ≡ 5)
    (λ is h. absurd (other 6 5 refl is), (λ is h. only_alias t h, (λ is h. absurd (other 39 5 refl is), (λ is h. absurd (other 1 5 refl is), tt)))) alias refl more

-- nothing stands below the DNAME
none_below : (below : Name) → Contains (owners child_zone) below → strictly_above d_s below ≡ false
none_below below there = all_at (λ (n : Name). strictly_above d_s n ≡ false) (owners child_zone) below (refl, (refl, (refl, (refl, tt)))) (in_list (owners child_zone) below there)

pub child_orderly : IsOrderlyZone (zone_of child)
child_orderly = record {
  servable = record {
    apex = at_place (map owner_of child_zone.records) s 0 refl refl;
    typed = (omega arith, (omega arith, (omega arith, (omega arith, tt))));
    ordinary = (refl, (refl, (refl, (refl, tt))));
    real = (refl, (refl, (refl, (refl, tt))));
    stars = (refl, (refl, (refl, (refl, tt))));
    aliases = record {
      alone = alias_alone;
      uncut = λ o redirected. by_record child_zone o 39 (λ n t. t ≡ 39 → is_delegation child_zone n ≡ false)
          (λ is. refl, (λ is. refl, (λ is. refl, (λ is. refl, tt)))) redirected refl;
      childless = λ o below redirected there. by_record child_zone o 39 (λ n t. t ≡ 39 → strictly_above n below ≡ false)
          (λ is. absurd (other 6 39 refl is), (λ is. absurd (other 5 39 refl is), (λ is. none_below below there, (λ is. absurd (other 1 39 refl is), tt)))) redirected refl;
    };
  };
  ds = λ o ds live. absurd (never child_zone 43 (refl, (refl, (refl, (refl, tt)))) o ds);
  lowered = refl;
}
