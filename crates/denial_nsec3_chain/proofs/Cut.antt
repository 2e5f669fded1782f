-- The types of a delegation.
use Rattle.std.proofs.Common.{◌≡◌, ℕ, Bool, true, false, ◌&&◌, List, [], ◌∷◌, ◌++◌, map, refl, sym, ◌∙◌}
use Rattle.std.specs.Prelude.{not, ◌||◌, if◌then◌else◌}
use Rattle.std.specs.List.{list_any}
use Rattle.std.specs.Prelude.{nat_eq}
use Rattle.definitions.specs.Name.{Name, same}
use Rattle.definitions.specs.ZoneChain.{of_keys}
use Rattle.plain.specs.declared.record.Record.{Record}
use Rattle.denial_rrsets.specs.Groups.{zone_cut}
use Rattle.denial_chain_owners.specs.Types.{has_type}
use Rattle.denial_nsec3_chain.specs.Bits.{cut_types, group_types}

not_same : (s t : Bool) → (not s && t) ≡ true → s ≡ false
not_same true t h = absurd cc
not_same false t h = refl

-- nothing is added to them as at the apex
pub cut_group : {N D : Type 0} (name : N → Name) (rtype : D → ℕ) (apex : Name) (dnskey : Bool) (g : List (Record N D)) → zone_cut name rtype apex g ≡ true → cut_types (has_type rtype 43 g) ++ [] ≡ group_types name rtype apex dnskey g
cut_group name rtype apex dnskey [] h = absurd cc
cut_group name rtype apex dnskey (r ∷ rs) h =
    let ds = has_type rtype 43 (r ∷ rs) in
    let s = not_same (same (name r.owner) apex) (list_any (λ q. nat_eq (rtype q.content) 2) (r ∷ rs)) h in
    all ds ∙ sym (λ i. types (h i) (s i))
  where
    types : Bool → Bool → List ℕ
    types cut at = (if cut then 2 ∷ (if has_type rtype 43 (r ∷ rs) then 43 ∷ [] else []) else map (λ q. rtype q.content) (r ∷ rs)) ++ ((if not cut || has_type rtype 43 (r ∷ rs) then 46 ∷ [] else []) ++ (if at then of_keys dnskey ++ 51 ∷ [] else []))

    all : (ds : Bool) → cut_types ds ++ [] ≡ (2 ∷ (if ds then 43 ∷ [] else [])) ++ ((if ds then 46 ∷ [] else []) ++ [])
    all true = refl
    all false = refl
