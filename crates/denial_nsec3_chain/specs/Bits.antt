-- The types of an NSEC3 record, from the records of its owner (RFC 5155, 7.1).
use Rattle.std.specs.Prelude.{ℕ, zero, suc, Bool, not, ◌||◌, List, [], ◌∷◌, ◌++◌, if◌then◌else◌}
use Rattle.definitions.specs.Name.{Name, same}
use Rattle.definitions.specs.ZoneChain.{of_keys}
use Rattle.plain.specs.declared.record.Record.{Record}
use Rattle.denial_rrsets.specs.Groups.{zone_cut}
use Rattle.denial_chain_owners.specs.Types.{has_type, own_types}
use Rattle.denial_nsec3_names.specs.Walk.{Spot}

-- the owner as the first record spells it
abbrev pub first_owner : {N D : Type 0} → (N → Name) → List (Record N D) → Name
first_owner name [] = []
first_owner name (r ∷ rs) = name r.owner

-- whether records are signed; at a delegation only DS records are (RFC 4035, 2.2)
abbrev pub is_signed : {N D : Type 0} → (N → Name) → (D → ℕ) → Name → List (Record N D) → Bool
is_signed name rtype apex g = not (zone_cut name rtype apex g) || has_type rtype 43 g

-- the types that signing adds at the apex
abbrev pub apex_types : Name → Bool → Name → List ℕ
apex_types apex dnskey o = if same o apex then of_keys dnskey ++ 51 ∷ [] else []

abbrev pub signed_types : Bool → List ℕ
signed_types signed = if signed then 46 ∷ [] else []

-- the types of a delegation, which has a DS record or none
abbrev pub cut_types : Bool → List ℕ
cut_types signed = 2 ∷ (if signed then 43 ∷ 46 ∷ [] else [])

-- the types in the bitmap of an owner
abbrev pub group_types : {N D : Type 0} → (N → Name) → (D → ℕ) → Name → Bool → List (Record N D) → List ℕ
group_types name rtype apex dnskey g =
    own_types name rtype apex g ++ (signed_types (is_signed name rtype apex g) ++ apex_types apex dnskey (first_owner name g))

-- the types in the bitmap of a name: none where the name owns no records
abbrev pub types_at_skipped : ℕ → List ℕ → List ℕ
types_at_skipped zero ts = ts
types_at_skipped (suc n) ts = []

abbrev pub spot_types : {N D : Type 0} → (N → Name) → (D → ℕ) → Name → Bool → Spot (List (Record N D)) → List ℕ
spot_types name rtype apex dnskey s = types_at_skipped s.skipped (group_types name rtype apex dnskey s.owner)
