-- The NSEC records of owners that are kept, from the records of each.
use Rattle.std.specs.Prelude.{ℕ, Bool, ◌&&◌, List, [], ◌∷◌, ◌++◌}
use Rattle.definitions.specs.Name.{Name, same}
use Rattle.definitions.specs.Bitmap.{bitmap}
use Rattle.definitions.specs.ZoneChain.{of_keys}
use Rattle.plain.specs.declared.record.Record.{Record}
use Rattle.denial_chain_owners.specs.Types.{own_types}
use Rattle.denial_nsec_chain.specs.Chain.{ChainRecord, class_of}

-- the owner of the next records, as the first one spells it; the apex where there are none
abbrev pub next_of : {N D : Type 0} → (N → Name) → Name → List (List (Record N D)) → Name
next_of name apex [] = apex
next_of name apex ([] ∷ gs) = apex
next_of name apex ((r ∷ g) ∷ gs) = name r.owner

-- the types in the bitmap of an owner (RFC 4035, 2.3)
abbrev pub group_types : {N D : Type 0} → (N → Name) → (D → ℕ) → Name → Bool → List (Record N D) → List ℕ
group_types name rtype apex dnskey g =
    own_types name rtype apex g
    ++ (of_keys (dnskey && same (next_of name apex (g ∷ [])) apex) ++ 46 ∷ 47 ∷ [])

abbrev pub group_record : {N D : Type 0} → (N → Name) → (D → ℕ) → Name → ℕ → Bool → List (Record N D) → Name → ChainRecord
group_record name rtype apex ttl dnskey g next = record {
  owner = next_of name apex (g ∷ []);
  class = class_of g;
  ttl = ttl;
  next = next;
  types = bitmap (group_types name rtype apex dnskey g);
}

-- the records of all owners, each with the next one
abbrev pub group_records : {N D : Type 0} → (N → Name) → (D → ℕ) → Name → ℕ → Bool → List (List (Record N D)) → List ChainRecord
group_records name rtype apex ttl dnskey [] = []
group_records name rtype apex ttl dnskey (g ∷ gs) =
    group_record name rtype apex ttl dnskey g (next_of name apex gs) ∷ group_records name rtype apex ttl dnskey gs
