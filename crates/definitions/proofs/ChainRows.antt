-- Chains of small zones, by computing.
use Rattle.std.proofs.Common.{◌≡◌, true, false, [], ◌∷◌, ◌++◌, refl, length}
use Rattle.std.specs.Prelude.{codes}
use Rattle.definitions.specs.Name.{wire}
use Rattle.definitions.specs.Zone.{Zone}
use Rattle.definitions.specs.Covering.{covers, hash_covers}
use Rattle.definitions.specs.Base32hex.{base32hex}
use Rattle.definitions.specs.Bitmap.{octet_of, window_size, window_count}
use Rattle.definitions.specs.ZoneChain.{nsec_names, nsec3_names, nsec_next, nsec_types, nsec3_types, nsec_data, nsec3_data, Nsec, parameters_of, ChainParameters, excludes}
use Rattle.definitions.proofs.NameRows.{example}
use Rattle.definitions.proofs.ZoneRows.{small, apex_alone, rr}

digits_of_foobar : base32hex (codes "foobar") ≡ codes "cpnmuoj1e8"
digits_of_foobar = refl

chain_in_order : nsec_names small ≡ example ∷ (codes "a" ∷ example) ∷ (codes "b" ∷ codes "c" ∷ example) ∷ (codes "d" ∷ example) ∷ (codes "*" ∷ codes "w" ∷ example) ∷ []
chain_in_order = refl

last_leads_to_apex : nsec_next small (codes "*" ∷ codes "w" ∷ example) ≡ example
last_leads_to_apex = refl

next_in_order : nsec_next small (codes "a" ∷ example) ≡ codes "b" ∷ codes "c" ∷ example
next_in_order = refl

-- with opt-out and exclusion the unsigned delegation has no record; empty non-terminals have one
hashed_names : length (nsec3_names small true) ∷ length (nsec3_names small false) ∷ [] ≡ 6 ∷ 7 ∷ []
hashed_names = refl

opt_out_names : nsec3_names small true ≡ example ∷ (codes "a" ∷ example) ∷ (codes "c" ∷ example) ∷ (codes "b" ∷ codes "c" ∷ example) ∷ (codes "w" ∷ example) ∷ (codes "*" ∷ codes "w" ∷ example) ∷ []
opt_out_names = refl

abbrev deep : Zone
deep = record { name = example; records = rr example 6 [] ∷ rr (codes "a" ∷ codes "b" ∷ codes "d" ∷ example) 2 [] ∷ [] }

deep_delegation : length (nsec3_names deep true) ∷ length (nsec3_names deep false) ∷ [] ≡ 1 ∷ 4 ∷ []
deep_delegation = refl

deep_names : nsec3_names deep false ≡ example ∷ (codes "d" ∷ example) ∷ (codes "b" ∷ codes "d" ∷ example) ∷ (codes "a" ∷ codes "b" ∷ codes "d" ∷ example) ∷ []
deep_names = refl

bits_at_apex : nsec_types small true example ≡ 6 ∷ 46 ∷ 47 ∷ 48 ∷ []
bits_at_apex = refl

bits_at_delegation : nsec_types small true (codes "d" ∷ example) ≡ 2 ∷ 46 ∷ 47 ∷ []
bits_at_delegation = refl

hashed_bits : nsec3_types small true (codes "d" ∷ example) ++ nsec3_types small true (codes "c" ∷ example) ++ nsec3_types small true example ≡ 2 ∷ 6 ∷ 46 ∷ 48 ∷ 51 ∷ []
hashed_bits = refl

nsec_record : nsec_data small (parameters_of Nsec) (λ n. n) (codes "a" ∷ example) ≡ wire (codes "b" ∷ codes "c" ∷ example) ++ 0 ∷ 6 ∷ 64 ∷ 0 ∷ 0 ∷ 0 ∷ 0 ∷ 3 ∷ []
unfolding octet_of window_size window_count
nsec_record = refl

-- without DNSKEY, where no keys are to come
bits_without_keys : nsec_types small false example ++ nsec3_types small false example ≡ 6 ∷ 46 ∷ 47 ∷ 6 ∷ 46 ∷ 51 ∷ []
bits_without_keys = refl

-- the flag of opt-out alone leaves nothing out
abbrev flagged : ChainParameters
flagged = record { dnskey = true; algorithm = 1; iterations = 5; salt = 170 ∷ []; opt_out = true; excluding = false }

flag_alone : length (nsec3_names small (excludes flagged)) ≡ 7
flag_alone = refl

exclusion_needs_the_flag : excludes (record flagged { opt_out = false; excluding = true }) ∷ excludes (record flagged { excluding = true }) ∷ [] ≡ false ∷ true ∷ []
exclusion_needs_the_flag = refl

-- an NSEC3 record's data, of the only name of a zone
alone_hashed : nsec3_data (λ n. 7 ∷ 8 ∷ []) apex_alone flagged example ≡ 1 ∷ 1 ∷ 0 ∷ 5 ∷ 1 ∷ 170 ∷ 2 ∷ 7 ∷ 8 ∷ 0 ∷ 7 ∷ 2 ∷ 0 ∷ 0 ∷ 0 ∷ 0 ∷ 2 ∷ 144 ∷ []
unfolding octet_of window_size window_count
alone_hashed = refl

-- what one record covers
covered_between : covers example (codes "b" ∷ example) (codes "d" ∷ example) (codes "C" ∷ example) ≡ true
covered_between = refl

covered_at_end : covers example (codes "b" ∷ example) example (codes "x" ∷ example) ≡ true
covered_at_end = refl

not_owner_nor_next : covers example (codes "b" ∷ example) (codes "d" ∷ example) (codes "b" ∷ example) ∷ covers example (codes "b" ∷ example) (codes "d" ∷ example) (codes "d" ∷ example) ∷ [] ≡ false ∷ false ∷ []
not_owner_nor_next = refl

around_the_circle : hash_covers (5 ∷ []) (2 ∷ []) (7 ∷ []) ∷ hash_covers (5 ∷ []) (2 ∷ []) (1 ∷ []) ∷ hash_covers (5 ∷ []) (2 ∷ []) (3 ∷ []) ∷ [] ≡ true ∷ true ∷ false ∷ []
around_the_circle = refl

single_covers_all_but_itself : hash_covers (5 ∷ []) (5 ∷ []) (4 ∷ []) ∷ hash_covers (5 ∷ []) (5 ∷ []) (6 ∷ []) ∷ hash_covers (5 ∷ []) (5 ∷ []) (5 ∷ []) ∷ [] ≡ true ∷ true ∷ false ∷ []
single_covers_all_but_itself = refl
