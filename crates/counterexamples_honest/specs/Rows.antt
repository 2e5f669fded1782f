-- What is handed to a judge at second 1500, of small zones whose one key signs for seconds 1000 to 2000.
use Rattle.std.specs.Prelude.{ℕ, ◌+◌, true, false, List, [], ◌∷◌, ◌++◌, length, codes}
use Rattle.std.specs.List.{flat_map}
use Rattle.definitions.specs.Bitmap.{bitmap}
use Rattle.definitions.specs.Dnskey.{Dnskey, Ds, dnskey_data}
use Rattle.definitions.specs.Name.{Name, wire}
use Rattle.definitions.specs.Signing.{Fields}
use Rattle.definitions.specs.ZoneChain.{Nsec, Nsec3}
use Rattle.messages.specs.HandedRr.{HandedRr}
use Rattle.answer_judge.specs.Judging.{JudgeInput}
use Rattle.answer_judge.specs.Versions.{Version}
use Rattle.counterexamples_honest.specs.World.{a, address, address_of, alias_of, b, delegation_of, ds, example, false_address, fields, handed, idle, message_of, other, own_key, redirect_of, rr, rrsig, soa, star, stranger, text_of, twin, x, x_b}

-- ---- zones

-- with a chain of names
abbrev pub by_names : List HandedRr → Version
by_names rs = record { records = rs; mode = Nsec; made = [] }

-- an address
abbrev pub small : Version
small = by_names (soa ∷ address_of a ∷ [])

-- a wildcard's address, and that of a name beside it
abbrev pub starred : Version
starred = by_names (soa ∷ address_of star ∷ address_of b ∷ [])

-- the apex alone, with a chain of hashes
abbrev pub bare : Version
bare = record { records = soa ∷ []; mode = Nsec3 0 [] false; made = [] }

-- a wildcard's text beside an address, and later a text of a name's own
abbrev pub first_version : Version
first_version = by_names (soa ∷ text_of star ∷ address_of b ∷ [])

abbrev pub second_version : Version
second_version = by_names (soa ∷ text_of x ∷ [])

-- ---- zones that are not in order

-- an address beside an alias
abbrev pub beside_alias : Version
beside_alias = by_names (soa ∷ alias_of a x ∷ address_of a ∷ [])

-- an address below a DNAME
abbrev pub below_redirect : Version
below_redirect = by_names (soa ∷ redirect_of b x ∷ address_of x_b ∷ [])

-- a DNAME at a delegation
abbrev pub cut_redirect : Version
cut_redirect = by_names (soa ∷ delegation_of b x ∷ redirect_of b x ∷ [])

-- an NSEC record that is handed in as data, beside an address
abbrev pub next_handed : List ℕ
next_handed = wire example ++ bitmap (6 ∷ 46 ∷ 47 ∷ 48 ∷ [])

abbrev pub chained_by_hand : Version
chained_by_hand = by_names (soa ∷ address_of a ∷ handed example 47 next_handed ∷ [])

-- ---- records of denial that were made

-- one that denies an address which is there
abbrev pub lied : Version
lied = record small { made = record { owner = example; rtype = 47; datas = next_handed ∷ [] } ∷ [] }

-- one that denies a name which is not there
abbrev pub next_of_denied : List ℕ
next_of_denied = wire ((0 ∷ []) ∷ b) ++ bitmap (46 ∷ 47 ∷ 128 ∷ [])

abbrev pub denying : Version
denying = record small { made = record { owner = b; rtype = 47; datas = next_of_denied ∷ [] } ∷ [] }

-- one that covers a name and the wildcard beside it, between two names that are not there
abbrev pub made_up : Name
made_up = codes "!" ∷ example

abbrev pub next_made_up : Name
next_made_up = codes "0" ∷ example

abbrev pub between : Name
between = codes "+" ∷ example

abbrev pub next_of_made_up : List ℕ
next_of_made_up = wire next_made_up ++ bitmap (46 ∷ 47 ∷ [])

abbrev pub making_up : Version
making_up = record small { made = record { owner = made_up; rtype = 47; datas = next_of_made_up ∷ [] } ∷ [] }

-- a record of type NXNAME, which its name's record of the chain lists
abbrev pub named : Version
named = by_names (soa ∷ handed a 128 (1 ∷ []) ∷ [])

abbrev pub next_of_named : List ℕ
next_of_named = wire example ++ bitmap (128 ∷ 46 ∷ 47 ∷ [])

-- ---- DNSKEY answers

-- one of some keys, their data in order, signed by a key
abbrev pub keys_by : Dnskey → List (List ℕ) → List ℕ
keys_by signer datas =
    message_of example 48 (length datas + 1)
    (flat_map (rr example 48) datas ++ rrsig example (fields 48 1 3600 1000 2000 signer) signer example datas)

abbrev pub own_keys : List ℕ
own_keys = keys_by own_key (dnskey_data own_key ∷ [])

-- the zone's key beside a stranger's, signed by the first
abbrev pub mixed_keys : List ℕ
mixed_keys = keys_by own_key (dnskey_data other ∷ dnskey_data own_key ∷ [])

-- a stranger's key, signed by itself
abbrev pub stranger_keys : Dnskey → List ℕ
stranger_keys k = keys_by k (dnskey_data k ∷ [])

-- ---- answers

-- an address of `a`, signed by a key from one second to another
abbrev pub address_by : Dnskey → List ℕ → ℕ → ℕ → List ℕ
address_by signer octets first last = message_of a 1 2 (rr a 1 octets ++ rrsig a (fields 1 2 3600 first last signer) signer a (octets ∷ []))

-- the wildcard's address under a name below `b`, and the record of the chain of `b`, which leads to the apex
abbrev pub next_of_b : List ℕ
next_of_b = wire example ++ bitmap (1 ∷ 46 ∷ 47 ∷ [])

abbrev pub spliced_answer : List ℕ
spliced_answer =
    message_of x_b 1 4
    (rr x_b 1 address ++ rrsig x_b (fields 1 1 3600 1000 2000 own_key) own_key star (address ∷ [])
    ++ rr b 47 next_of_b ++ rrsig b (fields 47 2 0 1000 2000 own_key) own_key b (next_of_b ∷ []))

-- the record of the chain of `b` in the first version, and that of the apex in the second, which leads to `x`: together they deny
-- `x` and the wildcard
abbrev pub next_of_apex_later : List ℕ
next_of_apex_later = wire x ++ bitmap (6 ∷ 46 ∷ 47 ∷ 48 ∷ [])

abbrev pub mixed_answer : ℕ → List ℕ
mixed_answer later =
    message_of x 16 4
    (rr b 47 next_of_b ++ rrsig b (fields 47 2 0 1000 2000 own_key) own_key b (next_of_b ∷ [])
    ++ rr example 47 next_of_apex_later ++ rrsig example (fields 47 1 0 later (later + 1000) own_key) own_key example (next_of_apex_later ∷ []))

-- the record of the one name of a chain of hashes: each hash is the octet 5
abbrev pub hashed_apex : Name
hashed_apex = codes "0k" ∷ example

abbrev pub next_of_apex : List ℕ
next_of_apex = 1 ∷ 0 ∷ 0 ∷ 0 ∷ 0 ∷ 1 ∷ 5 ∷ bitmap (6 ∷ 46 ∷ 48 ∷ 51 ∷ [])

abbrev pub hashed_answer : List ℕ
hashed_answer =
    message_of a 16 2
    (rr hashed_apex 50 next_of_apex ++ rrsig hashed_apex (fields 50 2 0 1000 2000 own_key) own_key hashed_apex (next_of_apex ∷ []))

-- an address below a DNAME, and the record of the chain of a delegation that has one
abbrev pub address_below : List ℕ
address_below = message_of x_b 1 2 (rr x_b 1 address ++ rrsig x_b (fields 1 3 3600 1000 2000 own_key) own_key x_b (address ∷ []))

abbrev pub next_of_cut : List ℕ
next_of_cut = wire example ++ bitmap (2 ∷ 46 ∷ 47 ∷ [])

abbrev pub cut_answer : List ℕ
cut_answer = message_of x_b 1 2 (rr b 47 next_of_cut ++ rrsig b (fields 47 2 0 1000 2000 own_key) own_key b (next_of_cut ∷ []))

-- an NSEC record of the apex, which leads to the apex
abbrev pub denied_by_hand : List ℕ
denied_by_hand = message_of a 1 2 (rr example 47 next_handed ++ rrsig example (fields 47 1 3600 1000 2000 own_key) own_key example (next_handed ∷ []))

-- ---- what is handed in

abbrev pub judge_input : List Ds → List ℕ → List ℕ → Name → ℕ → JudgeInput
judge_input set keys answer name t = record {
  apex = example;
  ds = set;
  dnskey_bytes = keys;
  answer_bytes = answer;
  asked = record { name = name; rtype = t; class = 1 };
  now = 1500;
  limit = 0;
  one_moment = true;
  other_question = false;
}

-- beside the DS record of the zone's key, for the address of `a`
abbrev pub address_handed : List ℕ → List ℕ → JudgeInput
address_handed keys answer = judge_input (ds ∷ []) keys answer a 1

-- ---- honest rows

abbrev pub own : JudgeInput
own = address_handed own_keys (address_by own_key address 1000 2000)

abbrev pub spliced : JudgeInput
spliced = judge_input (ds ∷ []) own_keys spliced_answer x_b 1

abbrev pub of_strangers : JudgeInput
of_strangers = address_handed (stranger_keys stranger) (address_by stranger false_address 1000 2000)

-- the last second of the forged signature is over
abbrev pub forged_late : JudgeInput
forged_late = address_handed own_keys (address_by own_key false_address 1000 1499)

-- of two versions, the second signed a hundred seconds behind the first
abbrev pub mixed : JudgeInput
mixed = judge_input (ds ∷ []) own_keys (mixed_answer 1100) x 16

-- ---- rows that are not

abbrev pub no_ds : JudgeInput
no_ds = judge_input [] [] [] a 1

-- the zone's key did not sign this set
abbrev pub forged_keys : JudgeInput
forged_keys = address_handed mixed_keys (address_by other false_address 1000 2000)

abbrev pub twin_keys : JudgeInput
twin_keys = address_handed (stranger_keys twin) (address_by twin false_address 1000 2000)

abbrev pub forged_answer : JudgeInput
forged_answer = address_handed own_keys (address_by own_key false_address 1000 2000)

abbrev pub shared_hash : JudgeInput
shared_hash = judge_input (ds ∷ []) own_keys hashed_answer a 16

-- of two versions at one moment
abbrev pub mixed_at_once : JudgeInput
mixed_at_once = judge_input (ds ∷ []) own_keys (mixed_answer 1000) x 16

-- ---- rows of zones that are not in order

abbrev pub of_alias : JudgeInput
of_alias = address_handed own_keys (address_by own_key address 1000 2000)

abbrev pub of_redirected : JudgeInput
of_redirected = judge_input (ds ∷ []) own_keys address_below x_b 1

abbrev pub of_cut_redirect : JudgeInput
of_cut_redirect = judge_input (ds ∷ []) own_keys cut_answer x_b 1

abbrev pub of_hand : JudgeInput
of_hand = judge_input (ds ∷ []) own_keys denied_by_hand a 1

abbrev pub of_named : JudgeInput
of_named =
    judge_input (ds ∷ []) own_keys
    (message_of a 1 2 (rr a 47 next_of_named ++ rrsig a (fields 47 2 0 1000 2000 own_key) own_key a (next_of_named ∷ []))) a 1

-- ---- honest rows, of records that were made for their questions

abbrev pub of_denied : JudgeInput
of_denied =
    judge_input (ds ∷ []) own_keys
    (message_of b 1 2 (rr b 47 next_of_denied ++ rrsig b (fields 47 2 3600 1000 2000 own_key) own_key b (next_of_denied ∷ []))) b 1

abbrev pub of_made_up : JudgeInput
of_made_up =
    judge_input (ds ∷ []) own_keys
    (message_of between 1 2 (rr made_up 47 next_of_made_up ++ rrsig made_up (fields 47 2 3600 1000 2000 own_key) own_key made_up (next_of_made_up ∷ []))) between 1

-- ---- honest rows that a judge refuses, of whatever is forged where no judge may look

-- an address that the zone's key signed for another zone
abbrev pub other_signer : Fields
other_signer = record (fields 1 2 3600 1000 2000 own_key) { signer = x }

abbrev pub of_other_signer : JudgeInput
of_other_signer = address_handed own_keys (message_of a 1 2 (rr a 1 false_address ++ rrsig a other_signer own_key a (false_address ∷ [])))

-- an address that a published key signed which is no zone key
abbrev pub idle_keys : List ℕ
idle_keys = keys_by own_key (dnskey_data idle ∷ dnskey_data own_key ∷ [])

abbrev pub of_idle : JudgeInput
of_idle = address_handed idle_keys (address_by idle false_address 1000 2000)

-- an alias, and the record of the chain that it has
abbrev pub aliased : Version
aliased = by_names (soa ∷ alias_of a x ∷ [])

abbrev pub next_of_alias : List ℕ
next_of_alias = wire example ++ bitmap (5 ∷ 46 ∷ 47 ∷ [])

abbrev pub at_alias : JudgeInput
at_alias =
    judge_input (ds ∷ []) own_keys
    (message_of a 1 2 (rr a 47 next_of_alias ++ rrsig a (fields 47 2 0 1000 2000 own_key) own_key a (next_of_alias ∷ []))) a 1

-- a DNAME, and the record of the chain that it has
abbrev pub redirected : Version
redirected = by_names (soa ∷ redirect_of b x ∷ [])

abbrev pub next_of_redirect : List ℕ
next_of_redirect = wire example ++ bitmap (39 ∷ 46 ∷ 47 ∷ [])

abbrev pub below_redirected : JudgeInput
below_redirected =
    judge_input (ds ∷ []) own_keys
    (message_of x_b 1 2 (rr b 47 next_of_redirect ++ rrsig b (fields 47 2 0 1000 2000 own_key) own_key b (next_of_redirect ∷ []))) x_b 1

-- of two versions that were signed in one second, the second for longer
abbrev pub mixed_until : List ℕ
mixed_until =
    message_of x 16 4
    (rr b 47 next_of_b ++ rrsig b (fields 47 2 0 1000 2000 own_key) own_key b (next_of_b ∷ [])
    ++ rr example 47 next_of_apex_later ++ rrsig example (fields 47 1 0 1000 3000 own_key) own_key example (next_of_apex_later ∷ []))

abbrev pub begun_at_once : JudgeInput
begun_at_once = judge_input (ds ∷ []) own_keys mixed_until x 16
