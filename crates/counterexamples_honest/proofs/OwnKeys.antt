-- What rows share: names, records, zones in order, what was signed, and the DNSKEY answer of the zone's key.
use Rattle.std.proofs.Common.{◌≡◌, ℕ, Bool, true, false, List, [], ◌∷◌, length, Ok, refl, sym, ◌∙◌}
use Rattle.std.specs.Prelude.{◌==◌, Result, Err, get_or}
use Rattle.std.specs.List.{AllByRecursion, list_any}
use Rattle.std.proofs.lemmas.Bool.{and_parts, false≢true}
use Rattle.definitions.specs.Dnskey.{dnskey_data}
use Rattle.definitions.specs.Limits.{pointer_limit}
use Rattle.definitions.specs.Name.{IsName, Name, labels_eq, low}
use Rattle.definitions.specs.Reading.{most_heads}
use Rattle.definitions.specs.Signing.{Fields, signed_octets}
use Rattle.definitions.specs.Zone.{Rr, Zone, has, is_of}
use Rattle.definitions.specs.ZoneChain.{Nsec}
use Rattle.definitions.proofs.Members.{any_of}
use Rattle.denial_laws.specs.Truth.{IsServable}
use Rattle.messages.specs.Handed.{IsHanded}
use Rattle.messages.specs.HandedRr.{HandedRr}
use Rattle.messages.specs.declared.error.MessageError.{MessageError}
use Rattle.messages.specs.Message.{Message, Spelled, message, owner_at}
use Rattle.messages.proofs.Lists.{all_at, all_fail}
use Rattle.answer_terms.specs.Accepting.{IsFaultless, has_unlike_ttls, soas, sorted_records, zone_of}
use Rattle.answer_terms.proofs.Servable.{servable}
use Rattle.answer_judge.specs.Honest.{NoStranger, NothingForged, Signing, SignedOfKeys, WasSigned, sought_of_keys}
use Rattle.answer_judge.specs.Versions.{Version, zone_in}
use Rattle.answer_judge.specs.Judging.{JudgeInput}
use Rattle.answer_judge_keys.proofs.GivenSorted.{in_has}
use Rattle.counterexamples_honest.specs.Premises.{IsServableIn, Premises, Where}
use Rattle.counterexamples_honest.specs.Rows.{bare, first_version, own_keys, second_version, judge_input, small, starred}
use Rattle.counterexamples_honest.specs.World.{a, address, b, c, ds, example, fields, own_key, plain, soa, star, text, x, x_b}
use Rattle.counterexamples_honest.proofs.Dealt.{at_place, no_signature, signed, unforged}
use Rattle.counterexamples_honest.proofs.Handed.{name, opaque, signable, soa_handed}
use Rattle.counterexamples_honest.proofs.Known.{no_stranger, own_known}

-- ---- names and records

pub example_is : IsName example
example_is = name example refl refl

pub a_is : IsName a
a_is = name a refl refl

pub b_is : IsName b
b_is = name b refl refl

pub c_is : IsName c
c_is = name c refl refl

pub x_b_is : IsName x_b
x_b_is = name x_b refl refl

pub star_is : IsName star
star_is = name star refl refl

pub x_is : IsName x
x_is = name x refl refl

pub soa_is : IsHanded soa
soa_is = soa_handed example_is

pub bare_is : AllByRecursion IsHanded bare.records
bare_is = (soa_is, tt)

pub small_is : AllByRecursion IsHanded small.records
small_is = (soa_is, (opaque a 1 address a_is refl, tt))

pub starred_is : AllByRecursion IsHanded starred.records
starred_is = (soa_is, (opaque star 1 address star_is refl, (opaque b 1 address b_is refl, tt)))

pub first_is : AllByRecursion IsHanded first_version.records
first_is = (soa_is, (opaque star 16 text star_is refl, (opaque b 1 address b_is refl, tt)))

pub second_is : AllByRecursion IsHanded second_version.records
second_is = (soa_is, (opaque x 16 text x_is refl, tt))

-- ---- zones in order

-- no record has a type
pub no_type : (z : Zone) (t : ℕ) → list_any (λ (r : Rr). r.rtype == t) z.records ≡ false → (o : Name) → has z o t ≡ true → ⊥
no_type z t none o h =
    let r = any_of (is_of o t) z.records h in
    let kind : (r.0.rtype == t) ≡ true = (and_parts (labels_eq (low r.0.spelled) o) (r.0.rtype == t) r.1.1).1 in
    false≢true (sym (all_at (λ (x : Rr). (x.rtype == t) ≡ false) z.records r.0 (all_fail (λ (x : Rr). x.rtype == t) z.records none) (in_has z.records r.0 r.1.0)) ∙ kind)

pub where_all : {A : Type 0} (b : Bool) → A → Where b A
where_all true a = a
where_all false a = tt

-- a zone in order is so whatever is asked
pub in_order : (p : Premises) (z : Zone) → IsServable z → IsServableIn p z
in_order p z s = record {
  apex = s.apex;
  typed = s.typed;
  ordinary = where_all p.ordinary s.ordinary;
  real = where_all p.real s.real;
  stars = s.stars;
  alone = where_all p.alone s.aliases.alone;
  uncut = where_all p.uncut s.aliases.uncut;
  childless = where_all p.childless s.aliases.childless;
}

-- whatever stands in them, with a chain of names, has no fault, one SOA record and one TTL an RRset
served : (rs : List HandedRr) → IsFaultless example Nsec 0 rs → length (soas example (sorted_records rs)) ≡ 1 → has_unlike_ttls (zone_of example rs) false (sorted_records rs) ≡ false → IsServable (zone_of example rs)
served rs faultless one same = servable plain.hash example Nsec 0 rs (record { faultless = faultless; soa = one; ttls = same; chain = tt })

small_faultless : IsFaultless example Nsec 0 small.records
small_faultless = record { of_class_in = refl; inside = refl; unsigned = refl; no_alias = refl; known = refl; no_star_delegation = refl; within_limit = refl }

pub small_served : IsServable (zone_in example small)
small_served = served small.records small_faultless refl refl

starred_faultless : IsFaultless example Nsec 0 starred.records
starred_faultless = record { of_class_in = refl; inside = refl; unsigned = refl; no_alias = refl; known = refl; no_star_delegation = refl; within_limit = refl }

pub starred_served : IsServable (zone_in example starred)
starred_served = served starred.records starred_faultless refl refl

first_faultless : IsFaultless example Nsec 0 first_version.records
first_faultless = record { of_class_in = refl; inside = refl; unsigned = refl; no_alias = refl; known = refl; no_star_delegation = refl; within_limit = refl }

pub first_served : IsServable (zone_in example first_version)
first_served = served first_version.records first_faultless refl refl

second_faultless : IsFaultless example Nsec 0 second_version.records
second_faultless = record { of_class_in = refl; inside = refl; unsigned = refl; no_alias = refl; known = refl; no_star_delegation = refl; within_limit = refl }

pub second_served : IsServable (zone_in example second_version)
second_served = served second_version.records second_faultless refl refl

bare_faultless : IsFaultless example Nsec 0 bare.records
bare_faultless = record { of_class_in = refl; inside = refl; unsigned = refl; no_alias = refl; known = refl; no_star_delegation = refl; within_limit = refl }

pub bare_served : IsServable (zone_in example bare)
bare_served = served bare.records bare_faultless refl refl

-- ---- what was signed

-- a version from one second to another
abbrev pub signed_from : Version → ℕ → ℕ → Signing
signed_from v first last = record { version = v; times = record { inception = first; expiration = last } }

-- ---- messages as they read

abbrev read_by : Result Message MessageError → Message
read_by (Ok r) = r
read_by (Err e) = record { asked = record { name = []; rtype = 0; class = 0 }; records = [] }

abbrev pub read_of : List ℕ → Message
read_of m = read_by (message pointer_limit m)

-- the record at a place
abbrev pub item : List ℕ → ℕ → Spelled
item m i = get_or (read_of m).records i (record { owner = []; rtype = 0; class = 0; ttl = 0; start = 0; length = 0 })

-- ---- the DNSKEY answer

abbrev keys_fields : Fields
keys_fields = fields 48 1 3600 1000 2000 own_key

-- what its signature is made over
abbrev pub keys_over : List (List ℕ) → List ℕ
keys_over datas = signed_octets keys_fields example 1 datas

-- the RRset of the zone's key was signed
own_signed : (signings : List Signing) → WasSigned plain example (own_key ∷ []) signings (keys_over (dnskey_data own_key ∷ []))
own_signed signings = SignedOfKeys (record {
  present = own_key ∷ [];
  published_are = (at_place (own_key ∷ []) own_key 0 refl refl, tt);
  fields = keys_fields;
  over = record { covered = refl; labels = refl; signer = refl; fits = signable 48 1 3600 1000 2000 own_key example (dnskey_data own_key ∷ []) example_is refl refl refl refl refl refl refl; is = refl };
})

-- nothing is forged in it
pub own_keys_unforged : (h : JudgeInput) → h.now ≡ 1500 → (signings : List Signing) → NothingForged plain pointer_limit h (own_key ∷ []) (WasSigned plain example (own_key ∷ []) signings) (sought_of_keys h) own_keys
unfolding pointer_limit most_heads owner_at
own_keys_unforged h now signings = unforged plain h (own_key ∷ []) (WasSigned plain example (own_key ∷ []) signings) (sought_of_keys h) own_keys (read_of own_keys) refl (
  no_signature plain h.now (own_key ∷ []) (WasSigned plain example (own_key ∷ []) signings) own_keys (item own_keys 0) refl,
  (signed h.now (WasSigned plain example (own_key ∷ []) signings) own_keys (item own_keys 1) keys_fields (keys_over (dnskey_data own_key ∷ [])) refl (own_signed signings), tt),
)

pub own_keys_known : (answer : List ℕ) (n : Name) (t : ℕ) → NoStranger plain pointer_limit (judge_input (ds ∷ []) own_keys answer n t) (own_key ∷ [])
unfolding pointer_limit most_heads owner_at
own_keys_known answer n t = no_stranger (judge_input (ds ∷ []) own_keys answer n t) (read_of own_keys) refl refl refl (own_known, tt)
