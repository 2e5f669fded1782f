-- Records as they are handed in hold what they say.
use Rattle.std.proofs.Common.{◌≡◌, ◌<◌, inl, inr, ◌⊎◌, refl, sym, append_assoc}
use Rattle.std.specs.Prelude.{MatchBool}
use Rattle.definitions.specs.Name.{Name, IsName, wire, low}
use Rattle.plain.specs.Soa.{times_octets}
use Rattle.plain.specs.ZoneData.{zone_type}
use Rattle.plain.specs.declared.record.Record.{Record}
use Rattle.plain.specs.declared.zone_data.ZoneRecordData.{ZoneRecordData}
use Rattle.plain.specs.declared.zone_data.ZoneRecordData.TheVariants.{Soa, Ns, Unknown}
use Rattle.messages.specs.Handed.{IsHanded, SpellsNs, SpellsSoa}
use Rattle.messages.specs.HandedRr.{HasNames, canonical_of, handed_of, is_unknown, written_of}

spells_data : {O : Type 0} (d : ZoneRecordData O Name) → HasNames d → MatchBool (is_unknown d) (canonical_of d ≡ written_of d) (((zone_type d ≡ 2) × SpellsNs (written_of d) (canonical_of d)) ⊎ ((zone_type d ≡ 6) × SpellsSoa (written_of d) (canonical_of d)))
spells_data (Soa s) h =
    let numbers = times_octets s.times in
    inr (refl, record { mname = s.mname; rname = s.rname; numbers = numbers; mname_is = h.0; rname_is = h.1; five = refl; written_is = sym (append_assoc (wire s.mname) (wire s.rname) numbers); canonical_is = sym (append_assoc (wire (low s.mname)) (wire (low s.rname)) numbers) })
spells_data (Ns d) h = inl (refl, record { name = d.nsdname; is = h; written_is = refl; canonical_is = refl })
spells_data (Unknown u) h = refl

pub handed_from : {O : Type 0} (r : Record Name (ZoneRecordData O Name)) → IsName r.owner → zone_type r.content < 65536 → r.ttl < 4294967296 → HasNames r.content → IsHanded (handed_of r)
handed_from r name t ttl names = record { owner = name; rtype = t; ttl = ttl; spells = spells_data r.content names }
