-- What is told of the DNSKEY set, of the DS set, and of the sets that ask the parent for that.
use Rattle.std.specs.Prelude.{◌≡◌, ◌⊎◌, ℕ, ◌==◌, true, false, List, Option, Some, None, if◌then◌else◌}
use Rattle.std.specs.List.{flat_map}
use Rattle.definitions.specs.Dnskey.{dnskey_data}
use Rattle.denial_keys.specs.Keys.{ds_data}
use Rattle.names_rdata.specs.Composing.{with_length}
use Rattle.answer_publisher_keys.specs.Bindings.{ZoneKeys, cdnskey_set, cds_set, ds_set, keys_by_tag}
use Rattle.answer_publisher_keys.specs.declared.keys.Publication.TheVariants as publication
use Rattle.server_zone_octets.specs.declared.code.ZoneCode.{ZoneCode}
use Rattle.server_zone_octets.specs.declared.code.ZoneCode.TheVariants as c
use Rattle.server_zone_octets.specs.declared.report.ZoneReport.{ZoneReport}
use Rattle.server_zone_octets.specs.Telling.{IsHandedOut, IsUnknown, CodeAndOctets, is_known, only}

-- the data of the records of a type, each behind its length; None for another type
abbrev pub set_data : ZoneKeys → ℕ → Option (List ℕ)
set_data keys rtype =
    if rtype == 43 then Some (flat_map (λ d. with_length (ds_data d)) (ds_set keys))
    else if rtype == 59 then Some (flat_map (λ d. with_length (ds_data d)) (cds_set keys))
    else if rtype == 60 then Some (flat_map (λ k. with_length (dnskey_data k)) (cdnskey_set keys))
    else if rtype == 48 then Some (flat_map (λ k. with_length (dnskey_data k)) (keys_by_tag keys publication.Present))
    else None

-- memory ran out, or the type is another
abbrev pub IsSetRefused : ZoneKeys → ℕ → ZoneCode → Type 0
IsSetRefused keys rtype code = (code ≡ c.OutOfMemory) ⊎ ((code ≡ c.BadCall) × (set_data keys rtype ≡ None))

pub record IsSet (keys : ZoneKeys) (rtype : ℕ) (said : CodeAndOctets) : Type 0 where
  pub octets_are : set_data keys rtype ≡ Some said.octets
  pub code_is : said.code ≡ c.Done

abbrev pub TellsSet : ZoneKeys → ℕ → CodeAndOctets → Type 0
TellsSet keys rtype said = IsSet keys rtype said ⊎ ((said ≡ only said.code) × IsSetRefused keys rtype said.code)

pub record IsSetTold (keys : ZoneKeys) (rtype : ℕ) (report : ZoneReport) (before after : List ℕ) (code : ZoneCode) : Type 0 where
  pub said : CodeAndOctets
  pub tells : TellsSet keys rtype said
  pub handed_out : IsHandedOut said before after report code

pub record SaysSet (keys : ZoneKeys) (rtype : ℕ) (report report' : ZoneReport) (before after : List ℕ) (code : ZoneCode) : Type 0 where
  pub known : is_known report ≡ true → IsSetTold keys rtype report' before after code
  pub unknown : is_known report ≡ false → IsUnknown report report' before after code
