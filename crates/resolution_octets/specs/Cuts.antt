-- Why no DS record of a delegation counts, as an extended error.
use Rattle.std.specs.Prelude.{ℕ, Bool, List, [], map, unwrap_or}
use Rattle.std.specs.List.{list_any}
use Rattle.definitions.specs.Dnskey.{Ds}
use Rattle.answer_judge_octets.specs.Replying.{is_made, unsupported}
use Rattle.evidence_laws.specs.KnownDs.{ds_of_data}

-- the DS record that data spell; data that spell none count as a record of no algorithm and no digest, whose numbers are 0
abbrev pub ds_counted : List ℕ → Ds
ds_counted datum = unwrap_or (ds_of_data datum) (record { tag = 0; algorithm = 0; digest_type = 0; digest = [] })

-- some of the records has a digest that is made
abbrev pub has_made : List (List ℕ) → Bool
has_made datas = list_any (λ d. is_made d.digest_type) (map ds_counted datas)

-- Why none of the DS records with these data counts, as a judgement beside them says it (RFC 8914, 4.2 and 4.3); 0 where there is none.
abbrev pub error_of_cut : List (List ℕ) → ℕ
error_of_cut datas = unsupported (map ds_counted datas)
