-- Record types as text (RFC 3597, 5).
use Rattle.std.specs.Prelude.{ℕ, List, ◌++◌, if◌then◌else◌, nat_eq, codes}
use Rattle.std.specs.Fmt.{decimal}

abbrev pub type_text : ℕ → List ℕ
type_text n =
    if nat_eq n 1 then codes "A"
    else (if nat_eq n 2 then codes "NS"
    else (if nat_eq n 5 then codes "CNAME"
    else (if nat_eq n 6 then codes "SOA"
    else (if nat_eq n 15 then codes "MX"
    else (if nat_eq n 16 then codes "TXT"
    else (if nat_eq n 39 then codes "DNAME"
    else (if nat_eq n 41 then codes "OPT"
    else (if nat_eq n 43 then codes "DS"
    else (if nat_eq n 46 then codes "RRSIG"
    else (if nat_eq n 47 then codes "NSEC"
    else (if nat_eq n 48 then codes "DNSKEY"
    else (if nat_eq n 50 then codes "NSEC3"
    else (if nat_eq n 51 then codes "NSEC3PARAM" else codes "TYPE" ++ decimal n)))))))))))))
