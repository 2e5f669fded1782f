-- Types of which a zone holds no record are answered alike.
use Rattle.std.specs.Prelude.{◌≡◌, ℕ, Bool, true, false, not, ◌&&◌, ◌||◌, ◌==◌, List, [], ◌∷◌}
use Rattle.std.specs.List.{list_any}
use Rattle.definitions.specs.Name.{Name}
use Rattle.definitions.specs.Zone.{Zone, has}
use Rattle.definitions.specs.ZoneChain.{Mode}
use Rattle.denial_laws.specs.Aliases.{is_alias_type}
use Rattle.messages.specs.HandedRr.{HandedRr, among}
use Rattle.answer_terms.specs.Accepted.{IsAccepted}
use Rattle.answer_terms.specs.Accepting.{sorted_records}
use Rattle.answer_terms.specs.Hashing.{Hasher}
use Rattle.answer_terms.specs.Served.{Served, answer_groups, served_of}
use Rattle.answer_zone_records.specs.AliasFaults.{IsAcceptedWithAliases}

-- no name of a zone has a record of a type
abbrev pub IsNowhere : Zone → ℕ → Type 0
IsNowhere z t = (o : Name) → has z o t ≡ false

-- Two such types have one answer, RRset by RRset. DS, 43, is another matter: at a delegation it is the parent's.
abbrev pub AbsentAnsweredAlike : Type 0
AbsentAnsweredAlike =
    (s : Served) (q : Name) (t u : ℕ) → (t == 43) ≡ false → (u == 43) ≡ false → IsNowhere s.zone t → IsNowhere s.zone u
    → answer_groups s q t ≡ answer_groups s q u

-- An accepted zone without aliases holds no record of CNAME, DNAME, DNSKEY, NSEC3 and NSEC3PARAM: what it answers for a reserved type of
-- which it holds none is its answer for these (RFC 6895, 3.1).
abbrev pub SynthesizedAnsweredAlike : Type 0
SynthesizedAnsweredAlike =
    (hasher : Hasher) (apex : Name) (mode : Mode) (limit : ℕ) (rs : List HandedRr) (hash : Name → List ℕ) (q : Name) (t : ℕ)
    → IsAccepted hasher apex mode limit rs → list_any (λ (r : HandedRr). r.rtype == 65535) rs ≡ false → among (5 ∷ 39 ∷ 48 ∷ 50 ∷ 51 ∷ []) t ≡ true
    → answer_groups (served_of apex mode hash (sorted_records rs)) q t ≡ answer_groups (served_of apex mode hash (sorted_records rs)) q 65535

-- no record is of a type
abbrev pub holds_none : List HandedRr → ℕ → Bool
holds_none rs t = not (list_any (λ (r : HandedRr). r.rtype == t) rs)

-- A zone with aliases holds no record of DNSKEY, NSEC3 and NSEC3PARAM, and perhaps none of CNAME or of DNAME: what it answers for a
-- reserved type of which it holds none is its answer for these.
abbrev pub SynthesizedAnsweredAlikeWithAliases : Type 0
SynthesizedAnsweredAlikeWithAliases =
    (hasher : Hasher) (apex : Name) (mode : Mode) (limit : ℕ) (rs : List HandedRr) (hash : Name → List ℕ) (q : Name) (t : ℕ)
    → IsAcceptedWithAliases hasher apex mode limit rs → holds_none rs 65535 ≡ true
    → (among (48 ∷ 50 ∷ 51 ∷ []) t || (is_alias_type t && holds_none rs t)) ≡ true
    → answer_groups (served_of apex mode hash (sorted_records rs)) q t ≡ answer_groups (served_of apex mode hash (sorted_records rs)) q 65535
