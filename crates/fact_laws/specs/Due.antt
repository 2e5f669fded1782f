-- The facts that an answer must have so that they decide.
use Rattle.std.specs.Prelude.{◌≡◌, ℕ, ◌<◌, false, List, [], ◌∷◌, Some}
use Rattle.definitions.specs.Name.{Name, low}
use Rattle.definitions.specs.Zone.{Open, StarRecords, Verdict, Zone, verdict}
use Rattle.definitions.specs.ZoneChain.{Mode, optout_of}
use Rattle.denial_laws.specs.Deciding.{decided}
use Rattle.denial_laws.specs.Facts.{Facts}
use Rattle.denial_laws.specs.OwnFacts.{kept_ancestor, next_closer, own_facts, own_hash_links, own_links, own_rrset, spoken}
use Rattle.denial_laws.specs.Truth.{IsServable, NoSharedHash}
use Rattle.fact_laws.specs.Laws.{Includes}

-- The names that the proof of a verdict must speak of, beside the verdict without opt-out: beside a wildcard's RRset that opt-out leaves
-- open the next closer name alone (RFC 5155, 7.2.6).
abbrev pub due_names : Zone → Mode → Name → Verdict → Verdict → List Name
due_names z mode q (StarRecords ds) Open = next_closer (kept_ancestor z (optout_of mode) q) q ∷ []
due_names z mode q told v = spoken z mode q told v

-- those of a zone's own answer that must be there
abbrev pub due_facts : Zone → (Name → List ℕ) → Mode → Name → ℕ → Facts
due_facts z hash mode q t =
    let v = verdict z (optout_of mode) q t in
    let qs = due_names z mode (low q) (verdict z false q t) v in
    record { rrset = own_rrset z q t v; links = own_links z mode qs; hash_links = own_hash_links z hash mode qs }

-- a zone's own answer has them
abbrev pub OwnIncludesDue : Type 0
OwnIncludesDue = (z : Zone) (hash : Name → List ℕ) (mode : Mode) (q : Name) (t : ℕ) → Includes (own_facts z hash mode q t) (due_facts z hash mode q t)

-- and where that decides the zone's verdict, they do
abbrev pub DueFactsDecide : Type 0
DueFactsDecide =
    (z : Zone) (hash : Name → List ℕ) (mode : Mode) (q : Name) (t : ℕ)
    → IsServable z → NoSharedHash z hash mode q → t < 65536
    → decided z.name hash (own_facts z hash mode q t) q t ≡ Some (verdict z (optout_of mode) q t)
    → decided z.name hash (due_facts z hash mode q t) q t ≡ Some (verdict z (optout_of mode) q t)
