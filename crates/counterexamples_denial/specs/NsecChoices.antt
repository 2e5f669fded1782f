-- The rules on NSEC records, with choices. What no choice concerns is that of `denial_laws`.
use Rattle.std.specs.Prelude.{ℕ, Bool, true, false, not, ◌&&◌, ◌||◌, ◌==◌, List, [], ◌∷◌, Option, Some, None}
use Rattle.definitions.specs.Name.{Name, low, same, strictly_above, wire}
use Rattle.definitions.specs.Covering.{before, octets_before}
use Rattle.definitions.specs.Bitmap.{bitmap_has}
use Rattle.definitions.specs.Zone.{Verdict, NoType, NoName, StarRecords, StarNoType, Delegated, star_under}
use Rattle.denial_laws.specs.Facts.{Rrset, Link}
use Rattle.denial_laws.specs.NsecRules.{first_some, or_else, has_nxname, is_bare, has_more, first_below, denies, is_cut, redirects, below_cut, closest, encloses_at}
use Rattle.counterexamples_denial.specs.Choices.{Choices}

-- a matching record proves a type missing
abbrev pub lacks_with : Choices → List ℕ → ℕ → Bool
lacks_with c bits t = not (bitmap_has bits t) && elim c.aliases [ true ↦ not (bitmap_has bits 5) | false ↦ true ]

abbrev pub star_lacks_with : Choices → List ℕ → ℕ → Bool
star_lacks_with c bits t = lacks_with c bits t && ((t == 43) || not (bitmap_has bits 2))

-- the record is a delegation's, and another type than DS is asked for
abbrev pub delegates_with : Choices → Name → Name → ℕ → List ℕ → Bool
delegates_with c apex q t bits = elim c.child_types [ true ↦ is_cut apex q bits && not (t == 43) | false ↦ false ]

abbrev pub at_name_with : Choices → Name → Name → ℕ → List ℕ → Option Verdict
at_name_with c apex q t bits = elim (delegates_with c apex q t bits) [
  | true ↦ Some Delegated
  | false ↦ elim (lacks_with c bits t) [ true ↦ Some NoType | false ↦ None ]
]

-- a record of the name denies it
abbrev pub denies_with : Choices → Name → Link → Option Verdict
denies_with c q f = elim c.denied_names [ true ↦ denies q f | false ↦ None ]

-- the next name is below the owner, as an empty non-terminal has it
abbrev pub leads_first : Choices → Link → Bool
leads_first c f = elim c.first_names [ true ↦ same f.next (first_below f.owner) | false ↦ strictly_above f.owner f.next ]

-- a record tells of its own name
abbrev pub tells_with : Choices → Link → Bool
tells_with c f = elim c.made_up_names [ true ↦ has_more f.bits || leads_first c f | false ↦ true ]

abbrev pub at_owner_with : Choices → Name → Name → ℕ → Link → Option Verdict
at_owner_with c apex q t f = elim (same f.owner q && tells_with c f) [ true ↦ at_name_with c apex q t f.bits | false ↦ None ]

-- a record of the wildcard speaks for it
abbrev pub speaks_with : Choices → List ℕ → Bool
speaks_with c bits = elim c.made_up_wildcards [ true ↦ not (is_bare bits) | false ↦ true ] && elim c.denied_wildcards [ true ↦ not (has_nxname bits) | false ↦ true ]

-- the order of the wire form's octets, from the left, letters lowered
abbrev pub wire_before : Name → Name → Bool
wire_before a b = octets_before (wire (low a)) (wire (low b))

abbrev pub before_with : Choices → Name → Name → Bool
before_with c a b = elim c.canonical_order [ true ↦ before a b | false ↦ wire_before a b ]

abbrev pub covers_with : Choices → Name → Name → Name → Name → Bool
covers_with c apex owner next q = before_with c owner q && (same next apex || before_with c q next)

abbrev pub redirects_with : Choices → Name → Link → Bool
redirects_with c q f = elim c.redirections [ true ↦ redirects q f | false ↦ false ]

abbrev pub link_covers_with : Choices → Name → Link → Name → Bool
link_covers_with c apex f q = covers_with c apex f.owner f.next q && not (redirects_with c q f)

-- the next name is below the name
abbrev pub leads_below : Choices → Name → Link → Bool
leads_below c q f = elim c.non_terminals [ true ↦ strictly_above q f.next | false ↦ false ]

abbrev pub at_star_with : Choices → Name → Name → ℕ → Link → Option Verdict
at_star_with c apex s t f = elim (same f.owner s) [
  | true ↦ elim (star_lacks_with c f.bits t && speaks_with c f.bits) [ true ↦ Some StarNoType | false ↦ None ]
  | false ↦ elim (link_covers_with c apex f s) [
    | true ↦ elim (leads_below c s f) [ true ↦ Some StarNoType | false ↦ Some NoName ]
    | false ↦ None
  ]
]

-- a record whose owner is to be an ancestor that exists: with an address in its bits
abbrev pub encloser_of : Choices → Link → Link
encloser_of c f = elim c.made_up_enclosers [ true ↦ f | false ↦ record f { bits = 0 ∷ 1 ∷ 64 ∷ [] } ]

abbrev pub closest_with : Choices → Link → Name → Option Name
closest_with c f q = closest (encloser_of c f) q

-- what the wildcard decides
abbrev pub star_with : Choices → Name → Name → ℕ → List Link → Link → Option Verdict
star_with c apex q t fs f = elim (closest_with c f q) [ None ↦ None | Some e ↦ first_some (at_star_with c apex (star_under e) t) fs ]

abbrev pub covered_with : Choices → Name → Name → ℕ → List Link → Link → Option Verdict
covered_with c apex q t fs f = elim (link_covers_with c apex f q) [
  | true ↦ elim (leads_below c q f) [
    | true ↦ Some NoType
    | false ↦ elim c.wildcards [ true ↦ star_with c apex q t fs f | false ↦ Some NoName ]
  ]
  | false ↦ None
]

abbrev pub below_cut_with : Choices → Name → Name → List Link → Option Verdict
below_cut_with c apex q fs = elim c.delegations [ true ↦ first_some (below_cut apex q) fs | false ↦ None ]

abbrev pub denied_with : Choices → Name → Name → ℕ → List Link → Option Verdict
denied_with c apex q t fs =
    or_else (first_some (denies_with c q) fs)
    (or_else (first_some (at_owner_with c apex q t) fs) (or_else (below_cut_with c apex q fs) (first_some (covered_with c apex q t fs) fs)))

-- the RRset's label count is that of the closest encloser
abbrev pub count_fits : Choices → Name → Rrset → Link → Bool
count_fits c q r f = elim c.label_counts [ true ↦ encloses_at r.labels (closest_with c f q) | false ↦ true ]

abbrev pub expanded_by_with : Choices → Name → Name → Rrset → Link → Option Verdict
expanded_by_with c apex q r f = elim (link_covers_with c apex f q && not (leads_below c q f) && count_fits c q r f) [
  | true ↦ Some (StarRecords r.datas)
  | false ↦ None
]

abbrev pub expanded_with : Choices → Name → Name → Rrset → List Link → Option Verdict
expanded_with c apex q r fs = first_some (expanded_by_with c apex q r) fs
