-- What facts prove by rules with choices, and the rules that make one choice wrongly.
use Rattle.std.specs.Prelude.{ℕ, true, false, List, [], ◌∷◌, Option, Some, None}
use Rattle.definitions.specs.Name.{Name, at_or_above}
use Rattle.definitions.specs.Zone.{Verdict, Records, Open}
use Rattle.denial_laws.specs.Facts.{Rrset, Facts, is_expanded}
use Rattle.counterexamples_denial.specs.Choices.{Rule, Choices, right}
use Rattle.counterexamples_denial.specs.NsecChoices.{denied_with, expanded_with}
use Rattle.counterexamples_denial.specs.Nsec3Choices.{hash_denied_with, hash_expanded_with}

abbrev pub by_chain_with : Choices → Rule
by_chain_with c apex hash f q t = elim f.hash_links [
  | [] ↦ denied_with c apex q t f.links
  | _ ∷ _ ↦ hash_denied_with c apex hash q t f.hash_links
]

abbrev pub by_wildcard_with : Choices → Name → (Name → List ℕ) → Facts → Rrset → Name → Option Verdict
by_wildcard_with c apex hash f r q = elim f.hash_links [
  | [] ↦ expanded_with c apex q r f.links
  | _ ∷ _ ↦ hash_expanded_with c hash q r f.hash_links
]

abbrev pub decided_inside_with : Choices → Rule
decided_inside_with c apex hash f q t = elim f.rrset [
  | None ↦ by_chain_with c apex hash f q t
  | Some r ↦ elim (is_expanded r q) [ false ↦ Some (Records r.datas) | true ↦ by_wildcard_with c apex hash f r q ]
]

abbrev pub inside_with : Choices → Rule
inside_with c apex hash f q t = elim (at_or_above apex q) [ true ↦ decided_inside_with c apex hash f q t | false ↦ None ]

abbrev pub decided_with : Choices → Rule
decided_with c apex hash f q t = elim c.facts [ true ↦ inside_with c apex hash f q t | false ↦ Some Open ]

-- ---- one choice made wrongly

abbrev pub all_open : Rule
all_open = decided_with (record right { facts = false })

abbrev pub without_delegations : Rule
without_delegations = decided_with (record right { delegations = false })

abbrev pub without_child_types : Rule
without_child_types = decided_with (record right { child_types = false })

abbrev pub without_wildcards : Rule
without_wildcards = decided_with (record right { wildcards = false })

abbrev pub without_label_counts : Rule
without_label_counts = decided_with (record right { label_counts = false })

abbrev pub by_wire_octets : Rule
by_wire_octets = decided_with (record right { canonical_order = false })

abbrev pub without_non_terminals : Rule
without_non_terminals = decided_with (record right { non_terminals = false })

abbrev pub without_opt_out : Rule
without_opt_out = decided_with (record right { opt_out = false })

abbrev pub without_denied_names : Rule
without_denied_names = decided_with (record right { denied_names = false })

abbrev pub without_denied_wildcards : Rule
without_denied_wildcards = decided_with (record right { denied_wildcards = false })

abbrev pub without_made_up_enclosers : Rule
without_made_up_enclosers = decided_with (record right { made_up_enclosers = false })

abbrev pub without_made_up_names : Rule
without_made_up_names = decided_with (record right { made_up_names = false })

abbrev pub without_first_names : Rule
without_first_names = decided_with (record right { first_names = false })

abbrev pub without_made_up_wildcards : Rule
without_made_up_wildcards = decided_with (record right { made_up_wildcards = false })

abbrev pub without_aliases : Rule
without_aliases = decided_with (record right { aliases = false })

abbrev pub without_redirections : Rule
without_redirections = decided_with (record right { redirections = false })

-- ---- no rule at all

abbrev pub nothing : Rule
nothing apex hash f q t = None
