-- The choices that a rule of denial makes: each can be made rightly or not.
use Rattle.std.specs.Prelude.{ℕ, Bool, true, List, Option}
use Rattle.definitions.specs.Name.{Name}
use Rattle.definitions.specs.Zone.{Verdict}
use Rattle.denial_laws.specs.Facts.{Facts}

-- what is made of facts: beside an apex and a hash, of a name and a type
abbrev pub Rule : Type 0
Rule = Name → (Name → List ℕ) → Facts → Name → ℕ → Option Verdict

-- Each is made rightly where it is true.
pub record Choices : Type 0 where
  -- the facts are looked at; otherwise every name is left open
  pub facts : Bool
  -- a delegation above a name decides before what covers the name (RFC 6840, 4.1); otherwise it is passed over
  pub delegations : Bool
  -- a delegation's record proves of its own name nothing but of DS (RFC 6840, 4.1); otherwise that any type is missing
  pub child_types : Bool
  -- the wildcard decides of a name that is covered (RFC 4035, 5.4; RFC 5155, 8.4); otherwise the name is missing at once
  pub wildcards : Bool
  -- A wildcard's RRset speaks from the closest encloser alone: the label count is compared (RFC 4035, 5.3.4; RFC 5155, 8.8);
  -- otherwise it speaks for each name that is covered.
  pub label_counts : Bool
  -- an NSEC record covers what lies between its names in canonical order (RFC 4034, 6.1); otherwise in that of wire octets
  pub canonical_order : Bool
  -- a name that an NSEC record covers exists where the next name is below it (RFC 4592, 2.2.2); otherwise it is missing too
  pub non_terminals : Bool
  -- a gap under opt-out proves nothing (RFC 5155, 6); otherwise the flag is passed over
  pub opt_out : Bool
  -- a record of the name with NXNAME in its bits denies the name (RFC 9824, 3); otherwise each type that its bits lack
  pub denied_names : Bool
  -- a record of the wildcard with NXNAME in its bits does not speak for it (RFC 9824, 3); otherwise it denies a type there
  pub denied_wildcards : Bool
  -- an owner with RRSIG and NSEC at most is no ancestor that exists (RFC 4470, 3); otherwise it may be the closest encloser
  pub made_up_enclosers : Bool
  -- a record of the name with RRSIG and NSEC at most proves no type missing, unless its next name is below it (RFC 9824, 3.2);
  -- otherwise each
  pub made_up_names : Bool
  -- that next name is the first below, which no record covers a name in front of; otherwise it may be any below
  pub first_names : Bool
  -- a record of the wildcard with RRSIG and NSEC at most does not speak for it (RFC 4470, 3); otherwise it denies each type there
  pub made_up_wildcards : Bool
  -- a record with CNAME in its bits proves no type missing (RFC 6840, 4.3); otherwise each that its bits lack
  pub aliases : Bool
  -- a record with DNAME in its bits proves nothing of the names below it (RFC 6840, 4.1); otherwise that they are missing
  pub redirections : Bool

-- all made rightly
abbrev pub right : Choices
right = record {
  facts = true;
  delegations = true;
  child_types = true;
  wildcards = true;
  label_counts = true;
  canonical_order = true;
  non_terminals = true;
  opt_out = true;
  denied_names = true;
  denied_wildcards = true;
  made_up_enclosers = true;
  made_up_names = true;
  first_names = true;
  made_up_wildcards = true;
  aliases = true;
  redirections = true;
}
