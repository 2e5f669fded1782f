-- Journals: the state that lines give, and why a journal is not opened.
use Rattle.std.specs.Prelude.{◌≡◌, ℕ, ◌+◌, ◌<◌, ◌≤◌, ◌==◌, Bool, true, false, List, [], ◌∷◌, ◌++◌, length, take, map, Option, Some, None, if◌then◌else◌}
use Rattle.std.specs.Str.{is_utf8}
use Rattle.messages.specs.HandedRr.{HandedRr, handed_of}
use Rattle.answer_terms.specs.Hashing.{Hasher}
use Rattle.answer_zone_records.specs.AliasFaults.{IsAcceptedWithAliases, RefusesZoneWithAliases}
use Rattle.session_grammar.specs.Grammar.{◌>>=◌, ZoneLine, zone_line}
use Rattle.session_grammar.specs.Lines.{is_passed_over}
use Rattle.session_grammar.specs.Readings.{zone_view}
use Rattle.session_grammar.specs.Sessions.{fields_of}
use Rattle.session_grammar.specs.declared.line_error.LineFault.TheVariants.{NoZone}
use Rattle.server_zone.specs.Lines.{unfinished, whole_lines}
use Rattle.server_zone.specs.StateLines.{StateLine, Nothing, Added, Replaced, state_line}
use Rattle.server_zone.specs.States.{Digest, HoldsZone, IsMemory, OfLine, RefusesLine, RefusesTo, State, after, applied_line, made, state_of}
use Rattle.server_zone.specs.declared.refusals.OpenError.{OpenError}
use Rattle.server_zone.specs.declared.refusals.Refusal.{Refusal}
use Rattle.server_zone.specs.declared.refusals.Refusal.TheVariants as refusal
use Rattle.server_zone.specs.declared.open_zone.Zone.{Zone}
use Rattle.server_zone.specs.declared.opening.Phase.{Phase as CodePhase}
use Rattle.server_zone.specs.declared.opening.Phase.TheVariants as code

-- no line of a zone yet; the zone's line and its own records so far; an event stands behind these
pub data Phase : Type 0 where
  Empty : Phase
  Beginning : ZoneLine → List HandedRr → Phase
  Running : State → Phase

abbrev pub phase_view : {S H : Type 0} → CodePhase S H → Phase
phase_view code.Empty = Empty
phase_view (code.Beginning z rs) = Beginning (zone_view z) (map handed_of rs.items)
phase_view (code.Running z) = Running (state_of z)

-- the line of the zone, where none stands yet
abbrev pub first_line : List ℕ → Option Phase
first_line line = if is_passed_over line then Some Empty else if is_utf8 line then (zone_line (fields_of line) >>= λ z. Some (Beginning z [])) else None

abbrev pub ran : Option State → Option Phase
ran (Some s) = Some (Running s)
ran None = None

-- a line where the zone's own records stand: one more of these, or the first event
abbrev pub own_line : Digest → ZoneLine → List HandedRr → StateLine → Option Phase
own_line digest z rs Nothing = Some (Beginning z rs)
own_line digest z rs (Added r) = Some (Beginning z (rs ++ r ∷ []))
own_line digest z rs l = ran (after digest l (made z rs))

abbrev pub with_own : Digest → ZoneLine → List HandedRr → List ℕ → Option Phase
with_own digest z rs line = state_line line >>= λ l. own_line digest z rs l

-- a line more
abbrev pub with_line : Digest → Phase → List ℕ → Option Phase
with_line digest Empty line = first_line line
with_line digest (Beginning z rs) line = with_own digest z rs line
with_line digest (Running s) line = ran (applied_line digest s line)

abbrev pub with_lines : Digest → Phase → List (List ℕ) → Option Phase
with_lines digest p [] = Some p
with_lines digest p (l ∷ ls) = with_line digest p l >>= λ q. with_lines digest q ls

-- whether no records are gathered for a replacement
abbrev pub is_settled : Phase → Bool
is_settled Empty = true
is_settled (Beginning z rs) = true
is_settled (Running s) = length s.gathered == 0

-- the state at the end of the lines
abbrev pub ended : Phase → Option State
ended Empty = None
ended (Beginning z rs) = Some (made z rs)
ended (Running s) = Some s

-- the state that lines give, where each of them is accepted
abbrev pub state_behind : Digest → List (List ℕ) → Option State
state_behind digest ls = with_lines digest Empty ls >>= λ p. ended p

-- the state that a journal gives: that of its lines that are whole
abbrev pub journal_state : Digest → List ℕ → Option State
journal_state digest text = state_behind digest (whole_lines text)

-- ---- which lines are accepted

-- the records of a replacement make a zone; of other lines nothing is asked
abbrev pub IsFit : Hasher → State → StateLine → Type 0
IsFit hash s (Replaced at) = IsAcceptedWithAliases hash s.zone.apex s.zone.mode s.zone.limit s.gathered
IsFit hash s _ = Unit {0}

-- where the zone's own records stand, these make a zone, which the first event is applied to
abbrev pub IsOwnFit : Hasher → ZoneLine → List HandedRr → StateLine → Type 0
IsOwnFit hash z rs Nothing = Unit {0}
IsOwnFit hash z rs (Added r) = Unit {0}
IsOwnFit hash z rs l = IsAcceptedWithAliases hash z.apex z.mode z.limit rs × IsFit hash (made z rs) l

abbrev pub IsLineFit : Hasher → Phase → List ℕ → Type 0
IsLineFit hash Empty line = Unit {0}
IsLineFit hash (Beginning z rs) line = OfLine (IsOwnFit hash z rs) (state_line line)
IsLineFit hash (Running s) line = OfLine (IsFit hash s) (state_line line)

-- the same at the end of the lines, where a zone is to stand
abbrev pub IsEndFit : Hasher → Phase → Type 0
IsEndFit hash Empty = ⊥
IsEndFit hash (Beginning z rs) = IsAcceptedWithAliases hash z.apex z.mode z.limit rs
IsEndFit hash (Running s) = Unit {0}

-- lines that are accepted, one after another, lead from one phase to another
abbrev pub Leads : Digest → Hasher → Phase → List (List ℕ) → Phase → Type 0
Leads digest hash p [] q = q ≡ p
Leads digest hash p (l ∷ ls) q = (r : Phase) × (with_line digest p l ≡ Some r) × IsLineFit hash p l × Leads digest hash r ls q

-- a journal whose whole lines are accepted, and give a state
pub record IsJournalOf (digest : Digest) (hash : Hasher) (text : List ℕ) (s : State) : Type 0 where
  pub phase : Phase
  pub leads : Leads digest hash Empty (whole_lines text) phase
  pub ends : ended phase ≡ Some s
  pub fit : IsEndFit hash phase

-- ---- opening

-- a zone of this scheme and this hasher, of accepted records, that gave no answer yet
pub record IsFresh {S H : Type 0} (hash : Hasher) (scheme : S) (hasher : H) (z : Zone S H) : Type 0 where
  pub scheme_is : z.publisher.scheme.now ≡ scheme
  pub hasher_is : z.publisher.zone.hasher ≡ hasher
  pub unanswered : z.publisher.latest ≡ None
  pub holds : HoldsZone hash z

abbrev pub IsOpening : {S H : Type 0} → Hasher → S → H → CodePhase S H → Type 0
IsOpening hash scheme hasher (code.Running z) = IsFresh hash scheme hasher z
IsOpening hash scheme hasher _ = Unit {0}

-- whether the line of a zone stands
abbrev pub is_there : Phase → Bool
is_there Empty = false
is_there (Beginning z rs) = true
is_there (Running s) = true

-- a journal that is cut at this octet gives a state in which no records are gathered
abbrev pub IsSettledAt : Digest → List ℕ → ℕ → Type 0
IsSettledAt digest text at = (s : State) × (journal_state digest (take at text) ≡ Some s) × (s.gathered ≡ [])

-- none of the lines that end behind an octet, up to another, ends where this is so
abbrev pub NoneSettledBehind : Digest → List ℕ → ℕ → ℕ → Type 0
NoneSettledBehind digest text at whole = (n : ℕ) → at < n → n ≤ whole → unfinished (take n text) ≡ [] → IsSettledAt digest text n → ⊥

-- A front of a journal was read, so many lines, up to a phase; the phase at an octet in it was the last in which no records were
-- gathered.
pub record HasRead {S H : Type 0} (digest : Digest) (hash : Hasher) (scheme : S) (hasher : H) (journal rest : List ℕ) (phase : CodePhase S H) (number settled : ℕ) : Type 0 where
  pub front : List ℕ
  pub text_is : journal ≡ front ++ rest
  pub whole : unfinished front ≡ []
  pub accepted : Leads digest hash Empty (whole_lines front) (phase_view phase)
  pub kept : IsOpening hash scheme hasher phase
  pub number_is : number ≡ length (whole_lines front)
  pub counted : number + length rest ≤ length journal
  pub settled_in : settled + length rest ≤ length journal
  pub last : Phase
  pub last_accepted : with_lines digest Empty (whole_lines (take settled journal)) ≡ Some last
  pub last_settled : is_settled last ≡ true
  pub last_there : is_there (phase_view phase) ≡ true → is_there last ≡ true
  pub all_settled : is_settled (phase_view phase) ≡ true → settled + length rest ≡ length journal
  pub none_behind : (n : ℕ) → settled < n → n + length rest ≤ length journal → unfinished (take n journal) ≡ []
      → (q : Phase) → with_lines digest Empty (whole_lines (take n journal)) ≡ Some q → is_settled q ≡ false

-- ---- why a journal is not opened

-- why a line is refused where no zone's line stands
abbrev pub RefusesFirst : List ℕ → Refusal → Type 0
RefusesFirst line refusal.Memory = Unit {0}
RefusesFirst line (refusal.Unreadable f) = first_line line ≡ None
RefusesFirst line f = ⊥

-- why it is refused where the zone's own records stand, which the first event takes together: no answer was given, so no
-- replacement comes too soon
abbrev pub RefusesOwn : Digest → Hasher → ZoneLine → List HandedRr → StateLine → Refusal → Type 0
RefusesOwn digest hash z rs Nothing f = IsMemory f
RefusesOwn digest hash z rs (Added r) f = IsMemory f
RefusesOwn digest hash z rs l (refusal.Zone f) = RefusesZoneWithAliases hash z.apex z.mode z.limit rs f
RefusesOwn digest hash z rs l f = RefusesTo digest hash None (made z rs) l f

abbrev pub RefusesBeginning : Digest → Hasher → ZoneLine → List HandedRr → List ℕ → Refusal → Type 0
RefusesBeginning digest hash z rs line refusal.Memory = Unit {0}
RefusesBeginning digest hash z rs line (refusal.Unreadable f) = state_line line ≡ None
RefusesBeginning digest hash z rs line f = OfLine (λ l. RefusesOwn digest hash z rs l f) (state_line line)

-- why a line is refused behind a phase
abbrev pub RefusesBehind : Digest → Hasher → Phase → List ℕ → Refusal → Type 0
RefusesBehind digest hash Empty line f = RefusesFirst line f
RefusesBehind digest hash (Beginning z rs) line f = RefusesBeginning digest hash z rs line f
RefusesBehind digest hash (Running s) line f = RefusesLine digest hash None s line f

-- why there is no zone at the end of the lines
abbrev pub RefusesEnd : Hasher → Phase → Refusal → Type 0
RefusesEnd hash Empty (refusal.Unreadable NoZone) = Unit {0}
RefusesEnd hash (Beginning z rs) (refusal.Zone f) = RefusesZoneWithAliases hash z.apex z.mode z.limit rs f
RefusesEnd hash p f = ⊥

-- why nothing follows: the first of the lines is refused, or there is none, and no zone
abbrev pub RefusesLines : Digest → Hasher → Phase → Refusal → List (List ℕ) → Type 0
RefusesLines digest hash p f [] = RefusesEnd hash p f
RefusesLines digest hash p f (line ∷ lines) = RefusesBehind digest hash p line f

-- The lines up to some front of a journal are accepted. Behind it a whole line is refused, or there is none.
pub record IsOpenError (digest : Digest) (hash : Hasher) (text : List ℕ) (e : OpenError) : Type 0 where
  pub front : List ℕ
  pub rest : List ℕ
  pub phase : Phase
  pub text_is : text ≡ front ++ rest
  pub whole : unfinished front ≡ []
  pub accepted : with_lines digest Empty (whole_lines front) ≡ Some phase
  pub number : e.number ≡ length (whole_lines front) + 1
  pub refused : RefusesLines digest hash phase e.reason (whole_lines rest)
