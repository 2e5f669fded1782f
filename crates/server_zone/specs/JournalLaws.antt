-- Laws of journals.
use Rattle.std.specs.Prelude.{◌≡◌, ℕ, true, false, List, [], ◌∷◌, ◌++◌, take, Option, Some}
use Rattle.std.specs.List.{flat_map}
use Rattle.answer_terms.specs.Hashing.{Hasher}
use Rattle.server_zone.specs.Lines.{has_feed, unfinished, whole_lines}
use Rattle.server_zone.specs.Journals.{IsJournalOf, IsOpenError, journal_state, state_behind}
use Rattle.server_zone.specs.Refusals.{is_memory}
use Rattle.server_zone.specs.StateLines.{state_line}
use Rattle.server_zone.specs.States.{Digest, Follows, OfLine, State, applied_line}
use Rattle.server_zone.specs.declared.open_zone.Applied.{Applied}
use Rattle.server_zone.specs.declared.refusals.OpenError.{OpenError}

-- a text is its whole lines, each with its line feed, and what is unfinished, in which no line feed stands
abbrev pub LinesSpellText : Type 0
LinesSpellText = (text : List ℕ) → (text ≡ flat_map (λ l. l ++ 10 ∷ []) (whole_lines text) ++ unfinished text) × (has_feed (unfinished text) ≡ false)

-- A text that is cut at any octet has the first of its lines: those that are whole there.
abbrev pub CutsKeepLines : Type 0
CutsKeepLines = (text : List ℕ) (at : ℕ) → (k : ℕ) × (whole_lines (take at text) ≡ take k (whole_lines text))

-- so its state is that of these
abbrev pub CutsKeepState : Type 0
CutsKeepState = (digest : Digest) (text : List ℕ) (at : ℕ) → (k : ℕ) × (journal_state digest (take at text) ≡ state_behind digest (take k (whole_lines text)))

-- A line that an open zone accepts, behind its journal: that is a journal of the state that the zone has then.
abbrev pub AcceptedLinesExtend : Type 0
AcceptedLinesExtend =
    (digest : Digest) (hash : Hasher) (latest : Option ℕ) (text line : List ℕ) (s t : State) (a : Applied)
    → unfinished text ≡ [] → IsJournalOf digest hash text s → OfLine (λ l. Follows digest hash latest s l a t) (state_line line) → applied_line digest s line ≡ Some t
    → IsJournalOf digest hash (text ++ line ++ 10 ∷ []) t

-- a journal of a state gives that state
abbrev pub JournalsGiveStates : Type 0
JournalsGiveStates = (digest : Digest) (hash : Hasher) (text : List ℕ) (s : State) → IsJournalOf digest hash text s → journal_state digest text ≡ Some s

-- and nothing but want of memory refuses it
abbrev pub JournalsOpenAgain : Type 0
JournalsOpenAgain = (digest : Digest) (hash : Hasher) (text : List ℕ) (s : State) (e : OpenError) → IsJournalOf digest hash text s → IsOpenError digest hash text e → is_memory e.reason ≡ true
