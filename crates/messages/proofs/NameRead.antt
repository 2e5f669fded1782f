-- Names of a message, and names of octets without pointers, by what is read of them.
use Rattle.std.proofs.Common.{◌≡◌, inl, inr, ℕ, ◌<◌, ◌≤◌, List, [], length, refl, ap, subst, ◌∙◌, Ok, Err, Result, arith}
use Rattle.std.specs.Prelude.{IsErr, None}
use Rattle.std.specs.Result.{is_err, result_ok}
use Rattle.std.proofs.lemmas.Option.{slice_get_past}
use Rattle.std.proofs.lemmas.Bool.{false≢true}
use Rattle.definitions.specs.Name.{Name, wire_len}
use Rattle.definitions.specs.Reading.{Reads, root, label, pointer, pointers_of, ReadFault, Short, name_at}
use Rattle.definitions.specs.Limits.{pointer_limit}
use Rattle.definitions.proofs.ReadingLaws.{reads_exactly, pointers_few, ends_within, ends_once}
use Rattle.names_parser.specs.Reader.{Reader}
use Rattle.names_parser.specs.declared.error.ParseError.{ParseError}
use Rattle.names_parsed.specs.Standing.{Stands}
use Rattle.names_parsed.specs.Parsed.{ReadsName, NoName, StopsAt, HasPointers, HasNoPointers, parsed_name, message_of, place_of}
use Rattle.names_parsed.specs.Heads as heads
use Rattle.names_parsed.specs.declared.parsed.ParsedName.{ParsedName}
use Rattle.names_parsed.proofs.HeadSteps.{onto, onto_start, step_short}
use Rattle.names_parsed.proofs.Inversion.{limit_fits, more_pointers}
use Rattle.messages.specs.declared.error.MessageError.{MessageError}
use Rattle.messages.specs.declared.error.MessageError.TheVariants.{ShortInput}
use Rattle.messages.specs.Message.{fault_of, owner_at}
use Rattle.messages.specs.View.{message_error}

abbrev faulted : Result (Name × ℕ) ReadFault → Result (Name × ℕ) MessageError
faulted r = elim r [ Ok r ↦ Ok r | Err f ↦ Err (fault_of f) ]

pub owner_found : (k : ℕ) (m : List ℕ) (p : ℕ) (n : Name × ℕ) → name_at k m p ≡ Ok n → owner_at k m p ≡ Ok n
unfolding owner_at
owner_found k m p n h = ap faulted h

pub owner_none : (k : ℕ) (m : List ℕ) (p : ℕ) (f : ReadFault) → name_at k m p ≡ Err f → owner_at k m p ≡ Err (fault_of f)
unfolding owner_at
owner_none k m p f h = ap faulted h

pub owner_reads : (k : ℕ) (m : List ℕ) (p : ℕ) (n : Name) (e : ℕ) → Reads m p k n e → wire_len n ≤ 255 → owner_at k m p ≡ Ok (n, e)
owner_reads k m p n e r short = owner_found k m p (n, e) ((reads_exactly m p k n e).1 (r, short))

-- ---- a name of a message

-- the octets from their front on, read from a place
abbrev pub front : List ℕ → ℕ → Reader
front m p = record { octets = m; place = p; end = length m }

pub sought : (m : List ℕ) (p : ℕ) (whole new : Reader) → whole ≡ front m 0 → new ≡ record whole { place = p } → new ≡ front m p
sought m p whole new e h =
    let placed : record whole { place = p } ≡ front m p = λ i. record (e i) { place = p } in
    h ∙ placed

-- where a name was read, the definition reads the same
pub record Read (m : List ℕ) (p : ℕ) (n : Name) (e : ℕ) : Type 0 where
  pub owner : owner_at pointer_limit m p ≡ Ok (n, e)
  pub inside : e ≤ length m
  pub before : p < e

standing_read : (m : List ℕ) (p : ℕ) (n : Name) (e : ℕ) → Stands m p n e → Read m p n e
standing_read m p n e s =
    let ends = ends_within s.reads in
    record { owner = owner_reads pointer_limit m p n e s.reads s.short; inside = ends.1; before = ends.0 }

pub was_read : (m : List ℕ) (p : ℕ) (old new : Reader) (n : ParsedName) → old ≡ front m p → ReadsName old new n → Read m p (parsed_name n) new.place
was_read m p old new n e r = let s = subst (λ o. ReadsName o new n) e r in standing_read m p (parsed_name n) new.place s.stands

-- where it was refused, the definition stops for the same reason
pub was_refused : (m : List ℕ) (p : ℕ) (old : Reader) (e : ParseError) → old ≡ front m p → StopsAt old e → owner_at pointer_limit m p ≡ Err (message_error e)
was_refused m p old e f h = go (subst (λ o. StopsAt o e) f h)
  where
    go : StopsAt (front m p) e → owner_at pointer_limit m p ≡ Err (message_error e)
    go (inl s) = owner_none pointer_limit m p (heads.fault_of e) s
    go (inr s) = absurd (omega (arith, s.3, (ends_within ((reads_exactly m p pointer_limit s.0 s.1).0 s.2).0).1))

-- nothing is read behind the octets
past : (m : List ℕ) (p : ℕ) → length m ≤ p → name_at pointer_limit m p ≡ Err Short
past m p h = onto_start m p ∙ ap (onto []) (step_short 255 255 m p (slice_get_past m p h))

pub past_all : (m : List ℕ) (p : ℕ) → length m ≤ p → owner_at pointer_limit m p ≡ Err ShortInput
past_all m p h = owner_none pointer_limit m p Short (past m p h)

-- ---- a name without pointers

without : {m : List ℕ} {p k b : ℕ} {ls : Name} → (r : Reads m p k ls b) → pointers_of r ≡ 0 → Reads m p 0 ls b
without (root h e) z = root h e
without (label h a b c d e r) z = label h a b c d e (without r z)
without (pointer h a b c d e r) z = absurd (omega (arith, z))

-- a name read through no pointer
pub was_flat : (m : List ℕ) (p : ℕ) (old new : Reader) (n : ParsedName) → old ≡ front m p → ReadsName old new n → HasNoPointers (message_of n) (place_of n) → owner_at 0 m p ≡ Ok (parsed_name n, new.place)
was_flat m p old new n e r h =
    let read = subst (λ o. ReadsName o new n) e r in
    let s = read.stands in
    let alone : HasNoPointers m p = subst (HasNoPointers m) read.place (subst (λ o. HasNoPointers o (place_of n)) read.message h) in
    let same = (ends_once m).pointers p pointer_limit pointer_limit _ _ _ _ s.reads alone.2 in
    owner_reads 0 m p (parsed_name n) new.place (without s.reads (same ∙ alone.3)) s.short

none_stands : (m : List ℕ) (p : ℕ) → ((n : Name) (e : ℕ) → Stands m p n e → ⊥) → IsErr (owner_at 0 m p)
none_stands m p none = go (name_at 0 m p) refl
  where
    go : (r : Result (Name × ℕ) ReadFault) → name_at 0 m p ≡ r → IsErr (owner_at 0 m p)
    go (Ok n) h =
        let s = (reads_exactly m p 0 n.0 n.1).0 h in
        absurd (none n.0 n.1 (record { reads = more_pointers s.0 pointer_limit limit_fits; short = s.1 }))
    go (Err f) h = ap is_err (owner_none 0 m p f h)

-- a refused one has none
pub flat_refused : (m : List ℕ) (p : ℕ) (old : Reader) → old ≡ front m p → NoName old → IsErr (owner_at 0 m p)
flat_refused m p old e none = none_stands m p (λ n b s. subst NoName e none n b s (ends_within s.reads).1)

pub flat_past : (m : List ℕ) (p : ℕ) → length m ≤ p → IsErr (owner_at 0 m p)
flat_past m p h = none_stands m p (λ n e s. absurd (omega (arith, h, ends_within s.reads)))

-- nor has one through pointers
pub flat_pointers : (m : List ℕ) (p : ℕ) (old new : Reader) (n : ParsedName) → old ≡ front m p → ReadsName old new n → HasPointers (message_of n) (place_of n) → IsErr (owner_at 0 m p)
flat_pointers m p old new n e r h = go (name_at 0 m p) refl
  where
    read : ReadsName (front m p) new n
    read = subst (λ o. ReadsName o new n) e r

    through : HasPointers m p
    through = subst (HasPointers m) read.place (subst (λ o. HasPointers o (place_of n)) read.message h)

    go : (r : Result (Name × ℕ) ReadFault) → name_at 0 m p ≡ r → IsErr (owner_at 0 m p)
    go (Ok k) f =
        let s = (reads_exactly m p 0 k.0 k.1).0 f in
        absurd (omega (arith, (ends_once m).pointers p 0 pointer_limit _ _ _ _ s.0 through.2, pointers_few s.0, through.3))
    go (Err x) f = ap is_err (owner_none 0 m p x f)

-- so no name is read
pub no_owner : (m : List ℕ) (p : ℕ) → IsErr (owner_at 0 m p) → None ≡ result_ok (owner_at 0 m p)
no_owner m p h = go (owner_at 0 m p) h
  where
    go : (r : Result (Name × ℕ) MessageError) → IsErr r → None ≡ result_ok r
    go (Ok n) k = absurd (false≢true k)
    go (Err e) k = refl
