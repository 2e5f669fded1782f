-- Parts of data, by the calls that read them.
use Rattle.std.proofs.Common.{◌≡◌, ℕ, ◌+◌, ◌-◌, ◌≤◌, ◌<◌, inl, inr, List, length, drop, Some, Ok, Err, Result, refl, sym, ap, ◌∙◌, arith}
use Rattle.std.specs.Prelude.{IfOk, IfErr, OnErr, slice_range}
use Rattle.std.proofs.lemmas.Bool.{le-leb, lt-leb, eq-eqb}
use Rattle.std.proofs.lemmas.List.{length-take-le, length-drop}
use Rattle.definitions.specs.Limits.{pointer_limit}
use Rattle.definitions.specs.Name.{Name, wire}
use Rattle.definitions.specs.Reading.{Short, Malformed}
use Rattle.definitions.proofs.ReadingLaws.{reads_exactly}
use Rattle.names_parser.specs.Reader.{Reader, Takes}
use Rattle.names_parser.specs.Errors.{form_text}
use Rattle.names_parser.specs.declared.error.ParseError.{ParseError}
use Rattle.names_parser.specs.declared.error.ParseError.TheVariants.{ShortInput, Form}
use Rattle.names_parsed.specs.Heads.{fault_of}
use Rattle.names_parsed.specs.Parsed.{ReadsName, StopsAt, parsed_name}
use Rattle.names_parsed.specs.declared.parsed.ParsedName.{ParsedName}
use Rattle.names_rdata.specs.Reading.{name_inside, name_part, octets_part, rest_part, limited, data_at, ReadsPart}

length_there : (m : List ℕ) (p e : ℕ) → p ≤ e → e ≤ length m → length (slice_range m p e) ≡ e - p
length_there m p e h i = length-take-le (e - p) (drop p m) (omega (arith, length-drop p m, h, i))

inside : (e b : ℕ) (n : Name) → b ≤ e → name_inside e (Ok (n, b)) ≡ Ok (wire n, b)
inside e b n h = rw (le-leb b e h) refl

outside : (e b : ℕ) (n : Name) → e < b → name_inside e (Ok (n, b)) ≡ Err Short
outside e b n h = rw (lt-leb b e h) refl

-- a name, or why there is none
pub name_read : (old new : Reader) (result : Result ParsedName ParseError) → IfOk result (ReadsName old new) → IfErr result (StopsAt old) → OnErr result (new ≡ old) → ReadsPart name_part (λ n. wire (parsed_name n)) old new result
name_read old new (Ok n) r s u = (
  ap (name_inside old.end) ((reads_exactly old.octets old.place pointer_limit (parsed_name n) new.place).1 (r.stands.reads, r.stands.short))
      ∙ inside old.end new.place (parsed_name n) r.fits,
  r.reader,
)
name_read old new (Err e) r (inl s) u = (ap (name_inside old.end) s, u ∙ ap (λ x. record old { place = x }) (sym (ap (λ (x : Reader). x.place) u)))
name_read old new (Err e) r (inr s) u = (
  ap (name_inside old.end) s.2 ∙ outside old.end s.1 s.0 s.3 ∙ ap (λ x. Err (fault_of x)) (sym s.4),
  u ∙ ap (λ x. record old { place = x }) (sym (ap (λ (x : Reader). x.place) u)),
)

-- so many octets, or too few are left
pub octets_read : {A : Type 0} (n : ℕ) (octets : A → List ℕ) (old new : Reader) (result : Result A ParseError) → Takes n (λ o a. octets a ≡ o) old new result → ReadsPart (octets_part n) octets old new result
octets_read n octets old new (Ok a) t =
    let place : new.place ≡ old.place + n = ap (λ (x : Reader). x.place) t.1 in (
      rw (le-leb (old.place + n) old.end t.2) (ap Ok (λ i. (sym t.0 i, sym place i))),
      t.1 ∙ ap (λ x. record old { place = x }) (sym place),
    )
octets_read n octets old new (Err e) t = (
  rw (lt-leb (old.place + n) old.end t.2) (ap (λ x. Err (fault_of x)) (sym t.0)),
  t.1 ∙ ap (λ x. record old { place = x }) (sym (ap (λ (x : Reader). x.place) t.1)),
)

-- all that is left, which is there
pub rest_read : {A : Type 0} (octets : A → List ℕ) (old new : Reader) (n : ℕ) (result : Result A ParseError) → old.place ≤ old.end → n ≡ old.end - old.place → Takes n (λ o a. octets a ≡ o) old new result → ReadsPart rest_part octets old new result
rest_read octets old new n (Ok a) h e t =
    let place : new.place ≡ old.place + n = ap (λ (x : Reader). x.place) t.1 in
    let all : old.place + n ≡ old.end = omega (arith, e, h) in (
      ap Ok (λ i. (slice_range old.octets old.place (sym all i), sym all i)) ∙ ap Ok (λ i. (sym t.0 i, sym place i)),
      t.1 ∙ ap (λ x. record old { place = x }) (sym place),
    )
rest_read octets old new n (Err e) h k t = absurd (omega (arith, t.2, h, k))

-- octets of a type that is not known
pub unknown_read : (old new : Reader) (xs : List ℕ) → old.place ≤ old.end → old.end ≤ length old.octets → old.end - old.place ≤ 65535 → rest_part old.octets old.place old.end ≡ Ok (xs, new.place) → data_at (limited rest_part) old ≡ Ok xs
unknown_read old new xs h i s r =
    let k : Ok (slice_range old.octets old.place old.end, old.end) ≡ Ok (xs, new.place) = r in
    let pair : (slice_range old.octets old.place old.end, old.end) ≡ (xs, new.place) = cc in
    let e : slice_range old.octets old.place old.end ≡ xs = ap (λ (p : List ℕ × ℕ). p.0) pair in
    rw (le-leb (length (slice_range old.octets old.place old.end)) 65535 (omega (arith, s, length_there old.octets old.place old.end h i)), eq-eqb old.end old.end refl) (ap Ok e)

-- more of them than data may have
pub unknown_long : (old : Reader) → old.place ≤ old.end → old.end ≤ length old.octets → 65535 < old.end - old.place → data_at (limited rest_part) old ≡ Err Malformed
unknown_long old h i s = rw (lt-leb (length (slice_range old.octets old.place old.end)) 65535 (omega (arith, s, length_there old.octets old.place old.end h i))) refl

pub at_its_end : (old new : Reader) (xs : List ℕ) → rest_part old.octets old.place old.end ≡ Ok (xs, new.place) → new ≡ record old { place = new.place } → new ≡ record old { place = old.end }
at_its_end old new xs r m =
    let k : Ok (slice_range old.octets old.place old.end, old.end) ≡ Ok (xs, new.place) = r in
    let pair : (slice_range old.octets old.place old.end, old.end) ≡ (xs, new.place) = cc in
    let e : new.place ≡ old.end = sym (ap (λ (p : List ℕ × ℕ). p.1) pair) in
    m ∙ ap (λ x. record old { place = x }) e

-- a fault that has a text is one of form
pub has_text : (e : ParseError) (t : List ℕ) → form_text e ≡ Some t → fault_of e ≡ Malformed
has_text ShortInput t h = cc
has_text (Form f) t h = refl
