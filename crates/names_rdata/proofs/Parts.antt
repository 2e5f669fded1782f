-- Parts of data, one behind another, and data to their end.
use Rattle.std.proofs.Common.{◌≡◌, ℕ, List, ◌++◌, Ok, Err, Result, refl, sym, ap, ◌∙◌}
use Rattle.definitions.specs.Reading.{ReadFault, Malformed}
use Rattle.names_parser.specs.Reader.{Reader}
use Rattle.names_parser.specs.declared.error.ParseError.{ParseError}
use Rattle.names_parsed.specs.Heads.{fault_of}
use Rattle.names_rdata.specs.Reading.{Part, behind_octets, followed_by, two_parts, ended, data_at, ReadsPart, Closes, ReadsData}
use Rattle.std.proofs.lemmas.Bool.{ne_eqb, eq-eqb}

pub two_ok : (a b : Part) (m : List ℕ) (p e q r : ℕ) (xs ys : List ℕ) → a m p e ≡ Ok (xs, q) → b m q e ≡ Ok (ys, r) → two_parts a b m p e ≡ Ok (xs ++ ys, r)
two_ok a b m p e q r xs ys h k = ap (followed_by b m e) h ∙ ap (behind_octets xs) k

pub first_err : (a b : Part) (m : List ℕ) (p e : ℕ) (f : ReadFault) → a m p e ≡ Err f → two_parts a b m p e ≡ Err f
first_err a b m p e f h = ap (followed_by b m e) h

pub second_err : (a b : Part) (m : List ℕ) (p e q : ℕ) (xs : List ℕ) (f : ReadFault) → a m p e ≡ Ok (xs, q) → b m q e ≡ Err f → two_parts a b m p e ≡ Err f
second_err a b m p e q xs f h k = ap (followed_by b m e) h ∙ ap (behind_octets xs) k

-- a reader that only went on, twice
pub went_on : (old mid new : Reader) → mid ≡ record old { place = mid.place } → new ≡ record mid { place = new.place } → new ≡ record old { place = new.place }
went_on old mid new m n = n ∙ ap (λ (x : Reader). record x { place = new.place }) m

-- a part, and then another where the reader is
pub then_ok : (a b : Part) (old mid : Reader) (xs ys : List ℕ) (r : ℕ) → mid ≡ record old { place = mid.place } → a old.octets old.place old.end ≡ Ok (xs, mid.place) → b mid.octets mid.place mid.end ≡ Ok (ys, r) → two_parts a b old.octets old.place old.end ≡ Ok (xs ++ ys, r)
then_ok a b old mid xs ys r m h k = two_ok a b old.octets old.place old.end mid.place r xs ys h (sym (ap (λ (x : Reader). b x.octets mid.place x.end) m) ∙ k)

pub then_err : (a b : Part) (old mid : Reader) (xs : List ℕ) (f : ReadFault) → mid ≡ record old { place = mid.place } → a old.octets old.place old.end ≡ Ok (xs, mid.place) → b mid.octets mid.place mid.end ≡ Err f → two_parts a b old.octets old.place old.end ≡ Err f
then_err a b old mid xs f m h k = second_err a b old.octets old.place old.end mid.place xs f h (sym (ap (λ (x : Reader). b x.octets mid.place x.end) m) ∙ k)

ended_at : (e q : ℕ) (xs : List ℕ) → q ≡ e → ended e (Ok (xs, q)) ≡ Ok xs
ended_at e q xs h = ap (λ x. ended e (Ok (xs, x))) h ∙ rw (eq-eqb e e refl) refl

ended_past : (e q : ℕ) (xs : List ℕ) → (q ≡ e → ⊥) → ended e (Ok (xs, q)) ≡ Err Malformed
ended_past e q xs h = rw (ne_eqb q e h) refl

-- what is read of all fields, and closed at the end of the data
pub reads_whole : {A : Type 0} (part : Part) (octets : A → List ℕ) (old mid new : Reader) (found result : Result A ParseError) → ReadsPart part octets old mid found → Closes old.place mid new found result → ReadsData (data_at part old) octets old new result
reads_whole part octets old mid new (Ok a) (Ok b) r c =
    let q : mid.place ≡ old.end = c.1 ∙ ap (λ (x : Reader). x.end) r.1 in (
      ap (ended old.end) r.0 ∙ ended_at old.end mid.place (octets a) q ∙ ap (λ x. Ok (octets x)) (sym c.0),
      c.2 ∙ r.1 ∙ ap (λ x. record old { place = x }) q,
    )
reads_whole part octets old mid new (Ok a) (Err e) r c = (
  ap (ended old.end) r.0 ∙ ended_past old.end mid.place (octets a) (λ h. c.0 (h ∙ ap (λ (x : Reader). x.end) (sym r.1))) ∙ ap Err (sym c.1),
  c.2 ∙ ap (λ (x : Reader). record x { place = old.place }) r.1,
)
reads_whole part octets old mid new (Err f) (Ok b) r c = absurd c
reads_whole part octets old mid new (Err f) (Err e) r c = (
  ap (ended old.end) r.0 ∙ ap (λ x. Err (fault_of x)) (sym c.0),
  c.1 ∙ ap (λ (x : Reader). record x { place = old.place }) r.1,
)
