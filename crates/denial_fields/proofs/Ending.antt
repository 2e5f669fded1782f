-- Data whose last part goes to their end.
use Rattle.std.proofs.Common.{◌≡◌, ℕ, Bool, true, false, List, length, Ok, Err, Result, refl, sym, ap, ◌∙◌, leb}
use Rattle.definitions.specs.Reading.{ReadFault, Malformed}
use Rattle.names_parser.specs.Reader.{Reader}
use Rattle.names_parser.specs.declared.error.ParseError.{ParseError}
use Rattle.names_rdata.specs.Reading.{Part, behind_octets, followed_by, two_parts, rest_part, if_short, limited, data_at, ReadsPart, ReadsData}
use Rattle.names_rdata.proofs.Parts.{reads_whole}

-- what is read goes to the end
abbrev pub EndsThere : Part → Type 0
EndsThere part = (m : List ℕ) (p e : ℕ) (xs : List ℕ) (q : ℕ) → part m p e ≡ Ok (xs, q) → q ≡ e

-- the place behind a part
pub place_of : {xs ys : List ℕ} {p q : ℕ} {found : Result (List ℕ × ℕ) ReadFault} → found ≡ Ok (xs, p) → found ≡ Ok (ys, q) → p ≡ q
place_of {xs} {ys} {p} {q} h k =
    let whole : Ok (xs, p) ≡ Ok (ys, q) = sym h ∙ k in
    let pair : (xs, p) ≡ (ys, q) = cc in
    ap (λ (r : List ℕ × ℕ). r.1) pair

pub rest_ends : EndsThere rest_part
rest_ends m p e xs q h = place_of h refl

behind_ends : (first : List ℕ) (e : ℕ) (found : Result (List ℕ × ℕ) ReadFault) (xs : List ℕ) (q : ℕ) → ((ys : List ℕ) (r : ℕ) → found ≡ Ok (ys, r) → r ≡ e) → behind_octets first found ≡ Ok (xs, q) → q ≡ e
behind_ends first e (Ok r) xs q ends h =
    place_of h refl ∙ ends r.0 r.1 refl
behind_ends first e (Err f) xs q ends h = cc h

pub two_end : (a b : Part) → EndsThere b → EndsThere (two_parts a b)
two_end a b ends m p e xs q h = go (a m p e) h
  where
    go : (found : Result (List ℕ × ℕ) ReadFault) → followed_by b m e found ≡ Ok (xs, q) → q ≡ e
    go (Ok r) k = behind_ends r.0 e (b m r.1 e) xs q (λ ys s. ends m r.1 e ys s) k
    go (Err f) k = cc k

pub limited_ends : (a : Part) → EndsThere a → EndsThere (limited a)
limited_ends a ends m p e xs q h = go (a m p e) refl h
  where
    sized : (r : List ℕ × ℕ) (b : Bool) → leb (length r.0) 65535 ≡ b → a m p e ≡ Ok r → if_short (Ok r) ≡ Ok (xs, q) → q ≡ e
    sized r true s k i =
        let j : Ok r ≡ Ok (xs, q) = rw s at i in
        ends m p e xs q (k ∙ j)
    sized r false s k i =
        let j : Err Malformed ≡ Ok (xs, q) = rw s at i in
        absurd (differ j)
      where
        differ : {A : Type 0} {x : A} {f : ReadFault} → Err f ≡ Ok x → ⊥
        differ j = cc j

    go : (found : Result (List ℕ × ℕ) ReadFault) → a m p e ≡ found → if_short found ≡ Ok (xs, q) → q ≡ e
    go (Ok r) k i = sized r (leb (length r.0) 65535) refl k i
    go (Err f) k i = cc i

-- all fields, up to the end
pub whole_read : {A : Type 0} (part : Part) (octets : A → List ℕ) (old mid : Reader) (a : A) → EndsThere part → ReadsPart part octets old mid (Ok a) → ReadsData (data_at part old) octets old mid (Ok a)
whole_read part octets old mid a ends r =
    let place : mid.place ≡ mid.end = ends old.octets old.place old.end (octets a) mid.place r.0 ∙ ap (λ (x : Reader). x.end) (sym r.1) in
    reads_whole part octets old mid mid (Ok a) (Ok a) r (refl, place, refl)

-- or not, and the reader goes back
pub none_read : {A : Type 0} (part : Part) (octets : A → List ℕ) (old mid new : Reader) (f : ParseError) → ReadsPart part octets old mid (Err f) → new ≡ record mid { place = old.place } → ReadsData (data_at part old) octets old new (Err f)
none_read part octets old mid new f r n = reads_whole part octets old mid new (Err f) (Err f) r (refl, n)
