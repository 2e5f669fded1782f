-- Answers that are written RRset by RRset.
use Rattle.std.proofs.Common.{[], ◌≡◌, ℕ, ◌+◌, ◌<◌, Bool, List, ◌∷◌, ◌++◌, Option, length, take, map, get_or, refl, ap, ◌∙◌, sym, append_assoc, length-append, arith}
use Rattle.std.specs.Prelude.{if◌then◌else◌}
use Rattle.std.specs.List.{AllZip, flat_map}
use Rattle.std.proofs.lemmas.List.{append-nil, length-map}
use Rattle.std.proofs.lemmas.Grind.{flat_map-append}
use Rattle.definitions.specs.Name.{Name}
use Rattle.definitions.specs.Dnskey.{Dnskey}
use Rattle.messages.specs.Written.{Written, record_octets}
use Rattle.answer_terms.specs.GroupView.{GroupView, IsRrsigData}
use Rattle.answer_publisher.specs.Composed.{IsSection, IsWritten, joined, rrsig_of}
use Rattle.answer_publisher.proofs.SignMade.{AllZip-next}

-- one RRset more
pub joined-snoc : (ps : List (List Written)) (p : List Written) → joined (ps ++ p ∷ []) ≡ joined ps ++ p
joined-snoc ps p = flat_map-append (λ x. x) ps (p ∷ []) ∙ ap (λ x. joined ps ++ x) (append-nil p)

octets_more : (ps : List (List Written)) (a b : List Written) (old mid new : List ℕ) → old ≡ flat_map record_octets (joined ps) → mid ≡ old ++ flat_map record_octets a → new ≡ mid ++ flat_map record_octets b → new ≡ flat_map record_octets (joined (ps ++ (a ++ b) ∷ []))
octets_more ps a b old mid new o m n =
    let f = flat_map record_octets in
    n ∙ ap (λ x. x ++ f b) (m ∙ ap (λ x. x ++ f a) o) ∙ append_assoc (f (joined ps)) (f a) (f b)
    ∙ ap (λ x. f (joined ps) ++ x) (sym (flat_map-append record_octets a b))
    ∙ sym (ap f (joined-snoc ps (a ++ b)) ∙ flat_map-append record_octets (joined ps) (a ++ b))

count_more : (ps : List (List Written)) (a b : List Written) (old mid new la lb : ℕ) → old ≡ length (joined ps) → mid ≡ old + la → new ≡ mid + lb → length a ≡ la → length b ≡ lb → new ≡ length (joined (ps ++ (a ++ b) ∷ []))
count_more ps a b old mid new la lb o m n ea eb =
    let grown : length (joined (ps ++ (a ++ b) ∷ [])) ≡ length (joined ps) + (length a + length b) =
    ap length (joined-snoc ps (a ++ b)) ∙ length-append (joined ps) (a ++ b) ∙ ap (λ k. length (joined ps) + k) (length-append a b) in
    omega arith

pub section_more : (sign : Dnskey → List ℕ → Option (List ℕ)) (verifies : Dnskey → List ℕ → List ℕ → Bool) (apex : Name) (at life : ℕ) (keys : List Dnskey) (gs : List GroupView) (i : ℕ) (g : GroupView) (own : List Written) (datas : List (List ℕ)) (o o' o'' : List ℕ) (c c' c'' : ℕ)
    → i < length gs → g ≡ get_or gs i g → IsSection sign verifies apex at life keys (take i gs) o c
    → AllZip (IsRrsigData sign verifies apex at life g) (if g.signed then keys else []) datas
    → own ≡ g.written
    → o' ≡ o ++ flat_map record_octets own → c' ≡ c + length own
    → o'' ≡ o' ++ flat_map record_octets (map (rrsig_of g) datas) → c'' ≡ c' + length datas
    → IsSection sign verifies apex at life keys (take (i + 1) gs) o'' c''
section_more sign verifies apex at life keys gs i g own datas o o' o'' c c' c'' below is before signed own_are first counted second counted_too =
    let a : List Written = g.written in
    let b : List Written = map (rrsig_of g) datas in
    let la : length a ≡ length own = sym (ap length own_are) in
    let lb : length b ≡ length datas = length-map datas (rrsig_of g) in (
      before.0 ++ (a ++ b) ∷ [],
      (
        AllZip-next (IsWritten sign verifies apex at life keys) gs i before.0 g (a ++ b) below is before.1.0 (datas, (signed, refl)),
        octets_more before.0 a b o o' o'' before.1.1 (first ∙ ap (λ x. o ++ flat_map record_octets x) own_are) second,
        count_more before.0 a b c c' c'' (length own) (length datas) before.1.2 counted counted_too la lb,
      ),
    )
