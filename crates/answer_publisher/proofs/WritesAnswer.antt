-- An answer that is written gives its RRsets.
use Rattle.std.proofs.Common.{◌≡◌, ℕ, ◌≤◌, Bool, List, [], ◌∷◌, ◌++◌, length, map, Option, refl, sym, subst, ap, length-append, arith}
use Rattle.std.specs.List.{AllByRecursion, AllZip, flat_map}
use Rattle.std.proofs.lemmas.List.Concat.{flat_map-append}
use Rattle.definitions.specs.Limits.{pointer_limit}
use Rattle.definitions.specs.Name.{Name, IsName}
use Rattle.definitions.specs.Dnskey.{Dnskey}
use Rattle.messages.specs.Message.{Asked}
use Rattle.answer_terms.specs.Served.{ServedRrset}
use Rattle.answer_terms.specs.Given.{AreGroups, Gives}
use Rattle.answer_terms.specs.GroupView.{GroupView, Presents, view_of}
use Rattle.answer_publisher.specs.Composed.{IsAnswer, IsWritten, joined}
use Rattle.messages.specs.Written.{Written, record_octets}
use Rattle.messages.specs.WrittenLaws.{IsQuestion, IsRecord, first_place, spelled_from}
use Rattle.messages.proofs.MessageWhole.{message_here, records_stand}
use Rattle.messages.proofs.MessageWritten.{StandsAt}
use Rattle.answer_publisher.proofs.WritesGroups.{IsFormed, all_hold, all_records, are_groups, count_of}
use Rattle.messages.proofs.Lists.{zip_append}

pub presented : (v : GroupView) (g : ServedRrset) → Presents v g → v ≡ view_of g
presented v g p = λ i. record { owner = p.owner_is i; labels = p.labels_are i; rtype = p.rtype_is i; ttl = p.ttl_is i; written = p.written_is i; canonical = p.canonical_is i; signed = p.signed_is i }

pub all_presented : (vs : List GroupView) (gs : List ServedRrset) → AllZip Presents vs gs → vs ≡ map view_of gs
all_presented [] [] h = refl
all_presented [] (g ∷ gs) h = absurd h
all_presented (v ∷ vs) [] h = absurd h
all_presented (v ∷ vs) (g ∷ gs) h = λ i. presented v g h.0 i ∷ all_presented vs gs h.1 i

all_front : {A : Type 0} (P : A → Type 0) (xs ys : List A) → AllByRecursion P (xs ++ ys) → AllByRecursion P xs
all_front P [] ys h = tt
all_front P (x ∷ xs) ys h = (h.0, all_front P xs ys h.1)

pub all_behind : {A : Type 0} (P : A → Type 0) (xs ys : List A) → AllByRecursion P (xs ++ ys) → AllByRecursion P ys
all_behind P [] ys h = h
all_behind P (x ∷ xs) ys h = all_behind P xs ys h.1

-- the message of an answer reads as its RRsets, each with its signatures behind it
pub answer_gives : (sign : Dnskey → List ℕ → Option (List ℕ)) (verifies : Dnskey → List ℕ → List ℕ → Bool) (apex : Name) (at life : ℕ) (keys : List Dnskey) (flags : ℕ) (asked : Asked) (answer authority : List GroupView) (groups : List ServedRrset) (m : List ℕ)
    → IsName apex → IsQuestion asked → AllByRecursion IsFormed groups → AllZip Presents (answer ++ authority) groups → IsAnswer sign verifies apex at life keys flags asked answer authority m
    → Gives verifies pointer_limit apex at life keys asked groups m
answer_gives sign verifies apex at life keys flags asked answer authority groups m name is formed presents w =
    let Whole = IsWritten sign verifies apex at life keys in
    let first : List Written = joined w.answers in
    let second : List Written = joined w.authorities in
    let pieces : List (List Written) = w.answers ++ w.authorities in
    let both : joined pieces ≡ first ++ second = flat_map-append (λ p. p) w.answers w.authorities in
    let written : AllZip Whole (map view_of groups) pieces =
    subst (λ vs. AllZip Whole vs pieces) (all_presented (answer ++ authority) groups presents) (zip_append Whole answer w.answers authority w.authorities w.answers_are w.authorities_are) in
    let stands = records_stand m flags asked first second w.octets_are in
    let octets = flat_map record_octets (first ++ second) in
    let short : length octets ≤ 65535 = omega (arith, w.short, ap length stands.whole, length-append stands.front (octets ++ []), length-append octets []) in
    let each : AllByRecursion IsRecord (first ++ second) =
    all_records (first ++ second) 65535 (subst (AllByRecursion _) both (all_hold sign verifies apex at life keys groups pieces formed written)) short (omega arith) in
    let count : length (first ++ second) ≤ 65535 = omega (arith, count_of (first ++ second), short) in
    let sizes = length-append first second in
    let back = message_here m flags asked first second w.octets_are is (record {
      answers_are = all_front IsRecord first second each;
      authority_are = all_behind IsRecord first second each;
      answers_fit = omega (arith, count, sizes);
      authority_fit = omega (arith, count, sizes);
    }) in
    record {
      read = record { asked = asked; records = spelled_from (first_place asked) (first ++ second) };
      reads = back.reads;
      name_is = refl;
      rtype_is = refl;
      class_is = refl;
      groups_are = subst (λ rs. AreGroups verifies pointer_limit m (spelled_from (first_place asked) rs) apex at life keys groups) both
          (are_groups sign verifies m (first_place asked) apex at life keys groups pieces [] w.short name formed written
          (subst (λ rs. StandsAt m (first_place asked) (flat_map record_octets rs ++ [])) (sym both) stands));
    }
