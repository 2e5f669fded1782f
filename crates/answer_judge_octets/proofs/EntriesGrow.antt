-- Entries of signatures that are asked for, one after another.
use Rattle.std.proofs.Common.{◌≡◌, ℕ, ◌+◌, ◌<◌, List, [], ◌∷◌, ◌++◌, length, map, take, get_or, sym, ap, subst, ◌∙◌}
use Rattle.std.specs.List.{AllByRecursion, flat_map}
use Rattle.std.proofs.lemmas.Grind.{flat_map-append}
use Rattle.std.proofs.lemmas.List.{append-nil, map-append}
use Rattle.messages.proofs.Lists.{take_next}
use Rattle.answer_findings.specs.Asking.{unchecked}
use Rattle.answer_findings.specs.Table.{Tried}
use Rattle.answer_findings.proofs.AsksGrow.{all_more}
use Rattle.answer_judge_octets.specs.Replying.{entries_of}
use Rattle.answer_judge_octets.specs.Written.{FitsChecked, checked_octets}

pub entries_more : (asks : List Tried) (i : ℕ) (t : Tried) (a b : List ℕ) → i < length asks → t ≡ get_or asks i t → a ≡ entries_of (take i asks) → b ≡ a ++ checked_octets (unchecked t) → b ≡ entries_of (take (i + 1) asks)
entries_more asks i t a b inside is p q =
    let before = take i asks in
    let more : entries_of (take (i + 1) asks) ≡ entries_of before ++ checked_octets (unchecked t) =
    ap entries_of (take_next asks i t inside is) ∙ ap (flat_map checked_octets) (map-append unchecked before (t ∷ [])) ∙ flat_map-append checked_octets (map unchecked before) (unchecked t ∷ [])
    ∙ ap (λ (l : List ℕ). entries_of before ++ l) (append-nil (checked_octets (unchecked t))) in
    q ∙ ap (λ (l : List ℕ). l ++ checked_octets (unchecked t)) p ∙ sym more

pub entries_fit_more : (asks : List Tried) (i : ℕ) (t : Tried) → i < length asks → t ≡ get_or asks i t → AllByRecursion FitsChecked (map unchecked (take i asks)) → FitsChecked (unchecked t) → AllByRecursion FitsChecked (map unchecked (take (i + 1) asks))
entries_fit_more asks i t inside is fit one =
    let before = take i asks in
    let more : map unchecked (take (i + 1) asks) ≡ map unchecked before ++ unchecked t ∷ [] = ap (map unchecked) (take_next asks i t inside is) ∙ map-append unchecked before (t ∷ []) in
    subst (AllByRecursion FitsChecked) (sym more) (all_more FitsChecked (map unchecked before) (unchecked t) fit one)
