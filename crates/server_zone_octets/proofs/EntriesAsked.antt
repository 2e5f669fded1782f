-- Entries of signatures that are asked for, one after another.
use Rattle.std.proofs.Common.{◌≡◌, ℕ, ◌+◌, ◌<◌, List, [], ◌∷◌, ◌++◌, length, map, take, get_or, sym, ap, subst, ◌∙◌}
use Rattle.std.specs.List.{AllByRecursion, flat_map}
use Rattle.std.proofs.lemmas.Grind.{flat_map-append}
use Rattle.std.proofs.lemmas.List.{append-nil, map-append}
use Rattle.messages.proofs.Lists.{take_next}
use Rattle.answer_judge_octets.proofs.AsksGrow.{all_more}
use Rattle.server_answers.specs.Inputs.{Input}
use Rattle.server_zone_octets.specs.Entries.{FitsMade, asked, entries_of, made_octets}

pub entries_more : (inputs : List Input) (i : ℕ) (t : Input) (a b : List ℕ) → i < length inputs → t ≡ get_or inputs i t → a ≡ entries_of (take i inputs) → b ≡ a ++ made_octets (asked t) → b ≡ entries_of (take (i + 1) inputs)
entries_more inputs i t a b inside is p q =
    let before = take i inputs in
    let more : entries_of (take (i + 1) inputs) ≡ entries_of before ++ made_octets (asked t) =
    ap entries_of (take_next inputs i t inside is) ∙ ap (flat_map made_octets) (map-append asked before (t ∷ [])) ∙ flat_map-append made_octets (map asked before) (asked t ∷ [])
    ∙ ap (λ (l : List ℕ). entries_of before ++ l) (append-nil (made_octets (asked t))) in
    q ∙ ap (λ (l : List ℕ). l ++ made_octets (asked t)) p ∙ sym more

pub entries_fit_more : (inputs : List Input) (i : ℕ) (t : Input) → i < length inputs → t ≡ get_or inputs i t → AllByRecursion FitsMade (map asked (take i inputs)) → FitsMade (asked t) → AllByRecursion FitsMade (map asked (take (i + 1) inputs))
entries_fit_more inputs i t inside is fit one =
    let before = take i inputs in
    let more : map asked (take (i + 1) inputs) ≡ map asked before ++ asked t ∷ [] = ap (map asked) (take_next inputs i t inside is) ∙ map-append asked before (t ∷ []) in
    subst (AllByRecursion FitsMade) (sym more) (all_more FitsMade (map asked before) (asked t) fit one)
