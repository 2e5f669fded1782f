-- What signatures are made over, of RRsets as they are seen.
use Rattle.std.proofs.Common.{◌≡◌, ◌∙◌, ℕ, ◌+◌, ◌<◌, List, [], ◌∷◌, ◌++◌, add-one, ap, append_assoc, drop, drop-cons, get_or, length, map, sym}
use Rattle.std.specs.List.{AllZip}
use Rattle.std.proofs.lemmas.List.Concat.{flat_map-append}
use Rattle.definitions.specs.Name.{Name}
use Rattle.definitions.specs.Dnskey.{Dnskey}
use Rattle.answer_terms.specs.GroupView.{GroupView, Presents, octets_of, view_of}
use Rattle.answer_terms.specs.Served.{ServedRrset}
use Rattle.answer_publisher.specs.Inputs.{Input, all_inputs, input, inputs_by, inputs_of}
use Rattle.answer_publisher.proofs.WritesAnswer.{all_presented, presented}

-- those of both sections are those of the answer
pub inputs_presented : (apex : Name) (at life : ℕ) (keys : List Dnskey) (answer authority : List GroupView) (groups : List ServedRrset) → AllZip Presents (answer ++ authority) groups
    → all_inputs apex at life keys answer ++ all_inputs apex at life keys authority ≡ all_inputs apex at life keys (map view_of groups)
inputs_presented apex at life keys answer authority groups p =
    sym (flat_map-append (inputs_of apex at life keys) answer authority) ∙ ap (all_inputs apex at life keys) (all_presented (answer ++ authority) groups p)

pub inputs_of_one : (apex : Name) (at life : ℕ) (keys : List Dnskey) (g : GroupView) (of : ServedRrset) → Presents g of
    → all_inputs apex at life keys (g ∷ []) ≡ all_inputs apex at life keys (view_of of ∷ [])
inputs_of_one apex at life keys g of p = ap (λ v. all_inputs apex at life keys (v ∷ [])) (presented g of p)

-- one key more
pub inputs_next : (apex : Name) (at life : ℕ) (g : GroupView) (keys : List Dnskey) (i : ℕ) (key : Dnskey) (made : Input) (old new whole : List Input) → i < length keys → key ≡ get_or keys i key
    → made ≡ input key (octets_of apex at life g key) → old ++ inputs_by apex at life g (drop i keys) ≡ whole → new ≡ old ++ made ∷ [] → new ++ inputs_by apex at life g (drop (i + 1) keys) ≡ whole
inputs_next apex at life g keys i key made old new whole below is made_is before pushed =
    let rest = inputs_by apex at life g (drop (i + 1) keys) in
    let left : drop i keys ≡ key ∷ drop (i + 1) keys = drop-cons keys i key below ∙ (λ j. sym is j ∷ drop (sym (add-one i) j) keys) in
    ap (λ xs. xs ++ rest) (pushed ∙ ap (λ x. old ++ x ∷ []) made_is)
    ∙ append_assoc old (input key (octets_of apex at life g key) ∷ []) rest
    ∙ ap (λ ks. old ++ inputs_by apex at life g ks) (sym left) ∙ before
