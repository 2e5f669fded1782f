use Rattle.std.proofs.Common.{◌≡◌, ◌+◌, [], ◌∷◌, ◌++◌, drop, sym, ap, subst, ◌∙◌, append_assoc, arith}
use Rattle.std.specs.List.{AllByRecursion}
use Rattle.std.proofs.lemmas.List.{append-nil, drop_all}
use Rattle.answer_terms.proofs.Climbing.{all_append}
use Rattle.answer_zone_records.specs.MadeLinks.{HasOctets, hashed_from}
use Rattle.answer_zone_records.proofs.ZoneGroups.{left_is}
use Rattle.answer_zone_records.proofs.hash_chain.hashed_links.Goals as goal

pub loop-nsec3-preserved : goal.loop-nsec3-preserved
loop-nsec3-preserved c =
    let rs = c.args.nsec3s.now in
    let i = c.loop-nsec3.nsec3-index in
    let r = c.nsec3-item.result in
    let hash = c.loop-nsec3.hash.now in
    let done = c.loop-nsec3.links.items in
    let left : drop i rs ≡ r ∷ drop (i + 1) rs = left_is rs i r (omega arith) c.nsec3-item.is in
    let next = c.as_slice-hash.ensures.value ∙ c.next_owner.ensures ∙ ap (λ d. d.next_owner) c.«data».ensures in
    let rest = hashed_from r.content.next_owner (drop (i + 1) rs) in (
      (λ t. c.in_ok-push.ensures.items t ++ hashed_from (next t) (drop (i + 1) rs))
          ∙ append_assoc done (c.in_ok-new.field-0 ∷ []) rest
          ∙ ap (λ l. done ++ l ∷ rest) c.in_ok-new.ensures.link
          ∙ ap (λ xs. done ++ hashed_from hash xs) (sym left)
          ∙ c.loop-nsec3.invariant.0,
      subst (AllByRecursion HasOctets) (sym c.in_ok-push.ensures.items) (all_append HasOctets done c.in_ok-new.field-0 c.loop-nsec3.invariant.1 c.in_ok-new.ensures.octets),
    )

pub returns-clause-links : goal.returns-clause-links
returns-clause-links c =
    let rs = c.args.nsec3s.now in
    let hash = c.loop-nsec3.hash.now in
    let done = c.loop-nsec3.links.items in
    sym (append-nil done) ∙ ap (λ xs. done ++ hashed_from hash xs) (sym (drop_all c.loop-nsec3.nsec3-index rs (omega arith))) ∙ c.loop-nsec3.invariant.0
