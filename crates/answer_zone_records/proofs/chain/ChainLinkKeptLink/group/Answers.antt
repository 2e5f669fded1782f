use Rattle.std.proofs.Common.{◌≡◌, ℕ, List, [], ◌∷◌, ◌++◌, map, refl, sym, ap, subst, ◌∙◌}
use Rattle.std.specs.Prelude.{nat_lt, length}
use Rattle.definitions.specs.Name.{low}
use Rattle.definitions.specs.Signing.{label_count}
use Rattle.answer_terms.specs.GroupView.{Presents, canonical_view}
use Rattle.answer_terms.specs.Links.{group_of}
use Rattle.answer_terms.specs.Served.{written_rr}
use Rattle.answer_terms.proofs.ZoneData.{if_ok_map, label_count-low}
use Rattle.answer_zone_records.proofs.chain.ChainLinkKeptLink.group.Goals as goal

pub returns : goal.returns
returns c =
    let l = c.args.self.now in
    let ttl = c.args.ttl in
    let owner : c.in_ok-owner.owner ≡ l.owner = c.in_ok-owner.ensures ∙ ap (λ l. l.owner) c.self.view_is in
    let count : c.rrsig_label_count-count.result ≡ label_count (low l.owner) = c.rrsig_label_count-count.ensures ∙ ap label_count owner ∙ sym (label_count-low l.owner) in
    let datas : List (List ℕ) = map (λ d. d.items) c.push.new.self.items in
    let is : datas ≡ l.octets ∷ [] =
    ap (map (λ d. d.items)) (c.in_ok-push.ensures.items ∙ ap (λ x. x ++ c.in_ok-written.field-0 ∷ []) c.new-canonical.ensures.items) ∙ ap (λ d. d ∷ []) c.in_ok-written.ensures in
    let g = group_of ttl l in
    let v = canonical_view c.in_ok-owner.owner c.rrsig_label_count-count.result 47 ttl datas in
    let P : Presents v g = record {
      owner_is = owner;
      labels_are = count;
      rtype_is = refl;
      ttl_is = refl;
      written_is = λ i. map (written_rr (owner i) 47 ttl) (is i);
      canonical_is = is;
      signed_is = ap (λ (ds : List (List ℕ)). nat_lt 0 (length ds)) is;
    } in
    if_ok_map (λ w. w ≡ v) (λ w. Presents w g) c.canonical_form.result (λ w e. subst (λ w. Presents w g) (sym e) P) c.canonical_form.ensures
