-- The tree, and its two zones.
use Rattle.std.proofs.Common.{◌≡◌, ℕ, ◌<◌, Bool, true, false, cond, List, [], ◌∷◌, map, filter, Some, None, Result, Ok, refl, sym, ap, subst, ◌∙◌, inl, inr}
use Rattle.std.specs.Prelude.{Contains}
use Rattle.std.specs.List.{AllByRecursion, list_any}
use Rattle.std.proofs.lemmas.Bool.{false≢true, ltb-true}
use Rattle.definitions.specs.Dnskey.{Dnskey, Ds}
use Rattle.definitions.specs.Limits.{pointer_limit}
use Rattle.definitions.specs.Name.{IsName, Name, low}
use Rattle.definitions.specs.Reading.{most_heads}
use Rattle.definitions.specs.Zone.{Rr, Zone, cut, data_at, has, is_of, sorted_data}
use Rattle.denial_laws.proofs.ChainBits.{all_at}
use Rattle.messages.specs.declared.error.MessageError.{MessageError}
use Rattle.messages.specs.Message.{Asked, Message, message, owner_at}
use Rattle.messages.specs.WrittenLaws.{IsQuestion}
use Rattle.messages.proofs.Lists.{all_fail}
use Rattle.answer_judge.specs.Honest.{NoStranger}
use Rattle.answer_judge.specs.Judging.{JudgeInput}
use Rattle.answer_judge_facts.specs.DnskeyAnswer.{keys_in}
use Rattle.answer_judge_table.specs.Table.{answers_with}
use Rattle.resolution_step.specs.KnownDs.{known_ds, knows}
use Rattle.resolution_step.specs.Truth.{AreHonestBeside}
use Rattle.tree_laws.specs.Orderly.{IsOrderlyZone}
use Rattle.tree_laws.specs.Tree.{is_bound, zone_at}
use Rattle.evidence_laws.specs.Given as given
use Rattle.evidence_laws.specs.Given.{judge_input}
use Rattle.evidence_laws.specs.Truth.{HandsOut, IsAnchored, IsOfTree, SignedZone, tree_of, zone_of}
use Rattle.witness_laws.specs.Evidence.{child_answer, evidence, parent_answer}
use Rattle.witness_laws.specs.Signed.{passes}
use Rattle.witness_laws.specs.Zones.{c_s, child, child_ds, child_version, p, parent, parent_ds, parent_version, s, u, x_u, y_d, y_e, zones}
use Rattle.witness_laws.proofs.Apart.{Apart, chainable, near}
use Rattle.witness_laws.proofs.ChildDealt as below
use Rattle.witness_laws.proofs.Names.{is_name}
use Rattle.witness_laws.proofs.OfTree.{IsFine, IsSigned, honest, true_are}
use Rattle.witness_laws.proofs.Ordered.{at_place, by_record, child_orderly, child_records, child_zone, in_list, never, other, p_is, parent_orderly, parent_records, parent_zone, s_is, u_is}
use Rattle.witness_laws.proofs.ParentDealt as above
use Rattle.witness_laws.proofs.Ready.{ready}
use Rattle.witness_laws.proofs.Unforged.{read_of}

-- ---- the parent's messages

question_is : (n : Name) (t : ℕ) → IsName n → t < 65536 → IsQuestion (record { name = n; rtype = t; class = 1 })
question_is n t is small = record { name = is; rtype = small; class = ltb-true 1 65536 refl }

abbrev ParentFine : given.Message → Type 0
ParentFine m = low m.zone ≡ low p → IsFine p above.keys above.signings Apart m

abbrev ChildFine : given.Message → Type 0
ChildFine m = low m.zone ≡ low s → IsFine s below.keys below.signings (λ n. Unit {0}) m

pub not_parent : {P : Type 0} → low s ≡ low p → P
not_parent e = absurd cc

pub not_child : {P : Type 0} → low p ≡ low s → P
not_child e = absurd cc

parent_fine : AllByRecursion ParentFine evidence.messages
parent_fine = (
  (λ e. record { question = question_is p 48 p_is (ltb-true 48 65536 refl); inside = refl; unforged = above.answer_unforged; near = near p refl }),
  (
    (λ e. record { question = question_is c_s 1 (is_name c_s refl refl) (ltb-true 1 65536 refl); inside = refl; unforged = above.alias_unforged; near = near c_s refl }),
    (
      (λ e. record { question = question_is y_d 1 (is_name y_d refl refl) (ltb-true 1 65536 refl); inside = refl; unforged = above.redirect_unforged; near = near y_d refl }),
      (
        (λ e. record { question = question_is y_e 1 (is_name y_e refl refl) (ltb-true 1 65536 refl); inside = refl; unforged = above.star_unforged; near = near y_e refl }),
        (
          (λ e. record { question = question_is x_u 1 (is_name x_u refl refl) (ltb-true 1 65536 refl); inside = refl; unforged = above.open_unforged; near = near x_u refl }),
          (
            (λ e. record { question = question_is u 43 u_is (ltb-true 43 65536 refl); inside = refl; unforged = above.no_ds_unforged; near = near u refl }),
            ((λ e. not_parent e), ((λ e. not_parent e), ((λ e. not_parent e), ((λ e. not_parent e), tt)))),
          ),
        ),
      ),
    ),
  ),
)

child_fine : AllByRecursion ChildFine evidence.messages
child_fine = (
  (λ e. not_child e),
  (
    (λ e. not_child e),
    (
      (λ e. not_child e),
      (
        (λ e. not_child e),
        (
          (λ e. not_child e),
          (
            (λ e. not_child e),
            (
              (λ e. record { question = question_is s 48 s_is (ltb-true 48 65536 refl); inside = refl; unforged = below.answer_unforged; near = λ o up inside. tt }),
              (
                (λ e. record { question = question_is c_s 1 (is_name c_s refl refl) (ltb-true 1 65536 refl); inside = refl; unforged = below.alias_unforged; near = λ o up inside. tt }),
                (
                  (λ e. record { question = question_is y_d 1 (is_name y_d refl refl) (ltb-true 1 65536 refl); inside = refl; unforged = below.redirect_unforged; near = λ o up inside. tt }),
                  ((λ e. record { question = question_is y_e 1 (is_name y_e refl refl) (ltb-true 1 65536 refl); inside = refl; unforged = below.star_unforged; near = λ o up inside. tt }), tt),
                ),
              ),
            ),
          ),
        ),
      ),
    ),
  ),
)

-- ---- no key is a stranger's

abbrev message_ok : Message → Result Message MessageError
message_ok x = Ok x

ok_is : (x y : Message) → message_ok x ≡ message_ok y → x ≡ y
ok_is x y e = cc

module _ (apex : Name) (keys : List Dnskey) (octets : List ℕ) (reads : message pointer_limit octets ≡ Ok (read_of octets)) (keys_are : keys_in octets apex (read_of octets).records ≡ keys) where
  no_stranger : (h : JudgeInput) → h.apex ≡ apex → h.dnskey_bytes ≡ octets → NoStranger (ready passes) pointer_limit h keys
  no_stranger h apex_is octets_are read key is there trusted =
      let back : message pointer_limit h.dnskey_bytes ≡ Ok (read_of octets) = (λ i. message pointer_limit (octets_are i)) ∙ reads in
      let alike : read ≡ read_of octets = ok_is read (read_of octets) (sym is ∙ back) in
      let all : keys_in h.dnskey_bytes h.apex read.records ≡ keys = (λ i. keys_in (octets_are i) (apex_is i) (alike i).records) ∙ keys_are in
      subst (λ (ks : List Dnskey). Contains ks key) all there

parent_read : message pointer_limit parent_answer ≡ Ok (read_of parent_answer)
unfolding pointer_limit most_heads owner_at
parent_read = refl

parent_keys_are : keys_in parent_answer p (read_of parent_answer).records ≡ above.keys
unfolding pointer_limit most_heads owner_at
parent_keys_are = refl

child_read : message pointer_limit child_answer ≡ Ok (read_of child_answer)
unfolding pointer_limit most_heads owner_at
child_read = refl

child_keys_are : keys_in child_answer s (read_of child_answer).records ≡ below.keys
unfolding pointer_limit most_heads owner_at
child_keys_are = refl

-- ---- both zones are signed

abbrev parent_set : List Ds
parent_set = parent_ds ∷ []

abbrev child_set : List Ds
child_set = child_ds ∷ []

pub parent_signed : IsSigned Apart parent parent_set
parent_signed = record {
  keys = above.keys;
  signings = above.signings;
  octets = parent_answer;
  apex_is = p_is;
  keys_found = refl;
  ds_some = λ e. cc;
  fine = λ m there is. all_at ParentFine evidence.messages m parent_fine there is;
  version_is = λ asked answer apart. record { records_are = parent_records; in_order = parent_orderly.servable; few = ltb-true 0 65536 refl; chain = chainable; apart = apart; truly = tt };
  flags_are = (ltb-true 257 65536 refl, tt);
  of_versions = (at_place (parent_version ∷ []) parent_version 0 refl refl, tt);
  keys_unforged = above.answer_unforged;
  no_stranger = λ asked answer. no_stranger p above.keys parent_answer parent_read parent_keys_are (judge_input evidence p parent_set asked parent_answer answer) refl refl;
}

pub child_signed : IsSigned (λ n. Unit {0}) child child_set
child_signed = record {
  keys = below.keys;
  signings = below.signings;
  octets = child_answer;
  apex_is = s_is;
  keys_found = refl;
  ds_some = λ e. cc;
  fine = λ m there is. all_at ChildFine evidence.messages m child_fine there is;
  version_is = λ asked answer apart. record { records_are = child_records; in_order = child_orderly.servable; few = tt; chain = tt; apart = tt; truly = tt };
  flags_are = (ltb-true 257 65536 refl, (ltb-true 257 65536 refl, tt));
  of_versions = (at_place (child_version ∷ []) child_version 0 refl refl, (at_place (child_version ∷ []) child_version 0 refl refl, tt));
  keys_unforged = below.answer_unforged;
  no_stranger = λ asked answer. no_stranger s below.keys child_answer child_read child_keys_are (judge_input evidence s child_set asked child_answer answer) refl refl;
}

-- ---- delegations

filter_none : {X : Type 0} (f : X → Bool) (xs : List X) → AllByRecursion (λ x. f x ≡ false) xs → filter f xs ≡ []
filter_none f [] none = refl
filter_none f (x ∷ xs) none = (λ i. cond (none.0 i) (x ∷ filter f xs) (filter f xs)) ∙ filter_none f xs none.1

-- a delegation with DS of a known kind has a DS record
bound_has : (z : Zone) (c : Name) → is_bound (knows []) z c ≡ true → has z c 43 ≡ true
bound_has z c bound = go (has z c 43) refl
  where
    go : (b : Bool) → has z c 43 ≡ b → b ≡ true
    go true is = refl
    go false is =
        let none : filter (is_of c 43) z.records ≡ [] = filter_none (is_of c 43) z.records (all_fail (is_of c 43) z.records is) in
        absurd (false≢true ((λ i. list_any (knows []) (sorted_data (map (λ (r : Rr). r.bytes) (sym none i)))) ∙ bound))

never_bound : (c : Name) → is_bound (knows []) child_zone c ≡ true → ⊥
never_bound c bound = never child_zone 43 (refl, (refl, (refl, (refl, tt)))) c (bound_has child_zone c bound)

only_child : (c : Name) → is_bound (knows []) parent_zone c ≡ true → c ≡ s
only_child c bound =
    by_record parent_zone c 43 (λ n t. t ≡ 43 → n ≡ s) ((λ is. absurd (other 6 43 refl is)), ((λ is. refl), ((λ is. refl), ((λ is. absurd (other 2 43 refl is)), tt)))) (bound_has parent_zone c bound) refl

both : (P : SignedZone → Type 0) → P parent → P child → (z : SignedZone) → Contains zones z → P z
both P one other z there = all_at P zones z (one, (other, tt)) (in_list zones z there)

-- ---- by its DS set

pub data AnchoredAs (z : SignedZone) (ds : List Ds) : Type 0 where
  AsParent : z ≡ parent → ds ≡ parent_set → AnchoredAs z ds
  AsChild : z ≡ child → ds ≡ child_set → AnchoredAs z ds

no_cut : {P : Type 0} (c : Name) → None ≡ Some c → P
no_cut c e = absurd cc

parent_hands : (ds : List Ds) → HandsOut [] zones p ds → AnchoredAs parent ds
parent_hands ds out =
    both (λ z. cut (zone_of z).zone p ≡ Some p → AnchoredAs parent ds) (λ e. no_cut p e) (λ e. no_cut p e) out.parent out.there out.delegates

child_hands : (ds : List Ds) → HandsOut [] zones s ds → AnchoredAs child ds
child_hands ds out =
    both (λ z. cut (zone_of z).zone s ≡ Some s → ds ≡ known_ds [] (data_at (zone_of z).zone s 43) → AnchoredAs child ds)
    (λ e are. AsChild refl are) (λ e are. no_cut s e) out.parent out.there out.delegates out.ds_are

pub anchored_as : (z : SignedZone) (ds : List Ds) → IsAnchored evidence zones parent z ds → AnchoredAs z ds
anchored_as z ds anchored = elim (anchored.by) [
  | inl is ↦ AsParent is.0 is.1
  | inr out ↦ both (λ y. HandsOut [] zones y.apex ds → AnchoredAs y ds) (parent_hands ds) (child_hands ds) z anchored.there out
]

-- ---- the tree

pub of_tree : IsOfTree evidence 1 zones parent
of_tree = record {
  in_order = λ z there. both (λ y. IsOrderlyZone (zone_of y)) parent_orderly child_orderly z there;
  whole = λ z q c there delegated bound.
      both (λ y. is_bound (knows []) (zone_of y).zone c ≡ true → (below : SignedZone) × Contains zones below × (below.apex ≡ c) × (zone_at (tree_of zones) c ≡ Some (zone_of below)))
      (λ b.
      let is : s ≡ c = sym (only_child c b) in
      (child, at_place zones child 1 refl refl, is, ap (zone_at (tree_of zones)) (sym is)))
      (λ b. absurd (never_bound c b)) z there bound;
  anchor_there = at_place zones parent 0 refl refl;
  anchor_is = refl;
  passes = passes;
  true_are = true_are;
  honest = λ z ds asked h in_class anchored of. by (anchored_as z ds anchored) asked h in_class of;
}
  where
    by : {z : SignedZone} {ds : List Ds} → AnchoredAs z ds → (asked : Asked) (h : JudgeInput) → asked.class ≡ 1 → given.IsOf evidence z.apex ds asked h → AreHonestBeside (answers_with passes) pointer_limit h (z.version ∷ [])
    by {z} {ds} (AsParent is are) asked h in_class of =
        subst (λ (y : SignedZone). AreHonestBeside (answers_with passes) pointer_limit h (y.version ∷ [])) (sym is)
        (honest Apart parent parent_set parent_signed asked h in_class (subst (λ (x : List Ds). given.IsOf evidence p x asked h) are (subst (λ (y : SignedZone). given.IsOf evidence y.apex ds asked h) is of)))
    by {z} {ds} (AsChild is are) asked h in_class of =
        subst (λ (y : SignedZone). AreHonestBeside (answers_with passes) pointer_limit h (y.version ∷ [])) (sym is)
        (honest (λ n. Unit {0}) child child_set child_signed asked h in_class (subst (λ (x : List Ds). given.IsOf evidence s x asked h) are (subst (λ (y : SignedZone). given.IsOf evidence y.apex ds asked h) is of)))
