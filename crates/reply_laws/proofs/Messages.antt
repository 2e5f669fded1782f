-- A scheme makes one message for a question, and a table that makes it lacks no signature of it.
use Rattle.std.proofs.Common.{◌≡◌, ◌∙◌, ℕ, Bool, true, false, cond, List, [], ◌∷◌, ◌++◌, map, length, take, drop, Option, Some, refl, sym, ap, subst}
use Rattle.std.specs.Prelude.{if◌then◌else◌, is_none}
use Rattle.std.specs.List.{AllZip}
use Rattle.std.proofs.Math.Seq.{drop-append_seam, take-append_seam}
use Rattle.std.proofs.lemmas.List.Elements.{filter-append}
use Rattle.definitions.specs.Name.{Name}
use Rattle.definitions.specs.Dnskey.{Dnskey}
use Rattle.definitions.specs.Zone.{verdict}
use Rattle.messages.specs.Message.{Asked}
use Rattle.messages.specs.Rrsig.{rrsig_data}
use Rattle.messages.specs.Written.{Written, message_octets}
use Rattle.answer_terms.specs.GroupView.{GroupView, IsRrsigData, fields_of, octets_of, view_of}
use Rattle.answer_terms.specs.Served.{Served, ServedRrset, answer_groups}
use Rattle.answer_zone.specs.ZoneAnswers.{flags_for}
use Rattle.answer_publisher.specs.Answering.{AnswersApex, AnswersZone, apex_question}
use Rattle.answer_publisher.specs.Composed.{IsAnswer, IsWritten, joined, rrsig_of}
use Rattle.answer_publisher.specs.Inputs.{Input, all_inputs, input, inputs_by, inputs_of}
use Rattle.answer_publisher.proofs.InputsMade.{inputs_of_one, inputs_presented}
use Rattle.answer_publisher.proofs.WritesAnswer.{all_presented, presented}
use Rattle.server_answers.specs.Table.{Made, is_missing, missing, sign_by}

-- ---- lists

-- what is so of one thing at most is so of one list, place by place
zip_once : {A B : Type 0} (R : A → B → Type 0) → ((a : A) (b c : B) → R a b → R a c → b ≡ c) → (xs : List A) (ys zs : List B) → AllZip R xs ys → AllZip R xs zs → ys ≡ zs
zip_once R once [] [] [] p q = refl
zip_once R once (x ∷ xs) (y ∷ ys) (z ∷ zs) p q = λ i. once x y z p.0 q.0 i ∷ zip_once R once xs ys zs p.1 q.1 i
zip_once R once [] [] (z ∷ zs) p q = absurd q
zip_once R once [] (y ∷ ys) zs p q = absurd p
zip_once R once (x ∷ xs) [] zs p q = absurd p
zip_once R once (x ∷ xs) (y ∷ ys) [] p q = absurd q

fronts_once : {A : Type 0} (a b c d : List A) → length a ≡ length c → a ++ b ≡ c ++ d → (a ≡ c) × (b ≡ d)
fronts_once a b c d n e = (
  sym (take-append_seam a b) ∙ (λ i. take (n i) (e i)) ∙ take-append_seam c d,
  sym (drop-append_seam a b) ∙ (λ i. drop (n i) (e i)) ∙ drop-append_seam c d,
)

-- ---- one message

module _ (sign : Dnskey → List ℕ → Option (List ℕ)) (verifies : Dnskey → List ℕ → List ℕ → Bool) (apex : Name) (at life : ℕ) where
  data_once : (g : GroupView) (key : Dnskey) (d e : List ℕ) → IsRrsigData sign verifies apex at life g key d → IsRrsigData sign verifies apex at life g key e → d ≡ e
  data_once g key d e p q =
      let both : Some p.signature ≡ Some q.signature = sym p.made ∙ q.made in
      let same : p.signature ≡ q.signature = cc in
      p.data_is ∙ ap (rrsig_data (fields_of apex at life g key)) same ∙ sym q.data_is

  written_once : (keys : List Dnskey) (g : GroupView) (vs ws : List Written) → IsWritten sign verifies apex at life keys g vs → IsWritten sign verifies apex at life keys g ws → vs ≡ ws
  written_once keys g vs ws p q =
      let same = zip_once (IsRrsigData sign verifies apex at life g) (data_once g) (if g.signed then keys else []) p.0 q.0 p.1.0 q.1.0 in
      p.1.1 ∙ ap (λ (s : List (List ℕ)). g.written ++ map (rrsig_of g) s) same ∙ sym q.1.1

  answer_once : (keys : List Dnskey) (flags : ℕ) (asked : Asked) (answer authority : List GroupView) (m n : List ℕ)
      → IsAnswer sign verifies apex at life keys flags asked answer authority m → IsAnswer sign verifies apex at life keys flags asked answer authority n → m ≡ n
  answer_once keys flags asked answer authority m n p q =
      let a = zip_once (IsWritten sign verifies apex at life keys) (written_once keys) answer p.answers q.answers p.answers_are q.answers_are in
      let b = zip_once (IsWritten sign verifies apex at life keys) (written_once keys) authority p.authorities q.authorities p.authorities_are q.authorities_are in
      p.octets_are ∙ (λ i. message_octets flags asked (joined (a i)) (joined (b i))) ∙ sym q.octets_are

  pub zone_once : (s : Served) (keys : List Dnskey) (asked : Asked) (m n : List ℕ)
      → AnswersZone sign verifies s apex at life keys asked m → AnswersZone sign verifies s apex at life keys asked n → m ≡ n
  zone_once s keys asked m n p q =
      let gs = answer_groups s asked.name asked.rtype in
      let flags = flags_for (verdict s.zone false asked.name asked.rtype) in
      let whole = all_presented (p.answer ++ p.authority) gs p.groups_are ∙ sym (all_presented (q.answer ++ q.authority) gs q.groups_are) in
      let parts = fronts_once p.answer p.authority q.answer q.authority (p.split ∙ sym q.split) whole in
      let there : IsAnswer sign verifies apex at life keys flags asked q.answer q.authority m =
      subst (λ (x : List GroupView). IsAnswer sign verifies apex at life keys flags asked x q.authority m) parts.0
      (subst (λ (y : List GroupView). IsAnswer sign verifies apex at life keys flags asked p.answer y m) parts.1 p.written)
      in
      answer_once keys flags asked q.answer q.authority m n there q.written

  pub apex_once : (keys : List Dnskey) (of : ServedRrset) (m n : List ℕ) → AnswersApex sign verifies apex at life keys of m → AnswersApex sign verifies apex at life keys of n → m ≡ n
  apex_once keys of m n p q =
      let same = presented p.group of p.presents ∙ sym (presented q.group of q.presents) in
      let there : IsAnswer sign verifies apex at life keys 33792 (apex_question apex of.rtype) (q.group ∷ []) [] m =
      subst (λ (g : GroupView). IsAnswer sign verifies apex at life keys 33792 (apex_question apex of.rtype) (g ∷ []) [] m) same p.written
      in
      answer_once keys 33792 (apex_question apex of.rtype) (q.group ∷ []) [] m n there q.written

-- ---- no signature that is missing

module _ (table : List Made) (verifies : Dnskey → List ℕ → List ℕ → Bool) (apex : Name) (at life : ℕ) where
  none_by : (g : GroupView) (keys : List Dnskey) (ds : List (List ℕ)) → AllZip (IsRrsigData (sign_by table) verifies apex at life g) keys ds → missing table (inputs_by apex at life g keys) ≡ []
  none_by g [] [] h = refl
  none_by g [] (d ∷ ds) h = absurd h
  none_by g (k ∷ keys) [] h = absurd h
  none_by g (k ∷ keys) (d ∷ ds) h =
      let is : List Input = inputs_by apex at life g keys in
      let there : is_missing table (input k (octets_of apex at life g k)) ≡ false = ap is_none h.0.made in
      subst (λ (b : Bool). cond b (input k (octets_of apex at life g k) ∷ missing table is) (missing table is) ≡ []) (sym there) (none_by g keys ds h.1)

  none_of : (keys : List Dnskey) (g : GroupView) (ws : List Written) → IsWritten (sign_by table) verifies apex at life keys g ws → missing table (inputs_of apex at life keys g) ≡ []
  none_of keys g ws h = go g.signed h.0 h.1.0
    where
      go : (b : Bool) (ds : List (List ℕ)) → AllZip (IsRrsigData (sign_by table) verifies apex at life g) (if b then keys else []) ds → missing table (if b then inputs_by apex at life g keys else []) ≡ []
      go true ds p = none_by g keys ds p
      go false ds p = refl

  none_among : (keys : List Dnskey) (gs : List GroupView) (pieces : List (List Written)) → AllZip (IsWritten (sign_by table) verifies apex at life keys) gs pieces → missing table (all_inputs apex at life keys gs) ≡ []
  none_among keys [] [] h = refl
  none_among keys [] (ws ∷ pieces) h = absurd h
  none_among keys (g ∷ gs) [] h = absurd h
  none_among keys (g ∷ gs) (ws ∷ pieces) h =
      filter-append (is_missing table) (inputs_of apex at life keys g) (all_inputs apex at life keys gs) ∙ (λ i. none_of keys g ws h.0 i ++ none_among keys gs pieces h.1 i)

  pub zone_lacks_none : (s : Served) (keys : List Dnskey) (asked : Asked) (m : List ℕ) → AnswersZone (sign_by table) verifies s apex at life keys asked m
      → missing table (all_inputs apex at life keys (map view_of (answer_groups s asked.name asked.rtype))) ≡ []
  zone_lacks_none s keys asked m p =
      let front : List Input = all_inputs apex at life keys p.answer in
      let behind : List Input = all_inputs apex at life keys p.authority in
      ap (missing table) (sym (inputs_presented apex at life keys p.answer p.authority (answer_groups s asked.name asked.rtype) p.groups_are))
      ∙ filter-append (is_missing table) front behind
      ∙ (λ i. none_among keys p.answer p.written.answers p.written.answers_are i ++ none_among keys p.authority p.written.authorities p.written.authorities_are i)

  pub apex_lacks_none : (keys : List Dnskey) (of : ServedRrset) (m : List ℕ) → AnswersApex (sign_by table) verifies apex at life keys of m → missing table (all_inputs apex at life keys (view_of of ∷ [])) ≡ []
  apex_lacks_none keys of m p =
      ap (missing table) (sym (inputs_of_one apex at life keys p.group of p.presents)) ∙ none_among keys (p.group ∷ []) p.written.answers p.written.answers_are
