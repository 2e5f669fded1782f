-- Keys that a zone has given are shown.
use Rattle.std.proofs.Common.{◌≡◌, ℕ, ◌<◌, true, false, List, [], ◌∷◌, length, map, refl, sym, ap, ◌∙◌, inl, arith}
use Rattle.std.specs.Prelude.{nat_eq}
use Rattle.std.specs.List.{filter}
use Rattle.std.proofs.lemmas.Bool.{and_from, eq-eqb, false≢true, lt-ltb, ne_eqb}
use Rattle.definitions.specs.Dnskey.{Dnskey, Ds, dnskey_data, key_tag}
use Rattle.definitions.specs.Name.{low}
use Rattle.definitions.specs.Zone.{sorted_data}
use Rattle.messages.specs.Message.{Asked, Message}
use Rattle.messages.proofs.Lists.{Has}
use Rattle.messages.proofs.ZoneNames.{labels_eq-same}
use Rattle.answer_scheme.specs.Answers.{Answers}
use Rattle.answer_terms.specs.EqualTags.{has_equal_tags}
use Rattle.answer_terms.specs.Served.{ServedRrset, by_tag, key_group}
use Rattle.answer_terms.specs.Told.{fields_for}
use Rattle.answer_judge.specs.Judging.{JudgeInput}
use Rattle.answer_judge_keys.specs.Trusted.{is_trusted}
use Rattle.answer_judge_keys.proofs.GivenKeys.{by_tag-has, data_of_key, find_kept}
use Rattle.answer_judge_keys.proofs.GivenSorted.{data_has, some_length, sorted_twice}
use Rattle.answer_judge.specs.Judged.{ds_authenticates_keys, keys_of, trusting}
use Rattle.answer_judge_facts.specs.Verified.{Trusting, is_verified}
use Rattle.answer_judge.proofs.GivenChained.{keys_apart, keys_data, keys_has, trusted_given}
use Rattle.answer_judge.proofs.GivenLists.{has_contained}
use Rattle.answer_judge.proofs.GivenSignatures.{IsSignedBy, fits_equal, verified_given}
use Rattle.message_laws.specs.Given.{KeysWereGiven}
use Rattle.message_laws.specs.Shown.{ShowsKeys}

some_ds : (ds : List Ds) (d : Ds) → Has ds d → 0 < length ds
some_ds [] d i = absurd i
some_ds (x ∷ xs) d i = omega arith

module _ (a : Answers) (k : ℕ) (h : JudgeInput) (given : KeysWereGiven a k h.apex h.ds h.dnskey_bytes h.now) where
  abbrev read : Message
  read = given.told.read

  abbrev keys : List Dnskey
  keys = keys_of h read

  abbrev datas : List (List ℕ)
  datas = sorted_data (map dnskey_data given.present)

  there : Has given.present given.anchor
  there = has_contained given.present given.anchor given.anchor_present

  pub named : nat_eq (length h.ds) 0 ≡ false
  named =
      let some : 0 < length h.ds = some_ds h.ds _ (has_contained h.ds (record { tag = key_tag given.anchor; algorithm = given.anchor.algorithm; digest_type = given.ds_is.digest_type; digest = given.ds_is.digest }) given.ds_is.held) in
      ne_eqb (length h.ds) 0 (λ e. omega (arith, e, some))

  pub apart : has_equal_tags keys ≡ false
  apart = keys_apart a.verifies k given.ttl h.apex given.present given.keysigners given.at given.life h.dnskey_bytes given.told given.flags_are given.present_tags

  -- the key that is named signs all of them
  pub chained : ds_authenticates_keys a k h read ≡ true
  chained =
      let anchor : Dnskey = given.anchor in
      let w : Trusting = trusting a h (filter (is_trusted a h.apex h.ds) keys) in
      let g : ServedRrset = key_group h.apex given.ttl given.present in
      let trusted : is_trusted a h.apex h.ds anchor ≡ true = trusted_given a h.apex h.ds anchor given.anchor_usable given.ds_is in
      let kept : Has keys anchor = keys_has a.verifies k given.ttl h.apex given.present given.keysigners given.at given.life h.dnskey_bytes given.told given.flags_are anchor there in
      let are : map dnskey_data keys ≡ datas = keys_data a.verifies k given.ttl h.apex given.present given.keysigners given.at given.life h.dnskey_bytes given.told given.flags_are in
      let some : 0 < length datas = some_length datas (dnskey_data anchor) (data_has (map dnskey_data given.present) (dnskey_data anchor) (data_of_key given.present anchor there)) in
      let by : IsSignedBy w h.apex given.at given.life (by_tag given.keysigners) (g ∷ []) g anchor = record {
        apex_is = refl;
        group = inl refl;
        signed = lt-ltb 0 (length datas) some;
        some = some;
        fits = fits_equal h.apex g refl;
        signer = by_tag-has given.keysigners anchor given.keysigner_tags (has_contained given.keysigners anchor given.signs_keys);
        found = find_kept (is_trusted a h.apex h.ds) keys anchor (fields_for h.apex given.at given.life g anchor) apart kept trusted refl refl;
        hold = given.hold;
      } in
      ap (is_verified w k h.dnskey_bytes read.records h.apex 48) (ap sorted_data are ∙ sorted_twice (map dnskey_data given.present))
      ∙ verified_given w k h.dnskey_bytes read.records h.apex given.at given.life (by_tag given.keysigners) (g ∷ []) h.apex 48 g anchor given.told.groups_are by refl refl

  -- so they are shown
  abbrev pub keys_shown : ShowsKeys a k h.apex h.ds h.dnskey_bytes h.now
  keys_shown = record {
    read = read;
    reads = given.told.reads;
    asks =
        let x : Asked = read.asked in
        and_from _ _ (and_from _ _ (labels_eq-same (low x.name) (low h.apex) given.told.name_is) (eq-eqb x.rtype 48 given.told.rtype_is)) (eq-eqb x.class 1 given.told.class_is);
    ds_some = λ none. false≢true (sym named ∙ ap (λ (ds : List Ds). nat_eq (length ds) 0) none);
    tags = apart;
    signed = chained;
  }
