-- The messages show the keys of both zones and what these answer.
use Rattle.std.proofs.Common.{◌≡◌, ℕ, true, false, List, [], ◌∷◌, Some, Ok, refl, inl, inr, arith}
use Rattle.std.specs.Prelude.{◌<◌, Contains}
use Rattle.std.proofs.lemmas.Bool.{false≢true, leb-true, ltb-true}
use Rattle.definitions.specs.Bitmap.{octet_of, window_count, window_size}
use Rattle.definitions.specs.Dnskey.{Dnskey, Ds}
use Rattle.definitions.specs.Limits.{pointer_limit}
use Rattle.definitions.specs.Name.{IsName, Name}
use Rattle.definitions.specs.Reading.{most_heads}
use Rattle.definitions.specs.Zone.{NoType, Open}
use Rattle.definitions.specs.ZoneChain.{Nsec, hashed_names, nsec_names}
use Rattle.messages.specs.Message.{Asked, message, owner_at}
use Rattle.messages.specs.WrittenLaws.{IsQuestion}
use Rattle.answer_judge.specs.Judged.{ds_authenticates_keys}
use Rattle.answer_judge.specs.Judging.{same_question}
use Rattle.answer_judge_facts.specs.DnskeyAnswer.{keys_in}
use Rattle.answer_findings.specs.Judgements.{alias_hint}
use Rattle.answer_terms.specs.EqualTags.{has_equal_tags}
use Rattle.answer_terms.specs.Hashing.{HashesHold}
use Rattle.answer_zone_records.specs.AliasFaults.{IsAcceptedWithAliases}
use Rattle.message_laws.specs.InPlace.{LeadsToOne}
use Rattle.message_laws.specs.Shown.{IsShown, IsTruthful, Shows, ShowsKeys, usable_of}
use Rattle.witness_laws.specs.Evidence.{alias_answer, asking, child_answer, no_ds, parent_answer, redirect_answer, star_answer}
use Rattle.witness_laws.specs.Signed.{passes}
use Rattle.witness_laws.specs.Zones.{c_s, child_ds, child_version, d_s, e_s, p, parent_ds, parent_version, s, star_e, u, y_d, y_e}
use Rattle.witness_laws.proofs.Apart.{chainable, hash, mode, near}
use Rattle.witness_laws.proofs.Judged.{asking_for, of_child, of_parent}
use Rattle.witness_laws.proofs.Names.{is_name}
use Rattle.witness_laws.proofs.Ordered.{at_place, child_zone, parent_zone, u_is}
use Rattle.witness_laws.proofs.Ready.{ready}
use Rattle.witness_laws.proofs.Unforged.{read_of}

-- ---- keys

abbrev pub parent_set : List Ds
parent_set = parent_ds ∷ []

abbrev pub child_set : List Ds
child_set = child_ds ∷ []

pub parent_reads : message pointer_limit parent_answer ≡ Ok (read_of parent_answer)
unfolding pointer_limit most_heads owner_at
parent_reads = refl

pub parent_asks : same_question (read_of parent_answer).asked (record { name = p; rtype = 48; class = 1 }) ≡ true
unfolding pointer_limit most_heads owner_at
parent_asks = refl

pub parent_tags : has_equal_tags (keys_in parent_answer p (read_of parent_answer).records) ≡ false
unfolding pointer_limit most_heads owner_at
parent_tags = refl

pub parent_signs : ds_authenticates_keys (ready passes) pointer_limit (of_parent (asking_for p 48) []) (read_of parent_answer) ≡ true
unfolding pointer_limit most_heads owner_at
parent_signs = refl

pub parent_named : parent_set ≡ [] → ⊥
parent_named e = cc

abbrev pub parent_keys : ShowsKeys (ready passes) pointer_limit p parent_set parent_answer 1500
parent_keys = record { read = read_of parent_answer; reads = parent_reads; asks = parent_asks; ds_some = parent_named; tags = parent_tags; signed = parent_signs }

pub child_reads : message pointer_limit child_answer ≡ Ok (read_of child_answer)
unfolding pointer_limit most_heads owner_at
child_reads = refl

pub child_asks : same_question (read_of child_answer).asked (record { name = s; rtype = 48; class = 1 }) ≡ true
unfolding pointer_limit most_heads owner_at
child_asks = refl

pub child_tags : has_equal_tags (keys_in child_answer s (read_of child_answer).records) ≡ false
unfolding pointer_limit most_heads owner_at
child_tags = refl

pub child_signs : ds_authenticates_keys (ready passes) pointer_limit (of_child (asking_for s 48) []) (read_of child_answer) ≡ true
unfolding pointer_limit most_heads owner_at
child_signs = refl

pub child_named : child_set ≡ [] → ⊥
child_named e = cc

abbrev pub child_keys : ShowsKeys (ready passes) pointer_limit s child_set child_answer 1500
child_keys = record { read = read_of child_answer; reads = child_reads; asks = child_asks; ds_some = child_named; tags = child_tags; signed = child_signs }

abbrev child_usable : List Dnskey
child_usable = usable_of child_keys

abbrev parent_usable : List Dnskey
parent_usable = usable_of parent_keys

-- ---- both zones are accepted

child_accepted : IsAcceptedWithAliases (ready passes).hash s Nsec 0 child_version.records
unfolding most_heads owner_at
child_accepted = record {
  faultless = record { plain = record { of_class_in = refl; inside = refl; unsigned = refl; known = refl; no_star_delegation = refl }; aliases = refl; within_limit = refl };
  chained = record { soa = refl; ttls = refl; chain = tt };
}

parent_accepted : IsAcceptedWithAliases (ready passes).hash p mode 0 parent_version.records
parent_accepted = record {
  faultless = record { plain = record { of_class_in = refl; inside = refl; unsigned = refl; known = refl; no_star_delegation = refl }; aliases = refl; within_limit = refl };
  chained = record { soa = refl; ttls = refl; chain = chainable };
}

unhashed : (n : Name) → HashesHold (ready passes).hash Nsec child_zone n
unhashed n = record { made = tt; apart = tt }

-- ---- what is verified in the child's answers is true

none_there : {X : Type 0} {P : Type 0} (x : X) → Contains [] x → P
none_there x c = let less : c.0 < 0 = c.1 in absurd (omega (arith, less))

abbrev IsTrue : List ℕ → Asked → Type 0
IsTrue octets asked = IsTruthful (ready passes) pointer_limit (of_child asked octets) child_usable (read_of octets) Nsec child_version.records asked

alias_own_true : IsTruthful (ready passes) pointer_limit (of_child (asking c_s) alias_answer) child_usable (read_of alias_answer) Nsec child_version.records (asking c_s)
unfolding pointer_limit most_heads owner_at octet_of window_size window_count
alias_own_true = record { rrset = tt; chain = ((record { owner = at_place (nsec_names child_zone) star_e 3 refl refl; next = refl; bits = refl }, tt), refl); moment = refl }

alias_true : IsTruthful (ready passes) pointer_limit (of_child (asking c_s) alias_answer) child_usable (read_of alias_answer) Nsec child_version.records (asking_for c_s 5)
unfolding pointer_limit most_heads owner_at octet_of window_size window_count
alias_true = record { rrset = record { signed = refl; datas = refl; inside = λ wide. absurd (false≢true wide) }; chain = ((record { owner = at_place (nsec_names child_zone) star_e 3 refl refl; next = refl; bits = refl }, tt), refl); moment = refl }

redirect_own_true : IsTruthful (ready passes) pointer_limit (of_child (asking y_d) redirect_answer) child_usable (read_of redirect_answer) Nsec child_version.records (asking y_d)
unfolding pointer_limit most_heads owner_at octet_of window_size window_count
redirect_own_true = record { rrset = tt; chain = (tt, refl); moment = refl }

redirect_true : IsTruthful (ready passes) pointer_limit (of_child (asking y_d) redirect_answer) child_usable (read_of redirect_answer) Nsec child_version.records (asking_for d_s 39)
unfolding pointer_limit most_heads owner_at octet_of window_size window_count
redirect_true = record { rrset = record { signed = refl; datas = refl; inside = λ wide. absurd (false≢true wide) }; chain = (tt, refl); moment = refl }

star_true : IsTruthful (ready passes) pointer_limit (of_child (asking y_e) star_answer) child_usable (read_of star_answer) Nsec child_version.records (asking y_e)
unfolding pointer_limit most_heads owner_at octet_of window_size window_count
star_true = record { rrset = record { signed = refl; datas = refl; inside = λ wide. leb-true 2 3 refl }; chain = ((record { owner = at_place (nsec_names child_zone) star_e 3 refl refl; next = refl; bits = refl }, tt), refl); moment = refl }

-- ---- and what is due is among it

alias_shows : Shows (ready passes) pointer_limit (of_child (asking c_s) alias_answer) child_usable (read_of alias_answer) Nsec child_version.records (asking_for c_s 5)
unfolding pointer_limit most_heads owner_at octet_of window_size window_count
alias_shows = record {
  truthful = alias_true;
  includes = record { rrset = refl; links = λ l c. none_there l c; hash_links = λ l c. none_there l c };
}

redirect_shows : Shows (ready passes) pointer_limit (of_child (asking y_d) redirect_answer) child_usable (read_of redirect_answer) Nsec child_version.records (asking_for d_s 39)
unfolding pointer_limit most_heads owner_at octet_of window_size window_count
redirect_shows = record {
  truthful = redirect_true;
  includes = record { rrset = refl; links = λ l c. none_there l c; hash_links = λ l c. none_there l c };
}

star_shows : Shows (ready passes) pointer_limit (of_child (asking y_e) star_answer) child_usable (read_of star_answer) Nsec child_version.records (asking y_e)
unfolding pointer_limit most_heads owner_at octet_of window_size window_count
star_shows = record {
  truthful = star_true;
  includes = record { rrset = refl; links = λ l c. c; hash_links = λ l c. none_there l c };
}

-- ---- what the child answers

question_is : (n : Name) (t : ℕ) → IsName n → t < 65536 → IsQuestion (asking_for n t)
question_is n t is small = record { name = is; rtype = small; class = ltb-true 1 65536 refl }

abbrev IsShownByChild : Name → List ℕ → Type 0
IsShownByChild n octets = IsShown (ready passes) pointer_limit (of_child (asking n) octets) Nsec child_version.records

alias_hinted : alias_hint pointer_limit (of_child (asking c_s) alias_answer) ≡ Some (asking_for c_s 5)
unfolding pointer_limit most_heads owner_at octet_of window_size window_count
alias_hinted = refl

alias_read : message pointer_limit alias_answer ≡ Ok (read_of alias_answer)
unfolding pointer_limit most_heads owner_at octet_of window_size window_count
alias_read = refl

alias_leads : LeadsToOne child_zone (asking c_s)
unfolding most_heads owner_at
alias_leads none = (y_d, refl)

pub alias_shown : IsShownByChild c_s alias_answer
alias_shown = record {
  keys = child_keys;
  read = read_of alias_answer;
  reads = alias_read;
  accepted = child_accepted;
  asked_is = question_is c_s 1 (is_name c_s refl refl) (ltb-true 1 65536 refl);
  allowed = refl;
  hashes = unhashed c_s;
  shown = inr (record {
    question = asking_for c_s 5;
    hinted = alias_hinted;
    name_is = refl;
    rtype_is = refl;
    leads = alias_leads;
    hashes = unhashed c_s;
    shows = alias_shows;
    itself = alias_own_true;
  });
}

redirect_hinted : alias_hint pointer_limit (of_child (asking y_d) redirect_answer) ≡ Some (asking_for d_s 39)
unfolding pointer_limit most_heads owner_at octet_of window_size window_count
redirect_hinted = refl

redirect_read : message pointer_limit redirect_answer ≡ Ok (read_of redirect_answer)
unfolding pointer_limit most_heads owner_at octet_of window_size window_count
redirect_read = refl

redirect_leads : LeadsToOne child_zone (asking y_d)
unfolding most_heads owner_at
redirect_leads none = (e_s, refl)

pub redirect_shown : IsShownByChild y_d redirect_answer
redirect_shown = record {
  keys = child_keys;
  read = read_of redirect_answer;
  reads = redirect_read;
  accepted = child_accepted;
  asked_is = question_is y_d 1 (is_name y_d refl refl) (ltb-true 1 65536 refl);
  allowed = refl;
  hashes = unhashed y_d;
  shown = inr (record {
    question = asking_for d_s 39;
    hinted = redirect_hinted;
    name_is = refl;
    rtype_is = refl;
    leads = redirect_leads;
    hashes = unhashed d_s;
    shows = redirect_shows;
    itself = redirect_own_true;
  });
}

star_read : message pointer_limit star_answer ≡ Ok (read_of star_answer)
unfolding pointer_limit most_heads owner_at octet_of window_size window_count
star_read = refl

pub star_shown : IsShownByChild y_e star_answer
star_shown = record {
  keys = child_keys;
  read = read_of star_answer;
  reads = star_read;
  accepted = child_accepted;
  asked_is = question_is y_e 1 (is_name y_e refl refl) (ltb-true 1 65536 refl);
  allowed = refl;
  hashes = unhashed y_e;
  shown = inl (record { answered = refl; shows = star_shows; beside = λ for_ds none below. absurd (let wrong : 1 ≡ 43 = for_ds in cc) });
}

-- ---- what the parent answers

parent_true : IsTruthful (ready passes) pointer_limit (of_parent (asking_for u 43) no_ds) parent_usable (read_of no_ds) mode parent_version.records (asking_for u 43)
unfolding pointer_limit most_heads owner_at octet_of window_size window_count
parent_true = record {
  rrset = tt;
  chain = (
    refl,
    (
      (record { name = p; named = at_place (hashed_names hash parent_zone true) p 0 refl refl; owner = refl; next = refl; bits = refl; opts = refl }, refl, refl),
      ((record { name = s; named = at_place (hashed_names hash parent_zone true) s 1 refl refl; owner = refl; next = refl; bits = refl; opts = refl }, refl, refl), tt),
    ),
  );
  moment = refl;
}

parent_shows : Shows (ready passes) pointer_limit (of_parent (asking_for u 43) no_ds) parent_usable (read_of no_ds) mode parent_version.records (asking_for u 43)
unfolding pointer_limit most_heads owner_at octet_of window_size window_count
parent_shows = record { truthful = parent_true; includes = record { rrset = refl; links = λ l c. none_there l c; hash_links = λ l c. c } }

no_ds_read : message pointer_limit no_ds ≡ Ok (read_of no_ds)
unfolding pointer_limit most_heads owner_at octet_of window_size window_count
no_ds_read = refl

pub no_ds_shown : IsShown (ready passes) pointer_limit (of_parent (asking_for u 43) no_ds) mode parent_version.records
no_ds_shown = record {
  keys = parent_keys;
  read = read_of no_ds;
  reads = no_ds_read;
  accepted = parent_accepted;
  asked_is = question_is u 43 u_is (ltb-true 43 65536 refl);
  allowed = refl;
  hashes = record { made = λ n there. refl; apart = near u refl u refl refl };
  shown = inl (record { answered = refl; shows = parent_shows; beside = λ for_ds none below. absurd (let wrong : Open ≡ NoType = none in cc) });
}
