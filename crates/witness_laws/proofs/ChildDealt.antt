-- Nothing is forged in the messages of the child.
use Rattle.std.proofs.Common.{◌≡◌, ℕ, List, [], ◌∷◌, Ok, refl, inl, inr}
use Rattle.std.specs.List.{AllByRecursion}
use Rattle.definitions.specs.Bitmap.{octet_of, window_count, window_size}
use Rattle.definitions.specs.Dnskey.{Dnskey}
use Rattle.definitions.specs.Limits.{pointer_limit}
use Rattle.definitions.specs.Name.{IsName}
use Rattle.definitions.specs.Reading.{most_heads}
use Rattle.definitions.specs.ZoneChain.{nsec_names}
use Rattle.messages.specs.Message.{message, owner_at}
use Rattle.answer_judge.specs.Honest.{Signing, SignedOfKeys}
use Rattle.answer_judge.specs.Versions.{IsRrsetOf, OfChain, OfZone}
use Rattle.answer_judge_facts.specs.Times.{Times}
use Rattle.answer_terms.specs.Hashing.{hash_in}
use Rattle.witness_laws.specs.Evidence.{alias_answer, child_answer, redirect_answer, star_answer}
use Rattle.witness_laws.specs.Signed.{alias, child_keys, early, fields, last_link, late, passes, redirect, signed, wildcard}
use Rattle.witness_laws.specs.Zones.{c_s, child_version, d_s, new_key, old_key, s, star_e}
use Rattle.witness_laws.proofs.Names.{is_name}
use Rattle.witness_laws.proofs.Ordered.{at_place, child_zone, s_is}
use Rattle.witness_laws.proofs.Ready.{ready}
use Rattle.witness_laws.proofs.Unforged.{IsDealt, IsUnforged, OfOctet, WereSigned, is_unforged, item, made_over, no_signature, of_key, of_version, plain_rrset, read_of}

abbrev pub before : Signing
before = record { version = child_version; times = early }

abbrev pub behind : Signing
behind = record { version = child_version; times = late }

abbrev pub keys : List Dnskey
keys = old_key ∷ new_key ∷ []

abbrev pub signings : List Signing
signings = before ∷ behind ∷ []

abbrev Were : List ℕ → Type 0
Were = WereSigned s keys signings

abbrev Dealt : List ℕ → Type 0
Dealt m = AllByRecursion (IsDealt s keys signings m) (read_of m).records

by_old : AllByRecursion (OfOctet s keys signings 16) keys
by_old = ((16, refl, inl refl), ((32, refl, inr refl), tt))

by_new : AllByRecursion (OfOctet s keys signings 32) keys
by_new = ((16, refl, inr refl), ((32, refl, inl refl), tt))

-- ---- what was signed

old_signed_keys : Were (signed old_key child_keys)
old_signed_keys = SignedOfKeys (record {
  present = keys;
  published_are = (at_place keys old_key 0 refl refl, (at_place keys new_key 1 refl refl, tt));
  fields = fields old_key child_keys;
  over = made_over old_key child_keys refl s_is s_is refl;
})

new_signed_keys : Were (signed new_key child_keys)
new_signed_keys = SignedOfKeys (record {
  present = keys;
  published_are = (at_place keys old_key 0 refl refl, (at_place keys new_key 1 refl refl, tt));
  fields = fields new_key child_keys;
  over = made_over new_key child_keys refl s_is s_is refl;
})

c_s_is : IsName c_s
c_s_is = is_name c_s refl refl

d_s_is : IsName d_s
d_s_is = is_name d_s refl refl

star_is : IsName star_e
star_is = is_name star_e refl refl

-- the last link of its chain
link_of : (times : Times) → IsRrsetOf s (hash_in (ready passes).hash child_version.mode) child_version (plain_rrset (last_link times))
unfolding octet_of window_size window_count
link_of times = OfChain (record { there = at_place (nsec_names child_zone) star_e 3 refl refl; rtype_is = refl; next = s; next_is = refl; datas_are = refl })

alias_signed : Were (signed old_key alias)
alias_signed = of_version s keys signings old_key alias before refl (at_place signings before 0 refl refl) refl (OfZone refl refl) (made_over old_key alias refl s_is c_s_is refl)

old_redirect : Were (signed old_key (redirect early))
old_redirect = of_version s keys signings old_key (redirect early) before refl (at_place signings before 0 refl refl) refl (OfZone refl refl) (made_over old_key (redirect early) refl s_is d_s_is refl)

old_wildcard : Were (signed old_key (wildcard early))
old_wildcard = of_version s keys signings old_key (wildcard early) before refl (at_place signings before 0 refl refl) refl (OfZone refl refl) (made_over old_key (wildcard early) refl s_is star_is refl)

old_link : Were (signed old_key (last_link early))
unfolding octet_of window_size window_count
old_link = of_version s keys signings old_key (last_link early) before refl (at_place signings before 0 refl refl) refl (link_of early) (made_over old_key (last_link early) refl s_is star_is refl)

new_redirect : Were (signed new_key (redirect late))
new_redirect = of_version s keys signings new_key (redirect late) behind refl (at_place signings behind 1 refl refl) refl (OfZone refl refl) (made_over new_key (redirect late) refl s_is d_s_is refl)

new_wildcard : Were (signed new_key (wildcard late))
new_wildcard = of_version s keys signings new_key (wildcard late) behind refl (at_place signings behind 1 refl refl) refl (OfZone refl refl) (made_over new_key (wildcard late) refl s_is star_is refl)

new_link : Were (signed new_key (last_link late))
unfolding octet_of window_size window_count
new_link = of_version s keys signings new_key (last_link late) behind refl (at_place signings behind 1 refl refl) refl (link_of late) (made_over new_key (last_link late) refl s_is star_is refl)

-- ---- the messages

abbrev Unforged : List ℕ → Type 0
Unforged m = IsUnforged s keys signings m

answer_dealt : Dealt child_answer
unfolding pointer_limit most_heads owner_at octet_of window_size window_count
answer_dealt = (
  no_signature s keys signings child_answer (item child_answer 0) refl,
  (
    no_signature s keys signings child_answer (item child_answer 1) refl,
    (
      of_key s keys signings 16 (signed old_key child_keys) child_answer (item child_answer 2) (fields old_key child_keys) by_old refl old_signed_keys,
      (
        of_key s keys signings 32 (signed new_key child_keys) child_answer (item child_answer 3) (fields new_key child_keys) by_new refl new_signed_keys,
        (no_signature s keys signings child_answer (item child_answer 4) refl, tt),
      ),
    ),
  ),
)

answer_read : message pointer_limit child_answer ≡ Ok (read_of child_answer)
unfolding pointer_limit most_heads owner_at octet_of window_size window_count
answer_read = refl

pub answer_unforged : Unforged child_answer
unfolding octet_of window_size window_count
answer_unforged = is_unforged s keys signings child_answer (read_of child_answer) refl answer_read answer_dealt

alias_dealt : Dealt alias_answer
unfolding pointer_limit most_heads owner_at octet_of window_size window_count
alias_dealt = (
  no_signature s keys signings alias_answer (item alias_answer 0) refl,
  (
    of_key s keys signings 16 (signed old_key alias) alias_answer (item alias_answer 1) (fields old_key alias) by_old refl alias_signed,
    (
      no_signature s keys signings alias_answer (item alias_answer 2) refl,
      (
        of_key s keys signings 16 (signed old_key (redirect early)) alias_answer (item alias_answer 3) (fields old_key (redirect early)) by_old refl old_redirect,
        (
          no_signature s keys signings alias_answer (item alias_answer 4) refl,
          (
            no_signature s keys signings alias_answer (item alias_answer 5) refl,
            (
              of_key s keys signings 16 (signed old_key (wildcard early)) alias_answer (item alias_answer 6) (fields old_key (wildcard early)) by_old refl old_wildcard,
              (
                no_signature s keys signings alias_answer (item alias_answer 7) refl,
                (
                  of_key s keys signings 16 (signed old_key (last_link early)) alias_answer (item alias_answer 8) (fields old_key (last_link early)) by_old refl old_link,
                  (no_signature s keys signings alias_answer (item alias_answer 9) refl, tt),
                ),
              ),
            ),
          ),
        ),
      ),
    ),
  ),
)

alias_read : message pointer_limit alias_answer ≡ Ok (read_of alias_answer)
unfolding pointer_limit most_heads owner_at octet_of window_size window_count
alias_read = refl

pub alias_unforged : Unforged alias_answer
unfolding octet_of window_size window_count
alias_unforged = is_unforged s keys signings alias_answer (read_of alias_answer) refl alias_read alias_dealt

redirect_dealt : Dealt redirect_answer
unfolding pointer_limit most_heads owner_at octet_of window_size window_count
redirect_dealt = (
  no_signature s keys signings redirect_answer (item redirect_answer 0) refl,
  (
    of_key s keys signings 32 (signed new_key (redirect late)) redirect_answer (item redirect_answer 1) (fields new_key (redirect late)) by_new refl new_redirect,
    (
      no_signature s keys signings redirect_answer (item redirect_answer 2) refl,
      (no_signature s keys signings redirect_answer (item redirect_answer 3) refl, tt),
    ),
  ),
)

redirect_read : message pointer_limit redirect_answer ≡ Ok (read_of redirect_answer)
unfolding pointer_limit most_heads owner_at octet_of window_size window_count
redirect_read = refl

pub redirect_unforged : Unforged redirect_answer
unfolding octet_of window_size window_count
redirect_unforged = is_unforged s keys signings redirect_answer (read_of redirect_answer) refl redirect_read redirect_dealt

star_dealt : Dealt star_answer
unfolding pointer_limit most_heads owner_at octet_of window_size window_count
star_dealt = (
  no_signature s keys signings star_answer (item star_answer 0) refl,
  (
    of_key s keys signings 32 (signed new_key (wildcard late)) star_answer (item star_answer 1) (fields new_key (wildcard late)) by_new refl new_wildcard,
    (
      no_signature s keys signings star_answer (item star_answer 2) refl,
      (
        of_key s keys signings 32 (signed new_key (last_link late)) star_answer (item star_answer 3) (fields new_key (last_link late)) by_new refl new_link,
        (no_signature s keys signings star_answer (item star_answer 4) refl, tt),
      ),
    ),
  ),
)

star_read : message pointer_limit star_answer ≡ Ok (read_of star_answer)
unfolding pointer_limit most_heads owner_at octet_of window_size window_count
star_read = refl

pub star_unforged : Unforged star_answer
unfolding octet_of window_size window_count
star_unforged = is_unforged s keys signings star_answer (read_of star_answer) refl star_read star_dealt
