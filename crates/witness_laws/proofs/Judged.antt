-- What the judgements of the evidence come to, by computing.
use Rattle.std.proofs.Common.{ℕ, [], ◌∷◌, List, Some, refl}
use Rattle.std.proofs.lemmas.Bool.{ltb-true}
use Rattle.definitions.specs.Bitmap.{octet_of, window_count, window_size}
use Rattle.definitions.specs.Limits.{pointer_limit}
use Rattle.definitions.specs.Name.{Name, wire}
use Rattle.definitions.specs.Reading.{most_heads}
use Rattle.definitions.specs.Zone.{Open, Records, StarRecords}
use Rattle.messages.specs.Message.{Asked, owner_at}
use Rattle.answer_judge.specs.Judging.{JudgeInput, Refuses, Says}
use Rattle.answer_judge.specs.declared.verdict.Refusal.TheVariants as r
use Rattle.evidence_laws.specs.Given.{judge_input}
use Rattle.witness_laws.specs.Evidence.{alias_answer, asking, child_answer, evidence, open_referral, parent_answer, redirect_answer, referral, star_answer, validity}
use Rattle.witness_laws.specs.Zones.{address, c_s, child_ds, d_s, ds_data, e_s, p, parent_ds, s, x_u, y_d, y_e}
use Rattle.witness_laws.proofs.Judging.{Comes}

abbrev pub of_parent : Asked → List ℕ → JudgeInput
of_parent asked answer = judge_input evidence p (parent_ds ∷ []) asked parent_answer answer

abbrev pub of_child : Asked → List ℕ → JudgeInput
of_child asked answer = judge_input evidence s (child_ds ∷ []) asked child_answer answer

abbrev pub asking_for : Name → ℕ → Asked
asking_for n t = record { name = n; rtype = t; class = 1 }

-- where nothing is verified of an answer its TTL is the largest there is

pub alias_unreferred : Comes (of_parent (asking c_s) (referral c_s)) (Refuses r.NotProven) 1 0 (Some (record { ttl = 4294967295; seconds = 500 }))
unfolding pointer_limit most_heads owner_at octet_of window_size window_count
alias_unreferred = record {
  first = refl;
  some = λ e. cc;
  few = refl;
  few_hashes = refl;
  short = ltb-true 0 65536 refl;
  says = λ passes. refl;
  verified = λ passes. refl;
  hashed = λ passes. refl;
  lasts = λ passes. refl;
}

pub alias_referred : Comes (of_parent (asking_for s 43) (referral c_s)) (Says (Records (ds_data ∷ []))) 2 0 (Some validity)
unfolding pointer_limit most_heads owner_at octet_of window_size window_count
alias_referred = record {
  first = refl;
  some = λ e. cc;
  few = refl;
  few_hashes = refl;
  short = ltb-true 0 65536 refl;
  says = λ passes. refl;
  verified = λ passes. refl;
  hashed = λ passes. refl;
  lasts = λ passes. refl;
}

pub redirect_unreferred : Comes (of_parent (asking y_d) (referral y_d)) (Refuses r.NotProven) 1 0 (Some (record { ttl = 4294967295; seconds = 500 }))
unfolding pointer_limit most_heads owner_at octet_of window_size window_count
redirect_unreferred = record {
  first = refl;
  some = λ e. cc;
  few = refl;
  few_hashes = refl;
  short = ltb-true 0 65536 refl;
  says = λ passes. refl;
  verified = λ passes. refl;
  hashed = λ passes. refl;
  lasts = λ passes. refl;
}

pub redirect_referred : Comes (of_parent (asking_for s 43) (referral y_d)) (Says (Records (ds_data ∷ []))) 2 0 (Some validity)
unfolding pointer_limit most_heads owner_at octet_of window_size window_count
redirect_referred = record {
  first = refl;
  some = λ e. cc;
  few = refl;
  few_hashes = refl;
  short = ltb-true 0 65536 refl;
  says = λ passes. refl;
  verified = λ passes. refl;
  hashed = λ passes. refl;
  lasts = λ passes. refl;
}

pub star_unreferred : Comes (of_parent (asking y_e) (referral y_e)) (Refuses r.NotProven) 1 0 (Some (record { ttl = 4294967295; seconds = 500 }))
unfolding pointer_limit most_heads owner_at octet_of window_size window_count
star_unreferred = record {
  first = refl;
  some = λ e. cc;
  few = refl;
  few_hashes = refl;
  short = ltb-true 0 65536 refl;
  says = λ passes. refl;
  verified = λ passes. refl;
  hashed = λ passes. refl;
  lasts = λ passes. refl;
}

pub star_referred : Comes (of_parent (asking_for s 43) (referral y_e)) (Says (Records (ds_data ∷ []))) 2 0 (Some validity)
unfolding pointer_limit most_heads owner_at octet_of window_size window_count
star_referred = record {
  first = refl;
  some = λ e. cc;
  few = refl;
  few_hashes = refl;
  short = ltb-true 0 65536 refl;
  says = λ passes. refl;
  verified = λ passes. refl;
  hashed = λ passes. refl;
  lasts = λ passes. refl;
}

pub opened : Comes (of_parent (asking x_u) open_referral) (Says Open) 3 3 (Some validity)
unfolding pointer_limit most_heads owner_at octet_of window_size window_count
opened = record {
  first = refl;
  some = λ e. cc;
  few = refl;
  few_hashes = refl;
  short = ltb-true 0 65536 refl;
  says = λ passes. refl;
  verified = λ passes. refl;
  hashed = λ passes. refl;
  lasts = λ passes. refl;
}

pub alias_unproven : Comes (of_child (asking c_s) alias_answer) (Refuses r.NotProven) 2 0 (Some validity)
unfolding pointer_limit most_heads owner_at octet_of window_size window_count
alias_unproven = record {
  first = refl;
  some = λ e. cc;
  few = refl;
  few_hashes = refl;
  short = ltb-true 0 65536 refl;
  says = λ passes. refl;
  verified = λ passes. refl;
  hashed = λ passes. refl;
  lasts = λ passes. refl;
}

pub alias_proven : Comes (of_child (asking_for c_s 5) alias_answer) (Says (Records (wire y_d ∷ []))) 3 0 (Some validity)
unfolding pointer_limit most_heads owner_at octet_of window_size window_count
alias_proven = record {
  first = refl;
  some = λ e. cc;
  few = refl;
  few_hashes = refl;
  short = ltb-true 0 65536 refl;
  says = λ passes. refl;
  verified = λ passes. refl;
  hashed = λ passes. refl;
  lasts = λ passes. refl;
}

pub redirect_unproven : Comes (of_child (asking y_d) redirect_answer) (Refuses r.NotProven) 1 0 (Some (record { ttl = 4294967295; seconds = 500 }))
unfolding pointer_limit most_heads owner_at octet_of window_size window_count
redirect_unproven = record {
  first = refl;
  some = λ e. cc;
  few = refl;
  few_hashes = refl;
  short = ltb-true 0 65536 refl;
  says = λ passes. refl;
  verified = λ passes. refl;
  hashed = λ passes. refl;
  lasts = λ passes. refl;
}

pub redirect_proven : Comes (of_child (asking_for d_s 39) redirect_answer) (Says (Records (wire e_s ∷ []))) 2 0 (Some validity)
unfolding pointer_limit most_heads owner_at octet_of window_size window_count
redirect_proven = record {
  first = refl;
  some = λ e. cc;
  few = refl;
  few_hashes = refl;
  short = ltb-true 0 65536 refl;
  says = λ passes. refl;
  verified = λ passes. refl;
  hashed = λ passes. refl;
  lasts = λ passes. refl;
}

pub star_proven : Comes (of_child (asking y_e) star_answer) (Says (StarRecords (address ∷ []))) 3 0 (Some validity)
unfolding pointer_limit most_heads owner_at octet_of window_size window_count
star_proven = record {
  first = refl;
  some = λ e. cc;
  few = refl;
  few_hashes = refl;
  short = ltb-true 0 65536 refl;
  says = λ passes. refl;
  verified = λ passes. refl;
  hashed = λ passes. refl;
  lasts = λ passes. refl;
}
