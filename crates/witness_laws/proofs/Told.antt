-- What the messages tell, and where the evidence leads two questions.
use Rattle.std.proofs.Common.{◌≡◌, ℕ, List, [], ◌∷◌, Option, Some, None, Ok, Err, refl}
use Rattle.definitions.specs.Bitmap.{octet_of, window_count, window_size}
use Rattle.definitions.specs.Dnskey.{Ds}
use Rattle.definitions.specs.Limits.{pointer_limit}
use Rattle.definitions.specs.Name.{Name, wire}
use Rattle.definitions.specs.Reading.{most_heads}
use Rattle.definitions.specs.Zone.{Open, StarRecords}
use Rattle.denial_laws.specs.Leading.{To}
use Rattle.messages.specs.Message.{owner_at}
use Rattle.messages.specs.declared.question.Question.{Question}
use Rattle.answer_terms.specs.declared.redirection.Lead.TheVariants as lead
use Rattle.answer_judge_facts.specs.declared.validity.Validity.{Validity}
use Rattle.answer_judge_rules.specs.declared.verdict.Verdict.{Verdict}
use Rattle.answer_judge_rules.specs.declared.verdict.Verdict.TheVariants as v
use Rattle.answer_judge.specs.Judging.{JudgeInput}
use Rattle.answer_judge.specs.declared.verdict.Refusal.TheVariants as r
use Rattle.answer_findings.specs.Found.{IsFoundBy}
use Rattle.answer_findings.specs.Seen.{SeesAlias, SeesDname, SeesReferral, SeesVerdict}
use Rattle.answer_findings.specs.declared.meaning.AnswerOutcome.TheVariants as f
use Rattle.answer_findings.specs.declared.meaning.Meaning.TheVariants as n
use Rattle.resolution_step.specs.Told.{Sees, StepSeen, TellsDown, TellsLead, TellsOpen, TellsVerdict}
use Rattle.resolution_step.specs.Work.{work_of}
use Rattle.resolution_step.specs.declared.judged_step.Counts.{Counts}
use Rattle.tree_laws.specs.Tree.{Leads, LeftOpen, Said, Secure}
use Rattle.evidence_laws.specs.Walking.{AtOnce, ByQuestion, Ends, Follows, Goes, IsOwnStep, Led, Tells}
use Rattle.evidence_laws.specs.Walking as walking
use Rattle.witness_laws.specs.Evidence.{alias_answer, asking, child_answer, evidence, open_referral, parent_answer, redirect_answer, referral, star_answer, validity}
use Rattle.witness_laws.specs.Zones.{address, c_s, child_ds, d_s, ds_data, e_s, p, parent_ds, s, x_u, y_d, y_e}
use Rattle.witness_laws.proofs.Judging.{judged_so, judged_unproven, judgement, unproven}
use Rattle.witness_laws.proofs.Judged.{alias_proven, alias_referred, alias_unproven, alias_unreferred, asking_for, of_child, of_parent, opened, redirect_proven, redirect_referred, redirect_unproven, redirect_unreferred, star_proven, star_referred, star_unreferred}

abbrev parent_set : List Ds
parent_set = parent_ds ∷ []

abbrev child_set : List Ds
child_set = child_ds ∷ []

-- a question, as the code has it
abbrev question : Name → ℕ → Question Name
question name t = record { name = name; rtype = t; class = 1 }

abbrev told : JudgeInput → ℕ → ℕ → Counts
told h verifications hashes = record { verifications = verifications; hashes = hashes; work = work_of h }

-- where nothing is verified of an answer
abbrev unlimited : Option Validity
unlimited = Some (record { ttl = 4294967295; seconds = 500 })

-- ---- referrals

abbrev pub alias_down : Counts
alias_down = told (of_parent (asking c_s) (referral c_s)) 3 0

alias_referral : IsFoundBy evidence.table (of_parent (asking c_s) (referral c_s)) (Ok (SeesReferral s (ds_data ∷ []))) (Some validity) 3 0
unfolding pointer_limit most_heads owner_at
alias_referral = record {
  judgements = record {
    own = Err (unproven 1 0);
    alias = None;
    ns = None;
    ds = Some (record { question = question s 43; said = Ok (judgement (v.Records (ds_data ∷ [])) 2 0 (Some validity)) });
  };
  are = record {
    own = judged_unproven (of_parent (asking c_s) (referral c_s)) 1 0 unlimited alias_unreferred;
    alias = record { asked = refl; judged = tt; in_memory = tt };
    ns = record { asked = refl; judged = tt; in_memory = tt };
    ds = record {
      asked = refl;
      judged = judged_so (of_parent (asking_for s 43) (referral c_s)) (v.Records (ds_data ∷ [])) 2 0 (Some validity) alias_referred;
      in_memory = refl;
    };
  };
  says = refl;
  lasts = refl;
  verified = refl;
  hashed = refl;
}

pub alias_goes : IsOwnStep evidence p parent_set (asking c_s) (TellsDown s child_set) (Some validity) alias_down
alias_goes = record {
  judged = (of_parent (asking c_s) (referral c_s));
  of = record { keys = parent_answer; answer = referral c_s; keys_are = refl; answer_is = refl; is = refl };
  told_is = record {
    came = Sees (SeesReferral s (ds_data ∷ []));
    found_validity = Some validity;
    found_counts = alias_down;
    searched = record { found = f.Means (n.Referral s (ds_data ∷ [])) (Some validity) 3 0; is_found = alias_referral; is = refl; lasts = refl; counted = refl };
    is = (refl, refl, refl);
  };
}

abbrev pub redirect_down : Counts
redirect_down = told (of_parent (asking y_d) (referral y_d)) 3 0

redirect_referral : IsFoundBy evidence.table (of_parent (asking y_d) (referral y_d)) (Ok (SeesReferral s (ds_data ∷ []))) (Some validity) 3 0
unfolding pointer_limit most_heads owner_at
redirect_referral = record {
  judgements = record {
    own = Err (unproven 1 0);
    alias = None;
    ns = None;
    ds = Some (record { question = question s 43; said = Ok (judgement (v.Records (ds_data ∷ [])) 2 0 (Some validity)) });
  };
  are = record {
    own = judged_unproven (of_parent (asking y_d) (referral y_d)) 1 0 unlimited redirect_unreferred;
    alias = record { asked = refl; judged = tt; in_memory = tt };
    ns = record { asked = refl; judged = tt; in_memory = tt };
    ds = record {
      asked = refl;
      judged = judged_so (of_parent (asking_for s 43) (referral y_d)) (v.Records (ds_data ∷ [])) 2 0 (Some validity) redirect_referred;
      in_memory = refl;
    };
  };
  says = refl;
  lasts = refl;
  verified = refl;
  hashed = refl;
}

pub redirect_goes : IsOwnStep evidence p parent_set (asking y_d) (TellsDown s child_set) (Some validity) redirect_down
redirect_goes = record {
  judged = (of_parent (asking y_d) (referral y_d));
  of = record { keys = parent_answer; answer = referral y_d; keys_are = refl; answer_is = refl; is = refl };
  told_is = record {
    came = Sees (SeesReferral s (ds_data ∷ []));
    found_validity = Some validity;
    found_counts = redirect_down;
    searched = record { found = f.Means (n.Referral s (ds_data ∷ [])) (Some validity) 3 0; is_found = redirect_referral; is = refl; lasts = refl; counted = refl };
    is = (refl, refl, refl);
  };
}

abbrev pub star_down : Counts
star_down = told (of_parent (asking y_e) (referral y_e)) 3 0

star_referral : IsFoundBy evidence.table (of_parent (asking y_e) (referral y_e)) (Ok (SeesReferral s (ds_data ∷ []))) (Some validity) 3 0
unfolding pointer_limit most_heads owner_at
star_referral = record {
  judgements = record {
    own = Err (unproven 1 0);
    alias = None;
    ns = None;
    ds = Some (record { question = question s 43; said = Ok (judgement (v.Records (ds_data ∷ [])) 2 0 (Some validity)) });
  };
  are = record {
    own = judged_unproven (of_parent (asking y_e) (referral y_e)) 1 0 unlimited star_unreferred;
    alias = record { asked = refl; judged = tt; in_memory = tt };
    ns = record { asked = refl; judged = tt; in_memory = tt };
    ds = record {
      asked = refl;
      judged = judged_so (of_parent (asking_for s 43) (referral y_e)) (v.Records (ds_data ∷ [])) 2 0 (Some validity) star_referred;
      in_memory = refl;
    };
  };
  says = refl;
  lasts = refl;
  verified = refl;
  hashed = refl;
}

pub star_goes : IsOwnStep evidence p parent_set (asking y_e) (TellsDown s child_set) (Some validity) star_down
star_goes = record {
  judged = (of_parent (asking y_e) (referral y_e));
  of = record { keys = parent_answer; answer = referral y_e; keys_are = refl; answer_is = refl; is = refl };
  told_is = record {
    came = Sees (SeesReferral s (ds_data ∷ []));
    found_validity = Some validity;
    found_counts = star_down;
    searched = record { found = f.Means (n.Referral s (ds_data ∷ [])) (Some validity) 3 0; is_found = star_referral; is = refl; lasts = refl; counted = refl };
    is = (refl, refl, refl);
  };
}

-- ---- the child's answers

abbrev pub alias_leads : Counts
alias_leads = told (of_child (asking c_s) alias_answer) 5 0

alias_found : IsFoundBy evidence.table (of_child (asking c_s) alias_answer) (Ok (SeesAlias y_d)) (Some validity) 5 0
unfolding pointer_limit most_heads owner_at octet_of window_size window_count
alias_found = record {
  judgements = record {
    own = Err (unproven 2 0);
    alias = Some (record { question = question c_s 5; said = Ok (judgement (v.Records (wire y_d ∷ [])) 3 0 (Some validity)) });
    ns = None;
    ds = None;
  };
  are = record {
    own = judged_unproven (of_child (asking c_s) alias_answer) 2 0 (Some validity) alias_unproven;
    alias = record {
      asked = refl;
      judged = judged_so (of_child (asking_for c_s 5) alias_answer) (v.Records (wire y_d ∷ [])) 3 0 (Some validity) alias_proven;
      in_memory = refl;
    };
    ns = record { asked = refl; judged = tt; in_memory = tt };
    ds = record { asked = refl; judged = tt; in_memory = tt };
  };
  says = refl;
  lasts = refl;
  verified = refl;
  hashed = refl;
}

pub alias_led : IsOwnStep evidence s child_set (asking c_s) (TellsLead (To y_d)) (Some validity) alias_leads
unfolding octet_of window_size window_count
alias_led = record {
  judged = (of_child (asking c_s) alias_answer);
  of = record { keys = child_answer; answer = alias_answer; keys_are = refl; answer_is = refl; is = refl };
  told_is = record {
    came = Sees (SeesAlias y_d);
    found_validity = Some validity;
    found_counts = alias_leads;
    searched = record { found = f.Means (n.Alias y_d) (Some validity) 5 0; is_found = alias_found; is = refl; lasts = refl; counted = refl };
    is = (refl, refl, refl);
  };
}

abbrev pub redirect_leads : Counts
redirect_leads = told (of_child (asking y_d) redirect_answer) 3 0

redirect_found : IsFoundBy evidence.table (of_child (asking y_d) redirect_answer) (Ok (SeesDname d_s (To y_e))) (Some validity) 3 0
unfolding pointer_limit most_heads owner_at octet_of window_size window_count
redirect_found = record {
  judgements = record {
    own = Err (unproven 1 0);
    alias = Some (record { question = question d_s 39; said = Ok (judgement (v.Records (wire e_s ∷ [])) 2 0 (Some validity)) });
    ns = None;
    ds = None;
  };
  are = record {
    own = judged_unproven (of_child (asking y_d) redirect_answer) 1 0 (unlimited) redirect_unproven;
    alias = record {
      asked = refl;
      judged = judged_so (of_child (asking_for d_s 39) redirect_answer) (v.Records (wire e_s ∷ [])) 2 0 (Some validity) redirect_proven;
      in_memory = refl;
    };
    ns = record { asked = refl; judged = tt; in_memory = tt };
    ds = record { asked = refl; judged = tt; in_memory = tt };
  };
  says = refl;
  lasts = refl;
  verified = refl;
  hashed = refl;
}

pub redirect_led : IsOwnStep evidence s child_set (asking y_d) (TellsLead (To y_e)) (Some validity) redirect_leads
unfolding octet_of window_size window_count
redirect_led = record {
  judged = (of_child (asking y_d) redirect_answer);
  of = record { keys = child_answer; answer = redirect_answer; keys_are = refl; answer_is = refl; is = refl };
  told_is = record {
    came = Sees (SeesDname d_s (To y_e));
    found_validity = Some validity;
    found_counts = redirect_leads;
    searched = record { found = f.Means (n.Dname d_s (lead.To y_e)) (Some validity) 3 0; is_found = redirect_found; is = refl; lasts = refl; counted = refl };
    is = (refl, refl, refl);
  };
}

abbrev pub star_counts : Counts
star_counts = told (of_child (asking y_e) star_answer) 3 0

star_found : IsFoundBy evidence.table (of_child (asking y_e) star_answer) (Ok (SeesVerdict (StarRecords (address ∷ [])))) (Some validity) 3 0
unfolding pointer_limit most_heads owner_at octet_of window_size window_count
star_found = record {
  judgements = record { own = Ok (judgement (v.StarRecords (address ∷ [])) 3 0 (Some validity)); alias = None; ns = None; ds = None };
  are = record {
    own = judged_so (of_child (asking y_e) star_answer) (v.StarRecords (address ∷ [])) 3 0 (Some validity) star_proven;
    alias = record { asked = refl; judged = tt; in_memory = tt };
    ns = record { asked = refl; judged = tt; in_memory = tt };
    ds = record { asked = refl; judged = tt; in_memory = tt };
  };
  says = refl;
  lasts = refl;
  verified = refl;
  hashed = refl;
}

pub star_told : IsOwnStep evidence s child_set (asking y_e) (TellsVerdict (StarRecords (address ∷ []))) (Some validity) star_counts
unfolding octet_of window_size window_count
star_told = record {
  judged = (of_child (asking y_e) star_answer);
  of = record { keys = child_answer; answer = star_answer; keys_are = refl; answer_is = refl; is = refl };
  told_is = record {
    came = Sees (SeesVerdict (StarRecords (address ∷ [])));
    found_validity = Some validity;
    found_counts = star_counts;
    searched = record { found = f.Means (n.Verdict (v.StarRecords (address ∷ []))) (Some validity) 3 0; is_found = star_found; is = refl; lasts = refl; counted = refl };
    is = (refl, refl, refl);
  };
}

-- ---- an unsigned delegation

abbrev pub open_counts : Counts
open_counts = told (of_parent (asking x_u) open_referral) 3 3

open_found : IsFoundBy evidence.table (of_parent (asking x_u) open_referral) (Ok (SeesVerdict (Open))) (Some validity) 3 3
unfolding pointer_limit most_heads owner_at octet_of window_size window_count
open_found = record {
  judgements = record { own = Ok (judgement (v.Open) 3 3 (Some validity)); alias = None; ns = None; ds = None };
  are = record {
    own = judged_so (of_parent (asking x_u) open_referral) (v.Open) 3 3 (Some validity) opened;
    alias = record { asked = refl; judged = tt; in_memory = tt };
    ns = record { asked = refl; judged = tt; in_memory = tt };
    ds = record { asked = refl; judged = tt; in_memory = tt };
  };
  says = refl;
  lasts = refl;
  verified = refl;
  hashed = refl;
}

pub open_told : IsOwnStep evidence p parent_set (asking x_u) (TellsOpen) (Some validity) open_counts
unfolding octet_of window_size window_count
open_told = record {
  judged = (of_parent (asking x_u) open_referral);
  of = record { keys = parent_answer; answer = open_referral; keys_are = refl; answer_is = refl; is = refl };
  told_is = record {
    came = Sees (SeesVerdict (Open));
    found_validity = Some validity;
    found_counts = open_counts;
    searched = record { found = f.Means (n.Verdict (v.Open)) (Some validity) 3 3; is_found = open_found; is = refl; lasts = refl; counted = refl };
    is = (refl, refl, refl);
  };
}

-- ---- where the evidence leads

down : (name : Name) (said : Said) (first counts : Counts) (step : StepSeen) → IsOwnStep evidence p parent_set (asking name) (TellsDown s child_set) (Some validity) first
    → IsOwnStep evidence s child_set (asking name) step (Some validity) counts → walking.EndsIn said ≡ walking.onward s step → Tells evidence (asking name) said p parent_set (Some validity)
down name said first counts step goes ends is = Goes (ByQuestion (TellsDown s child_set) first goes refl) (Ends (ByQuestion step counts ends is)) refl

-- by the alias and the DNAME to the wildcard's address
pub alias_follows : Follows evidence (Secure s (StarRecords (address ∷ []))) (asking c_s) (y_d ∷ y_e ∷ []) (Some validity)
alias_follows =
    Led refl (down c_s (Leads (To y_d)) alias_down alias_leads (TellsLead (To y_d)) alias_goes alias_led refl)
    (Led refl (down y_d (Leads (To y_e)) redirect_down redirect_leads (TellsLead (To y_e)) redirect_goes redirect_led refl)
    (AtOnce refl (down y_e (Secure s (StarRecords (address ∷ []))) star_down star_counts (TellsVerdict (StarRecords (address ∷ []))) star_goes star_told refl) refl)
    refl)
    refl

-- opt-out leaves the other open
pub open_follows : Follows evidence (LeftOpen p) (asking x_u) [] (Some validity)
open_follows = AtOnce refl (Ends (ByQuestion TellsOpen open_counts open_told refl)) refl
