-- A walk over the evidence ends in what the tree says, so a loop over it does.
use Rattle.std.proofs.Common.{◌≡◌, ℕ, true, false, List, [], ◌∷◌, Some, None, refl, subst, le_refl, lit<}
use Rattle.std.specs.Prelude.{Contains}
use Rattle.std.specs.Global.{Vec}
use Rattle.std.proofs.lemmas.Bool.{leb-true, ltb-true}
use denote.RawPtr.{null_ptr}
use Rattle.definitions.specs.Dnskey.{Ds}
use Rattle.definitions.specs.Name.{Name}
use Rattle.definitions.specs.Zone.{StarRecords}
use Rattle.denial_laws.specs.Leading.{To}
use Rattle.denial_laws.proofs.ChainBits.{all_at}
use Rattle.answer_terms.specs.declared.redirection.Lead.TheVariants as lead
use Rattle.answer_judge_rules.specs.declared.verdict.Verdict.TheVariants as v
use Rattle.evidence_laws.specs.Counted.{no_counts, plus}
use Rattle.evidence_laws.specs.Counts.{Counts}
use Rattle.evidence_laws.specs.Given.{Given}
use Rattle.evidence_laws.specs.KnownDs.{knows}
use Rattle.evidence_laws.specs.Staying.{HasOctets}
use Rattle.evidence_laws.specs.Told.{StepSeen, TellsDown, TellsLead, TellsVerdict}
use Rattle.evidence_laws.specs.Truth.{HandsOut, tree_of, zone_of}
use Rattle.evidence_laws.specs.Walking.{IsOwnStep}
use Rattle.evidence_laws.proofs.Truly.{evidence_tells_truly}
use Rattle.resolution_walk.specs.Between.{lacked_memory}
use Rattle.resolution_walk.specs.Judged.{ByAnswer, IsHeardThere, OfAnswer}
use Rattle.resolution_walk.specs.Stopping.{AtOnce, Below, Here, Led, Stops, StopsBehind, StopsWithin}
use Rattle.resolution_walk.specs.Truth.{WalksTruly}
use Rattle.resolution_walk.specs.declared.ending.Ending.{Ending}
use Rattle.resolution_walk.specs.declared.ending.Ending.TheVariants as ends
use Rattle.resolution_walk.specs.declared.ending.Walk.{Walk}
use Rattle.walk_laws.specs.Ending.{is_near}
use Rattle.walk_laws.specs.Few.{IsReadOfTree}
use Rattle.walk_laws.specs.Loop.{Reaches}
use Rattle.walk_laws.specs.Loop as loop
use Rattle.witness_laws.specs.Evidence.{asking, evidence, validity}
use Rattle.witness_laws.specs.Loops.{HasLoop, caller, limits, said, through}
use Rattle.witness_laws.specs.Zones.{address, c_s, child_ds, p, parent, parent_ds, s, y_d, y_e, zones}
use Rattle.witness_laws.proofs.ChildDealt as below
use Rattle.witness_laws.proofs.Ordered.{at_place, in_list}
use Rattle.witness_laws.proofs.ParentDealt as above
use Rattle.witness_laws.proofs.Told.{alias_down, alias_follows, alias_goes, alias_leads, alias_led, redirect_down, redirect_goes, redirect_leads, redirect_led, star_counts, star_down, star_goes, star_told}
use Rattle.witness_laws.proofs.Tree.{of_tree}

-- the parent hands out the child's DS set
pub hands_out : HandsOut [] zones s (child_ds ∷ [])
hands_out = record { parent = parent; there = at_place zones parent 0 refl refl; delegates = refl; bound = refl; ds_are = refl }

abbrev parent_set : List Ds
parent_set = parent_ds ∷ []

abbrev child_set : List Ds
child_set = child_ds ∷ []

-- ---- the way of each name

-- with these counts before, those of the parent's message and of the child's
abbrev after : Counts → Counts → Counts → Counts
after before first second = plus (plus before first) second

heard : (zone name : Name) (ds : List Ds) (told : StepSeen) (counts : Counts) → lacked_memory told ≡ false → IsOwnStep evidence zone ds (asking name) told (Some validity) counts → IsHeardThere evidence (asking name) zone ds told (Some validity)
heard zone name ds told counts memory step = record { sought = asking name; heard = OfAnswer counts refl memory step }

alias_stops : Stops evidence (asking c_s) (ends.Leads (lead.To y_d)) 1 p parent_set no_counts (after no_counts alias_down alias_leads) (Some validity)
alias_stops =
    Below {cuts = 0} (ByAnswer (TellsDown s child_set) (Some validity) alias_down refl refl alias_goes refl) (heard p c_s parent_set (TellsDown s child_set) alias_down refl alias_goes)
    (Here (ByAnswer (TellsLead (To y_d)) (Some validity) alias_leads refl refl alias_led refl) (heard s c_s child_set (TellsLead (To y_d)) alias_leads refl alias_led)) refl

abbrev first : Counts
first = after no_counts alias_down alias_leads

redirect_stops : Stops evidence (asking y_d) (ends.Leads (lead.To y_e)) 1 p parent_set first (after first redirect_down redirect_leads) (Some validity)
redirect_stops =
    Below {cuts = 0} (ByAnswer (TellsDown s child_set) (Some validity) redirect_down refl refl redirect_goes refl) (heard p y_d parent_set (TellsDown s child_set) redirect_down refl redirect_goes)
    (Here (ByAnswer (TellsLead (To y_e)) (Some validity) redirect_leads refl refl redirect_led refl) (heard s y_d child_set (TellsLead (To y_e)) redirect_leads refl redirect_led)) refl

abbrev second : Counts
second = after first redirect_down redirect_leads

abbrev ending : Ending
ending = ends.Secure s (v.StarRecords (address ∷ []))

abbrev total : Counts
total = after second star_down star_counts

star_stops : Stops evidence (asking y_e) ending 1 p parent_set second total (Some validity)
star_stops =
    Below {cuts = 0} (ByAnswer (TellsDown s child_set) (Some validity) star_down refl refl star_goes refl) (heard p y_e parent_set (TellsDown s child_set) star_down refl star_goes)
    (Here (ByAnswer (TellsVerdict (StarRecords (address ∷ []))) (Some validity) star_counts refl refl star_told refl) (refl, heard s y_e child_set (TellsVerdict (StarRecords (address ∷ []))) star_counts refl star_told)) refl

-- ---- the walk

abbrev names : Vec Name
names = record { ptr = null_ptr; len = 2; cap = 2; alloc = record { memory = record { seal = record {} } }; items = through; ok = (refl, le_refl 2); small = lit< tt }

abbrev walk : Walk
walk = record { ending = ending; through = names; validity = Some validity; counts = total }

stops_behind : StopsBehind evidence 1 ending 2 (asking c_s) through no_counts total (Some validity)
stops_behind =
    Led {aliases = 1} (record { name = y_d; validity = Some validity; counts = first }) (record { asked_of_it = refl; ending = ends.Leads (lead.To y_d); says = refl; stops = alias_stops })
    (Led {aliases = 0} (record { name = y_e; validity = Some validity; counts = second }) (record { asked_of_it = refl; ending = ends.Leads (lead.To y_e); says = refl; stops = redirect_stops })
    (AtOnce refl star_stops refl) refl) refl

stops_within : StopsWithin evidence (asking c_s) limits walk
stops_within = record {
  ending = ending;
  validity = Some validity;
  stops = record { more = through; through_are = refl; stops = stops_behind };
  is = refl;
  lasts = refl;
}

walks_truly : WalksTruly evidence (asking c_s) walk
walks_truly = record {
  says = λ zs anchor of. evidence_tells_truly evidence zs anchor (asking c_s) said through (Some validity) of alias_follows;
  ds = λ zs anchor of. tt;
}

-- ---- the loop

all_octets : HasOctets evidence
all_octets = (
  above.answer_unforged.octets_are,
  (
    above.alias_unforged.octets_are,
    (
      above.redirect_unforged.octets_are,
      (
        above.star_unforged.octets_are,
        (
          above.open_unforged.octets_are,
          (
            above.no_ds_unforged.octets_are,
            (below.answer_unforged.octets_are, (below.alias_unforged.octets_are, (below.redirect_unforged.octets_are, (below.star_unforged.octets_are, tt)))),
          ),
        ),
      ),
    ),
  ),
)

-- the evidence is all that it comes to
reached : (calls : ℕ) (e : Given) → Reaches caller (asking c_s) 13 (λ x. walk) evidence calls e → evidence ≡ e
reached calls e loop.AtOnce = refl
reached calls e (loop.ByCall {calls = less} {e = before} r is) = absurd (let none : None ≡ Some e = is in cc)

near : (n : Name) → Contains (c_s ∷ through) n → is_near (knows []) (tree_of zones) n 1 1 (zone_of parent) ≡ true
near n there = all_at (λ (x : Name). is_near (knows []) (tree_of zones) x 1 1 (zone_of parent) ≡ true) (c_s ∷ through) n (refl, (refl, (refl, tt))) (in_list (c_s ∷ through) n there)

pub has_loop : HasLoop
has_loop = record {
  walk = walk;
  says = refl;
  through_are = refl;
  loop = record {
    says = evidence_tells_truly evidence zones parent (asking c_s) said through (Some validity) of_tree alias_follows;
    room = record { aliases = leb-true 2 2 refl; cuts = near };
    messages = ltb-true _ 128 refl;
    of = λ calls e r. subst (λ (x : Given). IsReadOfTree 1 zones parent x) (reached calls e r) (record { of = of_tree; octets = all_octets });
    are = λ calls e r. subst (λ (x : Given). StopsWithin x (asking c_s) limits walk) (reached calls e r) stops_within;
    truly = λ calls e r. subst (λ (x : Given). WalksTruly x (asking c_s) walk) (reached calls e r) walks_truly;
  };
}
