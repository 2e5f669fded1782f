-- Where a walk over evidence of a tree ends.
use Rattle.std.proofs.Common.{◌≡◌, ℕ, Bool, true, false, List, ◌∷◌, Option, Some, None, refl, sym, ap, subst, ◌∙◌, arith}
use Rattle.std.specs.Prelude.{length, is_none, nat_lt, IfSome, if◌then◌else◌}
use Rattle.std.specs.Global.{Vec}
use Rattle.std.proofs.lemmas.Bool.{false≢true, ltb-false}
use Rattle.definitions.specs.Dnskey.{Ds}
use Rattle.definitions.specs.Name.{Name}
use Rattle.definitions.proofs.Members.{contained}
use Rattle.messages.specs.Message.{Asked}
use Rattle.answer_judge.specs.declared.verdict.Refusal.{Refusal}
use Rattle.answer_judge_rules.specs.Rules.{verdict_of}
use Rattle.tree_laws.specs.Laws.{AreAlike, TreesResolveToOne, TreesSayOne}
use Rattle.tree_laws.specs.Tree.{Said, Secure, Unsigned, LeftOpen, Leads, Resolves, Tree, TreeZone}
use Rattle.resolution_step.specs.KnownDs.{knows}
use Rattle.evidence_laws.specs.Counted.{no_counts}
use Rattle.evidence_laws.specs.Counts.{Counts}
use Rattle.evidence_laws.specs.Given.{Given}
use Rattle.evidence_laws.specs.Redirection.{lead_seen}
use Rattle.evidence_laws.specs.Truth.{IsAnchored, IsOfTree, SignedZone, tree_of, zone_of}
use Rattle.evidence_laws.specs.Walking.{renamed}
use Rattle.evidence_laws.proofs.Truly.{IsDown, down_so}
use Rattle.answer_judge_facts.specs.declared.validity.Validity.{Validity}
use Rattle.evidence_laws.specs.Told.{TellsDown}
use Rattle.resolution_walk.specs.Ended.{said_of}
use Rattle.resolution_walk.specs.Stopping.{EndsAt, Stops, Here, Below, TooDeep, StopsBehind, StopsWithin, ending_within}
use Rattle.resolution_walk.specs.Truth.{WalksTruly, last_of}
use Rattle.resolution_walk.specs.declared.ending.Ending.{Ending}
use Rattle.resolution_walk.specs.declared.ending.Ending.TheVariants as ends
use Rattle.resolution_walk.specs.declared.ending.Walk.{Walk}
use Rattle.resolution_walk.specs.declared.ending.Wanted.{Wanted}
use Rattle.resolution_walk.specs.declared.walk.Limits.{Limits}
use Rattle.resolution_walk.proofs.Walked.{heard_onward}
use Rattle.walk_laws.specs.Ending.{EndsInTree, SaysSo, WantsMore, AsksMore, IsFull, IsStuck, IsUntoldOf, LeaveRoom, TreesAreWalked, is_near}
use Rattle.walk_laws.specs.Tree.{handed_down, zones_down}
use Rattle.walk_laws.proofs.Way.{IsBehind, IsThere, Reaches, There, NoneLeft, anchored, handed, in_order, reached, there_on_way}

module _ (one : TreesSayOne) (e : Given) (class : ℕ) (zones : List SignedZone) (anchor : SignedZone) (of : IsOfTree e class zones anchor) where
  abbrev known : List ℕ → Bool
  known = knows e.algorithms

  abbrev whole : Tree
  whole = tree_of zones

  -- no way goes deeper than the tree's
  not_deep : (asked : Asked) → asked.class ≡ class → (cuts : ℕ) (zone : Name) (ds : List Ds) (before after : Counts) (l : Option Validity) (s : SignedZone) → s.apex ≡ zone → IsAnchored e zones anchor s ds
      → is_near known whole asked.name asked.rtype cuts (zone_of s) ≡ true → Stops e asked ends.TooManyCuts cuts zone ds before after l → ⊥
  not_deep asked in_class cuts zone ds before after l s at a near (Here judged stops) = stops
  not_deep asked in_class cuts zone ds before after l s at a near (Below {cuts = less} {c = c} {below = below} {between = between} {first = first} {rest = rest} judged way more lasts) =
      let d : IsDown e zones anchor asked s c below = down_so e class zones anchor of asked in_class zone c ds below first s at a (heard_onward e asked zone ds (TellsDown c below) first way) in
      let hands : handed_down known whole asked.name asked.rtype (zone_of s) ≡ Some (zone_of d.child) = handed known whole asked.name asked.rtype (zone_of s) (zone_of d.child) c d.refers d.bound d.found in
      let near_below : is_near known whole asked.name asked.rtype less (zone_of d.child) ≡ true =
      subst (λ (o : Option TreeZone). elim o [ None ↦ true | Some y ↦ is_near known whole asked.name asked.rtype less y ] ≡ true) hands near in
      not_deep asked in_class less c below between after rest d.child d.child_is d.anchored near_below more
  not_deep asked in_class cuts zone ds before after l s at a near (TooDeep {c = c} {below = below} {first = first} judged way is) =
      let d : IsDown e zones anchor asked s c below = down_so e class zones anchor of asked in_class zone c ds below first s at a (heard_onward e asked zone ds (TellsDown c below) first way) in
      let hands : handed_down known whole asked.name asked.rtype (zone_of s) ≡ Some (zone_of d.child) = handed known whole asked.name asked.rtype (zone_of s) (zone_of d.child) c d.refers d.bound d.found in
      false≢true (sym (ap is_none hands) ∙ near)

module _ (one : TreesSayOne) (resolve_one : TreesResolveToOne) (e : Given) (asked : Asked) (limits : Limits) (zones : List SignedZone) (anchor : SignedZone) (said : Said) (names : List Name) (w : Walk)
    (of : IsOfTree e asked.class zones anchor) (says : Resolves (knows e.algorithms) (tree_of zones) (zone_of anchor) asked.rtype said asked.name names)
    (room : LeaveRoom limits (knows e.algorithms) (tree_of zones) (zone_of anchor) asked names) (stops : StopsWithin e asked limits w) (truly : WalksTruly e asked w) where
  abbrev Ends : Type 0
  Ends = EndsInTree (IsUntoldOf asked limits.cuts zones anchor names) e limits said names w

  abbrev through : List Name
  through = stops.stops.more

  -- what is said is what the tree says
  so : (s : Said) → said_of w.ending ≡ Some s → Ends
  so s is =
      let tree_says : Resolves (knows e.algorithms) (tree_of zones) (zone_of anchor) asked.rtype s asked.name w.through.items =
      subst (λ (o : Option Said). IfSome o (λ x. (zs : List SignedZone) (a : SignedZone) → IsOfTree e asked.class zs a → Resolves (knows e.algorithms) (tree_of zs) (zone_of a) asked.rtype x asked.name w.through.items)) is truly.says zones anchor of in
      let alike : (w.through.items ≡ names) × AreAlike s said =
      resolve_one (knows e.algorithms) (tree_of zones) (zone_of anchor) asked.name asked.rtype w.through.items names s said (in_order one e asked.class zones anchor of) (of.in_order anchor of.anchor_there) tree_says says in
      SaysSo s is alike.1 alike.0

  -- where the walk stops for the name at the end of aliases
  abbrev StopsThere : Ending → Type 0
  StopsThere ending = IsThere one e asked.class zones anchor of ending asked limits.cuts names through

  there : (ending : Ending) → stops.ending ≡ ending → StopsThere ending
  there ending is =
      let behind : StopsBehind e limits.cuts ending limits.aliases asked through no_counts w.counts stops.validity =
      subst (λ (g : Ending). StopsBehind e limits.cuts g limits.aliases asked through no_counts w.counts stops.validity) is stops.stops.stops in
      go (reached one e asked.class zones anchor of ending said limits.cuts limits.aliases asked refl names through no_counts w.counts stops.validity says behind)
    where
      go : Reaches one e asked.class zones anchor of ending asked limits.cuts limits.aliases names through → StopsThere ending
      go (There k) = k
      go (NoneLeft same few) = absurd (omega (arith, few, room.aliases))

  on_way : (ending : Ending) → (ending ≡ ends.TooManyCuts → ⊥) → stops.ending ≡ ending → IsBehind one e asked.class zones anchor of ending asked limits.cuts names through
  on_way ending no_cuts is = there_on_way one e asked.class zones anchor of ending no_cuts asked refl limits.cuts names through (there ending is)

  untold : (zone : Name) (by : Vec Ds) (name : Name) (t : ℕ) (refusal : Option Refusal) → stops.ending ≡ ends.Untold zone by name t refusal → w.ending ≡ ends.Untold zone by name t refusal → Ends
  untold zone by name t refusal is at =
      let k : IsBehind one e asked.class zones anchor of (ends.Untold zone by name t refusal) asked limits.cuts names through = on_way (ends.Untold zone by name t refusal) (λ x. cc) is in
      let last : Name = last_of asked.name through in
      IsStuck (record {
        name = last;
        named = contained (asked.name ∷ names) last k.named;
        last = ap (last_of asked.name) (sym stops.stops.through_are);
        zone = k.on_way.zone;
        ds = k.on_way.ds;
        anchored = k.on_way.anchored;
        above = k.on_way.above;
        down = contained (zones_down (knows e.algorithms) (tree_of zones) last asked.rtype limits.cuts (zone_of anchor)) k.on_way.zone.apex k.on_way.down;
        of = zone;
        by = by;
        sought = name;
        rtype = t;
        refusal = refusal;
        is = at;
        untold = k.on_way.ends;
      })

  too_deep : stops.ending ≡ ends.TooManyCuts → ⊥
  too_deep is =
      let k : StopsThere ends.TooManyCuts = there ends.TooManyCuts is in
      let last : Name = last_of asked.name through in
      not_deep one e asked.class zones anchor of (renamed asked last) refl limits.cuts e.anchor e.ds k.before k.after k.validity anchor of.anchor_is (anchored one e asked.class zones anchor of)
      (room.cuts last (contained (asked.name ∷ names) last k.named)) k.stops

  -- other limits are ends of no zone
  no_end : (ending : Ending) → (ending ≡ ends.TooManyCuts → ⊥) → ((q : Asked) (zone : Name) (ds : List Ds) (l : Option Validity) → EndsAt e q zone ds ending l → ⊥) → stops.ending ≡ ending → ⊥
  no_end ending no_cuts none is =
      let k : IsBehind one e asked.class zones anchor of ending asked limits.cuts names through = on_way ending no_cuts is in
      none (renamed asked (last_of asked.name through)) k.on_way.zone.apex k.on_way.ds k.on_way.validity k.on_way.ends

  full : (ws : Vec Wanted) (b : Bool) → nat_lt (length e.messages) limits.messages ≡ b → w.ending ≡ (if b then ends.Wants ws else ends.TooManyMessages) → Ends
  full ws true k is = WantsMore ws is
  full ws false k is = IsFull is (ltb-false (length e.messages) limits.messages k)

  by_inner : (inner : Ending) → stops.ending ≡ inner → w.ending ≡ ending_within limits.messages e inner → Ends
  by_inner (ends.Secure of v) same is = so (Secure of (verdict_of v)) (ap said_of is)
  by_inner (ends.Leads lead) same is = so (Leads (lead_seen lead)) (ap said_of is)
  by_inner (ends.Unsigned c datas) same is = so (Unsigned c) (ap said_of is)
  by_inner (ends.LeftOpen of) same is = so (LeftOpen of) (ap said_of is)
  by_inner (ends.Untold zone by name t refusal) same is = untold zone by name t refusal same is
  by_inner (ends.Asks asks) same is = AsksMore asks is
  by_inner (ends.Wants ws) same is = full ws (nat_lt (length e.messages) limits.messages) refl is
  by_inner ends.TooManyCuts same is = absurd (too_deep same)
  by_inner ends.TooManyAliases same is = absurd (no_end ends.TooManyAliases (λ x. cc) (λ q zone ds l at. at) same)
  by_inner ends.TooManyMessages same is = absurd (no_end ends.TooManyMessages (λ x. cc) (λ q zone ds l at. at) same)
  by_inner ends.Outside same is = absurd (no_end ends.Outside (λ x. cc) (λ q zone ds l at. at) same)

pub trees_are_walked : TreesSayOne → TreesResolveToOne → TreesAreWalked
trees_are_walked one resolve_one e asked limits zones anchor said names w k =
    by_inner one resolve_one e asked limits zones anchor said names w k.of k.says k.room k.stops k.truly k.stops.ending refl k.stops.is
