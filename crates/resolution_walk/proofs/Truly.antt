-- What a walk ends in is what the tree says.
use Rattle.std.proofs.Common.{◌≡◌, ℕ, length, Bool, true, false, List, Option, Some, None, inl, refl, sym, subst}
use Rattle.std.specs.Prelude.{nat_lt, if◌then◌else◌, IfSome}
use Rattle.definitions.specs.Dnskey.{Ds}
use Rattle.definitions.specs.Name.{Name}
use Rattle.messages.specs.Message.{Asked}
use Rattle.tree_laws.specs.Tree.{Said, Resolves, is_bound, refers_to, zone_at}
use Rattle.evidence_laws.specs.KnownDs.{knows}
use Rattle.evidence_laws.specs.Counted.{no_counts}
use Rattle.evidence_laws.specs.Counts.{Counts}
use Rattle.answer_judge_facts.specs.declared.validity.Validity.{Validity}
use Rattle.evidence_laws.specs.Given.{Given}
use Rattle.evidence_laws.specs.Told.{TellsDown, TellsUnsigned}
use Rattle.evidence_laws.specs.Truth.{IsAnchored, IsOfTree, SignedZone, tree_of, zone_of}
use Rattle.evidence_laws.specs.Walking.{Follows, IsNameStep, renamed}
use Rattle.evidence_laws.proofs.Truly.{IsDown, down_so, follows_so, named_so, own_so}
use Rattle.resolution_walk.specs.Ended.{IsWalked, said_of}
use Rattle.resolution_walk.specs.Judged.{IsHeard, OfAnswer, OfName}
use Rattle.resolution_walk.specs.Stopping.{EndsAt, Stops, Here, Below, TooDeep, StopsBehind, AtOnce, Elsewhere, TooMany, Led, StopsWithin, ending_within}
use Rattle.resolution_walk.specs.Truth.{AreOfCut, HasDsTruly, There, Further, WalksTruly, last_of}
use Rattle.resolution_walk.specs.declared.ending.Ending.{Ending}
use Rattle.resolution_walk.specs.declared.ending.Ending.TheVariants as ends
use Rattle.resolution_walk.specs.declared.ending.Walk.{Walk}
use Rattle.resolution_walk.specs.declared.walk.Limits.{Limits}
use Rattle.resolution_walk.proofs.Walked.{heard_onward}

says_so : (e : Given) (asked : Asked) (w : Walk) → IsWalked e asked w
    → IfSome (said_of w.ending) (λ said. (zones : List SignedZone) (anchor : SignedZone) → IsOfTree e asked.class zones anchor → Resolves (knows e.algorithms) (tree_of zones) (zone_of anchor) asked.rtype said asked.name w.through.items)
says_so e asked w is = go (said_of w.ending) is
  where
    go : (o : Option Said) → IfSome o (λ said. Follows e said asked w.through.items w.validity)
        → IfSome o (λ said. (zones : List SignedZone) (anchor : SignedZone) → IsOfTree e asked.class zones anchor → Resolves (knows e.algorithms) (tree_of zones) (zone_of anchor) asked.rtype said asked.name w.through.items)
    go None is = tt
    go (Some said) is = λ zones anchor of. follows_so e asked.class zones anchor of said asked refl w.through.items w.validity is

-- ---- DS data of a delegation that is not signed

module _ (e : Given) (class : ℕ) (zones : List SignedZone) (anchor : SignedZone) (of : IsOfTree e class zones anchor) where
  abbrev HasDs : Asked → SignedZone → Ending → Type 0
  HasDs asked s ending = HasDsTruly e.algorithms (tree_of zones) (zone_of s) asked.name asked.rtype ending

  heard_ds : (asked sought : Asked) → asked.class ≡ class → (s : SignedZone) (ds : List Ds) (c : Name) (datas : List (List ℕ)) (l : Option Validity) → IsAnchored e zones anchor s ds → IsHeard e asked s.apex ds sought (TellsUnsigned c datas) l
      → AreOfCut e.algorithms (tree_of zones) (zone_of s) asked.name asked.rtype c datas
  heard_ds asked sought in_class s ds c datas l a (OfAnswer n same memory step) =
      let so = own_so e class zones anchor of asked in_class s ds (TellsUnsigned c datas) l n a step in
      record { zone = zone_of s; leads = There; refers = so.0; unbound = so.1 }
  heard_ds asked sought in_class s ds c datas l a (OfName n between memory step cut) =
      let told = subst (λ (q : Asked). IsNameStep e s.apex ds q (TellsUnsigned c datas) l n) between.is step in
      let so = named_so e class zones anchor of asked in_class between.name s ds (TellsUnsigned c datas) l n between.reached.lies.0 between.reached.lies.1 between.other a told in
      record { zone = zone_of s; leads = There; refers = so.0; unbound = so.1 }

  ends_ds : (asked : Asked) → asked.class ≡ class → (s : SignedZone) (ds : List Ds) (ending : Ending) (l : Option Validity) → IsAnchored e zones anchor s ds → EndsAt e asked s.apex ds ending l → HasDs asked s ending
  ends_ds asked in_class s ds (ends.Unsigned c datas) l a k = heard_ds asked k.sought in_class s ds c datas l a k.heard
  ends_ds asked in_class s ds _ l a k = tt

  -- those that a zone below has are reached from the zone above too
  above_ds : (asked : Asked) (s child : SignedZone) (c : Name) (ending : Ending) → refers_to (zone_of s).zone asked.name asked.rtype ≡ Some c → is_bound (knows e.algorithms) (zone_of s).zone c ≡ true
      → zone_at (tree_of zones) c ≡ Some (zone_of child) → HasDs asked child ending → HasDs asked s ending
  above_ds asked s child c (ends.Unsigned cut datas) refers bound found k = record { zone = k.zone; leads = Further refers bound found k.leads; refers = k.refers; unbound = k.unbound }
  above_ds asked s child c _ refers bound found k = tt

  stops_ds : (asked : Asked) → asked.class ≡ class → (ending : Ending) (cuts : ℕ) (zone : Name) (ds : List Ds) (before after : Counts) (l : Option Validity) (s : SignedZone) → s.apex ≡ zone → IsAnchored e zones anchor s ds
      → Stops e asked ending cuts zone ds before after l → HasDs asked s ending
  stops_ds asked in_class ending cuts zone ds before after l s at a (Here judged stops) = ends_ds asked in_class s ds ending l a (subst (λ (n : Name). EndsAt e asked n ds ending l) (sym at) stops)
  stops_ds asked in_class ending cuts zone ds before after l s at a (Below {cuts = less} {c = c} {below = below} {between = between} {first = first} {rest = rest} judged way more lasts) =
      let on = heard_onward e asked zone ds (TellsDown c below) first way in
      let d : IsDown e zones anchor asked s c below = down_so e class zones anchor of asked in_class zone c ds below first s at a on in
      above_ds asked s d.child c ending d.refers d.bound d.found (stops_ds asked in_class ending less c below between after rest d.child d.child_is d.anchored more)
  stops_ds asked in_class ending cuts zone ds before after l s at a (TooDeep judged way same) = subst (HasDs asked s) (sym same) tt

  -- through aliases
  behind_ds : (cuts : ℕ) (ending : Ending) (aliases : ℕ) (asked : Asked) → asked.class ≡ class → (ns : List Name) (before after : Counts) (l : Option Validity) → StopsBehind e cuts ending aliases asked ns before after l
      → HasDsTruly e.algorithms (tree_of zones) (zone_of anchor) (last_of asked.name ns) asked.rtype ending
  behind_ds cuts ending aliases asked in_class ns before after l (AtOnce w stops none) = stops_ds asked in_class ending cuts e.anchor e.ds before after l anchor of.anchor_is (record { there = of.anchor_there; by = inl (refl, refl) }) stops
  behind_ds cuts ending aliases asked in_class ns before after l (Elsewhere w same is) = subst (HasDs asked anchor) (sym same) tt
  behind_ds cuts ending aliases asked in_class ns before after l (TooMany t led same is) = subst (HasDs asked anchor) (sym same) tt
  behind_ds cuts ending aliases asked in_class ns before after l (Led {aliases = less} {ns = more} {rest = rest} t led stops lasts) = behind_ds cuts ending less (renamed asked t.name) in_class more t.counts after rest stops

  -- a limit of messages is none of a delegation
  within_ds : (asked : Asked) (s : SignedZone) (most : ℕ) (ending : Ending) → HasDs asked s ending → HasDs asked s (ending_within most e ending)
  within_ds asked s most (ends.Wants ws) k = go (nat_lt (length e.messages) most)
    where
      go : (b : Bool) → HasDs asked s (if b then ends.Wants ws else ends.TooManyMessages)
      go true = tt
      go false = tt
  within_ds asked s most _ k = k

pub walked_so : (e : Given) (asked : Asked) (limits : Limits) (w : Walk) → IsWalked e asked w → StopsWithin e asked limits w → WalksTruly e asked w
walked_so e asked limits w is stops = record {
  says = says_so e asked w is;
  ds = λ zones anchor of.
      let more : List Name = stops.stops.more in
      let last : Asked = renamed asked (last_of asked.name more) in
      let by_end : HasDs e asked.class zones anchor of last anchor stops.ending = behind_ds e asked.class zones anchor of limits.cuts stops.ending limits.aliases asked refl more no_counts w.counts stops.validity stops.stops.stops in
      let by_limit : HasDs e asked.class zones anchor of last anchor w.ending = subst (HasDs e asked.class zones anchor of last anchor) (sym stops.is) (within_ds e asked.class zones anchor of last anchor limits.messages stops.ending by_end) in
      subst (λ (ns : List Name). HasDsTruly e.algorithms (tree_of zones) (zone_of anchor) (last_of asked.name ns) asked.rtype w.ending) (sym stops.stops.through_are) by_limit;
}
