-- What a walk over evidence of a tree wants is of the zones that the tree hands the question down through.
use Rattle.std.proofs.Common.{◌≡◌, ℕ, zero, suc, ◌<◌, Bool, true, false, ◌&&◌, not, List, [], ◌∷◌, Option, Some, None, refl, sym, ap, subst, ◌∙◌, inl, inr, arith}
use Rattle.std.specs.Prelude.{◌==◌, length, if◌then◌else◌}
use Rattle.std.proofs.lemmas.Bool.{and_parts, false≢true}
use Rattle.definitions.specs.Dnskey.{Ds}
use Rattle.definitions.specs.Name.{Name, at_or_above, low, same, strictly_above}
use Rattle.definitions.proofs.Members.{In, contained}
use Rattle.definitions.proofs.ZoneNames.{above_lowered, low-low, lowered_above}
use Rattle.denial_laws.specs.Leading.{To}
use Rattle.denial_laws.proofs.ZoneCuts.{IsCut, cut_is}
use Rattle.messages.specs.Message.{Asked}
use Rattle.answer_judge_facts.specs.declared.validity.Validity.{Validity}
use Rattle.tree_laws.specs.Laws.{AreAlike, TreesSayOne}
use Rattle.tree_laws.specs.Orderly.{IsOrderlyTree, IsOrderlyZone}
use Rattle.tree_laws.specs.Tree.{Said, Leads, Says, Resolves, Tree, TreeZone, is_bound, is_within, leads_on, refers_to, zone_at}
use Rattle.tree_laws.specs.Tree as tree
use Rattle.tree_laws.proofs.Trees.{referred}
use Rattle.resolution_step.specs.KnownDs.{knows}
use Rattle.evidence_laws.specs.Counts.{Counts}
use Rattle.evidence_laws.specs.Given.{Given}
use Rattle.evidence_laws.specs.Truth.{IsAnchored, IsOfTree, SignedZone, tree_of, zone_of}
use Rattle.evidence_laws.specs.Walking.{Tells, is_asked_of, renamed}
use Rattle.evidence_laws.proofs.Truly.{IsDown, down_so, tells_so}
use Rattle.evidence_laws.specs.Told.{TellsDown}
use Rattle.resolution_walk.specs.Stopping.{EndsAt, Stops, Here, Below, TooDeep, StopsBehind, AtOnce, Elsewhere, TooMany, Led}
use Rattle.resolution_walk.specs.Truth.{last_of}
use Rattle.resolution_walk.specs.declared.ending.Ending.{Ending}
use Rattle.resolution_walk.specs.declared.ending.Ending.TheVariants as ends
use Rattle.resolution_walk.proofs.Walked.{heard_onward, led_tells}
use Rattle.walk_laws.specs.Tree.{handed_down, last_above, zones_down}
use Rattle.walk_laws.proofs.Deep.{first_deepest, further_deepest}

pub orderly : (zones : List SignedZone) → ((s : SignedZone) → In s zones → IsOrderlyZone (zone_of s)) → IsOrderlyTree (tree_of zones)
orderly [] f = tt
orderly (s ∷ zones) f = (f s (inl refl), orderly zones (λ x k. f x (inr k)))

-- ---- the zones that a question is handed down through

module _ (k : List ℕ → Bool) (t : Tree) (q : Name) (u : ℕ) where
  pub first_zone : (cuts : ℕ) (z : TreeZone) → In z.zone.name (zones_down k t q u cuts z)
  first_zone zero z = inl refl
  first_zone (suc cuts) z = inl refl

  pub handed : (z below : TreeZone) (c : Name) → refers_to z.zone q u ≡ Some c → is_bound k z.zone c ≡ true → zone_at t c ≡ Some below → handed_down k t q u z ≡ Some below
  handed z below c refers bound found =
      ap (λ (o : Option Name). elim o [ None ↦ None | Some d ↦ if is_bound k z.zone d then zone_at t d else None ]) refers ∙ ap (λ (b : Bool). if b then zone_at t c else None) bound ∙ found

  pub further : (cuts : ℕ) (z below : TreeZone) (n : Name) → handed_down k t q u z ≡ Some below → In n (zones_down k t q u cuts below) → In n (zones_down k t q u (suc cuts) z)
  further cuts z below n is there = inr (subst (λ (o : Option TreeZone). In n (elim o [ None ↦ [] | Some y ↦ zones_down k t q u cuts y ])) (sym is) there)

-- ---- through aliases

module _ (one : TreesSayOne) (e : Given) (class : ℕ) (zones : List SignedZone) (anchor : SignedZone) (of : IsOfTree e class zones anchor) where
  abbrev known : List ℕ → Bool
  known = knows e.algorithms

  abbrev whole : Tree
  whole = tree_of zones

  abbrev from : TreeZone
  from = zone_of anchor

  pub in_order : IsOrderlyTree whole
  in_order = orderly zones (λ s there. of.in_order s (contained zones s there))

  pub anchored : IsAnchored e zones anchor anchor e.ds
  anchored = record { there = of.anchor_there; by = inl (refl, refl) }

  -- the alias that evidence leads by is the tree's
  pub led_so : (asked : Asked) → asked.class ≡ class → (n : Name) (l : Option Validity) → Tells e asked (Leads (To n)) e.anchor e.ds l → Says known whole asked.name asked.rtype (Leads (To n)) from
  led_so asked in_class n l x = tells_so e class zones anchor of asked in_class (Leads (To n)) e.anchor e.ds l anchor of.anchor_is anchored x

  alike_said : (asked : Asked) (a b : Said) → Says known whole asked.name asked.rtype a from → Says known whole asked.name asked.rtype b from → AreAlike a b
  alike_said asked a b x y = one known whole from asked.name asked.rtype a b in_order (of.in_order anchor of.anchor_there) x y

  -- where the tree ends, no alias leads on
  pub not_led : (asked : Asked) → asked.class ≡ class → (said : Said) (n : Name) (l : Option Validity) → Says known whole asked.name asked.rtype said from → leads_on said ≡ false → Tells e asked (Leads (To n)) e.anchor e.ds l → ⊥
  not_led asked in_class said n l says ends x = go (alike_said asked said (Leads (To n)) says (led_so asked in_class n l x))
    where
      go : AreAlike said (Leads (To n)) → ⊥
      go (inl same) = false≢true (sym ends ∙ ap leads_on same)
      go (inr both) = both.1

  -- where it leads on, it leads to the same name
  pub same_lead : (asked : Asked) → asked.class ≡ class → (m n : Name) (l : Option Validity) → Says known whole asked.name asked.rtype (Leads (To m)) from → Tells e asked (Leads (To n)) e.anchor e.ds l → m ≡ n
  same_lead asked in_class m n l says x = go (alike_said asked (Leads (To m)) (Leads (To n)) says (led_so asked in_class n l x))
    where
      go : AreAlike (Leads (To m)) (Leads (To n)) → m ≡ n
      go (inl same) = (let is : Leads (To m) ≡ Leads (To n) = same in cc)
      go (inr both) = absurd both.0

  -- ---- where a way wants messages

  pub record IsOnWay (ending : Ending) (asked : Asked) (cuts : ℕ) (s : SignedZone) : Type 0 where
    pub zone : SignedZone
    pub ds : List Ds
    pub anchored : IsAnchored e zones anchor zone ds
    pub above : at_or_above zone.apex asked.name ≡ true
    pub down : In zone.apex (zones_down known whole asked.name asked.rtype cuts (zone_of s))
    pub deepest : (n : Name) → strictly_above zone.apex n ≡ true → refers_to (zone_of zone).zone n 43 ≡ None → last_above n (zones_down known whole asked.name asked.rtype cuts (zone_of s)) ≡ zone.apex
    pub validity : Option Validity
    pub ends : EndsAt e asked zone.apex ds ending validity

  -- a delegation that a question is referred to stands at its name or above it
  cut_above : (q : Name) (t : ℕ) (s : SignedZone) (c : Name) → refers_to (zone_of s).zone q t ≡ Some c → at_or_above c q ≡ true
  cut_above q t s c refers =
      let there : IsCut (zone_of s).zone (low q) c = cut_is (zone_of s).zone (low q) c (low-low q) (referred (zone_of s).zone q t c refers).cut_is in
      sym (above_lowered c q) ∙ there.above

  module _ (ending : Ending) (no_cuts : ending ≡ ends.TooManyCuts → ⊥) where
    pub stops_on_way : (asked : Asked) → asked.class ≡ class → (cuts : ℕ) (zone : Name) (ds : List Ds) (before after : Counts) (l : Option Validity) (s : SignedZone) → s.apex ≡ zone → at_or_above zone asked.name ≡ true → IsAnchored e zones anchor s ds
        → Stops e asked ending cuts zone ds before after l → IsOnWay ending asked cuts s
    stops_on_way asked in_class cuts zone ds before after l s at above a (Here judged stops) =
        record { zone = s; ds = ds; anchored = a; above = subst (λ (n : Name). at_or_above n asked.name ≡ true) (sym at) above; down = first_zone known whole asked.name asked.rtype cuts (zone_of s); deepest = λ n above none. first_deepest known whole asked.name asked.rtype cuts (zone_of s) n none; validity = l; ends = subst (λ (n : Name). EndsAt e asked n ds ending l) (sym at) stops }
    stops_on_way asked in_class cuts zone ds before after l s at above a (Below {cuts = less} {c = c} {below = below} {between = between} {first = first} {rest = behind} judged way more lasts) =
        let d : IsDown e zones anchor asked s c below = down_so e class zones anchor of asked in_class zone c ds below first s at a (heard_onward e asked zone ds (TellsDown c below) first way) in
        let rest : IsOnWay ending asked less d.child = stops_on_way asked in_class less c below between after behind d.child d.child_is (cut_above asked.name asked.rtype s c d.refers) d.anchored more in
        let hands : handed_down known whole asked.name asked.rtype (zone_of s) ≡ Some (zone_of d.child) = handed known whole asked.name asked.rtype (zone_of s) (zone_of d.child) c d.refers d.bound d.found in
        record {
          zone = rest.zone;
          ds = rest.ds;
          anchored = rest.anchored;
          above = rest.above;
          down = further known whole asked.name asked.rtype less (zone_of s) (zone_of d.child) rest.zone.apex hands rest.down;
          deepest = λ n above none. further_deepest known whole asked.name asked.rtype less (zone_of s) (zone_of d.child) n rest.zone.apex hands rest.down above (rest.deepest n above none);
          validity = rest.validity;
          ends = rest.ends;
        }
    stops_on_way asked in_class cuts zone ds before after l s at above a (TooDeep judged way is) = absurd (no_cuts is)

  -- ---- behind aliases

  -- a way stops there for one of the tree's names
  pub record IsThere (ending : Ending) (asked : Asked) (cuts : ℕ) (names through : List Name) : Type 0 where
    pub named : In (last_of asked.name through) (asked.name ∷ names)
    pub before : Counts
    pub after : Counts
    pub validity : Option Validity
    pub inside : is_asked_of e.anchor (renamed asked (last_of asked.name through)) ≡ true
    pub stops : Stops e (renamed asked (last_of asked.name through)) ending cuts e.anchor e.ds before after validity

  -- or the tree has more aliases than are left
  pub data Reaches (ending : Ending) (asked : Asked) (cuts aliases : ℕ) (names through : List Name) : Type 0 where
    There : IsThere ending asked cuts names through → Reaches ending asked cuts aliases names through
    NoneLeft : ending ≡ ends.TooManyAliases → aliases < length names → Reaches ending asked cuts aliases names through

  within_is : (asked : Asked) → is_within from.zone asked.name asked.rtype ≡ is_asked_of e.anchor asked
  within_is asked =
      ap (λ (b : Bool). b && not (same anchor.apex asked.name && (asked.rtype == 43))) (lowered_above anchor.apex asked.name)
      ∙ ap (λ (n : Name). at_or_above n asked.name && not (same n asked.name && (asked.rtype == 43))) of.anchor_is

  not_elsewhere : (asked : Asked) → is_within from.zone asked.name asked.rtype ≡ true → is_asked_of e.anchor asked ≡ false → ⊥
  not_elsewhere asked inside outside = false≢true (sym outside ∙ sym (within_is asked) ∙ inside)

  module _ (ending : Ending) (said : Said) where
    pub reached : (cuts aliases : ℕ) (asked : Asked) → asked.class ≡ class → (names through : List Name) (before after : Counts) (l : Option Validity) → Resolves known whole from asked.rtype said asked.name names
        → StopsBehind e cuts ending aliases asked through before after l → Reaches ending asked cuts aliases names through
    reached cuts aliases asked in_class names through before after l says (AtOnce w stops none) = There (record { named = inl refl; before = before; after = after; validity = l; inside = w; stops = stops })
    reached cuts aliases asked in_class names through before after l (tree.Ends w x end) (Elsewhere outside is same) = absurd (not_elsewhere asked w outside)
    reached cuts aliases asked in_class names through before after l (tree.Led w x more) (Elsewhere outside is same) = absurd (not_elsewhere asked w outside)
    reached cuts aliases asked in_class names through before after l (tree.Ends w x end) (TooMany t led is same) = absurd (not_led asked in_class said t.name t.validity x end (led_tells e asked cuts before t led))
    reached cuts aliases asked in_class names through before after l (tree.Led {ns = ms} w x more) (TooMany t led is same) = NoneLeft is (omega arith)
    reached cuts aliases asked in_class names through before after l (tree.Ends w x end) (Led t led stops lasts) = absurd (not_led asked in_class said t.name t.validity x end (led_tells e asked cuts before t led))
    reached cuts aliases asked in_class names through before after l (tree.Led {n = m} {ns = ms} w x more) (Led {aliases = less} {ns = rest} {rest = behind} t led stops lasts) =
        let same : m ≡ t.name = same_lead asked in_class m t.name t.validity x (led_tells e asked cuts before t led) in
        let later : Resolves known whole from asked.rtype said t.name ms = subst (λ (n : Name). Resolves known whole from asked.rtype said n ms) same more in
        go same (reached cuts less (renamed asked t.name) in_class ms rest t.counts after behind later stops)
      where
        go : m ≡ t.name → Reaches ending (renamed asked t.name) cuts less ms rest → Reaches ending asked cuts (suc less) (m ∷ ms) (t.name ∷ rest)
        go same (There k) = There (record { named = inr (subst (λ (n : Name). In (last_of t.name rest) (n ∷ ms)) (sym same) k.named); before = k.before; after = k.after; validity = k.validity; inside = k.inside; stops = k.stops })
        go same (NoneLeft is few) = NoneLeft is (omega (arith, few))

  asked_above : (asked : Asked) → is_asked_of e.anchor asked ≡ true → at_or_above e.anchor asked.name ≡ true
  asked_above asked inside = (and_parts (at_or_above e.anchor asked.name) (not (same e.anchor asked.name && (asked.rtype == 43))) inside).0

  -- in a zone on the way of that name
  pub record IsBehind (ending : Ending) (asked : Asked) (cuts : ℕ) (names through : List Name) : Type 0 where
    pub named : In (last_of asked.name through) (asked.name ∷ names)
    pub on_way : IsOnWay ending (renamed asked (last_of asked.name through)) cuts anchor

  pub there_on_way : (ending : Ending) (no_cuts : ending ≡ ends.TooManyCuts → ⊥) (asked : Asked) → asked.class ≡ class → (cuts : ℕ) (names through : List Name) → IsThere ending asked cuts names through → IsBehind ending asked cuts names through
  there_on_way ending no_cuts asked in_class cuts names through k = record {
    named = k.named;
    on_way = stops_on_way ending no_cuts (renamed asked (last_of asked.name through)) in_class cuts e.anchor e.ds k.before k.after k.validity anchor of.anchor_is (asked_above (renamed asked (last_of asked.name through)) k.inside) anchored k.stops;
  }

  pub behind_on_way : (ending : Ending) (no_cuts : ending ≡ ends.TooManyCuts → ⊥) (no_aliases : ending ≡ ends.TooManyAliases → ⊥) (said : Said) (cuts aliases : ℕ) (asked : Asked) → asked.class ≡ class → (names through : List Name) (before after : Counts) (l : Option Validity)
      → Resolves known whole from asked.rtype said asked.name names → StopsBehind e cuts ending aliases asked through before after l → IsBehind ending asked cuts names through
  behind_on_way ending no_cuts no_aliases said cuts aliases asked in_class names through before after l says stops = go (reached ending said cuts aliases asked in_class names through before after l says stops)
    where
      go : Reaches ending asked cuts aliases names through → IsBehind ending asked cuts names through
      go (There k) = there_on_way ending no_cuts asked in_class cuts names through k
      go (NoneLeft is few) = absurd (no_aliases is)
