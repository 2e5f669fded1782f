-- What walks over evidence of a tree want in all.
use Rattle.std.proofs.Common.{◌≡◌, ℕ, zero, suc, ◌+◌, ◌*◌, ◌<◌, ◌≤◌, length, Bool, true, false, ◌&&◌, List, [], ◌∷◌, ◌++◌, map, Option, Some, None, refl, sym, ap, subst, ◌∙◌, inl, inr, arith, length-append}
use Rattle.std.specs.Prelude.{◌==◌, is_none, if◌then◌else◌}
use Rattle.std.specs.Global.{Vec}
use Rattle.std.specs.List.{AllByRecursion, find, flat_map}
use Rattle.std.specs.Option.{option_map}
use Rattle.std.proofs.lemmas.Bool.{false≢true}
use Rattle.std.proofs.lemmas.List.{length-map}
use Rattle.definitions.specs.Name.{Name, labels_eq, low, same, strictly_above}
use Rattle.definitions.specs.Zone.{Zone, cut}
use Rattle.definitions.proofs.Members.{In}
use Rattle.denial_laws.proofs.NameFacts.{names_same, same_names, strictly_lowered}
use Rattle.messages.specs.Message.{Asked}
use Rattle.tree_laws.specs.Laws.{TreesSayOne}
use Rattle.tree_laws.specs.Tree.{Said, Resolves, Tree, TreeZone, refers_to}
use Rattle.resolution_step.specs.KnownDs.{knows}
use Rattle.evidence_laws.specs.Counted.{no_counts}
use Rattle.evidence_laws.specs.Given.{Given, Message}
use Rattle.evidence_laws.specs.Staying.{HasOctets}
use Rattle.evidence_laws.specs.Truth.{IsOfTree, SignedZone, tree_of, zone_of}
use Rattle.evidence_laws.specs.Walking.{renamed}
use Rattle.resolution_walk.specs.Laws.{AreFewOf, IsNewOf, may_be_wanted, tails}
use Rattle.resolution_walk.specs.Stopping.{StopsBehind}
use Rattle.resolution_walk.specs.Truth.{last_of}
use Rattle.resolution_walk.specs.Between.{IsBetween}
use Rattle.resolution_walk.specs.Wanted.{AreWantedOf, IsSought, is_for_keys, lacks_besides, wanted_if, wanted_of}
use Rattle.resolution_walk.specs.declared.ending.Ending.{Ending}
use Rattle.resolution_walk.specs.declared.ending.Ending.TheVariants as ends
use Rattle.resolution_walk.specs.declared.ending.Wanted.{Wanted}
use Rattle.resolution_walk.specs.declared.walk.Limits.{Limits}
use Rattle.resolution_walk.proofs.Bounded.{walks_want_few}
use Rattle.walk_laws.specs.Few.{IsReadOfTree, TreesWantFew, ZonesAreFew}
use Rattle.walk_laws.specs.Loop.{Loops, Begins, Wants, Asks, SomeAnswered, Walks, with_messages}
use Rattle.walk_laws.specs.New.{answers}
use Rattle.walk_laws.specs.Tree.{handed_down, last_above, most_wanted, wanted_down, wanted_for, wanted_of_zones, zones_down}
use Rattle.walk_laws.proofs.Counting.{few_pass, flat_few, flat_length, in_flat, less_pass, passing}
use Rattle.walk_laws.proofs.Ends.{wants_more, within}
use Rattle.walk_laws.proofs.Found.{found_in, in_back, in_both, in_front, in_list}
use Rattle.walk_laws.proofs.New.{is_lacking, lacking_each}
use Rattle.walk_laws.proofs.Uncut.{ds_unreferred}
use Rattle.walk_laws.proofs.Way.{IsBehind, behind_on_way}

-- ---- up to capitals

module _ (x y : Wanted) (zone : x.zone ≡ y.zone) (name : same x.name y.name ≡ true) (rtype : x.rtype ≡ y.rtype) where
  low_is : low x.name ≡ low y.name
  low_is = same_names x.name y.name name

  answers_alike : (m : Message) → answers x m ≡ answers y m
  answers_alike m i = labels_eq (low m.zone) (low (zone i)) && labels_eq (low m.asked.name) (low_is i) && (m.asked.rtype == rtype i)

  lacking_alike : (e : Given) → is_lacking e x ≡ is_lacking e y
  lacking_alike e i = is_none (option_map (λ (m : Message). m.octets) (find (λ m. answers_alike m i) e.messages))

-- ---- with more messages

none_in_front : {X Y : Type 0} (f : X → Y) (p : X → Bool) (xs ys : List X) → is_none (option_map f (find p (xs ++ ys))) ≡ true → is_none (option_map f (find p xs)) ≡ true
none_in_front f p [] ys none = refl
none_in_front f p (x ∷ xs) ys none = go (p x) none (none_in_front f p xs ys)
  where
    go : (b : Bool) → is_none (option_map f (if b then Some x else find p (xs ++ ys))) ≡ true → (is_none (option_map f (find p (xs ++ ys))) ≡ true → is_none (option_map f (find p xs)) ≡ true)
        → is_none (option_map f (if b then Some x else find p xs)) ≡ true
    go true h rest = absurd (false≢true h)
    go false h rest = rest h

abbrev octets_of : Message → List ℕ
octets_of m = m.octets

lacked : (e : Given) (ms : List Message) (x : Wanted) → is_lacking (with_messages e ms) x ≡ true → is_lacking e x ≡ true
lacked e ms x lacks = none_in_front octets_of (answers x) e.messages ms lacks

-- one of a list that was lacking and is answered
one_less : (e : Given) (ms : List Message) (m : Message) (all : List Wanted) (x y : Wanted) → In y all → x.zone ≡ y.zone → same x.name y.name ≡ true → x.rtype ≡ y.rtype
    → is_lacking e x ≡ true → In m ms → answers x m ≡ true → passing (is_lacking (with_messages e ms)) all < passing (is_lacking e) all
one_less e ms m all x y there zone name rtype lacks handed answer =
    less_pass (is_lacking e) (is_lacking (with_messages e ms)) all y (lacked e ms) there (sym (lacking_alike x y zone name rtype e) ∙ lacks)
    (found_in octets_of (answers y) (e.messages ++ ms) m (in_back e.messages ms m handed) (sym (answers_alike x y zone name rtype m) ∙ answer))

-- ---- what a walk wants

all_in : {X : Type 0} (P : X → Type 0) (xs : List X) (x : X) → AllByRecursion P xs → In x xs → P x
all_in P [] x all there = absurd there
all_in P (y ∷ xs) x all (inl is) = subst P (sym is) all.0
all_in P (y ∷ xs) x all (inr later) = all_in P xs x all.1 later

is_if : (b : Bool) (w x : Wanted) → In x (wanted_if b w) → x ≡ w
is_if true w x (inl is) = is
is_if true w x (inr later) = absurd later
is_if false w x there = absurd there

-- ---- names above a name

record IsTail (q n : Name) : Type 0 where
  tail : Name
  there : In tail (tails q)
  alike : same n tail ≡ true

itself_tail : (zone q n : Name) → strictly_above zone n ≡ true → same n q ≡ true → IsTail q n
itself_tail zone [] [] below alike = absurd (false≢true below)
itself_tail zone [] (l ∷ n) below alike = absurd (false≢true alike)
itself_tail zone (l ∷ q) n below alike = record { tail = l ∷ q; there = inl refl; alike = alike }

tail_in_map : (zone n : Name) (ms : List Name) (x : Wanted) → In x (map (λ m. wanted_of zone m 43) ms) → same n x.name ≡ true → (m : Name) × In m ms × (same n m ≡ true)
tail_in_map zone n [] x there alike = absurd there
tail_in_map zone n (m ∷ ms) x (inl is) alike = (m, inl refl, subst (λ (w : Wanted). same n w.name ≡ true) is alike)
tail_in_map zone n (m ∷ ms) x (inr later) alike = let rest = tail_in_map zone n ms x later alike in (rest.0, inr rest.1, rest.2)

-- DS is wanted at the question's name or one above
ds_tail : (zone : Name) (asked : Asked) (n : Name) (like : Wanted) → strictly_above zone n ≡ true → 43 ≡ like.rtype → same n like.name ≡ true → In like (may_be_wanted zone asked) → IsTail asked.name n
ds_tail zone asked n like below rtype alike (inl is) =
    let keys : like.rtype ≡ 48 = ap (λ (w : Wanted). w.rtype) is in
    absurd (omega (arith, rtype, keys))
ds_tail zone asked n like below rtype alike (inr (inl is)) = itself_tail zone asked.name n below (subst (λ (w : Wanted). same n w.name ≡ true) is alike)
ds_tail zone asked n like below rtype alike (inr (inr later)) =
    let k = tail_in_map zone n (tails asked.name) like later alike in
    record { tail = k.0; there = k.1; alike = k.2 }

strictly_alike : (zone n m : Name) → same n m ≡ true → strictly_above zone n ≡ true → strictly_above zone m ≡ true
strictly_alike zone n m alike above =
    sym (strictly_lowered zone m) ∙ ap (strictly_above zone) (sym (same_names n m alike)) ∙ strictly_lowered zone n ∙ above

refers_alike : (z : Zone) (n m : Name) (t : ℕ) → same n m ≡ true → refers_to z n t ≡ refers_to z m t
refers_alike z n m t alike = ap (λ (q : Name). elim (cut z q) [ None ↦ None | Some c ↦ if labels_eq c q && (t == 43) then None else Some c ]) (same_names n m alike)

in_ds : (zs : List Name) (ms : List Name) (m : Name) → In m ms → In (wanted_of (last_above m zs) m 43) (map (λ n. wanted_of (last_above n zs) n 43) ms)
in_ds zs [] m there = absurd there
in_ds zs (n ∷ ms) m (inl is) = inl (ap (λ (x : Name). wanted_of (last_above x zs) x 43) is)
in_ds zs (n ∷ ms) m (inr later) = inr (in_ds zs ms m later)

-- what is wanted, and its like among all that may be
record IsAmong (all : List Wanted) (e : Given) (x : Wanted) : Type 0 where
  like : Wanted
  there : In like all
  zone : x.zone ≡ like.zone
  name : same x.name like.name ≡ true
  rtype : x.rtype ≡ like.rtype
  lacks : is_lacking e x ≡ true

module _ (one : TreesSayOne) (e : Given) (asked : Asked) (limits : Limits) (zones : List SignedZone) (anchor : SignedZone) (of : IsOfTree e asked.class zones anchor) (octets : HasOctets e)
    (said : Said) (names : List Name) (says : Resolves (knows e.algorithms) (tree_of zones) (zone_of anchor) asked.rtype said asked.name names) (k : Walks asked limits e) (ws : Vec Wanted) (is : k.walk.ending ≡ ends.Wants ws) where
  abbrev all : List Wanted
  all = wanted_for (knows e.algorithms) (tree_of zones) (zone_of anchor) limits.cuts asked (asked.name ∷ names)

  abbrev more : List Name
  more = k.stops.stops.more

  wants : k.stops.ending ≡ ends.Wants ws
  wants = (within e limits.messages k.stops.ending k.walk.ending k.stops.is (ap wants_more is)).same ∙ is

  on_way : IsBehind one e asked.class zones anchor of (ends.Wants ws) asked limits.cuts names more
  on_way =
      let stops : StopsBehind e limits.cuts (ends.Wants ws) limits.aliases asked more no_counts k.walk.counts k.stops.validity =
      subst (λ (g : Ending). StopsBehind e limits.cuts g limits.aliases asked more no_counts k.walk.counts k.stops.validity) wants k.stops.stops.stops in
      behind_on_way one e asked.class zones anchor of (ends.Wants ws) (λ x. cc) (λ x. cc) said limits.cuts limits.aliases asked refl names more no_counts k.walk.counts k.stops.validity says stops

  abbrev last : Asked
  last = renamed asked (last_of asked.name more)

  few : AreFewOf e last ws.items
  few = subst (λ (ns : List Name). AreFewOf e (renamed asked (last_of asked.name ns)) ws.items) k.stops.stops.through_are (walks_want_few e asked limits k.walk ws octets k.stops is).1

  abbrev zone : Name
  zone = on_way.on_way.zone.apex

  are : AreWantedOf e last zone on_way.on_way.ds ws.items
  are = on_way.on_way.ends

  abbrev zs : List Name
  zs = zones_down (knows e.algorithms) (tree_of zones) last.name last.rtype limits.cuts (zone_of anchor)

  abbrev own : Name → List Wanted
  own z = wanted_of z z 48 ∷ wanted_of z last.name last.rtype ∷ []

  abbrev for_ds : List Wanted
  for_ds = map (λ n. wanted_of (last_above n zs) n 43) (tails last.name)

  -- what is wanted on the way of a name is among all
  on_name : (x like : Wanted) → In like (wanted_of_zones last zs) → x.zone ≡ like.zone → same x.name like.name ≡ true → x.rtype ≡ like.rtype → is_lacking e x ≡ true → IsAmong all e x
  on_name x like there zone name rtype lacks = record {
    like = like;
    there = in_flat (λ (n : Name). wanted_down (knows e.algorithms) (tree_of zones) (zone_of anchor) limits.cuts (renamed asked n)) (asked.name ∷ names) last.name like on_way.named there;
    zone = zone;
    name = name;
    rtype = rtype;
    lacks = lacks;
  }

  of_zone : (x like : Wanted) → In like (own zone) → x ≡ like → is_lacking e x ≡ true → IsAmong all e x
  of_zone x like there is lacks =
      on_name x like (in_front (flat_map own zs) for_ds like (in_flat own zs zone like on_way.on_way.down there))
      (ap (λ (w : Wanted). w.zone) is) (names_same x.name like.name (ap (λ (w : Wanted). low w.name) is)) (ap (λ (w : Wanted). w.rtype) is) lacks

  -- DS at a name between
  of_between : (x : Wanted) → In x ws.items → (between : IsBetween e last zone on_way.on_way.ds are.sought) → x ≡ wanted_of zone between.name 43 → is_lacking e x ≡ true → IsAmong all e x
  of_between x there between is lacks =
      let new : IsNewOf e few.zone last x = all_in (IsNewOf e few.zone last) ws.items x few.each there in
      let n : Name = between.name in
      let name_is : x.name ≡ n = ap (λ (w : Wanted). w.name) is in
      let below : strictly_above zone n ≡ true = between.reached.lies.0 in
      let tail : IsTail last.name n =
      ds_tail few.zone last n new.one_of.like (ap (λ (m : Name). strictly_above m n) (sym new.zone_is ∙ ap (λ (w : Wanted). w.zone) is) ∙ below) (sym (ap (λ (w : Wanted). w.rtype) is) ∙ new.one_of.rtype_is)
      (subst (λ (m : Name). same m new.one_of.like.name ≡ true) name_is new.one_of.name_is) (in_list (may_be_wanted few.zone last) new.one_of.like new.one_of.there) in
      let none : refers_to (zone_of on_way.on_way.zone).zone n 43 ≡ None = ds_unreferred e asked.class zones anchor of last refl on_way.on_way.zone on_way.on_way.ds on_way.on_way.anchored n between.reached in
      let deepest : last_above tail.tail zs ≡ zone =
      on_way.on_way.deepest tail.tail (strictly_alike zone n tail.tail tail.alike below) (sym (refers_alike (zone_of on_way.on_way.zone).zone n tail.tail 43 tail.alike) ∙ none) in
      on_name x (wanted_of (last_above tail.tail zs) tail.tail 43) (in_back (flat_map own zs) for_ds (wanted_of (last_above tail.tail zs) tail.tail 43) (in_ds zs (tails last.name) tail.tail tail.there))
      (ap (λ (w : Wanted). w.zone) is ∙ sym deepest) (subst (λ (m : Name). same m tail.tail ≡ true) (sym name_is) tail.alike) (ap (λ (w : Wanted). w.rtype) is) lacks

  of_sought : (x : Wanted) → In x ws.items → IsSought e last zone on_way.on_way.ds are.sought → x ≡ wanted_of zone are.sought.name are.sought.rtype → is_lacking e x ≡ true → IsAmong all e x
  of_sought x there (inl same_question) is lacks =
      of_zone x (wanted_of zone last.name last.rtype) (inr (inl refl)) (is ∙ ap (λ (q : Asked). wanted_of zone q.name q.rtype) same_question) lacks
  of_sought x there (inr between) is lacks = of_between x there between (is ∙ ap (λ (q : Asked). wanted_of zone q.name q.rtype) between.is) lacks

  among : (x : Wanted) → In x ws.items → IsAmong all e x
  among x there =
      let lacks : is_lacking e x ≡ true = lacking_each e last zone on_way.on_way.ds ws.items are x there in
      elim (in_both (wanted_if (is_lacking e (wanted_of zone zone 48)) (wanted_of zone zone 48)) (wanted_if (lacks_besides (is_lacking e (wanted_of zone zone 48)) (is_for_keys zone are.sought) (is_lacking e (wanted_of zone are.sought.name are.sought.rtype))) (wanted_of zone are.sought.name are.sought.rtype)) x (subst (In x) are.are there)) [
        | inl l ↦ of_zone x (wanted_of zone zone 48) (inl refl) (is_if (is_lacking e (wanted_of zone zone 48)) (wanted_of zone zone 48) x l) lacks
        | inr r ↦ of_sought x there are.is_sought (is_if (lacks_besides (is_lacking e (wanted_of zone zone 48)) (is_for_keys zone are.sought) (is_lacking e (wanted_of zone are.sought.name are.sought.rtype))) (wanted_of zone are.sought.name are.sought.rtype) x r) lacks
      ]

  -- one at least of all that may be wanted is there then
  pub less_lacking : (ms : List Message) → SomeAnswered ws.items ms → passing (is_lacking (with_messages e ms)) all < passing (is_lacking e) all
  less_lacking ms some =
      let x : IsAmong all e some.wanted = among some.wanted (in_list ws.items some.wanted some.is_wanted) in
      one_less e ms some.message all some.wanted x.like x.there x.zone x.name x.rtype x.lacks (in_list ms some.message some.there) some.answer

-- ---- how many may be wanted

tails_length : (n : Name) → length (tails n) ≡ length n
tails_length [] = refl
tails_length (l ∷ n) = ap suc (tails_length n)

no_more : (a b : ℕ) → a ≡ b → a ≤ b
no_more a b e = omega (arith, e)

module _ (k : List ℕ → Bool) (tree : Tree) where
  zones_length : (q : Name) (t cuts : ℕ) (z : TreeZone) → length (zones_down k tree q t cuts z) ≤ 1 + cuts
  zones_length q t zero z = omega arith
  zones_length q t (suc cuts) z = go (handed_down k tree q t z) (zones_length q t cuts)
    where
      go : (o : Option TreeZone) → ((y : TreeZone) → length (zones_down k tree q t cuts y) ≤ 1 + cuts) → length {A = Name} (z.zone.name ∷ elim o [ None ↦ [] | Some below ↦ zones_down k tree q t cuts below ]) ≤ 1 + suc cuts
      go None rest = omega arith
      go (Some y) rest = omega (arith, rest y)

  down_length : (from : TreeZone) (cuts : ℕ) (asked : Asked) → length (wanted_down k tree from cuts asked) ≡ length (zones_down k tree asked.name asked.rtype cuts from) * 2 + length asked.name
  down_length from cuts asked =
      let zs : List Name = zones_down k tree asked.name asked.rtype cuts from in
      let own : Name → List Wanted = λ z. wanted_of z z 48 ∷ wanted_of z asked.name asked.rtype ∷ [] in
      let for_ds : List Wanted = map (λ n. wanted_of (last_above n zs) n 43) (tails asked.name) in
      length-append (flat_map own zs) for_ds
      ∙ (λ i. flat_length own 2 zs (λ z. refl) i + (length-map (tails asked.name) (λ n. wanted_of (last_above n zs) n 43) ∙ tails_length asked.name) i)

  all_length : (from : TreeZone) (cuts : ℕ) (asked : Asked) (names : List Name) → length (wanted_for k tree from cuts asked names) ≤ most_wanted k tree from cuts asked names
  all_length from cuts asked names =
      flat_few (λ (n : Name). wanted_down k tree from cuts (renamed asked n)) (λ (n : Name). length (zones_down k tree n asked.rtype cuts from) * 2 + length n) names
      (λ n. no_more _ _ (down_length from cuts (renamed asked n)))

pub zones_are_few : ZonesAreFew
zones_are_few k tree q t cuts z = zones_length k tree q t cuts z

-- ---- in a loop

module _ (one : TreesSayOne) (asked : Asked) (limits : Limits) (most : ℕ) (from : Given) (zones : List SignedZone) (anchor : SignedZone) (said : Said) (names : List Name)
    (says : Resolves (knows from.algorithms) (tree_of zones) (zone_of anchor) asked.rtype said asked.name names) where
  abbrev Kind : Given → Type 0
  Kind = IsReadOfTree asked.class zones anchor

  abbrev all_of : List ℕ → List Wanted
  all_of algorithms = wanted_for (knows algorithms) (tree_of zones) (zone_of anchor) limits.cuts asked (asked.name ∷ names)

  pub algorithms_stay : (m n : ℕ) (e : Given) → Loops Kind asked limits most from m n e → e.algorithms ≡ from.algorithms
  algorithms_stay m n e Begins = refl
  algorithms_stay m n e (Wants {m = less} {e = f} ws before kind k is some) = algorithms_stay less n f before
  algorithms_stay m n e (Asks {n = less} {e = f} asks before kind k is room some) = algorithms_stay m less f before

  in_all : (m n : ℕ) (e : Given) → Loops Kind asked limits most from m n e → m + passing (is_lacking e) (all_of from.algorithms) ≤ passing (is_lacking from) (all_of from.algorithms)
  in_all m n e Begins = omega arith
  in_all m n e (Wants {m = less} {e = f} {ms = ms} ws before kind k is some) =
      let same : f.algorithms ≡ from.algorithms = algorithms_stay less n f before in
      let says_now : Resolves (knows f.algorithms) (tree_of zones) (zone_of anchor) asked.rtype said asked.name names =
      subst (λ (a : List ℕ). Resolves (knows a) (tree_of zones) (zone_of anchor) asked.rtype said asked.name names) (sym same) says in
      let less_now : passing (is_lacking (with_messages f ms)) (all_of from.algorithms) < passing (is_lacking f) (all_of from.algorithms) =
      subst (λ (a : List ℕ). passing (is_lacking (with_messages f ms)) (all_of a) < passing (is_lacking f) (all_of a)) same
      (less_lacking one f asked limits zones anchor kind.of kind.octets said names says_now k ws is ms some) in
      omega (arith, in_all less n f before, less_now)
  in_all m n e (Asks {n = less} {e = f} asks before kind k is room some) = in_all m less f before

  wants_few : (m n : ℕ) (e : Given) → Loops Kind asked limits most from m n e → m ≤ most_wanted (knows from.algorithms) (tree_of zones) (zone_of anchor) limits.cuts asked (asked.name ∷ names)
  wants_few m n e loop =
      omega (arith, in_all m n e loop, few_pass (is_lacking from) (all_of from.algorithms), all_length (knows from.algorithms) (tree_of zones) (zone_of anchor) limits.cuts asked (asked.name ∷ names))

pub trees_want_few : TreesSayOne → TreesWantFew
trees_want_few one asked limits most m n from e zones anchor said names says loop = wants_few one asked limits most from zones anchor said names says m n e loop
