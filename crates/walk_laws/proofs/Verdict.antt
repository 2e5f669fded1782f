-- Where a loop over evidence of a tree ends.
use Rattle.std.proofs.Common.{◌≡◌, ℕ, suc, ◌+◌, ◌-◌, ◌*◌, ◌<◌, ◌≤◌, length, Bool, true, false, ◌&&◌, List, [], ◌∷◌, map, Some, None, refl, sym, ap, subst, ◌∙◌, inl, arith, length-append}
use Rattle.std.specs.Prelude.{◌==◌, nat_le, if◌then◌else◌}
use Rattle.std.specs.Global.{Vec}
use Rattle.std.proofs.lemmas.Bool.{and_from, eq-eqb, leb-false, leb-true}
use Rattle.std.proofs.lemmas.List.{length-map}
use Rattle.definitions.specs.Name.{Name, same}
use Rattle.definitions.proofs.Members.{contained}
use Rattle.denial_laws.proofs.NameFacts.{names_same}
use Rattle.messages.specs.Message.{Asked}
use Rattle.answer_findings.specs.Table.{Tried}
use Rattle.tree_laws.specs.Laws.{TreesResolveToOne, TreesSayOne}
use Rattle.tree_laws.specs.Tree.{Said, Resolves}
use Rattle.resolution_step.specs.KnownDs.{knows}
use Rattle.evidence_laws.specs.Given.{Given, Message}
use Rattle.evidence_laws.specs.Truth.{SignedZone, tree_of, zone_of}
use Rattle.resolution_walk.specs.declared.ending.Ending.{Ending}
use Rattle.resolution_walk.specs.declared.ending.Ending.TheVariants as ends
use Rattle.resolution_walk.specs.declared.ending.Walk.{Walk}
use Rattle.resolution_walk.specs.declared.ending.Wanted.{Wanted}
use Rattle.resolution_walk.specs.declared.walk.Limits.{Limits}
use Rattle.walk_laws.specs.Ending.{EndsInTree, IsTreesWalk, IsUntoldOf, LeaveRoom, Never}
use Rattle.walk_laws.specs.Ending as walked
use Rattle.walk_laws.specs.Few.{IsReadOfTree}
use Rattle.walk_laws.specs.Laws.{Ends}
use Rattle.walk_laws.specs.Loop.{AreWalks, Caller, Loops, Begins, Wants, Asks, Reaches, AtOnce, ByCall, SomeAnswered, SomeChecked, Walks, entry_for, message_for, next, with_entries, with_messages}
use Rattle.walk_laws.specs.New.{answers}
use Rattle.walk_laws.specs.Verdict.{Comes, EndsLoop, SaysSo, AsksTooMuch, IsStuck, IsTreesLoop, LoopsComeToVerdicts, TreesComeToVerdicts, wanted_on_way}
use Rattle.walk_laws.proofs.Ending.{trees_are_walked}
use Rattle.walk_laws.proofs.Few.{algorithms_stay, trees_want_few}
use Rattle.walk_laws.proofs.Loops.{few_ask, few_messages, loops_end, some_asked, some_wanted}
use Rattle.walk_laws.proofs.Served.{keyed_trees_are_walked}

-- ---- what a caller hands in

module _ (c : Caller) (asked : Asked) where
  answer_for : (x : Wanted) → answers x (message_for c asked x) ≡ true
  answer_for x =
      and_from (same x.zone x.zone && same x.name x.name) (x.rtype == x.rtype) (and_from (same x.zone x.zone) (same x.name x.name) (names_same x.zone x.zone refl) (names_same x.name x.name refl)) (eq-eqb x.rtype x.rtype refl)

  some_answer : (ws : List Wanted) → 0 < length ws → SomeAnswered ws (map (message_for c asked) ws)
  some_answer [] some = absurd (omega (arith, some))
  some_answer (x ∷ ws) some = record {
    wanted = x;
    is_wanted = contained (x ∷ ws) x (inl refl);
    message = message_for c asked x;
    there = contained (map (message_for c asked) (x ∷ ws)) (message_for c asked x) (inl refl);
    answer = answer_for x;
  }

  some_check : (asks : List Tried) → 0 < length asks → SomeChecked asks (map (entry_for c) asks)
  some_check [] some = absurd (omega (arith, some))
  some_check (t ∷ asks) some = record {
    tried = t;
    is_asked = contained (t ∷ asks) t (inl refl);
    entry = entry_for c t;
    there = contained (map (entry_for c) (t ∷ asks)) (entry_for c t) (inl refl);
    same = refl;
  }

-- ---- its calls are those of a loop

module _ (Kind : Given → Type 0) (c : Caller) (asked : Asked) (limits : Limits) (most : ℕ) (walks : Given → Walk) (from : Given)
    (are : AreWalks c asked limits most walks from) (kind : (calls : ℕ) (e : Given) → Reaches c asked most walks from calls e → Kind e) where
  -- so many of them, and two messages more at most for each that wants some
  pub record IsCounted (calls : ℕ) (e : Given) : Type 0 where
    pub wants : ℕ
    pub asks : ℕ
    pub loop : Loops Kind asked limits most from wants asks e
    pub sum : wants + asks ≡ calls
    pub messages : length e.messages ≤ length from.messages + 2 * wants

  module _ (calls : ℕ) (e : Given) (reached : Reaches c asked most walks from calls e) (k : IsCounted calls e) where
    abbrev walk_of : Walks asked limits e
    walk_of = record { walk = walks e; stops = are calls e reached }

    by_wants : (ws : Vec Wanted) → (walks e).ending ≡ ends.Wants ws → IsCounted (suc calls) (with_messages e (map (message_for c asked) ws.items))
    by_wants ws is =
        let ms : List Message = map (message_for c asked) ws.items in
        record {
          wants = suc k.wants;
          asks = k.asks;
          loop = Wants ws k.loop (kind calls e reached) walk_of is (some_answer c asked ws.items (some_wanted e asked limits walk_of ws is));
          sum = omega (arith, k.sum);
          messages = omega (arith, k.messages, length-append e.messages ms, length-map ws.items (message_for c asked), few_messages e asked limits walk_of ws is);
        }

    by_asks : (asks : Vec Tried) → (walks e).ending ≡ ends.Asks asks → length e.table + length asks.items ≤ most → IsCounted (suc calls) (with_entries e (map (entry_for c) asks.items))
    by_asks asks is few = record {
      wants = k.wants;
      asks = suc k.asks;
      loop = Asks asks k.loop (kind calls e reached) walk_of is few (some_check c asked asks.items (some_asked e asked limits walk_of asks is));
      sum = omega (arith, k.sum);
      messages = k.messages;
    }

    none_next : (g : Given) → None ≡ Some g → IsCounted (suc calls) g
    none_next g is = absurd cc

    by_end : (ending : Ending) → (walks e).ending ≡ ending → (g : Given) → next c asked most e ending ≡ Some g → IsCounted (suc calls) g
    by_end (ends.Wants ws) at g is =
        let alike : with_messages e (map (message_for c asked) ws.items) ≡ g = (let both : Some (with_messages e (map (message_for c asked) ws.items)) ≡ Some g = is in cc) in
        subst (IsCounted (suc calls)) alike (by_wants ws at)
    by_end (ends.Asks asks) at g is = by_room (nat_le (length e.table + length asks.items) most) refl is
      where
        by_room : (b : Bool) → nat_le (length e.table + length asks.items) most ≡ b → (if b then Some (with_entries e (map (entry_for c) asks.items)) else None) ≡ Some g → IsCounted (suc calls) g
        by_room true fits is =
            let alike : with_entries e (map (entry_for c) asks.items) ≡ g = (let both : Some (with_entries e (map (entry_for c) asks.items)) ≡ Some g = is in cc) in
            subst (IsCounted (suc calls)) alike (by_asks asks at (leb-true (length e.table + length asks.items) most fits))
        by_room false over is = none_next g is
    by_end (ends.Secure of v) at g is = none_next g is
    by_end (ends.Leads lead) at g is = none_next g is
    by_end (ends.Unsigned cut datas) at g is = none_next g is
    by_end (ends.LeftOpen of) at g is = none_next g is
    by_end (ends.Untold of by name t r) at g is = none_next g is
    by_end ends.TooManyCuts at g is = none_next g is
    by_end ends.TooManyAliases at g is = none_next g is
    by_end ends.TooManyMessages at g is = none_next g is
    by_end ends.Outside at g is = none_next g is

  pub counted : (calls : ℕ) (e : Given) → Reaches c asked most walks from calls e → IsCounted calls e
  counted calls e AtOnce = record { wants = 0; asks = 0; loop = Begins; sum = refl; messages = omega arith }
  counted calls e (ByCall {calls = less} {e = before} reached is) = by_end less before reached (counted less before reached) (walks before).ending refl e is

-- ---- where it ends

module _ (Stuck : Given → Walk → Type 0) (one : TreesSayOne) (c : Caller) (asked : Asked) (limits : Limits) (most : ℕ) (walks : Given → Walk) (from : Given) (zones : List SignedZone) (anchor : SignedZone) (said : Said) (names : List Name)
    (k : IsTreesLoop c asked limits most walks from zones anchor said names)
    (walk_ends : (calls : ℕ) (e : Given) → Reaches c asked most walks from calls e → IsTreesWalk e asked limits zones anchor said names (walks e) → EndsInTree Stuck e limits said names (walks e)) where
  abbrev Kind : Given → Type 0
  Kind = IsReadOfTree asked.class zones anchor

  ended : Ends c asked limits most walks from
  ended = loops_end c asked limits most walks from k.are

  counts : IsCounted Kind c asked limits most walks from k.are k.of ended.calls ended.last
  counts = counted Kind c asked limits most walks from k.are k.of ended.calls ended.last ended.reached

  few_wants : counts.wants ≤ wanted_on_way asked limits from zones anchor names
  few_wants = trees_want_few one asked limits most counts.wants counts.asks from ended.last zones anchor said names k.says counts.loop

  few_asks : counts.asks ≤ most - length from.table
  few_asks = few_ask Kind asked limits most from counts.wants counts.asks ended.last counts.loop

  unchanged : ended.last.algorithms ≡ from.algorithms
  unchanged = algorithms_stay one asked limits most from zones anchor said names k.says counts.wants counts.asks ended.last counts.loop

  walk : IsTreesWalk ended.last asked limits zones anchor said names (walks ended.last)
  walk = record {
    of = (k.of ended.calls ended.last ended.reached).of;
    says = subst (λ (a : List ℕ). Resolves (knows a) (tree_of zones) (zone_of anchor) asked.rtype said asked.name names) (sym unchanged) k.says;
    room = subst (λ (a : List ℕ). LeaveRoom limits (knows a) (tree_of zones) (zone_of anchor) asked names) (sym unchanged) k.room;
    stops = k.are ended.calls ended.last ended.reached;
    truly = k.truly ended.calls ended.last ended.reached;
  }

  abbrev EndsSo : Type 0
  EndsSo = EndsLoop Stuck most ended.last said names (walks ended.last)

  asks_over : (asks : Vec Tried) → (walks ended.last).ending ≡ ends.Asks asks → EndsSo
  asks_over asks is = by_room (nat_le (length ended.last.table + length asks.items) most) refl (sym (ap (next c asked most ended.last) is) ∙ ended.ends)
    where
      by_room : (b : Bool) → nat_le (length ended.last.table + length asks.items) most ≡ b → (if b then Some (with_entries ended.last (map (entry_for c) asks.items)) else None) ≡ None → EndsSo
      by_room true fits none = absurd cc
      by_room false over none = AsksTooMuch asks is (leb-false (length ended.last.table + length asks.items) most over)

  by_walk : EndsInTree Stuck ended.last limits said names (walks ended.last) → EndsSo
  by_walk (walked.SaysSo s is alike through) = SaysSo s is alike through
  by_walk (walked.WantsMore ws is) = absurd (let none : Some (with_messages ended.last (map (message_for c asked) ws.items)) ≡ None = sym (ap (next c asked most ended.last) is) ∙ ended.ends in cc)
  by_walk (walked.AsksMore asks is) = asks_over asks is
  by_walk (walked.IsFull is full) = absurd (omega (arith, full, counts.messages, few_wants, k.messages))
  by_walk (walked.IsStuck stuck) = IsStuck stuck

  pub comes : Comes Stuck (wanted_on_way asked limits from zones anchor names) c asked limits most walks from said names
  comes = record {
    calls = ended.calls;
    last = ended.last;
    reached = ended.reached;
    end = by_walk (walk_ends ended.calls ended.last ended.reached walk);
    few = omega (arith, counts.sum, few_wants, few_asks);
  }

pub loops_come_to_verdicts : TreesSayOne → TreesResolveToOne → LoopsComeToVerdicts
loops_come_to_verdicts one resolve_one c asked limits most walks from zones anchor said names k =
    comes (IsUntoldOf asked limits.cuts zones anchor names) one c asked limits most walks from zones anchor said names k
    (λ calls e reached walk. trees_are_walked one resolve_one e asked limits zones anchor said names (walks e) walk)

pub trees_come_to_verdicts : TreesSayOne → TreesResolveToOne → TreesComeToVerdicts
trees_come_to_verdicts one resolve_one c asked limits most walks from zones anchor said names k served =
    comes Never one c asked limits most walks from zones anchor said names k
    (λ calls e reached walk. keyed_trees_are_walked one resolve_one c.passes e asked limits zones anchor said names (walks e) walk (served calls e reached))
