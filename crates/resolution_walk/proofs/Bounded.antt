-- What a walk wants is new, and of few messages.
use Rattle.std.proofs.Common.{◌≡◌, ℕ, suc, ◌+◌, ◌<◌, length, Bool, true, false, ◌&&◌, ◌||◌, not, List, [], ◌∷◌, ◌++◌, map, Option, Some, refl, sym, ap, subst, ◌∙◌, inl, inr, ◌⊎◌, arith}
use Rattle.std.specs.Prelude.{◌==◌, is_none, nat_lt, Contains, if◌then◌else◌}
use Rattle.std.specs.Global.{Vec}
use Rattle.std.specs.List.{AllByRecursion, find}
use Rattle.std.specs.Option.{option_map}
use Rattle.std.proofs.lemmas.Bool.{and_parts, false≢true, ltb-true}
use Rattle.std.proofs.lemmas.List.{length-map}
use Rattle.definitions.specs.Dnskey.{Ds}
use Rattle.definitions.specs.Name.{Name, at_or_above, same, strictly_above}
use Rattle.definitions.proofs.Members.{In, contained, in_contained}
use Rattle.denial_laws.proofs.NameFacts.{names_same}
use Rattle.messages.specs.Message.{Asked}
use Rattle.answer_judge_facts.specs.declared.validity.Validity.{Validity}
use Rattle.evidence_laws.specs.Counted.{no_counts}
use Rattle.evidence_laws.specs.Counts.{Counts}
use Rattle.evidence_laws.specs.Given.{Given, Message, is_answer}
use Rattle.evidence_laws.specs.Told.{TellsDown}
use Rattle.evidence_laws.specs.Staying.{HasOctets}
use Rattle.evidence_laws.specs.Walking.{is_asked_of, renamed}
use Rattle.evidence_laws.proofs.Downward.{onward_down}
use Rattle.resolution_walk.specs.Between.{LiesBetween}
use Rattle.resolution_walk.specs.Laws.{AreFewOf, IsNewOf, IsOneOf, WalksWantFew, may_be_wanted, tails}
use Rattle.resolution_walk.specs.Stopping.{Stops, Here, Below, TooDeep, StopsBehind, AtOnce, Elsewhere, TooMany, Led, ending_within}
use Rattle.resolution_walk.specs.Truth.{last_of}
use Rattle.resolution_walk.specs.Wanted.{AreWantedOf, IsSought, is_for_keys, lacks, lacks_besides, wanted_if, wanted_of}
use Rattle.resolution_walk.specs.declared.ending.Ending.{Ending}
use Rattle.resolution_walk.specs.declared.ending.Ending.TheVariants as ends
use Rattle.resolution_walk.specs.declared.ending.Wanted.{Wanted}
use Rattle.resolution_walk.proofs.Walked.{heard_onward}

-- ---- what lacks is answered by no message

none_found : (p : Message → Bool) (ms : List Message) → is_none (option_map (λ (m : Message). m.octets) (find p ms)) ≡ true → (m : Message) → In m ms → p m ≡ false
none_found p [] none m there = absurd there
none_found p (x ∷ ms) none m there = go (p x) refl none there (none_found p ms)
  where
    go : (b : Bool) → p x ≡ b → is_none (option_map (λ (m : Message). m.octets) (if b then Some x else find p ms)) ≡ true → (m ≡ x) ⊎ In m ms
        → (is_none (option_map (λ (m : Message). m.octets) (find p ms)) ≡ true → (m : Message) → In m ms → p m ≡ false) → p m ≡ false
    go true e k t rest = absurd (false≢true k)
    go false e k (inl is) rest = ap p is ∙ e
    go false e k (inr later) rest = rest k m later

in_list : {X : Type 0} (xs : List X) (x : X) → Contains xs x → In x xs
in_list xs x c = in_contained xs x c.0 c.1 c.2

unanswered : (e : Given) (zone name : Name) (t : ℕ) → lacks e zone name t ≡ true → (m : Message) → Contains e.messages m → is_answer zone name t m ≡ false
unanswered e zone name t k m there = none_found (is_answer zone name t) e.messages k m (in_list e.messages m there)

-- ---- names above a name

tails_length : (n : Name) → length (tails n) ≡ length n
tails_length [] = refl
tails_length (l ∷ n) = ap suc (tails_length n)

in_map : {X Y : Type 0} (f : X → Y) (xs : List X) (x : X) → In x xs → In (f x) (map f xs)
in_map f [] x h = absurd h
in_map f (y ∷ ys) x (inl e) = inl (ap f e)
in_map f (y ∷ ys) x (inr later) = inr (in_map f ys x later)

-- a name at or above another, and below some, is one of its tails
in_tails : (zone n q : Name) → strictly_above zone n ≡ true → at_or_above n q ≡ true → (t : Name) × In t (tails q) × (same n t ≡ true)
in_tails zone [] q below above = absurd (false≢true below)
in_tails zone (l ∷ n) [] below above = absurd (false≢true above)
in_tails zone (l ∷ n) (k ∷ q) below above = go (same (l ∷ n) (k ∷ q)) refl above (in_tails zone (l ∷ n) q below)
  where
    go : (b : Bool) → same (l ∷ n) (k ∷ q) ≡ b → (b || at_or_above (l ∷ n) q) ≡ true → (at_or_above (l ∷ n) q ≡ true → (t : Name) × In t (tails q) × (same (l ∷ n) t ≡ true))
        → (t : Name) × In t (tails (k ∷ q)) × (same (l ∷ n) t ≡ true)
    go true e h rest = (k ∷ q, inl refl, e)
    go false e h rest = let found = rest h in (found.0, inr found.1, found.2)

-- ---- what may be wanted

module _ (e : Given) (asked : Asked) (zone : Name) (ds : List Ds) where
  one : (like x : Wanted) → In like (may_be_wanted zone asked) → same x.name like.name ≡ true → x.rtype ≡ like.rtype → IsOneOf (may_be_wanted zone asked) x
  one like x there name rtype = record { like = like; there = contained (may_be_wanted zone asked) like there; name_is = name; rtype_is = rtype }

  keys_one : IsOneOf (may_be_wanted zone asked) (wanted_of zone zone 48)
  keys_one = one (wanted_of zone zone 48) (wanted_of zone zone 48) (inl refl) (names_same zone zone refl) refl

  question_one : IsOneOf (may_be_wanted zone asked) (wanted_of zone asked.name asked.rtype)
  question_one = one (wanted_of zone asked.name asked.rtype) (wanted_of zone asked.name asked.rtype) (inr (inl refl)) (names_same asked.name asked.name refl) refl

  between_one : (n : Name) → LiesBetween zone asked n → IsOneOf (may_be_wanted zone asked) (wanted_of zone n 43)
  between_one n lies =
      let t = in_tails zone n asked.name lies.0 lies.1 in
      one (wanted_of zone t.0 43) (wanted_of zone n 43) (inr (inr (in_map (λ m. wanted_of zone m 43) (tails asked.name) t.0 t.1))) t.2 refl

  sought_one : (sought : Asked) → IsSought e asked zone ds sought → IsOneOf (may_be_wanted zone asked) (wanted_of zone sought.name sought.rtype)
  sought_one sought (inl is) = subst (λ (q : Asked). IsOneOf (may_be_wanted zone asked) (wanted_of zone q.name q.rtype)) (sym is) question_one
  sought_one sought (inr between) =
      subst (λ (q : Asked). IsOneOf (may_be_wanted zone asked) (wanted_of zone q.name q.rtype)) (sym between.is) (between_one between.name between.reached.lies)

  new_of : (name : Name) (t : ℕ) → lacks e zone name t ≡ true → IsOneOf (may_be_wanted zone asked) (wanted_of zone name t) → IsNewOf e zone asked (wanted_of zone name t)
  new_of name t k is = record { zone_is = refl; unanswered = unanswered e zone name t k; one_of = is }

  new_each : (a b f : Bool) (name : Name) (t : ℕ) → lacks e zone zone 48 ≡ a → lacks e zone name t ≡ b → IsOneOf (may_be_wanted zone asked) (wanted_of zone name t)
      → AllByRecursion (IsNewOf e zone asked) (wanted_if a (wanted_of zone zone 48) ++ wanted_if (lacks_besides a f b) (wanted_of zone name t))
  new_each true true true name t k j is = (new_of zone 48 k keys_one, tt)
  new_each true true false name t k j is = (new_of zone 48 k keys_one, (new_of name t j is, tt))
  new_each true false f name t k j is = (new_of zone 48 k keys_one, tt)
  new_each false true f name t k j is = (new_of name t j is, tt)
  new_each false false f name t k j is = tt

  some_of : (a b f : Bool) (x y : Wanted) → (a || b) ≡ true → 0 < length (wanted_if a x ++ wanted_if (lacks_besides a f b) y)
  some_of true true true x y k = omega arith
  some_of true true false x y k = omega arith
  some_of true false f x y k = omega arith
  some_of false true f x y k = omega arith
  some_of false false f x y k = absurd (false≢true k)

  few_of : (ws : List Wanted) → at_or_above zone asked.name ≡ true → AreWantedOf e asked zone ds ws → AreFewOf e asked ws
  few_of ws above k = subst (AreFewOf e asked) (sym k.are) (record {
    zone = zone;
    above = above;
    some = some_of (lacks e zone zone 48) (lacks e zone k.sought.name k.sought.rtype) (is_for_keys zone k.sought) (wanted_of zone zone 48) (wanted_of zone k.sought.name k.sought.rtype) k.some;
    each = new_each (lacks e zone zone 48) (lacks e zone k.sought.name k.sought.rtype) (is_for_keys zone k.sought) k.sought.name k.sought.rtype refl refl (sought_one k.sought k.is_sought);
    few = counted;
  })
    where
      counted : length (may_be_wanted zone asked) ≡ length asked.name + 2
      counted = omega (arith, length-map (tails asked.name) (λ n. wanted_of zone n 43), tails_length asked.name)

-- ---- along the way

module _ (e : Given) (octets : HasOctets e) (ws : Vec Wanted) where
  wants_few : (asked : Asked) (cuts : ℕ) (zone : Name) (ds : List Ds) (before after : Counts) (l : Option Validity) → Stops e asked (ends.Wants ws) cuts zone ds before after l → at_or_above zone asked.name ≡ true → AreFewOf e asked ws.items
  wants_few asked cuts zone ds before after l (Here judged stops) above = few_of e asked zone ds ws.items above stops
  wants_few asked cuts zone ds before after l (Below {cuts = less} {c = c} {below = below} {between = between} {first = first} {rest = rest} judged way more lasts) above =
      wants_few asked less c below between after rest more (onward_down e octets asked zone ds c below first (heard_onward e asked zone ds (TellsDown c below) first way))
  wants_few asked cuts zone ds before after l (TooDeep judged way is) above = absurd cc

  asked_above : (asked : Asked) → is_asked_of e.anchor asked ≡ true → at_or_above e.anchor asked.name ≡ true
  asked_above asked w = (and_parts (at_or_above e.anchor asked.name) (not (same e.anchor asked.name && (asked.rtype == 43))) w).0

  behind_few : (cuts aliases : ℕ) (asked : Asked) (ns : List Name) (before after : Counts) (l : Option Validity) → StopsBehind e cuts (ends.Wants ws) aliases asked ns before after l → AreFewOf e (renamed asked (last_of asked.name ns)) ws.items
  behind_few cuts aliases asked ns before after l (AtOnce w stops none) = wants_few asked cuts e.anchor e.ds before after l stops (asked_above asked w)
  behind_few cuts aliases asked ns before after l (Elsewhere w is same) = absurd cc
  behind_few cuts aliases asked ns before after l (TooMany t led is same) = absurd cc
  behind_few cuts aliases asked ns before after l (Led {aliases = less} {ns = more} {rest = rest} t led stops lasts) = behind_few cuts less (renamed asked t.name) more t.counts after rest stops

-- a limit of messages that is not reached
room_is : (e : Given) (most : ℕ) (ws : Vec Wanted) (ending : Ending) → ends.Wants ws ≡ ending_within most e ending → (nat_lt (length e.messages) most ≡ true) × (ending ≡ ends.Wants ws)
room_is e most ws (ends.Wants xs) is = go (nat_lt (length e.messages) most) refl is
  where
    go : (b : Bool) → nat_lt (length e.messages) most ≡ b → ends.Wants ws ≡ (if b then ends.Wants xs else ends.TooManyMessages) → (nat_lt (length e.messages) most ≡ true) × (ends.Wants xs ≡ ends.Wants ws)
    go true k e = (k, sym e)
    go false k e = absurd cc
room_is e most ws (ends.Secure of v) is = absurd cc
room_is e most ws (ends.Leads lead) is = absurd cc
room_is e most ws (ends.Unsigned c datas) is = absurd cc
room_is e most ws (ends.LeftOpen of) is = absurd cc
room_is e most ws (ends.Untold of by name t r) is = absurd cc
room_is e most ws (ends.Asks asks) is = absurd cc
room_is e most ws ends.TooManyCuts is = absurd cc
room_is e most ws ends.TooManyAliases is = absurd cc
room_is e most ws ends.TooManyMessages is = absurd cc
room_is e most ws ends.Outside is = absurd cc

pub walks_want_few : WalksWantFew
walks_want_few e asked limits w ws octets stops is =
    let room = room_is e limits.messages ws stops.ending (sym is ∙ stops.is) in
    let more : List Name = stops.stops.more in
    let behind : StopsBehind e limits.cuts (ends.Wants ws) limits.aliases asked more no_counts w.counts stops.validity =
    subst (λ (g : Ending). StopsBehind e limits.cuts g limits.aliases asked more no_counts w.counts stops.validity) room.1 stops.stops.stops in
    let few = behind_few e octets ws limits.cuts limits.aliases asked more no_counts w.counts stops.validity behind in (
      ltb-true (length e.messages) limits.messages room.0,
      subst (λ (ns : List Name). AreFewOf e (renamed asked (last_of asked.name ns)) ws.items) (sym stops.stops.through_are) few,
    )
