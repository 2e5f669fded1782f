-- One side of a life at a call that changes nothing of it: a call on keys, or one of a roll of the other side.
use Rattle.std.proofs.Common.{◌≡◌, Bool, true, false, not, List, [], ◌∷◌, ◌++◌, refl, sym, ap, subst, ◌∙◌, ◌&&◌, ◌||◌, inl, inr, ⊎_elim}
use Rattle.std.specs.Prelude.{Option, Some, None}
use Rattle.std.proofs.lemmas.Bool.{and_from, not-true, or_right}
use Rattle.keyset_keys.specs.declared.keys.KeyType.{KeyType}
use Rattle.keyset_rolls.specs.declared.rolls.RollState.{RollState}
use Rattle.keyset_rolls.specs.declared.rolls.RollState.TheVariants.{Propagation1, CacheExpire1, Propagation2, CacheExpire2, Done}
use Rattle.keyset_rolls.specs.declared.rolls.RollType.{RollType}
use Rattle.keyset_rolls.specs.declared.rolls.RollType.TheVariants.{AlgorithmRoll}
use Rattle.keyset_rolls.specs.Rolls.{touches}
use Rattle.keyset.specs.KeyState.{Key, KeySetState, Reference, ds, each_is, is_stale, key_of, phase_of}
use Rattle.keyset.specs.KeyRunLaws.{Reports}
use Rattle.keyset_laws.specs.KeyLife.{DnskeyAnswer, Step, Thing, is_first_wait, is_start}
use Rattle.keyset_laws.specs.Sides.{Side, doubles, first_of, is_empty, is_lasting, is_on, is_ready, is_shown, partner, second_of, shows, stays}
use Rattle.keyset_laws.specs.Anchors.{Anchored, Crossing, Early, Growing, Grows, HasKey, Kept, Late, Life, NoDs, Rests, Switched, Switches, grown, is_second, rests}
use Rattle.keyset_laws.proofs.SideWords.{is_of}
use Rattle.keyset_laws.proofs.Contents.{shown_shows}
use Rattle.keyset_laws.proofs.Retiring.{each_more, live_more, since_more}
use Rattle.keyset_laws.proofs.SideTables.{shown_of, shown_used}

-- ---- parts of tests

pub four : (a b c d : Bool) → (a && b && c && d) ≡ true → (a ≡ true) × (b ≡ true) × (c ≡ true) × (d ≡ true)
four true true true true h = (refl, refl, refl, refl)
four true true true false h = cc
four true true false d h = cc
four true false c d h = cc
four false b c d h = cc

pub if_wanted : (d a b : Bool) → (a ≡ true → b ≡ true) → (not d || a) ≡ true → (not d || b) ≡ true
if_wanted true a b f h = f h
if_wanted false a b f h = refl

pub wanted : (d a : Bool) → d ≡ true → (not d || a) ≡ true → a ≡ true
wanted true a e h = h
wanted false a e h = cc

pub not_wanted : (d a : Bool) → (d ≡ true → a ≡ true) → (not d || a) ≡ true
not_wanted true a f = f refl
not_wanted false a f = refl

module _ (side : Side) (r : RollType) (t : KeyType) where
  pub of_ready : is_ready side r t ≡ true → (touches r t ≡ true) × (stays side t ≡ true) × (is_shown side (first_of side r) t ≡ true) × ((not (doubles side r) || is_shown side (second_of side r) t) ≡ true)
  of_ready h = four (touches r t) (stays side t) (is_shown side (first_of side r) t) (not (doubles side r) || is_shown side (second_of side r) t) h

  pub of_lasting : is_lasting side r t ≡ true → (touches r t ≡ true) × (stays side t ≡ true) × (is_shown side (first_of side r) t ≡ true) × (is_shown side (second_of side r) t ≡ true)
  of_lasting h = four (touches r t) (stays side t) (is_shown side (first_of side r) t) (is_shown side (second_of side r) t) h

-- ---- what keys show now

pub shows_now : (side : Side) (thing : Thing) (s : KeySetState) (q : Reference) → HasKey s q (is_shown side thing) → shows side thing q s ≡ true
shows_now side thing s q h = shown_shows side thing s q h.0 h.1 h.2

module _ (side : Side) (r : RollType) (s : KeySetState) (n : Reference) where
  pub ready_first : HasKey s n (is_ready side r) → HasKey s n (is_shown side (first_of side r))
  ready_first h = (h.0, h.1, (of_ready side r h.0.roles h.2).2)

  pub ready_grown : HasKey s n (is_ready side r) → grown side r n s ≡ true
  ready_grown h =
      let w = of_ready side r h.0.roles h.2 in
      and_from (shows side (first_of side r) n s) (not (doubles side r) || shows side (second_of side r) n s)
      (shown_shows side (first_of side r) s n h.0 h.1 w.2)
      (if_wanted (doubles side r) (is_shown side (second_of side r) h.0.roles) (shows side (second_of side r) n s) (λ x. shown_shows side (second_of side r) s n h.0 h.1 x) w.3)

  pub lasting_first : HasKey s n (is_lasting side r) → HasKey s n (is_shown side (first_of side r))
  lasting_first h = (h.0, h.1, (of_lasting side r h.0.roles h.2).2)

  pub lasting_second : HasKey s n (is_lasting side r) → HasKey s n (is_shown side (second_of side r))
  lasting_second h = (h.0, h.1, (of_lasting side r h.0.roles h.2).3)

-- ---- one step more, where keys stay

pub early_more : (side : Side) (r : RollType) (life : Life) (steps : List Step) (t : Step) (p : Reports) (n : Reference) (o : Option RollState) → is_start r t.call ≡ false → grown side r n t.left ≡ true
    → Early side r life steps p n o → Early side r life (steps ++ t ∷ []) p n o
early_more side r life steps t p n None e g h = h
early_more side r life steps t p n (Some Propagation1) e g h = since_more (is_start r) steps (grown side r n) t h e g
early_more side r life steps t p n (Some (CacheExpire1 ttl)) e g h = λ since is run.
    (let w = h since is run in (
      live_more life steps t (first_of side r) (shows side (first_of side r) n) w.0 (both_left g),
      λ d. live_more life steps t (second_of side r) (shows side (second_of side r) n) (w.1 d) (wanted (doubles side r) (shows side (second_of side r) n t.left) d (both_right g)),
    ))
  where
    both_left : grown side r n t.left ≡ true → shows side (first_of side r) n t.left ≡ true
    both_left g = Rattle.keyset.proofs.KeyTables.and_left (shows side (first_of side r) n t.left) (not (doubles side r) || shows side (second_of side r) n t.left) g

    both_right : grown side r n t.left ≡ true → (not (doubles side r) || shows side (second_of side r) n t.left) ≡ true
    both_right g = Rattle.keyset.proofs.KeyTables.and_right (shows side (first_of side r) n t.left) (not (doubles side r) || shows side (second_of side r) n t.left) g
early_more side r life steps t p n (Some Propagation2) e g h = h
early_more side r life steps t p n (Some (CacheExpire2 ttl)) e g h = h
early_more side r life steps t p n (Some Done) e g h = h

pub late_more : (side : Side) (r : RollType) (life : Life) (steps : List Step) (t : Step) (p : Reports) (n : Reference) (o : Option RollState) → is_first_wait r t.call ≡ false → shows side (second_of side r) n t.left ≡ true
    → Late side r life steps p n o → Late side r life (steps ++ t ∷ []) p n o
late_more side r life steps t p n None e g h = h
late_more side r life steps t p n (Some Propagation1) e g h = h
late_more side r life steps t p n (Some (CacheExpire1 ttl)) e g h = h
late_more side r life steps t p n (Some Propagation2) e g h = since_more (is_first_wait r) steps (shows side (second_of side r) n) t h e g
late_more side r life steps t p n (Some (CacheExpire2 ttl)) e g h = λ since is run. live_more life steps t (second_of side r) (shows side (second_of side r) n) (h since is run) g
late_more side r life steps t p n (Some Done) e g h = h

module _ (side : Side) (life : Life) (steps : List Step) (t : Step) where
  pub anchored_more : (s : KeySetState) (q : Reference) → Anchored side life steps s q → HasKey t.left q (is_shown side DnskeyAnswer) → HasKey t.left q (is_shown side (partner side)) → Anchored side life (steps ++ t ∷ []) t.left q
  anchored_more s q h a b = record {
    keys = live_more life steps t DnskeyAnswer (shows side DnskeyAnswer q) h.keys (shows_now side DnskeyAnswer t.left q a);
    ends = live_more life steps t (partner side) (shows side (partner side) q) h.ends (shows_now side (partner side) t.left q b);
    in_keys = a;
    in_ends = b;
  }

  pub no_ds_more : is_empty (ds t.left) ≡ true → NoDs life steps → NoDs life (steps ++ t ∷ [])
  no_ds_more e h i s g = each_more life steps t (λ s. is_empty (ds s) ≡ true) h e i s g

  pub crossing_more : (r : RollType) (s : KeySetState) (p : Reports) (n : Reference) → Crossing side r life steps s p n → is_first_wait r t.call ≡ false → ((q : Reference) → HasKey s q (is_shown side (first_of side r)) → HasKey t.left q (is_shown side (first_of side r)))
      → HasKey t.left n (is_lasting side r) → phase_of t.left r ≡ phase_of s r → Crossing side r life (steps ++ t ∷ []) t.left p n
  crossing_more r s p n h e f l ph = record {
    old = h.old;
    still = f h.old h.still;
    both = live_more life steps t (first_of side r) (λ x. shows side (first_of side r) h.old x && shows side (first_of side r) n x) h.both
        (and_from (shows side (first_of side r) h.old t.left) (shows side (first_of side r) n t.left) (shows_now side (first_of side r) t.left h.old (f h.old h.still)) (shows_now side (first_of side r) t.left n (lasting_first side r t.left n l)));
    either = live_more life steps t (second_of side r) (λ x. shows side (second_of side r) h.old x || shows side (second_of side r) n x) h.either
        (or_right (shows side (second_of side r) h.old t.left) (shows side (second_of side r) n t.left) (shows_now side (second_of side r) t.left n (lasting_second side r t.left n l)));
    late = subst (Late side r life (steps ++ t ∷ []) p n) (sym ph) (late_more side r life steps t p n (phase_of s r) e (shows_now side (second_of side r) t.left n (lasting_second side r t.left n l)) h.late);
  }

-- a step that leaves a side as it is
pub record Still (side : Side) (s : KeySetState) (t : Step) (p q : RollType → Reports) : Type 0 where
  pub roles : (x : Reference) (k : Key) → key_of s x ≡ Some k → each_is is_stale k.roles ≡ false → is_of side k.roles ≡ true → (l : Key) × (key_of t.left x ≡ Some l) × (l.roles ≡ k.roles)
  pub phases : (r : RollType) → is_on side r ≡ true → phase_of t.left r ≡ phase_of s r
  pub no_start : (r : RollType) → is_on side r ≡ true → is_start r t.call ≡ false
  pub no_wait : (r : RollType) → is_on side r ≡ true → is_first_wait r t.call ≡ false
  pub noted : (r : RollType) → is_on side r ≡ true → p r ≡ q r

module _ (side : Side) (life : Life) (steps : List Step) (s : KeySetState) (t : Step) (p q : RollType → Reports) (w : Still side s t p q) where
  shown_stays : (x : Reference) (thing : Thing) (k : Key) → key_of s x ≡ Some k → is_shown side thing k.roles ≡ true → (l : Key) × (key_of t.left x ≡ Some l) × (l.roles ≡ k.roles)
  shown_stays x thing k f h = w.roles x k f (not-true (each_is is_stale k.roles) (shown_used side thing k.roles h)) (shown_of side thing k.roles h)

  pub shown_still : (x : Reference) (thing : Thing) → HasKey s x (is_shown side thing) → HasKey t.left x (is_shown side thing)
  shown_still x thing h = let l = shown_stays x thing h.0 h.1 h.2 in (l.0, l.1, ap (is_shown side thing) l.2 ∙ h.2)

  ready_still : (r : RollType) (x : Reference) → HasKey s x (is_ready side r) → HasKey t.left x (is_ready side r)
  ready_still r x h = let l = shown_stays x (first_of side r) h.0 h.1 (of_ready side r h.0.roles h.2).2 in (l.0, l.1, ap (is_ready side r) l.2 ∙ h.2)

  lasting_still : (r : RollType) (x : Reference) → HasKey s x (is_lasting side r) → HasKey t.left x (is_lasting side r)
  lasting_still r x h = let l = shown_stays x (first_of side r) h.0 h.1 (of_lasting side r h.0.roles h.2).2 in (l.0, l.1, ap (is_lasting side r) l.2 ∙ h.2)

  anchored_still : (x : Reference) → Anchored side life steps s x → Anchored side life (steps ++ t ∷ []) t.left x
  anchored_still x h = anchored_more side life steps t s x h (shown_still x DnskeyAnswer h.in_keys) (shown_still x (partner side) h.in_ends)

  growing_still : (r : RollType) → (r ≡ AlgorithmRoll → NoDs life steps → is_empty (ds t.left) ≡ true) → Growing side r life steps s (p r) → Growing side r life (steps ++ t ∷ []) t.left (q r)
  growing_still r none h =
      let ready = ready_still r h.new h.ready in
      record {
        on = h.on;
        new = h.new;
        ready = ready;
        anchored = ⊎_elim (λ (e : (r ≡ AlgorithmRoll) × NoDs life steps). inl (e.0, no_ds_more side life steps t (none e.0 e.1) e.1)) (λ (a : (x : Reference) × Anchored side life steps s x). inr (a.0, anchored_still a.0 a.1)) h.anchored;
        early = subst (λ o. Early side r life (steps ++ t ∷ []) (q r) h.new o) (sym (w.phases r h.on))
            (subst (λ o. Early side r life (steps ++ t ∷ []) o h.new (phase_of s r)) (w.noted r h.on)
            (early_more side r life steps t (p r) h.new (phase_of s r) (w.no_start r h.on) (ready_grown side r t.left h.new ready) h.early));
      }

  switched_still : (r : RollType) → Switched side r life steps s (p r) → Switched side r life (steps ++ t ∷ []) t.left (q r)
  switched_still r h =
      let lasting = lasting_still r h.new h.lasting in
      record {
        on = h.on;
        new = h.new;
        lasting = lasting;
        handed_over = λ d. subst (λ o. Crossing side r life (steps ++ t ∷ []) t.left o h.new) (w.noted r h.on)
            (crossing_more side life steps t r s (p r) h.new (h.handed_over d) (w.no_wait r h.on) (λ x f. shown_still x (first_of side r) f) lasting (w.phases r h.on));
        doubled = λ d. (let a = h.doubled d in record {
          keys = live_more life steps t DnskeyAnswer (shows side DnskeyAnswer h.new) a.keys (shows_now side DnskeyAnswer t.left h.new (shown_still h.new DnskeyAnswer a.in_keys));
          ends = live_more life steps t (partner side) (shows side (partner side) h.new) a.ends (shows_now side (partner side) t.left h.new (shown_still h.new (partner side) a.in_ends));
          in_keys = shown_still h.new DnskeyAnswer a.in_keys;
          in_ends = shown_still h.new (partner side) a.in_ends;
          waits = ap is_second (w.phases r h.on) ∙ a.waits;
        });
      }

  pub kept_still : ((r : RollType) → r ≡ AlgorithmRoll → Growing side r life steps s (p r) → NoDs life steps → is_empty (ds t.left) ≡ true) → Kept side life steps s p → Kept side life (steps ++ t ∷ []) t.left q
  kept_still none (Rests h) = Rests (record { anchor = h.anchor; anchored = anchored_still h.anchor h.anchored; none_runs = λ r e. ap rests (w.phases r e) ∙ h.none_runs r e })
  kept_still none (Grows r h) = Grows r (growing_still r (λ e n. none r e h n) h)
  kept_still none (Switches r h) = Switches r (switched_still r h)
