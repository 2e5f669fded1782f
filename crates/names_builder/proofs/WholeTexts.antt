-- Names of whole texts, as a builder reads them.
use Rattle.std.proofs.Common.{map, subst, ◌≡◌, ◌≢◌, inl, inr, ℕ, Bool, true, false, cond, List, [], ◌∷◌, ◌++◌, length, refl, sym, ap, ◌∙◌, arith, nat_eq, Option, Some, None, IfSome}
use Rattle.std.specs.Option.{option_map, option_and_then}
use Rattle.std.specs.Iterator.{Yields, Drains}
use Rattle.std.proofs.lemmas.Bool.{eqb-true}
use Rattle.definitions.specs.Name.{Name, Label}
use Rattle.definitions.specs.Text.{Symbol, Plain, is_dot, is_lone_dot, symbols_of, pieces, onto_first, labels_of_pieces, without_last_dot, if_short, name_of_symbols, name_of_text, relative_of_text}
use Rattle.names_wire.specs.Spelled.{SpellsNothing, in_turn}
use Rattle.names_labels.specs.Open.{without_empty, if_open_short, read_behind}
use Rattle.names_labels.proofs.Taken.{if_closed}
use Rattle.names_labels.proofs.Wholes.{name_read, name_of_plain, relative_of_some, not_empty_read, closed_end, empty_end, some_behind, read_first}
use Rattle.names_builder.specs.Building.{Building, nothing, all_labels, octets_of_building}
use Rattle.names_wire.specs.Symbols.{symbol_of}
use Rattle.names_wire.specs.declared.symbol.Symbol.{Symbol as WireSymbol}
use Rattle.names_wire.proofs.Characters.{characters, no_octets}
use Rattle.names_wire.proofs.LabelFaults.{in_turn-yields}
use Rattle.names_wire.proofs.PartLabel.{same_option}
use Rattle.std.specs.Str.{chars, IsUtf8}
use Rattle.std.specs.Str.Iter.{chars_rest, chars_steps}
use Rattle.std.specs.declared.str.Chars.{Chars}
use Rattle.names_builder.specs.Fault.{FaultAt, CharFault, fault_of, relative_fault_of, named}
use Rattle.names_builder.specs.declared.text_error.RelativeFromStrError.{RelativeFromStrError}
use Rattle.names_builder.specs.declared.text_error.RelativeFromStrError.TheVariants.{FromStr, AbsoluteName}
use Rattle.names_builder.specs.declared.text_error.Fault.{Fault}
use Rattle.names_builder.specs.declared.text_error.Fault.TheVariants.{EmptyLabel}
use Rattle.names_builder.specs.declared.text_error.FromStrError.{FromStrError}
use Rattle.names_builder.specs.declared.text_error.FromStrError.TheVariants.{Presentation, ShortBuf}
use Rattle.names_builder.specs.FromText.{standing, continued, symbols_behind, text_behind, AddsChar, StopsInText, FirstFault, FaultBehind, NameFault, RelativeFault, StopsAtSymbol, FirstSymbolFault, SymbolsFault, IsAbsolute}
use Rattle.names_builder.proofs.FromTexts.{text_step, without_last}

pub all_standing : (b : Building) → without_empty (standing b) ≡ all_labels b
all_standing b = without_last b.done b.open_label

-- ---- items of an iterator

pub drains_first : {S X : Type 0} (steps : S → Option X → S → Type 0) (s t : S) (x : X) (xs : List X) → steps s (Some x) t → Drains steps t xs → Drains steps s (x ∷ xs)
drains_first {S} {X} steps s t x xs h d = (d.0, (d.1.0, (t, h, d.1.1), d.1.2))

-- ---- symbols

not_lone : (s : Symbol) (ss : List Symbol) → is_dot s ≡ false → is_lone_dot (s ∷ ss) ≡ false
not_lone s [] h = h
not_lone s (t ∷ ss) h = refl

pub of_symbols : (b now : Building) (s : Symbol) (ss : List Symbol) → is_dot s ≡ false → b ≡ nothing → ((us : List Symbol) → continued b (s ∷ us) ≡ continued now us) → name_of_symbols (s ∷ ss) ≡ option_map without_empty (symbols_behind now ss)
of_symbols b now s ss d e h =
    name_read (s ∷ ss) (omega arith) (not_lone s ss d)
    ∙ ap (option_map without_empty) (ap (λ x. symbols_behind x (s ∷ ss)) (sym e) ∙ ap if_open_short (h ss))

pub no_symbols : (b : Building) (s : Symbol) → is_dot s ≡ false → b ≡ nothing → ((us : List Symbol) → if_open_short (continued b (s ∷ us)) ≡ None) → (ss : List Symbol) → name_of_symbols (s ∷ ss) ≡ None
no_symbols b s d e h ss =
    name_read (s ∷ ss) (omega arith) (not_lone s ss d)
    ∙ ap (option_map without_empty) (ap (λ x. symbols_behind x (s ∷ ss)) (sym e) ∙ h ss)

pub lone : (s : Symbol) → is_dot s ≡ true → name_of_symbols (s ∷ []) ≡ Some []
lone s h = ap (λ d. cond d (Some []) (if_short (labels_of_pieces (pieces (without_last_dot (s ∷ [])))))) h

pub behind_dot : (s t : Symbol) (ss : List Symbol) → is_dot s ≡ true → name_of_symbols (s ∷ t ∷ ss) ≡ None
behind_dot s t ss h = ap (λ d. if_short (labels_of_pieces (cond d ([] ∷ pieces (without_last_dot (t ∷ ss))) (onto_first s (pieces (without_last_dot (t ∷ ss))))))) h

-- ---- text

pub no_dot : (c : ℕ) → c ≢ 46 → nat_eq c 46 ≡ false
no_dot c h = go (nat_eq c 46) refl
  where
    go : (b : Bool) → nat_eq c 46 ≡ b → nat_eq c 46 ≡ false
    go false e = e
    go true e = absurd (h (eqb-true c 46 e))

pub of_text : (b now : Building) (c : ℕ) (reader later text : List ℕ) → c ≢ 46 → b ≡ nothing → reader ≡ [] → ((rest : List ℕ) → text_behind b (reader ++ c ∷ rest) ≡ text_behind now (later ++ rest)) → name_of_text (c ∷ text) ≡ option_map without_empty (text_behind now (later ++ text))
of_text b now c reader later text n e r h =
    name_of_plain c text (no_dot c n)
    ∙ ap (option_map without_empty) ((λ i. text_behind (sym e i) (sym r i ++ c ∷ text)) ∙ h text)

pub no_text_first : (b : Building) (c : ℕ) (reader : List ℕ) → c ≢ 46 → b ≡ nothing → reader ≡ [] → ((rest : List ℕ) → text_behind b (reader ++ c ∷ rest) ≡ None) → (text : List ℕ) → name_of_text (c ∷ text) ≡ None
no_text_first b c reader n e r h text =
    name_of_plain c text (no_dot c n)
    ∙ ap (option_map without_empty) ((λ i. text_behind (sym e i) (sym r i ++ c ∷ text)) ∙ h text)

-- nothing is read behind a first character
pub nothing_more : {S : Type 0} (steps : S → Option ℕ → S → Type 0) (s t : S) (c : ℕ) (read : List ℕ → Option Name) → steps s (Some c) t → ((text : List ℕ) → name_of_text (c ∷ text) ≡ option_map without_empty (read text)) → SpellsNothing steps t read → SpellsNothing steps s name_of_text
nothing_more {S} steps s t c read h e (inl p) = inl (c ∷ p.0, p.1, (t, h, p.2), λ rest. e (p.0 ++ rest) ∙ ap (option_map without_empty) (p.3 rest))
nothing_more {S} steps s t c read h e (inr p) = inr (c ∷ p.0, drains_first steps s t c p.0 h p.1, e p.0 ∙ ap (option_map without_empty) p.2)

-- ---- relative names

ends_open : (b : Building) → (b.open_label ≡ [] → ⊥) → if_closed (standing b) ≡ Some (all_labels b)
ends_open b h = closed_end b.done b.open_label h ∙ ap Some (go b.open_label h ∙ all_standing b)
  where
    go : (l : Label) → (l ≡ [] → ⊥) → b.done ++ b.open_label ∷ [] ≡ without_empty (standing b)
    go l k = sym (all_standing b ∙ sym (labelled b.open_label h))
      where
        labelled : (m : Label) → (m ≡ [] → ⊥) → b.done ++ m ∷ [] ≡ all_labels (record { done = b.done; open_label = m })
        labelled [] j = absurd (j refl)
        labelled (o ∷ os) j = refl

pub relative_open : (b now : Building) (text : List ℕ) → b ≡ nothing → text_behind b text ≡ Some (standing now) → (now.open_label ≢ []) → relative_of_text text ≡ Some (all_labels now)
relative_open b now [] e h n = absurd (n (go now.open_label now.done (ap (λ x. text_behind x []) (sym e) ∙ h)))
  where
    go : (l : Label) (done : Name) → Some ([] ∷ []) ≡ Some (done ++ l ∷ []) → l ≡ []
    go l [] k = cc
    go l (m ∷ []) k = cc
    go l (m ∷ o ∷ done) k = cc
relative_open b now (c ∷ text) e h n =
    relative_of_some c text ∙ ap (option_and_then if_closed) (ap (λ x. text_behind x (c ∷ text)) (sym e) ∙ h) ∙ ends_open now n

-- what stands is empty where there are no octets
none_stands : (b : Building) → length (octets_of_building b) ≡ 0 → standing b ≡ [] ∷ []
none_stands b h = go b.done b.open_label h
  where
    go : (done : Name) (l : Label) → length (octets_of_building (record { done = done; open_label = l })) ≡ 0 → done ++ l ∷ [] ≡ [] ∷ []
    go [] [] k = refl
    go [] (o ∷ os) k = absurd (omega (arith, k))
    go (m ∷ done) l k = absurd (omega (arith, k))

abbrev read_first_of : Option (List Symbol) → Option Name
read_first_of o = elim o [ None ↦ None | Some ss ↦ read_behind [] [] ss ]

-- some characters leave more than nothing
not_nothing : (c : ℕ) (text : List ℕ) → text_behind nothing (c ∷ text) ≡ Some ([] ∷ []) → ⊥
not_nothing c text h = go (symbols_of (c ∷ text)) refl h
  where
    go : (o : Option (List Symbol)) → symbols_of (c ∷ text) ≡ o → read_first_of o ≡ Some ([] ∷ []) → ⊥
    go None e k = cc
    go (Some ss) e k = not_empty_read ss (some_behind c text ss e) k

pub relative_none : (b now : Building) (text : List ℕ) → b ≡ nothing → text_behind b text ≡ Some (standing now) → length (octets_of_building now) ≡ 0 → relative_of_text text ≡ Some (all_labels now)
relative_none b now [] e h n = ap Some (sym (sym (all_standing now) ∙ ap without_empty (none_stands now n)))
relative_none b now (c ∷ text) e h n = absurd (not_nothing c text (ap (λ x. text_behind x (c ∷ text)) (sym e) ∙ h ∙ ap Some (none_stands now n)))

-- what stands is not nothing where there are octets
some_stands : (now : Building) → (length (octets_of_building now) ≡ 0 → ⊥) → Some ([] ∷ []) ≡ Some (standing now) → ⊥
some_stands now n h = n (go now.done now.open_label h)
  where
    go : (done : Name) (l : Label) → Some ([] ∷ []) ≡ Some (done ++ l ∷ []) → length (octets_of_building (record { done = done; open_label = l })) ≡ 0
    go [] [] k = refl
    go [] (o ∷ os) k = cc
    go (m ∷ []) l k = cc
    go (m ∷ o ∷ done) l k = cc

pub no_relative : (b now : Building) (text : List ℕ) → b ≡ nothing → text_behind b text ≡ Some (standing now) → now.open_label ≡ [] → (length (octets_of_building now) ≡ 0 → ⊥) → relative_of_text text ≡ None
no_relative b now [] e h o n = absurd (some_stands now n (ap (λ x. text_behind x []) (sym e) ∙ h))
no_relative b now (c ∷ text) e h o n =
    relative_of_some c text ∙ ap (option_and_then if_closed) (ap (λ x. text_behind x (c ∷ text)) (sym e) ∙ h)
    ∙ ap (λ l. if_closed (now.done ++ l ∷ [])) o ∙ empty_end now.done

dot_reads_nothing : (text : List ℕ) → text_behind nothing (46 ∷ text) ≡ None
dot_reads_nothing text = go (symbols_of text)
  where
    go : (o : Option (List Symbol)) → read_first_of (option_map (λ us. Plain 46 ∷ us) o) ≡ None
    go None = refl
    go (Some us) = read_first (Plain 46 ∷ us)

pub absolute_text : (b now : Building) (text : List ℕ) → b ≡ nothing → text_behind b text ≡ Some (standing now) → (length (octets_of_building now) ≡ 0 → ⊥) → name_of_text text ≡ Some (all_labels now)
absolute_text b now [] e h n = absurd (some_stands now n (ap (λ x. text_behind x []) (sym e) ∙ h))
absolute_text b now (c ∷ text) e h n = go (nat_eq c 46) refl
  where
    go : (t : Bool) → nat_eq c 46 ≡ t → name_of_text (c ∷ text) ≡ Some (all_labels now)
    go false k =
        name_of_plain c text k ∙ ap (option_map without_empty) (ap (λ x. text_behind x (c ∷ text)) (sym e) ∙ h) ∙ ap Some (all_standing now)
    go true k =
        let d : None ≡ Some (standing now) = sym (dot_reads_nothing text) ∙ ap (λ x. text_behind nothing (x ∷ text)) (sym (eqb-true c 46 k)) ∙ ap (λ x. text_behind x (c ∷ text)) (sym e) ∙ h in
        cc

-- where labels are ended, one is the first
pub first_ended : (now : Building) → now.open_label ≡ [] → (length (octets_of_building now) ≡ 0 → ⊥) → (l : Label) × (n : Name) × (all_labels now ≡ l ∷ n)
first_ended now e n = go now.done now.open_label e n
  where
    go : (done : Name) (l : Label) → l ≡ [] → (length (octets_of_building (record { done = done; open_label = l })) ≡ 0 → ⊥) → (m : Label) × (rest : Name) × (all_labels (record { done = done; open_label = l }) ≡ m ∷ rest)
    go [] [] x k = absurd (k refl)
    go [] (o ∷ os) x k = cc
    go (m ∷ done) [] x k = (m, done, refl)
    go (m ∷ done) (o ∷ os) x k = cc

-- a text behind which nothing is read spells no absolute name but the root
pub not_absolute : (text : List ℕ) → text_behind nothing text ≡ None → IsAbsolute text → ⊥
not_absolute [] e a = cc
not_absolute (c ∷ text) e a = go (nat_eq c 46) refl
  where
    behind : (o : Option (List Symbol)) → elim (option_map (λ ss. Plain 46 ∷ ss) o) as (λ _. Option Name) [ None ↦ None | Some ss ↦ name_of_symbols ss ] ≡ Some (a.0 ∷ a.1) → ⊥
    behind None h = cc
    behind (Some []) h = cc
    behind (Some (s ∷ ss)) h = let x : None ≡ Some (a.0 ∷ a.1) = sym (behind_dot (Plain 46) s ss refl) ∙ h in cc

    go : (t : Bool) → nat_eq c 46 ≡ t → ⊥
    go false k =
        let x : None ≡ Some (a.0 ∷ a.1) = sym (name_of_plain c text k ∙ ap (option_map without_empty) e) ∙ a.2 in
        cc
    go true k = behind (symbols_of text) (ap (λ x. name_of_text (x ∷ text)) (sym (eqb-true c 46 k)) ∙ a.2)

-- a text that spells nothing behind nothing is no relative name
not_relative : (b : Building) (text : List ℕ) → b ≡ nothing → text_behind b text ≡ None → relative_of_text text ≡ None
not_relative b [] e h = let x : Some ([] ∷ []) ≡ None = ap (λ y. text_behind y []) (sym e) ∙ h in cc
not_relative b (c ∷ text) e h = relative_of_some c text ∙ ap (option_and_then if_closed) (ap (λ y. text_behind y (c ∷ text)) (sym e) ∙ h)

pub nothing_relative : {S : Type 0} (steps : S → Option ℕ → S → Type 0) (s : S) (b : Building) → b ≡ nothing → SpellsNothing steps s (text_behind b) → SpellsNothing steps s relative_of_text
nothing_relative {S} steps s b e (inl p) = inl (p.0, p.1, p.2, λ rest. not_relative b (p.0 ++ rest) e (p.3 rest))
nothing_relative {S} steps s b e (inr p) = inr (p.0, p.1, not_relative b p.0 e p.2)

pub same_end : (n : ℕ) (t : Bool) → t ≡ nat_eq n 0 → t ≡ false → n ≡ 0 → ⊥
same_end n t e f h = let x : true ≡ false = sym (e ∙ ap (λ m. nat_eq m 0) h) ∙ f in cc

-- ---- faults

-- nothing is read yet
abbrev at_start : {S : Type 0} (steps : S → Option ℕ → S → Type 0) (s : S) → StopsInText steps s [] nothing nothing
at_start steps s = record { text = []; whole = []; symbols = []; unfinished = []; after = s; yields = refl; divided = refl; reads = λ rest. sym (same_option (symbols_of rest)); begins = refl; stands = refl; onward = λ rest. refl }

-- a dot in front of all
pub dot_first : {S : Type 0} (steps : S → Option ℕ → S → Type 0) (s t : S) (c : ℕ) (f : Fault) → steps s (Some c) t → c ≡ 46 → f ≡ EmptyLabel → FirstFault steps s [] nothing nothing f
dot_first steps s t c f h e k = record {
  stop = at_start steps s;
  fault = inl (c, t, h, inr (Plain 46, λ rest. ap (λ x. symbols_of (x ∷ rest)) e, subst (FaultAt nothing (Plain 46)) (sym k) (refl, refl)));
}

-- a first character that is refused
pub char_first : {S : Type 0} (steps : S → Option ℕ → S → Type 0) (s t : S) (c : ℕ) (b : Building) (reader : List ℕ) (e : FromStrError) → steps s (Some c) t → b ≡ nothing → reader ≡ [] → IfSome (fault_of e) (CharFault b reader c) → IfSome (fault_of e) (NameFault steps s)
char_first steps s t c b reader ShortBuf h i r o = tt
char_first steps s t c b reader (Presentation p) h i r o = inr (
  nothing,
  record {
    stop = at_start steps s;
    fault = inl (c, t, h, subst (λ x. CharFault x [] c (named p)) i (subst (λ x. CharFault b x c (named p)) r o));
  },
)

then_more : (s : Symbol) (ss : List Symbol) (o : Option (List Symbol)) → option_map (λ us. s ∷ us) (option_map (λ us. ss ++ us) o) ≡ option_map (λ us. (s ∷ ss) ++ us) o
then_more s ss None = refl
then_more s ss (Some us) = refl

behind_first : {S : Type 0} (steps : S → Option ℕ → S → Type 0) (s t : S) (c : ℕ) (now new : Building) (later : List ℕ) (f : Fault) → steps s (Some c) t → AddsChar nothing [] c now later → FirstFault steps t later now new f → FirstFault steps s [] nothing new f
behind_first steps s t c now new later f h (inl a) o = record {
  stop = record {
    text = c ∷ o.stop.text;
    whole = o.stop.whole;
    symbols = o.stop.symbols;
    unfinished = o.stop.unfinished;
    after = o.stop.after;
    yields = (t, h, o.stop.yields);
    divided = ap (λ l. l ++ o.stop.text) (sym a.1) ∙ o.stop.divided;
    reads = o.stop.reads;
    begins = o.stop.begins;
    stands = ap (λ x. symbols_behind x o.stop.symbols) (sym a.0) ∙ o.stop.stands;
    onward = λ rest. (λ j. text_behind (sym a.0 j) (sym a.1 j ++ (o.stop.text ++ rest))) ∙ o.stop.onward rest;
  };
  fault = o.fault;
}
behind_first steps s t c now new later f h (inr a) o = record {
  stop = record {
    text = c ∷ o.stop.text;
    whole = c ∷ o.stop.whole;
    symbols = a.0 ∷ o.stop.symbols;
    unfinished = o.stop.unfinished;
    after = o.stop.after;
    yields = (t, h, o.stop.yields);
    divided = ap (λ l. c ∷ (l ++ o.stop.text)) (sym a.3) ∙ ap (λ l. c ∷ l) o.stop.divided;
    reads = λ rest. a.1 (o.stop.whole ++ rest) ∙ ap (option_map (λ ss. a.0 ∷ ss)) (o.stop.reads rest) ∙ then_more a.0 o.stop.symbols (symbols_of rest);
    begins = o.stop.begins;
    stands = ap if_open_short (a.2 o.stop.symbols) ∙ o.stop.stands;
    onward = λ rest.
        text_step nothing now (c ∷ (o.stop.text ++ rest)) (o.stop.text ++ rest) a.0 (a.1 (o.stop.text ++ rest)) a.2
        ∙ ap (λ l. text_behind now (l ++ (o.stop.text ++ rest))) (sym a.3) ∙ o.stop.onward rest;
  };
  fault = o.fault;
}

-- a fault behind the first character
pub fault_behind : {S : Type 0} (steps : S → Option ℕ → S → Type 0) (s t : S) (c : ℕ) (b now new : Building) (reader later : List ℕ) (e : FromStrError) → steps s (Some c) t → b ≡ nothing → reader ≡ [] → AddsChar b reader c now later → IfSome (fault_of e) (FirstFault steps t later now new) → IfSome (fault_of e) (NameFault steps s)
fault_behind steps s t c b now new reader later ShortBuf h i r a o = tt
fault_behind steps s t c b now new reader later (Presentation p) h i r a o =
    inr (new, behind_first steps s t c now new later (named p) h (subst (λ x. AddsChar x [] c now later) i (subst (λ x. AddsChar b x c now later) r a)) o)

pub relative_fault : {S : Type 0} (steps : S → Option ℕ → S → Type 0) (s : S) (b : Building) (e : FromStrError) → b ≡ nothing → IfSome (fault_of e) (FaultBehind steps s b) → IfSome (fault_of e) (RelativeFault steps s)
relative_fault steps s b ShortBuf i o = tt
relative_fault steps s b (Presentation p) i o = (o.0, subst (λ x. FirstFault steps s [] x o.0 (named p)) i o.1)

-- a dot in front of all symbols
pub dot_symbol : {S : Type 0} (steps : S → Option WireSymbol → S → Type 0) (s t : S) (c : WireSymbol) (f : Fault) → steps s (Some c) t → is_dot (symbol_of c) ≡ true → f ≡ EmptyLabel → FirstSymbolFault steps s nothing nothing f
dot_symbol steps s t c f h e k = record { read = []; refused = c; after = t; yields = (t, h, refl); stands = refl; fault = subst (FaultAt nothing (symbol_of c)) (sym k) (e, refl) }

pub symbol_first : {S : Type 0} (steps : S → Option WireSymbol → S → Type 0) (s t : S) (c : WireSymbol) (b : Building) (e : FromStrError) → steps s (Some c) t → b ≡ nothing → IfSome (fault_of e) (FaultAt b (symbol_of c)) → IfSome (fault_of e) (SymbolsFault steps s)
symbol_first steps s t c b ShortBuf h i o = tt
symbol_first steps s t c b (Presentation p) h i o =
    inr (nothing, record { read = []; refused = c; after = t; yields = (t, h, refl); stands = refl; fault = subst (λ x. FaultAt x (symbol_of c) (named p)) i o })

pub symbol_behind : {S : Type 0} (steps : S → Option WireSymbol → S → Type 0) (s t : S) (c : WireSymbol) (b now new : Building) (e : FromStrError) → steps s (Some c) t → b ≡ nothing → ((ss : List Symbol) → continued b (symbol_of c ∷ ss) ≡ continued now ss) → StopsAtSymbol steps t now new e → IfSome (fault_of e) (SymbolsFault steps s)
symbol_behind steps s t c b now new ShortBuf h i on o = tt
symbol_behind steps s t c b now new (Presentation p) h i on o = inr (
  new,
  record {
    read = c ∷ o.read;
    refused = o.refused;
    after = o.after;
    yields = (t, h, o.yields);
    stands = ap (λ x. symbols_behind x (map symbol_of (c ∷ o.read))) (sym i) ∙ ap if_open_short (on (map symbol_of o.read)) ∙ o.stands;
    fault = o.fault;
  },
)

-- ---- faults of a text

pub first_in_text : (s : Chars) (before : List ℕ) (old new : Building) (f : Fault) → IsUtf8 (chars_rest s) → FirstFault chars_steps s before old new f → FirstFault in_turn (chars (chars_rest s)) before old new f
first_in_text s before old new f u o =
    let after = o.stop.after in
    let read = characters s after o.stop.text u o.stop.yields in
    record {
      stop = record {
        text = o.stop.text;
        whole = o.stop.whole;
        symbols = o.stop.symbols;
        unfinished = o.stop.unfinished;
        after = chars (chars_rest after);
        yields = subst (λ x. Yields in_turn x o.stop.text (chars (chars_rest after))) (sym read.0) (in_turn-yields o.stop.text (chars (chars_rest after)));
        divided = o.stop.divided;
        reads = o.stop.reads;
        begins = o.stop.begins;
        stands = o.stop.stands;
        onward = o.stop.onward;
      };
      fault = elim o.fault [
        | inl p ↦ inl (p.0, chars (chars_rest p.1), (characters after p.1 (p.0 ∷ []) read.1 (p.1, p.2, refl)).0, p.3)
        | inr p ↦ inr ([], no_octets (chars_rest after) p.1.0.0, p.2, p.3)
      ];
    }

pub fault_in_text : (s : Chars) (bs : List ℕ) (e : FromStrError) → IsUtf8 bs → chars_rest s ≡ bs → IfSome (fault_of e) (NameFault chars_steps s) → IfSome (fault_of e) (NameFault in_turn (chars bs))
fault_in_text s bs ShortBuf u e o = tt
fault_in_text s bs (Presentation p) u e o = subst (λ x. NameFault in_turn (chars x) (named p)) e (go o)
  where
    go : NameFault chars_steps s (named p) → NameFault in_turn (chars (chars_rest s)) (named p)
    go (inl q) = inl ([], no_octets (chars_rest s) q.1.0.0, q.2)
    go (inr q) = inr (q.0, first_in_text s [] nothing q.0 (named p) (subst IsUtf8 (sym e) u) q.1)

pub relative_fault_in_text : (s : Chars) (bs : List ℕ) (e : RelativeFromStrError) → IsUtf8 bs → chars_rest s ≡ bs → IfSome (relative_fault_of e) (RelativeFault chars_steps s) → IfSome (relative_fault_of e) (RelativeFault in_turn (chars bs))
relative_fault_in_text s bs AbsoluteName u e o = tt
relative_fault_in_text s bs (FromStr ShortBuf) u e o = tt
relative_fault_in_text s bs (FromStr (Presentation p)) u e o =
    subst (λ x. RelativeFault in_turn (chars x) (named p)) e (o.0, first_in_text s [] nothing o.0 (named p) (subst IsUtf8 (sym e) u) o.1)
