-- A text is refused as a name for one reason.
use Rattle.std.proofs.Common.{◌≡◌, ◌⊎◌, inl, inr, ℕ, ◌+◌, ◌≤◌, Bool, true, false, cond, List, [], ◌∷◌, ◌++◌, length, refl, sym, ap, ◌∙◌, arith, nat_le, length-append, subst, Option, Some, None}
use Rattle.std.specs.Option.{option_map}
use Rattle.std.proofs.lemmas.Bool.{eqb-true}
use Rattle.std.proofs.lemmas.List.{same_from_push, nil_from_length, append-nil}
use Rattle.definitions.specs.Name.{Name, Label, wire_len}
use Rattle.definitions.specs.Text.{Symbol, Plain, Quoted, Decimal, is_symbol, is_dot, is_bracket, octet, symbols_of}
use Rattle.names_wire.specs.Spelled.{in_turn}
use Rattle.names_wire.specs.declared.symbol.SymbolCharsError.{SymbolCharsError}
use Rattle.names_wire.specs.declared.symbol.SymbolCharsError.TheVariants.{ShortInput}
use Rattle.names_wire.proofs.PartLabel.{not_both}
use Rattle.names_wire.proofs.OneFault.{given, Refused, Stop, Bars, same_stop, some_none, next_or_end}
use Rattle.names_labels.specs.Open.{some_before, without_empty, if_open_short}
use Rattle.names_labels.proofs.Taken.{taken, fits, fitting, taken_pieces}
use Rattle.names_labels.proofs.Wholes.{some_taken, read_first}
use Rattle.names_builder.specs.Building.{Building, nothing}
use Rattle.names_builder.specs.Fault.{AddsOctet, FaultAt, CharFault}
use Rattle.names_builder.specs.FromText.{GoesOn, standing, continued, symbols_behind, text_behind, FirstFault, NameFault, RelativeFault, IsAbsolute}
use Rattle.names_builder.specs.declared.text_error.Fault.{Fault}
use Rattle.names_builder.specs.declared.text_error.Fault.TheVariants.{Symbol as BadText, BinaryLabel, LongLabel, EmptyLabel, LongName}
use Rattle.names_builder.proofs.FromTexts.{at_octet, cannot, full_label, too_long, no_dot_first, no_bracket_dot, text_stops}
use Rattle.names_builder.proofs.WholeTexts.{not_absolute}

-- ---- symbols behind those that were read

-- What some symbols leave, finished labels and an open one, goes on as they do.
record Leaves (open_label : Label) (ss : List Symbol) (done : Name) (l : Label) : Type 0 where
  short : length l ≤ 63
  onward : (more : List Symbol) → taken open_label (ss ++ more) ≡ option_map (λ ls. done ++ ls) (taken l more)

none_done : (o : Option Name) → o ≡ option_map (λ ls. [] ++ ls) o
none_done None = refl
none_done (Some ls) = refl

more_done : (m : Label) (done : Name) (o : Option Name) → option_map (λ ls. m ∷ ls) (option_map (λ ls. done ++ ls) o) ≡ option_map (λ ls. (m ∷ done) ++ ls) o
more_done m done None = refl
more_done m done (Some ls) = refl

-- a dot ends the open label
leaves_at_dot : (open_label : Label) (ss : List Symbol) (done : Name) (l : Label) (r : Option Name) → ((others : Name) → taken [] ss ≡ Some (others ++ l ∷ []) → Leaves [] ss others l) → taken [] ss ≡ r → some_before open_label r ≡ Some (done ++ l ∷ []) → (length l ≤ 63) × ((more : List Symbol) → some_before open_label (taken [] (ss ++ more)) ≡ option_map (λ ls. done ++ ls) (taken l more))
leaves_at_dot [] ss done l r begin e k = cc
leaves_at_dot (o ∷ os) ss done l None begin e k = cc
leaves_at_dot (o ∷ os) ss [] l (Some ms) begin e k =
    let f : (o ∷ os) ∷ ms ≡ l ∷ [] = cc in
    absurd (omega (arith, some_taken [] ss ms e, ap length f))
leaves_at_dot (o ∷ os) ss (m ∷ done) l (Some ms) begin e k =
    let f : o ∷ os ≡ m = cc in
    let g : ms ≡ done ++ l ∷ [] = cc in
    let b = begin done (e ∙ ap Some g) in
    (b.short, λ more. ap (option_map (λ ls. (o ∷ os) ∷ ls)) (b.onward more) ∙ more_done (o ∷ os) done (taken l more) ∙ ap (λ x. option_map (λ ls. (x ∷ done) ++ ls) (taken l more)) f)

leaves : (open_label : Label) (ss : List Symbol) (done : Name) (l : Label) → length open_label ≤ 63 → taken open_label ss ≡ Some (done ++ l ∷ []) → Leaves open_label ss done l
leaves open_label [] [] l h e =
    let k : open_label ≡ l = cc in
    record { short = subst (λ x. length x ≤ 63) k h; onward = λ more. none_done (taken open_label more) ∙ ap (λ x. option_map (λ ls. [] ++ ls) (taken x more)) k }
leaves open_label [] (m ∷ done) l h e =
    let k : open_label ∷ [] ≡ m ∷ (done ++ l ∷ []) = cc in
    absurd (omega (arith, ap length k, length-append done (l ∷ [])))
leaves open_label (s ∷ ss) done l h e = go (λ others. leaves [] ss others l (omega arith)) (leaves (open_label ++ octet s ∷ []) ss done l) (is_dot s) (fits open_label s) refl refl e
  where
    go : ((others : Name) → taken [] ss ≡ Some (others ++ l ∷ []) → Leaves [] ss others l) → (length (open_label ++ octet s ∷ []) ≤ 63 → taken (open_label ++ octet s ∷ []) ss ≡ Some (done ++ l ∷ []) → Leaves (open_label ++ octet s ∷ []) ss done l) → (d t : Bool) → is_dot s ≡ d → fits open_label s ≡ t → cond d (some_before open_label (taken [] ss)) (cond t (taken (open_label ++ octet s ∷ []) ss) None) ≡ Some (done ++ l ∷ []) → Leaves open_label (s ∷ ss) done l
    go begin again true t d f k =
        let b = leaves_at_dot open_label ss done l (taken [] ss) begin refl k in
        record { short = b.0; onward = λ more. ap (λ x. cond x (some_before open_label (taken [] (ss ++ more))) (cond (fits open_label s) (taken (open_label ++ octet s ∷ []) (ss ++ more)) None)) d ∙ b.1 more }
    go begin again false true d f k =
        let b = again (omega (arith, (fitting open_label s f).0, length-append open_label (octet s ∷ []))) k in
        record { short = b.short; onward = λ more. (λ i. cond (d i) (some_before open_label (taken [] (ss ++ more))) (cond (f i) (taken (open_label ++ octet s ∷ []) (ss ++ more)) None)) ∙ b.onward more }
    go begin again false false d f k = cc

unshortened : (r : Option Name) (ls : Name) → if_open_short r ≡ Some ls → r ≡ Some ls
unshortened None ls h = h
unshortened (Some ms) ls h = go (nat_le (wire_len (without_empty ms)) 255) h
  where
    go : (b : Bool) → cond b (Some ms) None ≡ Some ls → Some ms ≡ Some ls
    go true k = k
    go false k = cc

-- what is read behind symbols that a builder has read
read_behind_symbols : (b : Building) (ss : List Symbol) → symbols_behind nothing ss ≡ Some (standing b) → (length b.open_label ≤ 63) × ((more : List Symbol) → symbols_behind nothing (ss ++ more) ≡ if_open_short (continued b more))
read_behind_symbols b ss h =
    let s = leaves [] ss b.done b.open_label (omega arith) (unshortened (taken [] ss) (standing b) (sym (read_first ss) ∙ h)) in
    (s.short, λ more. read_first (ss ++ more) ∙ ap if_open_short (s.onward more ∙ ap (option_map (λ ls. b.done ++ ls)) (taken_pieces b.open_label more s.short)))

-- ---- a symbol that is refused

abbrev is_open : Label → Bool
is_open [] = false
is_open (o ∷ os) = true

not_open : (l : Label) → is_open l ≡ false → l ≡ []
not_open [] h = refl
not_open (o ∷ os) h = cc

goes_on : (b : Building) (s : Symbol) → AddsOctet b s → GoesOn s (is_open b.open_label) (octet s)
goes_on b s a = record { plain = a.plain; valid = a.valid; begins = λ e. a.begins (not_open b.open_label e); value = refl }

-- nothing is read that goes on with it
refused_there : (b : Building) (s : Symbol) (f : Fault) → length b.open_label ≤ 63 → FaultAt b s f → (ss : List Symbol) → if_open_short (continued b (s ∷ ss)) ≡ None
refused_there b s (BadText e) h p ss = ap if_open_short (cannot b s true h (inr (inr p.0)) (λ k. cc) ss)
refused_there b s EmptyLabel h p ss = ap if_open_short (cannot b s false h (inl (p.0, refl)) (λ k. p.1) ss)
refused_there b s BinaryLabel h p ss = ap if_open_short (cannot b s false h (inr (inl (p.0, refl))) (λ k. p.1) ss)
refused_there b s LongLabel h p ss = ap if_open_short (full_label b s (is_open b.open_label) (octet s) (goes_on b s p.0) h p.1 ss)
refused_there b s LongName h p ss =
    ap if_open_short (at_octet b s (is_open b.open_label) (octet s) (goes_on b s p.0) (ap is_open) p.1 ss) ∙ too_long b (octet s) p.1 p.2 ss

-- so what was read further on has it not there
name_bars : (a b : Building) (ss all : List Symbol) (f : Fault) → symbols_behind nothing ss ≡ Some (standing a) → symbols_behind nothing all ≡ Some (standing b) → Bars (λ s. FaultAt a s f) ss all
name_bars a b ss all f h k s us p e =
    let r = read_behind_symbols a ss h in
    some_none (symbols_behind nothing all) (standing b) (ap (symbols_behind nothing) e ∙ r.1 (s ∷ us) ∙ refused_there a s f r.0 p us) k

-- ---- one symbol has one fault

bracket_is_symbol : (s : Symbol) → is_bracket s ≡ true → is_symbol s ≡ false → ⊥
bracket_is_symbol (Plain c) b h = absurd (cc)
bracket_is_symbol (Quoted c) b h = let e : true ≡ false = ap (λ x. is_symbol (Quoted x)) (sym (eqb-true c 91 b)) ∙ h in absurd (cc)
bracket_is_symbol (Decimal c) b h = absurd (cc)

bad_or_dot : (b : Building) (s : Symbol) (e : SymbolCharsError) → FaultAt b s (BadText e) → FaultAt b s EmptyLabel → ⊥
bad_or_dot b s e p q = not_both (is_dot s) q.0 (no_dot_first s p.0)

bad_or_bracket : (b : Building) (s : Symbol) (e : SymbolCharsError) → FaultAt b s (BadText e) → FaultAt b s BinaryLabel → ⊥
bad_or_bracket b s e p q = bracket_is_symbol s q.0 p.0

bad_or_octet : (b : Building) (s : Symbol) (e : SymbolCharsError) → FaultAt b s (BadText e) → AddsOctet b s → ⊥
bad_or_octet b s e p a = not_both (is_symbol s) a.valid p.0

dot_or_bracket : (b : Building) (s : Symbol) → FaultAt b s EmptyLabel → FaultAt b s BinaryLabel → ⊥
dot_or_bracket b s p q = not_both (is_dot s) p.0 (no_bracket_dot s q.0)

dot_or_octet : (b : Building) (s : Symbol) → FaultAt b s EmptyLabel → AddsOctet b s → ⊥
dot_or_octet b s p a = not_both (is_dot s) p.0 a.plain

bracket_or_octet : (b : Building) (s : Symbol) → FaultAt b s BinaryLabel → AddsOctet b s → ⊥
bracket_or_octet b s p a = not_both (is_bracket s) p.0 (a.begins p.1)

one_at : (b : Building) (s : Symbol) (f g : Fault) → FaultAt b s f → FaultAt b s g → f ≡ g
one_at b s (BadText e) (BadText d) p q = ap BadText (p.1 ∙ sym q.1)
one_at b s (BadText e) EmptyLabel p q = absurd (bad_or_dot b s e p q)
one_at b s (BadText e) BinaryLabel p q = absurd (bad_or_bracket b s e p q)
one_at b s (BadText e) LongLabel p q = absurd (bad_or_octet b s e p q.0)
one_at b s (BadText e) LongName p q = absurd (bad_or_octet b s e p q.0)
one_at b s EmptyLabel (BadText e) p q = absurd (bad_or_dot b s e q p)
one_at b s EmptyLabel EmptyLabel p q = refl
one_at b s EmptyLabel BinaryLabel p q = absurd (dot_or_bracket b s p q)
one_at b s EmptyLabel LongLabel p q = absurd (dot_or_octet b s p q.0)
one_at b s EmptyLabel LongName p q = absurd (dot_or_octet b s p q.0)
one_at b s BinaryLabel (BadText e) p q = absurd (bad_or_bracket b s e q p)
one_at b s BinaryLabel EmptyLabel p q = absurd (dot_or_bracket b s q p)
one_at b s BinaryLabel BinaryLabel p q = refl
one_at b s BinaryLabel LongLabel p q = absurd (bracket_or_octet b s p q.0)
one_at b s BinaryLabel LongName p q = absurd (bracket_or_octet b s p q.0)
one_at b s LongLabel (BadText e) p q = absurd (bad_or_octet b s e q p.0)
one_at b s LongLabel EmptyLabel p q = absurd (dot_or_octet b s q p.0)
one_at b s LongLabel BinaryLabel p q = absurd (bracket_or_octet b s q p.0)
one_at b s LongLabel LongLabel p q = refl
one_at b s LongLabel LongName p q = absurd (omega (arith, p.1, q.1))
one_at b s LongName (BadText e) p q = absurd (bad_or_octet b s e q p.0)
one_at b s LongName EmptyLabel p q = absurd (dot_or_octet b s q p.0)
one_at b s LongName BinaryLabel p q = absurd (bracket_or_octet b s q p.0)
one_at b s LongName LongLabel p q = absurd (omega (arith, p.1, q.1))
one_at b s LongName LongName p q = refl

-- ---- the fault at a place of the text

abbrev FaultThere : Fault → Building → List ℕ → List ℕ → Type 0
FaultThere f b unfinished after =
    ((ch : ℕ) × (t : List ℕ) × (after ≡ ch ∷ t) × CharFault b unfinished ch f)
    ⊎ ((t : List ℕ) × (after ≡ []) × (symbols_of unfinished ≡ None) × (f ≡ BadText ShortInput))

one_char : (b : Building) (unfinished : List ℕ) (ch : ℕ) (f g : Fault) → CharFault b unfinished ch f → CharFault b unfinished ch g → f ≡ g
one_char b unfinished ch f g (inl p) (inl q) = p.2 ∙ sym q.2
one_char b unfinished ch f g (inl p) (inr q) = absurd (some_none (symbols_of (unfinished ++ ch ∷ [])) (q.0 ∷ []) (p.1 []) (q.1 []))
one_char b unfinished ch f g (inr p) (inl q) = absurd (some_none (symbols_of (unfinished ++ ch ∷ [])) (p.0 ∷ []) (q.1 []) (p.1 []))
one_char b unfinished ch f g (inr p) (inr q) =
    let k : Some (q.0 ∷ []) ≡ Some (p.0 ∷ []) = sym (q.1 []) ∙ p.1 [] in
    let e : q.0 ≡ p.0 = cc in
    one_at b p.0 f g p.2 (subst (λ s. FaultAt b s g) e q.2)

one_there : (f g : Fault) (b : Building) (unfinished after : List ℕ) → FaultThere f b unfinished after → FaultThere g b unfinished after → f ≡ g
one_there f g b unfinished after (inl p) (inl q) =
    let k : q.0 ∷ q.1 ≡ p.0 ∷ p.1 = sym q.2 ∙ p.2 in
    let e : q.0 ≡ p.0 = cc in
    one_char b unfinished p.0 f g p.3 (subst (λ ch. CharFault b unfinished ch g) e q.3)
one_there f g b unfinished after (inl p) (inr q) = absurd (next_or_end after p.1 p.0 p.2 q.1)
one_there f g b unfinished after (inr p) (inl q) = absurd (next_or_end after q.1 q.0 q.2 p.1)
one_there f g b unfinished after (inr p) (inr q) = p.3 ∙ sym q.3

name_refuses : (f : Fault) (b : Building) (unfinished after : List ℕ) → FaultThere f b unfinished after → (ch : ℕ) (t : List ℕ) → after ≡ ch ∷ t → Refused (λ s. FaultAt b s f) unfinished ch
name_refuses f b unfinished after (inl p) ch t e =
    let k : p.0 ∷ p.1 ≡ ch ∷ t = sym p.2 ∙ e in
    let c : p.0 ≡ ch = cc in
    subst (Refused (λ s. FaultAt b s f) unfinished) c (elim p.3 [ inl q ↦ inl (q.0, q.1) | inr q ↦ inr q ])
name_refuses f b unfinished after (inr p) ch t e = absurd (next_or_end after t ch e p.1)

-- ---- the fault of a text

name_stop : (text : List ℕ) (f : Fault) (b : Building) → FirstFault in_turn text [] nothing b f → Stop text (λ s. FaultAt b s f)
name_stop text f b o = record {
  whole = o.stop.whole;
  symbols = o.stop.symbols;
  unfinished = o.stop.unfinished;
  after = o.stop.after;
  divided = given o.stop.text text o.stop.after o.stop.yields ∙ ap (λ x. x ++ o.stop.after) o.stop.divided;
  reads = o.stop.reads;
  begins = o.stop.begins;
  next = name_refuses f b o.stop.unfinished o.stop.after o.fault;
}

same_building : (a b : Building) → Some (standing a) ≡ Some (standing b) → b ≡ a
same_building a b h =
    let e : standing b ≡ standing a = cc in
    let p = same_from_push b.done a.done b.open_label a.open_label e in
    λ i. record { done = p.0 i; open_label = p.1 i }

one_first : (text : List ℕ) (f g : Fault) (a b : Building) → FirstFault in_turn text [] nothing a f → FirstFault in_turn text [] nothing b g → f ≡ g
unfolding name_stop
one_first text f g a b o p =
    let s = same_stop text (λ s. FaultAt a s f) (λ s. FaultAt b s g) (name_stop text f a o) (name_stop text g b p) (name_bars a b o.stop.symbols p.stop.symbols f o.stop.stands p.stop.stands) (name_bars b a p.stop.symbols o.stop.symbols g p.stop.stands o.stop.stands) in
    let e : b ≡ a = same_building a b (sym o.stop.stands ∙ ap (symbols_behind nothing) (sym s.0) ∙ p.stop.stands) in
    let here : FaultThere g a p.stop.unfinished p.stop.after = subst (λ x. FaultThere g x p.stop.unfinished p.stop.after) e p.fault in
    let there : FaultThere g a o.stop.unfinished p.stop.after = subst (λ x. FaultThere g a x p.stop.after) s.1 here in
    one_there f g a o.stop.unfinished o.stop.after o.fault (subst (FaultThere g a o.stop.unfinished) s.2 there)

-- where there are no characters, none is refused
none_refused : (text : List ℕ) (f : Fault) (b : Building) → text ≡ [] → FirstFault in_turn text [] nothing b f → ⊥
none_refused text f b n o = go o.fault
  where
    count : length o.stop.text + length o.stop.after ≡ 0
    count = omega (arith, ap length n, ap length (given o.stop.text text o.stop.after o.stop.yields), length-append o.stop.text o.stop.after)

    left : o.stop.unfinished ≡ []
    left = nil_from_length o.stop.unfinished (omega (arith, count, ap length o.stop.divided, length-append o.stop.whole o.stop.unfinished))

    go : FaultThere f b o.stop.unfinished o.stop.after → ⊥
    go (inl p) = omega (arith, count, ap length p.2)
    go (inr p) = some_none (symbols_of o.stop.unfinished) [] p.2 (ap symbols_of left)

pub one_fault : (text : List ℕ) (f g : Fault) → NameFault in_turn text f → NameFault in_turn text g → f ≡ g
one_fault text f g (inl p) (inl q) = p.2 ∙ sym q.2
one_fault text f g (inl p) (inr q) = absurd (none_refused text g q.0 p.1 q.1)
one_fault text f g (inr p) (inl q) = absurd (none_refused text f p.0 q.1 p.1)
one_fault text f g (inr p) (inr q) = one_first text f g p.0 q.0 p.1 q.1

pub one_relative_fault : (text : List ℕ) (f g : Fault) → RelativeFault in_turn text f → RelativeFault in_turn text g → f ≡ g
one_relative_fault text f g p q = one_first text f g p.0 q.0 p.1 q.1

-- ---- a fault, or an absolute name

-- nothing is read of a text that has a fault
nothing_read : (text : List ℕ) (f : Fault) (b : Building) → FirstFault in_turn text [] nothing b f → text_behind nothing text ≡ None
nothing_read text f b o =
    ap (text_behind nothing) (given o.stop.text text o.stop.after o.stop.yields) ∙ o.stop.onward o.stop.after ∙ go o.fault
  where
    short : length b.open_label ≤ 63
    short = (read_behind_symbols b o.stop.symbols o.stop.stands).0

    at_char : (ch : ℕ) (t : List ℕ) → CharFault b o.stop.unfinished ch f → text_behind b (o.stop.unfinished ++ ch ∷ t) ≡ None
    at_char ch t (inl p) = ap (λ r. elim r as (λ _. Option Name) [ None ↦ None | Some ss ↦ symbols_behind b ss ]) (p.1 t)
    at_char ch t (inr p) = text_stops b (o.stop.unfinished ++ ch ∷ t) t p.0 (p.1 t) (refused_there b p.0 f short p.2)

    go : FaultThere f b o.stop.unfinished o.stop.after → text_behind b (o.stop.unfinished ++ o.stop.after) ≡ None
    go (inl p) = ap (λ x. text_behind b (o.stop.unfinished ++ x)) p.2 ∙ at_char p.0 p.1 p.3
    go (inr p) =
        ap (λ x. text_behind b (o.stop.unfinished ++ x)) p.1 ∙ ap (text_behind b) (append-nil o.stop.unfinished)
        ∙ ap (λ r. elim r as (λ _. Option Name) [ None ↦ None | Some ss ↦ symbols_behind b ss ]) p.2

pub not_both_refused : (text : List ℕ) (f : Fault) → RelativeFault in_turn text f → IsAbsolute text → ⊥
not_both_refused text f p = not_absolute text (nothing_read text f p.0 p.1)
