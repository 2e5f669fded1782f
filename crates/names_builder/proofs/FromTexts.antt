-- A builder that reads symbols.
use Rattle.std.proofs.Common.{◌≡◌, inl, inr, ℕ, suc, ◌+◌, ◌<◌, ◌≤◌, Bool, true, false, cond, not, ◌&&◌, List, [], ◌∷◌, ◌++◌, map, length, refl, sym, ap, ◌∙◌, append_assoc, arith, nat_lt, nat_le, length-append, subst, Option, Some, None}
use Rattle.std.specs.Option.{option_map}
use Rattle.std.specs.Prelude.{◌↔◌, ◌≢◌, IsTrue, IfErr, Result, Ok, Err, IfSome}
use Rattle.std.specs.Iterator.{Yields}
use Rattle.std.proofs.lemmas.List.{append-nil}
use Rattle.std.proofs.lemmas.Bool.{lt-leb, le-leb, lt-ltb, eqb-true}
use Rattle.definitions.specs.Name.{Name, Label, wire_len}
use Rattle.definitions.specs.Text.{Symbol, Plain, Quoted, Decimal, is_dot, is_bracket, is_symbol, octet, symbols_of}
use Rattle.names_labels.specs.Flat.{spelled}
use Rattle.names_labels.specs.Open.{binary_behind, some_before, without_empty, if_open_short, read_behind}
use Rattle.names_labels.proofs.Checks.{length-spelled_sum}
use Rattle.names_labels.proofs.Taken.{taken, fits, taken_pieces}
use Rattle.names_labels.proofs.Wholes.{some_taken, open_within, without_empty-append, wire_len-append}
use Rattle.names_builder.specs.Building.{Building, IsShort, with_octets, ended, all_labels, labels_with, octets_of_building, open_octets}
use Rattle.names_builder.specs.FromText.{GoesOn, CannotGoOn, standing, continued, symbols_behind, text_behind}
use Rattle.names_builder.specs.FromText.{is_text, is_pushed_text}
use Rattle.names_builder.specs.declared.push_error.PushError.{PushError}
use Rattle.names_builder.specs.declared.push_error.PushError.TheVariants.{LongLabel, LongName, ShortBuf as Full}
use Rattle.names_builder.specs.Fault.{OctetFault, FaultAt, CharFault, fault_of, named, pushed_fault}
use Rattle.names_builder.specs.declared.text_error.Fault.{Fault}
use Rattle.names_builder.specs.declared.text_error.Fault.TheVariants.{Symbol as BadText, BinaryLabel, EmptyLabel, LongLabel as TextLabel, LongName as TextName}
use Rattle.names_builder.specs.declared.text_error.FromStrError.{FromStrError}
use Rattle.names_builder.specs.declared.text_error.FromStrError.TheVariants.{Presentation, ShortBuf}
use Rattle.names_builder.proofs.Builds.{open_length}

-- the labels symbol by symbol
abbrev went_on : Building → List Symbol → Option Name
went_on b ss = option_map (λ ls. b.done ++ ls) (taken b.open_label ss)

went : (b : Building) (ss : List Symbol) → length b.open_label ≤ 63 → continued b ss ≡ went_on b ss
went b ss h = ap (option_map (λ ls. b.done ++ ls)) (sym (taken_pieces b.open_label ss h))

abbrev cases : Building → Symbol → List Symbol → Bool → Bool → Option Name
cases b s ss d t = option_map (λ ls. b.done ++ ls) (cond d (some_before b.open_label (taken [] ss)) (cond t (taken (b.open_label ++ octet s ∷ []) ss) None))

went_by : (b : Building) (s : Symbol) (ss : List Symbol) (d t : Bool) → is_dot s ≡ d → fits b.open_label s ≡ t → went_on b (s ∷ ss) ≡ cases b s ss d t
went_by b s ss d t e k = λ i. cases b s ss (e i) (k i)

joined : (done : Name) (l : Label) (r : Option Name) → option_map (λ ls. done ++ ls) (option_map (λ ls. l ∷ ls) r) ≡ option_map (λ ls. (done ++ l ∷ []) ++ ls) r
joined done l None = refl
joined done l (Some ls) = ap Some (sym (append_assoc done (l ∷ []) ls))

-- a dot behind an open label
pub at_dot : (b : Building) (s : Symbol) → length b.open_label ≤ 63 → is_dot s ≡ true → (b.open_label ≡ [] → ⊥) → (ss : List Symbol) → continued b (s ∷ ss) ≡ continued (ended b) ss
at_dot b s h d n ss = went b (s ∷ ss) h ∙ went_by b s ss true (fits b.open_label s) d refl ∙ go b.open_label refl ∙ sym (went (ended b) ss (omega arith))
  where
    go : (l : Label) → b.open_label ≡ l → option_map (λ ls. b.done ++ ls) (some_before b.open_label (taken [] ss)) ≡ option_map (λ ls. all_labels b ++ ls) (taken [] ss)
    go [] e = absurd (n e)
    go (o ∷ os) e =
        ap (λ l. option_map (λ ls. b.done ++ ls) (some_before l (taken [] ss))) e
        ∙ joined b.done (o ∷ os) (taken [] ss)
        ∙ sym (ap (λ l. option_map (λ ls. labels_with b.done l ++ ls) (taken [] ss)) e)

bracket : (l : Label) (s : Symbol) → ((l ≡ []) → is_bracket s ≡ false) → binary_behind l (s ∷ []) ≡ false
bracket [] s h = h refl
bracket (o ∷ os) s h = refl

-- an octet behind an open label, or of a new one
pub at_octet : (b : Building) (s : Symbol) (open_label : Bool) (v : ℕ) → GoesOn s open_label v → (b.open_label ≡ [] → open_label ≡ false) → length b.open_label < 63 → (ss : List Symbol) → continued b (s ∷ ss) ≡ continued (with_octets b (v ∷ [])) ss
at_octet b s open_label v g n h ss =
    let a : nat_lt (length b.open_label) 63 ≡ true = lt-ltb (length b.open_label) 63 h in
    let c = bracket b.open_label s (λ e. g.begins (n e)) in
    let f : fits b.open_label s ≡ true = (λ i. (a i && g.valid i) && not (c i)) in
    went b (s ∷ ss) (omega arith) ∙ went_by b s ss false true g.plain f
    ∙ ap (λ x. option_map (λ ls. b.done ++ ls) (taken (b.open_label ++ x ∷ []) ss)) (sym g.value)
    ∙ sym (went (with_octets b (v ∷ [])) ss (omega (arith, h, length-append b.open_label (v ∷ []))))

and_false : (a : Bool) → (a && false) ≡ false
and_false true = refl
and_false false = refl

pub no_dot_first : (s : Symbol) → is_symbol s ≡ false → is_dot s ≡ false
no_dot_first (Quoted c) h = refl
no_dot_first (Decimal c) h = refl
no_dot_first (Plain c) h = go (is_dot (Plain c)) refl
  where
    dot : c ≡ 46 → false ≡ true
    dot e = sym h ∙ ap (λ x. is_symbol (Plain x)) e

    go : (d : Bool) → is_dot (Plain c) ≡ d → is_dot (Plain c) ≡ false
    go false e = e
    go true e = let f = dot (eqb-true c 46 e) in absurd (cc)

pub no_bracket_dot : (s : Symbol) → is_bracket s ≡ true → is_dot s ≡ false
no_bracket_dot (Plain c) h = cc
no_bracket_dot (Quoted c) h = refl
no_bracket_dot (Decimal c) h = cc

-- a symbol that can't go on
pub cannot : (b : Building) (s : Symbol) (open_label : Bool) → length b.open_label ≤ 63 → CannotGoOn s open_label → (open_label ≡ false → b.open_label ≡ []) → (ss : List Symbol) → continued b (s ∷ ss) ≡ None
cannot b s open_label h (inl d) n ss =
    went b (s ∷ ss) h ∙ went_by b s ss true (fits b.open_label s) d.0 refl ∙ ap (λ l. option_map (λ ls. b.done ++ ls) (some_before l (taken [] ss))) (n d.1)
cannot b s open_label h (inr (inl d)) n ss =
    let f : fits b.open_label s ≡ false =
    ap (λ l. (nat_lt (length l) 63 && is_symbol s) && not (binary_behind l (s ∷ []))) (n d.1)
    ∙ ap (λ x. (nat_lt 0 63 && is_symbol s) && not x) d.0
    ∙ and_false (nat_lt 0 63 && is_symbol s) in
    went b (s ∷ ss) h ∙ went_by b s ss false false (no_bracket_dot s d.0) f
cannot b s open_label h (inr (inr d)) n ss =
    let f : fits b.open_label s ≡ false =
    ap (λ x. (nat_lt (length b.open_label) 63 && x) && not (binary_behind b.open_label (s ∷ []))) d
    ∙ ap (λ x. x && not (binary_behind b.open_label (s ∷ []))) (and_false (nat_lt (length b.open_label) 63)) in
    went b (s ∷ ss) h ∙ went_by b s ss false false (no_dot_first s d) f

-- a label of 63 octets
pub full_label : (b : Building) (s : Symbol) (open_label : Bool) (v : ℕ) → GoesOn s open_label v → length b.open_label ≤ 63 → 63 ≤ length b.open_label → (ss : List Symbol) → continued b (s ∷ ss) ≡ None
full_label b s open_label v g h k ss =
    let a : nat_lt (length b.open_label) 63 ≡ false = lt-leb (suc (length b.open_label)) 63 (omega (arith, k)) in
    let f : fits b.open_label s ≡ false = ap (λ x. (x && is_symbol s) && not (binary_behind b.open_label (s ∷ []))) a in
    went b (s ∷ ss) h ∙ went_by b s ss false false g.plain f

-- the labels are those that stand, the open one ended
pub without_last : (done : Name) (l : Label) → without_empty (done ++ l ∷ []) ≡ labels_with done l
without_last done [] = without_empty-append done ([] ∷ []) (omega arith) ∙ append-nil done
without_last done (o ∷ os) = without_empty-append done ((o ∷ os) ∷ []) (omega arith)

wire_len-spelled : (n : Name) → wire_len n ≡ length (spelled n) + 1
wire_len-spelled n = omega (arith, length-spelled_sum n)

-- as long as its octets and the root's
pub standing_len : (b : Building) → wire_len (without_empty (standing b)) ≡ length (octets_of_building b) + 1
standing_len b =
    ap wire_len (without_last b.done b.open_label) ∙ wire_len-spelled (labels_with b.done b.open_label)
    ∙ omega (arith, open_length b.done b.open_label, length-append (spelled b.done) (open_octets b.open_label))

stands_short : (b : Building) → IsShort b → if_open_short (Some (standing b)) ≡ Some (standing b)
stands_short b h = ap (λ t. cond t (Some (standing b)) None) (le-leb (wire_len (without_empty (standing b))) 255 (omega (arith, h.name, standing_len b)))

-- where nothing follows
pub nothing_follows : (b : Building) → IsShort b → symbols_behind b [] ≡ Some (standing b)
nothing_follows b h = ap if_open_short (went b [] h.open_label) ∙ stands_short b h

-- a name that is too long stays so
pub too_long : (b : Building) (v : ℕ) → length b.open_label < 63 → 254 < length (octets_of_building (with_octets b (v ∷ []))) → (ss : List Symbol) → if_open_short (continued (with_octets b (v ∷ [])) ss) ≡ None
too_long b v room h ss = ap if_open_short (went (with_octets b (v ∷ [])) ss (omega (arith, room, more))) ∙ go (taken (b.open_label ++ v ∷ []) ss) refl
  where
    more : length (b.open_label ++ v ∷ []) ≡ length b.open_label + 1
    more = length-append b.open_label (v ∷ [])

    grown : (l : Label) → 0 < length l → length (octets_of_building (record { done = b.done; open_label = l })) ≡ length (spelled b.done) + 1 + length l
    grown [] k = absurd (omega arith)
    grown (o ∷ os) k = omega (arith, length-append (spelled b.done) (0 ∷ o ∷ os))

    long : (ls : Name) → 0 < length ls → length (b.open_label ++ v ∷ []) + 2 ≤ wire_len (without_empty ls) → nat_le (wire_len (without_empty (b.done ++ ls))) 255 ≡ false
    long ls some within =
        lt-leb (wire_len (without_empty (b.done ++ ls))) 255
        (omega (arith, h, more, within, grown (b.open_label ++ v ∷ []) (omega (arith, more)), ap wire_len (without_empty-append b.done ls some), wire_len-append b.done (without_empty ls), wire_len-spelled b.done))

    go : (r : Option Name) → taken (b.open_label ++ v ∷ []) ss ≡ r → if_open_short (option_map (λ ls. b.done ++ ls) r) ≡ None
    go None e = refl
    go (Some ls) e =
        ap (λ t. cond t (Some (b.done ++ ls)) None)
        (long ls (some_taken (b.open_label ++ v ∷ []) ss ls e) (open_within (b.open_label ++ v ∷ []) ss ls (omega (arith, more)) e))

-- ---- one call

pub shut : (t : Bool) (l : Label) → (IsTrue t ↔ (l ≢ [])) → l ≡ [] → t ≡ false
shut true l h e = absurd (h.0 refl e)
shut false l h e = refl

pub shut_back : (t : Bool) (l : Label) → (IsTrue t ↔ (l ≢ [])) → t ≡ false → l ≡ []
shut_back t [] h e = refl
shut_back t (o ∷ os) h e = let x : t ≡ true = h.1 (λ k. cc) in cc

-- a refused octet
pub not_pushed : (b : Building) (s : Symbol) (in_label : Bool) (v : ℕ) (e : PushError) → GoesOn s in_label v → (b.open_label ≡ [] → in_label ≡ false) → length b.open_label ≤ 63 → (e ≡ LongLabel → 63 < length b.open_label + 1) → (e ≡ LongName → (length b.open_label + 1 ≤ 63) × (254 < length (octets_of_building (with_octets b (v ∷ []))))) → is_pushed_text e ≡ true → (ss : List Symbol) → if_open_short (continued b (s ∷ ss)) ≡ None
not_pushed b s in_label v LongLabel g n h long name t ss = ap if_open_short (full_label b s in_label v g h (omega (arith, long refl)) ss)
not_pushed b s in_label v LongName g n h long name t ss =
    let k = name refl in
    ap if_open_short (at_octet b s in_label v g n (omega (arith, k.0)) ss) ∙ too_long b v (omega (arith, k.0)) k.1 ss
not_pushed b s in_label v Full g n h long name t ss = cc

octet_fault : (b : Building) (s : Symbol) (in_label : Bool) (f : Fault) → (in_label ≡ false → b.open_label ≡ []) → OctetFault s in_label f → FaultAt b s f
octet_fault b s in_label (BadText e) h o = o
octet_fault b s in_label EmptyLabel h o = (o.0, h o.1)
octet_fault b s in_label BinaryLabel h o = (o.0, h o.1)
octet_fault b s in_label TextLabel h o = absurd o
octet_fault b s in_label TextName h o = absurd o

-- the fault of a symbol that adds no octet
pub kept_fault : (b : Building) (s : Symbol) (in_label : Bool) (e : FromStrError) → (in_label ≡ false → b.open_label ≡ []) → IfSome (fault_of e) (OctetFault s in_label) → IfSome (fault_of e) (FaultAt b s)
kept_fault b s in_label (Presentation p) h o = octet_fault b s in_label (named p) h o
kept_fault b s in_label ShortBuf h o = tt

-- a character that makes a symbol whole, and leaves nothing
pub made_whole : (s : Symbol) (unfinished later : List ℕ) (ch : ℕ) → ((rest : List ℕ) → symbols_of (unfinished ++ ch ∷ rest) ≡ option_map (λ ss. s ∷ ss) (symbols_of (later ++ rest))) → later ≡ [] → (rest : List ℕ) → symbols_of (unfinished ++ ch ∷ rest) ≡ option_map (λ ss. s ∷ ss) (symbols_of rest)
made_whole s unfinished later ch h e rest = h rest ∙ ap (λ t. option_map (λ ss. s ∷ ss) (symbols_of (t ++ rest))) e

-- the fault of a symbol that a character makes whole
pub whole_fault : (b : Building) (s : Symbol) (unfinished : List ℕ) (ch : ℕ) (e : FromStrError) → ((rest : List ℕ) → symbols_of (unfinished ++ ch ∷ rest) ≡ option_map (λ ss. s ∷ ss) (symbols_of rest)) → IfSome (fault_of e) (FaultAt b s) → IfSome (fault_of e) (CharFault b unfinished ch)
whole_fault b s unfinished ch (Presentation p) h o = inr (s, h, o)
whole_fault b s unfinished ch ShortBuf h o = tt

-- the fault of a symbol whose octet does not fit
pub pushed_at : (b : Building) (s : Symbol) (in_label : Bool) (v : ℕ) (e : PushError) → GoesOn s in_label v → (b.open_label ≡ [] → in_label ≡ false) → length b.open_label ≤ 63 → (e ≡ LongLabel → 63 < length b.open_label + 1) → (e ≡ LongName → (length b.open_label + 1 ≤ 63) × (254 < length (octets_of_building (with_octets b (v ∷ []))))) → IfSome (pushed_fault e) (FaultAt b s)
pushed_at b s in_label v LongLabel g n h long name = (record { plain = g.plain; valid = g.valid; begins = λ k. g.begins (n k) }, omega (arith, long refl))
pushed_at b s in_label v LongName g n h long name =
    let k = name refl in
    (record { plain = g.plain; valid = g.valid; begins = λ j. g.begins (n j) }, omega (arith, k.0), subst (λ o. 254 < length (octets_of_building (with_octets b (o ∷ [])))) g.value k.1)
pushed_at b s in_label v Full g n h long name = tt

abbrev read_then : Building → Option (List Symbol) → Option Name
read_then b o = elim o [ None ↦ None | Some ss ↦ read_behind b.done b.open_label ss ]

-- symbols at the front of a text
pub text_steps : (b now : Building) (text later : List ℕ) (ss : List Symbol) → symbols_of text ≡ option_map (λ us. ss ++ us) (symbols_of later) → ((us : List Symbol) → continued b (ss ++ us) ≡ continued now us) → text_behind b text ≡ text_behind now later
text_steps b now text later ss e h = ap (read_then b) e ∙ go (symbols_of later)
  where
    go : (o : Option (List Symbol)) → read_then b (option_map (λ us. ss ++ us) o) ≡ read_then now o
    go None = refl
    go (Some us) = ap if_open_short (h us)

-- one of them
pub text_step : (b now : Building) (text later : List ℕ) (s : Symbol) → symbols_of text ≡ option_map (λ us. s ∷ us) (symbols_of later) → ((ss : List Symbol) → continued b (s ∷ ss) ≡ continued now ss) → text_behind b text ≡ text_behind now later
text_step b now text later s e h = text_steps b now text later (s ∷ []) e h

-- a text that stops
pub text_stops : (b : Building) (text later : List ℕ) (s : Symbol) → symbols_of text ≡ option_map (λ us. s ∷ us) (symbols_of later) → ((ss : List Symbol) → if_open_short (continued b (s ∷ ss)) ≡ None) → text_behind b text ≡ None
text_stops b text later s e h = ap (read_then b) e ∙ go (symbols_of later)
  where
    go : (o : Option (List Symbol)) → read_then b (option_map (λ us. s ∷ us) o) ≡ None
    go None = refl
    go (Some us) = h us

pub no_text : (b : Building) (text : List ℕ) → symbols_of text ≡ None → text_behind b text ≡ None
no_text b text e = ap (read_then b) e

pub map_more : {X : Type 0} (f : X → Symbol) (xs : List X) (x : X) (ss : List Symbol) → map f (xs ++ x ∷ []) ++ ss ≡ map f xs ++ (f x ∷ ss)
map_more f [] x ss = refl
map_more f (y ∷ xs) x ss = ap (λ us. f y ∷ us) (map_more f xs x ss)

-- calls that gave some items, and one more call
pub yields_more : {S X : Type 0} (steps : S → Option X → S → Type 0) (s : S) (xs : List X) (t : S) (x : X) (u : S) → Yields steps s xs t → steps t (Some x) u → Yields steps s (xs ++ x ∷ []) u
yields_more {S} {X} steps s [] t x u y h = (u, subst (λ (r : S). steps r (Some x) u) (sym y) h, refl)
yields_more {S} {X} steps s (z ∷ xs) t x u y h = (y.0, y.1, yields_more steps y.0 xs t x u y.2 h)

-- what holds of every refusal
pub whatever : {T P : Type 0} (r : Result T FromStrError) → P → IfErr r (λ e. is_text e ≡ true → P)
whatever (Ok x) p = tt
whatever (Err e) p = λ h. p
