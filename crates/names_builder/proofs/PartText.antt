-- What a builder has read of a text.
use Rattle.std.proofs.Common.{◌≡◌, inl, inr, ℕ, true, List, [], ◌∷◌, ◌++◌, sym, ap, ◌∙◌, append_assoc, subst, refl, Option, Some, None, IfSome}
use Rattle.std.specs.Option.{option_map}
use Rattle.std.specs.Iterator.{Yields}
use Rattle.std.proofs.lemmas.List.{append-nil}
use Rattle.definitions.specs.Text.{Symbol, symbols_of}
use Rattle.names_wire.specs.Symbols.{is_begun}
use Rattle.names_wire.proofs.PartLabel.{same_option, joined}
use Rattle.names_labels.specs.Open.{if_open_short}
use Rattle.names_builder.specs.Building.{Building, IsShort}
use Rattle.names_builder.specs.FromText.{standing, continued, symbols_behind, text_behind, AddsChar, StopsInText, FirstFault}
use Rattle.names_builder.specs.Fault.{CharFault, fault_of, named}
use Rattle.names_builder.specs.declared.text_error.Fault.TheVariants.{Symbol as BadText}
use Rattle.names_builder.specs.declared.text_error.FromStrError.{FromStrError}
use Rattle.names_builder.specs.declared.text_error.FromStrError.TheVariants.{Presentation, ShortBuf}
use Rattle.names_wire.specs.declared.symbol.SymbolCharsError.{SymbolCharsError}
use Rattle.names_wire.specs.declared.symbol.SymbolCharsError.TheVariants.{ShortInput}
use Rattle.names_builder.proofs.FromTexts.{nothing_follows, text_steps}

-- The text is some whole symbols, which the builder has read, and characters that are left.
pub record PartText (text left : List ℕ) (old now : Building) : Type 0 where
  pub whole : List ℕ
  pub symbols : List Symbol
  pub divided : text ≡ whole ++ left
  pub reads : (rest : List ℕ) → symbols_of (whole ++ rest) ≡ option_map (λ ss. symbols ++ ss) (symbols_of rest)
  pub onward : (ss : List Symbol) → continued old (symbols ++ ss) ≡ continued now ss

-- before the first character
pub at_first : (before : List ℕ) (b : Building) → PartText (before ++ []) before b b
at_first before b = record { whole = []; symbols = []; divided = append-nil before; reads = λ rest. sym (same_option (symbols_of rest)); onward = λ ss. refl }

-- behind one more
pub read_on : (before text left later : List ℕ) (ch : ℕ) (old b now : Building) → PartText (before ++ text) left old b → AddsChar b left ch now later → PartText (before ++ (text ++ ch ∷ [])) later old now
read_on before text left later ch old b now p (inl a) = record {
  whole = p.whole;
  symbols = p.symbols;
  divided = sym (append_assoc before text (ch ∷ [])) ∙ ap (λ t. t ++ ch ∷ []) p.divided ∙ append_assoc p.whole left (ch ∷ []) ∙ ap (λ t. p.whole ++ t) (sym a.1);
  reads = p.reads;
  onward = λ ss. p.onward ss ∙ ap (λ x. continued x ss) (sym a.0);
}
read_on before text left later ch old b now p (inr a) = record {
  whole = before ++ (text ++ ch ∷ []);
  symbols = p.symbols ++ a.0 ∷ [];
  divided = sym (append-nil (before ++ (text ++ ch ∷ []))) ∙ ap (λ t. (before ++ (text ++ ch ∷ [])) ++ t) (sym a.3);
  reads = λ rest. ap symbols_of (longer rest) ∙ p.reads (left ++ ch ∷ rest) ∙ ap (option_map (λ us. p.symbols ++ us)) (a.1 rest) ∙ joined p.symbols a.0 (symbols_of rest);
  onward = λ ss. ap (continued old) (append_assoc p.symbols (a.0 ∷ []) ss) ∙ p.onward (a.0 ∷ ss) ∙ a.2 ss;
}
  where
    longer : (rest : List ℕ) → (before ++ (text ++ ch ∷ [])) ++ rest ≡ p.whole ++ (left ++ ch ∷ rest)
    longer rest =
        ap (λ t. t ++ rest) (sym (append_assoc before text (ch ∷ []))) ∙ append_assoc (before ++ text) (ch ∷ []) rest
        ∙ ap (λ t. t ++ ch ∷ rest) p.divided ∙ append_assoc p.whole left (ch ∷ rest)

-- the builder as it was when the text stopped
pub stops : {S : Type 0} (steps : S → Option ℕ → S → Type 0) (s t : S) (before text left : List ℕ) (old now new : Building) → PartText (before ++ text) left old now → IsShort now → new ≡ now → is_begun left ≡ true → Yields steps s text t → StopsInText steps s before old new
stops steps s t before text left old now new p h e b y = record {
  text = text;
  whole = p.whole;
  symbols = p.symbols;
  unfinished = left;
  after = t;
  yields = y;
  divided = p.divided;
  reads = p.reads;
  begins = b;
  stands = ap (symbols_behind old) (sym (append-nil p.symbols)) ∙ ap if_open_short (p.onward []) ∙ nothing_follows now h ∙ ap (λ x. Some (standing x)) (sym e);
  onward = λ rest.
      ap (text_behind old) (sym (append_assoc before text rest) ∙ ap (λ t. t ++ rest) p.divided ∙ append_assoc p.whole left rest)
      ∙ text_steps old now (p.whole ++ (left ++ rest)) (left ++ rest) p.symbols (p.reads (left ++ rest)) p.onward
      ∙ ap (λ x. text_behind x (left ++ rest)) (sym e);
}

-- the next character is refused
pub stops_at_next : {S : Type 0} (steps : S → Option ℕ → S → Type 0) (s t u : S) (before text left : List ℕ) (old now new : Building) (ch : ℕ) (e : FromStrError) → PartText (before ++ text) left old now → IsShort now → new ≡ now → is_begun left ≡ true → Yields steps s text t → steps t (Some ch) u → IfSome (fault_of e) (CharFault now left ch) → IfSome (fault_of e) (FirstFault steps s before old new)
unfolding stops
stops_at_next steps s t u before text left old now new ch ShortBuf p h i b y k o = tt
stops_at_next steps s t u before text left old now new ch (Presentation r) p h i b y k o = record {
  stop = stops steps s t before text left old now new p h i b y;
  fault = inl (ch, u, k, subst (λ x. CharFault x left ch (named r)) (sym i) o);
}

-- there are no more within a symbol
pub stops_within : {S : Type 0} (steps : S → Option ℕ → S → Type 0) (s t u : S) (before text left : List ℕ) (old now : Building) (e : SymbolCharsError) → PartText (before ++ text) left old now → IsShort now → is_begun left ≡ true → Yields steps s text t → steps t None u → symbols_of left ≡ None → e ≡ ShortInput → FirstFault steps s before old now (BadText e)
unfolding stops
stops_within steps s t u before text left old now e p h b y k n i = record {
  stop = stops steps s t before text left old now now p h refl b y;
  fault = inr (u, k, n, ap BadText i);
}
