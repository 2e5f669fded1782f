-- What a builder held stands in front of what symbols added.
use Rattle.std.proofs.Common.{◌≡◌, ℕ, ◌+◌, ◌<◌, List, [], ◌∷◌, ◌++◌, map, length, take, set, refl, sym, ap, subst, ◌∙◌, append_assoc, length-append, arith, Bool, true, false, cond, nat_le, not, ◌&&◌, Option, Some, None}
use Rattle.std.specs.Prelude.{MatchOption, Result, Ok, Err, IfErr, OnErr}
use Rattle.std.specs.Result.{is_err}
use Rattle.std.specs.Option.{option_map}
use Rattle.std.specs.List.{list_all}
use Rattle.std.proofs.lemmas.List.{append-nil, take_at, set_at, length-set}
use Rattle.definitions.specs.Name.{Name, Label, wire_len}
use Rattle.definitions.specs.Text.{Symbol, pieces, octet, is_symbol}
use Rattle.names_labels.specs.Flat.{spelled}
use Rattle.names_labels.specs.Open.{piece_behind, binary_behind, some_before, open_labels, if_open_short, without_empty}
use Rattle.names_builder.specs.Building.{Building, IsShort, IsFront, Holds, building, octets_of_building, open_octets, head_of, closed}
use Rattle.names_wire.specs.Symbols.{symbol_of}
use Rattle.names_wire.specs.declared.symbol.Symbol.{Symbol as WireSymbol}
use Rattle.names_builder.specs.declared.text_error.FromStrError.{FromStrError}
use Rattle.names_builder.specs.FromText.{standing, symbols_behind, StopsAtSymbol, StopsInText}
use Rattle.names_builder.proofs.Builds.{place_within}

-- ---- labels

-- the octets of labels, the last of which is open
abbrev octets_of : Name → List ℕ
octets_of [] = []
octets_of (l ∷ []) = open_octets l
octets_of (l ∷ k ∷ ls) = (length l ∷ l) ++ octets_of (k ∷ ls)

octets_behind : (done : Name) (l : Label) (ls : Name) → octets_of (done ++ l ∷ ls) ≡ spelled done ++ octets_of (l ∷ ls)
octets_behind [] l ls = refl
octets_behind (k ∷ []) l ls = ap (λ t. t ++ octets_of (l ∷ ls)) (sym (append-nil (length k ∷ k)))
octets_behind (k ∷ j ∷ done) l ls =
    ap (λ t. (length k ∷ k) ++ t) (octets_behind (j ∷ done) l ls) ∙ sym (append_assoc (length k ∷ k) (spelled (j ∷ done)) (octets_of (l ∷ ls)))

octets_standing : (b : Building) → octets_of (standing b) ≡ octets_of_building b
octets_standing b = octets_behind b.done b.open_label []

-- an open label that isn't empty stands in front of its octets, and of others
open_front : (o : ℕ) (os more : List ℕ) (rest : Name) → (v : ℕ) × (tail : List ℕ) × (octets_of (((o ∷ os) ++ more) ∷ rest) ≡ v ∷ ((o ∷ os) ++ tail))
open_front o os more [] = (0, more, refl)
open_front o os more (k ∷ ks) =
    (length ((o ∷ os) ++ more), more ++ octets_of (k ∷ ks), ap (λ t. length ((o ∷ os) ++ more) ∷ t) (append_assoc (o ∷ os) more (octets_of (k ∷ ks))))

-- ---- symbols

-- the first label goes on with the open one
piece_front : (l m : Label) (p : List Symbol) → piece_behind l p ≡ Some m → m ≡ l ++ map octet p
piece_front l m p h = go (nat_le (length l + length p) 63 && list_all is_symbol p && not (binary_behind l p)) refl
  where
    go : (t : Bool) → (nat_le (length l + length p) 63 && list_all is_symbol p && not (binary_behind l p)) ≡ t → m ≡ l ++ map octet p
    go true e = let x : Some (l ++ map octet p) ≡ Some m = sym (ap (λ t. cond t (Some (l ++ map octet p)) None) e) ∙ h in cc
    go false e = let x : None ≡ Some m = sym (ap (λ t. cond t (Some (l ++ map octet p)) None) e) ∙ h in cc

some_first : (l : Label) (r : Option Name) (ls : Name) → some_before l r ≡ Some ls → (rest : Name) × (ls ≡ l ∷ rest)
some_first [] r ls h = cc
some_first (o ∷ os) None ls h = cc
some_first (o ∷ os) (Some ms) ls h = (ms, cc)

labels_front : (l : Label) (ps : List (List Symbol)) (ls : Name) → open_labels l ps ≡ Some ls → (more : List ℕ) × (rest : Name) × (ls ≡ (l ++ more) ∷ rest)
labels_front l [] ls h = cc
labels_front l (p ∷ []) ls h = go (piece_behind l p) refl
  where
    go : (r : Option Label) → piece_behind l p ≡ r → (more : List ℕ) × (rest : Name) × (ls ≡ (l ++ more) ∷ rest)
    go None e = let x : None ≡ Some ls = sym (ap (option_map (λ k. k ∷ [])) e) ∙ h in cc
    go (Some m) e =
        let x : Some (m ∷ []) ≡ Some ls = sym (ap (option_map (λ k. k ∷ [])) e) ∙ h in
        let y : ls ≡ m ∷ [] = cc in
        (map octet p, [], y ∙ ap (λ k. k ∷ []) (piece_front l m p e))
labels_front l (p ∷ q ∷ ps) ls h = go (piece_behind l p) refl
  where
    after : Option Label → Option Name
    after r = elim r [ None ↦ None | Some k ↦ some_before k (open_labels [] (q ∷ ps)) ]

    go : (r : Option Label) → piece_behind l p ≡ r → (more : List ℕ) × (rest : Name) × (ls ≡ (l ++ more) ∷ rest)
    go None e = let x : None ≡ Some ls = sym (ap after e) ∙ h in cc
    go (Some m) e =
        let f = some_first m (open_labels [] (q ∷ ps)) ls (sym (ap after e) ∙ h) in
        (map octet p, f.0, f.1 ∙ ap (λ k. k ∷ f.0) (piece_front l m p e))

short_some : (r : Option Name) (ls : Name) → if_open_short r ≡ Some ls → r ≡ Some ls
short_some None ls h = h
short_some (Some ms) ls h = go (nat_le (wire_len (without_empty ms)) 255) refl
  where
    go : (t : Bool) → nat_le (wire_len (without_empty ms)) 255 ≡ t → Some ms ≡ Some ls
    go true e = sym (ap (λ t. cond t (Some ms) None) e) ∙ h
    go false e = let x : None ≡ Some ls = sym (ap (λ t. cond t (Some ms) None) e) ∙ h in cc

stands_front : (b now : Building) (ss : List Symbol) → symbols_behind b ss ≡ Some (standing now) → (more : List ℕ) × (rest : Name) × (standing now ≡ b.done ++ (b.open_label ++ more) ∷ rest)
stands_front b now ss h = go (open_labels b.open_label (pieces ss)) refl
  where
    s : option_map (λ ls. b.done ++ ls) (open_labels b.open_label (pieces ss)) ≡ Some (standing now)
    s = short_some (option_map (λ ls. b.done ++ ls) (open_labels b.open_label (pieces ss))) (standing now) h

    go : (r : Option Name) → open_labels b.open_label (pieces ss) ≡ r → (more : List ℕ) × (rest : Name) × (standing now ≡ b.done ++ (b.open_label ++ more) ∷ rest)
    go None e = let x : None ≡ Some (standing now) = sym (ap (option_map (λ ls. b.done ++ ls)) e) ∙ s in cc
    go (Some ls) e =
        let x : Some (b.done ++ ls) ≡ Some (standing now) = sym (ap (option_map (λ ks. b.done ++ ks)) e) ∙ s in
        let y : standing now ≡ b.done ++ ls = cc in
        let f = labels_front b.open_label (pieces ss) ls e in
        (f.0, f.1, y ∙ ap (λ ks. b.done ++ ks) f.2)

-- ---- what a builder held

cut : (b : Building) (os : List ℕ) (l more : Label) (rest : Name) → b.open_label ≡ l → os ≡ spelled b.done ++ octets_of ((l ++ more) ∷ rest) → closed (take (length (octets_of_building b)) os) (head_of l (length (spelled b.done))) 0 ≡ octets_of_building b
cut b os [] more rest e h =
    let bare : octets_of_building b ≡ spelled b.done = ap (λ l. spelled b.done ++ open_octets l) e ∙ append-nil (spelled b.done) in
    ap (take (length (octets_of_building b))) h ∙ take_at (spelled b.done) (octets_of (([] ++ more) ∷ rest)) (length (octets_of_building b)) (sym (ap length bare)) ∙ sym bare
cut b os (o ∷ r) more rest e h =
    let f = open_front o r more rest in
    let bare : octets_of_building b ≡ spelled b.done ++ 0 ∷ o ∷ r = ap (λ l. spelled b.done ++ open_octets l) e in
    let whole : os ≡ (spelled b.done ++ f.0 ∷ o ∷ r) ++ f.1 = h ∙ ap (λ t. spelled b.done ++ t) f.2 ∙ sym (append_assoc (spelled b.done) (f.0 ∷ o ∷ r) f.1) in
    let len : length (spelled b.done ++ f.0 ∷ o ∷ r) ≡ length (octets_of_building b) =
    omega (arith, ap length bare, length-append (spelled b.done) (f.0 ∷ o ∷ r), length-append (spelled b.done) (0 ∷ o ∷ r)) in
    let front : take (length (octets_of_building b)) os ≡ spelled b.done ++ f.0 ∷ o ∷ r =
    ap (take (length (octets_of_building b))) whole ∙ take_at (spelled b.done ++ f.0 ∷ o ∷ r) f.1 (length (octets_of_building b)) len in
    ap (λ t. set t (length (spelled b.done)) 0) front ∙ set_at (spelled b.done) f.0 (o ∷ r) 0 (length (spelled b.done)) refl ∙ sym bare

-- what symbols added stands behind
pub front_of : (b now : Building) (ss : List Symbol) → IsShort b → symbols_behind b ss ≡ Some (standing now) → IsFront b (length (octets_of_building b)) (head_of b.open_label (length (spelled b.done))) now
front_of b now ss short h =
    let f = stands_front b now ss h in
    record {
      octets = cut b (octets_of_building now) b.open_label f.0 f.1 refl (sym (octets_standing now) ∙ ap octets_of f.2 ∙ octets_behind b.done (b.open_label ++ f.0) f.1);
      place = refl;
      short = short;
    }

-- the same, from what the code knows
front_at : (b now : Building) (bs : List ℕ) (head : Option ℕ) (len : ℕ) (ss : List Symbol) → Holds bs head (building bs head) → building bs head ≡ b → len ≡ length (octets_of_building b) → symbols_behind b ss ≡ Some (standing now) → IsFront b len head now
front_at b now bs head len ss holds i l e =
    let h : Holds bs head b = subst (λ x. Holds bs head x) i holds in
    subst (λ n. IsFront b n head now) (sym l) (subst (λ p. IsFront b (length (octets_of_building b)) p now) (sym h.place) (front_of b now ss h.short e))

-- where a symbol was refused, and where a text stopped
pub symbols_front : {S T : Type 0} (steps : S → Option WireSymbol → S → Type 0) (s : S) (b now : Building) (bs : List ℕ) (head : Option ℕ) (len : ℕ) (r : Result T FromStrError) → Holds bs head (building bs head) → building bs head ≡ b → len ≡ length (octets_of_building b) → is_err r ≡ true → IfErr r (StopsAtSymbol steps s b now) → IsFront b len head now
symbols_front steps s b now bs head len (Ok x) h i l e stop = cc
symbols_front steps s b now bs head len (Err x) h i l e stop = front_at b now bs head len (map symbol_of stop.read) h i l stop.stands

pub text_front : {S T : Type 0} (steps : S → Option ℕ → S → Type 0) (s : S) (before : List ℕ) (b now : Building) (bs : List ℕ) (head : Option ℕ) (len : ℕ) (r : Result T FromStrError) → Holds bs head (building bs head) → building bs head ≡ b → len ≡ length (octets_of_building b) → is_err r ≡ true → OnErr r (StopsInText steps s before b now) → IsFront b len head now
text_front steps s before b now bs head len (Ok x) h i l e stop = cc
text_front steps s before b now bs head len (Err x) h i l e stop = front_at b now bs head len stop.symbols h i l stop.stands

-- what is put back
pub put_back : (before now : Building) (new bs : List ℕ) (len : ℕ) (head : Option ℕ) → IsFront before len head now → bs ≡ octets_of_building now → new ≡ closed (take len bs) head 0 → Holds new head before
put_back before now new bs len head h e w = record { octets = w ∙ ap (λ t. closed (take len t) head 0) e ∙ h.octets; place = h.place; short = h.short }

closed_len : (xs : List ℕ) (head : Option ℕ) (v : ℕ) → length (closed xs head v) ≡ length xs
closed_len xs None v = refl
closed_len xs (Some place) v = length-set xs place v

-- the place lies in front
pub place_in_front : (before now : Building) (bs : List ℕ) (len : ℕ) (head : Option ℕ) → IsFront before len head now → bs ≡ octets_of_building now → MatchOption head (Unit {0}) (λ place. place < length (take len bs))
place_in_front before now bs len None h e = tt
place_in_front before now bs len (Some place) h e =
    let holds : Holds (octets_of_building before) (Some place) before = record { octets = refl; place = h.place; short = h.short } in
    let within : place < length (octets_of_building before ++ []) = place_within (octets_of_building before) [] (Some place) before holds in
    omega (
      arith,
      within,
      ap length (append-nil (octets_of_building before)),
      ap length h.octets,
      closed_len (take len (octets_of_building now)) (Some place) 0,
      ap (λ t. length (take len t)) e,
    )
