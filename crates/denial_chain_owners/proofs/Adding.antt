-- Types that are added to a bitmap, one after another.
use Rattle.std.proofs.Common.{◌≡◌, ℕ, Bool, true, false, ◌||◌, List, [], ◌∷◌, ◌++◌, map, Option, Some, None, refl, sym, ap, subst, ◌∙◌, append_assoc}
use Rattle.std.specs.Prelude.{nat_eq}
use Rattle.std.specs.List.{list_any}
use Rattle.std.proofs.lemmas.List.{append-nil}
use Rattle.definitions.specs.Bitmap.{bitmap}
use Rattle.definitions.proofs.BitmapLaws.{one_spelling}
use Rattle.plain.specs.declared.record.Record.{Record}
use Rattle.denial_chain_owners.specs.Types.{last_is}
use Rattle.denial_chain_owners.proofs.AtOwner.{any_append}

-- the same types, so the same octets
pub same_bits : (ts us : List ℕ) → ((t : ℕ) → list_any (nat_eq t) ts ≡ list_any (nat_eq t) us) → bitmap ts ≡ bitmap us
same_bits ts us f = (one_spelling ts us).1 (λ t l. f t)

abbrev pub IsThere : Option ℕ → List ℕ → Type 0
IsThere None ts = Unit {0}
IsThere (Some t) ts = list_any (nat_eq t) ts ≡ true

pub last_eq : (o : Option ℕ) (t : ℕ) → last_is o t ≡ true → o ≡ Some t
last_eq None t e = absurd cc
last_eq (Some s) t e = ap Some (Rattle.std.proofs.lemmas.Bool.eqb-true s t e)

-- The types of the records that were passed have been added; the last of them is among them.
pub record Adds {N D : Type 0} (rtype : D → ℕ) (all left : List (Record N D)) (old new : List ℕ) (last : Option ℕ) : Type 0 where
  pub done : List ℕ
  pub parts : map (λ r. rtype r.content) all ≡ done ++ map (λ r. rtype r.content) left
  pub bits : (ts : List ℕ) → old ≡ bitmap ts → new ≡ bitmap (done ++ ts)
  pub there : IsThere last done

or_turned : (a b c : Bool) → (a || (b || c)) ≡ ((b || (a || false)) || c)
or_turned true true c = refl
or_turned true false c = refl
or_turned false true c = refl
or_turned false false c = refl

one_later : (t k : ℕ) (done ts : List ℕ) → list_any (nat_eq k) (t ∷ (done ++ ts)) ≡ list_any (nat_eq k) ((done ++ t ∷ []) ++ ts)
one_later t k done ts =
    ap (λ b. nat_eq k t || b) (any_append (nat_eq k) done ts)
    ∙ or_turned (nat_eq k t) (list_any (nat_eq k) done) (list_any (nat_eq k) ts)
    ∙ sym (any_append (nat_eq k) (done ++ t ∷ []) ts ∙ ap (λ b. b || list_any (nat_eq k) ts) (any_append (nat_eq k) done (t ∷ [])))

pub moved : (t : ℕ) (done ts : List ℕ) → bitmap (t ∷ (done ++ ts)) ≡ bitmap ((done ++ t ∷ []) ++ ts)
moved t done ts = same_bits (t ∷ (done ++ ts)) ((done ++ t ∷ []) ++ ts) (λ k. one_later t k done ts)

or_idle : (a b : Bool) → (a ≡ true → b ≡ true) → (a || b) ≡ b
or_idle true b f = sym (f refl)
or_idle false b f = refl

is_there : (t k : ℕ) (xs : List ℕ) → list_any (nat_eq t) xs ≡ true → nat_eq k t ≡ true → list_any (nat_eq k) xs ≡ true
is_there t k xs h e = let s : k ≡ t = Rattle.std.proofs.lemmas.Bool.eqb-true k t e in ap (λ n. list_any (nat_eq n) xs) s ∙ h

or_left_true : (a b : Bool) → a ≡ true → (a || b) ≡ true
or_left_true true b e = refl
or_left_true false b e = absurd cc

-- a type that is there is as if it were added
pub idle : (t : ℕ) (done ts : List ℕ) → list_any (nat_eq t) done ≡ true → bitmap (done ++ ts) ≡ bitmap ((done ++ t ∷ []) ++ ts)
idle t done ts h =
    same_bits (done ++ ts) (t ∷ (done ++ ts))
    (λ k. sym (or_idle (nat_eq k t) (list_any (nat_eq k) (done ++ ts)) (λ e. any_append (nat_eq k) done ts ∙ or_left_true (list_any (nat_eq k) done) (list_any (nat_eq k) ts) (is_there t k done h e))))
    ∙ moved t done ts

module _ {N D : Type 0} (rtype : D → ℕ) (all : List (Record N D)) where
  pub adds_begin : (old : List ℕ) → Adds rtype all all old old None
  adds_begin old = record { done = []; parts = refl; bits = λ ts e. e; there = tt }

  pub adds_end : (left : List (Record N D)) (old new : List ℕ) (last : Option ℕ) → left ≡ [] → Adds rtype all left old new last → (ts : List ℕ) → old ≡ bitmap ts → new ≡ bitmap (map (λ r. rtype r.content) all ++ ts)
  adds_end left old new last e a ts h =
      let whole : a.done ≡ map (λ r. rtype r.content) all = sym (append-nil a.done) ∙ ap (λ rs. a.done ++ map (λ r. rtype r.content) rs) (sym e) ∙ sym a.parts in
      a.bits ts h ∙ ap (λ us. bitmap (us ++ ts)) whole

  parts_next : (left behind : List (Record N D)) (r : Record N D) (done : List ℕ) → left ≡ r ∷ behind → map (λ r. rtype r.content) all ≡ done ++ map (λ r. rtype r.content) left → map (λ r. rtype r.content) all ≡ (done ++ rtype r.content ∷ []) ++ map (λ r. rtype r.content) behind
  parts_next left behind r done e p = p ∙ ap (λ rs. done ++ map (λ r. rtype r.content) rs) e ∙ sym (append_assoc done (rtype r.content ∷ []) (map (λ r. rtype r.content) behind))

  last_there : (t : ℕ) (done : List ℕ) → list_any (nat_eq t) (done ++ t ∷ []) ≡ true
  last_there t done = any_append (nat_eq t) done (t ∷ []) ∙ or_right (list_any (nat_eq t) done) (nat_eq t t) (Rattle.std.proofs.lemmas.Bool.eq-eqb t t refl)
    where
      or_right : (a b : Bool) → b ≡ true → (a || (b || false)) ≡ true
      or_right true b e = refl
      or_right false true e = refl
      or_right false false e = e

  -- one more was added
  pub adds_one : (left behind : List (Record N D)) (r : Record N D) (old mid new : List ℕ) (last : Option ℕ) → left ≡ r ∷ behind → Adds rtype all left old mid last
      → ((ts : List ℕ) → mid ≡ bitmap ts → new ≡ bitmap (rtype r.content ∷ ts)) → Adds rtype all behind old new (Some (rtype r.content))
  adds_one left behind r old mid new last e a h = record {
    done = a.done ++ rtype r.content ∷ [];
    parts = parts_next left behind r a.done e a.parts;
    bits = λ ts k. h (a.done ++ ts) (a.bits ts k) ∙ moved (rtype r.content) a.done ts;
    there = last_there (rtype r.content) a.done;
  }

  -- one more that is there
  pub adds_none : (left behind : List (Record N D)) (r : Record N D) (old new : List ℕ) (last : Option ℕ) → left ≡ r ∷ behind → last ≡ Some (rtype r.content) → Adds rtype all left old new last → Adds rtype all behind old new last
  adds_none left behind r old new last e l a =
      let there : list_any (nat_eq (rtype r.content)) a.done ≡ true = subst (λ o. IsThere o a.done) l a.there in
      record {
        done = a.done ++ rtype r.content ∷ [];
        parts = parts_next left behind r a.done e a.parts;
        bits = λ ts k. a.bits ts k ∙ idle (rtype r.content) a.done ts there;
        there = subst (λ o. IsThere o (a.done ++ rtype r.content ∷ [])) (sym l) (last_there (rtype r.content) a.done);
      }

  -- the same, by what the tests answer
  pub added : (left behind : List (Record N D)) (r : Record N D) (old mid new : List ℕ) (last : Option ℕ) (t : ℕ) → t ≡ rtype r.content → left ≡ r ∷ behind → Adds rtype all left old mid last
      → ((ts : List ℕ) → mid ≡ bitmap ts → new ≡ bitmap (t ∷ ts)) → Adds rtype all behind old new (Some t)
  added left behind r old mid new last t s e a =
      let P : ℕ → Type 0 = λ t. ((ts : List ℕ) → mid ≡ bitmap ts → new ≡ bitmap (t ∷ ts)) → Adds rtype all behind old new (Some t) in
      subst P (sym s) (adds_one left behind r old mid new last e a)

  pub passed : (left behind : List (Record N D)) (r : Record N D) (old new : List ℕ) (last : Option ℕ) (t : ℕ) → t ≡ rtype r.content → left ≡ r ∷ behind → last_is last t ≡ true → Adds rtype all left old new last → Adds rtype all behind old new last
  passed left behind r old new last t s e l a = adds_none left behind r old new last e (last_eq last t l ∙ ap Some s) a
