-- Addresses that are found.
use Rattle.std.proofs.Common.{◌≡◌, ℕ, Bool, true, false, ◌&&◌, List, [], ◌∷◌, ◌++◌, map, Option, Result, Ok, Err, cond, eqb, refl, sym, ap, ◌∙◌, append_assoc}
use Rattle.std.specs.Prelude.{MatchOption, OnOk}
use Rattle.std.specs.List.{AllByRecursion, filter, flat_map}
use Rattle.std.proofs.lemmas.List.{append-nil}
use Rattle.definitions.specs.Limits.{pointer_limit}
use Rattle.definitions.specs.Name.{Name, at_or_above, same}
use Rattle.messages.specs.declared.error.MessageError.{MessageError}
use Rattle.denial_sorted.specs.Owned.{is_owned}
use Rattle.messages.specs.HandedRr.{HandedRr, handed_of}
use Rattle.messages.specs.Message.{Message, Spelled, message, owner_at}
use Rattle.answer_zone_records.specs.OwnedRecords.{handed_in, is_of_type, owned_by}
use Rattle.answer_zone_records.proofs.OwnedFacts.{found_is}
use Rattle.server_glue.proofs.Kept.{Zoned, internet}
use Rattle.server_glue.specs.Glue.{IsAddress, addresses_at, glue, glue_below, glue_in, glue_of, is_authoritative, owned_of_type}

-- ---- of an owner and a type

pub of_both : (rs : List HandedRr) (q : Name) (t : ℕ) → filter (is_of_type t) (owned_by q rs) ≡ owned_of_type rs q t
of_both [] q t = refl
of_both (r ∷ rs) q t =
    elim (same r.owner q) as (λ b. filter (is_of_type t) (cond b (r ∷ owned_by q rs) (owned_by q rs)) ≡ cond (b && eqb r.rtype t) (r ∷ owned_of_type rs q t) (owned_of_type rs q t)) [
      | true ↦ ap (λ xs. cond (eqb r.rtype t) (r ∷ xs) xs) (of_both rs q t)
      | false ↦ of_both rs q t
    ]

-- what a name owns, found by its owner
pub at_owner : {O : Type 0} (rs : List (Zoned O)) (addresses : List HandedRr) (q : Name) (o : Option (List (Zoned O))) (t : ℕ) → AllByRecursion IsAddress (map handed_of rs) → map handed_of rs ≡ addresses
    → MatchOption o (filter (is_owned (λ n. n) 1 q) rs ≡ []) (λ g. g ≡ filter (is_owned (λ n. n) 1 q) rs) → filter (is_of_type t) (handed_in o) ≡ owned_of_type addresses q t
at_owner rs addresses q o t each view m = ap (filter (is_of_type t)) (found_is q rs o (internet rs each) m) ∙ of_both (map handed_of rs) q t ∙ ap (λ xs. owned_of_type xs q t) view

-- ---- what is found so far

pub on_ok : {T E P Q : Type 0} (r : Result T E) → (P → Q) → OnOk r P → OnOk r Q
on_ok (Ok x) f h = f h
on_ok (Err e) f h = tt

-- nothing more
pub found_none : (found a d : List HandedRr) → [] ≡ a → [] ≡ d → found ≡ found ++ (a ++ d)
found_none found a d no_a no_d = sym (append-nil found) ∙ (λ i. found ++ (no_a i ++ no_d i))

-- one list more, and then another
pub found_both : (old middle new a d b e : List HandedRr) → a ≡ b → d ≡ e → middle ≡ old ++ a → new ≡ middle ++ d → new ≡ old ++ (b ++ e)
found_both old middle new a d b e ab de first second = second ∙ ap (λ xs. xs ++ d) first ∙ append_assoc old a d ∙ (λ i. old ++ (ab i ++ de i))

-- ---- what holds of all addresses holds of glue

module _ (P : HandedRr → Type 0) (rs : List HandedRr) (all : AllByRecursion P rs) (m : List ℕ) where
  filtered : (p : HandedRr → Bool) (xs : List HandedRr) → AllByRecursion P xs → AllByRecursion P (filter p xs)
  filtered p [] h = tt
  filtered p (x ∷ xs) h = go (p x) (filtered p xs h.1)
    where
      go : (b : Bool) → AllByRecursion P (filter p xs) → AllByRecursion P (cond b (x ∷ filter p xs) (filter p xs))
      go true rest = (h.0, rest)
      go false rest = rest

  joined : (xs ys : List HandedRr) → AllByRecursion P xs → AllByRecursion P ys → AllByRecursion P (xs ++ ys)
  joined [] ys h k = k
  joined (x ∷ xs) ys h k = (h.0, joined xs ys h.1 k)

  at_name : (n : Name) → AllByRecursion P (addresses_at rs n)
  at_name n = joined (owned_of_type rs n 1) (owned_of_type rs n 28) (filtered _ rs all) (filtered _ rs all)

  below : (owner : Name) (n : Result (Name × ℕ) MessageError) → AllByRecursion P (glue_below rs owner n)
  below owner (Err e) = tt
  below owner (Ok n) = go (at_or_above owner n.0)
    where
      go : (b : Bool) → AllByRecursion P (cond b (addresses_at rs n.0) [])
      go true = at_name n.0
      go false = tt

  of_record : (r : Spelled) → AllByRecursion P (glue_of rs m r)
  of_record r = go (eqb r.rtype 2)
    where
      go : (b : Bool) → AllByRecursion P (cond b (glue_below rs r.owner (owner_at pointer_limit m r.start)) [])
      go true = below r.owner (owner_at pointer_limit m r.start)
      go false = tt

  of_records : (xs : List Spelled) → AllByRecursion P (flat_map (glue_of rs m) xs)
  of_records [] = tt
  of_records (x ∷ xs) = joined (glue_of rs m x) (flat_map (glue_of rs m) xs) (of_record x) (of_records xs)

  of_message : (read : Result Message MessageError) → AllByRecursion P (glue_in rs m read)
  of_message (Err e) = tt
  of_message (Ok read) = of_records read.records

  pub all_glue : AllByRecursion P (glue rs m)
  all_glue = go (is_authoritative m)
    where
      go : (b : Bool) → AllByRecursion P (cond b [] (glue_in rs m (message pointer_limit m)))
      go true = tt
      go false = of_message (message pointer_limit m)
