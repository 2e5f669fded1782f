-- A setting of one key, seen in the set.
use Rattle.std.proofs.Common.{◌≡◌, cond, List, [], sym, ap, ◌∙◌, ℕ}
use Rattle.std.specs.Prelude.{Option, Some, None, Result, Ok, Err, String, string_bytes}
use Rattle.std.specs.Map.{lookup, set_value}
use Rattle.std.specs.Str.{bytes_eq}
use Rattle.std.proofs.lemmas.Map.Steps.{set_value_same}
use Rattle.keyset_keys.specs.declared.errors.Error.{Error}
use Rattle.keyset_rolls.specs.declared.rolls.RollState.{RollState}
use Rattle.keyset_rolls.specs.declared.rolls.RollType.{RollType}
use Rattle.keyset.specs.KeyState.{Answer, Key, KeyNotFound, KeySetState, Reference, Refusal, added, by_reference, key_of, write}
use Rattle.keyset.specs.KeyAnswers.{GivesAtOnce, IsRefusedAs, Refuses, Sets, refusal_of}
use Rattle.keyset.proofs.KeyMaps.{by_reference-put, find-by_reference}

abbrev made : Option Key → (Key → Result Key Refusal) → Reference → KeySetState → Answer
made o h q s = elim o [ None ↦ Err KeyNotFound | Some k ↦ elim (h k) [ Err e ↦ Err e | Ok l ↦ Ok (added q l s, []) ] ]

accepted : (h : Key → Result Key Refusal) (q : Reference) (s : KeySetState) (k l : Key) → key_of s q ≡ Some k → h k ≡ Ok l → write h q s ≡ Ok (added q l s, [])
accepted h q s k l f e = ap (λ o. made o h q s) f ∙ ap (λ r. elim r [ Err e ↦ Err e | Ok l ↦ Ok (added q l s, []) ]) e

refused : (h : Key → Result Key Refusal) (q : Reference) (s : KeySetState) (k : Key) (o : Option Refusal) → key_of s q ≡ Some k → IsRefusedAs o (h k) → Refuses o (write h q s)
refused h q s k None f e = absurd e
refused h q s k (Some r) f e = ap (λ o. made o h q s) f ∙ ap (λ r. elim r [ Err e ↦ Err e | Ok l ↦ Ok (added q l s, []) ]) e

module _ {A : Type 0} (name : List (List ℕ)) (rolls : List (RollType × RollState)) where
  abbrev state : List (String A × Key) → KeySetState
  state es = record { name = name; keys = by_reference es; rolls = rolls }

  found : (es : List (String A × Key)) (q : Reference) (o : Option Key) → lookup (λ k. bytes_eq q (string_bytes k)) es ≡ o → key_of (state es) q ≡ o
  found es q o h = find-by_reference q es ∙ h

  -- what is written through what a look-up lent
  pub written : (es fs : List (String A × Key)) (q : Reference) (k l : Key) (h : Key → Result Key Refusal) (r : Result (Unit {0}) Error) → lookup (λ k. bytes_eq q (string_bytes k)) es ≡ Some k → fs ≡ set_value (λ k. bytes_eq q (string_bytes k)) es l
      → ((p : Reference) → lookup (λ k. bytes_eq p (string_bytes k)) fs ≡ cond (bytes_eq q p) (Some l) (lookup (λ k. bytes_eq p (string_bytes k)) es)) → Sets k l r (h k)
      → GivesAtOnce (λ _. []) (state es) (state fs) r (write h q (state es))
  written es fs q k l h (Ok x) f g u s =
      accepted h q (state es) k l (found es q (Some k) f) s
      ∙ ap (λ ks. Ok (record { name = name; keys = ks; rolls = rolls }, [])) (sym (by_reference-put es fs q l u))
  written es fs q k l h (Err e) f g u s = (
    ap state (g ∙ ap (set_value (λ k. bytes_eq q (string_bytes k)) es) s.0 ∙ set_value_same (λ k. bytes_eq q (string_bytes k)) es k f),
    refused h q (state es) k (refusal_of e) (found es q (Some k) f) s.1,
  )

  -- no key of this reference
  pub unwritten : (es : List (String A × Key)) (q : Reference) (h : Key → Result Key Refusal) → lookup (λ k. bytes_eq q (string_bytes k)) es ≡ None → write h q (state es) ≡ Err KeyNotFound
  unwritten es q h f = ap (λ o. made o h q (state es)) (found es q None f)
