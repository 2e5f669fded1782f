-- Records of a message, one after another.
use Rattle.std.proofs.Common.{◌≡◌, ℕ, suc, ◌+◌, ◌-◌, ◌<◌, List, [], ◌∷◌, ◌++◌, Some, None, Option, Ok, Err, Result, refl, sym, ap, ◌∙◌, append_assoc, arith}
use Rattle.std.proofs.lemmas.List.{append-nil}
use Rattle.std.specs.Prelude.{OnOk}
use Rattle.std.specs.Result.{IsOk}
use Rattle.messages.specs.declared.error.MessageError.{MessageError}
use Rattle.messages.specs.Message.{Spelled, record_at, records_at, ◌>>=◌}
use Rattle.messages.specs.View.{records_read}
use Rattle.definitions.specs.Limits.{pointer_limit}

-- why reading stops
abbrev pub fault_in : {A : Type 0} → Result A MessageError → Option MessageError
fault_in (Ok x) = None
fault_in (Err e) = Some e

pub ok_of : {A : Type 0} (r : Result A MessageError) → fault_in r ≡ None → IsOk r
ok_of (Ok x) h = refl
ok_of (Err e) h = cc

pub err_of : {A : Type 0} (r : Result A MessageError) (e : MessageError) → fault_in r ≡ Some e → r ≡ Err e
err_of (Ok x) e h = cc
err_of (Err d) e h = let k : d ≡ e = cc in ap Err k

abbrev behind : ℕ → List ℕ → Spelled × ℕ → Result (List Spelled) MessageError
behind n m r = records_at n pointer_limit m r.1 >>= λ rs. Ok (r.0 ∷ rs)

fault_behind : (s : Spelled) (r : Result (List Spelled) MessageError) → fault_in (r >>= λ rs. Ok (s ∷ rs)) ≡ fault_in r
fault_behind s (Ok x) = refl
fault_behind s (Err e) = refl

pub more_records : (n : ℕ) (m : List ℕ) (p : ℕ) (r : Spelled × ℕ) → record_at pointer_limit m p ≡ Ok r → fault_in (records_at (suc n) pointer_limit m p) ≡ fault_in (records_at n pointer_limit m r.1)
more_records n m p r h = ap (λ o. fault_in (o >>= behind n m)) h ∙ fault_behind r.0 (records_at n pointer_limit m r.1)

pub bad_record : (n : ℕ) (m : List ℕ) (p : ℕ) (e : MessageError) → record_at pointer_limit m p ≡ Err e → fault_in (records_at (suc n) pointer_limit m p) ≡ Some e
bad_record n m p e h = ap (λ o. fault_in (o >>= behind n m)) h

-- records in front of those that are read
abbrev pub in_front : List Spelled → Result (List Spelled) MessageError → Result (List Spelled) MessageError
in_front xs (Ok rs) = Ok (xs ++ rs)
in_front xs (Err e) = Err e

front_behind : (s : Spelled) (xs : List Spelled) (r : Result (List Spelled) MessageError) → in_front xs (r >>= λ rs. Ok (s ∷ rs)) ≡ in_front (xs ++ s ∷ []) r
front_behind s xs (Ok rs) = ap Ok (sym (append_assoc xs (s ∷ []) rs))
front_behind s xs (Err e) = refl

-- one more of them
pub front_more : (n : ℕ) (m : List ℕ) (p : ℕ) (r : Spelled × ℕ) (xs : List Spelled) → record_at pointer_limit m p ≡ Ok r
    → in_front xs (records_at (suc n) pointer_limit m p) ≡ in_front (xs ++ r.0 ∷ []) (records_at n pointer_limit m r.1)
front_more n m p r xs h = ap (λ o. in_front xs (o >>= behind n m)) h ∙ front_behind r.0 xs (records_at n pointer_limit m r.1)

-- all of them
pub front_all : (n : ℕ) (m : List ℕ) (p : ℕ) (old new : List Spelled) → Ok (new ++ []) ≡ in_front old (records_at n pointer_limit m p) → new ≡ old ++ records_read n m p
front_all n m p old new h = go (records_at n pointer_limit m p) h
  where
    go : (r : Result (List Spelled) MessageError) → Ok (new ++ []) ≡ in_front old r → new ≡ old ++ (elim r as (λ _. List Spelled) [ Ok rs ↦ rs | Err e ↦ [] ])
    go (Ok rs) e = let k : new ++ [] ≡ old ++ rs = cc in sym (append-nil new) ∙ k
    go (Err f) e = cc

-- one more of them in a list, where all before it are
pub front_listed : {T E : Type 0} (listed result : Result T E) (n : ℕ) (m : List ℕ) (p : ℕ) (r : Spelled × ℕ) (old new : List Spelled) (all : Result (List Spelled) MessageError) → record_at pointer_limit m p ≡ Ok r
    → OnOk listed (in_front old (records_at (suc n) pointer_limit m p) ≡ all) → OnOk result (IsOk listed) → OnOk result (new ≡ old ++ r.0 ∷ []) → OnOk result (in_front new (records_at n pointer_limit m r.1) ≡ all)
front_listed listed (Err e) n m p r old new all h so_far before more = tt
front_listed (Err f) (Ok x) n m p r old new all h so_far before more = cc
front_listed (Ok y) (Ok x) n m p r old new all h so_far before more = ap (λ xs. in_front xs (records_at n pointer_limit m r.1)) more ∙ sym (front_more n m p r old h) ∙ so_far

pub one_less : (n i : ℕ) → i < n → n - i ≡ suc (n - (i + 1))
one_less n i h = omega arith
