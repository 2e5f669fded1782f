-- Fields that no line has.
use Rattle.std.proofs.Common.{◌≡◌, ℕ, ◌-◌, ◌<◌, Bool, true, false, List, [], ◌∷◌, length, ◌++◌, take, get_or, Option, Some, None, refl, sym, ap, subst, ◌∙◌, length-append, arith}
use Rattle.std.specs.Prelude.{slice_get, codes, cond, ◌==◌, ◌*◌, Result, Ok, Err, if◌then◌else◌}
use Rattle.std.specs.List.{list_all, slice_split}
use Rattle.std.specs.Result.{IsErr, IsErrAnd}
use Rattle.std.proofs.lemmas.List.Folds.{list_all_at}
use Rattle.std.proofs.Math.Seq.{take-append_seam}
use Rattle.std.specs.Bool.{Decides}
use Rattle.std.specs.Str.{bytes_eq}
use Rattle.std.proofs.lemmas.Slice.Eq.{bytes_eq-Decides}
use Rattle.session_grammar.specs.declared.line_error.LineError.{LineError}
use Rattle.session_grammar.specs.declared.line_error.LineError.TheVariants.{Unreadable, Memory}
use Rattle.session_grammar.specs.declared.line_error.LineFault.{LineFault}
use Rattle.session_grammar.specs.Fields.{is_nothing, is_reference}
use Rattle.session_grammar.specs.Grammar.{◌>>=◌, ActLine, EventLine, act_line, act_line3, event_line, zone_line, record_line, reference_field, references_field}
use Rattle.session_grammar.specs.Numbers.{number_field}
use Rattle.answer_events.specs.declared.event.Event.{Event}
use Rattle.session_grammar.specs.Readings.{Reads, act_view, event_view}

ne_of : (b : Bool) (xs ys : List ℕ) → Decides b (xs ≡ ys) → (xs ≡ ys → ⊥) → b ≡ false
ne_of true xs ys d h = absurd (h (d.0 refl))
ne_of false xs ys d h = refl

-- other octets
pub ne_bytes : (xs ys : List ℕ) → (xs ≡ ys → ⊥) → bytes_eq xs ys ≡ false
ne_bytes xs ys h = ne_of (bytes_eq xs ys) xs ys (bytes_eq-Decides xs ys) h

pub no_word3 : (w a b : List ℕ) → (w ≡ codes "ask" → ⊥) → (w ≡ codes "report1" → ⊥) → (w ≡ codes "report2" → ⊥) → act_line3 w a b ≡ None
no_word3 w a b x y z = rw (ne_bytes w (codes "ask") x, ne_bytes w (codes "report1") y, ne_bytes w (codes "report2") z) refl

pub no_fields : (fs : List (List ℕ)) → length fs < 1 → act_line fs ≡ None
no_fields [] h = refl
no_fields (f ∷ fs) h = absurd (omega arith)

pub many_fields : (fs : List (List ℕ)) → 6 < length fs → act_line fs ≡ None
many_fields [] h = refl
many_fields (a ∷ []) h = absurd (omega arith)
many_fields (a ∷ b ∷ []) h = absurd (omega arith)
many_fields (a ∷ b ∷ c ∷ []) h = absurd (omega arith)
many_fields (a ∷ b ∷ c ∷ d ∷ []) h = absurd (omega arith)
many_fields (a ∷ b ∷ c ∷ d ∷ e ∷ []) h = absurd (omega arith)
many_fields (a ∷ b ∷ c ∷ d ∷ e ∷ f ∷ []) h = absurd (omega arith)
many_fields (a ∷ b ∷ c ∷ d ∷ e ∷ f ∷ g ∷ fs) h = refl

pub not_five_or_seven : (fs : List (List ℕ)) → (length fs ≡ 5 → ⊥) → (length fs ≡ 7 → ⊥) → zone_line fs ≡ None
not_five_or_seven [] h k = refl
not_five_or_seven (a ∷ []) h k = refl
not_five_or_seven (a ∷ b ∷ []) h k = refl
not_five_or_seven (a ∷ b ∷ c ∷ []) h k = refl
not_five_or_seven (a ∷ b ∷ c ∷ d ∷ []) h k = refl
not_five_or_seven (a ∷ b ∷ c ∷ d ∷ e ∷ []) h k = absurd (h refl)
not_five_or_seven (a ∷ b ∷ c ∷ d ∷ e ∷ f ∷ []) h k = refl
not_five_or_seven (a ∷ b ∷ c ∷ d ∷ e ∷ f ∷ g ∷ []) h k = absurd (k refl)
not_five_or_seven (a ∷ b ∷ c ∷ d ∷ e ∷ f ∷ g ∷ i ∷ fs) h k = refl

pub not_six : (fs : List (List ℕ)) → (length fs ≡ 6 → ⊥) → record_line fs ≡ None
not_six [] h = refl
not_six (a ∷ []) h = refl
not_six (a ∷ b ∷ []) h = refl
not_six (a ∷ b ∷ c ∷ []) h = refl
not_six (a ∷ b ∷ c ∷ d ∷ []) h = refl
not_six (a ∷ b ∷ c ∷ d ∷ e ∷ []) h = refl
not_six (a ∷ b ∷ c ∷ d ∷ e ∷ f ∷ []) h = absurd (h refl)
not_six (a ∷ b ∷ c ∷ d ∷ e ∷ f ∷ g ∷ fs) h = refl

-- ---- references

abbrev each_of : List (List ℕ) → Option (List (List ℕ))
each_of parts = if list_all is_reference parts then Some parts else None

pub split_reads : {X : Type 0} (view : X → List (List ℕ)) (r : Result X LineError) (field : List ℕ) (parts : List (List ℕ)) → is_nothing field ≡ false → parts ≡ slice_split (λ c. c == 44) field → Reads view r (if list_all is_reference parts then Some parts else None) → Reads view r (references_field field)
split_reads view r field parts n e h =
    let P : Option (List (List ℕ)) → Type 0 = λ o. Reads view r o in
    let whole : Option (List (List ℕ)) = each_of (slice_split (λ c. c == 44) field) in
    subst P (ap each_of e ∙ sym (ap (λ b. cond b (Some []) whole) n)) h

-- a refusal that the grammar shares
pub refused : {X Y : Type 0} (view : X → Y) (r : Result X LineError) (e : LineError) (read : Option Y) → IsErr r → IsErrAnd r (λ x. x ≡ e) → ((f : LineFault) → e ≡ Unreadable f → read ≡ None) → Reads view r read
refused view (Ok x) e read h k n = cc
refused view (Err (Unreadable f)) e read h k n = n f (sym k)
refused view (Err Memory) e read h k n = tt

refuted_reference : (b : Bool) (field : List ℕ) → (if b then Some field else None) ≡ None → b ≡ false
refuted_reference true field e = cc
refuted_reference false field e = refl

-- what a field that is no reference is refused for
pub no_reference_field : (field : List ℕ) → reference_field field ≡ None → is_reference field ≡ false
no_reference_field field e = refuted_reference (is_reference field) field e

-- such a field where a reading was refused for what stands there
pub refused_reference : {X : Type 0} (view : X → List ℕ) (e : LineError) (f : LineFault) (field : List ℕ) → Reads view (Err e) (reference_field field) → e ≡ Unreadable f → is_reference field ≡ false
refused_reference view e f field h is =
    let P : LineError → Type 0 = λ x. Reads view (Err x) (reference_field field) in
    no_reference_field field (subst P is h)

pub no_reference : (parts : List (List ℕ)) (i : ℕ) (d : List ℕ) → i < length parts → is_reference (get_or parts i d) ≡ false → each_of parts ≡ None
no_reference parts i d lt h = ap (λ b. cond b (Some parts) None) (list_all_at is_reference parts i d lt h)

-- ---- moments

last_at : (rest : List (List ℕ)) (last : List ℕ) → slice_get (rest ++ last ∷ []) (length rest) ≡ Some last
last_at [] last = refl
last_at (f ∷ rest) last = last_at rest last

pub moment_read : (fields rest : List (List ℕ)) (last : List ℕ) → fields ≡ rest ++ last ∷ [] → event_line fields ≡ (number_field 64 last >>= λ n. act_line rest >>= λ a. Some (record { at = n * 1000000000; act = a }))
moment_read fields rest last e =
    let size : length fields - 1 ≡ length rest = omega (arith, ap length e, length-append rest (last ∷ [])) in
    let there : slice_get fields (length fields - 1) ≡ Some last = (λ i. slice_get (e i) (size i)) ∙ last_at rest last in
    let front : take (length fields - 1) fields ≡ rest = (λ i. take (size i) (e i)) ∙ take-append_seam rest (last ∷ []) in
    (λ i. there i >>= λ l. number_field 64 l >>= λ n. act_line (front i) >>= λ a. Some (record { at = n * 1000000000; act = a }))

pub event_read : (fields rest : List (List ℕ)) (last : List ℕ) (n at : ℕ) (a : ActLine) → fields ≡ rest ++ last ∷ [] → number_field 64 last ≡ Some n → act_line rest ≡ Some a → at ≡ n * 1000000000 → event_line fields ≡ Some (record { at = at; act = a })
event_read fields rest last n at a e number act is =
    let with_act : ℕ → Option ActLine → Option EventLine = λ k o. o >>= λ b. Some (record { at = k * 1000000000; act = b }) in
    moment_read fields rest last e ∙ ap (λ r. r >>= λ k. with_act k (act_line rest)) number ∙ ap (with_act n) act ∙ ap (λ t. Some (record { at = t; act = a })) (sym is)

-- where an act can't be read, the event can't
event_unread : (fields rest : List (List ℕ)) (last : List ℕ) (n : ℕ) → fields ≡ rest ++ last ∷ [] → number_field 64 last ≡ Some n → act_line rest ≡ None → event_line fields ≡ None
event_unread fields rest last n e number act =
    let with_act : ℕ → Option ActLine → Option EventLine = λ k o. o >>= λ b. Some (record { at = k * 1000000000; act = b }) in
    moment_read fields rest last e ∙ ap (λ r. r >>= λ k. with_act k (act_line rest)) number ∙ ap (with_act n) act

refused_so : (e : LineError) (fields rest : List (List ℕ)) (last : List ℕ) (n : ℕ) → fields ≡ rest ++ last ∷ [] → number_field 64 last ≡ Some n → Reads act_view (Err e) (act_line rest) → Reads event_view (Err e) (event_line fields)
refused_so (Unreadable fault) fields rest last n e number act = event_unread fields rest last n e number act
refused_so Memory fields rest last n e number act = tt

pub event_refused : (r : Result Event LineError) (e : LineError) (fields rest : List (List ℕ)) (last : List ℕ) (n : ℕ) → fields ≡ rest ++ last ∷ [] → number_field 64 last ≡ Some n → Reads act_view (Err e) (act_line rest) → r ≡ Err e → Reads event_view r (event_line fields)
event_refused r e fields rest last n cut number act is =
    subst (λ (r : Result Event LineError). Reads event_view r (event_line fields)) (sym is) (refused_so e fields rest last n cut number act)
