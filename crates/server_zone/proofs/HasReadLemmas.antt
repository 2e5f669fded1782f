-- The loop that opens a journal.
use Rattle.std.proofs.Common.{◌≡◌, ℕ, zero, suc, ◌+◌, ◌<◌, ◌≤◌, ◌-◌, Bool, true, false, ◌||◌, cond, List, [], ◌∷◌, ◌++◌, length, take, refl, sym, ap, subst, ⊎_elim, ◌∙◌, arith, append_assoc, append-nil, length-append, Option, Some, None}
use Rattle.std.specs.Prelude.{◌==◌}
use Rattle.std.proofs.Math.Seq.{take-append-add, take-append_seam}
use Rattle.std.proofs.lemmas.Bool.{cases_lt, eqb-true, false≢true, or_parts}
use Rattle.std.proofs.lemmas.List.{length-take-le, take-append-le}
use Rattle.messages.specs.HandedRr.{HandedRr}
use Rattle.answer_terms.specs.Hashing.{Hasher}
use Rattle.session_grammar.specs.Grammar.{◌>>=◌, ZoneLine, zone_line}
use Rattle.session_grammar.specs.Lines.{is_passed_over}
use Rattle.session_grammar.specs.Sessions.{fields_of}
use Rattle.std.specs.Str.{is_utf8}
use Rattle.server_zone.specs.Lines.{has_feed, unfinished, whole_lines}
use Rattle.server_zone.specs.States.{Digest, State, made}
use Rattle.server_zone.specs.Journals.{HasRead, IsEndFit, IsJournalOf, IsLineFit, IsOpenError, IsOpening, IsSettledAt, Leads, NoneSettledBehind, Phase, Empty, Beginning, Running, RefusesBehind, RefusesEnd, RefusesLines, ended, first_line, is_settled, is_there, journal_state, phase_view, with_line, with_lines}
use Rattle.server_zone.specs.declared.opening.Phase.{Phase as CodePhase}
use Rattle.server_zone.specs.declared.refusals.Refusal.{Refusal}
use Rattle.server_zone.proofs.LineLemmas.{all_unfinished, ends_behind, line_behind, line_in_front, no_lines, unfinished_append, whole_append}
use Rattle.server_zone.proofs.JournalLemmas.{bind_ok, bind_some, leads_whole_line, leads_with}

-- ---- a line behind which records are gathered stands behind that of the zone

first_settled : (line : List ℕ) (q : Phase) → first_line line ≡ Some q → is_settled q ≡ true
first_settled line q e = passed (is_passed_over line) (is_utf8 line) e where
  begun : (z : Option ZoneLine) → (z >>= λ w. Some (Beginning w [])) ≡ Some q → is_settled q ≡ true
  begun (Some w) h = let is : Beginning w [] ≡ q = cc in ap is_settled (sym is)
  begun None h = absurd (cc)

  passed : (b u : Bool) → cond b (Some Empty) (cond u (zone_line (fields_of line) >>= λ w. Some (Beginning w [])) None) ≡ Some q → is_settled q ≡ true
  passed true u h = let is : Empty ≡ q = cc in ap is_settled (sym is)
  passed false true h = begun (zone_line (fields_of line)) h
  passed false false h = absurd (cc)

pub gathers_behind : (digest : Digest) (p q : Phase) (line : List ℕ) → with_line digest p line ≡ Some q → is_settled q ≡ false → is_there p ≡ true
gathers_behind digest Empty q line e n = let s = first_settled line q e in absurd (cc)
gathers_behind digest (Beginning z rs) q line e n = refl
gathers_behind digest (Running s) q line e n = refl

-- ---- a line more

regroup : (front line behind : List ℕ) → front ++ (line ++ 10 ∷ behind) ≡ (front ++ line ++ 10 ∷ []) ++ behind
regroup front line behind = sym (append_assoc (front ++ line) (10 ∷ []) behind ∙ append_assoc front line (10 ∷ behind))

cut_front : (journal front behind : List ℕ) (n : ℕ) → journal ≡ front ++ behind → n + length behind ≡ length journal → take n journal ≡ front
cut_front journal front behind n e h =
    let size : n ≡ length front = omega (arith, ap length e, length-append front behind) in
    (λ i. take (size i) (e i)) ∙ take-append_seam front behind

-- octets of a line do not end in a line feed
feedless_front : (n : ℕ) (line : List ℕ) → has_feed line ≡ false → has_feed (take n line) ≡ false
feedless_front zero line h = refl
feedless_front (suc n) [] h = refl
feedless_front (suc n) (c ∷ cs) h =
    let both = or_parts (c == 10) (has_feed cs) h in
    λ i. both.0 i || feedless_front n cs both.1 i

ends_inside : (front line behind : List ℕ) (n : ℕ) → unfinished front ≡ [] → has_feed line ≡ false → 0 < n → n ≤ length line → unfinished (take (length front + n) (front ++ (line ++ 10 ∷ behind))) ≡ [] → ⊥
ends_inside front line behind n whole feedless some inside ends =
    let cut : take (length front + n) (front ++ (line ++ 10 ∷ behind)) ≡ front ++ take n line =
    take-append-add front (line ++ 10 ∷ behind) n ∙ ap (λ xs. front ++ xs) (take-append-le n line (10 ∷ behind) inside) in
    let left : unfinished (front ++ take n line) ≡ take n line = unfinished_append front (take n line) whole ∙ all_unfinished (take n line) (feedless_front n line feedless) in
    let none : take n line ≡ [] = sym (ap unfinished cut ∙ left) ∙ ends in
    absurd (omega (arith, some, ap length none, length-take-le n line inside))

module _ {S H : Type 0} (digest : Digest) (hash : Hasher) (scheme : S) (hasher : H) (journal rest line behind : List ℕ) (phase q : CodePhase S H) (number settled : ℕ)
    (p : HasRead digest hash scheme hasher journal rest phase number settled) (cut : rest ≡ line ++ 10 ∷ behind) (feedless : has_feed line ≡ false)
    (goes : with_line digest (phase_view phase) line ≡ Some (phase_view q)) (fit : IsLineFit hash (phase_view phase) line) (kept : IsOpening hash scheme hasher q) where
  next_front : List ℕ
  next_front = p.front ++ line ++ 10 ∷ []

  next_text : journal ≡ next_front ++ behind
  unfolding next_front
  next_text = p.text_is ∙ ap (λ xs. p.front ++ xs) cut ∙ regroup p.front line behind

  next_accepted : Leads digest hash Empty (whole_lines next_front) (phase_view q)
  unfolding next_front
  next_accepted = leads_whole_line digest hash (phase_view phase) (phase_view q) p.front line p.whole feedless p.accepted goes fit

  next_with : with_lines digest Empty (whole_lines next_front) ≡ Some (phase_view q)
  next_with = leads_with digest hash Empty (phase_view q) (whole_lines next_front) next_accepted

  next_number : number + 1 ≡ length (whole_lines next_front)
  unfolding next_front
  next_number = omega (arith, p.number_is, ap length (line_behind p.front line p.whole feedless), length-append (whole_lines p.front) (line ∷ []))

  shorter : length rest ≡ length line + 1 + length behind
  shorter = omega (arith, ap length cut, length-append line (10 ∷ behind))

  pub progress_settled : (n : ℕ) → n + length behind ≡ length journal → is_settled (phase_view q) ≡ true → HasRead digest hash scheme hasher journal behind q (number + 1) n
  unfolding next_front
  progress_settled n h s = record {
    front = next_front;
    text_is = next_text;
    whole = ends_behind p.front line p.whole;
    accepted = next_accepted;
    kept = kept;
    number_is = next_number;
    counted = omega (arith, p.counted, shorter);
    settled_in = omega (arith, h);
    last = phase_view q;
    last_accepted = ap (λ xs. with_lines digest Empty (whole_lines xs)) (cut_front journal next_front behind n next_text h) ∙ next_with;
    last_settled = s;
    last_there = λ t. t;
    all_settled = λ _. h;
    none_behind = λ m later inside ends r e. absurd (omega (arith, h, later, inside));
  }

  -- no line ends in front of the line feed of the line that was read, and behind that records are gathered
  none_ends : is_settled (phase_view q) ≡ false → (n : ℕ) → settled < n → n + length behind ≤ length journal → unfinished (take n journal) ≡ [] → (r : Phase) → with_lines digest Empty (whole_lines (take n journal)) ≡ Some r → is_settled r ≡ false
  none_ends s n later inside ends r e = ⊎_elim at_end (λ short. ⊎_elim (in_line short) before (cases_lt (length p.front) n)) (cases_lt (length p.front + length line) n)
    where
      size : length journal ≡ length p.front + (length line + 1 + length behind)
      size = omega (arith, ap length p.text_is, length-append p.front rest, shorter)

      at_end : length p.front + length line < n → is_settled r ≡ false
      at_end past =
          let whole : n + length behind ≡ length journal = omega (arith, past, inside, size) in
          let is : Some (phase_view q) ≡ Some r = sym (ap (λ xs. with_lines digest Empty (whole_lines xs)) (cut_front journal next_front behind n next_text whole) ∙ next_with) ∙ e in
          let same : phase_view q ≡ r = cc in
          sym (ap is_settled same) ∙ s

      in_line : n ≤ length p.front + length line → length p.front < n → is_settled r ≡ false
      in_line short past =
          let m = n - length p.front in
          let is : n ≡ length p.front + m = omega (arith, past) in
          let text : journal ≡ p.front ++ (line ++ 10 ∷ behind) = p.text_is ∙ ap (λ xs. p.front ++ xs) cut in
          let there : unfinished (take (length p.front + m) (p.front ++ (line ++ 10 ∷ behind))) ≡ [] = sym (λ i. unfinished (take (is i) (text i))) ∙ ends in
          absurd (ends_inside p.front line behind m p.whole feedless (omega (arith, past)) (omega (arith, short, past)) there)

      before : n ≤ length p.front → is_settled r ≡ false
      before early = p.none_behind n later (omega (arith, early, ap length p.text_is, length-append p.front rest)) ends r e

  pub progress_gathering : is_settled (phase_view q) ≡ false → HasRead digest hash scheme hasher journal behind q (number + 1) settled
  unfolding next_front
  progress_gathering s = record {
    front = next_front;
    text_is = next_text;
    whole = ends_behind p.front line p.whole;
    accepted = next_accepted;
    kept = kept;
    number_is = next_number;
    counted = omega (arith, p.counted, shorter);
    settled_in = omega (arith, p.settled_in, shorter);
    last = p.last;
    last_accepted = p.last_accepted;
    last_settled = p.last_settled;
    last_there = λ _. p.last_there (gathers_behind digest (phase_view phase) (phase_view q) line goes s);
    all_settled = λ t. absurd (cc);
    none_behind = none_ends s;
  }

-- a line that is refused
pub open_refused : {S H : Type 0} (digest : Digest) (hash : Hasher) (scheme : S) (hasher : H) (journal rest line behind : List ℕ) (phase : CodePhase S H) (number settled : ℕ) (reason : Refusal)
    → HasRead digest hash scheme hasher journal rest phase number settled → rest ≡ line ++ 10 ∷ behind → has_feed line ≡ false → RefusesBehind digest hash (phase_view phase) line reason
    → IsOpenError digest hash journal (record { number = number + 1; reason = reason })
open_refused digest hash scheme hasher journal rest line behind phase number settled reason p cut feedless refused = record {
  front = p.front;
  rest = rest;
  phase = phase_view phase;
  text_is = p.text_is;
  whole = p.whole;
  accepted = leads_with digest hash Empty (phase_view phase) (whole_lines p.front) p.accepted;
  number = ap (λ n. n + 1) p.number_is;
  refused = subst (RefusesLines digest hash (phase_view phase) reason) (sym (ap whole_lines cut ∙ line_in_front line behind feedless)) refused;
}

-- no zone at the end
pub end_refused : {S H : Type 0} (digest : Digest) (hash : Hasher) (scheme : S) (hasher : H) (journal rest : List ℕ) (phase : CodePhase S H) (number settled : ℕ) (reason : Refusal)
    → HasRead digest hash scheme hasher journal rest phase number settled → has_feed rest ≡ false → RefusesEnd hash (phase_view phase) reason
    → IsOpenError digest hash journal (record { number = number + 1; reason = reason })
end_refused digest hash scheme hasher journal rest phase number settled reason p feedless refused = record {
  front = p.front;
  rest = rest;
  phase = phase_view phase;
  text_is = p.text_is;
  whole = p.whole;
  accepted = leads_with digest hash Empty (phase_view phase) (whole_lines p.front) p.accepted;
  number = ap (λ n. n + 1) p.number_is;
  refused = subst (RefusesLines digest hash (phase_view phase) reason) (sym (no_lines rest feedless)) refused;
}

-- ---- the end of the lines

module _ {S H : Type 0} (digest : Digest) (hash : Hasher) (scheme : S) (hasher : H) (journal rest : List ℕ) (phase : CodePhase S H) (number settled : ℕ)
    (p : HasRead digest hash scheme hasher journal rest phase number settled) (feedless : has_feed rest ≡ false) where
  end_lines : whole_lines journal ≡ whole_lines p.front
  end_lines =
      ap whole_lines p.text_is ∙ whole_append p.front rest p.whole ∙ ap (λ ls. whole_lines p.front ++ ls) (no_lines rest feedless) ∙ append-nil (whole_lines p.front)

  pub end_state : (s : State) → ended (phase_view phase) ≡ Some s → journal_state digest journal ≡ Some s
  end_state s e =
      let lines = leads_with digest hash Empty (phase_view phase) (whole_lines p.front) p.accepted in
      bind_some (with_lines digest Empty (whole_lines journal)) ended (phase_view phase) (ap (with_lines digest Empty) end_lines ∙ lines) ∙ e

  pub end_journal : (s : State) → ended (phase_view phase) ≡ Some s → IsEndFit hash (phase_view phase) → IsJournalOf digest hash journal s
  end_journal s e fit = record {
    phase = phase_view phase;
    leads = subst (λ (ls : List (List ℕ)). Leads digest hash Empty ls (phase_view phase)) (sym end_lines) p.accepted;
    ends = e;
    fit = fit;
  }

  pub end_whole : (n : ℕ) → n + length rest ≡ length journal → journal ≡ take n journal ++ unfinished journal
  end_whole n h =
      let is : unfinished journal ≡ rest = ap unfinished p.text_is ∙ unfinished_append p.front rest p.whole ∙ all_unfinished rest feedless in
      p.text_is ∙ sym (λ i. cut_front journal p.front rest n p.text_is h i ++ is i)

  settled_end : (q : Phase) → with_lines digest Empty (whole_lines (take settled journal)) ≡ Some q → is_settled q ≡ true → is_there q ≡ true → IsSettledAt digest journal settled
  settled_end Empty e s t = absurd (false≢true t)
  settled_end (Beginning z rs) e s t = (made z rs, bind_some (with_lines digest Empty (whole_lines (take settled journal))) ended (Beginning z rs) e, refl)
  settled_end (Running r) e s t = (r, bind_some (with_lines digest Empty (whole_lines (take settled journal))) ended (Running r) e, none r.gathered s) where
    none : (rs : List HandedRr) → (length rs == 0) ≡ true → rs ≡ []
    none [] h = refl
    none (x ∷ xs) h = let zero_is : length (x ∷ xs) ≡ 0 = eqb-true (length (x ∷ xs)) 0 h in absurd (omega arith)

  pub end_settled : is_there (phase_view phase) ≡ true → IsSettledAt digest journal settled
  end_settled t = settled_end p.last p.last_accepted p.last_settled (p.last_there t)

-- ---- a phase that ends in a state

pub there_ended : (p : Phase) (s : State) → ended p ≡ Some s → is_there p ≡ true
there_ended Empty s e = absurd (none_some e) where
  none_some : None ≡ Some s → ⊥
  none_some k = cc
there_ended (Beginning z rs) s e = refl
there_ended (Running r) s e = refl

pub settled_ended : (p : Phase) (s : State) → ended p ≡ Some s → (length s.gathered == 0) ≡ true → is_settled p ≡ true
settled_ended Empty s e h = refl
settled_ended (Beginning z rs) s e h = refl
settled_ended (Running r) s e h = let is : r ≡ s = cc in ap (λ (u : State). length u.gathered == 0) is ∙ h

-- behind the last line where no records were gathered none ends where this is so
pub end_last : {S H : Type 0} (digest : Digest) (hash : Hasher) (scheme : S) (hasher : H) (journal rest : List ℕ) (phase : CodePhase S H) (number settled whole : ℕ)
    → HasRead digest hash scheme hasher journal rest phase number settled → whole + length rest ≡ length journal → NoneSettledBehind digest journal settled whole
end_last digest hash scheme hasher journal rest phase number settled whole p size n later inside ends at =
    let lines = with_lines digest Empty (whole_lines (take n journal)) in
    let b = bind_ok lines ended at.0 at.1 in
    let none = p.none_behind n later (omega (arith, size, inside)) ends b.0 b.1 in
    let some = settled_ended b.0 at.0 b.2 (ap (λ (rs : List HandedRr). length rs == 0) at.2) in
    false≢true (sym none ∙ some)
