-- The states that lines give, one line after another.
use Rattle.std.proofs.Common.{◌≡◌, ℕ, Bool, true, false, cond, List, [], ◌∷◌, ◌++◌, refl, sym, ap, subst, ◌∙◌}
use Rattle.std.specs.Prelude.{Option, Some, None}
use Rattle.messages.specs.HandedRr.{HandedRr}
use Rattle.session_grammar.specs.Grammar.{◌>>=◌, ZoneLine}
use Rattle.server_zone.specs.Lines.{has_feed, unfinished, whole_lines}
use Rattle.answer_terms.specs.Hashing.{Hasher}
use Rattle.answer_zone_records.specs.AliasFaults.{IsAcceptedWithAliases}
use Rattle.server_zone.specs.declared.refusals.Refusal.{Refusal}
use Rattle.server_zone.specs.declared.refusals.Refusal.TheVariants as refusal
use Rattle.server_zone.specs.StateLines.{StateLine, Nothing, Added, Replaced, Called, Other, is_event, state_line}
use Rattle.server_zone.specs.States.{Digest, Follows, RefusesTo, State, after, applied_line, made}
use Rattle.server_zone.specs.Journals.{Phase, Empty, Beginning, Running, IsEndFit, IsFit, IsLineFit, IsOwnFit, Leads, RefusesOwn, ended, own_line, ran, state_behind, with_line, with_lines}
use Rattle.server_zone.specs.JournalLaws.{AcceptedLinesExtend, CutsKeepState, JournalsGiveStates}
use Rattle.server_zone.proofs.LineLemmas.{cut_lines, line_behind}
use Rattle.server_zone.proofs.StateLemmas.{follows_fit, of_line, read_line}

-- ---- options

pub bind_ok : {A B : Type 0} (o : Option A) (f : A → Option B) (y : B) → (o >>= f) ≡ Some y → (x : A) × (o ≡ Some x) × (f x ≡ Some y)
bind_ok (Some x) f y h = (x, refl, h)
bind_ok None f y h = absurd (cc)

pub bind_some : {A B : Type 0} (o : Option A) (f : A → Option B) (x : A) → o ≡ Some x → (o >>= f) ≡ f x
bind_some o f x e = ap (λ p. p >>= f) e

bind_again : {A B C : Type 0} (o : Option A) (f : A → Option B) (g : B → Option C) → ((o >>= f) >>= g) ≡ (o >>= λ x. f x >>= g)
bind_again (Some x) f g = refl
bind_again None f g = refl

bind_same : {A : Type 0} (o : Option A) → (o >>= λ x. Some x) ≡ o
bind_same (Some x) = refl
bind_same None = refl

some_injective : {A : Type 0} (x y : A) → Some x ≡ Some y → x ≡ y
some_injective x y e = cc

-- ---- lines

pub with_lines_append : (digest : Digest) (p : Phase) (ls ms : List (List ℕ)) → with_lines digest p (ls ++ ms) ≡ (with_lines digest p ls >>= λ q. with_lines digest q ms)
with_lines_append digest p [] ms = refl
with_lines_append digest p (l ∷ ls) ms =
    (λ i. with_line digest p l >>= λ q. with_lines_append digest q ls ms i)
    ∙ sym (bind_again (with_line digest p l) (λ q. with_lines digest q ls) (λ q. with_lines digest q ms))

-- a line more
pub with_line_behind : (digest : Digest) (p q : Phase) (ls : List (List ℕ)) (l : List ℕ) → with_lines digest p ls ≡ Some q → with_lines digest p (ls ++ l ∷ []) ≡ with_line digest q l
with_line_behind digest p q ls l e =
    with_lines_append digest p ls (l ∷ []) ∙ bind_some (with_lines digest p ls) (λ q. with_lines digest q (l ∷ [])) q e ∙ bind_same (with_line digest q l)

-- a whole line more of a text
pub with_whole_line : (digest : Digest) (q r : Phase) (front line : List ℕ) → unfinished front ≡ [] → has_feed line ≡ false → with_lines digest Empty (whole_lines front) ≡ Some q → with_line digest q line ≡ Some r
    → with_lines digest Empty (whole_lines (front ++ line ++ 10 ∷ [])) ≡ Some r
with_whole_line digest q r front line h n e w =
    ap (with_lines digest Empty) (line_behind front line h n) ∙ with_line_behind digest Empty q (whole_lines front) line e ∙ w

-- ---- lines that are accepted

pub leads_with : (digest : Digest) (hash : Hasher) (p q : Phase) (ls : List (List ℕ)) → Leads digest hash p ls q → with_lines digest p ls ≡ Some q
leads_with digest hash p q [] e = ap Some (sym e)
leads_with digest hash p q (l ∷ ls) h = bind_some (with_line digest p l) (λ r. with_lines digest r ls) h.0 h.1 ∙ leads_with digest hash h.0 q ls h.3

-- a line more
pub leads_behind : (digest : Digest) (hash : Hasher) (p q r : Phase) (ls : List (List ℕ)) (l : List ℕ) → Leads digest hash p ls q → with_line digest q l ≡ Some r → IsLineFit hash q l → Leads digest hash p (ls ++ l ∷ []) r
leads_behind digest hash p q r [] l e w fit = (r, subst (λ (u : Phase). with_line digest u l ≡ Some r) e w, subst (λ (u : Phase). IsLineFit hash u l) e fit, refl)
leads_behind digest hash p q r (k ∷ ks) l h w fit = (h.0, h.1, h.2, leads_behind digest hash h.0 q r ks l h.3 w fit)

-- behind the first of them
pub leads_from : (digest : Digest) (hash : Hasher) (p q r : Phase) (ls ms : List (List ℕ)) → Leads digest hash p (ls ++ ms) q → with_lines digest p ls ≡ Some r → Leads digest hash r ms q
leads_from digest hash p q r [] ms h e = subst (λ (u : Phase). Leads digest hash u ms q) (some_injective p r e) h
leads_from digest hash p q r (l ∷ ls) ms h e = leads_from digest hash h.0 q r ls ms h.3 (sym (bind_some (with_line digest p l) (λ u. with_lines digest u ls) h.0 h.1) ∙ e)

-- a whole line more of a text
pub leads_whole_line : (digest : Digest) (hash : Hasher) (q r : Phase) (front line : List ℕ) → unfinished front ≡ [] → has_feed line ≡ false → Leads digest hash Empty (whole_lines front) q → with_line digest q line ≡ Some r → IsLineFit hash q line
    → Leads digest hash Empty (whole_lines (front ++ line ++ 10 ∷ [])) r
leads_whole_line digest hash q r front line h n e w fit =
    subst (λ (ls : List (List ℕ)). Leads digest hash Empty ls r) (sym (line_behind front line h n)) (leads_behind digest hash Empty q r (whole_lines front) line e w fit)

-- ---- an accepted line extends a journal

feedless : (b : Bool) (o : Option State) (t : State) → cond b None o ≡ Some t → (b ≡ false) × (o ≡ Some t)
feedless true o t e = absurd (cc)
feedless false o t e = (refl, e)

-- what an accepted line is
pub accepted_line : (digest : Digest) (s t : State) (line : List ℕ) → applied_line digest s line ≡ Some t → (has_feed line ≡ false) × (l : StateLine) × (state_line line ≡ Some l) × (after digest l s ≡ Some t)
accepted_line digest s t line e =
    let f = feedless (has_feed line) (state_line line >>= λ l. after digest l s) t e in
    let b = bind_ok (state_line line) (λ l. after digest l s) t f.1 in
    (f.0, b.0, b.1, b.2)

own_ended : (digest : Digest) (z : ZoneLine) (rs : List HandedRr) (l : StateLine) (t : State) → after digest l (made z rs) ≡ Some t → (p : Phase) × (own_line digest z rs l ≡ Some p) × (ended p ≡ Some t)
own_ended digest z rs Nothing t e = (Beginning z rs, refl, e)
own_ended digest z rs (Added r) t e = absurd (cc)
own_ended digest z rs (Replaced at) t e = (Running t, ap ran e, refl)
own_ended digest z rs (Called at c) t e = (Running t, ap ran e, refl)
own_ended digest z rs Other t e = absurd (cc)

goes_on : (digest : Digest) (p : Phase) (s t : State) (line : List ℕ) → ended p ≡ Some s → applied_line digest s line ≡ Some t → (q : Phase) × (with_line digest p line ≡ Some q) × (ended q ≡ Some t)
goes_on digest Empty s t line e a = absurd (cc)
goes_on digest (Beginning z rs) s t line e a =
    let is : made z rs ≡ s = some_injective (made z rs) s e in
    let l = accepted_line digest s t line a in
    let o = own_ended digest z rs l.1 t (ap (after digest l.1) is ∙ l.3) in
    (o.0, bind_some (state_line line) (own_line digest z rs) l.1 l.2 ∙ o.1, o.2)
goes_on digest (Running r) s t line e a =
    let is : r ≡ s = some_injective r s e in
    (Running t, ap ran (ap (λ u. applied_line digest u line) is ∙ a), refl)

-- it is fit for what it is applied to
pub own_line_fit : (hash : Hasher) (z : ZoneLine) (rs : List HandedRr) (l : StateLine) → IsAcceptedWithAliases hash z.apex z.mode z.limit rs → IsFit hash (made z rs) l → IsOwnFit hash z rs l
own_line_fit hash z rs Nothing accepted fit = tt
own_line_fit hash z rs (Added r) accepted fit = tt
own_line_fit hash z rs l accepted fit = (accepted, fit)

line_fit : (hash : Hasher) (p : Phase) (s : State) (line : List ℕ) (l : StateLine) → ended p ≡ Some s → IsEndFit hash p → state_line line ≡ Some l → IsFit hash s l → IsLineFit hash p line
line_fit hash Empty s line l e end read fit = absurd end
line_fit hash (Beginning z rs) s line l e end read fit =
    let is : s ≡ made z rs = sym (some_injective (made z rs) s e) in
    of_line (IsOwnFit hash z rs) (state_line line) l read (own_line_fit hash z rs l end (subst (λ (u : State). IsFit hash u l) is fit))
line_fit hash (Running r) s line l e end read fit =
    let is : s ≡ r = sym (some_injective r s e) in
    of_line (IsFit hash r) (state_line line) l read (subst (λ (u : State). IsFit hash u l) is fit)

-- and so is the end behind it
ran_fit : (hash : Hasher) (o : Option State) (q : Phase) → ran o ≡ Some q → IsEndFit hash q
ran_fit hash (Some s) q e = let is : Running s ≡ q = cc in subst (IsEndFit hash) is tt
ran_fit hash None q e = absurd (cc)

own_end_fit : (digest : Digest) (hash : Hasher) (z : ZoneLine) (rs : List HandedRr) (l : StateLine) (t : State) (q : Phase) → IsAcceptedWithAliases hash z.apex z.mode z.limit rs → after digest l (made z rs) ≡ Some t → own_line digest z rs l ≡ Some q → IsEndFit hash q
own_end_fit digest hash z rs Nothing t q accepted a e = let is : Beginning z rs ≡ q = cc in subst (IsEndFit hash) is accepted
own_end_fit digest hash z rs (Added r) t q accepted a e = absurd (cc)
own_end_fit digest hash z rs (Replaced at) t q accepted a e = ran_fit hash (after digest (Replaced at) (made z rs)) q e
own_end_fit digest hash z rs (Called at c) t q accepted a e = ran_fit hash (after digest (Called at c) (made z rs)) q e
own_end_fit digest hash z rs Other t q accepted a e = absurd (cc)

end_fit : (digest : Digest) (hash : Hasher) (p q : Phase) (s t : State) (line : List ℕ) → ended p ≡ Some s → IsEndFit hash p → applied_line digest s line ≡ Some t → with_line digest p line ≡ Some q → IsEndFit hash q
end_fit digest hash Empty q s t line e end a w = absurd end
end_fit digest hash (Beginning z rs) q s t line e end a w =
    let is : made z rs ≡ s = some_injective (made z rs) s e in
    let l = accepted_line digest s t line a in
    own_end_fit digest hash z rs l.1 t q end (ap (after digest l.1) is ∙ l.3) (sym (bind_some (state_line line) (own_line digest z rs) l.1 l.2) ∙ w)
end_fit digest hash (Running r) q s t line e end a w = ran_fit hash (applied_line digest r line) q w

pub accepted_lines_extend : AcceptedLinesExtend
accepted_lines_extend digest hash latest text line s t a h j follows applied =
    let l = accepted_line digest s t line applied in
    let fit : IsFit hash s l.1 = follows_fit digest hash latest s t l.1 a (read_line (λ k. Follows digest hash latest s k a t) (state_line line) l.1 l.2 follows) in
    let q = goes_on digest j.phase s t line j.ends applied in
    record {
      phase = q.0;
      leads = leads_whole_line digest hash j.phase q.0 text line h l.0 j.leads q.1 (line_fit hash j.phase s line l.1 j.ends j.fit l.2 fit);
      ends = q.2;
      fit = end_fit digest hash j.phase q.0 s t line j.ends j.fit applied q.1;
    }

pub journals_give_states : JournalsGiveStates
journals_give_states digest hash text s j = bind_some (with_lines digest Empty (whole_lines text)) ended j.phase (leads_with digest hash Empty j.phase (whole_lines text) j.leads) ∙ j.ends

pub cuts_keep_state : CutsKeepState
cuts_keep_state digest text at = let cut = cut_lines text at in (cut.0, ap (state_behind digest) cut.1)

-- ---- the first event, and lines behind it

pub own_event : (digest : Digest) (z : ZoneLine) (rs : List HandedRr) (l : StateLine) (t : State) → is_event l ≡ true → after digest l (made z rs) ≡ Some t → own_line digest z rs l ≡ Some (Running t)
own_event digest z rs Nothing t e h = absurd (cc)
own_event digest z rs (Added r) t e h = absurd (cc)
own_event digest z rs (Replaced at) t e h = ap ran h
own_event digest z rs (Called at c) t e h = ap ran h
own_event digest z rs Other t e h = ap ran h

-- the first event is refused as by the zone of its own records
pub own_refused : (digest : Digest) (hash : Hasher) (z : ZoneLine) (rs : List HandedRr) (l : StateLine) (f : Refusal) → is_event l ≡ true → RefusesTo digest hash None (made z rs) l f → RefusesOwn digest hash z rs l f
own_refused digest hash z rs Nothing f e h = absurd (cc)
own_refused digest hash z rs (Added r) f e h = absurd (cc)
own_refused digest hash z rs (Replaced at) (refusal.Zone f) e h = absurd h
own_refused digest hash z rs (Replaced at) f e h = h
own_refused digest hash z rs (Called at c) (refusal.Zone f) e h = absurd h
own_refused digest hash z rs (Called at c) f e h = h
own_refused digest hash z rs Other (refusal.Zone f) e h = absurd h
own_refused digest hash z rs Other f e h = h

pub own_read : (digest : Digest) (z : ZoneLine) (rs : List HandedRr) (line : List ℕ) (l : StateLine) (p : Phase) → state_line line ≡ Some l → own_line digest z rs l ≡ Some p → (state_line line >>= λ k. own_line digest z rs k) ≡ Some p
own_read digest z rs line l p e h = bind_some (state_line line) (own_line digest z rs) l e ∙ h
