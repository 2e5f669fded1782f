-- The questions that a case's messages are judged for besides its own.
use Rattle.std.proofs.Common.{◌≡◌, ℕ, Bool, true, false, ◌&&◌, not, List, [], ◌∷◌, Option, Some, None, refl, subst, ◌⊎◌, inl, inr}
use Rattle.std.specs.Prelude.{◌==◌, cond, if◌then◌else◌}
use Rattle.std.specs.List.{find}
use Rattle.std.specs.Option.{option_map}
use Rattle.std.proofs.lemmas.Bool.{and_parts, not-true}
use Rattle.definitions.specs.Name.{Name, at_or_above, strictly_above}
use Rattle.denial_laws.proofs.NameFacts.{strictly_at}
use Rattle.definitions.proofs.ZoneNames.{above_itself}
use Rattle.messages.specs.Message.{Asked, Spelled}
use Rattle.answer_judge.specs.Judging.{JudgeInput}
use Rattle.answer_findings.specs.declared.hints.Hint.TheVariants as hint
use Rattle.answer_findings.specs.Found.{IsBeside}
use Rattle.answer_findings.specs.Hints.{answer_records, has_cname_hint, hints_at, owner_hint, stands_at}
use Rattle.answer_findings.specs.Judgements.{alias_hint, asking, cut_question}

-- ---- hints

-- a record that is found passes
finds_one : (p : Spelled → Bool) (rs : List Spelled) (o : Name) → option_map (λ (r : Spelled). r.owner) (find p rs) ≡ Some o → (r : Spelled) × (p r ≡ true) × (r.owner ≡ o)
finds_one p [] o h = absurd cc
finds_one p (r ∷ rs) o h = go (p r) refl h (λ k. finds_one p rs o k)
  where
    go : (b : Bool) → p r ≡ b → option_map (λ (r : Spelled). r.owner) (cond b (Some r) (find p rs)) ≡ Some o → (option_map (λ (r : Spelled). r.owner) (find p rs) ≡ Some o → (r : Spelled) × (p r ≡ true) × (r.owner ≡ o)) → (r : Spelled) × (p r ≡ true) × (r.owner ≡ o)
    go true e h rest = let is : r.owner ≡ o = cc in (r, e, is)
    go false e h rest = rest h

-- where a hint's owner stands
dname_above : (k : ℕ) (h : JudgeInput) (o : Name) → owner_hint k h hint.Dname ≡ Some o → (at_or_above h.apex o ≡ true) × (strictly_above o h.asked.name ≡ true)
dname_above k h o e =
    let r = finds_one (hints_at h hint.Dname) (answer_records k h) o e in
    let stands = (and_parts (r.0.class == 1) (stands_at h hint.Dname r.0) r.1).1 in
    let placed = and_parts ((r.0.rtype == 39) && at_or_above h.apex r.0.owner) (strictly_above r.0.owner h.asked.name) stands in
    let inside = and_parts (r.0.rtype == 39) (at_or_above h.apex r.0.owner) placed.0 in
    (subst (λ n. at_or_above h.apex n ≡ true) r.2 inside.1, subst (λ n. strictly_above n h.asked.name ≡ true) r.2 placed.1)

pub cut_above : (k : ℕ) (h : JudgeInput) (o : Name) → owner_hint k h hint.Cut ≡ Some o → (strictly_above h.apex o ≡ true) × (at_or_above o h.asked.name ≡ true)
cut_above k h o e =
    let r = finds_one (hints_at h hint.Cut) (answer_records k h) o e in
    let stands = (and_parts (r.0.class == 1) (stands_at h hint.Cut r.0) r.1).1 in
    let placed = and_parts ((r.0.rtype == 2) && strictly_above h.apex r.0.owner) (at_or_above r.0.owner h.asked.name) stands in
    let inside = and_parts (r.0.rtype == 2) (strictly_above h.apex r.0.owner) placed.0 in
    (subst (λ n. strictly_above h.apex n ≡ true) r.2 inside.1, subst (λ n. at_or_above n h.asked.name ≡ true) r.2 placed.1)

-- ---- questions

-- the question by which an alias is sought: for a DNAME above the name, or for its CNAME
pub record SeeksDname (h : JudgeInput) (asked : Asked) : Type 0 where
  pub owner : Name
  pub inside : at_or_above h.apex owner ≡ true
  pub above : strictly_above owner h.asked.name ≡ true
  pub is : asking h owner 39 ≡ asked

pub record SeeksCname (h : JudgeInput) (asked : Asked) : Type 0 where
  pub inside : at_or_above h.apex h.asked.name ≡ true
  pub other : (h.asked.rtype == 5) ≡ false
  pub is : asking h h.asked.name 5 ≡ asked

pub seeks_alias : (k : ℕ) (h : JudgeInput) (asked : Asked) → alias_hint k h ≡ Some asked → SeeksDname h asked ⊎ SeeksCname h asked
seeks_alias k h asked e = go (owner_hint k h hint.Dname) refl e
  where
    cname : (b : Bool) → (at_or_above h.apex h.asked.name && not (h.asked.rtype == 5) && has_cname_hint k h) ≡ b
        → (if b then Some (asking h h.asked.name 5) else None) ≡ Some asked → SeeksCname h asked
    cname true f e =
        let all = and_parts (at_or_above h.apex h.asked.name && not (h.asked.rtype == 5)) (has_cname_hint k h) f in
        let both = and_parts (at_or_above h.apex h.asked.name) (not (h.asked.rtype == 5)) all.0 in
        let is : asking h h.asked.name 5 ≡ asked = cc in
        record { inside = both.0; other = not-true (h.asked.rtype == 5) both.1; is = is }
    cname false f e = absurd cc

    go : (o : Option Name) → owner_hint k h hint.Dname ≡ o
        → (elim o as (λ _. Option Asked) [
          | Some owner ↦ Some (asking h owner 39)
          | None ↦ if at_or_above h.apex h.asked.name && not (h.asked.rtype == 5) && has_cname_hint k h then Some (asking h h.asked.name 5) else None
        ]) ≡ Some asked → SeeksDname h asked ⊎ SeeksCname h asked
    go (Some o) f e =
        let at = dname_above k h o f in
        let is : asking h o 39 ≡ asked = cc in
        inl (record { owner = o; inside = at.0; above = at.1; is = is })
    go None f e = inr (cname (at_or_above h.apex h.asked.name && not (h.asked.rtype == 5) && has_cname_hint k h) refl e)

pub dname_beside : (h : JudgeInput) (owner : Name) → at_or_above h.apex owner ≡ true → strictly_above owner h.asked.name ≡ true → IsBeside h (asking h owner 39)
dname_beside h owner inside above = record { above = strictly_at owner h.asked.name above; inside = inside; class = refl; rtype = inr (inr (inl refl)) }

pub cname_beside : (h : JudgeInput) → at_or_above h.apex h.asked.name ≡ true → IsBeside h (asking h h.asked.name 5)
cname_beside h inside = record { above = above_itself h.asked.name; inside = inside; class = refl; rtype = inr (inl refl) }

-- a question at the cut that the answer suggests
pub record SeeksCut (k : ℕ) (h : JudgeInput) (t : ℕ) (asked : Asked) : Type 0 where
  pub cut : Name
  pub hint : owner_hint k h hint.Cut ≡ Some cut
  pub is : asking h cut t ≡ asked

pub seeks_cut : (k : ℕ) (h : JudgeInput) (t : ℕ) (asked : Asked) → cut_question k h t ≡ Some asked → SeeksCut k h t asked
seeks_cut k h t asked e = go (owner_hint k h hint.Cut) refl e
  where
    go : (o : Option Name) → owner_hint k h hint.Cut ≡ o → option_map (λ c. asking h c t) o ≡ Some asked → SeeksCut k h t asked
    go None f e = absurd cc
    go (Some c) f e = let is : asking h c t ≡ asked = cc in record { cut = c; hint = f; is = is }

pub cut_ns_beside : (k : ℕ) (h : JudgeInput) (c : Name) → owner_hint k h hint.Cut ≡ Some c → IsBeside h (asking h c 2)
cut_ns_beside k h c e = let at = cut_above k h c e in record { above = at.1; inside = strictly_at h.apex c at.0; class = refl; rtype = inl refl }

pub cut_ds_beside : (k : ℕ) (h : JudgeInput) (c : Name) → owner_hint k h hint.Cut ≡ Some c → IsBeside h (asking h c 43)
cut_ds_beside k h c e = let at = cut_above k h c e in record { above = at.1; inside = strictly_at h.apex c at.0; class = refl; rtype = inr (inr (inr refl)) }

pub name_ns_beside : (h : JudgeInput) → strictly_above h.apex h.asked.name ≡ true → IsBeside h (asking h h.asked.name 2)
name_ns_beside h below = record { above = above_itself h.asked.name; inside = strictly_at h.apex h.asked.name below; class = refl; rtype = inl refl }
