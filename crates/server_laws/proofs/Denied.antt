-- A judge says of a response to a question for a type that no zone holds, or for all types, what it says of the message for the type in its place.
use Rattle.std.proofs.Common.{◌≡◌, ◌⊎◌, ℕ, ◌≤◌, ◌<◌, Bool, true, false, ◌&&◌, ◌||◌, List, [], ◌∷◌, ◌++◌, length, map, eqb, inl, inr, refl, sym, subst, ap, ◌∙◌, ⊎_elim, arith, lit<}
use Rattle.std.specs.List.{AllByRecursion}
use Rattle.std.proofs.lemmas.Bool.{eqb-true, or_cases}
use Rattle.definitions.specs.Limits.{pointer_limit}
use Rattle.denial_laws.specs.Aliases.{is_alias_type}
use Rattle.messages.specs.HandedRr.{HandedRr, among}
use Rattle.messages.specs.Message.{Asked, Message, Spelled, message, pair}
use Rattle.messages.specs.Written.{Written}
use Rattle.messages.specs.WrittenLaws.{IsQuestion, first_place, spelled_from}
use Rattle.answer_zone.specs.ZoneAnswers.{flags_for}
use Rattle.answer_judge.specs.Judged.{judged}
use Rattle.server_answers.specs.Composed.{joined}
use Rattle.server_answers.specs.Glue.{IsAddress, glue}
use Rattle.server_answers.specs.Responding.{IsMessage, Serving}
use Rattle.server_answers.specs.Aliases.{for_type}
use Rattle.server_answers.specs.Glued.{AnswersGlued}
use Rattle.server_answers.specs.Subset.{wants_signatures}
use Rattle.server_answers.specs.Synthesized.{reserved}
use Rattle.server_answers.specs.Table.{sign_by, verify_by}
use Rattle.server_answers.specs.Outcomes.{signed_by}
use Rattle.server_answers.specs.World.{AnswersQuestion}
use Rattle.server_answers.proofs.Signing.{own_entries}
use Rattle.server_queries.specs.Queries.{Queried}
use Rattle.server_responses.specs.Links.{shows_link}
use Rattle.server_responses.specs.Responses.{AnswersQuery, is_dnssec_ok, response_of}
use Rattle.server_responses.specs.Sections.{written_as_handed}
use Rattle.server_laws.specs.Heard.{AliasesJudgedAlike, DenialsJudgedAlike, HoldsAll, IsWhole, ShowsAlike, SubsetsJudgedAlike, asks_soa, has_link_in, is_link_shown, is_truncated}
use Rattle.server_laws.proofs.Alone.{SignsOther}
use Rattle.server_laws.proofs.Beside.{AreSpare, shown_judged, whole_shows}
use Rattle.server_laws.proofs.Chosen.{chosen_plain}
use Rattle.server_laws.proofs.Heard.{AreBare, alone, bare, by_table, hold_all, ok_is, told, unused_all, zone_signed}
use Rattle.server_laws.proofs.Linked.{link_judged}
use Rattle.server_laws.proofs.Replied.{IsUnused}
use Rattle.server_laws.proofs.Shown.{IsAlone, all_where_clear, alone_read, counts_are, firsts, message_read, seconds, spelled_all}

-- ---- glue

spare_glue : (gs : List HandedRr) (ws : List Written) → AllByRecursion IsAddress gs → AreBare gs ws → AreSpare (map written_as_handed gs) ws
spare_glue gs ws each are_bare t = go (eqb t 1 || eqb t 28) refl
  where
    go : (b : Bool) → (eqb t 1 || eqb t 28) ≡ b → AllByRecursion (IsUnused t) (map written_as_handed gs) ⊎ AllByRecursion (SignsOther t) ws
    go false e = inl (unused_all t gs e each)
    go true e = ⊎_elim
        (λ none. inl (subst (λ (xs : List HandedRr). AllByRecursion (IsUnused t) (map written_as_handed xs)) (sym none) tt))
        (λ others. inr others)
        (are_bare t e)

module _ (flags : ℕ) (asked : Asked) (first second : List Written) (m : List ℕ) (limit size : ℕ) (q : Queried) (is_alone : IsAlone flags asked first second m) (small : size < 65536) (fits : limit ≤ 65535) (is : IsQuestion q.asked) (wanted : is_dnssec_ok q ≡ true) (gs : List HandedRr) (each : AllByRecursion IsAddress gs) (are_bare : AreBare gs (first ++ second)) (silent : shows_link q m (spelled_from (first_place asked) (first ++ second)) ≡ false) where
  abbrev glue_there : List Written
  glue_there = map written_as_handed gs

  abbrev records_there : List Spelled
  records_there = spelled_all flags asked first second m is_alone

  response_shows : (octets : List ℕ) → is_truncated octets ≡ false → AnswersQuery limit size q m gs octets → ShowsAlike octets m
  response_shows octets clear (read, reads, are) =
      let said = message_read flags asked first second m is_alone in
      let same : response_of limit size q m read.records glue_there ≡ response_of limit size q m records_there glue_there = ap (λ (x : Message). response_of limit size q m x.records glue_there) (ok_is read _ (message pointer_limit m) reads said) in
      let found = all_where_clear flags asked first second m is_alone size q small is wanted glue_there (hold_all gs each) silent limit (ap is_truncated (sym (are ∙ same)) ∙ clear) in
      subst (λ (o : List ℕ). ShowsAlike o m) (sym (are ∙ same ∙ found.0))
      (whole_shows flags asked first second m size q is_alone small is wanted glue_there (hold_all gs each) (unused_all 46 gs refl each) (spare_glue gs (first ++ second) each are_bare) silent
      (pair m 2) (length (firsts flags asked first second m is_alone size q small is wanted glue_there (hold_all gs each) silent)) (length (seconds flags asked first second m is_alone size q small is wanted glue_there (hold_all gs each) silent)) (length glue_there)
      (counts_are flags asked first second m is_alone size q small is wanted glue_there (hold_all gs each) silent)
      (unused_all 39 gs refl each) (omega (arith, found.1, fits)))

-- ---- by a server

-- the query for another type
abbrev typing : ℕ → Queried → Queried
typing t q = record q { asked = for_type t q.asked }

module _ (s : Serving) (q : Queried) (octets : List ℕ) (h : HoldsAll s q octets) (t : ℕ) (small : t < 65536) (plain : among (46 ∷ 47 ∷ 50 ∷ []) t ≡ false) (m : List ℕ) where
  of_type : IsWhole s (typing t q) octets
  of_type = record {
    zone = h.zone;
    asked = record { name = h.asked.name; rtype = small; class = h.asked.class };
    plain = plain;
    wanted = h.wanted;
    limit = h.limit;
    size = h.size;
    whole = h.whole;
  }

  typed_shows : is_link_shown q m ≡ false → AnswersQuestion (by_table s (typing t q) octets of_type m) s.keys s.at (for_type t q.asked) m → AllByRecursion IsAddress (glue s.addresses m) → AnswersQuery s.limit s.size q m (glue s.addresses m) octets
      → ShowsAlike octets m
  typed_shows none is each answers =
      let said = told s (typing t q) octets of_type m is in
      let stands = alone s (typing t q) octets of_type m is in
      let silent : shows_link q m (spelled_from (first_place (for_type t q.asked)) (joined is.written.answers ++ joined is.written.authorities)) ≡ false =
      sym (ap (has_link_in q m) (alone_read (flags_for said) (for_type t q.asked) (joined is.written.answers) (joined is.written.authorities) m stands)) ∙ none in
      response_shows (flags_for said) (for_type t q.asked) (joined is.written.answers) (joined is.written.authorities) m s.limit s.size q
      stands h.size h.limit h.asked h.wanted (glue s.addresses m) each (bare s (typing t q) octets of_type m is said refl)
      silent octets h.whole answers

pub denials_judged : DenialsJudgedAlike
denials_judged s q old new octets h d a j any apart =
    let made = subst (λ (b : Bool). IsMessage s (reserved q.asked) false b d.0.m) h.wanted d.0.is_message in
    go (made.0 (sign_by s.table) (verify_by s.table) (own_entries s.table)).0 (is_link_shown q d.0.m) refl
  where
    go : AnswersQuestion (signed_by s.world (sign_by s.table) (verify_by s.table)) s.keys s.at (reserved q.asked) d.0.m → (b : Bool) → is_link_shown q d.0.m ≡ b → judged a pointer_limit (record j { answer_bytes = octets }) ≡ judged a pointer_limit (record j { answer_bytes = d.0.m })
    go is false e = shown_judged octets d.0.m (typed_shows s q octets h 65535 (lit< tt) refl d.0.m e is d.1.each d.1.answers) a j any
    go is true e =
        link_judged (signed_by s.world (sign_by s.table) (verify_by s.table)) (zone_signed s.world (sign_by s.table) (verify_by s.table) h.zone) s.keys s.at q h.asked d.0.m is e h.wanted s.limit s.size s.addresses octets h.size h.limit h.whole d.1 a j any
        (ap (λ b. b && asks_soa s.world.zone.apex j.asked) (sym e) ∙ apart)

pub subsets_judged : SubsetsJudgedAlike
subsets_judged s q old new octets h d silent small =
    let signs : wants_signatures q ≡ true = ap (λ b. b || eqb q.asked.rtype 46) h.wanted in
    let made = subst (λ (b : Bool). IsMessage s (for_type d.t q.asked) false b d.m) signs d.is_message in
    shown_judged octets d.m
    (typed_shows s q octets h d.t small (chosen_plain s.world s.keys s.at q.asked d.t d.chosen) d.m silent (made.0 (sign_by s.table) (verify_by s.table) (own_entries s.table)).0 d.answers.each d.answers.answers)

-- a type of aliases is one of two
pub of_aliases : (P : ℕ → Type 0) → P 5 → P 39 → (t : ℕ) → is_alias_type t ≡ true → P t
of_aliases P five other t e = ⊎_elim
    (λ is. subst P (sym (eqb-true t 5 is)) five)
    (λ is. subst P (sym (eqb-true t 39 is)) other)
    (or_cases (eqb t 5) (eqb t 39) e)

-- the response of the message for the RRset of an alias at the name
pub alias_shows : (s : Serving) (q : Queried) (t : ℕ) (m octets : List ℕ) → HoldsAll s q octets → is_alias_type t ≡ true
    → IsMessage s (for_type t q.asked) false (wants_signatures q) m → AnswersGlued s.limit s.size q s.addresses m octets → is_link_shown q m ≡ false → ShowsAlike octets m
alias_shows s q t m octets h alias is answers silent =
    let signs : wants_signatures q ≡ true = ap (λ b. b || eqb q.asked.rtype 46) h.wanted in
    let made = subst (λ (b : Bool). IsMessage s (for_type t q.asked) false b m) signs is in
    typed_shows s q octets h t (of_aliases (λ u. u < 65536) (lit< tt) (lit< tt) t alias) (of_aliases (λ u. among (46 ∷ 47 ∷ 50 ∷ []) u ≡ false) refl refl t alias) m silent
    (made.0 (sign_by s.table) (verify_by s.table) (own_entries s.table)).0 answers.each answers.answers

pub aliases_judged : AliasesJudgedAlike
aliases_judged s q t m octets h alias is answers silent = shown_judged octets m (alias_shows s q t m octets h alias is answers silent)
