-- A judge says of a response that has records beside those of its message, none of them signed, what it says of the message.
use Rattle.std.proofs.Common.{◌≡◌, ◌⊎◌, ℕ, ◌+◌, ◌≤◌, ◌<◌, Bool, true, false, List, ◌++◌, length, Ok, eqb, refl, sym, ◌∙◌, ⊎_elim}
use Rattle.std.specs.List.{AllByRecursion}
use Rattle.std.specs.Prelude.{◌==◌}
use Rattle.std.proofs.lemmas.Bool.{eqb-true}
use Rattle.definitions.specs.Limits.{pointer_limit}
use Rattle.messages.specs.Message.{Asked, Message, message}
use Rattle.messages.specs.Written.{Written}
use Rattle.messages.specs.WrittenLaws.{IsQuestion, first_place, spelled_from}
use Rattle.messages.proofs.Lists.{eqb-back}
use Rattle.answer_scheme.specs.Answers.{Answers}
use Rattle.answer_judge.specs.Judging.{JudgeInput, is_judged}
use Rattle.message_laws.specs.SeenAlike.{VerifiesAlike}
use Rattle.server_answers.proofs.WritesGroups.{Holds}
use Rattle.server_queries.specs.Queries.{Queried}
use Rattle.server_responses.specs.Links.{shows_link}
use Rattle.server_responses.specs.Responses.{is_dnssec_ok}
use Rattle.server_laws.proofs.Alone.{SignsOther}
use Rattle.server_laws.specs.Heard.{SaysAlike, ShowsAlike}
use Rattle.server_laws.proofs.AnyQuestion.{any_alike, any_judged, any_uncovered}
use Rattle.server_laws.proofs.Heard.{opt_unjudged, unjudged}
use Rattle.server_laws.proofs.Replied.{IsUnused}
use Rattle.server_laws.proofs.Shown.{IsAlone, in_message, message_read, none_covers, shown, shown_message, whole, whole_reads, whole_suggests, whole_used}

-- of each type these records have none, or no signature among others covers it
abbrev pub AreSpare : List Written → List Written → Type 0
AreSpare more ws = (t : ℕ) → AllByRecursion (IsUnused t) more ⊎ AllByRecursion (SignsOther t) ws

-- a message, and a response of it that has other records too, none of them signed
module _ (flags : ℕ) (asked : Asked) (first second : List Written) (m : List ℕ) (size : ℕ) (q : Queried) (is_alone : IsAlone flags asked first second m) (small : size < 65536) (is : IsQuestion q.asked) (wanted : is_dnssec_ok q ≡ true) (more : List Written) (hold : AllByRecursion Holds more) (unsigned : AllByRecursion (IsUnused 46) more) (spare : AreSpare more (first ++ second)) (silent : shows_link q m (spelled_from (first_place asked) (first ++ second)) ≡ false) where
  abbrev the_message : Message
  the_message = in_message flags asked first second m is_alone

  abbrev the_shown : Message
  the_shown = shown_message flags asked first second m is_alone size q small is wanted more hold silent

  back : message pointer_limit m ≡ Ok the_message
  back = message_read flags asked first second m is_alone

  module _ (bits b u e : ℕ) (counted_is : b + u + e ≡ length (shown flags asked first second m is_alone size q small is wanted more hold silent)) where
    abbrev pub the_whole : List ℕ
    the_whole = whole flags asked first second m is_alone size q small is wanted more hold silent bits b u e counted_is

    module _ (few : length the_whole ≤ 65535) (t : ℕ) (other : eqb 41 t ≡ false) where
      reads : message pointer_limit the_whole ≡ Ok the_shown
      reads = whole_reads flags asked first second m is_alone size q small is wanted more hold silent bits b u e counted_is few

      -- where the others have no record that is used
      spared : AllByRecursion (IsUnused t) more → VerifiesAlike pointer_limit t the_whole m
      spared unused =
          any_alike pointer_limit t the_whole m the_shown the_message reads back
          (whole_used flags asked first second m is_alone size q small is wanted more hold silent bits b u e counted_is t unused other few)

      -- where no signature covers what is asked for
      covered : AllByRecursion (SignsOther t) (first ++ second) → VerifiesAlike pointer_limit t the_whole m
      covered others =
          any_uncovered pointer_limit t the_whole m the_shown the_message reads back
          (whole_used flags asked first second m is_alone size q small is wanted more hold silent bits b u e counted_is 46 unsigned refl few)
          (none_covers flags asked first second m is_alone t others)

      verified : VerifiesAlike pointer_limit t the_whole m
      verified = ⊎_elim spared covered (spare t)

    pub whole_shows : AllByRecursion (IsUnused 39) more → length the_whole ≤ 65535 → ShowsAlike the_whole m
    whole_shows dnames few = record {
      verifies = λ t other. verified few t (eqb-back 41 t ∙ other);
      suggests = whole_suggests flags asked first second m is_alone size q small is wanted more hold silent bits b u e counted_is dnames few;
    }

-- ---- what a judge says

-- that takes answers to other questions
pub shown_judged : (one other : List ℕ) → ShowsAlike one other → (a : Answers) (h : JudgeInput) → h.other_question ≡ true → SaysAlike a h one other
shown_judged one other shows a h any = of_opt (h.asked.rtype == 41) refl
  where
    of_opt : (b : Bool) → (h.asked.rtype == 41) ≡ b → SaysAlike a h one other
    of_opt true e =
        let opt : is_judged h ≡ false = opt_unjudged h (eqb-true h.asked.rtype 41 e) in
        unjudged a (record h { answer_bytes = one }) opt ∙ sym (unjudged a (record h { answer_bytes = other }) opt)
    of_opt false e = any_judged a pointer_limit h one other any (shows.verifies h.asked.rtype e)
