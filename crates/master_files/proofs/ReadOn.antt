-- What an entry adds to what has been read.
use Rattle.std.proofs.Common.{◌≡◌, ◌⊎◌, inl, inr, List, [], ◌∷◌, ◌++◌, Option, Some, None, true, refl, sym, ap, ◌∙◌, subst, append_assoc, ℕ, string_bytes}
use Rattle.std.specs.Prelude.{IfSome}
use Rattle.std.proofs.lemmas.List.{append-nil}
use Rattle.std.proofs.lemmas.Grind.{flat_map-append}
use Rattle.std.specs.List.{list_all}
use Rattle.definitions.specs.Name.{Name}
use Rattle.definitions.specs.Text.{is_printable}
use Rattle.master_files.specs.Lines.{FileRecord, HasSoa, record_line, record_lines, zone_lines}
use Rattle.master_files.specs.Reading.{AreZoneLines, HasRead, IsApex, IsWanted, NotesApex, Read, ReadsOn, given_name, read_of}
use Rattle.master_files.specs.declared.zone_file.Zone.{Zone}

pub soa_behind : (name : Name) (rs xs : List FileRecord) → HasSoa name rs → HasSoa name (rs ++ xs)
soa_behind name rs xs h =
    record {
      before = h.before;
      soa = h.soa;
      behind = h.behind ++ xs;
      parts = ap (λ l. l ++ xs) h.parts ∙ append_assoc h.before (h.soa ∷ h.behind) xs;
      is_soa = h.is_soa;
      of_name = h.of_name;
    }

pub soa_front : (name : Name) (rs xs : List FileRecord) → HasSoa name xs → HasSoa name (rs ++ xs)
soa_front name rs xs h =
    record {
      before = rs ++ h.before;
      soa = h.soa;
      behind = h.behind;
      parts = ap (λ l. rs ++ l) h.parts ∙ sym (append_assoc rs h.before (h.soa ∷ h.behind));
      is_soa = h.is_soa;
      of_name = h.of_name;
    }

-- an apex stays one where more records stand
pub apex_kept : (o w : Option Name) (rs xs : List FileRecord) → IfSome o (IsApex w rs) → IfSome o (IsApex w (rs ++ xs))
apex_kept None w rs xs h = h
apex_kept (Some name) w rs xs h = (h.0, soa_behind name rs xs h.1)

pub apex_found : (o w : Option Name) (rs xs : List FileRecord) → IfSome o (IsApex w xs) → IfSome o (IsApex w (rs ++ xs))
apex_found None w rs xs h = h
apex_found (Some name) w rs xs h = (h.0, soa_front name rs xs h.1)

pub apex_now : (o o' w w' : Option Name) (rs xs : List FileRecord) → w' ≡ w → IfSome o (IsApex w rs) → (o' ≡ o) ⊎ IfSome o' (IsApex w' xs) → IfSome o' (IsApex w (rs ++ xs))
apex_now o o' w w' rs xs e h on =
    elim on [
      | inl same ↦ subst (λ a. IfSome a (IsApex w (rs ++ xs))) (sym same) (apex_kept o w rs xs h)
      | inr found ↦ apex_found o' w rs xs (subst (λ v. IfSome o' (IsApex v xs)) e found)
    ]

pub read_on : (w : Option Name) (a b : Read) (rs : List FileRecord) → HasRead w a rs → (on : ReadsOn a b) → HasRead w b (rs ++ on.added)
read_on w a b rs h on =
    record {
      lines = on.lines ∙ ap (λ l. l ++ record_lines on.added) h.lines ∙ sym (flat_map-append record_line rs on.added);
      wants = on.wants ∙ h.wants;
      apex = apex_now a.apex b.apex w b.wanted rs on.added (on.wants ∙ h.wants) h.apex on.apex;
    }

-- the owner of an SOA record is an apex, if it is wanted
pub apex_noted : (o w : Option Name) (name : Name) (r : FileRecord) → o ≡ Some name → r.rtype ≡ 6 → r.owner ≡ name → IfSome o (IsWanted w) → IfSome o (IsApex w (r ∷ []))
apex_noted o w name r e is_soa of_name =
    let soa : HasSoa name (r ∷ []) =
    record { before = []; soa = r; behind = []; parts = refl; is_soa = is_soa; of_name = of_name } in
    subst (λ a. IfSome a (IsWanted w) → IfSome a (IsApex w (r ∷ []))) (sym e) (λ h. (h, soa))

-- the apex behind a record that was noted
pub now_noted : (old mid : Zone) (name : Name) (r : FileRecord) → mid ≡ record old { apex = mid.apex } → mid.owner ≡ Some name → r.owner ≡ name → NotesApex r.rtype old mid → (mid.apex ≡ old.apex) ⊎ IfSome mid.apex (IsApex mid.wanted (r ∷ []))
now_noted old mid name r kept e of_name noted =
    let wants : mid.wanted ≡ old.wanted = ap (λ (z : Zone). z.wanted) kept in
    let owners : mid.owner ≡ old.owner = ap (λ (z : Zone). z.owner) kept in
    elim noted [
      | inl same ↦ inl same
      | inr h ↦
          inr (apex_noted mid.apex mid.wanted name r (h.1 ∙ sym owners ∙ e) h.0 of_name (subst (λ w. IfSome mid.apex (IsWanted w)) (sym wants) h.2))
    ]

pub record_added : (old mid : Zone) (text : List ℕ) (name : Name) (r : FileRecord) → mid ≡ record old { apex = mid.apex } → mid.owner ≡ Some name → r.owner ≡ name → NotesApex r.rtype old mid → text ≡ string_bytes mid.lines ++ record_line r → ReadsOn (read_of old) (record { lines = text; wanted = mid.wanted; apex = mid.apex })
record_added old mid text name r kept e of_name noted line =
    let lines : string_bytes mid.lines ≡ string_bytes old.lines = ap (λ (z : Zone). string_bytes z.lines) kept in
    record {
      added = r ∷ [];
      lines = line ∙ ap (λ l. l ++ record_line r) lines ∙ ap (λ l. string_bytes old.lines ++ l) (sym (append-nil (record_line r)));
      wants = ap (λ (z : Zone). z.wanted) kept;
      apex = now_noted old mid name r kept e of_name noted;
    }

-- what has been read, behind the line of the zone
pub zone_read : (chain apex : List ℕ) (z : Zone) (name : Name) (rs : List FileRecord) (empty words head lines text : List ℕ) → HasRead (given_name apex) (read_of z) rs → z.apex ≡ Some name → list_all is_printable chain ≡ true → empty ≡ [] → words ≡ chain → head ≡ empty ++ zone_lines name words → lines ≡ string_bytes z.lines → text ≡ head ++ lines → AreZoneLines chain apex text
zone_read chain apex z name rs empty words head lines text h e printable none same head_is lines_are text_is =
    let found : IsApex (given_name apex) rs name = subst (λ o. IfSome o (IsApex (given_name apex) rs)) e h.apex in
    let front : head ≡ zone_lines name chain = head_is ∙ ap (λ l. l ++ zone_lines name words) none ∙ ap (λ w. zone_lines name w) same in
    record {
      name = name;
      records = rs;
      text_is = text_is ∙ ap (λ l. l ++ lines) front ∙ ap (λ l. zone_lines name chain ++ l) (lines_are ∙ h.lines);
      soa = found.1;
      wanted = found.0;
      words = printable;
    }
