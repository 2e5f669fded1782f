-- What is written piece by piece.
use Rattle.std.proofs.Common.{◌≡◌, ℕ, ◌+◌, ◌<◌, ◌≤◌, Bool, true, false, List, [], ◌∷◌, ◌++◌, length, map, take, drop, get_or, Option, Some, None, refl, sym, ap, ◌∙◌, append_assoc, length-append, add-one, drop-cons, arith}
use Rattle.std.specs.Prelude.{nat_eq, nat_le, unwrap_or}
use Rattle.std.specs.Int.{w16, w32, to_be_bytes}
use Rattle.std.specs.List.{flat_map}
use Rattle.std.proofs.lemmas.Bool.{false≢true, leb-false, leb-true}
use Rattle.std.proofs.lemmas.List.{append-nil, take_all}
use Rattle.std.proofs.lemmas.List.Concat.{flat_map-append}
use Rattle.std.proofs.lemmas.List.Folds.{length-flat_map-take}
use Rattle.definitions.specs.Name.{wire}
use Rattle.messages.specs.declared.view.ViewRecord.{ViewRecord}
use Rattle.messages.specs.Message.{Asked, Spelled, data_of, if_true}
use Rattle.messages.specs.Record.{spelled}
use Rattle.messages.specs.Rrsig.{record_numbers}
use Rattle.messages.specs.Written.{Written, question_octets, record_octets}
use Rattle.messages.proofs.Lists.{take_next}
use Rattle.messages.proofs.MessageWritten.{record_parts}
use Rattle.messages.proofs.SignOctets.{record_written}
use Rattle.messages_canonical.specs.declared.form.Part.{Part}
use Rattle.messages_canonical.specs.Canonical.{PutsData, Writes, canonical_rdata, canonical_record, canonical_records, formed_data, head_octets, in_front, most_octets, part_at, parts_at}

pub head_written : (m old a b d e : List ℕ) (q : Asked) (front : List ℕ) → front ≡ take 12 m → a ≡ old ++ front → b ≡ a ++ wire q.name → d ≡ b ++ to_be_bytes w16 q.rtype → e ≡ d ++ to_be_bytes w16 q.class → e ≡ old ++ head_octets m q
unfolding question_octets
head_written m old a b d e q front f p r s t =
    let w = wire q.name in
    let x = to_be_bytes w16 q.rtype in
    let y = to_be_bytes w16 q.class in
    t ∙ ap (λ (l : List ℕ). l ++ y) (s ∙ ap (λ (l : List ℕ). l ++ x) (r ∙ ap (λ (l : List ℕ). l ++ w) (p ∙ ap (λ (l : List ℕ). old ++ l) f)))
    ∙ simp append_assoc refl

-- the octets of a record, read at a message, in canonical form
abbrev pub octets_by : ℕ → List ℕ → ViewRecord → List ℕ
octets_by k m r = record_octets (canonical_record k m (spelled r))

pub records_are : (k : ℕ) (m : List ℕ) (rs : List ViewRecord) → flat_map (octets_by k m) rs ≡ flat_map record_octets (canonical_records k m (map spelled rs))
records_are k m [] = refl
records_are k m (r ∷ rs) = ap (λ (l : List ℕ). octets_by k m r ++ l) (records_are k m rs)

-- a record with one more behind those so far
pub records_more : (k : ℕ) (m old a b : List ℕ) (rs : List ViewRecord) (i : ℕ) (r : ViewRecord) → i < length rs → r ≡ get_or rs i r → a ≡ old ++ flat_map (octets_by k m) (take i rs) → b ≡ a ++ octets_by k m r → b ≡ old ++ flat_map (octets_by k m) (take (i + 1) rs)
records_more k m old a b rs i r inside is p q =
    let f = octets_by k m in
    let more : flat_map f (take (i + 1) rs) ≡ flat_map f (take i rs) ++ f r = ap (flat_map f) (take_next rs i r inside is) ∙ flat_map-append f (take i rs) (r ∷ []) ∙ ap (λ (l : List ℕ). flat_map f (take i rs) ++ l) (append-nil (f r)) in
    q ∙ ap (λ (l : List ℕ). l ++ f r) p ∙ append_assoc old (flat_map f (take i rs)) (f r) ∙ ap (λ (l : List ℕ). old ++ l) (sym more)

-- all of them
pub records_all : (k : ℕ) (m old a : List ℕ) (rs : List ViewRecord) (i : ℕ) → length rs ≤ i → a ≡ old ++ flat_map (octets_by k m) (take i rs) → a ≡ old ++ flat_map record_octets (canonical_records k m (map spelled rs))
records_all k m old a rs i h p = p ∙ ap (λ l. old ++ flat_map (octets_by k m) l) (take_all i rs h) ∙ ap (λ (l : List ℕ). old ++ l) (records_are k m rs)

-- where there is no room for one more, there is none for all
pub no_room : (k : ℕ) (m old a : List ℕ) (rs : List ViewRecord) (i : ℕ) (r : ViewRecord) → i < length rs → r ≡ get_or rs i r → a ≡ old ++ flat_map (octets_by k m) (take i rs) → most_octets < length a + length (octets_by k m r) → most_octets < length old + length (flat_map record_octets (canonical_records k m (map spelled rs)))
no_room k m old a rs i r inside is p h =
    let f = octets_by k m in
    let some = length-flat_map-take f rs i r inside in
    let one : length (f (get_or rs i r)) ≡ length (f r) = ap (λ x. length (f x)) (sym is) in
    let all : length (flat_map f rs) ≡ length (flat_map record_octets (canonical_records k m (map spelled rs))) = ap length (records_are k m rs) in
    omega (arith, some, one, all, ap length p, length-append old (flat_map f (take i rs)), h)

-- a record takes no fewer octets than its data
pub data_fit : (w : Written) → length w.octets ≤ length (record_octets w)
data_fit w = let long = simp length-append at (ap length (record_parts w [])) in omega (arith, long)

-- what was written has room, or it doesn't
pub writes_if : (b : Bool) (old new more : List ℕ) → new ≡ old ++ more → nat_le (length new) most_octets ≡ b → Writes b old new more
writes_if true old new more e h = (e, leb-true (length new) most_octets h)
writes_if false old new more e h =
    let above = leb-false (length new) most_octets h in
    omega (arith, ap length e, length-append old more, above)

pub when_true : (b : Bool) (old new more : List ℕ) → Writes b old new more → b ≡ true → (new ≡ old ++ more) × (length new ≤ most_octets)
when_true true old new more h e = h
when_true false old new more h e = absurd (false≢true e)

pub when_false : (b : Bool) (old new more : List ℕ) → Writes b old new more → b ≡ false → most_octets < length old + length more
when_false false old new more h e = h
when_false true old new more h e = absurd (false≢true (sym e))

-- data that are too long leave no room
pub too_long : (w : Written) (old new : List ℕ) → most_octets < length w.octets → Writes false old new (record_octets w)
too_long w old new h = omega (arith, data_fit w, h)

pub record_pieces : (r : Written) (old a b c : List ℕ) → a ≡ old ++ wire r.owner → b ≡ a ++ record_numbers r.rtype r.class r.ttl (length r.octets) → c ≡ b ++ r.octets → c ≡ old ++ record_octets r
unfolding record_octets
record_pieces r old a b c p q s =
    let grouped : c ≡ ((old ++ wire r.owner) ++ record_numbers r.rtype r.class r.ttl (length r.octets)) ++ r.octets = s ∙ ap (λ (l : List ℕ). l ++ r.octets) (q ∙ ap (λ (l : List ℕ). l ++ record_numbers r.rtype r.class r.ttl (length r.octets)) p) in
    let head = wire r.owner ++ to_be_bytes w16 r.rtype ++ to_be_bytes w16 r.class ++ to_be_bytes w32 r.ttl in
    grouped ∙ record_written old (wire r.owner) r.octets r.rtype r.class r.ttl
    ∙ ap (λ (l : List ℕ). old ++ l) (sym (append_assoc head (to_be_bytes w16 (length r.octets)) r.octets))

-- ---- data

pub rdata_formed : (k : ℕ) (m : List ℕ) (r : Spelled) (b : Bool) (octets : List ℕ) → PutsData b octets (formed_data k m r) → b ≡ true → canonical_rdata k m r ≡ octets
rdata_formed k m r true octets h e = ap (λ o. unwrap_or o (data_of m r)) h
rdata_formed k m r false octets h e = absurd (false≢true e)

pub rdata_kept : (k : ℕ) (m : List ℕ) (r : Spelled) (b : Bool) (octets : List ℕ) → PutsData b octets (formed_data k m r) → b ≡ false → canonical_rdata k m r ≡ data_of m r
rdata_kept k m r false octets h e = ap (λ o. unwrap_or o (data_of m r)) h
rdata_kept k m r true octets h e = absurd (false≢true (sym e))

-- ---- parts of data

front_front : (a b : List ℕ) (o : Option (List ℕ)) → in_front a (in_front b o) ≡ in_front (a ++ b) o
front_front a b None = refl
front_front a b (Some c) = ap Some (sym (append_assoc a b c))

pub front_none : (o : Option (List ℕ)) → in_front [] o ≡ o
front_none None = refl
front_none (Some c) = refl

abbrev behind_part : (List Part → ℕ → Option (List ℕ)) → List Part → Option (List ℕ × ℕ) → Option (List ℕ)
behind_part rest ps o = elim o [ None ↦ None | Some d ↦ in_front d.0 (rest ps d.1) ]

-- a part that is put behind those so far
pub one_part : (k : ℕ) (m : List ℕ) (limit : ℕ) (part : Part) (ps : List Part) (p b : ℕ) (old new octets : List ℕ) (whole : Option (List ℕ)) → whole ≡ in_front old (parts_at k m limit (part ∷ ps) p) → part_at k m limit part p ≡ Some (octets, b) → new ≡ old ++ octets → whole ≡ in_front new (parts_at k m limit ps b)
one_part k m limit part ps p b old new octets whole h is e =
    h ∙ ap (λ o. in_front old (behind_part (parts_at k m limit) ps o)) is ∙ front_front old octets (parts_at k m limit ps b) ∙ ap (λ (l : List ℕ). in_front l (parts_at k m limit ps b)) (sym e)

drop_next : (ps : List Part) (i : ℕ) (d : Part) → i < length ps → drop i ps ≡ get_or ps i d ∷ drop (i + 1) ps
drop_next ps i d h = rw (add-one, drop-cons ps i d)

-- the part at a place among all, behind those so far
pub part_more : (k : ℕ) (m : List ℕ) (limit : ℕ) (ps : List Part) (i : ℕ) (d : Part) (p b : ℕ) (old new octets : List ℕ) (whole : Option (List ℕ)) → i < length ps → whole ≡ in_front old (parts_at k m limit (drop i ps) p) → part_at k m limit (get_or ps i d) p ≡ Some (octets, b) → new ≡ old ++ octets → whole ≡ in_front new (parts_at k m limit (drop (i + 1) ps) b)
part_more k m limit ps i d p b old new octets whole inside h is e =
    one_part k m limit (get_or ps i d) (drop (i + 1) ps) p b old new octets whole (h ∙ ap (λ qs. in_front old (parts_at k m limit qs p)) (drop_next ps i d inside)) is e

-- a part that isn't there
pub no_part : (k : ℕ) (m : List ℕ) (limit : ℕ) (part : Part) (ps : List Part) (p : ℕ) (old : List ℕ) (whole : Option (List ℕ)) → whole ≡ in_front old (parts_at k m limit (part ∷ ps) p) → part_at k m limit part p ≡ None → whole ≡ None
no_part k m limit part ps p old whole h is = h ∙ ap (λ o. in_front old (behind_part (parts_at k m limit) ps o)) is

pub part_none : (k : ℕ) (m : List ℕ) (limit : ℕ) (ps : List Part) (i : ℕ) (d : Part) (p : ℕ) (old : List ℕ) (whole : Option (List ℕ)) → i < length ps → whole ≡ in_front old (parts_at k m limit (drop i ps) p) → part_at k m limit (get_or ps i d) p ≡ None → whole ≡ None
part_none k m limit ps i d p old whole inside h is =
    no_part k m limit (get_or ps i d) (drop (i + 1) ps) p old whole (h ∙ ap (λ qs. in_front old (parts_at k m limit qs p)) (drop_next ps i d inside)) is

-- all parts are put
pub all_parts : (k : ℕ) (m : List ℕ) (limit p : ℕ) (old : List ℕ) (whole : Option (List ℕ)) → whole ≡ in_front old (parts_at k m limit [] p) → PutsData (nat_eq p limit) old whole
all_parts k m limit p old whole h = go (nat_eq p limit) h
  where
    go : (b : Bool) → whole ≡ in_front old (if_true b []) → PutsData b old whole
    go true e = e ∙ ap Some (append-nil old)
    go false e = e
