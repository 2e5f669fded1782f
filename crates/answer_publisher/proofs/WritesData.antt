-- Data that are written read as their canonical form, type by type.
use Rattle.std.proofs.Common.{◌≡◌, ℕ, ◌+◌, ◌≤◌, Bool, true, false, ◌&&◌, ◌||◌, List, [], ◌∷◌, ◌++◌, length, Option, Some, refl, sym, subst, ap, ◌∙◌, append_assoc, length-append, arith, eqb, ⊎_elim, ◌⊎◌}
use Rattle.std.specs.Prelude.{MatchBool}
use Rattle.std.specs.List.{AllZip}
use Rattle.std.proofs.lemmas.Bool.{or_parts}
use Rattle.definitions.specs.Name.{Name, IsName, wire}
use Rattle.definitions.specs.Bitmap.{is_bitmap}
use Rattle.definitions.specs.Limits.{pointer_limit}
use Rattle.messages.specs.HandedRr.{HandedRr, is_meta}
use Rattle.messages.specs.Handed.{IsHanded, SpellsNs, SpellsSoa}
use Rattle.messages.specs.Message.{Spelled, behind, HashedNext, data_of, ns_data, soa_data, nsec_data, nsec3_data, nsec3_of}
use Rattle.messages.proofs.MessageData.{ns_here, soa_here, nsec_here}
use Rattle.messages.proofs.MessageWritten.{StandsAt}
use Rattle.messages.proofs.Nsec3Read.{nsec3_here}
use Rattle.messages.proofs.NameWritten.{range_there}
use Rattle.answer_publisher.proofs.WritesRecords.{ReadsAs}

-- which data are read, by four tests
abbrev chosen : List ℕ → Spelled → Bool → Bool → Bool → Bool → Option (List ℕ)
chosen m r is_ns is_soa is_nsec is_nsec3 =
    elim is_ns [
      | true ↦ ns_data pointer_limit m r
      | false ↦ elim is_soa [
        | true ↦ soa_data pointer_limit m r
        | false ↦ elim is_nsec [
          | true ↦ nsec_data pointer_limit m r
          | false ↦ elim is_nsec3 [ true ↦ nsec3_data m r | false ↦ Some (data_of m r) ]
        ]
      ]
    ]

-- the type of a chain's records
abbrev pub of_chain : ℕ → Bool
of_chain t = eqb t 47 || eqb t 50

-- data of another type than NS, SOA, NSEC and NSEC3
pub reads_plain : (t : ℕ) (d : List ℕ) → eqb t 2 ≡ false → eqb t 6 ≡ false → of_chain t ≡ false → ReadsAs t d d
reads_plain t d ns soa plain m rest r few type stands size =
    let parts = or_parts (eqb t 47) (eqb t 50) plain in
    let a : eqb r.rtype 2 ≡ false = ap (λ n. eqb n 2) type ∙ ns in
    let b : eqb r.rtype 6 ≡ false = ap (λ n. eqb n 6) type ∙ soa in
    let c : eqb r.rtype 47 ≡ false = ap (λ n. eqb n 47) type ∙ parts.0 in
    let e : eqb r.rtype 50 ≡ false = ap (λ n. eqb n 50) type ∙ parts.1 in
    ap (λ x. chosen m r x (eqb r.rtype 6) (eqb r.rtype 47) (eqb r.rtype 50)) a
    ∙ ap (λ x. chosen m r false x (eqb r.rtype 47) (eqb r.rtype 50)) b
    ∙ ap (λ x. chosen m r false false x (eqb r.rtype 50)) c
    ∙ ap (λ x. chosen m r false false false x) e
    ∙ ap Some (range_there m stands.front d rest r.start (behind r) stands.whole stands.place (ap (λ n. r.start + n) size))

reads_ns : (written d : List ℕ) → SpellsNs written d → ReadsAs 2 written d
reads_ns written d s m rest r few type stands size =
    ap (λ x. chosen m r x (eqb r.rtype 6) (eqb r.rtype 47) (eqb r.rtype 50)) (ap (λ n. eqb n 2) type)
    ∙ ns_here m r s.name rest s.is (subst (λ w. StandsAt m r.start (w ++ rest)) s.written_is stands) (size ∙ ap length s.written_is)
    ∙ ap Some (sym s.canonical_is)

soa_parts : (a b n rest : List ℕ) → (a ++ b ++ n) ++ rest ≡ a ++ (b ++ (n ++ rest))
soa_parts a b n rest = simp append_assoc refl

reads_soa : (written d : List ℕ) → SpellsSoa written d → ReadsAs 6 written d
reads_soa written d s m rest r few type stands size =
    ap (λ x. chosen m r x (eqb r.rtype 6) (eqb r.rtype 47) (eqb r.rtype 50)) (ap (λ n. eqb n 2) type)
    ∙ ap (λ x. chosen m r false x (eqb r.rtype 47) (eqb r.rtype 50)) (ap (λ n. eqb n 6) type)
    ∙ soa_here m r s.mname s.rname s.numbers rest s.mname_is s.rname_is s.five
    (subst (StandsAt m r.start) (ap (λ w. w ++ rest) s.written_is ∙ soa_parts (wire s.mname) (wire s.rname) s.numbers rest) stands) (size ∙ ap length s.written_is)
    ∙ ap Some (sym s.canonical_is)

pub reads_nsec : (next : Name) (bits : List ℕ) → IsName next → is_bitmap bits ≡ true → ReadsAs 47 (wire next ++ bits) (wire next ++ bits)
reads_nsec next bits name valid m rest r few type stands size =
    let short : length (wire next ++ bits) ≤ 65535 = omega (arith, few, ap length stands.whole, length-append stands.front ((wire next ++ bits) ++ rest), length-append (wire next ++ bits) rest) in
    ap (λ x. chosen m r x (eqb r.rtype 6) (eqb r.rtype 47) (eqb r.rtype 50)) (ap (λ n. eqb n 2) type)
    ∙ ap (λ x. chosen m r false x (eqb r.rtype 47) (eqb r.rtype 50)) (ap (λ n. eqb n 6) type)
    ∙ ap (λ x. chosen m r false false x (eqb r.rtype 50)) (ap (λ n. eqb n 47) type)
    ∙ nsec_here m r next bits rest name valid short (subst (StandsAt m r.start) (append_assoc (wire next) bits rest) stands) size

pub reads_nsec3 : (d : List ℕ) (n : HashedNext) → nsec3_of d ≡ Some n → ReadsAs 50 d d
reads_nsec3 d n reads m rest r few type stands size =
    ap (λ x. chosen m r x (eqb r.rtype 6) (eqb r.rtype 47) (eqb r.rtype 50)) (ap (λ k. eqb k 2) type)
    ∙ ap (λ x. chosen m r false x (eqb r.rtype 47) (eqb r.rtype 50)) (ap (λ k. eqb k 6) type)
    ∙ ap (λ x. chosen m r false false x (eqb r.rtype 50)) (ap (λ k. eqb k 47) type)
    ∙ ap (λ x. chosen m r false false false x) (ap (λ k. eqb k 50) type)
    ∙ nsec3_here m r d rest n reads stands size

-- data of unknown types, and of NS and SOA records
by_spelling : (unknown : Bool) (t : ℕ) (written d : List ℕ) → (unknown && (eqb t 2 || (eqb t 6 || false))) ≡ false → of_chain t ≡ false
    → MatchBool unknown (d ≡ written) (((t ≡ 2) × SpellsNs written d) ⊎ ((t ≡ 6) × SpellsSoa written d)) → ReadsAs t written d
by_spelling true t written d known plain s =
    let a = or_parts (eqb t 2) (eqb t 6 || false) known in
    let b = or_parts (eqb t 6) false a.1 in
    subst (ReadsAs t written) (sym s) (reads_plain t written a.0 b.0 plain)
by_spelling false t written d known plain s =
    ⊎_elim (λ h. subst (λ n. ReadsAs n written d) (sym h.0) (reads_ns written d h.1)) (λ h. subst (λ n. ReadsAs n written d) (sym h.0) (reads_soa written d h.1)) s

-- the data of a record that a zone may hold
pub reads_handed : (r : HandedRr) (t : ℕ) → IsHanded r → is_meta r ≡ false → r.rtype ≡ t → of_chain t ≡ false → ReadsAs t r.written r.bytes
reads_handed r t is known type plain =
    let unknown = (or_parts _ (r.is_unknown && (eqb r.rtype 2 || (eqb r.rtype 6 || false))) known).1 in
    subst (λ n. ReadsAs n r.written r.bytes) type (by_spelling r.is_unknown r.rtype r.written r.bytes unknown (ap of_chain type ∙ plain) is.spells)

-- data that are written in canonical form
pub all_plain : (t : ℕ) (ds : List (List ℕ)) → eqb t 2 ≡ false → eqb t 6 ≡ false → of_chain t ≡ false → AllZip (ReadsAs t) ds ds
all_plain t [] ns soa plain = tt
all_plain t (d ∷ ds) ns soa plain = (reads_plain t d ns soa plain, all_plain t ds ns soa plain)
