-- Where the parts of a message stand that reads, and what octets read as there.
use Rattle.std.proofs.Common.{◌≡◌, ℕ, zero, suc, ◌+◌, ◌*◌, ◌<◌, ◌≤◌, Bool, true, false, List, [], ◌∷◌, length, Option, Some, None, Result, Ok, Err, get_or, refl, sym, ap, subst, ◌∙◌, inl, inr, arith}
use Rattle.std.specs.Prelude.{slice_index, nat_le}
use Rattle.std.specs.List.{AllByRecursion}
use Rattle.std.proofs.lemmas.Bool.{leb-true}
use Rattle.std.proofs.lemmas.Option.{slice_get_cases, get_or_from_slice_get}
use Rattle.definitions.specs.Name.{Name}
use Rattle.definitions.specs.Reading.{ReadFault, name_at}
use Rattle.messages.specs.declared.error.MessageError.{MessageError}
use Rattle.messages.specs.declared.error.MessageError.TheVariants.{ShortInput}
use Rattle.messages.specs.Message.{◌>>=◌, AreOctets, Asked, Message, Spelled, asked_at, fault_of, message, octet_at, one_question, owner_at, record_at, records_at, u16_at, u32_at, within}

-- what is read behind something was read behind what that reads as
pub bound : {A B : Type 0} (x : Result A MessageError) (f : A → Result B MessageError) (y : B) → x >>= f ≡ Ok y → (a : A) × (x ≡ Ok a) × (f a ≡ Ok y)
bound (Ok a) f y h = (a, refl, h)
bound (Err e) f y h = cc

abbrev read_as : {A : Type 0} → A → Result A MessageError
read_as x = Ok x

-- what was read is one thing
pub one_read : {A : Type 0} (x y : A) → read_as x ≡ read_as y → x ≡ y
one_read x y e = cc

-- ---- numbers

pub octet_index : (m : List ℕ) (p : ℕ) → AreOctets m → slice_index m p < 256
octet_index [] p h = omega arith
octet_index (x ∷ m) zero h = h.0
octet_index (x ∷ m) (suc p) h = octet_index m p h.1

pub octets_all : (m : List ℕ) → ((i : ℕ) → slice_index m i < 256) → AreOctets m
octets_all [] h = tt
octets_all (x ∷ m) h = (h zero, octets_all m (λ i. h (suc i)))

pub octet_there : (m : List ℕ) (p b : ℕ) → AreOctets m → octet_at m p ≡ Ok b → (p < length m) × (b < 256)
octet_there m p b o h =
    elim (slice_get_cases m p).1 [
      | inl w ↦
          let e : octet_at m p ≡ Ok w.0 = ap (λ (o : Option ℕ). elim o [ None ↦ Err ShortInput | Some b ↦ Ok b ]) w.2 in
          let same : b ≡ w.0 = cc in
          let at : get_or m p 0 ≡ w.0 = get_or_from_slice_get m p w.0 0 w.2 in
          (w.1, omega (arith, octet_index m p o, at, same))
      | inr w ↦
          let e : octet_at m p ≡ Err ShortInput = ap (λ (o : Option ℕ). elim o [ None ↦ Err ShortInput | Some b ↦ Ok b ]) w.1 in
          cc
    ]

pub number_there : (m : List ℕ) (p x : ℕ) → AreOctets m → u16_at m p ≡ Ok x → (p + 1 < length m) × (x < 65536)
number_there m p x o h =
    let one = bound (octet_at m p) (λ (a : ℕ). octet_at m (p + 1) >>= (λ b. Ok (a * 256 + b))) x h in
    let two = bound (octet_at m (p + 1)) (λ (b : ℕ). Ok (one.0 * 256 + b)) x one.2 in
    let e : one.0 * 256 + two.0 ≡ x = one_read (one.0 * 256 + two.0) x two.2 in
    let a = octet_there m p one.0 o one.1 in
    let b = octet_there m (p + 1) two.0 o two.1 in
    (b.0, omega (arith, a.1, b.1, e))

pub long_there : (m : List ℕ) (p x : ℕ) → AreOctets m → u32_at m p ≡ Ok x → x < 4294967296
long_there m p x o h =
    let one = bound (u16_at m p) (λ (a : ℕ). u16_at m (p + 2) >>= (λ b. Ok (a * 65536 + b))) x h in
    let two = bound (u16_at m (p + 2)) (λ (b : ℕ). Ok (one.0 * 65536 + b)) x one.2 in
    let e : one.0 * 65536 + two.0 ≡ x = one_read (one.0 * 65536 + two.0) x two.2 in
    omega (arith, (number_there m p one.0 o one.1).1, (number_there m (p + 2) two.0 o two.1).1, e)

-- ---- names

-- a name that is read at a place stands there
pub owner_reads : (k : ℕ) (m : List ℕ) (p : ℕ) (n : Name × ℕ) → owner_at k m p ≡ Ok n → name_at k m p ≡ Ok n
unfolding owner_at
owner_reads k m p n h = go (name_at k m p) h
  where
    go : (r : Result (Name × ℕ) ReadFault) → (elim r as (λ _. Result (Name × ℕ) MessageError) [ Ok r ↦ Ok r | Err f ↦ Err (fault_of f) ]) ≡ Ok n → r ≡ Ok n
    go (Ok x) e = ap Ok (one_read x n e)
    go (Err f) e = cc

-- ---- a record

abbrev there_or_short : ℕ → Bool → Result ℕ MessageError
there_or_short e there = elim there [ true ↦ Ok e | false ↦ Err ShortInput ]

within_is : (m : List ℕ) (p len e : ℕ) → within m p len ≡ Ok e → (e ≡ p + len) × (e ≤ length m)
within_is m p len e h = go (nat_le (p + len) (length m)) refl h
  where
    go : (there : Bool) → nat_le (p + len) (length m) ≡ there → there_or_short (p + len) there ≡ Ok e → (e ≡ p + len) × (e ≤ length m)
    go true t k = let is : e ≡ p + len = cc in (is, omega (arith, is, leb-true (p + len) (length m) t))
    go false t k = cc

-- where its owner ends, and the numbers there; the place behind it
pub record Placed (k : ℕ) (m : List ℕ) (p : ℕ) (r : Spelled) (e : ℕ) : Type 0 where
  pub end : ℕ
  pub owner : owner_at k m p ≡ Ok (r.owner, end)
  pub rtype : u16_at m end ≡ Ok r.rtype
  pub class : u16_at m (end + 2) ≡ Ok r.class
  pub ttl : u32_at m (end + 4) ≡ Ok r.ttl
  pub length_at : u16_at m (end + 8) ≡ Ok r.length
  pub start : r.start ≡ end + 10
  pub limit : e ≡ r.start + r.length
  pub inside : e ≤ length m

pub placed_record : (k : ℕ) (m : List ℕ) (p : ℕ) (x : Spelled × ℕ) → record_at k m p ≡ Ok x → Placed k m p x.0 x.1
placed_record k m p x h =
    let n = bound (owner_at k m p) (λ (n : Name × ℕ). u16_at m n.1 >>= (λ t. u16_at m (n.1 + 2) >>= (λ c. u32_at m (n.1 + 4) >>= (λ ttl. u16_at m (n.1 + 8) >>= (λ len. within m (n.1 + 10) len >>= (λ e. Ok (record { owner = n.0; rtype = t; class = c; ttl = ttl; start = n.1 + 10; length = len }, e))))))) x h in
    let t = bound (u16_at m n.0.1) (λ (t : ℕ). u16_at m (n.0.1 + 2) >>= (λ c. u32_at m (n.0.1 + 4) >>= (λ ttl. u16_at m (n.0.1 + 8) >>= (λ len. within m (n.0.1 + 10) len >>= (λ e. Ok (record { owner = n.0.0; rtype = t; class = c; ttl = ttl; start = n.0.1 + 10; length = len }, e)))))) x n.2 in
    let c = bound (u16_at m (n.0.1 + 2)) (λ (c : ℕ). u32_at m (n.0.1 + 4) >>= (λ ttl. u16_at m (n.0.1 + 8) >>= (λ len. within m (n.0.1 + 10) len >>= (λ e. Ok (record { owner = n.0.0; rtype = t.0; class = c; ttl = ttl; start = n.0.1 + 10; length = len }, e))))) x t.2 in
    let l = bound (u32_at m (n.0.1 + 4)) (λ (ttl : ℕ). u16_at m (n.0.1 + 8) >>= (λ len. within m (n.0.1 + 10) len >>= (λ e. Ok (record { owner = n.0.0; rtype = t.0; class = c.0; ttl = ttl; start = n.0.1 + 10; length = len }, e)))) x c.2 in
    let s = bound (u16_at m (n.0.1 + 8)) (λ (len : ℕ). within m (n.0.1 + 10) len >>= (λ e. Ok (record { owner = n.0.0; rtype = t.0; class = c.0; ttl = l.0; start = n.0.1 + 10; length = len }, e))) x l.2 in
    let e = bound (within m (n.0.1 + 10) s.0) (λ (e : ℕ). Ok (record { owner = n.0.0; rtype = t.0; class = c.0; ttl = l.0; start = n.0.1 + 10; length = s.0 }, e)) x s.2 in
    let r : Spelled = record { owner = n.0.0; rtype = t.0; class = c.0; ttl = l.0; start = n.0.1 + 10; length = s.0 } in
    let inside = within_is m (n.0.1 + 10) s.0 e.0 e.1 in
    subst (λ (y : Spelled × ℕ). Placed k m p y.0 y.1) (one_read (r, e.0) x e.2) (record {
      end = n.0.1;
      owner = n.1;
      rtype = t.1;
      class = c.1;
      ttl = l.1;
      length_at = s.1;
      start = refl;
      limit = inside.0;
      inside = inside.1;
    })

-- ---- records in turn

-- one of them in front of the others
pub record NextRecord (k : ℕ) (m : List ℕ) (left p : ℕ) (rest : List Spelled) : Type 0 where
  pub next : Spelled × ℕ
  pub more : List Spelled
  pub is : record_at k m p ≡ Ok next
  pub reads : records_at left k m next.1 ≡ Ok more
  pub whole : rest ≡ next.0 ∷ more

pub next_record : (k : ℕ) (m : List ℕ) (left p : ℕ) (rest : List Spelled) → records_at (suc left) k m p ≡ Ok rest → NextRecord k m left p rest
next_record k m left p rest h =
    let one = bound (record_at k m p) (λ (r : Spelled × ℕ). records_at left k m r.1 >>= (λ rs. Ok (r.0 ∷ rs))) rest h in
    let more = bound (records_at left k m one.0.1) (λ (rs : List Spelled). Ok (one.0.0 ∷ rs)) rest one.2 in
    record { next = one.0; more = more.0; is = one.1; reads = more.1; whole = sym (one_read (one.0.0 ∷ more.0) rest more.2) }

-- a record stands somewhere in a message
pub record Stands (k : ℕ) (m : List ℕ) (r : Spelled) : Type 0 where
  pub place : ℕ
  pub behind : ℕ
  pub placed : Placed k m place r behind

pub each_stands : (n k : ℕ) (m : List ℕ) (p : ℕ) (rs : List Spelled) → records_at n k m p ≡ Ok rs → AllByRecursion (Stands k m) rs
each_stands zero k m p rs h = subst (AllByRecursion (Stands k m)) (one_read [] rs h) tt
each_stands (suc n) k m p rs h =
    let one = next_record k m n p rs h in
    let first : Stands k m one.next.0 = record { place = p; behind = one.next.1; placed = placed_record k m p one.next one.is } in
    subst (AllByRecursion (Stands k m)) (sym one.whole) (first, each_stands n k m one.next.1 one.more one.reads)

pub records_at-length : (n k : ℕ) (m : List ℕ) (p : ℕ) (rs : List Spelled) → records_at n k m p ≡ Ok rs → length rs ≡ n
records_at-length zero k m p rs h = sym (ap length (one_read [] rs h))
records_at-length (suc n) k m p rs h =
    let one = next_record k m n p rs h in
    ap length one.whole ∙ ap suc (records_at-length n k m one.next.1 one.more one.reads)

-- ---- the question

-- where its name ends, and the numbers there; the place behind it
pub record PlacedQuestion (k : ℕ) (m : List ℕ) (p : ℕ) (q : Asked) (e : ℕ) : Type 0 where
  pub end : ℕ
  pub name : owner_at k m p ≡ Ok (q.name, end)
  pub rtype : u16_at m end ≡ Ok q.rtype
  pub class : u16_at m (end + 2) ≡ Ok q.class
  pub limit : e ≡ end + 4

placed_question : (k : ℕ) (m : List ℕ) (p : ℕ) (x : Asked × ℕ) → asked_at k m p ≡ Ok x → PlacedQuestion k m p x.0 x.1
placed_question k m p x h =
    let n = bound (owner_at k m p) (λ (n : Name × ℕ). u16_at m n.1 >>= (λ t. u16_at m (n.1 + 2) >>= (λ c. Ok (record { name = n.0; rtype = t; class = c }, n.1 + 4)))) x h in
    let t = bound (u16_at m n.0.1) (λ (t : ℕ). u16_at m (n.0.1 + 2) >>= (λ c. Ok (record { name = n.0.0; rtype = t; class = c }, n.0.1 + 4))) x n.2 in
    let c = bound (u16_at m (n.0.1 + 2)) (λ (c : ℕ). Ok (record { name = n.0.0; rtype = t.0; class = c }, n.0.1 + 4)) x t.2 in
    let q : Asked = record { name = n.0.0; rtype = t.0; class = c.0 } in
    subst (λ (y : Asked × ℕ). PlacedQuestion k m p y.0 y.1) (one_read (q, n.0.1 + 4) x c.2) (record { end = n.0.1; name = n.1; rtype = t.1; class = c.1; limit = refl })

-- ---- the whole

-- the counts of the header, the question behind them, and the records behind that
pub record Headed (k : ℕ) (m : List ℕ) (read : Message) : Type 0 where
  pub questions : ℕ
  pub answers : ℕ
  pub authority : ℕ
  pub additional : ℕ
  pub only : ℕ
  pub behind : ℕ
  pub questions_at : u16_at m 4 ≡ Ok questions
  pub answers_at : u16_at m 6 ≡ Ok answers
  pub authority_at : u16_at m 8 ≡ Ok authority
  pub additional_at : u16_at m 10 ≡ Ok additional
  pub one : one_question questions ≡ Ok only
  pub question : PlacedQuestion k m 12 read.asked behind
  pub records : records_at (answers + authority + additional) k m behind ≡ Ok read.records

pub headed : (k : ℕ) (m : List ℕ) (r : Message) → message k m ≡ Ok r → Headed k m r
headed k m r h =
    let q = bound (u16_at m 4) (λ (questions : ℕ). u16_at m 6 >>= (λ answers. u16_at m 8 >>= (λ authority. u16_at m 10 >>= (λ additional. one_question questions >>= (λ only. asked_at k m 12 >>= (λ q. records_at (answers + authority + additional) k m q.1 >>= (λ rs. Ok (record { asked = q.0; records = rs })))))))) r h in
    let a = bound (u16_at m 6) (λ (answers : ℕ). u16_at m 8 >>= (λ authority. u16_at m 10 >>= (λ additional. one_question q.0 >>= (λ only. asked_at k m 12 >>= (λ q. records_at (answers + authority + additional) k m q.1 >>= (λ rs. Ok (record { asked = q.0; records = rs }))))))) r q.2 in
    let b = bound (u16_at m 8) (λ (authority : ℕ). u16_at m 10 >>= (λ additional. one_question q.0 >>= (λ only. asked_at k m 12 >>= (λ q. records_at (a.0 + authority + additional) k m q.1 >>= (λ rs. Ok (record { asked = q.0; records = rs })))))) r a.2 in
    let d = bound (u16_at m 10) (λ (additional : ℕ). one_question q.0 >>= (λ only. asked_at k m 12 >>= (λ q. records_at (a.0 + b.0 + additional) k m q.1 >>= (λ rs. Ok (record { asked = q.0; records = rs }))))) r b.2 in
    let w = bound (one_question q.0) (λ (only : ℕ). asked_at k m 12 >>= (λ q. records_at (a.0 + b.0 + d.0) k m q.1 >>= (λ rs. Ok (record { asked = q.0; records = rs })))) r d.2 in
    let n = bound (asked_at k m 12) (λ (q : Asked × ℕ). records_at (a.0 + b.0 + d.0) k m q.1 >>= (λ rs. Ok (record { asked = q.0; records = rs }))) r w.2 in
    let l = bound (records_at (a.0 + b.0 + d.0) k m n.0.1) (λ (rs : List Spelled). Ok (record { asked = n.0.0; records = rs })) r n.2 in
    let read : Message = record { asked = n.0.0; records = l.0 } in
    subst (Headed k m) (one_read read r l.2) (record {
      questions = q.0;
      answers = a.0;
      authority = b.0;
      additional = d.0;
      only = w.0;
      behind = n.0.1;
      questions_at = q.1;
      answers_at = a.1;
      authority_at = b.1;
      additional_at = d.1;
      one = w.1;
      question = placed_question k m 12 n.0 n.1;
      records = l.1;
    })
