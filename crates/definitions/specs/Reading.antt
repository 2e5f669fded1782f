-- Names as they stand in a message (RFC 1035, 4.1.4).
use Rattle.std.specs.Prelude.{◌≡◌, ℕ, zero, suc, ◌+◌, ◌-◌, ◌*◌, ◌<◌, ◌≤◌, true, false, List, [], ◌∷◌, ◌++◌, length, Some, None, Result, Ok, Err, slice_get, slice_range, nat_le, nat_lt, nat_eq}
use Rattle.definitions.specs.Name.{Name, Label}

-- What stands at a place, where a number of pointers may still be followed, and the place behind it: a root octet, a
-- label of 1 to 63 octets and what follows it, or a pointer to a place before its own. A name ends behind its first
-- pointer or its root octet.
pub data Reads (m : List ℕ) : ℕ → ℕ → Name → ℕ → Type 0 where
  root : {p k b : ℕ} → slice_get m p ≡ Some 0 → b ≡ p + 1 → Reads m p k [] b
  label : {p k n e b : ℕ} {l : Label} {ls : Name} → slice_get m p ≡ Some n → 0 < n → n ≤ 63 → e ≡ p + 1 + n → e ≤ length m → l ≡ slice_range m (p + 1) e → Reads m e k ls b → Reads m p k (l ∷ ls) b
  pointer : {p k high low to b far : ℕ} {ls : Name} → slice_get m p ≡ Some high → 192 ≤ high → slice_get m (p + 1) ≡ Some low → to ≡ (high - 192) * 256 + low → to < p → b ≡ p + 2 → Reads m to k ls far → Reads m p (suc k) ls b

-- the heads that a reading looks at: length octets, the root's too, and pointers
abbrev pub heads_of : {m : List ℕ} {p k b : ℕ} {ls : Name} → Reads m p k ls b → ℕ
heads_of (root h e) = 1
heads_of (label h a b c d e r) = 1 + heads_of r
heads_of (pointer h a b c d e r) = 1 + heads_of r

-- the pointers among the heads that a reading looks at
abbrev pub pointers_of : {m : List ℕ} {p k b : ℕ} {ls : Name} → Reads m p k ls b → ℕ
pointers_of (root h e) = 0
pointers_of (label h a b c d e r) = pointers_of r
pointers_of (pointer h a b c d e r) = 1 + pointers_of r

-- Where reading stops: the octets end, or what stands there begins no name that has room.
pub data ReadFault : Type 0 where
  Short : ReadFault
  Malformed : ReadFault

-- a run of labels ends at a root octet or at a pointer
pub data End : Type 0 where
  AtRoot : End
  To : ℕ → End

-- a run: its labels, where it ends, the place behind it, and the octets of room that are left
pub record Run : Type 0 where
  pub labels : Name
  pub end : End
  pub behind : ℕ
  pub room : ℕ

abbrev pub with_label : Label → Result Run ReadFault → Result Run ReadFault
with_label l (Ok r) = Ok (record r { labels = l ∷ r.labels })
with_label l (Err f) = Err f

-- a pointer at a place, to a place before it, where one is left
abbrev pub pointer_at : ℕ → ℕ → List ℕ → ℕ → ℕ → Result Run ReadFault
pointer_at zero room m p high = Err Malformed
pointer_at (suc k) room m p high = elim (slice_get m (p + 1)) [
  | None ↦ Err Short
  | Some b ↦ elim (nat_lt ((high - 192) * 256 + b) p) [
    | true ↦ Ok (record { labels = []; end = To ((high - 192) * 256 + b); behind = p + 2; room = room })
    | false ↦ Err Malformed
  ]
]

-- The labels from a place on. The first number bounds how many heads are looked at, the second is how many
-- pointers are left, the third the octets of the name, the root's included. A label that leaves no room for
-- the root's octet is malformed.
abbrev pub run_at : ℕ → ℕ → ℕ → List ℕ → ℕ → Result Run ReadFault
run_at zero k room m p = Err Malformed
run_at (suc heads) k room m p = elim (slice_get m p) [
  | None ↦ Err Short
  | Some n ↦ elim (nat_eq n 0) [
    | true ↦ Ok (record { labels = []; end = AtRoot; behind = p + 1; room = room })
    | false ↦ elim (nat_le n 63) [
      | true ↦ elim (nat_le (p + 1 + n) (length m)) [
        | true ↦ elim (nat_le (n + 2) room) [
          | true ↦ with_label (slice_range m (p + 1) (p + 1 + n)) (run_at heads k (room - (n + 1)) m (p + 1 + n))
          | false ↦ Err Malformed
        ]
        | false ↦ Err Short
      ]
      | false ↦ elim (nat_le 192 n) [ true ↦ pointer_at k room m p n | false ↦ Err Malformed ]
    ]
  ]
]

-- behind the labels so far stand those that a pointer leads to
abbrev pub behind_labels : Name → Result Name ReadFault → Result Name ReadFault
behind_labels ls (Ok rest) = Ok (ls ++ rest)
behind_labels ls (Err f) = Err f

-- how many heads a name of 255 octets has at most between two pointers
unfoldable pub most_heads : ℕ
most_heads = 128

-- the labels at a place, through a limited number of pointers and within a limited number of octets
abbrev pub labels_at : ℕ → ℕ → List ℕ → ℕ → Result Name ReadFault
labels_at zero room m p = elim (run_at most_heads 0 room m p) [ Err f ↦ Err f | Ok r ↦ elim r.end [ AtRoot ↦ Ok r.labels | To to ↦ Err Malformed ] ]
labels_at (suc k) room m p = elim (run_at most_heads (suc k) room m p) [ Err f ↦ Err f | Ok r ↦ elim r.end [ AtRoot ↦ Ok r.labels | To to ↦ behind_labels r.labels (labels_at k r.room m to) ] ]

-- the place behind the name at a place: behind its first pointer or its root octet
abbrev pub end_at : ℕ → List ℕ → ℕ → Result ℕ ReadFault
end_at k m p = elim (run_at most_heads k 255 m p) [ Err f ↦ Err f | Ok r ↦ Ok r.behind ]

-- a name of at most 255 octets, and the place behind it
abbrev pub name_at : ℕ → List ℕ → ℕ → Result (Name × ℕ) ReadFault
name_at pointers m p = elim (labels_at pointers 255 m p) [ Err f ↦ Err f | Ok n ↦ elim (end_at pointers m p) [ Err f ↦ Err f | Ok e ↦ Ok (n, e) ] ]
