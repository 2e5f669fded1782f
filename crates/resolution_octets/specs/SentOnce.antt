-- Messages in octets stand there once, and take octets.
use Rattle.std.proofs.Common.{◌≡◌, ℕ, ◌<◌, List, ◌++◌, length, sym, ◌∙◌, append_assoc, length-append, arith}
use Rattle.std.specs.Int.{w16, w32, to_be_bytes}
use Rattle.names_rdata.specs.Composing.{with_length}
use Rattle.definitions.proofs.SignedLaws.{pieces}
use Rattle.answer_judge_octets.specs.EntryLaws.{once_long, once_short, two}
use Rattle.answer_judge_octets.specs.Written.{with_long_length}
use Rattle.resolution_octets.specs.Sent.{FitsSent, IsTwoOctets, Sent, sent_octets}

pub once_number : (m n : ℕ) (x y : List ℕ) → IsTwoOctets m → IsTwoOctets n → to_be_bytes w16 m ++ x ≡ to_be_bytes w16 n ++ y → (m ≡ n) × (x ≡ y)
once_number m n x y fm fn e =
    let p = pieces (to_be_bytes w16 m) (to_be_bytes w16 n) x y (two.width m n) e in
    (two.once m n fm fn p.0, p.1)

-- the parts of a message, one in front of the next
pub parted : (s : Sent) (x : List ℕ) → sent_octets s ++ x ≡ with_length s.zone ++ (with_length s.name ++ (to_be_bytes w16 s.rtype ++ (with_long_length s.octets ++ x)))
parted s x =
    let z = with_length s.zone in
    let n = with_length s.name in
    let t = to_be_bytes w16 s.rtype in
    let o = with_long_length s.octets in
    append_assoc (z ++ n ++ t) o x ∙ append_assoc (z ++ n) t (o ++ x) ∙ append_assoc z n (t ++ (o ++ x))

pub once_sent : (a b : Sent) (x y : List ℕ) → FitsSent a → FitsSent b → sent_octets a ++ x ≡ sent_octets b ++ y → (a ≡ b) × (x ≡ y)
once_sent a b x y fa fb e =
    let whole = sym (parted a x) ∙ e ∙ parted b y in
    let z = once_short a.zone b.zone _ _ fa.zone fb.zone whole in
    let n = once_short a.name b.name _ _ fa.name fb.name z.1 in
    let t = once_number a.rtype b.rtype _ _ fa.rtype fb.rtype n.1 in
    let o = once_long a.octets b.octets x y fa.octets fb.octets t.1 in
    (λ i. record { zone = z.0 i; name = n.0 i; rtype = t.0 i; octets = o.0 i }, o.1)

pub some_sent : (s : Sent) → 0 < length (sent_octets s)
some_sent s =
    let front = with_length s.zone ++ with_length s.name ++ to_be_bytes w16 s.rtype in
    omega (arith, length-append front (with_long_length s.octets), length-append (to_be_bytes w32 (length s.octets)) s.octets)
