-- The hashes and digests that the evidence needs, by computing; and answers that have them at hand.
use Rattle.std.proofs.Common.{◌≡◌, ℕ, zero, suc, Bool, true, false, List, [], ◌∷◌, ◌++◌, Some, None, bytes_eq, nat_eq, refl, ap, ◌∙◌}
use Rattle.std.specs.Prelude.{◌==◌, if◌then◌else◌}
use Rattle.std.specs.List.{AllByRecursion}
use lib.Pointwise.{bytes_decides}
use Rattle.sha1.specs.Sha1.{sha1}
use Rattle.sha1.specs.Sha1 as one
use Rattle.sha2.specs.Sha256.{sha256}
use Rattle.sha2.specs.Sha256 as two
use Rattle.sha2.specs.Sha512.{sha384}
use Rattle.definitions.specs.Dnskey.{digested}
use Rattle.definitions.specs.Name.{wire}
use Rattle.denial_nsec3_sha1.specs.Iterated.{iterated}
use Rattle.answer_scheme.specs.Answers.{Answers}
use Rattle.answer_judge_table.specs.Table.{Tried, answers_with, tried}
use Rattle.witness_laws.specs.Signed.{hash_p, hash_s}
use Rattle.witness_laws.specs.Zones.{c_s, d_s, e_s, old_digest, old_key, p, parent_digest, parent_key, s, star_e, u, under, x_u, y_d, y_e}

-- ---- SHA-1 of names

abbrev IsHashed : List ℕ × List ℕ → Type 0
IsHashed x = sha1 x.0 ≡ x.1

hashed_p : IsHashed (wire p, hash_p)
unfolding one.first_words one.schedule one.rounds one.compress one.hash_after one.digest_bytes one.sha1
hashed_p = refl

hashed_star_p : IsHashed (wire (under 42 p), 180 ∷ 41 ∷ 248 ∷ 251 ∷ 189 ∷ 6 ∷ 229 ∷ 163 ∷ 220 ∷ 64 ∷ 162 ∷ 251 ∷ 25 ∷ 146 ∷ 196 ∷ 14 ∷ 107 ∷ 214 ∷ 32 ∷ 56 ∷ [])
unfolding one.first_words one.schedule one.rounds one.compress one.hash_after one.digest_bytes one.sha1
hashed_star_p = refl

hashed_s_p : IsHashed (wire s, hash_s)
unfolding one.first_words one.schedule one.rounds one.compress one.hash_after one.digest_bytes one.sha1
hashed_s_p = refl

hashed_u_p : IsHashed (wire u, 162 ∷ 216 ∷ 175 ∷ 34 ∷ 220 ∷ 167 ∷ 251 ∷ 47 ∷ 92 ∷ 82 ∷ 127 ∷ 213 ∷ 139 ∷ 233 ∷ 18 ∷ 116 ∷ 51 ∷ 48 ∷ 50 ∷ 207 ∷ [])
unfolding one.first_words one.schedule one.rounds one.compress one.hash_after one.digest_bytes one.sha1
hashed_u_p = refl

hashed_star_s_p : IsHashed (wire (under 42 s), 60 ∷ 244 ∷ 155 ∷ 176 ∷ 111 ∷ 75 ∷ 241 ∷ 134 ∷ 48 ∷ 55 ∷ 163 ∷ 244 ∷ 77 ∷ 32 ∷ 54 ∷ 247 ∷ 142 ∷ 122 ∷ 51 ∷ 14 ∷ [])
unfolding one.first_words one.schedule one.rounds one.compress one.hash_after one.digest_bytes one.sha1
hashed_star_s_p = refl

hashed_star_u_p : IsHashed (wire (under 42 u), 73 ∷ 154 ∷ 181 ∷ 244 ∷ 187 ∷ 74 ∷ 102 ∷ 120 ∷ 163 ∷ 28 ∷ 112 ∷ 114 ∷ 114 ∷ 198 ∷ 163 ∷ 76 ∷ 116 ∷ 78 ∷ 223 ∷ 152 ∷ [])
unfolding one.first_words one.schedule one.rounds one.compress one.hash_after one.digest_bytes one.sha1
hashed_star_u_p = refl

hashed_c_s_p : IsHashed (wire c_s, 110 ∷ 101 ∷ 78 ∷ 195 ∷ 199 ∷ 44 ∷ 172 ∷ 134 ∷ 254 ∷ 50 ∷ 80 ∷ 138 ∷ 241 ∷ 70 ∷ 165 ∷ 69 ∷ 31 ∷ 0 ∷ 228 ∷ 156 ∷ [])
unfolding one.first_words one.schedule one.rounds one.compress one.hash_after one.digest_bytes one.sha1
hashed_c_s_p = refl

hashed_d_s_p : IsHashed (wire d_s, 151 ∷ 177 ∷ 244 ∷ 112 ∷ 239 ∷ 227 ∷ 37 ∷ 67 ∷ 233 ∷ 49 ∷ 74 ∷ 200 ∷ 237 ∷ 91 ∷ 172 ∷ 83 ∷ 25 ∷ 135 ∷ 43 ∷ 43 ∷ [])
unfolding one.first_words one.schedule one.rounds one.compress one.hash_after one.digest_bytes one.sha1
hashed_d_s_p = refl

hashed_e_s_p : IsHashed (wire e_s, 214 ∷ 25 ∷ 134 ∷ 15 ∷ 122 ∷ 122 ∷ 206 ∷ 191 ∷ 25 ∷ 34 ∷ 176 ∷ 228 ∷ 136 ∷ 28 ∷ 72 ∷ 194 ∷ 135 ∷ 165 ∷ 27 ∷ 62 ∷ [])
unfolding one.first_words one.schedule one.rounds one.compress one.hash_after one.digest_bytes one.sha1
hashed_e_s_p = refl

hashed_x_u_p : IsHashed (wire x_u, 251 ∷ 255 ∷ 31 ∷ 139 ∷ 236 ∷ 89 ∷ 184 ∷ 127 ∷ 11 ∷ 124 ∷ 55 ∷ 7 ∷ 231 ∷ 7 ∷ 32 ∷ 164 ∷ 109 ∷ 189 ∷ 134 ∷ 47 ∷ [])
unfolding one.first_words one.schedule one.rounds one.compress one.hash_after one.digest_bytes one.sha1
hashed_x_u_p = refl

hashed_star_d_s_p : IsHashed (wire (under 42 d_s), 59 ∷ 13 ∷ 155 ∷ 190 ∷ 116 ∷ 84 ∷ 117 ∷ 55 ∷ 169 ∷ 173 ∷ 6 ∷ 83 ∷ 87 ∷ 96 ∷ 48 ∷ 23 ∷ 10 ∷ 138 ∷ 81 ∷ 67 ∷ [])
unfolding one.first_words one.schedule one.rounds one.compress one.hash_after one.digest_bytes one.sha1
hashed_star_d_s_p = refl

hashed_star_e_s_p : IsHashed (wire star_e, 151 ∷ 66 ∷ 251 ∷ 100 ∷ 231 ∷ 124 ∷ 182 ∷ 116 ∷ 159 ∷ 124 ∷ 245 ∷ 144 ∷ 188 ∷ 204 ∷ 244 ∷ 240 ∷ 253 ∷ 220 ∷ 81 ∷ 212 ∷ [])
unfolding one.first_words one.schedule one.rounds one.compress one.hash_after one.digest_bytes one.sha1
hashed_star_e_s_p = refl

hashed_y_d_s_p : IsHashed (wire y_d, 13 ∷ 82 ∷ 194 ∷ 189 ∷ 117 ∷ 3 ∷ 251 ∷ 241 ∷ 146 ∷ 115 ∷ 70 ∷ 4 ∷ 255 ∷ 76 ∷ 49 ∷ 141 ∷ 225 ∷ 190 ∷ 248 ∷ 142 ∷ [])
unfolding one.first_words one.schedule one.rounds one.compress one.hash_after one.digest_bytes one.sha1
hashed_y_d_s_p = refl

hashed_y_e_s_p : IsHashed (wire y_e, 92 ∷ 123 ∷ 197 ∷ 56 ∷ 70 ∷ 4 ∷ 232 ∷ 221 ∷ 231 ∷ 178 ∷ 139 ∷ 108 ∷ 77 ∷ 34 ∷ 36 ∷ 80 ∷ 247 ∷ 49 ∷ 216 ∷ 125 ∷ [])
unfolding one.first_words one.schedule one.rounds one.compress one.hash_after one.digest_bytes one.sha1
hashed_y_e_s_p = refl

abbrev hashes : List (List ℕ × List ℕ)
hashes =
    (wire p, hash_p)
    ∷ (wire (under 42 p), 180 ∷ 41 ∷ 248 ∷ 251 ∷ 189 ∷ 6 ∷ 229 ∷ 163 ∷ 220 ∷ 64 ∷ 162 ∷ 251 ∷ 25 ∷ 146 ∷ 196 ∷ 14 ∷ 107 ∷ 214 ∷ 32 ∷ 56 ∷ [])
    ∷ (wire s, hash_s)
    ∷ (wire u, 162 ∷ 216 ∷ 175 ∷ 34 ∷ 220 ∷ 167 ∷ 251 ∷ 47 ∷ 92 ∷ 82 ∷ 127 ∷ 213 ∷ 139 ∷ 233 ∷ 18 ∷ 116 ∷ 51 ∷ 48 ∷ 50 ∷ 207 ∷ [])
    ∷ (wire (under 42 s), 60 ∷ 244 ∷ 155 ∷ 176 ∷ 111 ∷ 75 ∷ 241 ∷ 134 ∷ 48 ∷ 55 ∷ 163 ∷ 244 ∷ 77 ∷ 32 ∷ 54 ∷ 247 ∷ 142 ∷ 122 ∷ 51 ∷ 14 ∷ [])
    ∷ (wire (under 42 u), 73 ∷ 154 ∷ 181 ∷ 244 ∷ 187 ∷ 74 ∷ 102 ∷ 120 ∷ 163 ∷ 28 ∷ 112 ∷ 114 ∷ 114 ∷ 198 ∷ 163 ∷ 76 ∷ 116 ∷ 78 ∷ 223 ∷ 152 ∷ [])
    ∷ (wire c_s, 110 ∷ 101 ∷ 78 ∷ 195 ∷ 199 ∷ 44 ∷ 172 ∷ 134 ∷ 254 ∷ 50 ∷ 80 ∷ 138 ∷ 241 ∷ 70 ∷ 165 ∷ 69 ∷ 31 ∷ 0 ∷ 228 ∷ 156 ∷ [])
    ∷ (wire d_s, 151 ∷ 177 ∷ 244 ∷ 112 ∷ 239 ∷ 227 ∷ 37 ∷ 67 ∷ 233 ∷ 49 ∷ 74 ∷ 200 ∷ 237 ∷ 91 ∷ 172 ∷ 83 ∷ 25 ∷ 135 ∷ 43 ∷ 43 ∷ [])
    ∷ (wire e_s, 214 ∷ 25 ∷ 134 ∷ 15 ∷ 122 ∷ 122 ∷ 206 ∷ 191 ∷ 25 ∷ 34 ∷ 176 ∷ 228 ∷ 136 ∷ 28 ∷ 72 ∷ 194 ∷ 135 ∷ 165 ∷ 27 ∷ 62 ∷ [])
    ∷ (wire x_u, 251 ∷ 255 ∷ 31 ∷ 139 ∷ 236 ∷ 89 ∷ 184 ∷ 127 ∷ 11 ∷ 124 ∷ 55 ∷ 7 ∷ 231 ∷ 7 ∷ 32 ∷ 164 ∷ 109 ∷ 189 ∷ 134 ∷ 47 ∷ [])
    ∷ (wire (under 42 d_s), 59 ∷ 13 ∷ 155 ∷ 190 ∷ 116 ∷ 84 ∷ 117 ∷ 55 ∷ 169 ∷ 173 ∷ 6 ∷ 83 ∷ 87 ∷ 96 ∷ 48 ∷ 23 ∷ 10 ∷ 138 ∷ 81 ∷ 67 ∷ [])
    ∷ (wire star_e, 151 ∷ 66 ∷ 251 ∷ 100 ∷ 231 ∷ 124 ∷ 182 ∷ 116 ∷ 159 ∷ 124 ∷ 245 ∷ 144 ∷ 188 ∷ 204 ∷ 244 ∷ 240 ∷ 253 ∷ 220 ∷ 81 ∷ 212 ∷ [])
    ∷ (wire y_d, 13 ∷ 82 ∷ 194 ∷ 189 ∷ 117 ∷ 3 ∷ 251 ∷ 241 ∷ 146 ∷ 115 ∷ 70 ∷ 4 ∷ 255 ∷ 76 ∷ 49 ∷ 141 ∷ 225 ∷ 190 ∷ 248 ∷ 142 ∷ [])
    ∷ (wire y_e, 92 ∷ 123 ∷ 197 ∷ 56 ∷ 70 ∷ 4 ∷ 232 ∷ 221 ∷ 231 ∷ 178 ∷ 139 ∷ 108 ∷ 77 ∷ 34 ∷ 36 ∷ 80 ∷ 247 ∷ 49 ∷ 216 ∷ 125 ∷ []) ∷ []

all_hashed : AllByRecursion IsHashed hashes
all_hashed = (hashed_p, (hashed_star_p, (hashed_s_p, (hashed_u_p, (hashed_star_s_p, (hashed_star_u_p, (hashed_c_s_p, (hashed_d_s_p, (hashed_e_s_p, (hashed_x_u_p, (hashed_star_d_s_p, (hashed_star_e_s_p, (hashed_y_d_s_p, (hashed_y_e_s_p, tt))))))))))))))

-- ---- SHA-256 of keys

abbrev IsDigested : List ℕ × List ℕ → Type 0
IsDigested x = sha256 x.0 ≡ x.1

digested_parent : IsDigested (digested p parent_key, parent_digest)
unfolding two.first_words two.schedule two.rounds two.compress two.hash_after two.digest_bytes two.sha256
digested_parent = refl

digested_old : IsDigested (digested s old_key, old_digest)
unfolding two.first_words two.schedule two.rounds two.compress two.hash_after two.digest_bytes two.sha256
digested_old = refl

abbrev digests : List (List ℕ × List ℕ)
digests = (digested p parent_key, parent_digest) ∷ (digested s old_key, old_digest) ∷ []

all_digested : AllByRecursion IsDigested digests
all_digested = (digested_parent, (digested_old, tt))

-- ---- what is at hand is as what is computed

abbrev at_hand : (List ℕ → List ℕ) → List (List ℕ × List ℕ) → List ℕ → List ℕ
at_hand f [] o = f o
at_hand f (x ∷ xs) o = if bytes_eq o x.0 then x.1 else at_hand f xs o

at_hand_is : (f : List ℕ → List ℕ) (xs : List (List ℕ × List ℕ)) (o : List ℕ) → AllByRecursion (λ (x : List ℕ × List ℕ). f x.0 ≡ x.1) xs → f o ≡ at_hand f xs o
at_hand_is f [] o are = refl
at_hand_is f (x ∷ xs) o are = go (bytes_eq o x.0) refl (at_hand_is f xs o are.1)
  where
    go : (b : Bool) → bytes_eq o x.0 ≡ b → f o ≡ at_hand f xs o → f o ≡ (if b then x.1 else at_hand f xs o)
    go true e later = ap f ((bytes_decides o x.0).0 e) ∙ are.0
    go false e later = later

abbrev known_iterated : ℕ → List ℕ → List ℕ → List ℕ
known_iterated zero octets salt = at_hand sha1 hashes (octets ++ salt)
known_iterated (suc n) octets salt = at_hand sha1 hashes (known_iterated n octets salt ++ salt)

iterated_is : (n : ℕ) (octets salt : List ℕ) → iterated n octets salt ≡ known_iterated n octets salt
iterated_is zero octets salt = at_hand_is sha1 hashes (octets ++ salt) all_hashed
iterated_is (suc n) octets salt = ap (λ o. sha1 (o ++ salt)) (iterated_is n octets salt) ∙ at_hand_is sha1 hashes (known_iterated n octets salt ++ salt) all_hashed

-- Answers to a judge under which these signatures pass, with hashes and digests at hand.
abbrev pub ready : (Tried → Bool) → Answers
ready passes = record {
  verifies = λ key octets signature. passes (tried key octets signature);
  digest = λ t octets. if nat_eq t 2 then Some (at_hand sha256 digests octets) else if nat_eq t 4 then Some (sha384 octets) else None;
  hash = λ name algorithm iterations salt. if algorithm == 1 then Some (known_iterated iterations name salt) else None;
}

pub ready_is : (passes : Tried → Bool) → answers_with passes ≡ ready passes
ready_is passes = λ i. record {
  verifies = λ key octets signature. passes (tried key octets signature);
  digest = λ t octets. if nat_eq t 2 then Some (at_hand_is sha256 digests octets all_digested i) else if nat_eq t 4 then Some (sha384 octets) else None;
  hash = λ name algorithm iterations salt. if algorithm == 1 then Some (iterated_is iterations name salt i) else None;
}
