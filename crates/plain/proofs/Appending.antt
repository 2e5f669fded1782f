-- What is appended in three parts.
use Rattle.std.proofs.Common.{◌≡◌, ℕ, List, ◌++◌, ◌∙◌, append_assoc}

pub three_parts : (old first second a b c d : List ℕ) → first ≡ old ++ a → second ≡ first ++ b → d ≡ c → second ++ d ≡ old ++ (a ++ (b ++ c))
three_parts old first second a b c d f s e =
    (λ i. s i ++ e i) ∙ (λ i. (f i ++ b) ++ c) ∙ append_assoc (old ++ a) b c ∙ append_assoc old a (b ++ c)
