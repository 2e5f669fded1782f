-- Laws of trees.
use Rattle.std.specs.Prelude.{◌≡◌, ◌⊎◌, ℕ, Bool, true, List}
use Rattle.definitions.specs.Name.{Name, at_or_above}
use Rattle.definitions.specs.Zone.{Verdict}
use Rattle.tree_laws.specs.Tree.{Tree, TreeZone, Said, Secure, Unsigned, LeftOpen, Leads, Says, Resolves, is_within}
use Rattle.tree_laws.specs.Orderly.{IsOrderlyTree, IsOrderlyZone}

-- insecure: nothing that is said is signed
abbrev pub IsInsecure : Said → Type 0
IsInsecure (Secure n v) = ⊥
IsInsecure (Unsigned c) = Unit {0}
IsInsecure (LeftOpen n) = Unit {0}
IsInsecure (Leads lead) = ⊥

-- the same, or both insecure
abbrev pub AreAlike : Said → Said → Type 0
AreAlike a b = (a ≡ b) ⊎ (IsInsecure a × IsInsecure b)

-- A tree in order says one thing of a question: one verdict of one zone, or that the name is insecure, or where it leads.
abbrev pub TreesSayOne : Type 0
TreesSayOne =
    (knows : List ℕ → Bool) (tree : Tree) (from : TreeZone) (q : Name) (t : ℕ) (a b : Said)
    → IsOrderlyTree tree → IsOrderlyZone from → Says knows tree q t a from → Says knows tree q t b from → AreAlike a b

-- So it is through aliases, by the same names.
abbrev pub TreesResolveToOne : Type 0
TreesResolveToOne =
    (knows : List ℕ → Bool) (tree : Tree) (from : TreeZone) (q : Name) (t : ℕ) (ns ms : List Name) (a b : Said)
    → IsOrderlyTree tree → IsOrderlyZone from → Resolves knows tree from t a q ns → Resolves knows tree from t b q ms → (ns ≡ ms) × AreAlike a b

-- A verdict is that of a zone at or above the name.
abbrev pub VerdictsAreOfZonesAbove : Type 0
VerdictsAreOfZonesAbove =
    (knows : List ℕ → Bool) (tree : Tree) (from : TreeZone) (q : Name) (t : ℕ) (n : Name) (v : Verdict)
    → is_within from.zone q t ≡ true → Says knows tree q t (Secure n v) from → at_or_above n q ≡ true
