-- The laws, from the lemmas on names and circles.
use Rattle.std.proofs.Common.{◌≡◌, Bool, true, false, ◌&&◌, ◌||◌, List, [], ◌∷◌, refl, sym, ap, ◌∙◌, IsTrue}
use Rattle.std.specs.Prelude.{filter}
use Rattle.std.specs.declared.cmp.Ordering.{Ordering}
use Rattle.std.specs.declared.cmp.Ordering.TheVariants.{Less, Equal, Greater}
use Rattle.std.specs.Ordering.{is_lt, is_eq, ordering_reverse}
use Rattle.std.proofs.lemmas.Cmp.{tied_itself}
use Rattle.definitions.specs.Name.{Name, same, name_cmp}
use Rattle.definitions.specs.Covering.{before}
use Rattle.definitions.specs.ZoneChain.{links}
use Rattle.definitions.specs.Laws.{OrdersNames, IsInterval, OneLinkSpeaks, rising, link_speaks}
use Rattle.definitions.proofs.NameLaws.{name_cmp_total, equal_is_same, same_is_equal, interval, apex_first}
use Rattle.definitions.proofs.ChainLaws.{speaks, Rising, one_speaks}

pub orders_names : OrdersNames
orders_names = record {
  total = name_cmp_total;
  equal = λ a b. (λ e. equal_is_same a b e, λ h. same_is_equal a b h);
}

pub is_interval : (apex : Name) → IsInterval apex
is_interval apex = record {
  between = λ a m b ha hb am mb. interval apex a m b ha hb am mb;
  first = λ m h. apex_first apex m h;
}

-- ---- one link

eq_test : (r : Ordering) (b : Bool) → (r ≡ Equal → b ≡ true) → (b ≡ true → r ≡ Equal) → b ≡ is_eq r
eq_test r true f g = sym (ap is_eq (g refl))
eq_test Equal false f g = f refl
eq_test Less false f g = refl
eq_test Greater false f g = refl

same-is_eq : (a b : Name) → same a b ≡ is_eq (name_cmp a b)
same-is_eq a b = eq_test (name_cmp a b) (same a b) (equal_is_same a b) (same_is_equal a b)

speaks_alike : (apex q : Name) (l : Name × Name) → link_speaks apex q l ≡ speaks name_cmp name_cmp_total apex q l
speaks_alike apex q l i = same-is_eq l.0 q i || (is_lt (name_cmp l.0 q) && (same-is_eq l.1 apex i || is_lt (name_cmp q l.1)))

first_of_both : (s t : Bool) → IsTrue (s && t) → IsTrue s
first_of_both true t h = refl
first_of_both false t h = cc

second_of_both : (s t : Bool) → IsTrue (s && t) → IsTrue t
second_of_both true t h = h
second_of_both false t h = cc

less : (r : Ordering) → IsTrue (is_lt r) → r ≡ Less
less Less h = refl
less Equal h = cc
less Greater h = cc

rises_on : (apex a : Name) (ns : List Name) → (name_cmp apex a ≡ Less) → IsTrue (rising (a ∷ ns)) → Rising name_cmp name_cmp_total apex (a ∷ ns)
rises_on apex a [] h r = tt
rises_on apex a (b ∷ ns) h r =
    let ab : name_cmp a b ≡ Less = less (name_cmp a b) (first_of_both (before a b) (rising (b ∷ ns)) r) in
    let apex_b : name_cmp apex b ≡ Less = name_cmp_total.trans apex a b h ab in
    (ab, apex_b, rises_on apex b ns apex_b (second_of_both (before a b) (rising (b ∷ ns)) r))

rises : (apex : Name) (ns : List Name) → IsTrue (rising (apex ∷ ns)) → Rising name_cmp name_cmp_total apex (apex ∷ ns)
rises apex [] r = tt
rises apex (b ∷ ns) r =
    let ab : name_cmp apex b ≡ Less = less (name_cmp apex b) (first_of_both (before apex b) (rising (b ∷ ns)) r) in
    (ab, ab, rises_on apex b ns ab (second_of_both (before apex b) (rising (b ∷ ns)) r))

pub one_link_speaks : OneLinkSpeaks
one_link_speaks apex q names r h =
    let found : (l : Name × Name) × (filter (speaks name_cmp name_cmp_total apex q) (links apex (apex ∷ names)) ≡ l ∷ []) =
    one_speaks name_cmp name_cmp_total apex q apex names (tied_itself name_cmp_total apex)
    (λ e. apex_first apex q h (name_cmp_total.antisymm apex q ∙ ap ordering_reverse e)) (rises apex names r) in
    (found.0, (λ i. filter (λ l. speaks_alike apex q l i) (links apex (apex ∷ names))) ∙ found.1)
