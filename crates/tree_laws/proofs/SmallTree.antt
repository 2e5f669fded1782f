-- What a small tree says, by computing.
use Rattle.std.proofs.Common.{refl, inr}
use Rattle.tree_laws.specs.Tree.{Itself, Below, Ends, Led}
use Rattle.tree_laws.specs.Rows.{SmallTreeSays, l_a, w_a}

pub small_tree_says : SmallTreeSays
small_tree_says = record {
  address_is = Below refl refl refl (Itself (refl, refl, refl, refl, refl));
  ds_is = Itself (refl, refl, refl, refl, refl);
  no_delegation = Below refl refl refl (Itself (refl, refl, refl, refl, refl));
  missing = Itself (refl, refl, refl, refl, refl);
  unsigned = Itself (refl, refl);
  opened = Below refl refl refl (Itself (refl, refl, refl));
  below_open = Below refl refl refl (Itself (refl, refl));
  alias = Led {n = w_a} refl
      (Below refl refl refl (Itself (inr (record { direct = refl; closed = refl; owner = l_a; target = w_a; source = refl; answers = refl; datas = refl; is = refl }))))
      (Ends refl (Below refl refl refl (Itself (refl, refl, refl, refl, refl))) refl);
}
