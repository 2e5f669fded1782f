use Rattle.std.proofs.Common.{◌≡◌, ◌++◌, List, ℕ, refl, ap, append_assoc, ◌∙◌}
use Rattle.definitions.specs.Name.{wire}
use Rattle.messages.proofs.MessageData.{ns_here, soa_here, nsec_here}
use Rattle.messages.proofs.Nsec3Read.{nsec3_here, nsec3_reads}
use Rattle.messages.specs.WrittenLaws.{hashed_octets}
use Rattle.messages.proofs.laws.data_read_back.Goals as goal

three : (before w x n y : List ℕ) → before ++ (w ++ x ++ n ++ y) ≡ before ++ (w ++ (x ++ (n ++ y)))
three before w x n y = ap (λ l. before ++ l) (append_assoc (w ++ x) n y ∙ append_assoc w x (n ++ y))

two : (before w b y : List ℕ) → before ++ (w ++ b ++ y) ≡ before ++ (w ++ (b ++ y))
two before w b y = ap (λ l. before ++ l) (append_assoc w b y)

pub returns : goal.returns
returns c = record {
  ns = λ n before behind r name start size. ns_here _ r n behind name (record { front = before; whole = refl; place = start }) size;
  soa = λ mname rname numbers before behind r first second twenty start size. soa_here _ r mname rname numbers behind first second twenty (record { front = before; whole = three before (wire mname) (wire rname) numbers behind; place = start }) size;
  nsec = λ next bits before behind r name valid few start size. nsec_here _ r next bits behind name valid few (record { front = before; whole = two before (wire next) bits behind; place = start }) size;
  nsec3 = λ n before behind r small valid start size.
      let reads = nsec3_reads n.algorithm n.flags n.iterations n.salt n.next n.bits small valid in
      (reads, nsec3_here _ r (hashed_octets n) behind n reads (record { front = before; whole = refl; place = start }) size);
}
