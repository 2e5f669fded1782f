-- Two values that are both there, or neither.
use Rattle.std.proofs.Common.{Option, Some, None}
use Rattle.std.specs.Prelude.{IsSome, IsSomeAnd}
use Rattle.std.proofs.lemmas.Bool.{false≢true}
use Rattle.answer_publisher.specs.Parameters.{OfBoth}

pub none_of_both : {A B C : Type 0} (P : A → B → Type 0) (Q : A → C → Type 0) (o : Option A) → OfBoth P o None → OfBoth Q o None
none_of_both P Q None h = tt
none_of_both P Q (Some a) h = absurd h

pub both_too : {A B : Type 0} (P Q : A → B → Type 0) → ((a : A) (b : B) → P a b → Q a b) → (o : Option A) (p : Option B) → OfBoth P o p → OfBoth Q o p
both_too P Q f None None h = tt
both_too P Q f None (Some b) h = absurd h
both_too P Q f (Some a) None h = absurd h
both_too P Q f (Some a) (Some b) h = f a b h

-- another value beside the first
pub beside_both : {A B C : Type 0} (P : A → B → Type 0) (Q : A → C → Type 0) (o : Option A) (b : B) (c : C) → OfBoth P o (Some b) → ((a : A) → Q a c) → OfBoth Q o (Some c)
beside_both P Q None b c h f = absurd h
beside_both P Q (Some a) b c h f = f a

pub beside_some : {A C : Type 0} (Q : A → C → Type 0) (o : Option A) (c : C) → IsSome o → ((a : A) → Q a c) → OfBoth Q o (Some c)
beside_some Q None c h f = absurd (false≢true h)
beside_some Q (Some a) c h f = f a

pub some_too : {A : Type 0} (P Q : A → Type 0) → ((a : A) → P a → Q a) → (o : Option A) → IsSomeAnd o P → IsSomeAnd o Q
some_too P Q f None h = h
some_too P Q f (Some a) h = f a h

pub some_all : {A : Type 0} (Q : A → Type 0) (o : Option A) → IsSome o → ((a : A) → Q a) → IsSomeAnd o Q
some_all Q None h f = absurd (false≢true h)
some_all Q (Some a) h f = f a
