-- What follows from the words of a source's contract.
use Rattle.std.proofs.Common.{ℕ, List, [], ◌++◌, Option, Some, None, arith}
use Rattle.std.proofs.lemmas.Grind.{common_steps}
use Rattle.std.specs.Io.KnownBytes.{Consumes}

-- nothing read
pub Consumes-none : (old : Option (List ℕ)) → Consumes old old []
Consumes-none None = tt
Consumes-none (Some xs) = grind (arith, common_steps)

-- one read after another
pub Consumes-trans : (a b c : Option (List ℕ)) (xs ys : List ℕ) → Consumes a b xs → Consumes b c ys → Consumes a c (xs ++ ys)
Consumes-trans None b c xs ys h k = tt
Consumes-trans (Some a) None c xs ys h k = absurd h
Consumes-trans (Some a) (Some b) None xs ys h k = absurd k
Consumes-trans (Some a) (Some b) (Some c) xs ys h k = grind (arith, common_steps, h, k)
