-- Lists whose last item comes next.
use Rattle.std.proofs.Common.{◌≡◌, List, [], ◌∷◌, ◌++◌, length, refl, ap, ◌∙◌, arith}
use Rattle.law_ids.specs.Tops.{tops_onto, tops}

onto-pushed : {A B : Type 0} (f : A → B) (xs : List A) (x : A) (more : List B) → tops_onto f (xs ++ x ∷ []) more ≡ f x ∷ tops_onto f xs more
onto-pushed f [] x more = refl
onto-pushed f (y ∷ xs) x more = onto-pushed f xs x (f y ∷ more)

-- an item was added at the end
pub pushed : {A B : Type 0} (f : A → B) (old new : List A) (x : A) → new ≡ old ++ x ∷ [] → tops f new ≡ f x ∷ tops f old
pushed f old new x e = ap (tops f) e ∙ onto-pushed f old x []

-- nothing is left
pub none_left : {A B : Type 0} (f : A → B) (xs : List A) → length xs ≡ 0 → tops f xs ≡ []
none_left f [] e = refl
none_left f (x ∷ xs) e = absurd (omega arith)
