-- Whether a term is in the universe, by what its parts show.
use Rattle.std.proofs.Common.{◌≡◌, List, [], ◌∷◌, map, Bool, true, ◌&&◌, refl, sym, ap, ◌∙◌}
use Rattle.std.specs.List.{list_all}
use Rattle.law_sig.specs.Tests.{is_explored, is_bounded}
use Rattle.law_sig.specs.declared.tree.SymId.{SymId}
use Rattle.law_sig.specs.declared.tree.Tree.{Tree}
use Rattle.law_sig.specs.declared.tree.Tree.TheVariants.{App}
use Rattle.law_sig.specs.declared.parts.SigParts.{SigParts}
use Rattle.law_laws.proofs.TreeFacts.{bounded-App}

pub all_of : {A : Type 0} (f : A → Bool) (xs : List A) → list_all (λ b. b) (map f xs) ≡ list_all f xs
all_of f [] = refl
all_of f (x ∷ xs) = ap (λ b. f x && b) (all_of f xs)

-- an application of an explored symbol is bounded where its arguments are
pub bounded_by : (parts : SigParts) (t : Tree) (f : SymId) (args : List Tree) → t ≡ App f args → is_explored parts f ≡ true
    → list_all (is_bounded parts) args ≡ is_bounded parts t
bounded_by parts t f args is explored =
    sym (all_of (is_bounded parts) args) ∙ ap (λ c. c && list_all (λ b. b) (map (is_bounded parts) args)) (sym explored)
    ∙ sym (bounded-App parts f args) ∙ ap (is_bounded parts) (sym is)
