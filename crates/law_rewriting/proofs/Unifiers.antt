-- Most general unifiers differ by a renaming.
use Rattle.std.proofs.Common.{◌≡◌, ℕ, sym, ap, ◌∙◌}
use Rattle.law_sig.specs.Trees.{Subst, substituted}
use Rattle.law_sig.specs.declared.tree.SortId.{SortId}
use Rattle.law_sig.specs.declared.tree.Tree.{Tree}
use Rattle.law_sig.specs.declared.tree.Tree.TheVariants.{Var}
use Rattle.law_laws.specs.Renaming.{renamed}
use Rattle.law_laws.proofs.TreeFacts.{substituted-Var}
use Rattle.law_laws.proofs.Derivation.{then as after, substituted_twice}
use Rattle.law_rewriting.specs.Heads.{Sorts}
use Rattle.law_rewriting.specs.Unifiers.{GoesThrough, IsMostGeneral}
use Rattle.law_rewriting.specs.PairLaws.{AreRenamed}
use Rattle.law_rewriting.proofs.Variables.{agreeing}
use Rattle.law_rewriting.proofs.Renumbering.{moves, as_renaming, fixes}

-- an instance by the second is one of an instance by the first
pub goes_through : (r : Sorts) (σ τ : Subst) (g : GoesThrough r σ τ) (t : Tree) → substituted τ t ≡ substituted g.rest (substituted σ t)
goes_through r σ τ g t = agreeing τ (after σ g.rest) t (λ s i at. g.is s i) ∙ sym (substituted_twice σ g.rest t)

-- where each goes through the other, what leads from the one to the other is a renaming of its terms
pub one_renamed : (r : Sorts) (σ τ : Subst) (there : GoesThrough r σ τ) → GoesThrough r τ σ → (t : Tree)
    → substituted τ t ≡ substituted (renamed (moves there.rest)) (substituted σ t)
one_renamed r σ τ there back t =
    let out = goes_through r σ τ there t in
    out ∙ as_renaming r there.rest back.rest there.keeps (substituted σ t)
    (fixes r there.rest back.rest there.keeps (substituted σ t) (goes_through r τ σ back t ∙ ap (substituted back.rest) out))

pub unifiers_renamed : (r : Sorts) (s t : Tree) (σ τ : Subst) → IsMostGeneral r σ s t → IsMostGeneral r τ s t → AreRenamed σ τ
unifiers_renamed r s t σ τ a b = record {
  there = moves (a.general τ b.unifies).rest;
  back = moves (b.general σ a.unifies).rest;
  to = λ sort index. at σ τ (a.general τ b.unifies) (b.general σ a.unifies) sort index;
  from = λ sort index. at τ σ (b.general σ a.unifies) (a.general τ b.unifies) sort index;
}
  where
    at : (σ τ : Subst) (there : GoesThrough r σ τ) → GoesThrough r τ σ → (sort : SortId) (index : ℕ) → τ sort index ≡ substituted (renamed (moves there.rest)) (σ sort index)
    at σ τ there back sort index = sym (substituted-Var τ sort index) ∙ one_renamed r σ τ there back (Var sort index)
        ∙ ap (substituted (renamed (moves there.rest))) (substituted-Var σ sort index)
