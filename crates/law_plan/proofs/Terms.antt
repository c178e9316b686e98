-- Facts of terms: renamed terms and schemas, schemas and the order of exploring, and one most general instance.
use Rattle.std.proofs.Common.{◌≡◌, ℕ, zero, suc, ◌⊎◌, inl, inr, List, [], ◌∷◌, map, slice_index_or, refl, sym, ap, ◌∙◌, subst₂}
use Rattle.law_sig.specs.Lists.{Each}
use Rattle.law_sig.specs.Trees.{schema_of, Subst, substituted}
use Rattle.law_sig.specs.Tests.{first_of}
use Rattle.law_sig.specs.Order.{rank, explore_rank, IsBefore}
use Rattle.law_sig.specs.declared.tree.SortId.{SortId}
use Rattle.law_sig.specs.declared.tree.Tree.{Tree}
use Rattle.law_sig.specs.declared.tree.Tree.TheVariants.{Var, App}
use Rattle.law_sig.specs.declared.parts.SigParts.{SigParts}
use Rattle.law_laws.specs.Renaming.{renamed}
use Rattle.law_sig.specs.General.{IsNumbered, filling}
use Rattle.law_laws.proofs.TreeFacts.{tree_induct, schema-Var, schema-App, substituted-Var, substituted-App, substituted_itself}
use Rattle.law_laws.proofs.Ranks.{Below, less_below, below_less}
use Rattle.law_laws.proofs.Orders.{one_tree, schema_twice}
use Rattle.law_laws.proofs.Filling.{filled}

-- Schemas

-- a renamed term has the same schema
pub renamed_schema : (r : SortId → ℕ → ℕ) (t : Tree) → schema_of (substituted (renamed r) t) ≡ schema_of t
renamed_schema r = tree_induct (λ t. schema_of (substituted (renamed r) t) ≡ schema_of t)
    (λ s i. ap schema_of (substituted-Var (renamed r) s i) ∙ schema-Var s (r s i) ∙ sym (schema-Var s i))
    (λ f args have. ap schema_of (substituted-App (renamed r) f args) ∙ schema-App f (map (substituted (renamed r)) args) ∙ ap (App f) (all args have) ∙ sym (schema-App f args))
  where
    all : (ts : List Tree) → Each (λ t. schema_of (substituted (renamed r) t) ≡ schema_of t) ts → map schema_of (map (substituted (renamed r)) ts) ≡ map schema_of ts
    all [] have = refl
    all (t ∷ ts) have = cc (have.0, all ts have.1)

-- what stands before has an earlier schema, or the same
pub before_schemas : (parts : SigParts) (s t : Tree) → IsBefore parts s t → IsBefore parts (schema_of s) (schema_of t) ⊎ (schema_of s ≡ schema_of t)
before_schemas parts s t h = by (less_below (explore_rank parts s) (explore_rank parts t) h)
  where
    by : Below (explore_rank parts s) (explore_rank parts t) → IsBefore parts (schema_of s) (schema_of t) ⊎ (schema_of s ≡ schema_of t)
    by (inl k) = inl (below_less (explore_rank parts (schema_of s)) (explore_rank parts (schema_of t))
        (inl (subst₂ (λ x y. Below (rank parts x) (rank parts y)) (sym (schema_twice s)) (sym (schema_twice t)) k)))
    by (inr k) = inr (one_tree parts (schema_of s) (schema_of t) k.0)

-- One most general instance

same_substituted : (σ τ : Subst) → ((s : SortId) (i : ℕ) → σ s i ≡ τ s i) → (t : Tree) → substituted σ t ≡ substituted τ t
same_substituted σ τ same = tree_induct (λ t. substituted σ t ≡ substituted τ t)
    (λ s i. substituted-Var σ s i ∙ same s i ∙ sym (substituted-Var τ s i))
    (λ f args have. substituted-App σ f args ∙ ap (App f) (all args have) ∙ sym (substituted-App τ f args))
  where
    all : (ts : List Tree) → Each (λ t. substituted σ t ≡ substituted τ t) ts → map (substituted σ) ts ≡ map (substituted τ) ts
    all [] have = refl
    all (t ∷ ts) have = cc (have.0, all ts have.1)

at_place : (n : ℕ) (f : ℕ → ℕ) (i : ℕ) → slice_index_or (first_of n f) i (f i) ≡ f i
at_place zero f i = refl
at_place (suc n) f zero = refl
at_place (suc n) f (suc i) = at_place n (λ k. f (suc k)) i

-- two terms of one schema whose variables are both numbered from the left are the same
pub one_general : (g h : Tree) → IsNumbered g → IsNumbered h → schema_of g ≡ schema_of h → g ≡ h
one_general g h g_numbered h_numbered e = sym (same_substituted (renamed (filling h)) Var
    (λ s i. ap (Var s) (ap (λ l. slice_index_or l i i) (h_numbered s) ∙ at_place _ (λ k. k) i)) g ∙ substituted_itself g) ∙ filled g h g_numbered e
