-- The same application as a big-step semantics with its cost: a rule for each kind of body. A law says that it gives
-- exactly what the function of `Evaluate` computes.
use Rattle.std.specs.Prelude.{◌≡◌, ℕ, ◌+◌, List, [], ◌∷◌, Some, slice_get}
use Rattle.law_sig.specs.Signature.{symbol_at}
use Rattle.law_sig.specs.Evaluate.{Chosen, chosen}
use Rattle.law_sig.specs.declared.tree.SymId.{SymId}
use Rattle.law_sig.specs.declared.tree.Tree.{Tree}
use Rattle.law_sig.specs.declared.tree.Tree.TheVariants.{App}
use Rattle.law_sig.specs.declared.tree.Body.{Body}
use Rattle.law_sig.specs.declared.tree.Body.TheOpen as b
use Rattle.law_sig.specs.declared.tree.Body.TheViews.{out-Body}
use Rattle.law_sig.specs.declared.parts.Con.{Con}
use Rattle.law_sig.specs.declared.parts.Fun.{Fun}
use Rattle.law_sig.specs.declared.parts.Sym.TheVariants as sym
use Rattle.law_sig.specs.declared.parts.SigParts.{SigParts}

-- the values that a body may name
pub record Named : Type 0 where
  pub fields : List Tree
  pub params : List Tree

mutual
  -- a body gives this value at this cost
  pub data Gives (parts : SigParts) : Named → Body → Tree → ℕ → Type 0 where
    field : (named : Named) (body : Body) (v : Tree) (cost number : ℕ)
        → out-Body body ≡ b.Field number → slice_get named.fields number ≡ Some v → cost ≡ 0 → Gives parts named body v cost
    param : (named : Named) (body : Body) (v : Tree) (cost number : ℕ)
        → out-Body body ≡ b.Param number → slice_get named.params number ≡ Some v → cost ≡ 0 → Gives parts named body v cost
    make : (named : Named) (body : Body) (v : Tree) (cost : ℕ) (f : SymId) (args : List Body) (vs : List Tree) (spent : ℕ)
        → out-Body body ≡ b.Make f args → GiveAll parts named args vs spent → v ≡ App f vs → cost ≡ spent + 1 → Gives parts named body v cost
    call : (named : Named) (body : Body) (v : Tree) (cost : ℕ) (f : SymId) (args : List Body) (vs : List Tree) (spent applied : ℕ)
        → out-Body body ≡ b.Call f args → GiveAll parts named args vs spent → Applies parts f vs v applied → cost ≡ spent + applied
        → Gives parts named body v cost

  -- the bodies of a list give these values, from left to right, at this cost in all
  pub data GiveAll (parts : SigParts) : Named → List Body → List Tree → ℕ → Type 0 where
    none : (named : Named) → GiveAll parts named [] [] 0
    more : (named : Named) (body : Body) (bodies : List Body) (v : Tree) (vs : List Tree) (cost spent all : ℕ)
        → Gives parts named body v cost → GiveAll parts named bodies vs spent → all ≡ cost + spent
        → GiveAll parts named (body ∷ bodies) (v ∷ vs) all

  -- applying a symbol to values gives this value at this cost
  pub data Applies (parts : SigParts) : SymId → List Tree → Tree → ℕ → Type 0 where
    built : (f : SymId) (args : List Tree) (v : Tree) (cost : ℕ) (con : Con)
        → symbol_at parts f ≡ Some (sym.Con con) → v ≡ App f args → cost ≡ 1 → Applies parts f args v cost
    ran : (f : SymId) (args : List Tree) (v : Tree) (cost : ℕ) (fun : Fun) (c : Chosen) (spent : ℕ)
        → symbol_at parts f ≡ Some (sym.Fun fun) → chosen parts fun args ≡ Some c
        → Gives parts (record { fields = c.fields; params = args }) c.body v spent → cost ≡ 1 + spent → Applies parts f args v cost
