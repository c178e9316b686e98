-- What stands behind a body, a list of bodies or an application that gives a value.
use Rattle.std.proofs.Common.{◌≡◌, ℕ, suc, ◌+◌, length, List, [], ◌∷◌, Some, None, slice_get, refl, sym, ap, subst, ◌∙◌}
use Rattle.law_sig.specs.Signature.{symbol_at}
use Rattle.law_sig.specs.Evaluate.{Chosen, chosen}
use Rattle.law_sig.specs.Relation.{Named, Gives, GiveAll, Applies}
use Rattle.law_sig.specs.Relation.Gives.{field, param, make, call}
use Rattle.law_sig.specs.Relation.GiveAll.{none, more}
use Rattle.law_sig.specs.Relation.Applies.{built, ran}
use Rattle.law_sig.specs.declared.tree.SymId.{SymId}
use Rattle.law_sig.specs.declared.tree.Tree.{Tree}
use Rattle.law_sig.specs.declared.tree.Tree.TheVariants.{App}
use Rattle.law_sig.specs.declared.tree.Body.{Body}
use Rattle.law_sig.specs.declared.tree.Body.TheOpen as b
use Rattle.law_sig.specs.declared.tree.Body.TheViews.{out-Body}
use Rattle.law_sig.specs.declared.parts.Con.{Con}
use Rattle.law_sig.specs.declared.parts.Fun.{Fun}
use Rattle.law_sig.specs.declared.parts.Sym.TheVariants as sym_is
use Rattle.law_sig.specs.declared.parts.SigParts.{SigParts}

pub field_parts : (parts : SigParts) {n : Named} {body : Body} {v : Tree} {c : ℕ} (number : ℕ) → out-Body body ≡ b.Field number → Gives parts n body v c
    → (slice_get n.fields number ≡ Some v) × (c ≡ 0)
field_parts parts number o (field n body v c k e is z) = let same : k ≡ number = cc in (ap (slice_get n.fields) (sym same) ∙ is, z)
field_parts parts number o (param n body v c k e is z) = cc
field_parts parts number o (make n body v c f args vs spent e all is z) = cc
field_parts parts number o (call n body v c f args vs spent applied e all one z) = cc

pub param_parts : (parts : SigParts) {n : Named} {body : Body} {v : Tree} {c : ℕ} (number : ℕ) → out-Body body ≡ b.Param number → Gives parts n body v c
    → (slice_get n.params number ≡ Some v) × (c ≡ 0)
param_parts parts number o (field n body v c k e is z) = cc
param_parts parts number o (param n body v c k e is z) = let same : k ≡ number = cc in (ap (slice_get n.params) (sym same) ∙ is, z)
param_parts parts number o (make n body v c f args vs spent e all is z) = cc
param_parts parts number o (call n body v c f args vs spent applied e all one z) = cc

-- a constructor was made of these values
pub record MadeOf (parts : SigParts) (n : Named) (f : SymId) (args : List Body) (v : Tree) (c : ℕ) : Type 0 where
  pub values : List Tree
  pub spent : ℕ
  pub all : GiveAll parts n args values spent
  pub value : v ≡ App f values
  pub cost : c ≡ spent + 1

pub make_parts : (parts : SigParts) {n : Named} {body : Body} {v : Tree} {c : ℕ} (f : SymId) (args : List Body) → out-Body body ≡ b.Make f args → Gives parts n body v c
    → MadeOf parts n f args v c
make_parts parts g bs o (field n body v c k e is z) = cc
make_parts parts g bs o (param n body v c k e is z) = cc
make_parts parts g bs o (make n body v c f args vs spent e all is z) =
    let heads : f ≡ g = cc in
    let same : args ≡ bs = cc in
    record { values = vs; spent = spent; all = subst (λ l. GiveAll parts n l vs spent) same all; value = is ∙ ap (λ h. App h vs) heads; cost = z }
make_parts parts g bs o (call n body v c f args vs spent applied e all one z) = cc

-- a symbol was applied to these values
pub record CalledWith (parts : SigParts) (n : Named) (f : SymId) (args : List Body) (v : Tree) (c : ℕ) : Type 0 where
  pub values : List Tree
  pub spent : ℕ
  pub applied : ℕ
  pub all : GiveAll parts n args values spent
  pub one : Applies parts f values v applied
  pub cost : c ≡ spent + applied

pub call_parts : (parts : SigParts) {n : Named} {body : Body} {v : Tree} {c : ℕ} (f : SymId) (args : List Body) → out-Body body ≡ b.Call f args → Gives parts n body v c
    → CalledWith parts n f args v c
call_parts parts g bs o (field n body v c k e is z) = cc
call_parts parts g bs o (param n body v c k e is z) = cc
call_parts parts g bs o (make n body v c f args vs spent e all is z) = cc
call_parts parts g bs o (call n body v c f args vs spent applied e all one z) =
    let heads : f ≡ g = cc in
    let same : args ≡ bs = cc in
    record { values = vs; spent = spent; applied = applied; all = subst (λ l. GiveAll parts n l vs spent) same all; one = subst (λ h. Applies parts h vs v applied) heads one; cost = z }

pub none_parts : (parts : SigParts) {n : Named} {vs : List Tree} {c : ℕ} → GiveAll parts n [] vs c → (vs ≡ []) × (c ≡ 0)
none_parts parts (none n) = (refl, refl)

-- the first value, and the others
pub record MoreOf (parts : SigParts) (n : Named) (body : Body) (bodies : List Body) (vs : List Tree) (c : ℕ) : Type 0 where
  pub value : Tree
  pub values : List Tree
  pub cost : ℕ
  pub spent : ℕ
  pub first : Gives parts n body value cost
  pub others : GiveAll parts n bodies values spent
  pub is : vs ≡ value ∷ values
  pub sum : c ≡ cost + spent

pub more_parts : (parts : SigParts) {n : Named} {body : Body} {bodies : List Body} {vs : List Tree} {c : ℕ} → GiveAll parts n (body ∷ bodies) vs c → MoreOf parts n body bodies vs c
more_parts parts (more n body bodies v vs cost spent all first rest z) =
    record { value = v; values = vs; cost = cost; spent = spent; first = first; others = rest; is = refl; sum = z }

pub built_parts : (parts : SigParts) {f : SymId} {args : List Tree} {v : Tree} {c : ℕ} (con : Con) → symbol_at parts f ≡ Some (sym_is.Con con) → Applies parts f args v c
    → (v ≡ App f args) × (c ≡ 1)
built_parts parts con o (built f args v c k e is z) = (is, z)
built_parts parts con o (ran f args v c fun ch spent e k body z) = cc

-- the chosen body gave it
pub record RanOf (parts : SigParts) (args : List Tree) (ch : Chosen) (v : Tree) (c : ℕ) : Type 0 where
  pub spent : ℕ
  pub gives : Gives parts (record { fields = ch.fields; params = args }) ch.body v spent
  pub cost : c ≡ 1 + spent

pub ran_parts : (parts : SigParts) {f : SymId} {args : List Tree} {v : Tree} {c : ℕ} (fun : Fun) (ch : Chosen) → symbol_at parts f ≡ Some (sym_is.Fun fun)
    → chosen parts fun args ≡ Some ch → Applies parts f args v c → RanOf parts args ch v c
ran_parts parts fun ch o k (built f args v c con e is z) = cc
ran_parts parts fun ch o k (ran f args v c fun' ch' spent e k' body z) =
    let funs : fun' ≡ fun = cc in
    let same : ch' ≡ ch = some_is ch' ch (sym k' ∙ ap (λ h. chosen parts h args) funs ∙ k) in
    record { spent = spent; gives = subst (λ (h : Chosen). Gives parts (record { fields = h.fields; params = args }) h.body v spent) same body; cost = z }
  where
    some_is : (x y : Chosen) → ◌≡◌ {A = Rattle.std.proofs.Common.Option Chosen} (Some x) (Some y) → x ≡ y
    some_is x y e = cc

pub not_chosen : (parts : SigParts) {f : SymId} {args : List Tree} {v : Tree} {c : ℕ} (fun : Fun) → symbol_at parts f ≡ Some (sym_is.Fun fun)
    → chosen parts fun args ≡ None → Applies parts f args v c → ⊥
not_chosen parts fun o k (built f args v c con e is z) = cc
not_chosen parts fun o k (ran f args v c fun' ch' spent e k' body z) =
    let funs : fun' ≡ fun = cc in
    apart ch' (sym k' ∙ ap (λ h. chosen parts h args) funs ∙ k)
  where
    apart : (x : Chosen) → ◌≡◌ {A = Rattle.std.proofs.Common.Option Chosen} (Some x) None → ⊥
    apart x e = cc

pub not_declared : (parts : SigParts) {f : SymId} {args : List Tree} {v : Tree} {c : ℕ} → symbol_at parts f ≡ None → Applies parts f args v c → ⊥
not_declared parts o (built f args v c con e is z) = cc
not_declared parts o (ran f args v c fun ch spent e k body z) = cc

-- as many values as bodies
pub all_given : (parts : SigParts) {n : Named} {bodies : List Body} {vs : List Tree} {c : ℕ} → GiveAll parts n bodies vs c → length vs ≡ length bodies
all_given parts (none n) = refl
all_given parts (more n body bodies v vs cost spent all first rest z) = ap suc (all_given parts rest)
