-- What stands behind a derivation of an application: the rule that it ends in, and its parts.
use Rattle.std.proofs.Common.{◌≡◌, ℕ, ◌+◌, Option, Some, None, List, [], ◌∷◌, slice_get, sym, refl, ap, ◌∙◌, subst, arith}
use Rattle.law_sig.specs.Signature.{symbol_at}
use Rattle.law_sig.specs.Evaluate.{Made, MadeAll, Chosen, chosen}
use Rattle.law_sig.specs.Relation.{Named, Gives, GiveAll, Applies}
use Rattle.law_sig.specs.Relation.Gives.{field, param, make, call}
use Rattle.law_sig.specs.Relation.GiveAll.{none, more}
use Rattle.law_sig.specs.Relation.Applies.{built, ran}
use Rattle.law_sig.specs.declared.tree.SymId.{SymId}
use Rattle.law_sig.specs.declared.tree.Tree.{Tree}
use Rattle.law_sig.specs.declared.tree.Tree.TheVariants.{App}
use Rattle.law_sig.specs.declared.tree.Body.{Body}
use Rattle.law_sig.specs.declared.tree.Body.TheOpen as b
use Rattle.law_sig.specs.declared.tree.Body.TheViews.{out-Body}
use Rattle.law_sig.specs.declared.parts.Con.{Con}
use Rattle.law_sig.specs.declared.parts.Fun.{Fun}
use Rattle.law_sig.specs.declared.parts.Sym.{Sym}
use Rattle.law_sig.specs.declared.parts.Sym.TheVariants as sym_is
use Rattle.law_sig.specs.declared.parts.SigParts.{SigParts}
use Rattle.law_laws.proofs.BodyFacts.{some_is, none_is}
use Rattle.law_laws.proofs.Application.{gives_is, give_all_is}

-- Two layers of one body

one_field : (l : b.Body-F Body) (n m : ℕ) → l ≡ b.Field n → l ≡ b.Field m → n ≡ m
one_field l n m e k = cc

one_param : (l : b.Body-F Body) (n m : ℕ) → l ≡ b.Param n → l ≡ b.Param m → n ≡ m
one_param l n m e k = cc

one_make : (l : b.Body-F Body) (f g : SymId) (xs ys : List Body) → l ≡ b.Make f xs → l ≡ b.Make g ys → (f ≡ g) × (xs ≡ ys)
one_make l f g xs ys e k = (cc, cc)

one_call : (l : b.Body-F Body) (f g : SymId) (xs ys : List Body) → l ≡ b.Call f xs → l ≡ b.Call g ys → (f ≡ g) × (xs ≡ ys)
one_call l f g xs ys e k = (cc, cc)

module _ (parts : SigParts) where
  -- Bodies

  pub field_given : {named : Named} {body : Body} {v : Tree} {n : ℕ} → Gives parts named body v n
      → (number : ℕ) → out-Body body ≡ b.Field number → (slice_get named.fields number ≡ Some v) × (n ≡ 0)
  field_given (field named body v n at e k z) number h = (ap (slice_get named.fields) (one_field (out-Body body) number at h e) ∙ k, z)
  field_given (param named body v n at e k z) number h = absurd (cc)
  field_given (make named body v n f args vs spent e all is z) number h = absurd (cc)
  field_given (call named body v n f args vs spent applied e all one z) number h = absurd (cc)

  pub param_given : {named : Named} {body : Body} {v : Tree} {n : ℕ} → Gives parts named body v n
      → (number : ℕ) → out-Body body ≡ b.Param number → (slice_get named.params number ≡ Some v) × (n ≡ 0)
  param_given (field named body v n at e k z) number h = absurd (cc)
  param_given (param named body v n at e k z) number h = (ap (slice_get named.params) (one_param (out-Body body) number at h e) ∙ k, z)
  param_given (make named body v n f args vs spent e all is z) number h = absurd (cc)
  param_given (call named body v n f args vs spent applied e all one z) number h = absurd (cc)

  pub make_given : {named : Named} {body : Body} {v : Tree} {n : ℕ} → Gives parts named body v n
      → (f : SymId) (args : List Body) → out-Body body ≡ b.Make f args
      → (vs : List Tree) × (spent : ℕ) × GiveAll parts named args vs spent × (v ≡ App f vs) × (n ≡ spent + 1)
  make_given (field named body v n at e k z) f args h = absurd (cc)
  make_given (param named body v n at e k z) f args h = absurd (cc)
  make_given (make named body v n g bs vs spent e all is z) f args h =
      let (p, q) = one_make (out-Body body) g f bs args e h in
      (vs, spent, subst (λ l. GiveAll parts named l vs spent) q all, is ∙ ap (λ s. App s vs) p, z)
  make_given (call named body v n g bs vs spent applied e all one z) f args h = absurd (cc)

  pub call_given : {named : Named} {body : Body} {v : Tree} {n : ℕ} → Gives parts named body v n
      → (f : SymId) (args : List Body) → out-Body body ≡ b.Call f args
      → (vs : List Tree) × (spent : ℕ) × (applied : ℕ) × GiveAll parts named args vs spent × Applies parts f vs v applied × (n ≡ spent + applied)
  call_given (field named body v n at e k z) f args h = absurd (cc)
  call_given (param named body v n at e k z) f args h = absurd (cc)
  call_given (make named body v n g bs vs spent e all is z) f args h = absurd (cc)
  call_given (call named body v n g bs vs spent applied e all one z) f args h =
      let (p, q) = one_call (out-Body body) g f bs args e h in
      (vs, spent, applied, subst (λ l. GiveAll parts named l vs spent) q all, subst (λ s. Applies parts s vs v applied) p one, z)

  -- Lists of bodies

  pub none_given : {named : Named} {vs : List Tree} {n : ℕ} → GiveAll parts named [] vs n → (vs ≡ []) × (n ≡ 0)
  none_given (none named) = (refl, refl)

  pub more_given : {named : Named} {body : Body} {bodies : List Body} {vs : List Tree} {n : ℕ} → GiveAll parts named (body ∷ bodies) vs n
      → (first : Tree) × (rest : List Tree) × (cost : ℕ) × (spent : ℕ)
      × Gives parts named body first cost × GiveAll parts named bodies rest spent × (vs ≡ first ∷ rest) × (n ≡ cost + spent)
  more_given (more named body bodies v vs cost spent all first rest z) = (v, vs, cost, spent, first, rest, refl, z)

  -- Applications

  pub built_given : {f : SymId} {args : List Tree} {v : Tree} {n : ℕ} → Applies parts f args v n
      → (con : Con) → symbol_at parts f ≡ Some (sym_is.Con con) → (v ≡ App f args) × (n ≡ 1)
  built_given (built f args v n con e is z) other h = (is, z)
  built_given (ran f args v n fun c spent e k body z) other h = absurd (cc)

  one_chosen : (o : Option Chosen) (c d : Chosen) → o ≡ Some c → o ≡ Some d → c ≡ d
  one_chosen o c d e k = cc

  one_function : (o : Option Sym) (fun other : Fun) → o ≡ Some (sym_is.Fun fun) → o ≡ Some (sym_is.Fun other) → fun ≡ other
  one_function o fun other e k = cc

  pub ran_given : {f : SymId} {args : List Tree} {v : Tree} {n : ℕ} → Applies parts f args v n
      → (fun : Fun) → symbol_at parts f ≡ Some (sym_is.Fun fun)
      → (c : Chosen) × (spent : ℕ) × (chosen parts fun args ≡ Some c)
      × Gives parts (record { fields = c.fields; params = args }) c.body v spent × (n ≡ 1 + spent)
  ran_given (built f args v n con e is z) fun h = absurd (cc)
  ran_given (ran f args v n other c spent e k body z) fun h =
      (c, spent, ap (λ g. chosen parts g args) (one_function (symbol_at parts f) fun other h e) ∙ k, body, z)

  -- the same where the chosen body is known
  pub chosen_given : {f : SymId} {args : List Tree} {v : Tree} {n : ℕ} → Applies parts f args v n
      → (fun : Fun) (c : Chosen) → symbol_at parts f ≡ Some (sym_is.Fun fun) → chosen parts fun args ≡ Some c
      → (spent : ℕ) × Gives parts (record { fields = c.fields; params = args }) c.body v spent × (n ≡ 1 + spent)
  chosen_given {args = args} {v = v} p fun c h k =
      let (d, spent, q, body, z) = ran_given p fun h in
      let e : d ≡ c = one_chosen (chosen parts fun args) d c q k in
      (spent, subst (λ (x : Chosen). Gives parts (record { fields = x.fields; params = args }) x.body v spent) e body, z)

  pub none_chosen : {f : SymId} {args : List Tree} {v : Tree} {n : ℕ} → Applies parts f args v n
      → (fun : Fun) → symbol_at parts f ≡ Some (sym_is.Fun fun) → chosen parts fun args ≡ None → ⊥
  none_chosen p fun h k =
      let (c, spent, q, body, z) = ran_given p fun h in
      none_is c (sym k ∙ q)

  pub no_symbol : {f : SymId} {args : List Tree} {v : Tree} {n : ℕ} → Applies parts f args v n → symbol_at parts f ≡ None → ⊥
  no_symbol (built f args v n con e is z) h = none_is (sym_is.Con con) (sym h ∙ e)
  no_symbol (ran f args v n fun c spent e k body z) h = none_is (sym_is.Fun fun) (sym h ∙ e)

  -- One value and one cost of a body, and of a list of bodies

  pub one_given : {named : Named} {body : Body} {v w : Tree} {n k : ℕ} → Gives parts named body v n → Gives parts named body w k → (v ≡ w) × (n ≡ k)
  one_given {n = n} {k = k} p q =
      let e = some_is _ _ (sym (gives_is parts p (n + k) (omega arith)) ∙ gives_is parts q (n + k) (omega arith)) in
      (ap (λ (z : Made). z.value) e, ap (λ (z : Made). z.cost) e)

  pub one_list_given : {named : Named} {bodies : List Body} {vs ws : List Tree} {n k : ℕ}
      → GiveAll parts named bodies vs n → GiveAll parts named bodies ws k → (vs ≡ ws) × (n ≡ k)
  one_list_given {n = n} {k = k} p q =
      let e = some_is _ _ (sym (give_all_is parts p (n + k) (omega arith)) ∙ give_all_is parts q (n + k) (omega arith)) in
      (ap (λ (z : MadeAll). z.values) e, ap (λ (z : MadeAll). z.cost) e)
