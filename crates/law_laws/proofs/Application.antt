-- Application: the function and the relation agree, the relation has one value and one cost, and what is over budget.
use Rattle.std.proofs.Common.{◌≡◌, ℕ, zero, suc, ◌+◌, ◌<◌, ◌≤◌, ◌⊎◌, inl, inr, Option, Some, None, List, [], ◌∷◌, map, slice_get, sym, refl, ap, ◌∙◌, subst, arith}
use Rattle.law_sig.specs.Lists.{Each}
use Rattle.law_sig.specs.Signature.{symbol_at}
use Rattle.law_sig.specs.Evaluate.{Made, MadeAll, Frame, Chosen, chosen, free, costing, all_more, all_made, making, calling, evaluate, run_chosen, apply_symbol, apply_within, within, ap as applied}
use Rattle.law_sig.specs.Relation.{Named, Gives, GiveAll, Applies}
use Rattle.law_sig.specs.Relation.Gives.{field, param, make, call}
use Rattle.law_sig.specs.Relation.GiveAll.{none, more}
use Rattle.law_sig.specs.Relation.Applies.{built, ran}
use Rattle.law_sig.specs.declared.tree.SymId.{SymId}
use Rattle.law_sig.specs.declared.tree.Tree.{Tree}
use Rattle.law_sig.specs.declared.tree.Tree.TheVariants.{App}
use Rattle.law_sig.specs.declared.tree.Body.{Body}
use Rattle.law_sig.specs.declared.parts.Con.{Con}
use Rattle.law_sig.specs.declared.parts.Fun.{Fun}
use Rattle.law_sig.specs.declared.parts.Sym.{Sym}
use Rattle.law_sig.specs.declared.parts.Sym.TheVariants as sym_is
use Rattle.law_sig.specs.declared.parts.SigParts.{SigParts}
use Rattle.law_laws.proofs.BodyFacts.{body_induct, evaluate-Field, evaluate-Param, evaluate-Make, evaluate-Call, some_is, none_is, free_is, costing_is, making_is, calling_is, first_made, within_is, is_within}

-- a value with its cost
abbrev made : Tree → ℕ → Made
made v n = record { value = v; cost = n }

abbrev made_all : List Tree → ℕ → MadeAll
made_all vs n = record { values = vs; cost = n }

-- a frame whose calls are nested at most so deep
abbrev frame_of : SigParts → ℕ → Named → Frame
frame_of parts deep named = record { fields = named.fields; params = named.params; called = apply_within parts deep }

-- one level of calls
pub deeper : (parts : SigParts) (deep : ℕ) (f : SymId) (args : List Tree)
    → apply_within parts (suc deep) f args ≡ apply_symbol parts (apply_within parts deep) f args (symbol_at parts f)
unfolding apply_within
deeper parts deep f args = refl

pub no_depth : (parts : SigParts) (f : SymId) (args : List Tree) → apply_within parts 0 f args ≡ None
unfolding apply_within
no_depth parts f args = refl

-- From the relation to the function

pub constructor_applied : (parts : SigParts) (deep : ℕ) (f : SymId) (args : List Tree) (con : Con) → symbol_at parts f ≡ Some (sym_is.Con con)
    → apply_within parts (suc deep) f args ≡ Some (made (App f args) 1)
constructor_applied parts deep f args con e = deeper parts deep f args ∙ ap (apply_symbol parts (apply_within parts deep) f args) e

pub function_applied : (parts : SigParts) (deep : ℕ) (f : SymId) (args : List Tree) (fun : Fun) (c : Chosen)
    → symbol_at parts f ≡ Some (sym_is.Fun fun) → chosen parts fun args ≡ Some c
    → apply_within parts (suc deep) f args ≡ costing 1 (evaluate (record { fields = c.fields; params = args; called = apply_within parts deep }) c.body)
function_applied parts deep f args fun c e k = deeper parts deep f args ∙ ap (apply_symbol parts (apply_within parts deep) f args) e
    ∙ ap (run_chosen (apply_within parts deep) args) k

-- the depth below the first call
below : (n : ℕ) (deep : ℕ) → 1 + n ≤ deep → (d : ℕ) × (deep ≡ suc d) × (n ≤ d)
below n zero h = absurd (omega arith)
below n (suc d) h = (d, refl, (omega arith))

mutual
  pub gives_is : (parts : SigParts) {named : Named} {body : Body} {v : Tree} {n : ℕ} → Gives parts named body v n
      → (deep : ℕ) → n ≤ deep → evaluate (frame_of parts deep named) body ≡ Some (made v n)
  gives_is parts (field named body v n number e k z) deep h =
      evaluate-Field (frame_of parts deep named) body number e ∙ ap free k ∙ ap (λ c. Some (made v c)) (sym z)
  gives_is parts (param named body v n number e k z) deep h =
      evaluate-Param (frame_of parts deep named) body number e ∙ ap free k ∙ ap (λ c. Some (made v c)) (sym z)
  gives_is parts (make named body v n f args vs spent e all is z) deep h =
      evaluate-Make (frame_of parts deep named) body f args e ∙ ap (making f) (give_all_is parts all deep (omega arith))
      ∙ ap (λ w. Some (made w (spent + 1))) (sym is) ∙ ap (λ c. Some (made v c)) (sym z)
  gives_is parts (call named body v n f args vs spent applied e all one z) deep h =
      evaluate-Call (frame_of parts deep named) body f args e ∙ ap (calling (frame_of parts deep named) f) (give_all_is parts all deep (omega arith))
      ∙ ap (costing spent) (applies_is parts one deep (omega arith)) ∙ ap (λ c. Some (made v c)) (sym z)

  pub give_all_is : (parts : SigParts) {named : Named} {bodies : List Body} {vs : List Tree} {n : ℕ} → GiveAll parts named bodies vs n
      → (deep : ℕ) → n ≤ deep → all_made (map (evaluate (frame_of parts deep named)) bodies) ≡ Some (made_all vs n)
  give_all_is parts (none named) deep h = refl
  give_all_is parts (more named body bodies v vs cost spent all first rest z) deep h =
      ap (λ o. all_made (o ∷ map (evaluate (frame_of parts deep named)) bodies)) (gives_is parts first deep (omega arith))
      ∙ ap (all_more (made v cost)) (give_all_is parts rest deep (omega arith)) ∙ ap (λ c. Some (made_all (v ∷ vs) c)) (sym z)

  pub applies_is : (parts : SigParts) {f : SymId} {args : List Tree} {v : Tree} {n : ℕ} → Applies parts f args v n
      → (deep : ℕ) → n ≤ deep → apply_within parts deep f args ≡ Some (made v n)
  applies_is parts (built f args v n con e is z) deep h =
      let (d, q, r) = below 0 deep (omega arith) in
      ap (λ k. apply_within parts k f args) q ∙ constructor_applied parts d f args con e ∙ ap (λ w. Some (made w 1)) (sym is) ∙ ap (λ c. Some (made v c)) (sym z)
  applies_is parts (ran f args v n fun c spent e k body z) deep h =
      let (d, q, r) = below spent deep (omega arith) in
      ap (λ k. apply_within parts k f args) q ∙ function_applied parts d f args fun c e k ∙ ap (costing 1) (gives_is parts body d r) ∙ ap (λ c. Some (made v c)) (sym z)

-- From the function to the relation

module _ (parts : SigParts) (deep : ℕ)
    (called_is : (f : SymId) (args : List Tree) (m : Made) → apply_within parts deep f args ≡ Some m → Applies parts f args m.value m.cost) where
  abbrev Given : Named → Body → Type 0
  Given named body = (m : Made) → evaluate (frame_of parts deep named) body ≡ Some m → Gives parts named body m.value m.cost

  all_given : (named : Named) (bodies : List Body) → Each (Given named) bodies
      → (all : MadeAll) → all_made (map (evaluate (frame_of parts deep named)) bodies) ≡ Some all → GiveAll parts named bodies all.values all.cost
  all_given named [] have all e = subst (λ (z : MadeAll). GiveAll parts named [] z.values z.cost) (some_is (made_all [] 0) all e) (none named)
  all_given named (body ∷ bodies) have all e =
      let (first, rest, p, q, r, s) = first_made (evaluate (frame_of parts deep named) body) (map (evaluate (frame_of parts deep named)) bodies) all e in
      subst (λ vs. GiveAll parts named (body ∷ bodies) vs all.cost) (sym r)
      (more named body bodies first.value rest.values first.cost rest.cost all.cost (have.0 first p) (all_given named bodies have.1 rest q) s)

  given : (named : Named) (body : Body) → Given named body
  given named = body_induct (Given named)
      (λ body number e m k. let (p, q) = free_is (slice_get named.fields number) m (sym (evaluate-Field (frame_of parts deep named) body number e) ∙ k) in
      field named body m.value m.cost number e p q)
      (λ body number e m k. let (p, q) = free_is (slice_get named.params number) m (sym (evaluate-Param (frame_of parts deep named) body number e) ∙ k) in
      param named body m.value m.cost number e p q)
      (λ body f args e have m k.
      let (all, o, p, q) = making_is f (all_made (map (evaluate (frame_of parts deep named)) args)) m (sym (evaluate-Make (frame_of parts deep named) body f args e) ∙ k) in
      make named body m.value m.cost f args all.values all.cost e (all_given named args have all o) p q)
      (λ body f args e have m k.
      let (all, one, o, a, p, q) = calling_is (frame_of parts deep named) f (all_made (map (evaluate (frame_of parts deep named)) args)) m (sym (evaluate-Call (frame_of parts deep named) body f args e) ∙ k) in
      call named body m.value m.cost f args all.values all.cost one.cost e (all_given named args have all o)
      (subst (λ v. Applies parts f all.values v one.cost) (sym p) (called_is f all.values one a)) q)

  run_given : (f : SymId) (args : List Tree) (m : Made) (fun : Fun) → symbol_at parts f ≡ Some (sym_is.Fun fun)
      → (o : Option Chosen) → chosen parts fun args ≡ o → run_chosen (apply_within parts deep) args o ≡ Some m → Applies parts f args m.value m.cost
  run_given f args m fun q None k e = none_is m e
  run_given f args m fun q (Some c) k e =
      let (one, o, p, r) = costing_is 1 (evaluate (record { fields = c.fields; params = args; called = apply_within parts deep }) c.body) m e in
      let named : Named = record { fields = c.fields; params = args } in
      ran f args m.value m.cost fun c one.cost q k (subst (λ v. Gives parts named c.body v one.cost) (sym p) (given named c.body one o)) r

  symbol_given : (f : SymId) (args : List Tree) (m : Made) (o : Option Sym) → symbol_at parts f ≡ o
      → apply_symbol parts (apply_within parts deep) f args o ≡ Some m → Applies parts f args m.value m.cost
  symbol_given f args m None q e = none_is m e
  symbol_given f args m (Some (sym_is.Con con)) q e =
      let k : made (App f args) 1 ≡ m = some_is (made (App f args) 1) m e in
      built f args m.value m.cost con q (sym (ap (λ (z : Made). z.value) k)) (sym (ap (λ (z : Made). z.cost) k))
  symbol_given f args m (Some (sym_is.Fun fun)) q e = run_given f args m fun q (chosen parts fun args) refl e

pub is_applied : (parts : SigParts) (deep : ℕ) (f : SymId) (args : List Tree) (m : Made)
    → apply_within parts deep f args ≡ Some m → Applies parts f args m.value m.cost
is_applied parts zero f args m e = none_is m (sym (no_depth parts f args) ∙ e)
is_applied parts (suc deep) f args m e =
    symbol_given parts deep (is_applied parts deep) f args m (symbol_at parts f) refl (sym (deeper parts deep f args) ∙ e)

-- One value and one cost

-- a result at any depth is had at every depth of at least its cost
pub enough : (parts : SigParts) (deep n : ℕ) (f : SymId) (args : List Tree) (m : Made)
    → apply_within parts deep f args ≡ Some m → m.cost ≤ n → apply_within parts n f args ≡ Some m
enough parts deep n f args m e h = applies_is parts (is_applied parts deep f args m e) n h

pub one_value : (parts : SigParts) {f : SymId} {args : List Tree} {v w : Tree} {n k : ℕ}
    → Applies parts f args v n → Applies parts f args w k → (v ≡ w) × (n ≡ k)
one_value parts {n = n} {k = k} p q =
    let e = some_is _ _ (sym (applies_is parts p (n + k) (omega arith)) ∙ applies_is parts q (n + k) (omega arith)) in
    (ap (λ (z : Made). z.value) e, ap (λ (z : Made). z.cost) e)

-- every application costs something
pub costs_something : (parts : SigParts) {f : SymId} {args : List Tree} {v : Tree} {n : ℕ} → Applies parts f args v n → 1 ≤ n
costs_something parts (built f args v n con e is z) = omega arith
costs_something parts (ran f args v n fun c spent e k body z) = omega arith

-- More depth

-- whatever the first gives, the second gives
abbrev Follows : (SymId → List Tree → Option Made) → (SymId → List Tree → Option Made) → Type 0
Follows C D = (f : SymId) (args : List Tree) (m : Made) → C f args ≡ Some m → D f args ≡ Some m

module _ (C D : SymId → List Tree → Option Made) (follows : Follows C D) (fields params : List Tree) where
  abbrev first : Frame
  first = record { fields = fields; params = params; called = C }

  abbrev second : Frame
  second = record { fields = fields; params = params; called = D }

  abbrev Kept : Body → Type 0
  Kept body = (m : Made) → evaluate first body ≡ Some m → evaluate second body ≡ Some m

  all_kept : (bodies : List Body) → Each Kept bodies → (all : MadeAll)
      → all_made (map (evaluate first) bodies) ≡ Some all → all_made (map (evaluate second) bodies) ≡ Some all
  all_kept [] have all e = e
  all_kept (body ∷ bodies) have all e =
      let (one, rest, p, q, r, s) = first_made (evaluate first body) (map (evaluate first) bodies) all e in
      ap (λ o. all_made (o ∷ map (evaluate second) bodies)) (have.0 one p) ∙ ap (all_more one) (all_kept bodies have.1 rest q)
      ∙ sym (ap (all_more one) q) ∙ sym (ap (λ o. all_made (o ∷ map (evaluate first) bodies)) p) ∙ e

  kept : (body : Body) → Kept body
  kept = body_induct Kept
      (λ body number e m k. evaluate-Field second body number e ∙ sym (evaluate-Field first body number e) ∙ k)
      (λ body number e m k. evaluate-Param second body number e ∙ sym (evaluate-Param first body number e) ∙ k)
      (λ body f args e have m k.
      let l = sym (evaluate-Make first body f args e) ∙ k in
      let (all, o, p, q) = making_is f (all_made (map (evaluate first) args)) m l in
      evaluate-Make second body f args e ∙ ap (making f) (all_kept args have all o) ∙ sym (ap (making f) o) ∙ l)
      (λ body f args e have m k.
      let l = sym (evaluate-Call first body f args e) ∙ k in
      let (all, one, o, a, p, q) = calling_is first f (all_made (map (evaluate first) args)) m l in
      evaluate-Call second body f args e ∙ ap (calling second f) (all_kept args have all o) ∙ ap (costing all.cost) (follows f all.values one a)
      ∙ sym (ap (costing all.cost) a) ∙ sym (ap (calling first f) o) ∙ l)

run_kept : (C D : SymId → List Tree → Option Made) → Follows C D → (args : List Tree) (m : Made) (o : Option Chosen)
    → run_chosen C args o ≡ Some m → run_chosen D args o ≡ Some m
run_kept C D follows args m None e = none_is m e
run_kept C D follows args m (Some c) e =
    let (one, o, p, r) = costing_is 1 (evaluate (record { fields = c.fields; params = args; called = C }) c.body) m e in
    ap (costing 1) (kept C D follows c.fields args c.body one o) ∙ sym (ap (costing 1) o) ∙ e

symbol_kept : (parts : SigParts) (C D : SymId → List Tree → Option Made) → Follows C D → (f : SymId) (args : List Tree) (m : Made) (o : Option Sym)
    → apply_symbol parts C f args o ≡ Some m → apply_symbol parts D f args o ≡ Some m
symbol_kept parts C D follows f args m None e = none_is m e
symbol_kept parts C D follows f args m (Some (sym_is.Con con)) e = e
symbol_kept parts C D follows f args m (Some (sym_is.Fun fun)) e = run_kept C D follows args m (chosen parts fun args) e

pub more_depth : (parts : SigParts) (deep limit : ℕ) → deep ≤ limit → (f : SymId) (args : List Tree) (m : Made)
    → apply_within parts deep f args ≡ Some m → apply_within parts limit f args ≡ Some m
more_depth parts zero limit h f args m e = none_is m (sym (no_depth parts f args) ∙ e)
more_depth parts (suc deep) zero h f args m e = absurd (omega arith)
more_depth parts (suc deep) (suc limit) h f args m e = deeper parts limit f args
    ∙ symbol_kept parts (apply_within parts deep) (apply_within parts limit) (more_depth parts deep limit (omega arith)) f args m (symbol_at parts f)
    (sym (deeper parts deep f args) ∙ e)

-- With a budget

pub ap_gives : (parts : SigParts) (f : SymId) (args : List Tree) (budget : ℕ) (m : Made)
    → applied parts f args budget ≡ Some m → Applies parts f args m.value m.cost × (m.cost ≤ budget)
ap_gives parts f args budget m e =
    let (p, q) = within_is budget (apply_within parts budget f args) m e in
    (is_applied parts budget f args m p, q)

pub gives_ap : (parts : SigParts) {f : SymId} {args : List Tree} {v : Tree} {n : ℕ} (budget : ℕ)
    → Applies parts f args v n → n ≤ budget → applied parts f args budget ≡ Some (made v n)
gives_ap parts {v = v} {n = n} budget p h = ap (within budget) (applies_is parts p budget h) ∙ is_within budget (made v n) h

pub over_costs : (parts : SigParts) {f : SymId} {args : List Tree} {v : Tree} {n : ℕ} (budget : ℕ)
    → applied parts f args budget ≡ None → Applies parts f args v n → budget < n
over_costs parts {v = v} {n = n} budget e p = by (split n budget)
  where
    split : (n budget : ℕ) → (n ≤ budget) ⊎ (budget < n)
    split n budget = grind arith

    by : (n ≤ budget) ⊎ (budget < n) → budget < n
    by (inl h) = none_is (made v n) (sym e ∙ gives_ap parts budget p h)
    by (inr h) = h

pub costs_over : (parts : SigParts) (f : SymId) (args : List Tree) (budget : ℕ)
    → ((v : Tree) (n : ℕ) → Applies parts f args v n → budget < n) → applied parts f args budget ≡ None
costs_over parts f args budget over = by (applied parts f args budget) refl
  where
    by : (o : Option Made) → applied parts f args budget ≡ o → o ≡ None
    by None e = refl
    by (Some m) e =
        let (p, q) = ap_gives parts f args budget m e in
        let r = over m.value m.cost p in
        absurd (omega arith)

-- more budget changes nothing
pub more_budget : (parts : SigParts) (f : SymId) (args : List Tree) (budget limit : ℕ) (m : Made)
    → applied parts f args budget ≡ Some m → budget ≤ limit → applied parts f args limit ≡ Some m
more_budget parts f args budget limit m e h =
    let (p, q) = ap_gives parts f args budget m e in
    gives_ap parts limit p (omega arith)
