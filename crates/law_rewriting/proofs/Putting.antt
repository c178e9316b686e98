-- Putting a term for one variable.
use Rattle.std.proofs.Common.{◌≡◌, ℕ, ◌⊎◌, inl, inr, Bool, true, false, ◌&&◌, eq-eqb, if◌then◌else◌, List, [], ◌∷◌, map, sym, refl, ap, ap₂, ◌∙◌, subst}
use Rattle.law_sig.specs.Lists.{In, Each}
use Rattle.law_sig.specs.Trees.{joined, holes, Subst, substituted}
use Rattle.law_sig.specs.declared.tree.SortId.{SortId}
use Rattle.law_sig.specs.declared.tree.Tree.{Tree}
use Rattle.law_sig.specs.declared.tree.Tree.TheVariants.{Var}
use Rattle.law_laws.proofs.TreeFacts.{tree_induct, holes-App, substituted-Var, substituted-App, substituted_itself}
use Rattle.law_laws.proofs.ListFacts.{in_none, in_left, in_right, in_split}
use Rattle.law_laws.proofs.Sorts.{same_sort_itself}
use Rattle.law_laws.proofs.Derivation.{then as after, substituted_twice}
use Rattle.law_sig.specs.declared.chain.Bind.{Bind}
use Rattle.law_sig.specs.Chains.{is_bound, bound_in}
use Rattle.law_rewriting.specs.Heads.{Sorts, head_sort, KeepsHeads}
use Rattle.law_rewriting.proofs.Heads.{head-Var}
use Rattle.law_rewriting.specs.UnifyingState.{Problems, single, put_problems, put_binds, bound_more, Solves, Follows, Rests}
use Rattle.law_rewriting.proofs.Variables.{hole_here, agreeing}
use Rattle.law_rewriting.proofs.Binds.{bound_is}

pub same_all : (σ τ : Subst) → ((s : SortId) (i : ℕ) → σ s i ≡ τ s i) → (t : Tree) → substituted σ t ≡ substituted τ t
same_all σ τ h t = agreeing σ τ t (λ s i at. h s i)

pub single_own : (s : SortId) (i : ℕ) (t : Tree) → single s i t s i ≡ t
single_own s i t = ap (λ b. if b then t else Var s i) (ap₂ ◌&&◌ (same_sort_itself s) (eq-eqb i i refl))

-- where the variable and the term are one under it, putting the term changes nothing
put_at : (τ : Subst) (s : SortId) (i : ℕ) (t : Tree) → τ s i ≡ substituted τ t → (u : SortId) (j : ℕ) → substituted τ (single s i t u j) ≡ τ u j
put_at τ s i t e u j = by (is_bound u j (record { sort = s; index = i; term = t })) refl
  where
    by : (b : Bool) → is_bound u j (record { sort = s; index = i; term = t }) ≡ b → substituted τ (if b then t else Var u j) ≡ τ u j
    by true q = let p = bound_is u j (record { sort = s; index = i; term = t }) q in sym e ∙ (λ k. τ (p.0 k) (p.1 k))
    by false q = substituted-Var τ u j

pub put_same : (τ : Subst) (s : SortId) (i : ℕ) (t : Tree) → τ s i ≡ substituted τ t → (u : Tree) → substituted τ (substituted (single s i t) u) ≡ substituted τ u
put_same τ s i t e u = substituted_twice (single s i t) τ u ∙ same_all (after (single s i t) τ) τ (put_at τ s i t e) u

module _ (τ : Subst) (s : SortId) (i : ℕ) (t : Tree) (e : τ s i ≡ substituted τ t) where
  pub solves_put : (ps : Problems) → Solves τ ps → Solves τ (put_problems (single s i t) ps)
  solves_put [] h = tt
  solves_put (p ∷ ps) h = (put_same τ s i t e p.0 ∙ h.0 ∙ sym (put_same τ s i t e p.1), solves_put ps h.1)

  pub put_solves : (ps : Problems) → Solves τ (put_problems (single s i t) ps) → Solves τ ps
  put_solves [] h = tt
  put_solves (p ∷ ps) h = (sym (put_same τ s i t e p.0) ∙ h.0 ∙ put_same τ s i t e p.1, put_solves ps h.1)

  pub follows_put : (bs : List Bind) → Follows τ bs → Follows τ (put_binds (single s i t) bs)
  follows_put [] h = tt
  follows_put (b ∷ bs) h = (h.0 ∙ sym (put_same τ s i t e b.term), follows_put bs h.1)

  pub put_follows : (bs : List Bind) → Follows τ (put_binds (single s i t) bs) → Follows τ bs
  put_follows [] h = tt
  put_follows (b ∷ bs) h = (h.0 ∙ put_same τ s i t e b.term, put_follows bs h.1)

-- one more binding is one more substitution
after_put : (s : SortId) (i : ℕ) (t : Tree) (bs : List Bind) (u : SortId) (j : ℕ) → is_bound u j (record { sort = s; index = i; term = t }) ≡ false
    → bound_in (put_binds (single s i t) bs) u j ≡ substituted (single s i t) (bound_in bs u j)
after_put s i t [] u j q = sym (substituted-Var (single s i t) u j ∙ ap (λ b. if b then t else Var u j) q)
after_put s i t (b ∷ bs) u j q = by (is_bound u j b) (after_put s i t bs u j q)
  where
    by : (c : Bool) → bound_in (put_binds (single s i t) bs) u j ≡ substituted (single s i t) (bound_in bs u j)
        → (if c then substituted (single s i t) b.term else bound_in (put_binds (single s i t) bs) u j) ≡ substituted (single s i t) (if c then b.term else bound_in bs u j)
    by true ih = refl
    by false ih = ih

pub more_is : (s : SortId) (i : ℕ) (t : Tree) (bs : List Bind) → bound_in bs s i ≡ Var s i → (u : SortId) (j : ℕ)
    → bound_in (bound_more s i t bs) u j ≡ substituted (single s i t) (bound_in bs u j)
more_is s i t bs e u j = by (is_bound u j (record { sort = s; index = i; term = t })) refl
  where
    by : (b : Bool) → is_bound u j (record { sort = s; index = i; term = t }) ≡ b
        → (if b then t else bound_in (put_binds (single s i t) bs) u j) ≡ substituted (single s i t) (bound_in bs u j)
    by true q =
        let p = bound_is u j (record { sort = s; index = i; term = t }) q in
        let a : bound_in bs u j ≡ Var s i = sym (λ k. bound_in bs (p.0 k) (p.1 k)) ∙ e in
        sym (ap (substituted (single s i t)) a ∙ substituted-Var (single s i t) s i ∙ single_own s i t)
    by false q = after_put s i t bs u j q

-- Sorts by heads

pub single_keeps : (r : Sorts) (s : SortId) (i : ℕ) (t : Tree) → head_sort r t ≡ s → KeepsHeads r (single s i t)
single_keeps r s i t e u j = by (is_bound u j (record { sort = s; index = i; term = t })) refl
  where
    by : (b : Bool) → is_bound u j (record { sort = s; index = i; term = t }) ≡ b → head_sort r (if b then t else Var u j) ≡ u
    by true q = e ∙ (bound_is u j (record { sort = s; index = i; term = t }) q).0
    by false q = head-Var r u j

-- a term in which the variable doesn't stand stays
pub single_rests : (s : SortId) (i : ℕ) (t u : Tree) → (In i (holes s u) → ⊥) → Rests (single s i t) u
single_rests s i t u n = agreeing (single s i t) Var u (λ w j at. by w j at (is_bound w j (record { sort = s; index = i; term = t })) refl) ∙ substituted_itself u
  where
    by : (w : SortId) (j : ℕ) → In j (holes w u) → (b : Bool) → is_bound w j (record { sort = s; index = i; term = t }) ≡ b → (if b then t else Var w j) ≡ Var w j
    by w j at true q =
        let p = bound_is w j (record { sort = s; index = i; term = t }) q in
        absurd (n (subst (λ z. In z (holes s u)) (sym p.1) (subst (λ z. In j (holes z u)) (sym p.0) at)))
    by w j at false q = refl

-- a variable of an instance is one of what stands for a variable
pub record ComesFrom (σ : Subst) (t : Tree) (s : SortId) (i : ℕ) : Type 0 where
  pub sort : SortId
  pub index : ℕ
  pub stands : In index (holes sort t)
  pub inside : In i (holes s (σ sort index))

record Below (σ : Subst) (ts : List Tree) (s : SortId) (i : ℕ) : Type 0 where
  pub sort : SortId
  pub index : ℕ
  pub stands : In index (joined (map (holes sort) ts))
  pub inside : In i (holes s (σ sort index))

abbrev Comes : Subst → Tree → Type 0
Comes σ t = (s : SortId) (i : ℕ) → In i (holes s (substituted σ t)) → ComesFrom σ t s i

pub comes_from : (σ : Subst) (t : Tree) → Comes σ t
comes_from σ = tree_induct (Comes σ)
    (λ u j s i h. record { sort = u; index = j; stands = hole_here u j; inside = subst (λ z. In i (holes s z)) (substituted-Var σ u j) h })
    (λ f args have s i h. let c = all args have s i (subst (In i) (holes-App s f (map (substituted σ) args)) (subst (λ z. In i (holes s z)) (substituted-App σ f args) h)) in
    record { sort = c.sort; index = c.index; inside = c.inside; stands = subst (In c.index) (sym (holes-App c.sort f args)) c.stands })
  where
    all : (ts : List Tree) → Each (Comes σ) ts → (s : SortId) (i : ℕ) → In i (joined (map (holes s) (map (substituted σ) ts))) → Below σ ts s i
    all [] have s i h = in_none h
    all (t ∷ ts) have s i h = by (λ k. all ts have.1 s i k) (in_split (holes s (substituted σ t)) (joined (map (holes s) (map (substituted σ) ts))) h)
      where
        by : (In i (joined (map (holes s) (map (substituted σ) ts))) → Below σ ts s i) → In i (holes s (substituted σ t)) ⊎ In i (joined (map (holes s) (map (substituted σ) ts))) → Below σ (t ∷ ts) s i
        by rest (inl k) = let c = have.0 s i k in record { sort = c.sort; index = c.index; inside = c.inside; stands = in_left (joined (map (holes c.sort) ts)) c.stands }
        by rest (inr k) = let c = rest k in record { sort = c.sort; index = c.index; inside = c.inside; stands = in_right (holes c.sort t) c.stands }
