-- Fewer variables are left with each binding.
use Rattle.std.proofs.Common.{◌≡◌, ℕ, suc, ◌≤◌, ◌<◌, ◌⊎◌, inl, inr, Bool, true, false, ◌||◌, true≢false, if◌then◌else◌, List, [], ◌∷◌, ◌++◌, sym, refl, ap, ap₂, ◌∙◌, arith}
use Rattle.std.specs.List.{list_any}
use Rattle.law_sig.specs.Lists.{In}
use Rattle.law_sig.specs.Lists.In.{here, there}
use Rattle.law_sig.specs.Trees.{holes, Subst}
use Rattle.law_sig.specs.declared.tree.SortId.{SortId}
use Rattle.law_sig.specs.declared.tree.Tree.{Tree}
use Rattle.law_sig.specs.declared.tree.Tree.TheVariants.{Var}
use Rattle.law_laws.proofs.ListFacts.{in_none, in_rest, in_left, in_right}
use Rattle.law_sig.specs.declared.chain.Bind.{Bind}
use Rattle.law_sig.specs.Chains.{is_bound, bound_in}
use Rattle.law_rewriting.specs.Heads.{Sorts, head_sort}
use Rattle.law_rewriting.specs.UnifyingState.{Problems, single, put_binds, bound_more, IsOpen}
use Rattle.law_rewriting.proofs.Vars.{Variable, vars, hole_in_vars}
use Rattle.law_rewriting.proofs.Turns.{free, stands_in, not_bound_yet}
use Rattle.law_rewriting.proofs.Binds.{bound_itself}

-- whether a variable is bound
abbrev pub has_bind : List Bind → Variable → Bool
has_bind bs v = list_any (is_bound v.0 v.1) bs

-- how many of these pass no test
abbrev pub untested : (Variable → Bool) → List Variable → ℕ
untested p [] = 0
untested p (v ∷ vs) = if p v then untested p vs else suc (untested p vs)

abbrev Widens : (Variable → Bool) → (Variable → Bool) → Type 0
Widens p q = (v : Variable) → p v ≡ true → q v ≡ true

no_more : (p q : Variable → Bool) → Widens p q → (vs : List Variable) → untested q vs ≤ untested p vs
no_more p q h [] = omega arith
no_more p q h (v ∷ vs) = by (p v) (q v) refl refl (no_more p q h vs)
  where
    by : (a b : Bool) → p v ≡ a → q v ≡ b → untested q vs ≤ untested p vs → (if b then untested q vs else suc (untested q vs)) ≤ (if a then untested p vs else suc (untested p vs))
    by true true d e r = r
    by true false d e r = absurd (true≢false (sym (h v d) ∙ e))
    by false true d e r = omega arith
    by false false d e r = omega arith

fewer : (p q : Variable → Bool) → Widens p q → (v : Variable) → p v ≡ false → q v ≡ true → (vs : List Variable) → In v vs → untested q vs < untested p vs
fewer p q h v d e [] at = in_none at
fewer p q h v d e (u ∷ vs) at = by (in_rest at) (p u) (q u) refl refl (fewer p q h v d e vs)
  where
    by : (v ≡ u) ⊎ In v vs → (a b : Bool) → p u ≡ a → q u ≡ b → (In v vs → untested q vs < untested p vs) → (if b then untested q vs else suc (untested q vs)) < (if a then untested p vs else suc (untested p vs))
    by (inl w) true b x y ih = absurd (true≢false (sym x ∙ ap p (sym w) ∙ d))
    by (inl w) false false x y ih = absurd (true≢false (sym e ∙ ap q w ∙ y))
    by (inl w) false true x y ih = let r = no_more p q h vs in omega (arith, r)
    by (inr k) true true x y ih = ih k
    by (inr k) true false x y ih = absurd (true≢false (sym (h u x) ∙ y))
    by (inr k) false true x y ih = let r = ih k in omega (arith, r)
    by (inr k) false false x y ih = let r = ih k in omega (arith, r)

bind_put : (θ : Subst) (bs : List Bind) (v : Variable) → has_bind (put_binds θ bs) v ≡ has_bind bs v
bind_put θ [] v = refl
bind_put θ (b ∷ bs) v = ap (λ x. is_bound v.0 v.1 b || x) (bind_put θ bs v)

or_true : (a b : Bool) → b ≡ true → (a || b) ≡ true
or_true true b e = refl
or_true false b e = e

none_bound : (bs : List Bind) (v : Variable) → ((b : Bind) → In b bs → is_bound v.0 v.1 b ≡ false) → has_bind bs v ≡ false
none_bound [] v h = refl
none_bound (b ∷ bs) v h = ap₂ ◌||◌ (h b here) (none_bound bs v (λ c at. h c (there at)))

-- the measure of the loop over bindings
pub binding_falls : (r : Sorts) (a b : Tree) (s : SortId) (i : ℕ) (t : Tree) (ps : Problems) (bs : List Bind) → IsOpen r a b ((Var s i, t) ∷ ps) bs
    → (In i (holes s t) → ⊥) → head_sort r t ≡ s → untested (has_bind (bound_more s i t bs)) (vars a ++ vars b) < untested (has_bind bs) (vars a ++ vars b)
binding_falls r a b s i t ps bs g n k =
    fewer (has_bind bs) (has_bind (bound_more s i t bs))
    (λ v h. or_true (is_bound v.0 v.1 (record { sort = s; index = i; term = t })) (has_bind (put_binds (single s i t) bs) v) (bind_put (single s i t) bs v ∙ h))
    (s, i) (none_bound bs (s, i) (not_bound_yet (bound_in bs) bs g.own g.clean s i (free r a b s i t ps bs g n k)))
    (ap (λ x. x || has_bind (put_binds (single s i t) bs) (s, i)) (bound_itself (record { sort = s; index = i; term = t })))
    (vars a ++ vars b) (at (stands_in r a b s i t ps bs g n k))
  where
    at : In i (holes s a) ⊎ In i (holes s b) → In {A = Variable} (s, i) (vars a ++ vars b)
    at (inl h) = in_left (vars b) (hole_in_vars a s i h)
    at (inr h) = in_right (vars a) (hole_in_vars b s i h)
