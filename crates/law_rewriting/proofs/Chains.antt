-- Chains of steps: one after another, backwards, and between instances.
use Rattle.std.proofs.Common.{◌≡◌, ℕ, ◌⊎◌, ◌↔◌, inl, inr, Bool, true, false, true≢false, if◌then◌else◌, Some, List, [], ◌∷◌, ◌++◌, map, sym, refl, ap, ◌∙◌, subst, subst₂}
use Rattle.law_sig.specs.Lists.{In, Each, Rising, numbered}
use Rattle.law_sig.specs.Trees.{holes, Subst, substituted}
use Rattle.law_sig.specs.declared.tree.SortId.{SortId}
use Rattle.law_sig.specs.declared.tree.Tree.{Tree}
use Rattle.law_sig.specs.declared.parts.Equation.{Equation}
use Rattle.law_sig.specs.declared.parts.SigParts.{SigParts}
use Rattle.law_sig.specs.declared.chain.Dir.{Dir}
use Rattle.law_sig.specs.declared.chain.Dir.TheVariants as dir
use Rattle.law_sig.specs.declared.chain.Bind.{Bind}
use Rattle.law_sig.specs.declared.chain.Step.{Step}
use Rattle.law_sig.specs.Chains.{StandsBefore, is_bound, bound_in, start_side, end_side, Rewrites, Replays}
use Rattle.law_sig.specs.Chains.Rewrites.{root, below}
use Rattle.law_sig.specs.Chains.Replays.{done as ended, next as followed}
use Rattle.law_laws.proofs.ListFacts.{in_none, in_rest, in_map, each_of, each_map}
use Rattle.law_laws.proofs.Derivation.{then as after, substituted_twice}
use Rattle.law_rewriting.specs.Steps.{turned, turned_dir, backwards}
use Rattle.law_rewriting.specs.HeadChains.{IsStepWith, ReplaysWith, HasItsSort}
use Rattle.law_rewriting.specs.HeadChains.ReplaysWith.{done, next}
use Rattle.law_rewriting.specs.UnifyingState.{put_bind, put_binds}
use Rattle.law_rewriting.proofs.Variables.{agreeing}
use Rattle.law_rewriting.proofs.Binds.{key, bound_itself, looked_up}
use Rattle.law_rewriting.proofs.OnePair.{rewrites_instance}

-- A chain that replays is one whose bindings have their variables' sorts

pub with_sorts : (parts : SigParts) (equations : List Equation) {steps : List Step} {s t : Tree} → Replays parts equations steps s t → ReplaysWith (HasItsSort parts) equations steps s t
with_sorts parts equations (ended s) = done s
with_sorts parts equations (followed step steps s m t is more) = next step steps s m t
    (record { equation = is.equation; named = is.named; each = is.binds.sorted; rising = is.binds.rising; exact = is.binds.exact; rewrites = is.rewrites }) (with_sorts parts equations more)

pub sorted_replays : (parts : SigParts) (equations : List Equation) {steps : List Step} {s t : Tree} → ReplaysWith (HasItsSort parts) equations steps s t → Replays parts equations steps s t
sorted_replays parts equations (done s) = ended s
sorted_replays parts equations (next step steps s m t is more) = followed step steps s m t
    (record { equation = is.equation; named = is.named; binds = record { sorted = is.each; rising = is.rising; exact = is.exact }; rewrites = is.rewrites }) (sorted_replays parts equations more)

pub replays_map : (P Q : Bind → Type 0) (equations : List Equation) → ((b : Bind) → P b → Q b) → {steps : List Step} {s t : Tree} → ReplaysWith P equations steps s t → ReplaysWith Q equations steps s t
replays_map P Q equations f (done s) = done s
replays_map P Q equations f (next step steps s m t is more) = next step steps s m t
    (record { equation = is.equation; named = is.named; each = each_map P Q f step.binds is.each; rising = is.rising; exact = is.exact; rewrites = is.rewrites }) (replays_map P Q equations f more)

-- One after another, and backwards

pub then_replays : (Q : Bind → Type 0) (equations : List Equation) {steps others : List Step} {s m t : Tree} → ReplaysWith Q equations steps s m → ReplaysWith Q equations others m t
    → ReplaysWith Q equations (steps ++ others) s t
then_replays Q equations (done s) k = k
then_replays Q equations {others = others} {t = t} (next step steps s m e is more) k = next step (steps ++ others) s m t is (then_replays Q equations more k)

pub turned_rewrites : {from to s t : Tree} {place : List ℕ} → Rewrites from to place s t → Rewrites to from place t s
turned_rewrites root = root
turned_rewrites (below f before after place s t r) = below f before after place t s (turned_rewrites r)

turned_start : (d : Dir) (q : Equation) → start_side (turned_dir d) q ≡ end_side d q
turned_start dir.LeftToRight q = refl
turned_start dir.RightToLeft q = refl

turned_end : (d : Dir) (q : Equation) → end_side (turned_dir d) q ≡ start_side d q
turned_end dir.LeftToRight q = refl
turned_end dir.RightToLeft q = refl

pub turned_step : (Q : Bind → Type 0) (equations : List Equation) (step : Step) (s t : Tree) → IsStepWith Q equations step s t → IsStepWith Q equations (turned step) t s
turned_step Q equations step s t h = record {
  equation = h.equation;
  named = h.named;
  each = h.each;
  rising = h.rising;
  exact = h.exact;
  rewrites = subst₂ (λ x y. Rewrites (substituted (bound_in step.binds) x) (substituted (bound_in step.binds) y) step.place t s)
      (sym (turned_start step.dir h.equation)) (sym (turned_end step.dir h.equation)) (turned_rewrites h.rewrites);
}

pub back_replays : (Q : Bind → Type 0) (equations : List Equation) {steps : List Step} {s t : Tree} → ReplaysWith Q equations steps s t → ReplaysWith Q equations (backwards steps) t s
back_replays Q equations (done s) = done s
back_replays Q equations (next step steps s m t is more) =
    then_replays Q equations (back_replays Q equations more) (next (turned step) [] m s s (turned_step Q equations step s m is) (done s))

-- Between instances: each step binds its variables to the instances of what they were bound to

pub one_side : (d : Dir) (q : Equation) (s : SortId) (i : ℕ) → In i (holes s (start_side d q)) ⊎ In i (holes s (end_side d q)) → In i (holes s q.left) ⊎ In i (holes s q.right)
one_side dir.LeftToRight q s i at = at
one_side dir.RightToLeft q s i (inl at) = inr at
one_side dir.RightToLeft q s i (inr at) = inl at

abbrev pub instance_of : Subst → Step → Step
instance_of ρ step = record { place = step.place; number = step.number; dir = step.dir; binds = put_binds ρ step.binds }

keys_put : (ρ : Subst) (bs : List Bind) → map key (put_binds ρ bs) ≡ map key bs
keys_put ρ [] = refl
keys_put ρ (b ∷ bs) = ap (λ l. key b ∷ l) (keys_put ρ bs)

rising_put : (ρ : Subst) (bs : List Bind) → Rising StandsBefore bs → Rising StandsBefore (put_binds ρ bs)
rising_put ρ [] h = tt
rising_put ρ (b ∷ bs) h = (each bs h.0, rising_put ρ bs h.1)
  where
    each : (cs : List Bind) → Each (StandsBefore b) cs → Each (StandsBefore (put_bind ρ b)) (put_binds ρ cs)
    each [] e = tt
    each (c ∷ cs) e = (e.0, each cs e.1)

each_put : (P Q : Bind → Type 0) (ρ : Subst) → ((b : Bind) → P b → Q (put_bind ρ b)) → (bs : List Bind) → Each P bs → Each Q (put_binds ρ bs)
each_put P Q ρ f [] h = tt
each_put P Q ρ f (b ∷ bs) h = (f b h.0, each_put P Q ρ f bs h.1)

-- what a bound variable stands for
bound_put : (ρ : Subst) (bs : List Bind) (s : SortId) (i : ℕ) → In {A = SortId × ℕ} (s, i) (map key bs) → substituted ρ (bound_in bs s i) ≡ bound_in (put_binds ρ bs) s i
bound_put ρ [] s i at = in_none at
bound_put ρ (b ∷ bs) s i at = by (is_bound s i b) refl (in_rest at) (bound_put ρ bs s i)
  where
    by : (c : Bool) → is_bound s i b ≡ c → (◌≡◌ {A = SortId × ℕ} (s, i) (key b)) ⊎ In {A = SortId × ℕ} (s, i) (map key bs)
        → (In {A = SortId × ℕ} (s, i) (map key bs) → substituted ρ (bound_in bs s i) ≡ bound_in (put_binds ρ bs) s i)
        → substituted ρ (if c then b.term else bound_in bs s i) ≡ (if c then substituted ρ b.term else bound_in (put_binds ρ bs) s i)
    by true e k ih = refl
    by false e (inl k) ih = absurd (true≢false (sym (bound_itself b) ∙ ap (λ (z : SortId × ℕ). is_bound z.0 z.1 b) (sym k) ∙ e))
    by false e (inr k) ih = ih k

step_instance : (P Q : Bind → Type 0) (equations : List Equation) (ρ : Subst) → ((b : Bind) → P b → Q (put_bind ρ b)) → (step : Step) (s t : Tree) → IsStepWith P equations step s t
    → IsStepWith Q equations (instance_of ρ step) (substituted ρ s) (substituted ρ t)
step_instance P Q equations ρ f step s t h = record {
  equation = h.equation;
  named = h.named;
  each = each_put P Q ρ f step.binds h.each;
  rising = rising_put ρ step.binds h.rising;
  exact = λ w i. (
    (λ at. (h.exact w i).0 (subst (In {A = SortId × ℕ} (w, i)) (keys_put ρ step.binds) at)),
    (λ at. subst (In {A = SortId × ℕ} (w, i)) (sym (keys_put ρ step.binds)) ((h.exact w i).1 at)),
  );
  rewrites = subst₂ (λ x y. Rewrites x y step.place (substituted ρ s) (substituted ρ t))
      (side (start_side step.dir h.equation) (λ w i at. inl at)) (side (end_side step.dir h.equation) (λ w i at. inr at)) (rewrites_instance ρ h.rewrites);
}
  where
    side : (p : Tree) → ((w : SortId) (i : ℕ) → In i (holes w p) → In i (holes w (start_side step.dir h.equation)) ⊎ In i (holes w (end_side step.dir h.equation)))
        → substituted ρ (substituted (bound_in step.binds) p) ≡ substituted (bound_in (put_binds ρ step.binds)) p
    side p among = substituted_twice (bound_in step.binds) ρ p ∙ agreeing (after (bound_in step.binds) ρ) (bound_in (put_binds ρ step.binds)) p
        (λ w i at. bound_put ρ step.binds w i ((h.exact w i).1 (one_side step.dir h.equation w i (among w i at))))

pub chain_instance : (P Q : Bind → Type 0) (equations : List Equation) (ρ : Subst) → ((b : Bind) → P b → Q (put_bind ρ b)) → {steps : List Step} {s t : Tree} → ReplaysWith P equations steps s t
    → ReplaysWith Q equations (map (instance_of ρ) steps) (substituted ρ s) (substituted ρ t)
chain_instance P Q equations ρ f (done s) = done (substituted ρ s)
chain_instance P Q equations ρ f (next step steps s m t is more) =
    next (instance_of ρ step) (map (instance_of ρ) steps) (substituted ρ s) (substituted ρ m) (substituted ρ t) (step_instance P Q equations ρ f step s m is)
    (chain_instance P Q equations ρ f more)

-- A step that binds an equation's variables as a substitution does

-- exactly the variables of both sides, in order, bound so
pub record AreBindsBy (q : Equation) (σ : Subst) (binds : List Bind) : Type 0 where
  pub rising : Rising StandsBefore binds
  pub exact : (s : SortId) (i : ℕ) → In {A = SortId × ℕ} (s, i) (map key binds) ↔ (In i (holes s q.left) ⊎ In i (holes s q.right))
  pub is : (s : SortId) (i : ℕ) → In i (holes s q.left) ⊎ In i (holes s q.right) → bound_in binds s i ≡ σ s i

-- where what it gives to these variables has the property
abbrev pub Binds : (Bind → Type 0) → Subst → Equation → Type 0
Binds Q σ q = (b : Bind) → In b.index (holes b.sort q.left) ⊎ In b.index (holes b.sort q.right) → b.term ≡ σ b.sort b.index → Q b

pub step_by : (Q : Bind → Type 0) (equations : List Equation) (step : Step) (q : Equation) → numbered equations step.number ≡ Some q → (σ : Subst) → Binds Q σ q
    → AreBindsBy q σ step.binds → (s t : Tree) → Rewrites (substituted σ (start_side step.dir q)) (substituted σ (end_side step.dir q)) step.place s t → IsStepWith Q equations step s t
step_by Q equations step q is σ binds by s t r = record {
  equation = q;
  named = is;
  each = each_of Q step.binds (λ b at. let k = (by.exact b.sort b.index).0 (in_map key at) in binds b k (sym (looked_up step.binds by.rising b at) ∙ by.is b.sort b.index k));
  rising = by.rising;
  exact = by.exact;
  rewrites = subst₂ (λ x y. Rewrites x y step.place s t) (side (start_side step.dir q) (λ w i at. inl at)) (side (end_side step.dir q) (λ w i at. inr at)) r;
}
  where
    side : (p : Tree) → ((w : SortId) (i : ℕ) → In i (holes w p) → In i (holes w (start_side step.dir q)) ⊎ In i (holes w (end_side step.dir q)))
        → substituted σ p ≡ substituted (bound_in step.binds) p
    side p among = agreeing σ (bound_in step.binds) p (λ w i at. sym (by.is w i (one_side step.dir q w i (among w i at))))
