-- One step leads to one term, and a chain goes on from there.
use Rattle.std.proofs.Common.{◌≡◌, ℕ, zero, suc, ◌+◌, ◌<◌, ◌↔◌, ◌⊎◌, inl, inr, List, [], ◌∷◌, ◌++◌, length, drop, Option, Some, None, slice_index_or, sym, refl, ap, ap₂, ◌∙◌, subst, arith}
use Rattle.law_sig.specs.Trees.{substituted}
use Rattle.law_sig.specs.declared.tree.Tree.{Tree}
use Rattle.law_sig.specs.declared.tree.Tree.TheVariants.{App}
use Rattle.law_sig.specs.declared.parts.Equation.{Equation}
use Rattle.law_sig.specs.declared.parts.SigParts.{SigParts}
use Rattle.law_laws.proofs.TreeFacts.{same_app}
use Rattle.law_laws.proofs.BodyFacts.{some_is}
use Rattle.law_sig.specs.declared.chain.Bind.{Bind}
use Rattle.law_sig.specs.declared.chain.Step.{Step}
use Rattle.law_sig.specs.Lists.{numbered}
use Rattle.law_sig.specs.Chains.{Rewrites, AreBinds, IsStep, Replays, bound_in, start_side, end_side}
use Rattle.law_sig.specs.Chains.Rewrites.{root, below}
use Rattle.law_sig.specs.Chains.Replays.{done, next}
use Rattle.law_chains.specs.Replaying.{IsReplaced, IsStepped}
use Rattle.law_chains.proofs.Replacing.{Below, inverted}

-- One replacement

-- two ways to say where an item stands
record SameParts {A : Type 0} (before before' : List A) (x x' : A) (after after' : List A) : Type 0 where
  front : before ≡ before'
  item : x ≡ x'
  back : after ≡ after'

same_parts : {A : Type 0} (before before' : List A) (x x' : A) (after after' : List A) → length before ≡ length before'
    → before ++ x ∷ after ≡ before' ++ x' ∷ after' → SameParts before before' x x' after after'
same_parts [] [] x x' after after' long e = record { front = refl; item = cc; back = cc }
same_parts [] (b' ∷ before') x x' after after' long e = cc
same_parts (b ∷ before) [] x x' after after' long e = cc
same_parts {A} (b ∷ before) (b' ∷ before') x x' after after' long e =
    let lower : length before ≡ length before' = omega arith in
    let first : b ≡ b' = cc in
    let others : before ++ x ∷ after ≡ before' ++ x' ∷ after' = cc in
    let p = same_parts before before' x x' after after' lower others in
    record { front = ap₂ ◌∷◌ first p.front; item = p.item; back = p.back }

pub one_rewrite : {from to : Tree} {place : List ℕ} {s t : Tree} → Rewrites from to place s t → (u : Tree) → Rewrites from to place s u → t ≡ u
one_rewrite {from} {to} root u h = by (inverted h)
  where
    by : ((◌≡◌ {A = List ℕ} [] []) × (from ≡ from) × (u ≡ to)) ⊎ Below from to [] from u → to ≡ u
    by (inl e) = sym e.2
    by (inr b) = cc b.place_is
one_rewrite {from} {to} (below f before after place s t inner) u h = by (one_rewrite inner) (inverted h)
  where
    by : ((v : Tree) → Rewrites from to place s v → t ≡ v)
        → ((length before ∷ place ≡ []) × (App f (before ++ s ∷ after) ≡ from) × (u ≡ to)) ⊎ Below from to (length before ∷ place) (App f (before ++ s ∷ after)) u
        → App f (before ++ t ∷ after) ≡ u
    by one (inl e) = cc e.0
    by one (inr b) =
        let places = b.place_is in
        let long : length before ≡ length b.before = cc in
        let rest : b.rest ≡ place = cc in
        let same = same_app f b.head (before ++ s ∷ after) (b.before ++ b.old ∷ b.after) b.term_is in
        let p = same_parts before b.before s b.old after b.after long same.1 in
        let on : t ≡ b.new = one b.new (subst (λ q. Rewrites from to q s b.new) rest (subst (λ w. Rewrites from to b.rest w b.new) (sym p.item) b.inner)) in
        ap₂ App same.0 (ap₂ ◌++◌ p.front (ap₂ ◌∷◌ on p.back)) ∙ sym b.new_is

-- One step

pub one_step : (parts : SigParts) (equations : List Equation) (step : Step) (s t u : Tree) → IsStep parts equations step s t → IsStep parts equations step s u → t ≡ u
one_step parts equations step s t u h k =
    one_rewrite h.rewrites u
    (subst (λ (q : Equation). Rewrites (substituted (bound_in step.binds) (start_side step.dir q)) (substituted (bound_in step.binds) (end_side step.dir q)) step.place s u)
    (some_is k.equation h.equation (sym k.named ∙ h.named)) k.rewrites)

-- a step by what its parts lead to
pub stepped : (parts : SigParts) (equations : List Equation) (step : Step) (q : Equation) (s : Tree) (r : Option Tree)
    → numbered equations step.number ≡ Some q → AreBinds parts q step.binds
    → IsReplaced (substituted (bound_in step.binds) (start_side step.dir q)) (substituted (bound_in step.binds) (end_side step.dir q)) step.place s r
    → IsStepped parts equations step s r
stepped parts equations step q s None named are never = λ t h. never t
    (subst (λ (p : Equation). Rewrites (substituted (bound_in step.binds) (start_side step.dir p)) (substituted (bound_in step.binds) (end_side step.dir p)) step.place s t)
    (some_is h.equation q (sym h.named ∙ named)) h.rewrites)
stepped parts equations step q s (Some t) named are leads = record { equation = q; named = named; binds = are; rewrites = leads }

-- the same by the copies that the code reads
pub stepped_by : (parts : SigParts) (equations : List Equation) (step : Step) (q : Equation) (s : Tree) (r : Option Tree) (binds : List Bind) (place : List ℕ) (from to : Tree)
    → Some q ≡ numbered equations step.number → AreBinds parts q binds → binds ≡ step.binds → place ≡ step.place → from ≡ start_side step.dir q → to ≡ end_side step.dir q
    → IsReplaced (substituted (bound_in binds) from) (substituted (bound_in binds) to) place s r → IsStepped parts equations step s r
stepped_by parts equations step q s r binds place from to named are binds_is place_is from_is to_is h =
    stepped parts equations step q s r (sym named) (subst (AreBinds parts q) binds_is are)
    (subst (λ f. IsReplaced f (substituted (bound_in step.binds) (end_side step.dir q)) step.place s r) (ap₂ (λ b t. substituted (bound_in b) t) binds_is from_is)
    (subst (λ t. IsReplaced (substituted (bound_in binds) from) t step.place s r) (ap₂ (λ b t. substituted (bound_in b) t) binds_is to_is)
    (subst (λ p. IsReplaced (substituted (bound_in binds) from) (substituted (bound_in binds) to) p s r) place_is h)))

-- A chain

pub dropped_at : {A : Type 0} (xs : List A) (i : ℕ) (x : A) → i < length xs → x ≡ slice_index_or xs i x → drop i xs ≡ x ∷ drop (i + 1) xs
dropped_at [] i x early is = absurd (omega arith)
dropped_at (y ∷ xs) zero x early is = ap (λ z. z ∷ xs) (sym is)
dropped_at (y ∷ xs) (suc i) x early is =
    let lower : i < length xs = omega arith in
    let up : suc (i + 1) ≡ suc i + 1 = omega arith in
    dropped_at xs i x lower is ∙ ap (λ n. x ∷ drop n (y ∷ xs)) up

-- a chain's first step and the rest
record First (parts : SigParts) (equations : List Equation) (step : Step) (steps : List Step) (s u : Tree) : Type 0 where
  mid : Tree
  one : IsStep parts equations step s mid
  rest : Replays parts equations steps mid u

-- what a chain is, by its steps
abbrev Parted : SigParts → List Equation → List Step → Tree → Tree → Type 0
Parted parts equations [] s u = s ≡ u
Parted parts equations (step ∷ steps) s u = First parts equations step steps s u

parted : {parts : SigParts} {equations : List Equation} {steps : List Step} {s u : Tree} → Replays parts equations steps s u → Parted parts equations steps s u
parted (done s) = refl
parted (next step steps s m t one rest) = record { mid = m; one = one; rest = rest }

pub ended : (parts : SigParts) (equations : List Equation) (steps : List Step) (s u : Tree) → steps ≡ [] → Replays parts equations steps s u ↔ (s ≡ u)
ended parts equations steps s u none = (
  λ h. parted (subst (λ l. Replays parts equations l s u) none h),
  λ e. subst (λ l. Replays parts equations l s u) (sym none) (subst (Replays parts equations [] s) e (done s)),
)

-- after a step the chain goes on from the term that it leads to
pub goes_on : (parts : SigParts) (equations : List Equation) (steps : List Step) (i : ℕ) (step : Step) (s m : Tree) → i < length steps → step ≡ slice_index_or steps i step
    → IsStep parts equations step s m → (u : Tree) → Replays parts equations (drop i steps) s u ↔ Replays parts equations (drop (i + 1) steps) m u
goes_on parts equations steps i step s m early is one u = (
  λ h. (let p : First parts equations step (drop (i + 1) steps) s u = parted (subst (λ l. Replays parts equations l s u) (dropped_at steps i step early is) h) in
      subst (λ t. Replays parts equations (drop (i + 1) steps) t u) (one_step parts equations step s p.mid m p.one one) p.rest),
  λ h. subst (λ l. Replays parts equations l s u) (sym (dropped_at steps i step early is)) (next step (drop (i + 1) steps) s m u one h),
)

pub went_on : (parts : SigParts) (equations : List Equation) (steps : List Step) (from : Tree) (i : ℕ) (step : Step) (s m : Tree) → i < length steps → step ≡ slice_index_or steps i step
    → IsStep parts equations step s m → ((u : Tree) → Replays parts equations (drop i steps) s u ↔ Replays parts equations steps from u)
    → (u : Tree) → Replays parts equations (drop (i + 1) steps) m u ↔ Replays parts equations steps from u
went_on parts equations steps from i step s m early is one have u =
    let g = goes_on parts equations steps i step s m early is one u in
    (λ h. (have u).0 (g.1 h), λ h. g.0 ((have u).1 h))

-- where a step leads to no term, the chain leads nowhere
pub nowhere : (parts : SigParts) (equations : List Equation) (steps : List Step) (from : Tree) (i : ℕ) (step : Step) (s : Tree) → i < length steps → step ≡ slice_index_or steps i step
    → ((m : Tree) → IsStep parts equations step s m → ⊥) → ((u : Tree) → Replays parts equations (drop i steps) s u ↔ Replays parts equations steps from u)
    → (u : Tree) → Replays parts equations steps from u → ⊥
nowhere parts equations steps from i step s early is never have u h =
    let p : First parts equations step (drop (i + 1) steps) s u = parted (subst (λ l. Replays parts equations l s u) (dropped_at steps i step early is) ((have u).1 h)) in
    never p.mid p.one

-- where no step is left, it leads to the term that was reached
pub arrived : (parts : SigParts) (equations : List Equation) (steps : List Step) (from s to : Tree) (i : ℕ) → length steps ≡ i
    → ((u : Tree) → Replays parts equations (drop i steps) s u ↔ Replays parts equations steps from u) → Replays parts equations steps from to ↔ (s ≡ to)
arrived parts equations steps from s to i long have =
    let e = ended parts equations (drop i steps) s to (all_dropped steps i long) in
    (λ h. e.0 ((have to).1 h), λ h. (have to).0 (e.1 h))
  where
    all_dropped : (xs : List Step) (i : ℕ) → length xs ≡ i → drop i xs ≡ []
    all_dropped [] zero long = refl
    all_dropped [] (suc i) long = refl
    all_dropped (x ∷ xs) zero long = cc
    all_dropped (x ∷ xs) (suc i) long = all_dropped xs i (omega arith)
