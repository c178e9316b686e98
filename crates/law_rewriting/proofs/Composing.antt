-- The ordered step of a term from those of its arguments, and the step at its root.
use Rattle.std.proofs.Common.{◌≡◌, ℕ, ◌<◌, ◌⊎◌, inl, inr, List, [], ◌∷◌, ◌++◌, length, sym, refl, ◌∙◌, subst, arith}
use Rattle.law_sig.specs.Lists.{In, Each}
use Rattle.law_sig.specs.Lists.In.{here, there}
use Rattle.law_sig.specs.Trees.{substituted}
use Rattle.law_sig.specs.declared.tree.SortId.{SortId}
use Rattle.law_sig.specs.declared.tree.SymId.{SymId}
use Rattle.law_sig.specs.declared.tree.Tree.{Tree}
use Rattle.law_sig.specs.declared.tree.Tree.TheVariants.{Var, App}
use Rattle.law_sig.specs.declared.parts.SigParts.{SigParts}
use Rattle.law_laws.proofs.TreeFacts.{same_app, var_no_app}
use Rattle.law_laws.proofs.ListFacts.{of_each, in_right}
use Rattle.law_sig.specs.declared.chain.Step.{Step}
use Rattle.law_sig.specs.Chains.{Rewrites, bound_in, start_side, end_side}
use Rattle.law_sig.specs.Chains.Rewrites.{below}
use Rattle.law_rewriting.specs.Steps.{Rules, Sooner, Earlier, Precedes, Reduces, IsOrderedStep, IsNormal}
use Rattle.law_rewriting.specs.Roots.{IsRootStep, HasNoRootStep, in_argument}
use Rattle.law_rewriting.proofs.Places.{inside, same_around}

-- A step in an argument is a step of the whole, and the other way round

pub up : (parts : SigParts) (rules : Rules) (step : Step) (f : SymId) (before after : List Tree) (s t : Tree) → Reduces parts rules step s t
    → Reduces parts rules (in_argument (length before) step) (App f (before ++ s ∷ after)) (App f (before ++ t ∷ after))
up parts rules step f before after s t h = record {
  equation = h.equation;
  is_rule = h.is_rule;
  applies = record { binds = h.applies.binds; filled = h.applies.filled; smaller = h.applies.smaller; rewrites = below f before after step.place s t h.applies.rewrites };
}

abbrev placed : List ℕ → Step → Step
placed place step = record { place = place; number = step.number; dir = step.dir; binds = step.binds }

pub record Down (parts : SigParts) (rules : Rules) (step : Step) (n : ℕ) (place : List ℕ) (s : Tree) : Type 0 where
  pub f : SymId
  pub before : List Tree
  pub after : List Tree
  pub x : Tree
  pub y : Tree
  pub at : length before ≡ n
  pub was : s ≡ App f (before ++ x ∷ after)
  pub reduces : Reduces parts rules (placed place step) x y

pub down : (parts : SigParts) (rules : Rules) (step : Step) (n : ℕ) (place : List ℕ) (s t : Tree) → step.place ≡ n ∷ place → Reduces parts rules step s t → Down parts rules step n place s
down parts rules step n place s t e h =
    let i = inside (subst (λ z. Rewrites (substituted (bound_in step.binds) (start_side step.dir h.equation)) (substituted (bound_in step.binds) (end_side step.dir h.equation)) z s t) e h.applies.rewrites) in
    record {
      f = i.f;
      before = i.before;
      after = i.after;
      x = i.x;
      y = i.y;
      at = i.at;
      was = i.was;
      reduces = record {
        equation = h.equation;
        is_rule = h.is_rule;
        applies = record { binds = h.applies.binds; filled = h.applies.filled; smaller = h.applies.smaller; rewrites = i.rewrites };
      };
    }

-- an item further to the left is among those before
left_of : (bs cs : List Tree) (x y : Tree) (as' ds : List Tree) → length cs < length bs → bs ++ x ∷ as' ≡ cs ++ y ∷ ds → In y bs
left_of [] cs x y as' ds l e = absurd (omega arith)
left_of (b ∷ bs) [] x y as' ds l e = let h : b ≡ y = cc in subst (λ z. In z (b ∷ bs)) h here
left_of (b ∷ bs) (c ∷ cs) x y as' ds l e = let t : bs ++ x ∷ as' ≡ cs ++ y ∷ ds = cc in there (left_of bs cs x y as' ds (omega arith) t)

in_middle : (bs : List Tree) (x : Tree) (ds : List Tree) → In x (bs ++ x ∷ ds)
in_middle bs x ds = in_right bs here

not_root : (n : ℕ) (p : List ℕ) → [] ≡ n ∷ p → ⊥
not_root n p e = cc

-- a place is the root or goes into an argument
at_place : {A : Type 0} (place : List ℕ) → (place ≡ [] → A) → ((n : ℕ) (p : List ℕ) → place ≡ n ∷ p → A) → A
at_place [] r b = r refl
at_place (n ∷ p) r b = b n p refl

module _ (parts : SigParts) (rules : Rules) where
  -- in a term with normal arguments each step is at the root
  pub at_root_alone : (f : SymId) (args : List Tree) → Each (IsNormal parts rules) args → (step : Step) (t : Tree) → Reduces parts rules step (App f args) t → step.place ≡ []
  at_root_alone f args normal step t h = at_place step.place (λ e. e) (λ n p e. let d = down parts rules step n p (App f args) t e h in
      let same = (same_app f d.f args (d.before ++ d.x ∷ d.after) d.was).1 in
      absurd (of_each (IsNormal parts rules) (subst (In d.x) (sym same) (in_middle d.before d.x d.after)) normal (placed p step) d.y d.reduces))

  pub var_at_root : (s : SortId) (i : ℕ) (step : Step) (t : Tree) → Reduces parts rules step (Var s i) t → step.place ≡ []
  var_at_root s i step t h = at_place step.place (λ e. e) (λ n p e. let d = down parts rules step n p (Var s i) t e h in absurd (var_no_app s i d.f (d.before ++ d.x ∷ d.after) d.was))

  -- so the step at the root is the ordered step, and where there is none the term is normal
  pub ordered_at_root : (s : Tree) → ((step : Step) (t : Tree) → Reduces parts rules step s t → step.place ≡ []) → (step : Step) (t : Tree) → IsRootStep parts rules step s t → IsOrderedStep parts rules step s t
  ordered_at_root s alone step t h = record { reduces = h.reduces; first = before }
    where
      sooner_than_root : (place : List ℕ) → place ≡ [] → Sooner place step.place → ⊥
      sooner_than_root [] e k = k
      sooner_than_root (n ∷ p) e k = cc

      before : (other : Step) (u : Tree) → Reduces parts rules other s u → Precedes other step → ⊥
      before other u k (inl sooner) = sooner_than_root other.place (alone other u k) sooner
      before other u k (inr same) = h.first other u k (alone other u k) same.1

  pub normal_at_root : (s : Tree) → ((step : Step) (t : Tree) → Reduces parts rules step s t → step.place ≡ []) → HasNoRootStep parts rules s → IsNormal parts rules s
  normal_at_root s alone h step t k = h step t k (alone step t k)

  -- the ordered step of the first argument that has one is that of the whole
  pub ordered_in_argument : (f : SymId) (before after : List Tree) (s t : Tree) (step : Step) → Each (IsNormal parts rules) before → IsOrderedStep parts rules step s t
      → IsOrderedStep parts rules (in_argument (length before) step) (App f (before ++ s ∷ after)) (App f (before ++ t ∷ after))
  ordered_in_argument f before after s t step normal h = record { reduces = up parts rules step f before after s t h.reduces; first = first }
    where
      deeper : (other : Step) (n : ℕ) (p : List ℕ) → Down parts rules other n p (App f (before ++ s ∷ after)) → n ≡ length before
          → Sooner p step.place ⊎ ((p ≡ step.place) × Earlier other.number other.dir step.number step.dir) → ⊥
      deeper other n p d e q =
          let same = (same_app f d.f (before ++ s ∷ after) (d.before ++ d.x ∷ d.after) d.was).1 in
          let a = same_around before d.before s d.x after d.after (sym e ∙ sym d.at) same in
          h.first (placed p other) d.y (subst (λ z. Reduces parts rules (placed p other) z d.y) (sym a.item) d.reduces) q

      lefter : (other : Step) (n : ℕ) (p : List ℕ) → Down parts rules other n p (App f (before ++ s ∷ after)) → n < length before → ⊥
      lefter other n p d l =
          let same = (same_app f d.f (before ++ s ∷ after) (d.before ++ d.x ∷ d.after) d.was).1 in
          let e = d.at in
          of_each (IsNormal parts rules) (left_of before d.before s d.x after d.after (omega (arith, l, e)) same) normal (placed p other) d.y d.reduces

      by : (other : Step) (n : ℕ) (p : List ℕ) → other.place ≡ n ∷ p → Down parts rules other n p (App f (before ++ s ∷ after)) → Precedes (placed (n ∷ p) other) (in_argument (length before) step) → ⊥
      by other n p e d (inl (inl l)) = lefter other n p d l
      by other n p e d (inl (inr k)) = deeper other n p d k.0 (inl k.1)
      by other n p e d (inr k) =
          let m : n ≡ length before = cc in let q : p ≡ step.place = cc in deeper other n p d m (inr (q, k.1))

      first : (other : Step) (u : Tree) → Reduces parts rules other (App f (before ++ s ∷ after)) u → Precedes other (in_argument (length before) step) → ⊥
      first other u k p = at_place other.place
          (λ e. at_top other e (subst (λ z. Precedes (placed z other) (in_argument (length before) step)) e p))
          (λ n q e. by other n q e (down parts rules other n q (App f (before ++ s ∷ after)) u e k) (subst (λ z. Precedes (placed z other) (in_argument (length before) step)) e p))
        where
          at_top : (other : Step) → other.place ≡ [] → Precedes (placed [] other) (in_argument (length before) step) → ⊥
          at_top other e (inl h) = h
          at_top other e (inr h) = not_root (length before) step.place h.0
