-- A replacement at a place, by what a walk down to the place finds.
use Rattle.std.proofs.Common.{◌≡◌, ℕ, zero, suc, ◌+◌, ◌⊎◌, inl, inr, List, [], ◌∷◌, ◌++◌, length, take, drop, Some, None, slice_get, sym, refl, ap, ap₂, ◌∙◌, subst, arith}
use Rattle.law_sig.specs.declared.tree.SymId.{SymId}
use Rattle.law_sig.specs.declared.tree.Tree.{Tree}
use Rattle.law_sig.specs.declared.tree.Tree.TheVariants.{App}
use Rattle.law_laws.proofs.TreeFacts.{same_app}
use Rattle.law_sig.specs.Chains.{Rewrites}
use Rattle.law_sig.specs.Chains.Rewrites.{root, below}

-- a list around one of its items
slot_read : {A : Type 0} (before : List A) (x : A) (after : List A) → slice_get (before ++ x ∷ after) (length before) ≡ Some x
slot_read [] x after = refl
slot_read (b ∷ before) x after = slot_read before x after

-- the items before a place, the one there, and those after it
pub record Around {A : Type 0} (xs : List A) (k : ℕ) (x : A) : Type 0 where
  pub whole : xs ≡ take k xs ++ x ∷ drop (k + 1) xs
  pub place : length (take k xs) ≡ k

pub around : {A : Type 0} (xs : List A) (k : ℕ) (x : A) → slice_get xs k ≡ Some x → Around xs k x
around [] zero x e = cc
around [] (suc k) x e = cc
around (y ∷ ys) zero x e =
    let same : y ≡ x = cc in
    record { whole = ap (λ z. z ∷ ys) same; place = refl }
around (y ∷ ys) (suc k) x e =
    let r = around ys k x e in
    let next : suc (k + 1) ≡ suc k + 1 = omega arith in
    record { whole = ap (λ zs. y ∷ zs) r.whole ∙ ap (λ n. y ∷ (take k ys ++ x ∷ drop n (y ∷ ys))) next; place = ap suc r.place }

-- a replacement below the root
pub record Below (from to : Tree) (place : List ℕ) (t u : Tree) : Type 0 where
  pub head : SymId
  pub before : List Tree
  pub after : List Tree
  pub rest : List ℕ
  pub old : Tree
  pub new : Tree
  pub place_is : place ≡ length before ∷ rest
  pub term_is : t ≡ App head (before ++ old ∷ after)
  pub new_is : u ≡ App head (before ++ new ∷ after)
  pub inner : Rewrites from to rest old new

pub inverted : {from to : Tree} {place : List ℕ} {t u : Tree} → Rewrites from to place t u
    → ((place ≡ []) × (t ≡ from) × (u ≡ to)) ⊎ Below from to place t u
inverted root = inl (refl, refl, refl)
inverted (below f before after place s t inner) = inr (record {
  head = f;
  before = before;
  after = after;
  rest = place;
  old = s;
  new = t;
  place_is = refl;
  term_is = refl;
  new_is = refl;
  inner = inner;
})

-- at the root
pub done : (from to t : Tree) (place : List ℕ) → length place ≡ 0 → t ≡ from → Rewrites from to place t to
done from to t [] empty is = subst (λ s. Rewrites from to [] s to) (sym is) root
done from to t (k ∷ place) empty is = cc

-- what a walk down by one argument finds
pub record Walked (place : List ℕ) (k : ℕ) (rest : List ℕ) (t : Tree) (f : SymId) (args : List Tree) : Type 0 where
  pub place_is : place ≡ k ∷ rest
  pub term_is : t ≡ App f args

-- the argument in which a replacement goes on
pub record GoesOn (from to : Tree) (k : ℕ) (rest : List ℕ) (args : List Tree) : Type 0 where
  pub old : Tree
  pub new : Tree
  pub found : slice_get args k ≡ Some old
  pub inner : Rewrites from to rest old new

pub goes_on : (from to : Tree) (place : List ℕ) (k : ℕ) (rest : List ℕ) (t u : Tree) (f : SymId) (args : List Tree)
    → Walked place k rest t f args → Rewrites from to place t u → GoesOn from to k rest args
goes_on from to place k rest t u f args w h = by (inverted h)
  where
    by : ((place ≡ []) × (t ≡ from) × (u ≡ to)) ⊎ Below from to place t u → GoesOn from to k rest args
    by (inl e) = absurd (cc (sym w.place_is ∙ e.0))
    by (inr b) =
        let places : k ∷ rest ≡ length b.before ∷ b.rest = sym w.place_is ∙ b.place_is in
        let at : k ≡ length b.before = cc in
        let on : b.rest ≡ rest = cc in
        let same = same_app f b.head args (b.before ++ b.old ∷ b.after) (sym w.term_is ∙ b.term_is) in
        record {
          old = b.old;
          new = b.new;
          found = ap₂ slice_get same.1 at ∙ slot_read b.before b.old b.after;
          inner = subst (λ p. Rewrites from to p b.old b.new) on b.inner;
        }

-- no argument stands there
pub outside : (from to : Tree) (place : List ℕ) (k : ℕ) (rest : List ℕ) (t : Tree) (f : SymId) (args : List Tree)
    → Walked place k rest t f args → slice_get args k ≡ None → (u : Tree) → Rewrites from to place t u → ⊥
outside from to place k rest t f args w none u h =
    let g = goes_on from to place k rest t u f args w h in
    cc (sym none ∙ g.found)
