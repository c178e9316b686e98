-- Which of two steps comes first, and what a replacement at a place determines.
use Rattle.std.proofs.Common.{◌≡◌, ℕ, zero, suc, ◌<◌, ◌⊎◌, inl, inr, List, [], ◌∷◌, ◌++◌, length, sym, refl, ap, ap₂, ◌∙◌, subst, arith}
use Rattle.law_sig.specs.declared.tree.SymId.{SymId}
use Rattle.law_sig.specs.declared.tree.Tree.{Tree}
use Rattle.law_sig.specs.declared.tree.Tree.TheVariants.{App}
use Rattle.law_laws.proofs.TreeFacts.{same_app}
use Rattle.law_sig.specs.declared.chain.Dir.{Dir}
use Rattle.law_sig.specs.declared.chain.Dir.TheVariants as dir
use Rattle.law_sig.specs.declared.chain.Step.{Step}
use Rattle.law_sig.specs.Chains.{Rewrites}
use Rattle.law_sig.specs.Chains.Rewrites.{root, below}
use Rattle.law_rewriting.specs.Steps.{Sooner, Forward, Precedes}

pub numbers_decided : (m n : ℕ) → (m < n) ⊎ ((m ≡ n) ⊎ (n < m))
numbers_decided zero zero = inr (inl refl)
numbers_decided zero (suc n) = inl (omega arith)
numbers_decided (suc m) zero = inr (inr (omega arith))
numbers_decided (suc m) (suc n) = by (numbers_decided m n)
  where
    by : (m < n) ⊎ ((m ≡ n) ⊎ (n < m)) → (suc m < suc n) ⊎ ((suc m ≡ suc n) ⊎ (suc n < suc m))
    by (inl h) = inl (omega arith)
    by (inr (inl e)) = inr (inl (ap suc e))
    by (inr (inr h)) = inr (inr (omega arith))

places_decided : (p q : List ℕ) → Sooner p q ⊎ ((p ≡ q) ⊎ Sooner q p)
places_decided [] [] = inr (inl refl)
places_decided [] (n ∷ q) = inr (inr tt)
places_decided (m ∷ p) [] = inl tt
places_decided (m ∷ p) (n ∷ q) = by (numbers_decided m n) (places_decided p q)
  where
    by : (m < n) ⊎ ((m ≡ n) ⊎ (n < m)) → Sooner p q ⊎ ((p ≡ q) ⊎ Sooner q p) → Sooner (m ∷ p) (n ∷ q) ⊎ (((m ∷ p) ≡ (n ∷ q)) ⊎ Sooner (n ∷ q) (m ∷ p))
    by (inl h) k = inl (inl h)
    by (inr (inr h)) k = inr (inr (inl h))
    by (inr (inl e)) (inl k) = inl (inr (e, k))
    by (inr (inl e)) (inr (inl k)) = inr (inl (ap₂ ◌∷◌ e k))
    by (inr (inl e)) (inr (inr k)) = inr (inr (inr (sym e, k)))

dirs_decided : (d e : Dir) → Forward d e ⊎ ((d ≡ e) ⊎ Forward e d)
dirs_decided dir.LeftToRight dir.LeftToRight = inr (inl refl)
dirs_decided dir.LeftToRight dir.RightToLeft = inl tt
dirs_decided dir.RightToLeft dir.LeftToRight = inr (inr tt)
dirs_decided dir.RightToLeft dir.RightToLeft = inr (inl refl)

pub record AreAlike (a b : Step) : Type 0 where
  pub place : a.place ≡ b.place
  pub number : a.number ≡ b.number
  pub dir : a.dir ≡ b.dir

pub steps_decided : (a b : Step) → Precedes a b ⊎ (AreAlike a b ⊎ Precedes b a)
steps_decided a b = by (places_decided a.place b.place) (numbers_decided a.number b.number) (dirs_decided a.dir b.dir)
  where
    by : Sooner a.place b.place ⊎ ((a.place ≡ b.place) ⊎ Sooner b.place a.place) → (a.number < b.number) ⊎ ((a.number ≡ b.number) ⊎ (b.number < a.number))
        → Forward a.dir b.dir ⊎ ((a.dir ≡ b.dir) ⊎ Forward b.dir a.dir) → Precedes a b ⊎ (AreAlike a b ⊎ Precedes b a)
    by (inl h) k l = inl (inl h)
    by (inr (inr h)) k l = inr (inr (inl h))
    by (inr (inl h)) (inl k) l = inl (inr (h, inl k))
    by (inr (inl h)) (inr (inr k)) l = inr (inr (inr (sym h, inl k)))
    by (inr (inl h)) (inr (inl k)) (inl l) = inl (inr (h, inr (k, l)))
    by (inr (inl h)) (inr (inl k)) (inr (inr l)) = inr (inr (inr (sym h, inr (sym k, l))))
    by (inr (inl h)) (inr (inl k)) (inr (inl l)) = inr (inl (record { place = h; number = k; dir = l }))

-- What stands at a place

pub record Inside (from to : Tree) (n : ℕ) (place : List ℕ) (s t : Tree) : Type 0 where
  pub f : SymId
  pub before : List Tree
  pub after : List Tree
  pub x : Tree
  pub y : Tree
  pub at : length before ≡ n
  pub was : s ≡ App f (before ++ x ∷ after)
  pub is : t ≡ App f (before ++ y ∷ after)
  pub rewrites : Rewrites from to place x y

pub inside : {from to s t : Tree} {n : ℕ} {place : List ℕ} → Rewrites from to (n ∷ place) s t → Inside from to n place s t
inside (below f before after place x y r) = record { f = f; before = before; after = after; x = x; y = y; at = refl; was = refl; is = refl; rewrites = r }

pub at_root : {from to s t : Tree} → Rewrites from to [] s t → (s ≡ from) × (t ≡ to)
at_root root = (refl, refl)

-- two lists around an item at one place
pub record SameAround (bs cs : List Tree) (x y : Tree) (es ds : List Tree) : Type 0 where
  pub before : bs ≡ cs
  pub item : x ≡ y
  pub after : es ≡ ds

pub same_around : (bs cs : List Tree) (x y : Tree) (es ds : List Tree) → length bs ≡ length cs → bs ++ x ∷ es ≡ cs ++ y ∷ ds → SameAround bs cs x y es ds
same_around [] [] x y es ds l e = record { before = refl; item = cc; after = cc }
same_around [] (c ∷ cs) x y es ds l e = absurd (omega arith)
same_around (b ∷ bs) [] x y es ds l e = absurd (omega arith)
same_around (b ∷ bs) (c ∷ cs) x y es ds l e =
    let heads : b ≡ c = cc in
    let tails : bs ++ x ∷ es ≡ cs ++ y ∷ ds = cc in
    let r = same_around bs cs x y es ds (omega arith) tails in
    record { before = ap₂ ◌∷◌ heads r.before; item = r.item; after = r.after }

pub record SameInside {from to from' to' s t u : Tree} {n : ℕ} {place : List ℕ} (h : Inside from to n place s t) (k : Inside from' to' n place s u) : Type 0 where
  pub head : h.f ≡ k.f
  pub around : SameAround h.before k.before h.x k.x h.after k.after

same_inside : {from to from' to' s t u : Tree} {n : ℕ} {place : List ℕ} (h : Inside from to n place s t) (k : Inside from' to' n place s u) → SameInside h k
same_inside h k =
    let e = same_app h.f k.f (h.before ++ h.x ∷ h.after) (k.before ++ k.x ∷ k.after) (sym h.was ∙ k.was) in
    record { head = e.0; around = same_around h.before k.before h.x k.x h.after k.after (h.at ∙ sym k.at) e.1 }

-- what is replaced is what stood at the place
pub one_source : {from to from' to' : Tree} (place : List ℕ) (s : Tree) {t u : Tree} → Rewrites from to place s t → Rewrites from' to' place s u → from ≡ from'
one_source [] s h k = sym (at_root h).0 ∙ (at_root k).0
one_source {from' = from'} {to' = to'} (n ∷ place) s h k =
    let p = inside h in let q = inside k in let e = same_inside p q in
    one_source place p.x p.rewrites (subst (λ z. Rewrites from' to' place z q.y) (sym e.around.item) q.rewrites)

-- and the new term is the one with the other instance there
pub one_result : {from to from' to' : Tree} (place : List ℕ) (s : Tree) {t u : Tree} → to ≡ to' → Rewrites from to place s t → Rewrites from' to' place s u → t ≡ u
one_result [] s e h k = (at_root h).1 ∙ e ∙ sym (at_root k).1
one_result {from' = from'} {to' = to'} (n ∷ place) s e h k =
    let p = inside h in let q = inside k in let a = same_inside p q in
    let y : p.y ≡ q.y = one_result place p.x e p.rewrites (subst (λ z. Rewrites from' to' place z q.y) (sym a.around.item) q.rewrites) in
    p.is ∙ (λ i. App (a.head i) (a.around.before i ++ y i ∷ a.around.after i)) ∙ sym q.is
