-- A name has at most one pair, whichever most general unifier is taken, and however the variables are made others.
use Rattle.std.proofs.Common.{◌≡◌, ℕ, suc, ◌+◌, ◌-◌, ◌<◌, ◌⊎◌, inl, inr, if◌then◌else◌, List, [], ◌∷◌, ◌++◌, length, map, sym, refl, ap, ◌∙◌, subst, arith}
use Rattle.std.specs.Prelude.{nat_lt}
use Rattle.law_sig.specs.Lists.{In}
use Rattle.law_sig.specs.Trees.{joined, holes, Subst, substituted}
use Rattle.law_sig.specs.declared.tree.SortId.{SortId}
use Rattle.law_sig.specs.declared.tree.Tree.{Tree}
use Rattle.law_sig.specs.declared.tree.Tree.TheVariants.{Var, App}
use Rattle.law_sig.specs.declared.parts.Equation.{Equation}
use Rattle.law_sig.specs.declared.parts.SigParts.{SigParts}
use Rattle.law_laws.proofs.TreeFacts.{substituted-Var, substituted-App, substituted_itself}
use Rattle.law_laws.proofs.ListFacts.{mapped, in_left, in_right}
use Rattle.law_laws.proofs.BodyFacts.{some_is}
use Rattle.law_laws.proofs.Derivation.{then as after, substituted_twice}
use Rattle.law_sig.specs.declared.chain.Dir.{Dir}
use Rattle.law_sig.specs.declared.chain.Dir.TheVariants as dir
use Rattle.law_sig.specs.Chains.{start_side, end_side, Rewrites}
use Rattle.law_sig.specs.Chains.Rewrites.{root, below}
use Rattle.law_rewriting.specs.Heads.{Sorts, KeepsHeads, sorts_in}
use Rattle.law_rewriting.specs.Unifiers.{GoesThrough}
use Rattle.law_rewriting.specs.Pairs.{Pair, map_pair, PairName, NamedPair, shifted, IsApart, Overlaps, IsPair}
use Rattle.law_rewriting.proofs.Places.{one_source, one_result}
use Rattle.law_rewriting.proofs.Variables.{holes_arg, agreeing}
use Rattle.law_rewriting.proofs.Heads.{head-Var, head_kept}
use Rattle.law_rewriting.proofs.Unifiers.{goes_through}
use Rattle.law_rewriting.proofs.Renumbering.{tidied_same}

length_mapped : {A B : Type 0} (f : A → B) (xs : List A) → length (map f xs) ≡ length xs
length_mapped f [] = refl
length_mapped f (x ∷ xs) = ap suc (length_mapped f xs)

-- a replacement passes to instances
pub rewrites_instance : (ρ : Subst) {from to s t : Tree} {place : List ℕ} → Rewrites from to place s t
    → Rewrites (substituted ρ from) (substituted ρ to) place (substituted ρ s) (substituted ρ t)
rewrites_instance ρ root = root
rewrites_instance ρ {from = from} {to = to} (below f before after place s t r) =
    let around = λ (x : Tree). ap (App f) (sym (mapped (substituted ρ) before after x)) ∙ sym (substituted-App ρ f (before ++ x ∷ after)) in
    let here = below f (map (substituted ρ) before) (map (substituted ρ) after) place (substituted ρ s) (substituted ρ t) (rewrites_instance ρ r) in
    subst (λ l. Rewrites (substituted ρ from) (substituted ρ to) (l ∷ place) (substituted ρ (App f (before ++ s ∷ after))) (substituted ρ (App f (before ++ t ∷ after)))) (length_mapped (substituted ρ) before)
    (subst (λ z. Rewrites (substituted ρ from) (substituted ρ to) (length (map (substituted ρ) before) ∷ place) z (substituted ρ (App f (before ++ t ∷ after)))) (around s)
    (subst (λ z. Rewrites (substituted ρ from) (substituted ρ to) (length (map (substituted ρ) before) ∷ place) (App f (map (substituted ρ) before ++ substituted ρ s ∷ map (substituted ρ) after)) z) (around t) here))

-- the variables of what stands at a place are the term's
holes_at : (w : SortId) (i : ℕ) {from to s t : Tree} {place : List ℕ} → Rewrites from to place s t → In i (holes w from) → In i (holes w s)
holes_at w i root at = at
holes_at w i (below f before after place s t r) at = holes_arg w f (before ++ s ∷ after) i (among before (holes_at w i r at))
  where
    among : (bs : List Tree) → In i (holes w s) → In i (joined (map (holes w) (bs ++ s ∷ after)))
    among [] k = in_left (joined (map (holes w) after)) k
    among (b ∷ bs) k = in_right (holes w b) (among bs k)

-- From one shift to another: what isn't shifted stays

abbrev moved : ℕ → ℕ → ℕ → ℕ
moved m n i = if nat_lt i m then i else (i - m) + n

moved_below : (m n i : ℕ) → i < m → moved m n i ≡ i
moved_below m n i h = grind arith

moved_shifted : (m n i : ℕ) → moved m n (i + m) ≡ i + n
moved_shifted m n i = grind arith

abbrev moving : ℕ → ℕ → Subst
moving m n sort index = Var sort (moved m n index)

moving_stays : (m n : ℕ) (t : Tree) → ((s : SortId) (i : ℕ) → In i (holes s t) → i < m) → substituted (moving m n) t ≡ t
moving_stays m n t h = agreeing (moving m n) Var t (λ s i at. ap (Var s) (moved_below m n i (h s i at))) ∙ substituted_itself t

moving_shifts : (m n : ℕ) (t : Tree) → substituted (moving m n) (substituted (shifted m) t) ≡ substituted (shifted n) t
moving_shifts m n t = substituted_twice (shifted m) (moving m n) t
    ∙ agreeing (after (shifted m) (moving m n)) (shifted n) t (λ s i at. substituted-Var (moving m n) s (i + m) ∙ ap (Var s) (moved_shifted m n i))

moving_keeps : (r : Sorts) (m n : ℕ) → KeepsHeads r (moving m n)
moving_keeps r m n s i = head-Var r s (moved m n i)

of_side : (d : Dir) (by : ℕ) (q : Equation) → IsApart by q → (s : SortId) (i : ℕ) → In i (holes s (start_side d q)) ⊎ In i (holes s (end_side d q)) → i < by
of_side dir.LeftToRight by q h s i at = h s i at
of_side dir.RightToLeft by q h s i (inl at) = h s i (inr at)
of_side dir.RightToLeft by q h s i (inr at) = h s i (inl at)

-- Two pairs of one name, before they are renumbered: the second is an instance of the first

module _ (parts : SigParts) (equations : List Equation) (name : PairName) (p q : Pair) (a : Overlaps parts equations name p) (b : Overlaps parts equations name q) where
  same_outer : a.outer ≡ b.outer
  same_outer = some_is a.outer b.outer (sym a.outer_is ∙ b.outer_is)

  same_inner : a.inner ≡ b.inner
  same_inner = some_is a.inner b.inner (sym a.inner_is ∙ b.inner_is)

  same_found : App a.head a.args ≡ App b.head b.args
  same_found = one_source name.place (start_side name.outer_dir a.outer) a.found
      (subst (λ z. Rewrites (App b.head b.args) (App b.head b.args) name.place (start_side name.outer_dir z) (start_side name.outer_dir z)) (sym same_outer) b.found)

  -- the second unifier after the shift is changed is one of the first problem
  abbrev ρ : Subst
  ρ = moving a.by b.by

  stays : (t : Tree) → ((s : SortId) (i : ℕ) → In i (holes s t) → i < a.by) → substituted (after ρ b.σ) t ≡ substituted b.σ t
  stays t h = sym (substituted_twice ρ b.σ t) ∙ ap (substituted b.σ) (moving_stays a.by b.by t h)

  shifts : (t : Tree) → substituted (after ρ b.σ) (substituted (shifted a.by) t) ≡ substituted b.σ (substituted (shifted b.by) t)
  shifts t = sym (substituted_twice ρ b.σ (substituted (shifted a.by) t)) ∙ ap (substituted b.σ) (moving_shifts a.by b.by t)

  unifies : substituted (after ρ b.σ) (App a.head a.args) ≡ substituted (after ρ b.σ) (substituted (shifted a.by) (start_side name.inner_dir a.inner))
  unifies = stays (App a.head a.args) (λ s i at. of_side name.outer_dir a.by a.outer a.apart s i (inl (holes_at s i a.found at)))
      ∙ ap (substituted b.σ) same_found ∙ b.general.unifies.same ∙ ap (λ z. substituted b.σ (substituted (shifted b.by) (start_side name.inner_dir z))) (sym same_inner)
      ∙ sym (shifts (start_side name.inner_dir a.inner))

  pub through : GoesThrough (sorts_in parts) a.σ (after ρ b.σ)
  through = a.general.general (after ρ b.σ) (record {
    keeps = λ s i. head_kept (sorts_in parts) b.σ b.general.unifies.keeps (ρ s i) ∙ moving_keeps (sorts_in parts) a.by b.by s i;
    same = unifies;
  })

  outer_instance : (t : Tree) → ((s : SortId) (i : ℕ) → In i (holes s t) → i < a.by) → substituted b.σ t ≡ substituted through.rest (substituted a.σ t)
  outer_instance t h = sym (stays t h) ∙ goes_through (sorts_in parts) a.σ (after ρ b.σ) through t

  inner_instance : (t : Tree) → substituted b.σ (substituted (shifted b.by) t) ≡ substituted through.rest (substituted a.σ (substituted (shifted a.by) t))
  inner_instance t = sym (shifts t) ∙ goes_through (sorts_in parts) a.σ (after ρ b.σ) through (substituted (shifted a.by) t)

  peak_is : q.peak ≡ substituted through.rest p.peak
  peak_is = b.peak ∙ ap (λ z. substituted b.σ (start_side name.outer_dir z)) (sym same_outer)
      ∙ outer_instance (start_side name.outer_dir a.outer) (λ s i at. of_side name.outer_dir a.by a.outer a.apart s i (inl at)) ∙ ap (substituted through.rest) (sym a.peak)

  right_is : q.right ≡ substituted through.rest p.right
  right_is = b.right ∙ ap (λ z. substituted b.σ (end_side name.outer_dir z)) (sym same_outer)
      ∙ outer_instance (end_side name.outer_dir a.outer) (λ s i at. of_side name.outer_dir a.by a.outer a.apart s i (inr at)) ∙ ap (substituted through.rest) (sym a.right)

  left_is : q.left ≡ substituted through.rest p.left
  left_is = sym (one_result name.place (substituted through.rest p.peak)
      (sym (inner_instance (end_side name.inner_dir a.inner)) ∙ ap (λ z. substituted b.σ (substituted (shifted b.by) (end_side name.inner_dir z))) same_inner)
      (rewrites_instance through.rest a.left)
      (subst (λ z. Rewrites (substituted b.σ (App b.head b.args)) (substituted b.σ (substituted (shifted b.by) (end_side name.inner_dir b.inner))) name.place z q.left) peak_is b.left))

  pub pair_is : q ≡ map_pair (substituted through.rest) p
  pair_is = λ i. let x : Pair = record { peak = peak_is i; left = left_is i; right = right_is i } in x

pub one_pair : (parts : SigParts) (equations : List Equation) (x y : NamedPair) → x.name ≡ y.name → IsPair parts equations x → IsPair parts equations y → x ≡ y
one_pair parts equations x y e a b =
    let c : Overlaps parts equations x.name b.raw = subst (λ z. Overlaps parts equations z b.raw) (sym e) b.overlaps in
    let t = through parts equations x.name a.raw b.raw a.overlaps c in
    let u = through parts equations x.name b.raw a.raw c a.overlaps in
    let same = a.is ∙ sym (tidied_same (sorts_in parts) t.rest u.rest t.keeps a.raw b.raw (pair_is parts equations x.name a.raw b.raw a.overlaps c) (pair_is parts equations x.name b.raw a.raw c a.overlaps)) ∙ sym b.is in
    λ i. let z : NamedPair = record { name = e i; pair = same i } in z
