-- Having the same values is an equivalence, and a term has one least.
use Rattle.std.proofs.Common.{◌≡◌, ℕ, ◌<◌, ◌⊎◌, inl, inr, IsSome, Some, List, [], ◌∷◌, map, option_map, option_and_then, ap, sym, refl, ap₂, ◌∙◌, subst}
use Rattle.law_sig.specs.Lists.{In, Each, Rising}
use Rattle.law_sig.specs.Lists.In.{here, there}
use Rattle.law_sig.specs.Signature.{sort_of}
use Rattle.law_sig.specs.Tests.{Pools, test_count, all_present, val, Same, IsDefined, Agrees}
use Rattle.law_sig.specs.Order.{IsBefore}
use Rattle.law_sig.specs.Laws.{IsLeast, IsLawList}
use Rattle.law_sig.specs.declared.tree.SortId.{SortId}
use Rattle.law_sig.specs.Evaluate.{Made, ap as applied}
use Rattle.law_sig.specs.declared.tree.SymId.{SymId}
use Rattle.law_sig.specs.declared.tree.Tree.{Tree}
use Rattle.law_sig.specs.declared.tree.Tree.TheVariants.{App}
use Rattle.law_sig.specs.declared.parts.Equation.{Equation}
use Rattle.law_sig.specs.declared.parts.SigParts.{SigParts}
use Rattle.law_laws.proofs.TreeFacts.{val-App}
use Rattle.law_laws.proofs.ListFacts.{of_each, in_none, in_rest}
use Rattle.law_laws.proofs.Orders.{never_before_itself, before_chain}

module _ (parts : SigParts) (pools : Pools) where
  pub same_itself : (t : Tree) → Same parts pools t t
  same_itself t test within = refl

  pub same_back : (s t : Tree) → Same parts pools s t → Same parts pools t s
  same_back s t same test within = sym (same test within)

  pub same_chain : (s t u : Tree) → Same parts pools s t → Same parts pools t u → Same parts pools s u
  same_chain s t u p q test within = p test within ∙ q test within

  -- a term with the values of one that is defined is defined
  pub same_defined : (s t : Tree) → Same parts pools s t → IsDefined parts pools s → IsDefined parts pools t
  same_defined s t same defined test within = subst IsSome (same test within) (defined test within)

  pub agrees_itself : (t : Tree) → IsDefined parts pools t → Agrees parts pools t t
  agrees_itself t defined = record { same = same_itself t; defined = defined }

  pub agrees_back : (s t : Tree) → Agrees parts pools s t → Agrees parts pools t s
  agrees_back s t a = record { same = same_back s t a.same; defined = same_defined s t a.same a.defined }

  pub agrees_chain : (s t u : Tree) → Agrees parts pools s t → Agrees parts pools t u → Agrees parts pools s u
  agrees_chain s t u a e = record { same = same_chain s t u a.same e.same; defined = a.defined }

  -- what is least for a term is least for each of its sort with the same values
  pub least_moves : (sort : SortId) (s t u : Tree) → sort_of parts t ≡ Some sort → Same parts pools s t → IsLeast parts pools sort s u → IsLeast parts pools sort t u
  least_moves sort s t u sorted same l = record {
    sorted = sorted;
    bounded = l.bounded;
    same = same_chain t s u (same_back s t same) l.same;
    least = λ w w_in w_same. l.least w w_in (same_chain s t w same w_same);
  }

  -- terms of one sort have the same least exactly where they have the same values
  pub same_least : (sort : SortId) (s t u w : Tree) → IsLeast parts pools sort s u → IsLeast parts pools sort t w → Same parts pools s t → u ≡ w
  same_least sort s t u w l m same = by
      (l.least w m.bounded (same_chain s t w same m.same))
      (m.least u l.bounded (same_chain t s u (same_back s t same) l.same))
    where
      by : (w ≡ u) ⊎ IsBefore parts u w → (u ≡ w) ⊎ IsBefore parts w u → u ≡ w
      by (inl e) k = sym e
      by (inr h) (inl e) = e
      by (inr h) (inr k) = absurd (never_before_itself parts u (before_chain parts u w u h k))

  pub least_same : (sort : SortId) (s t u w : Tree) → IsLeast parts pools sort s u → IsLeast parts pools sort t w → u ≡ w → Same parts pools s t
  least_same sort s t u w l m e = same_chain s u t l.same (same_back t u (subst (Same parts pools t) (sym e) m.same))

  -- a term has one least
  pub one_least : (sort : SortId) (t u w : Tree) → IsLeast parts pools sort t u → IsLeast parts pools sort t w → u ≡ w
  one_least sort t u w l m = same_least sort t t u w l m (same_itself t)

  -- a least term is its own least
  pub least_itself : (sort : SortId) (t u : Tree) → IsLeast parts pools sort t u → IsLeast parts pools sort u u
  least_itself sort t u l = least_moves sort t u u l.bounded.sorted l.same l

-- Arguments

-- each of the first list has the values of the one at its place in the second
abbrev pub AreSame : SigParts → Pools → List Tree → List Tree → Type 0
AreSame parts pools [] [] = Unit {0}
AreSame parts pools [] (t ∷ ts) = ⊥
AreSame parts pools (s ∷ ss) [] = ⊥
AreSame parts pools (s ∷ ss) (t ∷ ts) = Same parts pools s t × AreSame parts pools ss ts

same_rows : (parts : SigParts) (pools : Pools) (test : ℕ) → test < test_count parts pools → (ss ts : List Tree) → AreSame parts pools ss ts
    → map (val parts pools test) ss ≡ map (val parts pools test) ts
same_rows parts pools test within [] [] h = refl
same_rows parts pools test within [] (t ∷ ts) h = absurd h
same_rows parts pools test within (s ∷ ss) [] h = absurd h
same_rows parts pools test within (s ∷ ss) (t ∷ ts) h = ap₂ ◌∷◌ (h.0 test within) (same_rows parts pools test within ss ts h.1)

-- an application has the values that it has with such arguments
pub same_app_args : (parts : SigParts) (pools : Pools) (f : SymId) (ss ts : List Tree) → AreSame parts pools ss ts → Same parts pools (App f ss) (App f ts)
same_app_args parts pools f ss ts h test within = val-App parts pools test f ss
    ∙ ap (λ vs. option_and_then (λ values. option_map (λ (m : Made). m.value) (applied parts f values parts.settings.budget)) (all_present vs)) (same_rows parts pools test within ss ts h)
    ∙ sym (val-App parts pools test f ts)

-- Two lists in strict order with the same items are the same

one_head : {A : Type 0} (R : A → A → Type 0) → ((x y : A) → R x y → R y x → ⊥) → (x y : A) (xs ys : List A)
    → Each (R x) xs → Each (R y) ys → (x ≡ y) ⊎ In x ys → (y ≡ x) ⊎ In y xs → x ≡ y
one_head R strict x y xs ys x_first y_first (inl e) k = e
one_head R strict x y xs ys x_first y_first (inr h) (inl e) = sym e
one_head R strict x y xs ys x_first y_first (inr h) (inr k) = absurd (strict x y (of_each (R x) k x_first) (of_each (R y) h y_first))

-- what follows x isn't x, so what stands among x and others stands among the others
one_tail : {A : Type 0} (R : A → A → Type 0) → ((x y : A) → R x y → R y x → ⊥) → (x y z : A) (xs ys : List A) → x ≡ y
    → Each (R x) xs → In z xs → (z ≡ y) ⊎ In z ys → In z ys
one_tail R strict x y z xs ys e x_first at (inl k) =
    let h = subst (R x) (k ∙ sym e) (of_each (R x) at x_first) in
    absurd (strict x x h h)
one_tail R strict x y z xs ys e x_first at (inr h) = h

pub one_order : {A : Type 0} (R : A → A → Type 0) → ((x y : A) → R x y → R y x → ⊥) → (xs ys : List A) → Rising R xs → Rising R ys
    → ((x : A) → In x xs → In x ys) → ((x : A) → In x ys → In x xs) → xs ≡ ys
one_order R strict [] [] r s to back = refl
one_order R strict [] (y ∷ ys) r s to back = absurd (in_none (back y here))
one_order R strict (x ∷ xs) [] r s to back = absurd (in_none (to x here))
one_order R strict (x ∷ xs) (y ∷ ys) r s to back =
    let e : x ≡ y = one_head R strict x y xs ys r.0 s.0 (in_rest (to x here)) (in_rest (back y here)) in
    ap₂ ◌∷◌ e (one_order R strict xs ys r.1 s.1
    (λ z at. one_tail R strict x y z xs ys e r.0 at (in_rest (to z (there at))))
    (λ z at. one_tail R strict y x z ys xs (sym e) s.0 at (in_rest (back z (there at)))))

-- a signature with pools has one law list
pub one_law_list : (parts : SigParts) (pools : Pools) (laws others : List Equation) → IsLawList parts pools laws → IsLawList parts pools others → laws ≡ others
one_law_list parts pools laws others l m = one_order (λ (d e : Equation). IsBefore parts d.left e.left)
    (λ d e h k. never_before_itself parts d.left (before_chain parts d.left e.left d.left h k))
    laws others l.ordered m.ordered (λ e at. (m.members e).1 ((l.members e).0 at)) (λ e at. (l.members e).1 ((m.members e).0 at))
