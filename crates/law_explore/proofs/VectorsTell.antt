-- The classes of terms tell them apart as the tests do.
use Rattle.std.proofs.Common.{◌≡◌, ◌≢◌, ℕ, suc, ◌<◌, ◌⊎◌, inl, inr, Some, IsSome, List, [], ◌∷◌, length, map, slice_get, slice_index_or, Vec, sym, refl, ap, ap₂, ◌∙◌, subst, arith}
use Rattle.std.specs.declared.alloc.Global.{Global}
use Rattle.std.proofs.lemmas.Bool.{cases_lt}
use Rattle.law_sig.specs.Lists.{In, Rising}
use Rattle.law_sig.specs.Lists.In.{here, there}
use Rattle.law_sig.specs.Signature.{sort_of}
use Rattle.law_sig.specs.Tests.{InU, Same, IsDefined}
use Rattle.law_sig.specs.Order.{IsBefore}
use Rattle.law_sig.specs.declared.tree.SortId.{SortId}
use Rattle.law_sig.specs.declared.tree.Tree.{Tree}
use Rattle.law_sig.specs.declared.parts.SigParts.{SigParts}
use Rattle.law_laws.proofs.Decide.{trees_decided}
use Rattle.law_laws.proofs.ListFacts.{of_each, in_rest}
use Rattle.law_laws.proofs.Orders.{never_before_itself}
use Rattle.law_ids.specs.declared.ids.ValueId.{ValueId}
use Rattle.law_ids.specs.Values.{IsShared, tree_of}
use Rattle.law_draws.specs.Draws.{pools_by}
use Rattle.law_testing.specs.Values.{Both, tests_by}
use Rattle.law_explore.specs.Universe.{IsUniverse}
use Rattle.law_explore.specs.Tells.{Tells}
use Rattle.law_explore.specs.Values.{IsVector, HasVector, id_in}
use Rattle.law_explore.specs.Classes.{AreClasses}
use Rattle.law_explore.proofs.LawFacts.{some_is}
use Rattle.law_explore.proofs.RefusalFacts.{same_sort}

-- The class that stands where a term does

abbrev pick : {P Q : Type 0} → P ⊎ Q → ℕ → ℕ → ℕ
pick (inl p) y z = y
pick (inr q) y z = z

abbrev pub class_in : List Tree → List ℕ → Tree → ℕ
class_in [] classes t = 0
class_in (s ∷ terms) [] t = 0
class_in (s ∷ terms) (y ∷ classes) t = pick (trees_decided s t) y (class_in terms classes t)

-- it is in the relation in which the lists are
class_related : (R : Tree → ℕ → Type 0) (terms : List Tree) (classes : List ℕ) → Both R terms classes → (t : Tree) → In t terms → R t (class_in terms classes t)
class_related R [] classes both t at = elim at [ ]
class_related R (s ∷ terms) [] both t at = absurd both
class_related R (s ∷ terms) (y ∷ classes) both t at = by (trees_decided s t) (in_rest at) (class_related R terms classes both.1 t)
  where
    by : (d : (s ≡ t) ⊎ (s ≢ t)) → (t ≡ s) ⊎ In t terms → (In t terms → R t (class_in terms classes t)) → R t (pick d y (class_in terms classes t))
    by (inl e) place later = subst (λ x. R x y) e both.0
    by (inr other) (inl same) later = absurd (other (sym same))
    by (inr other) (inr at) later = later at

pick_same : (s : Tree) (d : (s ≡ s) ⊎ (s ≢ s)) (y z : ℕ) → pick d y z ≡ y
pick_same s (inl e) y z = refl
pick_same s (inr other) y z = absurd (other refl)

pick_other : {s t : Tree} (d : (s ≡ t) ⊎ (s ≢ t)) (y z : ℕ) → s ≢ t → pick d y z ≡ z
pick_other (inl e) y z other = absurd (other e)
pick_other (inr n) y z other = refl

mapped_same : (f g : Tree → ℕ) (terms : List Tree) → ((t : Tree) → In t terms → f t ≡ g t) → map f terms ≡ map g terms
mapped_same f g [] same = refl
mapped_same f g (t ∷ terms) same = ap₂ ◌∷◌ (same t here) (mapped_same f g terms (λ u at. same u (there at)))

-- where no term stands twice, all these classes are the list
pub classes_are : (parts : SigParts) (terms : List Tree) (classes : List ℕ) → Rising (IsBefore parts) terms → length terms ≡ length classes → map (class_in terms classes) terms ≡ classes
classes_are parts [] [] rising long = refl
classes_are parts [] (y ∷ classes) rising long = cc
classes_are parts (t ∷ terms) [] rising long = cc
classes_are parts (t ∷ terms) (y ∷ classes) rising long = ap₂ ◌∷◌
    (pick_same t (trees_decided t t) y (class_in terms classes t))
    (mapped_same (class_in (t ∷ terms) (y ∷ classes)) (class_in terms classes) terms
    (λ u at. pick_other (trees_decided t u) y (class_in terms classes u)
    (λ same. never_before_itself parts t (subst (IsBefore parts t) (sym same) (of_each (IsBefore parts t) at rising.0))))
    ∙ classes_are parts terms classes rising.1 (let k : length terms ≡ length classes = cc in k))

-- Lists that are the same at each place

same_lists : (xs ys : List ℕ) → length xs ≡ length ys → ((k : ℕ) → k < length xs → slice_index_or xs k 0 ≡ slice_index_or ys k 0) → xs ≡ ys
same_lists [] [] long same = refl
same_lists [] (y ∷ ys) long same = cc
same_lists (x ∷ xs) [] long same = cc
same_lists (x ∷ xs) (y ∷ ys) long same =
    let k : length xs ≡ length ys = cc in
    ap₂ ◌∷◌ (same 0 (omega arith)) (same_lists xs ys k (λ n less. same (suc n) (omega arith)))

module _ (parts : SigParts) (bank : List Tree) (shared : IsShared bank) (terms : List Tree) (classes : List ℕ) (are : AreClasses parts bank terms classes) where
  abbrev pub own_class : Tree → ℕ
  own_class t = class_in terms classes t

  own_is : (t : Tree) → In t terms → HasVector parts bank are.vectors t (own_class t)
  own_is = class_related (HasVector parts bank are.vectors) terms classes are.have

  -- each term of the universe has a value at each test
  pub all_defined : IsUniverse parts terms → (sort : SortId) (t : Tree) → InU parts sort t → IsDefined parts (pools_by parts) t
  all_defined universe sort t u test within =
      subst IsSome (sym ((own_is t ((universe.members t).1 (sort, u))).is.values test within).is) refl

  -- vectors tell terms apart
  same_vector : (s t : Tree) (v w : List ℕ) → IsVector parts bank s v → IsVector parts bank t w → v ≡ w → (sort_of parts s ≡ sort_of parts t) × Same parts (pools_by parts) s t
  same_vector s t v w a b e = (
    a.sorted ∙ ap Some (same_sort a.sort b.sort (sym a.last ∙ ap (λ l. slice_index_or l (tests_by parts) 0) e ∙ b.last)) ∙ sym b.sorted,
    λ test within. (a.values test within).is ∙ ap (λ l. Some (tree_of bank (id_in l test))) e ∙ sym (b.values test within).is,
  )

  vector_same : (s t : Tree) (v w : List ℕ) → IsVector parts bank s v → IsVector parts bank t w → sort_of parts s ≡ sort_of parts t → Same parts (pools_by parts) s t → v ≡ w
  vector_same s t v w a b sorted same = same_lists v w (a.long ∙ sym b.long) (λ k less. elim (cases_lt k (tests_by parts)) [
    | inl within ↦
        let x = a.values k within in
        let y = b.values k within in
        let trees : tree_of bank (id_in v k) ≡ tree_of bank (id_in w k) = some_is (sym x.is ∙ same k within ∙ y.is) in
        ap (λ (i : ValueId). i.0) (shared (id_in v k) (id_in w k) x.held y.held trees)
    | inr more ↦
        let long = a.long in
        let end : tests_by parts ≡ k = omega arith in
        let sorts : a.sort ≡ b.sort = some_is (sym a.sorted ∙ sorted ∙ b.sorted) in
        subst (λ n. slice_index_or v n 0 ≡ slice_index_or w n 0) end (a.last ∙ ap (λ (i : SortId). i.0) sorts ∙ sym b.last)
  ])

  pub classes_tell : Tells parts (pools_by parts) terms own_class
  classes_tell s t s_in t_in =
      let a = own_is s s_in in
      let b = own_is t t_in in (
        λ e. same_vector s t a.vector.items b.vector.items a.is b.is
            (ap (λ (v : Vec ℕ Global). v.items) (some_is (sym a.there ∙ ap (slice_get are.vectors) e ∙ b.there))),
        λ h. are.distinct (own_class s) (own_class t) a.vector b.vector a.there b.there (vector_same s t a.vector.items b.vector.items a.is b.is h.0 h.1),
      )
