-- Edges, and the children of a node by them.
use Rattle.std.proofs.Common.{◌≡◌, ◌≢◌, ℕ, zero, suc, ◌<◌, ◌≤◌, ◌+◌, ◌⊎◌, inl, inr, List, [], ◌∷◌, ◌++◌, length, true, false, ◌==◌, Option, Some, None, option_and_then, sym, ap, ◌∙◌, subst, refl, arith}
use Rattle.std.specs.List.{slice_get}
use Rattle.std.proofs.lemmas.Bool.Decides.{eqb_tells}
use Rattle.law_sig.specs.Lists.{In, Each, Rising}
use Rattle.law_sig.specs.Lists.In.{here, there}
use Rattle.law_laws.proofs.ListFacts.{in_none, in_rest, each_map}
use Rattle.law_ids.specs.declared.ids.ValueId.{ValueId}
use Rattle.law_tree.specs.declared.nodes.Edge.{Edge}
use Rattle.law_tree.specs.Nodes.{edge_to}
use Rattle.law_tree.specs.Listing.{kept, children_from}
use Rattle.law_tree.proofs.ListFacts.{some_same, get_right}

-- the value of the edge at a place, where it leads to p
abbrev pub child_value : List (Option Edge) → ℕ → ℕ → Option ValueId
child_value es p c = option_and_then (edge_to p) (slice_get es c)

pub edge_is : (p : ℕ) (e : Option Edge) (v : ValueId) → edge_to p e ≡ Some v → (a : Edge) × (e ≡ Some a) × (a.above ≡ p) × (a.value ≡ v)
edge_is p None v h = cc
edge_is p (Some e) v h = by (eqb_tells e.above p)
  where
    by : (((e.above == p) ≡ true) × (e.above ≡ p)) ⊎ (((e.above == p) ≡ false) × (e.above ≢ p)) → (a : Edge) × (Some e ≡ Some a) × (a.above ≡ p) × (a.value ≡ v)
    by (inl t) = (e, refl, t.1, some_same e.value v (sym (rw t.0) ∙ h))
    by (inr f) = let no : ◌≡◌ {A = Option ValueId} None (Some v) = sym (rw f.0) ∙ h in cc

pub edge_here : (p : ℕ) (v : ValueId) → edge_to p (Some (let e : Edge = record { above = p; value = v } in e)) ≡ Some v
edge_here p v = by (eqb_tells p p)
  where
    by : (((p == p) ≡ true) × (p ≡ p)) ⊎ (((p == p) ≡ false) × (p ≢ p)) → edge_to p (Some (let e : Edge = record { above = p; value = v } in e)) ≡ Some v
    by (inl t) = rw t.0
    by (inr f) = absurd (f.1 refl)

pub one_parent : (p q : ℕ) (e : Option Edge) (v w : ValueId) → edge_to p e ≡ Some v → edge_to q e ≡ Some w → (p ≡ q) × (v ≡ w)
one_parent p q e v w h k =
    let (a, is, above, value) = edge_is p e v h in
    let (b, is_too, above_too, value_too) = edge_is q e w k in
    let same : a ≡ b = some_same a b (sym is ∙ is_too) in
    (sym above ∙ ap (λ (z : Edge). z.above) same ∙ above_too, sym value ∙ ap (λ (z : Edge). z.value) same ∙ value_too)

pub one_parent_at : (es : List (Option Edge)) (p q c : ℕ) (v w : ValueId) → child_value es p c ≡ Some v → child_value es q c ≡ Some w → (p ≡ q) × (v ≡ w)
one_parent_at es p q c v w h k = by (slice_get es c) h k
  where
    by : (o : Option (Option Edge)) → option_and_then (edge_to p) o ≡ Some v → option_and_then (edge_to q) o ≡ Some w → (p ≡ q) × (v ≡ w)
    by None h k = cc
    by (Some e) h k = one_parent p q e v w h k

-- The places of children

-- an edge that leads to p is among them, and nothing else is
pub child_in : (es : List (Option Edge)) (k p i c : ℕ) (v : ValueId) → c ≡ k + i → child_value es p i ≡ Some v → In c (children_from k es p)
child_in [] k p i c v e h = cc
child_in (x ∷ es) k p zero c v e h = by (edge_to p x) h
  where
    by : (o : Option ValueId) → o ≡ Some v → In c (kept o k (children_from (suc k) es p))
    by None h = cc
    by (Some w) h = let same : c ≡ k = omega arith in subst (λ z. In z (k ∷ children_from (suc k) es p)) (sym same) here
child_in (x ∷ es) k p (suc i) c v e h = by (edge_to p x) (child_in es (suc k) p i c v (omega arith) h)
  where
    by : (o : Option ValueId) → In c (children_from (suc k) es p) → In c (kept o k (children_from (suc k) es p))
    by None rest = rest
    by (Some w) rest = there rest

pub in_child : (es : List (Option Edge)) (k p c : ℕ) → In c (children_from k es p) → (i : ℕ) × (v : ValueId) × (c ≡ k + i) × (child_value es p i ≡ Some v)
in_child [] k p c at = in_none at
in_child (x ∷ es) k p c at = by (edge_to p x) refl at (λ rest. in_child es (suc k) p c rest)
  where
    later : ((i : ℕ) × (v : ValueId) × (c ≡ suc k + i) × (child_value es p i ≡ Some v)) → (i : ℕ) × (v : ValueId) × (c ≡ k + i) × (child_value (x ∷ es) p i ≡ Some v)
    later (i, v, e, h) = (suc i, v, omega arith, h)

    first : (w : ValueId) → edge_to p x ≡ Some w → (c ≡ k) ⊎ In c (children_from (suc k) es p)
        → (In c (children_from (suc k) es p) → (i : ℕ) × (v : ValueId) × (c ≡ suc k + i) × (child_value es p i ≡ Some v))
        → (i : ℕ) × (v : ValueId) × (c ≡ k + i) × (child_value (x ∷ es) p i ≡ Some v)
    first w h (inl e) again = (0, w, omega arith, h)
    first w h (inr rest) again = later (again rest)

    by : (o : Option ValueId) → edge_to p x ≡ o → In c (kept o k (children_from (suc k) es p))
        → (In c (children_from (suc k) es p) → (i : ℕ) × (v : ValueId) × (c ≡ suc k + i) × (child_value es p i ≡ Some v))
        → (i : ℕ) × (v : ValueId) × (c ≡ k + i) × (child_value (x ∷ es) p i ≡ Some v)
    by None h rest again = later (again rest)
    by (Some w) h rest again = first w h (in_rest rest) again

-- more edges at the end
pub children_more : (es fs : List (Option Edge)) (k m p : ℕ) → m ≡ k + length es → children_from k (es ++ fs) p ≡ children_from k es p ++ children_from m fs p
children_more [] fs k m p e = ap (λ z. children_from z fs p) (let same : k ≡ m = omega arith in same)
children_more (x ∷ es) fs k m p e = by (edge_to p x) (children_more es fs (suc k) m p (omega arith))
  where
    by : (o : Option ValueId) → children_from (suc k) (es ++ fs) p ≡ children_from (suc k) es p ++ children_from m fs p
        → kept o k (children_from (suc k) (es ++ fs) p) ≡ kept o k (children_from (suc k) es p) ++ children_from m fs p
    by None h = h
    by (Some v) h = ap (λ z. k ∷ z) h

-- where no edge leads to p there are none
pub no_children : (es : List (Option Edge)) (k p : ℕ) → ((i : ℕ) (v : ValueId) → child_value es p i ≡ Some v → ⊥) → children_from k es p ≡ []
no_children [] k p none = refl
no_children (x ∷ es) k p none = by (edge_to p x) refl (no_children es (suc k) p (λ i v. none (suc i) v))
  where
    by : (o : Option ValueId) → edge_to p x ≡ o → children_from (suc k) es p ≡ [] → kept o k (children_from (suc k) es p) ≡ []
    by None h rest = rest
    by (Some v) h rest = absurd (none 0 v h)

-- an edge at the end
pub last_child : (es : List (Option Edge)) (p c : ℕ) (e : Option Edge) (v : ValueId) → c ≡ length es → edge_to p e ≡ Some v → child_value (es ++ e ∷ []) p c ≡ Some v
last_child es p c e v is h = ap (option_and_then (edge_to p)) (get_right es (e ∷ []) c 0 (omega arith)) ∙ h

-- children stand in the order of their places
pub children_rise : (es : List (Option Edge)) (k p : ℕ) → Each (λ c. k ≤ c) (children_from k es p) × Rising (λ c d. c < d) (children_from k es p)
children_rise [] k p = (tt, tt)
children_rise (x ∷ es) k p = by (edge_to p x) (children_rise es (suc k) p)
  where
    by : (o : Option ValueId) → Each (λ c. suc k ≤ c) (children_from (suc k) es p) × Rising (λ c d. c < d) (children_from (suc k) es p)
        → Each (λ c. k ≤ c) (kept o k (children_from (suc k) es p)) × Rising (λ c d. c < d) (kept o k (children_from (suc k) es p))
    by None (above, rise) = (each_map (λ c. suc k ≤ c) (λ c. k ≤ c) (λ c h. omega arith) _ above, rise)
    by (Some v) (above, rise) = (((omega arith), each_map (λ c. suc k ≤ c) (λ c. k ≤ c) (λ c h. omega arith) _ above), (each_map (λ c. suc k ≤ c) (λ c. k < c) (λ c h. omega arith) _ above, rise))
