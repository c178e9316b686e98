-- A list of bindings in order is told by its variables and what they stand for.
use Rattle.std.proofs.Common.{◌≡◌, ℕ, ◌⊎◌, inl, inr, Bool, true, false, ◌&&◌, ◌==◌, eqb-true, eq-eqb, if◌then◌else◌, List, [], ◌∷◌, map, sym, refl, ap, ap₂, ◌∙◌, subst, arith}
use Rattle.law_sig.specs.Lists.{In, Rising}
use Rattle.law_sig.specs.Lists.In.{here, there}
use Rattle.law_sig.specs.Trees.{same_sort}
use Rattle.law_sig.specs.declared.tree.SortId.{SortId}
use Rattle.law_laws.proofs.ListFacts.{in_none, in_rest, in_map, of_each}
use Rattle.law_laws.proofs.Sorts.{same_sort_is, same_sort_itself, both_true}
use Rattle.law_laws.proofs.Agreement.{one_order}
use Rattle.law_sig.specs.declared.chain.Bind.{Bind}
use Rattle.law_sig.specs.Chains.{StandsBefore, is_bound, bound_in}

abbrev pub key : Bind → SortId × ℕ
key b = (b.sort, b.index)

pub strict : (b d : Bind) → StandsBefore b d → StandsBefore d b → ⊥
strict b d (inl h) (inl k) = omega arith
strict b d (inl h) (inr k) = let e = ap (λ (s : SortId). s.0) k.0 in omega (arith, e)
strict b d (inr h) (inl k) = let e = ap (λ (s : SortId). s.0) h.0 in omega (arith, e)
strict b d (inr h) (inr k) = let l = h.1 in let m = k.1 in omega (arith, l, m)

pub bound_itself : (b : Bind) → is_bound b.sort b.index b ≡ true
bound_itself b = ap₂ ◌&&◌ (same_sort_itself b.sort) (eq-eqb b.index b.index refl)

pub bound_is : (s : SortId) (i : ℕ) (b : Bind) → is_bound s i b ≡ true → (b.sort ≡ s) × (b.index ≡ i)
bound_is s i b e = let p = both_true (same_sort b.sort s) (b.index == i) e in (same_sort_is b.sort s p.0, eqb-true b.index i p.1)

not_bound : (c b : Bind) → StandsBefore c b → is_bound b.sort b.index c ≡ false
not_bound c b h = by h (is_bound b.sort b.index c) refl
  where
    by : StandsBefore c b → (x : Bool) → is_bound b.sort b.index c ≡ x → x ≡ false
    by (inl k) true e = let q = ap (λ (s : SortId). s.0) (bound_is b.sort b.index c e).0 in absurd (omega (arith, q))
    by (inr k) true e = let q = (bound_is b.sort b.index c e).1 in let l = k.1 in absurd (omega (arith, q, l))
    by h false e = refl

-- what a binding in the list stands for
pub looked_up : (binds : List Bind) → Rising StandsBefore binds → (b : Bind) → In b binds → bound_in binds b.sort b.index ≡ b.term
looked_up [] rising b at = in_none at
looked_up (c ∷ binds) rising b at = by (in_rest at) (looked_up binds rising.1 b)
  where
    by : (b ≡ c) ⊎ In b binds → (In b binds → bound_in binds b.sort b.index ≡ b.term) → (if is_bound b.sort b.index c then c.term else bound_in binds b.sort b.index) ≡ b.term
    by (inl e) ih = ap (λ (z : Bind). if is_bound z.sort z.index c then c.term else bound_in binds z.sort z.index) e
        ∙ ap (λ x. if x then c.term else bound_in binds c.sort c.index) (bound_itself c) ∙ ap (λ (z : Bind). z.term) (sym e)
    by (inr k) ih = ap (λ x. if x then c.term else bound_in binds b.sort b.index) (not_bound c b (of_each (StandsBefore c) k rising.0)) ∙ ih k

pub record Keyed (binds : List Bind) (s : SortId) (i : ℕ) : Type 0 where
  pub bind : Bind
  pub at : In bind binds
  pub sort : bind.sort ≡ s
  pub index : bind.index ≡ i

pub keyed : (binds : List Bind) (s : SortId) (i : ℕ) → In {A = SortId × ℕ} (s, i) (map key binds) → Keyed binds s i
keyed [] s i at = in_none at
keyed (b ∷ binds) s i at = by (in_rest at) (keyed binds s i)
  where
    by : ((s, i) ≡ key b) ⊎ In {A = SortId × ℕ} (s, i) (map key binds) → (In {A = SortId × ℕ} (s, i) (map key binds) → Keyed binds s i) → Keyed (b ∷ binds) s i
    by (inl e) ih = record { bind = b; at = here; sort = ap (λ (z : SortId × ℕ). z.0) (sym e); index = ap (λ (z : SortId × ℕ). z.1) (sym e) }
    by (inr k) ih = let r = ih k in record { bind = r.bind; at = there r.at; sort = r.sort; index = r.index }

same_bind : (b d : Bind) → b.sort ≡ d.sort → b.index ≡ d.index → b.term ≡ d.term → b ≡ d
same_bind b d p q r = λ i. let x : Bind = record { sort = p i; index = q i; term = r i } in x

abbrev pub SameKeys : List Bind → List Bind → Type 0
SameKeys bs cs = (s : SortId) (i : ℕ) → In {A = SortId × ℕ} (s, i) (map key bs) → In {A = SortId × ℕ} (s, i) (map key cs)

abbrev pub AgreeOn : List Bind → List Bind → Type 0
AgreeOn bs cs = (s : SortId) (i : ℕ) → In {A = SortId × ℕ} (s, i) (map key bs) → bound_in bs s i ≡ bound_in cs s i

found_in : (bs cs : List Bind) → Rising StandsBefore bs → Rising StandsBefore cs → SameKeys bs cs → AgreeOn bs cs → (b : Bind) → In b bs → In b cs
found_in bs cs r q to agree b at =
    let k = in_map key at in
    let d = keyed cs b.sort b.index (to b.sort b.index k) in
    let e : d.bind.term ≡ b.term = sym (looked_up cs q d.bind d.at) ∙ (λ i. bound_in cs (d.sort i) (d.index i)) ∙ sym (agree b.sort b.index k) ∙ looked_up bs r b at in
    subst (λ z. In z cs) (same_bind d.bind b d.sort d.index e) d.at

pub one_list_of_binds : (bs cs : List Bind) → Rising StandsBefore bs → Rising StandsBefore cs → SameKeys bs cs → SameKeys cs bs → AgreeOn bs cs → AgreeOn cs bs → bs ≡ cs
one_list_of_binds bs cs r q to back a b = one_order StandsBefore strict bs cs r q (found_in bs cs r q to a) (found_in cs bs q r back b)
