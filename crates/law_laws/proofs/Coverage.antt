-- The law list covers.
use Rattle.std.proofs.Common.{◌≡◌, ◌≢◌, ℕ, ◌<◌, ◌⊎◌, List, ◌++◌, Option, Some, None, IsSome, IsTrue, Bool, true, false, true≢false, if◌then◌else◌, inl, inr, refl, sym, ap, ◌∙◌, subst, subst₂}
use Rattle.law_sig.specs.Lists.{In}
use Rattle.law_sig.specs.Signature.{is_declared_sort}
use Rattle.law_sig.specs.Tests.{InU, Pools, test_count, val, Same, IsDefined}
use Rattle.law_sig.specs.Derive.{KeepsSorts, Derivable}
use Rattle.law_sig.specs.Derive.Derivable.{reflexive, symmetric, transitive, instance}
use Rattle.law_sig.specs.Laws.{IsLaw, IsToldApart, IsCovered, IsLeast, IsListed, IsLawList}
use Rattle.law_sig.specs.declared.tree.SortId.{SortId}
use Rattle.law_sig.specs.declared.tree.Tree.{Tree}
use Rattle.law_sig.specs.declared.tree.Tree.TheVariants.{Var}
use Rattle.law_sig.specs.declared.parts.Equation.{Equation}
use Rattle.law_sig.specs.declared.parts.SigParts.{SigParts}
use Rattle.law_laws.proofs.TreeFacts.{sort-Var, substituted_itself}
use Rattle.law_laws.proofs.ListFacts.{each_of, in_right}
use Rattle.law_laws.proofs.Decide.{trees_decided, values_decided, below_decided}

-- variables have their sort
pub keeps_itself : (parts : SigParts) → KeepsSorts parts Var
keeps_itself parts sort index declared = sort-Var parts sort index ∙ holds (is_declared_sort parts sort) declared
  where
    holds : (b : Bool) → IsTrue b → (if b then Some sort else None) ≡ Some sort
    holds true h = refl
    holds false h = absurd (true≢false (sym h))

-- an equation of the list is derivable as it stands
pub derivable_itself : (parts : SigParts) (equations : List Equation) (e : Equation) → In e equations
    → Derivable parts equations e.left e.right
derivable_itself parts equations e at = subst₂ (Derivable parts equations) (substituted_itself e.left) (substituted_itself e.right) (instance e Var at (keeps_itself parts))

-- two terms that have values at every test are told apart by one, or have the same value at each
pub same_decided : (parts : SigParts) (pools : Pools) (s t : Tree) → IsDefined parts pools s → IsDefined parts pools t
    → IsToldApart parts pools s t ⊎ Same parts pools s t
same_decided parts pools s t s_defined t_defined = cases (below_decided _ _ (λ test. values_decided (val parts pools test s) (val parts pools test t)) (test_count parts pools))
  where
    apart : (test : ℕ) → test < test_count parts pools → (v w : Option Tree) → val parts pools test s ≡ v → val parts pools test t ≡ w
        → IsSome v → IsSome w → v ≢ w → IsToldApart parts pools s t
    apart test within None w e k p q d = absurd (true≢false (sym p))
    apart test within (Some v) None e k p q d = absurd (true≢false (sym q))
    apart test within (Some v) (Some w) e k p q d =
        record { test = test; within = within; left = v; right = w; left_value = e; right_value = k; differ = λ same. d (ap Some same) }

    cases : Same parts pools s t ⊎ ((test : ℕ) × (test < test_count parts pools) × (val parts pools test s ≢ val parts pools test t))
        → IsToldApart parts pools s t ⊎ Same parts pools s t
    cases (inl same) = inr same
    cases (inr found) = inl (apart found.0 found.1 _ _ refl refl (s_defined found.0 found.1) (t_defined found.0 found.1) found.2)

module _ (parts : SigParts) (pools : Pools) (laws : List Equation) (listed : IsLawList parts pools laws)
    (defined : (sort : SortId) (t : Tree) → InU parts sort t → IsDefined parts pools t) where
  -- a term is derivable as equal to its least
  pub to_least : (sort : SortId) (t u : Tree) → InU parts sort t → IsLeast parts pools sort t u
      → Derivable parts (parts.settings.background ++ laws) t u
  to_least sort t u bounded least = by (trees_decided t u)
    where
      by : (t ≡ u) ⊎ (t ≢ u) → Derivable parts (parts.settings.background ++ laws) t u
      by (inl e) = subst (Derivable parts (parts.settings.background ++ laws) t) e (reflexive t)
      by (inr other) =
          let e : Equation = record { left = t; right = u } in
          derivable_itself parts (parts.settings.background ++ laws) e
          (in_right parts.settings.background ((listed.members e).1 (record { sort = sort; bounded = bounded; least = least; other = other })))

  pub law_holds : (e : Equation) → In e laws → IsLaw parts pools e
  law_holds e at = record {
    sort = l.sort;
    left = l.bounded;
    right = l.least.bounded;
    agree = record { same = l.least.same; defined = defined l.sort e.left l.bounded };
  }
    where
      l : IsListed parts pools e
      l = (listed.members e).0 at

pub covers : (parts : SigParts) (pools : Pools) (laws : List Equation)
    → IsLawList parts pools laws
    → ((sort : SortId) (t : Tree) → InU parts sort t → IsDefined parts pools t)
    → ((sort : SortId) (t : Tree) → InU parts sort t → (u : Tree) × IsLeast parts pools sort t u)
    → IsCovered parts pools laws
covers parts pools laws listed defined has_least = record {
  terms = λ sort s t s_in t_in. decided sort s t s_in t_in (same_decided parts pools s t (defined sort s s_in) (defined sort t t_in));
  laws_hold = each_of (IsLaw parts pools) laws (law_holds parts pools laws listed defined);
}
  where
    -- the least of s is the least of t too
    also : (sort : SortId) (s t u : Tree) → InU parts sort t → Same parts pools s t → IsLeast parts pools sort s u → IsLeast parts pools sort t u
    also sort s t u t_in same least = record {
      sorted = t_in.sorted;
      bounded = least.bounded;
      same = λ test within. sym (same test within) ∙ least.same test within;
      least = λ w w_in w_same. least.least w w_in (λ test within. same test within ∙ w_same test within);
    }

    decided : (sort : SortId) (s t : Tree) → InU parts sort s → InU parts sort t → IsToldApart parts pools s t ⊎ Same parts pools s t
        → IsToldApart parts pools s t ⊎ Derivable parts (parts.settings.background ++ laws) s t
    decided sort s t s_in t_in (inl apart) = inl apart
    decided sort s t s_in t_in (inr same) = inr (by_least (has_least sort s s_in))
      where
        by_least : (u : Tree) × IsLeast parts pools sort s u → Derivable parts (parts.settings.background ++ laws) s t
        by_least (u, least) = transitive s u t (to_least parts pools laws listed defined sort s u s_in least)
            (symmetric t u (to_least parts pools laws listed defined sort t u t_in (also sort s t u t_in same least)))
