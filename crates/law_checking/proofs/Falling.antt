-- Schemas that stand before others, and killed ones.
use Rattle.std.proofs.Common.{◌≡◌, ◌<◌, ◌^◌, ◌↔◌, List, Bool, false, true≢false, IsTrue, Less, Equal, Greater, sym, refl, ap, ap₂, ◌∙◌, subst, arith}
use Rattle.std.specs.declared.cmp.Ordering.{Ordering}
use Rattle.std.specs.Ordering.{ordering_then}
use Rattle.law_sig.specs.Trees.{schema_of}
use Rattle.law_sig.specs.WellFormed.{IsWellFormed}
use Rattle.law_sig.specs.Tests.{weight, InU}
use Rattle.law_sig.specs.Order.{compare_k, explore_cmp, IsBefore}
use Rattle.law_sig.specs.declared.tree.SortId.{SortId}
use Rattle.law_sig.specs.declared.tree.Tree.{Tree}
use Rattle.law_sig.specs.declared.parts.Equation.{Equation}
use Rattle.law_sig.specs.declared.parts.SigParts.{SigParts}
use Rattle.law_sig.specs.General.{IsNumbered}
use Rattle.law_laws.proofs.Universe.{schema_in}
use Rattle.law_sig.specs.declared.chain.Step.{Step}
use Rattle.law_sig.specs.Chains.{Replays}
use Rattle.law_valid.specs.Judged.{HasSides}
use Rattle.law_laws.proofs.Orders.{schema_twice}
use Rattle.law_checking.specs.Rules.{TellsKilled}

-- of schemas, K alone decides
twice : (o : Ordering) → ordering_then o o ≡ o
twice Less = refl
twice Equal = refl
twice Greater = refl

by_k : (parts : SigParts) (s t : Tree) → explore_cmp parts (schema_of s) (schema_of t) ≡ compare_k parts (schema_of s) (schema_of t)
by_k parts s t =
    ap₂ (λ x y. ordering_then (compare_k parts x y) (compare_k parts (schema_of s) (schema_of t))) (schema_twice s) (schema_twice t)
    ∙ twice (compare_k parts (schema_of s) (schema_of t))

pub falls_by : (parts : SigParts) (s t lower upper : Tree) (o : Ordering) → lower ≡ schema_of s → upper ≡ schema_of t → o ≡ compare_k parts lower upper
    → IsBefore parts (schema_of s) (schema_of t) ↔ (o ≡ Less)
falls_by parts s t lower upper o is is' e =
    let same : o ≡ explore_cmp parts (schema_of s) (schema_of t) = e ∙ ap₂ (compare_k parts) is is' ∙ sym (by_k parts s t) in
    (λ h. same ∙ h, λ k. sym same ∙ k)

-- schemas of the universe are light
pub light : (parts : SigParts) → IsWellFormed parts → (sort : SortId) (t lower : Tree) → InU parts sort t → lower ≡ schema_of t → weight parts lower < 2 ^ 64
light parts well sort t lower u is =
    let small = (schema_in parts sort t u).small in
    let few = well.settings.size in
    let e = ap (weight parts) is in
    omega arith

-- a killed schema, by its tests
pub told_killed : (parts other : SigParts) (equations : List Equation) (q : Equation) (steps : List Step) (leads : Bool) → other ≡ parts
    → HasSides parts q → IsNumbered q.left → IsBefore other (schema_of q.right) (schema_of q.left) → (IsTrue leads ↔ Replays other equations steps q.left q.right)
    → TellsKilled parts equations q steps leads
told_killed parts other equations q steps leads same sides general falls chain before is =
    let on = subst (λ (p : SigParts). IsTrue leads ↔ Replays p equations steps q.left q.right) same chain in (
      λ e. record {
        sort = sides.sort;
        left = sides.left;
        general = general;
        right = sides.right;
        falls = subst (λ (p : SigParts). IsBefore p (schema_of q.right) (schema_of q.left)) same falls;
        chain = subst (λ k. Replays parts k steps q.left q.right) is (on.0 e);
      },
      λ k. on.1 (subst (λ l. Replays parts l steps q.left q.right) (sym is) k.chain),
    )

pub not_killed : (parts other : SigParts) (equations : List Equation) (q : Equation) (steps : List Step) (below : Bool) → other ≡ parts
    → (IsTrue below ↔ IsBefore other (schema_of q.right) (schema_of q.left)) → below ≡ false → TellsKilled parts equations q steps false
not_killed parts other equations q steps below same tells never before is = (
  λ e. absurd (true≢false (sym e)),
  λ k. absurd (true≢false (sym (tells.1 (subst (λ (p : SigParts). IsBefore p (schema_of q.right) (schema_of q.left)) (sym same) k.falls)) ∙ never)),
)
