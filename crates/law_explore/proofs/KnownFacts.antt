-- The terms of the universe that stand before one of them, and their classes.
use Rattle.std.proofs.Common.{◌≡◌, ℕ, zero, suc, ◌+◌, ◌<◌, inl, inr, Some, IsSome, List, [], ◌∷◌, ◌++◌, length, take, slice_get, slice_index_or, Vec, sym, refl, ap, ◌∙◌, subst, arith}
use Rattle.std.specs.declared.alloc.Global.{Global}
use Rattle.std.proofs.lemmas.Bool.{cases_lt}
use Rattle.std.proofs.Math.Nat.{eq-or-lt_of_le}
use Rattle.std.proofs.lemmas.Option.{slice_get_read, slice_get_within}
use Rattle.law_sig.specs.Lists.{In}
use Rattle.law_sig.specs.Lists.In.{here, there}
use Rattle.law_sig.specs.Signature.{args_of}
use Rattle.law_sig.specs.Tests.{InU}
use Rattle.law_sig.specs.Order.{IsBefore}
use Rattle.law_sig.specs.WellFormed.{IsWellFormed}
use Rattle.law_sig.specs.declared.tree.SortId.{SortId}
use Rattle.law_sig.specs.declared.tree.SymId.{SymId}
use Rattle.law_sig.specs.declared.tree.Tree.{Tree}
use Rattle.law_sig.specs.declared.tree.Tree.TheVariants.{App}
use Rattle.law_sig.specs.declared.parts.SigParts.{SigParts}
use Rattle.law_laws.proofs.Descents.{weighs_something}
use Rattle.law_laws.proofs.ListFacts.{each_of}
use Rattle.law_laws.proofs.Orders.{lighter_before, never_before_itself, before_chain}
use Rattle.law_laws.proofs.Renaming.{bounded_vars}
use Rattle.law_laws.proofs.Universe.{AreInU, in_app, arg_weight}
use Rattle.law_ids.specs.Values.{Grows}
use Rattle.law_ids.proofs.Reading.{take_next}
use Rattle.law_draws.specs.Draws.{pools_by}
use Rattle.law_testing.specs.Values.{IsTestable, Both}
use Rattle.law_testing.proofs.BothFacts.{both_at, both_more}
use Rattle.law_explore.specs.Universe.{IsUniverse}
use Rattle.law_explore.specs.Refusals.{Refusal, LacksValue, HasLackingTerm}
use Rattle.law_explore.specs.Values.{HasVector, IsPlaced, HasClass, AreArgsPlaced, HasArgClasses, HasArgVectors}
use Rattle.law_explore.specs.Classes.{AddsVectors}
use Rattle.law_explore.proofs.LawFacts.{some_is}
use Rattle.law_listing.proofs.Rising.{place_of, at_place, rising_places}
use Rattle.law_explore.proofs.ClassFacts.{classes_stay}

get_take : {A : Type 0} (xs : List A) (n k : ℕ) (x : A) → k < n → slice_get xs k ≡ Some x → slice_get (take n xs) k ≡ Some x
get_take [] n k x less e = cc
get_take (y ∷ xs) zero k x less e = absurd (omega arith)
get_take (y ∷ xs) (suc n) zero x less e = e
get_take (y ∷ xs) (suc n) (suc k) x less e = get_take xs n k x (omega arith) e

each_in : (parts : SigParts) (ts : List Tree) (ws : List SortId) → AreInU parts ts ws → (t : Tree) → In t ts → (sort : SortId) × InU parts sort t
each_in parts [] ws all t at = elim at [ ]
each_in parts (s ∷ ts) [] all t at = absurd all
each_in parts (s ∷ ts) (w ∷ ws) all t here = (w, all.0)
each_in parts (s ∷ ts) (w ∷ ws) all t (there at) = each_in parts ts ws all.1 t at

module _ (parts : SigParts) (terms : List Tree) (universe : IsUniverse parts terms) (at : ℕ) (t : Tree) (t_is : slice_get terms at ≡ Some t) where
  in_universe : (sort : SortId) × InU parts sort t
  in_universe = (universe.members t).0 (at_place t terms at t_is)

  pub universe_testable : IsTestable parts t
  universe_testable = let (sort, u) = in_universe in record { sort = sort; sorted = u.sorted; variables = bounded_vars parts t u.bounded }

  -- what comes before a term stands before it
  earlier : (s : Tree) (k : ℕ) → slice_get terms k ≡ Some s → IsBefore parts s t → k < at
  earlier s k s_is before = elim (cases_lt k at) [
    | inl less ↦ less
    | inr more ↦ elim (eq-or-lt_of_le more) [
      | inl same ↦
          let is : s ≡ t = some_is (sym s_is ∙ ap (slice_get terms) (sym same) ∙ t_is) in
          absurd (never_before_itself parts t (subst (λ x. IsBefore parts x t) is before))
      | inr less ↦ absurd (never_before_itself parts s (before_chain parts s t s before (rising_places (IsBefore parts) terms at k t s universe.ordered less t_is s_is)))
    ]
  ]

  module _ (bank : List Tree) (vectors : List (Vec ℕ Global)) (classes : List ℕ) (have : Both (HasVector parts bank vectors) (take at terms) classes) where
    -- a place before has its term's class
    class_at : (s : Tree) (k : ℕ) → k < at → slice_get terms k ≡ Some s → (class : ℕ) × (slice_get classes k ≡ Some class) × HasVector parts bank vectors s class
    class_at s k less s_is = both_at (HasVector parts bank vectors) (take at terms) classes have k s (get_take terms at k s less s_is)

    -- where an argument of the term stands comes before it
    arg_before : IsWellFormed parts → (f : SymId) (args : List Tree) → t ≡ App f args → (s : Tree) → In s args → In s terms × ((k : ℕ) → slice_get terms k ≡ Some s → k < at)
    arg_before well f args is s s_in =
        let (sort, u) = in_universe in
        let a = in_app parts f args sort (subst (InU parts sort) is u) in
        let (own, s_u) = each_in parts args (args_of a.symbol) a.arguments s s_in in
        let lighter = arg_weight parts (weighs_something parts well) f args s s_in in
        let before : IsBefore parts s t = subst (IsBefore parts s) (sym is) (lighter_before parts s (App f args) lighter) in
        ((universe.members s).1 (own, s_u), λ k s_is. earlier s k s_is before)

    -- so the arguments of the term have classes
    pub args_placed : IsWellFormed parts → AreArgsPlaced terms classes t
    args_placed well f args is = each_of (IsPlaced terms classes) args (λ s s_in.
        let (listed, before) = arg_before well f args is s s_in in
        record { there = listed; within = λ k s_is. let (class, class_is, has) = class_at s k (before k s_is) s_is in slice_get_within classes k class class_is })

    pub args_have : IsWellFormed parts → (found own : List ℕ) → HasArgClasses terms classes t found → own ≡ found → HasArgVectors parts bank vectors t own
    args_have well found own are same f args is = subst (Both (HasVector parts bank vectors) args) (sym same) (all args found (λ s s_in. (arg_before well f args is s s_in).1) (are f args is))
      where
        all : (ts : List Tree) (ks : List ℕ) → ((s : Tree) → In s ts → (k : ℕ) → slice_get terms k ≡ Some s → k < at) → Both (HasClass terms classes) ts ks
            → Both (HasVector parts bank vectors) ts ks
        all [] [] before both = tt
        all [] (k ∷ ks) before both = absurd both
        all (s ∷ ts) [] before both = absurd both
        all (s ∷ ts) (k ∷ ks) before both =
            let (class, class_is, has) = class_at s both.0.place (before s here both.0.place both.0.stands) both.0.stands in
            (subst (HasVector parts bank vectors s) (some_is (sym class_is ∙ both.0.is)) has, all ts ks (λ u u_in. before u (there u_in)) both.1)

    -- the first term that lacks a value
    pub first_lacking : (r : Refusal) → LacksValue parts (pools_by parts) t r → HasLackingTerm parts (pools_by parts) r
    first_lacking r lacks =
        let (sort, u) = in_universe in
        record {
          term = t;
          sort = sort;
          bounded = u;
          lacks = lacks;
          before = λ own s s_u before test within.
              let (k, s_is) = place_of ((universe.members s).1 (own, s_u)) in
              let (class, class_is, has) = class_at s k (earlier s k s_is before) s_is in
              subst IsSome (sym (has.is.values test within).is) refl;
        }

-- what a slice of the terms has at a place
pub stands_at : (slice terms : List Tree) (at : ℕ) (t : Tree) → slice ≡ terms → at < length slice → t ≡ slice_index_or slice at t → slice_get terms at ≡ Some t
stands_at slice terms at t same less is = ap (λ l. slice_get l at) (sym same) ∙ slice_get_read slice (length slice) at t refl less is

-- one class more
pub classes_more : (parts : SigParts) (old bank : List Tree) (before vectors : List (Vec ℕ Global)) (terms : List Tree) (at : ℕ) (t : Tree) (classes more : List ℕ) (class : ℕ)
    → Both (HasVector parts old before) (take at terms) classes → Grows old bank → AddsVectors before vectors → HasVector parts bank vectors t class → at < length terms
    → t ≡ slice_index_or terms at t → more ≡ classes ++ class ∷ [] → Both (HasVector parts bank vectors) (take (at + 1) terms) more
classes_more parts old bank before vectors terms at t classes more class have grows extends has less is_at e =
    subst (Both (HasVector parts bank vectors) (take (at + 1) terms)) (sym e)
    (subst (λ l. Both (HasVector parts bank vectors) l (classes ++ class ∷ [])) (sym (take_next terms at t less is_at))
    (both_more (HasVector parts bank vectors) (take at terms) classes t class
    (classes_stay parts old bank before vectors grows extends (take at terms) classes have) has))
