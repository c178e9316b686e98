-- What was found in order is a beginning of the plan.
use Rattle.std.proofs.Common.{◌≡◌, ◌⊎◌, inl, inr, List, [], ◌∷◌, ◌++◌, refl, sym, ap, ◌∙◌, subst, append_assoc}
use Rattle.law_sig.specs.Lists.{In, Each, Rising}
use Rattle.law_sig.specs.Lists.In.{here}
use Rattle.law_sig.specs.Tests.{Pools}
use Rattle.law_sig.specs.declared.tree.Tree.{Tree}
use Rattle.law_sig.specs.declared.parts.SigParts.{SigParts}
use Rattle.law_laws.specs.Orders.{WeighsSomething}
use Rattle.law_laws.specs.Renaming.{HasWidth}
use Rattle.law_laws.proofs.ListFacts.{in_none, in_rest, in_split, in_right, in_left, of_each}
use Rattle.law_valid.specs.Stated.{stated}
use Rattle.law_plan.specs.Plan.{schema, Precedes, Entry, spread, item_of, spread_at, StandsBefore, IsPlan}
use Rattle.law_plan.specs.Search.{IsNext, AreFollowed}
use Rattle.law_plan.specs.Search.AreFollowed.{start, next}
use Rattle.law_plan.proofs.Items.{never_itself, never_both, each_mapped, in_spread, spread_in}
use Rattle.law_plan.proofs.Planned.{planned_by, entry_more}
use Rattle.law_plan.proofs.Followed.{AreRight, followed_right, is_entry, before_it, nothing_between}

-- in a rising list what stands in front of an item, and what stands behind it
pub rising_front : {A : Type 0} (R : A → A → Type 0) (xs : List A) (d : A) (more : List A) → Rising R (xs ++ d ∷ more) → Each (λ x. R x d) xs
rising_front R [] d more rising = tt
rising_front R (x ∷ xs) d more rising = (of_each (R x) (in_right xs here) rising.0, rising_front R xs d more rising.1)

pub rising_back : {A : Type 0} (R : A → A → Type 0) (xs : List A) (d : A) (more : List A) → Rising R (xs ++ d ∷ more) → Each (R d) more
rising_back R [] d more rising = rising.0
rising_back R (x ∷ xs) d more rising = rising_back R xs d more rising.1

module _ (parts : SigParts) (pools : Pools) (weighs : WeighsSomething parts) (wide : HasWidth parts) (ys : List Entry) (plan : IsPlan parts pools ys) where
  -- one step: the plan goes on with the next entry
  module _ (xs more : List Entry) (split : ys ≡ xs ++ more) (followed : AreFollowed parts pools xs) (e : Entry) (is : IsNext parts pools xs e) where
    right : AreRight parts pools weighs wide xs
    right = followed_right parts pools weighs wide followed

    in_plan : In e ys
    in_plan = (plan.members e).1 (entry_more parts weighs pools (stated spread_at xs) (stated spread_at ys) e
        (λ c at. in_spread (subst (In (spread c)) (sym split) (in_left more (spread_in xs c at))))
        (is_entry parts pools weighs wide xs right e is))

    not_before : In e xs → ⊥
    not_before at = never_itself parts (item_of e) (before_it parts pools weighs wide xs right e is e at)

    among : In e more
    among = by (in_split xs more (subst (In e) split in_plan))
      where
        by : In e xs ⊎ In e more → In e more
        by (inl at) = absurd (not_before at)
        by (inr at) = at

  -- what stands between the entries so far and the next would be due
  first_is : (xs : List Entry) (d : Entry) (more : List Entry) → ys ≡ xs ++ d ∷ more → AreFollowed parts pools xs → (e : Entry) → IsNext parts pools xs e → In e more → ⊥
  first_is xs d more split followed e is at = nothing_between parts pools weighs wide xs (followed_right parts pools weighs wide followed) e is (item_of d)
      (planned_by parts weighs pools (stated spread_at ys) (stated spread_at xs) (item_of d) earlier ((plan.members d).0 (subst (In d) (sym split) (in_right xs here))).planned)
      (each_mapped item_of (λ x. Precedes parts x (item_of d)) xs (rising_front (StandsBefore parts) xs d more rising))
      (of_each (StandsBefore parts d) at (rising_back (StandsBefore parts) xs d more rising))
    where
      rising : Rising (StandsBefore parts) (xs ++ d ∷ more)
      rising = subst (Rising (StandsBefore parts)) split plan.rising

      earlier : (c : Tree) → Precedes parts (schema c) (item_of d) → In c (stated spread_at ys) → In c (stated spread_at xs)
      earlier c h at = by (in_split xs (d ∷ more) (subst (In (spread c)) split (spread_in ys c at)))
        where
          behind : (spread c ≡ d) ⊎ In (spread c) more → In c (stated spread_at xs)
          behind (inl same) = absurd (never_itself parts (schema c) (subst (Precedes parts (schema c)) (sym (ap item_of same)) h))
          behind (inr at) = absurd (never_both parts (schema c) (item_of d) h (of_each (StandsBefore parts d) at (rising_back (StandsBefore parts) xs d more rising)))

          by : In (spread c) xs ⊎ In (spread c) (d ∷ more) → In c (stated spread_at xs)
          by (inl at) = in_spread at
          by (inr at) = behind (in_rest at)

  one_on : (xs more : List Entry) → ys ≡ xs ++ more → AreFollowed parts pools xs → (e : Entry) → IsNext parts pools xs e
      → (rest : List Entry) × (ys ≡ (xs ++ e ∷ []) ++ rest)
  one_on xs [] split followed e is = in_none (among xs [] split followed e is)
  one_on xs (d ∷ more) split followed e is = by (in_rest (among xs (d ∷ more) split followed e is))
    where
      by : (e ≡ d) ⊎ In e more → (rest : List Entry) × (ys ≡ (xs ++ e ∷ []) ++ rest)
      by (inl same) = (more, split ∙ ap (λ x. xs ++ x ∷ more) (sym same) ∙ sym (append_assoc xs (e ∷ []) more))
      by (inr at) = absurd (first_is xs d more split followed e is at)

  pub followed_begins : {xs : List Entry} → AreFollowed parts pools xs → (more : List Entry) × (ys ≡ xs ++ more)
  followed_begins start = (ys, refl)
  followed_begins (next xs e followed is) = let (more, split) = followed_begins followed in one_on xs more split followed e is
