-- Look-ups of variables, and of what a change puts for one.
use Rattle.std.proofs.Common.{◌≡◌, ℕ, ◌+◌, ◌-◌, ◌<◌, ◌≤◌, ◌⊎◌, inl, inr, Bool, true, false, if◌then◌else◌, List, [], ◌∷◌, length, map, zero, suc, slice_get, slice_set, insert, remove, take, drop, slice_index_or, Some, None, Option, MatchOption, ap, sym, ◌∙◌, refl, subst, arith}
use denote.Bor.{Bor}
use Rattle.law_sig.specs.Lists.{In}
use Rattle.law_sig.specs.Lists.In.{here, there}
use Rattle.law_sig.specs.Chains.{is_bound}
use Rattle.law_sig.specs.declared.tree.SortId.{SortId}
use Rattle.law_laws.proofs.ListFacts.{in_rest, in_none}
use Rattle.law_rewriting.proofs.Binds.{bound_itself, bound_is}
use Rattle.std.proofs.lemmas.List.{take_all, drop_all}
use Rattle.std.proofs.lemmas.Option.{slice_get_within}
use Rattle.law_bank.specs.declared.node.Node.{Node}
use Rattle.law_bank.specs.Terms.{tree_of}
use Rattle.law_bank.specs.Bindings.{Binding, bind_of, subst_of, comes_before, before_count, with_binding}
use Rattle.law_bank.proofs.BindingFacts.{put_there, put_new}
use Rattle.law_term.specs.Substs.{variable_of, IsBound, IsFree, is_there}

-- a list by its first item and the rest, as a slice's pattern reads them
pub first_rest : {A : Type 0} (xs : List A) (d : A) → 1 ≤ length xs → xs ≡ slice_index_or xs 0 d ∷ take (length xs - 1) (drop 1 xs)
first_rest [] d h = absurd (omega arith)
first_rest (x ∷ xs) d h = ap (λ l. x ∷ l) (sym (take_all (length (x ∷ xs) - 1) xs (omega arith)))

module _ (sort : SortId) (index : ℕ) (b : Binding) (bs : List Binding) where
  -- the first binding is that of the variable
  bound_here : is_bound sort index (bind_of b) ≡ true → IsBound (b ∷ bs) sort index b.2
  bound_here e =
      let same = bound_is sort index (bind_of b) e in
      record {
        bound = subst (λ (z : SortId × ℕ). In {A = Binding} (z.0, z.1, b.2) (b ∷ bs)) (λ j. (same.0 j, same.1 j)) here;
        is = ap (λ c. if c then tree_of b.2.now else subst_of bs sort index) e;
      }

  -- the first binding is that of another one
  module _ (e : is_bound sort index (bind_of b) ≡ false) where
    skipped : subst_of (b ∷ bs) sort index ≡ subst_of bs sort index
    skipped = ap (λ c. if c then tree_of b.2.now else subst_of bs sort index) e

    bound_later : (o : Option (Bor Node)) → MatchOption o (IsFree bs sort index) (IsBound bs sort index) → MatchOption o (IsFree (b ∷ bs) sort index) (IsBound (b ∷ bs) sort index)
    bound_later None h = record { absent = λ i. by (in_rest i); is = skipped ∙ h.is }
      where
        by : ((sort, index) ≡ variable_of b) ⊎ In {A = SortId × ℕ} (sort, index) (map variable_of bs) → ⊥
        by (inl q) = let k : is_bound sort index (bind_of b) ≡ true = ap (λ (z : SortId × ℕ). is_bound z.0 z.1 (bind_of b)) q ∙ bound_itself (bind_of b) in cc
        by (inr i) = h.absent i
    bound_later (Some t) h = record { bound = there h.bound; is = skipped ∙ h.is }

-- a list from one of its items on
pub drop_get : {A : Type 0} (xs : List A) (at : ℕ) (d : A) → at < length xs → drop at xs ≡ slice_index_or xs at d ∷ drop (at + 1) xs
drop_get [] at d h = absurd (omega arith)
drop_get (x ∷ xs) zero d h = refl
drop_get (x ∷ xs) (suc n) d h = let up : suc n + 1 ≡ suc (n + 1) = omega arith in drop_get xs n d (omega arith) ∙ ap (λ k. slice_index_or xs n d ∷ drop k (x ∷ xs)) (sym up)

module _ (sort : SortId) (index : ℕ) (bs : List Binding) where
  -- what is found from a place on is found
  abbrev pub FoundFrom : ℕ → Type 0
  FoundFrom at = (o : Option (Bor Node)) → MatchOption o (IsFree (drop at bs) sort index) (IsBound (drop at bs) sort index) → MatchOption o (IsFree bs sort index) (IsBound bs sort index)

  module _ (at : ℕ) (d : Binding) (h : at < length bs) (f : FoundFrom at) where
    pub found_here : is_bound sort index (bind_of (slice_index_or bs at d)) ≡ true → IsBound bs sort index (slice_index_or bs at d).2
    found_here e = f (Some (slice_index_or bs at d).2)
        (subst (λ (l : List Binding). IsBound l sort index (slice_index_or bs at d).2) (sym (drop_get bs at d h)) (bound_here sort index (slice_index_or bs at d) (drop (at + 1) bs) e))

    pub found_next : is_bound sort index (bind_of (slice_index_or bs at d)) ≡ false → FoundFrom (at + 1)
    found_next e o k = f o (subst (λ (l : List Binding). MatchOption o (IsFree l sort index) (IsBound l sort index)) (sym (drop_get bs at d h))
        (bound_later sort index (slice_index_or bs at d) (drop (at + 1) bs) e o k))

  pub found_none : (at : ℕ) → length bs ≤ at → FoundFrom at → IsFree bs sort index
  found_none at over f = f None (subst (λ (l : List Binding). IsFree l sort index) (sym (drop_all at bs over)) (record { absent = λ i. in_none i; is = refl }))

-- The place of a binding

pub count_within : (s : SortId) (i : ℕ) (bs : List Binding) → before_count s i bs ≤ length bs
count_within s i [] = omega arith
count_within s i (b ∷ bs) = by (comes_before b.0 b.1 s i) (count_within s i bs)
  where
    by : (c : Bool) → before_count s i bs ≤ length bs → (if c then 1 + before_count s i bs else 0) ≤ length (b ∷ bs)
    by true h = omega arith
    by false h = omega arith

there_within : (s : SortId) (i : ℕ) (bs : List Binding) (at : ℕ) → is_there s i (slice_get bs at) ≡ true → at < length bs
there_within s i bs at t = by (slice_get bs at) refl t
  where
    by : (o : Option Binding) → slice_get bs at ≡ o → is_there s i o ≡ true → at < length bs
    by None p q = cc
    by (Some y) p q = slice_get_within bs at y p

put_over : (b : Binding) (bs : List Binding) (at : ℕ) → at ≡ before_count b.0 b.1 bs → is_there b.0 b.1 (slice_get bs at) ≡ true → slice_set bs at b ≡ with_binding b bs
put_over b bs at e t = ap (λ k. slice_set bs k b) e ∙ by (slice_get bs (before_count b.0 b.1 bs)) refl (ap (λ k. is_there b.0 b.1 (slice_get bs k)) (sym e) ∙ t)
  where
    by : (o : Option Binding) → slice_get bs (before_count b.0 b.1 bs) ≡ o → is_there b.0 b.1 o ≡ true → slice_set bs (before_count b.0 b.1 bs) b ≡ with_binding b bs
    by None p q = cc
    by (Some y) p q = put_there b bs y p q

-- a new item takes the place of an old one
instead : {A : Type 0} (xs : List A) (at : ℕ) (x : A) → at < length xs → remove (insert xs at x) (suc at) ≡ slice_set xs at x
instead [] at x h = absurd (omega arith)
instead (y ∷ xs) zero x h = refl
instead (y ∷ xs) (suc n) x h = ap (λ l. y ∷ l) (instead xs n x (omega arith))

put_instead : (b : Binding) (bs mid new : List Binding) (at : ℕ) → at ≡ before_count b.0 b.1 bs → is_there b.0 b.1 (slice_get bs at) ≡ true → mid ≡ insert bs at b → new ≡ remove mid (at + 1)
    → new ≡ with_binding b bs
put_instead b bs mid new at e t m n =
    let up : at + 1 ≡ suc at = omega arith in
    n ∙ ap (λ l. remove l (at + 1)) m ∙ ap (remove (insert bs at b)) up ∙ instead bs at b (there_within b.0 b.1 bs at t) ∙ put_over b bs at e t

put_between : (b : Binding) (bs : List Binding) (at : ℕ) → at ≡ before_count b.0 b.1 bs → is_there b.0 b.1 (slice_get bs at) ≡ false → insert bs at b ≡ with_binding b bs
put_between b bs at e t = ap (λ k. insert bs k b) e ∙ put_new b bs (λ y p. sym (ap (is_there b.0 b.1) p) ∙ ap (λ k. is_there b.0 b.1 (slice_get bs k)) (sym e) ∙ t)

-- the same of what is read
module _ (b : Binding) (bs seen again mid : List Binding) (at : ℕ) (there : Bool) (s : seen ≡ bs) (a : again ≡ bs) (e : at ≡ before_count b.0 b.1 seen) (t : there ≡ is_there b.0 b.1 (slice_get again at)) where
  pub bind_within : there ≡ true → at < length bs
  bind_within w = there_within b.0 b.1 bs at (sym (t ∙ ap (λ l. is_there b.0 b.1 (slice_get l at)) a) ∙ w)

  pub bind_over : there ≡ true → mid ≡ insert bs at b → (new : List Binding) → new ≡ remove mid (at + 1) → new ≡ with_binding b bs
  bind_over w m new n = put_instead b bs mid new at (e ∙ ap (before_count b.0 b.1) s) (sym (t ∙ ap (λ l. is_there b.0 b.1 (slice_get l at)) a) ∙ w) m n

  pub bind_between : there ≡ false → mid ≡ insert bs at b → mid ≡ with_binding b bs
  bind_between w m = m ∙ put_between b bs at (e ∙ ap (before_count b.0 b.1) s) (sym (t ∙ ap (λ l. is_there b.0 b.1 (slice_get l at)) a) ∙ w)
