-- The turns of matching.
use Rattle.std.proofs.Common.{◌≡◌, ◌≢◌, ℕ, suc, ◌⊎◌, inl, inr, Bool, true, false, if◌then◌else◌, List, [], ◌∷◌, ◌++◌, map, length, sym, refl, ap, ap₂, ◌∙◌, subst, arith, append_assoc}
use Rattle.law_sig.specs.Lists.{In}
use Rattle.law_sig.specs.Lists.In.{here, there}
use Rattle.law_sig.specs.Trees.{joined, holes, Subst, substituted}
use Rattle.law_sig.specs.declared.tree.SortId.{SortId}
use Rattle.law_sig.specs.declared.tree.SymId.{SymId}
use Rattle.law_sig.specs.declared.tree.Tree.{Tree}
use Rattle.law_sig.specs.declared.tree.Tree.TheVariants.{Var, App}
use Rattle.law_laws.proofs.TreeFacts.{same_app, var_no_app, holes-App, substituted-Var, substituted-App}
use Rattle.law_laws.proofs.ListFacts.{in_none, in_rest, in_left, in_right, in_split, in_map, of_each}
use Rattle.law_sig.specs.declared.chain.Bind.{Bind}
use Rattle.law_sig.specs.Chains.{is_bound, bound_in}
use Rattle.law_rewriting.specs.Heads.{Sorts, head_sort, KeepsHeads}
use Rattle.law_rewriting.specs.UnifyingState.{Problems, both_args}
use Rattle.law_rewriting.specs.Unifiers.{IsMatch, HasNoMatch}
use Rattle.law_rewriting.specs.MatchingState.{Gives, Binds, open_holes, IsMatching}
use Rattle.law_rewriting.proofs.Variables.{hole_here, hole_is}
use Rattle.law_rewriting.proofs.Binds.{key, bound_is, bound_itself}

nothing_open : (s : SortId) (i : ℕ) (P : Type 0) → In i (open_holes s []) → P
nothing_open s i P at = in_none at

pub match_done : (r : Sorts) (p t : Tree) (bs : List Bind) → IsMatching r p t [] bs → IsMatch r p t bs
match_done r p t bs g = record {
  gives = g.sound (bound_in bs) tt g.own;
  sorted = g.sorted;
  exact = λ s i. ((λ at. (g.exact s i).0 (inr at)), (λ at. by s i ((g.exact s i).1 at)));
}
  where
    by : (s : SortId) (i : ℕ) → In i (open_holes s []) ⊎ In {A = SortId × ℕ} (s, i) (map key bs) → In {A = SortId × ℕ} (s, i) (map key bs)
    by s i (inl none) = in_none none
    by s i (inr at) = at

pub match_begun : (r : Sorts) (p t : Tree) → IsMatching r p t ((p, t) ∷ []) []
match_begun r p t = record {
  sound = λ τ x y. x.0;
  gives = λ τ k e. (e, tt);
  binds = λ τ k e. tt;
  own = tt;
  sorted = tt;
  exact = λ s i. ((λ at. by s i at), (λ at. inl (in_left [] at)));
}
  where
    only : (s : SortId) (i : ℕ) → In i (holes s p) ⊎ In i [] → In i (holes s p)
    only s i (inl at) = at
    only s i (inr none) = in_none none

    by : (s : SortId) (i : ℕ) → In i (open_holes s ((p, t) ∷ [])) ⊎ In {A = SortId × ℕ} (s, i) [] → In i (holes s p)
    by s i (inl at) = only s i (in_split (holes s p) [] at)
    by s i (inr none) = in_none none

-- a variable that is bound to this term
module _ (r : Sorts) (p t : Tree) (s : SortId) (i : ℕ) (u : Tree) (ps : Problems) (bs : List Bind) (g : IsMatching r p t ((Var s i, u) ∷ ps) bs) where
  at_var : (τ : Subst) → KeepsHeads r τ → substituted τ p ≡ t → τ s i ≡ u
  at_var τ k e = sym (substituted-Var τ s i) ∙ (g.gives τ k e).0

  pub known_turn : (b : Bind) → In b bs → b.sort ≡ s → b.index ≡ i → b.term ≡ u → IsMatching r p t ps bs
  known_turn b at c d e = record {
    sound = λ τ x y. g.sound τ (substituted-Var τ s i ∙ (λ k. τ (sym c k) (sym d k)) ∙ of_each (λ (b : Bind). τ b.sort b.index ≡ b.term) at y ∙ e, x) y;
    gives = λ τ k h. (g.gives τ k h).1;
    binds = g.binds;
    own = g.own;
    sorted = g.sorted;
    exact = λ w j. ((λ h. (g.exact w j).0 (wider w j h)), (λ h. narrower w j ((g.exact w j).1 h)));
  }
    where
      wider : (w : SortId) (j : ℕ) → In j (open_holes w ps) ⊎ In {A = SortId × ℕ} (w, j) (map key bs) → In j (open_holes w ((Var s i, u) ∷ ps)) ⊎ In {A = SortId × ℕ} (w, j) (map key bs)
      wider w j (inl h) = inl (in_right (holes w (Var s i)) h)
      wider w j (inr h) = inr h

      bound_key : (w : SortId) (j : ℕ) → In j (holes w (Var s i)) → In {A = SortId × ℕ} (w, j) (map key bs)
      bound_key w j h = let q = hole_is w s j i h in subst (λ (z : SortId × ℕ). In z (map key bs)) (λ k. ((c ∙ q.0) k, (d ∙ sym q.1) k)) (in_map key at)

      first : (w : SortId) (j : ℕ) → In j (holes w (Var s i)) ⊎ In j (open_holes w ps) → In j (open_holes w ps) ⊎ In {A = SortId × ℕ} (w, j) (map key bs)
      first w j (inl h) = inr (bound_key w j h)
      first w j (inr h) = inl h

      narrower : (w : SortId) (j : ℕ) → In j (open_holes w ((Var s i, u) ∷ ps)) ⊎ In {A = SortId × ℕ} (w, j) (map key bs) → In j (open_holes w ps) ⊎ In {A = SortId × ℕ} (w, j) (map key bs)
      narrower w j (inl h) = first w j (in_split (holes w (Var s i)) (open_holes w ps) h)
      narrower w j (inr h) = inr h

  -- bound to another term, or of another sort
  pub other_term : (b : Bind) → In b bs → b.sort ≡ s → b.index ≡ i → b.term ≢ u → HasNoMatch r p t
  other_term b at c d n τ k e = n (sym (of_each (λ (b : Bind). τ b.sort b.index ≡ b.term) at (g.binds τ k e)) ∙ (λ l. τ (c l) (d l)) ∙ at_var τ k e)

  pub other_sort_match : head_sort r u ≢ s → HasNoMatch r p t
  other_sort_match n τ k e = n (sym (ap (head_sort r) (at_var τ k e)) ∙ k s i)

  -- not bound yet
  pub fresh_turn : (In {A = SortId × ℕ} (s, i) (map key bs) → ⊥) → head_sort r u ≡ s → IsMatching r p t ps (record { sort = s; index = i; term = u } ∷ bs)
  fresh_turn n sorted = record {
    sound = λ τ x y. g.sound τ (substituted-Var τ s i ∙ y.0, x) y.1;
    gives = λ τ k h. (g.gives τ k h).1;
    binds = λ τ k h. (at_var τ k h, g.binds τ k h);
    own = (ap (λ c. if c then u else bound_in bs s i) (bound_itself (record { sort = s; index = i; term = u })), still bs (λ b at. at) g.own);
    sorted = (sorted, g.sorted);
    exact = λ w j. ((λ h. (g.exact w j).0 (back w j h)), (λ h. on w j ((g.exact w j).1 h)));
  }
    where
      not_this : (b : Bind) → In b bs → (c : Bool) → is_bound b.sort b.index (record { sort = s; index = i; term = u }) ≡ c → c ≡ false
      not_this b at true e =
          let q = bound_is b.sort b.index (record { sort = s; index = i; term = u }) e in
          absurd (n (subst (λ (z : SortId × ℕ). In z (map key bs)) (λ k. (sym q.0 k, sym q.1 k)) (in_map key at)))
      not_this b at false e = refl

      still : (cs : List Bind) → ((b : Bind) → In b cs → In b bs) → Binds (bound_in bs) cs → Binds (bound_in (record { sort = s; index = i; term = u } ∷ bs)) cs
      still [] f h = tt
      still (b ∷ cs) f h = (
        ap (λ c. if c then u else bound_in bs b.sort b.index) (not_this b (f b here) (is_bound b.sort b.index (record { sort = s; index = i; term = u })) refl) ∙ h.0,
        still cs (λ c at. f c (there at)) h.1,
      )

      first : (w : SortId) (j : ℕ) → In j (holes w (Var s i)) ⊎ In j (open_holes w ps) → In j (open_holes w ps) ⊎ In {A = SortId × ℕ} (w, j) ((s, i) ∷ map key bs)
      first w j (inl h) = let q = hole_is w s j i h in inr (subst (λ (z : SortId × ℕ). In {A = SortId × ℕ} z ((s, i) ∷ map key bs)) (λ k. (q.0 k, sym q.1 k)) here)
      first w j (inr h) = inl h

      on : (w : SortId) (j : ℕ) → In j (open_holes w ((Var s i, u) ∷ ps)) ⊎ In {A = SortId × ℕ} (w, j) (map key bs) → In j (open_holes w ps) ⊎ In {A = SortId × ℕ} (w, j) ((s, i) ∷ map key bs)
      on w j (inl h) = first w j (in_split (holes w (Var s i)) (open_holes w ps) h)
      on w j (inr h) = inr (there h)

      last : (w : SortId) (j : ℕ) → (◌≡◌ {A = SortId × ℕ} (w, j) (s, i)) ⊎ In {A = SortId × ℕ} (w, j) (map key bs) → In j (open_holes w ((Var s i, u) ∷ ps)) ⊎ In {A = SortId × ℕ} (w, j) (map key bs)
      last w j (inl e) = inl (in_left (open_holes w ps) (subst (λ (z : SortId × ℕ). In z.1 (holes z.0 (Var s i))) (sym e) (hole_here s i)))
      last w j (inr h) = inr h

      back : (w : SortId) (j : ℕ) → In j (open_holes w ps) ⊎ In {A = SortId × ℕ} (w, j) ((s, i) ∷ map key bs) → In j (open_holes w ((Var s i, u) ∷ ps)) ⊎ In {A = SortId × ℕ} (w, j) (map key bs)
      back w j (inl h) = inl (in_right (holes w (Var s i)) h)
      back w j (inr h) = last w j (in_rest h)

-- Symbols

give_split : (τ : Subst) (xs ys : List Tree) (ps : Problems) → map (substituted τ) xs ≡ ys → Gives τ ps → Gives τ (both_args xs ys ++ ps)
give_split τ [] ys ps e h = h
give_split τ (x ∷ xs) [] ps e h = h
give_split τ (x ∷ xs) (y ∷ ys) ps e h = let a : substituted τ x ≡ y = cc in let b : map (substituted τ) xs ≡ ys = cc in (a, give_split τ xs ys ps b h)

give_join : (τ : Subst) (xs ys : List Tree) (ps : Problems) → length xs ≡ length ys → Gives τ (both_args xs ys ++ ps) → (map (substituted τ) xs ≡ ys) × Gives τ ps
give_join τ [] [] ps n h = (refl, h)
give_join τ [] (y ∷ ys) ps n h = absurd (omega arith)
give_join τ (x ∷ xs) [] ps n h = absurd (omega arith)
give_join τ (x ∷ xs) (y ∷ ys) ps n h = let r = give_join τ xs ys ps (omega arith) h.1 in (ap₂ ◌∷◌ h.0 r.0, r.1)

split_holes : (s : SortId) (xs ys : List Tree) (ps : Problems) → length xs ≡ length ys → open_holes s (both_args xs ys ++ ps) ≡ joined (map (holes s) xs) ++ open_holes s ps
split_holes s [] [] ps n = refl
split_holes s [] (y ∷ ys) ps n = absurd (omega arith)
split_holes s (x ∷ xs) [] ps n = absurd (omega arith)
split_holes s (x ∷ xs) (y ∷ ys) ps n = ap (λ l. holes s x ++ l) (split_holes s xs ys ps (omega arith)) ∙ sym (append_assoc (holes s x) (joined (map (holes s) xs)) (open_holes s ps))

args_are : (τ : Subst) (f g : SymId) (xs ys : List Tree) → substituted τ (App f xs) ≡ App g ys → (f ≡ g) × (map (substituted τ) xs ≡ ys)
args_are τ f g xs ys e = same_app f g (map (substituted τ) xs) ys (sym (substituted-App τ f xs) ∙ e)

pub match_split : (r : Sorts) (p t : Tree) (f : SymId) (xs ys : List Tree) (ps : Problems) (bs : List Bind) → length xs ≡ length ys
    → IsMatching r p t ((App f xs, App f ys) ∷ ps) bs → IsMatching r p t (both_args xs ys ++ ps) bs
match_split r p t f xs ys ps bs n g = record {
  sound = λ τ x y. let k = give_join τ xs ys ps n x in g.sound τ (substituted-App τ f xs ∙ ap (App f) k.0, k.1) y;
  gives = λ τ k e. let h = g.gives τ k e in give_split τ xs ys ps (args_are τ f f xs ys h.0).1 h.1;
  binds = g.binds;
  own = g.own;
  sorted = g.sorted;
  exact = λ s i. ((λ h. (g.exact s i).0 (by s i h)), (λ h. back s i ((g.exact s i).1 h)));
}
  where
    same : (s : SortId) → open_holes s (both_args xs ys ++ ps) ≡ open_holes s ((App f xs, App f ys) ∷ ps)
    same s = split_holes s xs ys ps n ∙ ap (λ l. l ++ open_holes s ps) (sym (holes-App s f xs))

    by : (s : SortId) (i : ℕ) → In i (open_holes s (both_args xs ys ++ ps)) ⊎ In {A = SortId × ℕ} (s, i) (map key bs) → In i (open_holes s ((App f xs, App f ys) ∷ ps)) ⊎ In {A = SortId × ℕ} (s, i) (map key bs)
    by s i (inl at) = inl (subst (In i) (same s) at)
    by s i (inr at) = inr at

    back : (s : SortId) (i : ℕ) → In i (open_holes s ((App f xs, App f ys) ∷ ps)) ⊎ In {A = SortId × ℕ} (s, i) (map key bs) → In i (open_holes s (both_args xs ys ++ ps)) ⊎ In {A = SortId × ℕ} (s, i) (map key bs)
    back s i (inl at) = inl (subst (In i) (sym (same s)) at)
    back s i (inr at) = inr at

pub match_stuck : (r : Sorts) (p t a b : Tree) (ps : Problems) (bs : List Bind) → IsMatching r p t ((a, b) ∷ ps) bs → HasNoMatch r a b → HasNoMatch r p t
match_stuck r p t a b ps bs g n τ k e = n τ k (g.gives τ k e).0

pub match_clash : (r : Sorts) (f g : SymId) (xs ys : List Tree) → f ≢ g → HasNoMatch r (App f xs) (App g ys)
match_clash r f g xs ys n τ k e = n (args_are τ f g xs ys e).0

mapped_long : (τ : Subst) (xs : List Tree) → length (map (substituted τ) xs) ≡ length xs
mapped_long τ [] = refl
mapped_long τ (x ∷ xs) = ap suc (mapped_long τ xs)

pub match_unlike : (r : Sorts) (f g : SymId) (xs ys : List Tree) → length xs ≢ length ys → HasNoMatch r (App f xs) (App g ys)
match_unlike r f g xs ys n τ k e = n (sym (mapped_long τ xs) ∙ ap length (args_are τ f g xs ys e).1)

pub match_var : (r : Sorts) (f : SymId) (xs : List Tree) (s : SortId) (i : ℕ) → HasNoMatch r (App f xs) (Var s i)
match_var r f xs s i τ k e = var_no_app s i f (map (substituted τ) xs) (sym e ∙ substituted-App τ f xs)
