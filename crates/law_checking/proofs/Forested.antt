-- The answer for all trees, tree by tree.
use Rattle.std.proofs.Common.{◌≡◌, ℕ, zero, suc, ◌+◌, ◌<◌, ◌≤◌, inl, inr, List, [], ◌∷◌, ◌++◌, map, length, take, drop, slice_get, slice_index_or, Some, option_map, sym, refl, ap, ◌∙◌, subst, append-nil, arith}
use Rattle.std.proofs.lemmas.List.{length-map}
use Rattle.std.proofs.lemmas.Option.{slice_get-get_or, slice_get-map}
use Rattle.law_sig.specs.Lists.{Each}
use Rattle.law_sig.specs.declared.tree.SortId.{SortId}
use Rattle.law_sig.specs.declared.tree.Tree.{Tree}
use Rattle.law_sig.specs.declared.parts.SigParts.{SigParts}
use Rattle.law_laws.proofs.BodyFacts.{some_is}
use Rattle.law_draws.specs.Draws.{pools_by}
use Rattle.law_cert_text.specs.declared.cert.SortTree.{SortTree as WrittenTree}
use Rattle.law_valid.specs.declared.certificate.Entry.{Entry}
use Rattle.law_valid.specs.declared.certificate.SortTree.{SortTree}
use Rattle.law_valid.specs.declared.rule.Answer.{Answer}
use Rattle.law_valid.specs.declared.rule.Answer.TheVariants.{Yes, No}
use Rattle.law_valid.specs.declared.rule.Rule.TheVariants as r
use Rattle.law_valid.specs.Stated.{stated, spread_at, live_at}
use Rattle.law_valid.specs.Splits.{leaves_of}
use Rattle.law_valid.specs.Trees.{HasSchemas, HasTerms, sorts_in}
use Rattle.law_valid.specs.Judged.{If, CutsTell, InTrees, all_cuts}
use Rattle.law_named.specs.Named.{sort_named, IsTreeOf, AreTreesOf}
use Rattle.law_valid.proofs.Apart.{map_parts}
use Rattle.law_checking.specs.Lines.{HasKid}
use Rattle.law_checking.specs.Planted.{IsBelow, IsNextSort, HaveKids, JudgesTree, JudgesTrees}
use Rattle.law_checking.specs.Parts.{IsYes, Goes}
use Rattle.law_checking.proofs.Goes.{if_goes, no_yes}
use Rattle.law_checking.proofs.Treeing.{cuts_goes}
use Rattle.law_checking.proofs.Planting.{tree_judged}
use Rattle.law_checking.proofs.Foresting.{IsBound, no_bound, bound_next, next_first, first_next, below_spent, spent_below}

-- the tree whose turn it is
record Here (parts : SigParts) (trees : List SortTree) (at : ℕ) (raw : WrittenTree) : Type 0 where
  pub tree : SortTree
  pub is : IsTreeOf parts raw tree
  pub rest_is : drop at trees ≡ tree ∷ drop (suc at) trees
  pub taken_is : take (suc at) trees ≡ take at trees ++ tree ∷ []

here_at : (parts : SigParts) (raws : List WrittenTree) (trees : List SortTree) → AreTreesOf parts raws trees → (at : ℕ) (raw : WrittenTree) → at < length raws
    → raw ≡ slice_index_or raws at raw → Here parts trees at raw
here_at parts [] trees are at raw less is = absurd (omega arith)
here_at parts (w ∷ raws) [] are at raw less is = absurd are
here_at parts (w ∷ raws) (t ∷ trees) are zero raw less is = record { tree = t; is = subst (λ x. IsTreeOf parts x t) (sym is) are.0; rest_is = refl; taken_is = refl }
here_at parts (w ∷ raws) (t ∷ trees) are (suc at) raw less is =
    let h = here_at parts raws trees are.1 at raw (omega arith) is in
    record { tree = h.tree; is = h.is; rest_is = h.rest_is; taken_is = ap (λ l. t ∷ l) h.taken_is }

as_many : (parts : SigParts) (raws : List WrittenTree) (trees : List SortTree) → AreTreesOf parts raws trees → length raws ≡ length trees
as_many parts [] [] are = refl
as_many parts [] (t ∷ trees) are = absurd are
as_many parts (w ∷ raws) [] are = absurd are
as_many parts (w ∷ raws) (t ∷ trees) are = ap suc (as_many parts raws trees are.1)

none_left : (at : ℕ) (trees : List SortTree) → length trees ≤ at → drop at trees ≡ []
none_left zero [] end = refl
none_left (suc at) [] end = refl
none_left zero (t ∷ trees) end = absurd (omega arith)
none_left (suc at) (t ∷ trees) end = none_left at trees (omega arith)

module _ (parts : SigParts) (spreads lives : List Tree) (raws : List WrittenTree) (entry : ℕ) where
  abbrev In_all : List Entry → ℕ → List SortId → List SortTree → Answer → Type 0
  In_all all n done trees a = InTrees parts (pools_by parts) all n done trees a

  -- what is answered from this tree on is the answer, and the sorts of the trees before it are those below a number
  abbrev pub FromTree : ℕ → ℕ → Type 0
  FromTree at from = (all : List Entry) (trees : List SortTree) → stated spread_at all ≡ spreads → stated live_at all ≡ lives → AreTreesOf parts raws trees
      → IsBound (sorts_in (take at trees)) from
      × ((a : Answer) → InTrees parts (pools_by parts) all (entry + at) (sorts_in (take at trees)) (drop at trees) a → InTrees parts (pools_by parts) all entry [] trees a)

  pub from_first : FromTree 0 0
  from_first all trees s l are = (no_bound, λ a h. subst (λ n. In_all all n [] trees a) (let same : entry + 0 ≡ entry = omega arith in same) h)

  module _ (at from : ℕ) (raw : WrittenTree) (sort : SortId) (claim : FromTree at from) (less : at < length raws) (there_is : raw ≡ slice_index_or raws at raw)
      (named : sort ≡ sort_named parts raw.sort) where
    here : (trees : List SortTree) → AreTreesOf parts raws trees → Here parts trees at raw
    here trees are = here_at parts raws trees are at raw less there_is

    next_to : (all : List Entry) → stated spread_at all ≡ spreads → (tree : SortTree) → IsTreeOf parts raw tree → IsNextSort parts (stated spread_at all) from tree.sort
        → IsNextSort parts spreads from sort
    next_to all s tree is next = subst (λ t. IsNextSort parts spreads from t) (is.sort ∙ sym named) (subst (λ ts. IsNextSort parts ts from tree.sort) s next)

    next_of : (all : List Entry) → stated spread_at all ≡ spreads → (tree : SortTree) → IsTreeOf parts raw tree → IsNextSort parts spreads from sort
        → IsNextSort parts (stated spread_at all) from tree.sort
    next_of all s tree is next = subst (λ ts. IsNextSort parts ts from tree.sort) (sym s) (subst (λ t. IsNextSort parts spreads from t) (named ∙ sym is.sort) next)

    pub not_next : (IsNextSort parts spreads from sort → ⊥) → JudgesTrees parts spreads lives raws entry (No r.V8 (entry + at))
    not_next never all trees s l are =
        let c = claim all trees s l are in
        let h = here trees are in
        c.1 (No r.V8 (entry + at)) (subst (λ ts. In_all all (entry + at) (sorts_in (take at trees)) ts (No r.V8 (entry + at))) (sym h.rest_is)
        (inr (λ first. never (next_to all s h.tree h.is (first_next parts all (sorts_in (take at trees)) from c.0 h.tree.sort first)), refl)))

    module _ (a : Answer) (kids : HaveKids raw) (next : IsNextSort parts spreads from sort)
        (judged : JudgesTree parts (pools_by parts) spreads lives (entry + at) sort raw.lines IsYes a) where
      abbrev Whole : List Entry → SortTree → (Answer → Type 0) → Answer → Type 0
      Whole all tree rest = If (HasSchemas parts (pools_by parts) all tree) (No r.V8 (entry + at))
          (If (Each (HasTerms parts (pools_by parts) all) (leaves_of tree.tree)) (No r.V9 (entry + at)) (CutsTell parts (pools_by parts) (entry + at) (all_cuts all tree) rest))

      own_tree : (all : List Entry) → stated spread_at all ≡ spreads → stated live_at all ≡ lives → (tree : SortTree) → IsTreeOf parts raw tree → Whole all tree IsYes a
      own_tree all s l tree is =
          tree_judged parts (pools_by parts) all tree (subst (Each HasKid) is.lines kids) (entry + at) IsYes a
          (subst (λ ls. JudgesTree parts (pools_by parts) (stated spread_at all) (stated live_at all) (entry + at) tree.sort ls IsYes a) is.lines
          (subst (λ t. JudgesTree parts (pools_by parts) (stated spread_at all) (stated live_at all) (entry + at) t raw.lines IsYes a) (named ∙ sym is.sort)
          (subst (λ ts. JudgesTree parts (pools_by parts) ts (stated live_at all) (entry + at) sort raw.lines IsYes a) (sym s)
          (subst (λ ts. JudgesTree parts (pools_by parts) spreads ts (entry + at) sort raw.lines IsYes a) (sym l) judged))))

      abbrev Inner : List Entry → SortTree → (Answer → Type 0) → Answer → Type 0
      Inner all tree rest = If (Each (HasTerms parts (pools_by parts) all) (leaves_of tree.tree)) (No r.V9 (entry + at)) (CutsTell parts (pools_by parts) (entry + at) (all_cuts all tree) rest)

      cuts_on : (all : List Entry) (tree : SortTree) (rest : Answer → Type 0)
          → Goes rest (CutsTell parts (pools_by parts) (entry + at) (all_cuts all tree) IsYes) (CutsTell parts (pools_by parts) (entry + at) (all_cuts all tree) rest) a
      cuts_on all tree rest = subst (λ js. Goes rest (CutsTell parts (pools_by parts) (entry + at) (all_cuts all tree) IsYes) (CutsTell parts (pools_by parts) (entry + at) js rest) a)
          (append-nil (all_cuts all tree)) (cuts_goes parts (pools_by parts) (entry + at) (all_cuts all tree) [] rest a)

      tree_goes : (all : List Entry) (tree : SortTree) (rest : Answer → Type 0) → Goes rest (Whole all tree IsYes) (Whole all tree rest) a
      tree_goes all tree rest =
          if_goes rest (HasSchemas parts (pools_by parts) all tree) (No r.V8 (entry + at)) (Inner all tree IsYes) (Inner all tree rest) a (no_yes r.V8 (entry + at))
          (if_goes rest (Each (HasTerms parts (pools_by parts) all) (leaves_of tree.tree)) (No r.V9 (entry + at)) (CutsTell parts (pools_by parts) (entry + at) (all_cuts all tree) IsYes)
          (CutsTell parts (pools_by parts) (entry + at) (all_cuts all tree) rest) a (no_yes r.V9 (entry + at)) (cuts_on all tree rest))

      first_is : (all : List Entry) (trees : List SortTree) → stated spread_at all ≡ spreads → stated live_at all ≡ lives → (are : AreTreesOf parts raws trees)
          → (b : Answer) → Whole all (here trees are).tree (λ x. In_all all (entry + at + 1) (sorts_in (take at trees) ++ (here trees are).tree.sort ∷ []) (drop (suc at) trees) x) b
          → InTrees parts (pools_by parts) all entry [] trees b
      first_is all trees s l are b whole =
          let c = claim all trees s l are in
          let h = here trees are in
          c.1 b (subst (λ ts. In_all all (entry + at) (sorts_in (take at trees)) ts b) (sym h.rest_is)
          (inl (next_first parts all (sorts_in (take at trees)) from c.0 h.tree.sort (next_of all s h.tree h.is next), whole)))

      pub tree_fails : (a ≡ Yes → ⊥) → JudgesTrees parts spreads lives raws entry a
      tree_fails never all trees s l are =
          let h = here trees are in
          first_is all trees s l are a
          ((tree_goes all h.tree (λ x. In_all all (entry + at + 1) (sorts_in (take at trees) ++ h.tree.sort ∷ []) (drop (suc at) trees) x) (own_tree all s l h.tree h.is)).0 never)

      pub tree_passes : a ≡ Yes → FromTree (at + 1) (sort.0 + 1)
      tree_passes good all trees s l are =
          let c = claim all trees s l are in
          let h = here trees are in
          let on : suc at ≡ at + 1 = omega arith in
          let same : h.tree.sort ≡ sort = h.is.sort ∙ sym named in
          let sorts : sorts_in (take at trees) ++ h.tree.sort ∷ [] ≡ sorts_in (take (at + 1) trees)
          = sym (ap sorts_in (ap (λ k. take k trees) (sym on) ∙ h.taken_is) ∙ map_parts (λ (t : SortTree). t.sort) (take at trees) (h.tree ∷ [])) in (
            subst (λ d. IsBound d (sort.0 + 1)) (ap (λ t. sorts_in (take at trees) ++ t ∷ []) (sym same) ∙ sorts)
                (bound_next (sorts_in (take at trees)) from sort c.0 next.above),
            λ b later. first_is all trees s l are b
                ((tree_goes all h.tree (λ x. In_all all (entry + at + 1) (sorts_in (take at trees) ++ h.tree.sort ∷ []) (drop (suc at) trees) x) (own_tree all s l h.tree h.is)).1 good b
                (subst (λ k. In_all all (entry + at + 1) (sorts_in (take at trees) ++ h.tree.sort ∷ []) (drop k trees) b) (sym on)
                (subst (λ d. In_all all (entry + at + 1) d (drop (at + 1) trees) b) (sym sorts)
                (subst (λ n. In_all all n (sorts_in (take (at + 1) trees)) (drop (at + 1) trees) b) (let sum : entry + (at + 1) ≡ entry + at + 1 = omega arith in sum) later)))),
          )

  -- where the trees end

  module _ (at from : ℕ) (claim : FromTree at from) (end : length raws ≤ at) where
    ended : (all : List Entry) (trees : List SortTree) → stated spread_at all ≡ spreads → stated live_at all ≡ lives → (are : AreTreesOf parts raws trees) → (a : Answer)
        → In_all all (entry + at) (sorts_in (take at trees)) [] a → InTrees parts (pools_by parts) all entry [] trees a
    ended all trees s l are a h =
        let none = none_left at trees (let same = as_many parts raws trees are in omega arith) in
        (claim all trees s l are).1 a (subst (λ ts. In_all all (entry + at) (sorts_in (take at trees)) ts a) (sym none) h)

    pub all_judged : Each (IsBelow parts from) spreads → JudgesTrees parts spreads lives raws entry Yes
    all_judged below all trees s l are =
        ended all trees s l are Yes (inl (below_spent parts all (sorts_in (take at trees)) from (claim all trees s l are).0 (subst (Each (IsBelow parts from)) (sym s) below), refl))

    pub one_missing : (Each (IsBelow parts from) spreads → ⊥) → JudgesTrees parts spreads lives raws entry (No r.V8 (entry + at))
    one_missing never all trees s l are =
        ended all trees s l are (No r.V8 (entry + at))
        (inr (λ spent. never (subst (Each (IsBelow parts from)) s (spent_below parts all (sorts_in (take at trees)) from (claim all trees s l are).0 spent)), refl))

-- a tree's sort by its number
pub named_at : (parts : SigParts) (raws : List WrittenTree) (sorts : List SortId) (at : ℕ) (raw : WrittenTree) (sort : SortId)
    → sorts ≡ map (λ (t : WrittenTree). sort_named parts t.sort) raws → at < length raws → raw ≡ slice_index_or raws at raw → slice_get sorts at ≡ Some sort → sort ≡ sort_named parts raw.sort
named_at parts raws sorts at raw sort are less is there_is =
    some_is sort (sort_named parts raw.sort) (sym there_is ∙ ap (λ l. slice_get l at) are ∙ slice_get-map (λ (t : WrittenTree). sort_named parts t.sort) raws at
    ∙ ap (option_map (λ (t : WrittenTree). sort_named parts t.sort)) (slice_get-get_or raws at raw less ∙ ap Some (sym is)))

pub as_long : (parts : SigParts) (raws : List WrittenTree) (sorts : List SortId) (at : ℕ) → sorts ≡ map (λ (t : WrittenTree). sort_named parts t.sort) raws → at < length raws → at < length sorts
as_long parts raws sorts at are less =
    let same = ap length are ∙ length-map raws (λ (t : WrittenTree). sort_named parts t.sort) in omega arith
