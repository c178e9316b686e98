-- The sort of a term's head.
use Rattle.std.proofs.Common.{◌≡◌, Some, ap, ◌∙◌}
use Rattle.law_sig.specs.Trees.{same_sort}
use Rattle.law_sig.specs.Signature.{sort_of}
use Rattle.law_sig.specs.declared.tree.SortId.{SortId}
use Rattle.law_sig.specs.declared.tree.Tree.{Tree}
use Rattle.law_sig.specs.declared.tree.Tree.TheVariants.{outs-Var, outs-App}
use Rattle.law_sig.specs.declared.tree.Tree.TheViews.{out-Tree}
use Rattle.law_sig.specs.declared.parts.SigParts.{SigParts}
use Rattle.law_laws.proofs.TreeFacts.{tree_cases}
use Rattle.law_laws.proofs.Sorts.{sorted_app, sorted_var}
use Rattle.law_listing.specs.Listing.{gives_sort, heads_sort}

-- a term's head has the sort of the term
pub head_sorted : (parts : SigParts) (s u : SortId) (t : Tree) → sort_of parts t ≡ Some s → heads_sort parts u (out-Tree t) ≡ same_sort s u
head_sorted parts s u = tree_cases (λ t. sort_of parts t ≡ Some s → heads_sort parts u (out-Tree t) ≡ same_sort s u)
    (λ own i e. let (declared, is) = sorted_var parts own i s e in
    ap (heads_sort parts u) (outs-Var own i) ∙ ap (λ v. same_sort v u) is)
    (λ f args e. let a = sorted_app parts f args s e in
    ap (heads_sort parts u) (outs-App f args) ∙ ap (gives_sort u) a.declared ∙ ap (λ v. same_sort v u) a.result)
