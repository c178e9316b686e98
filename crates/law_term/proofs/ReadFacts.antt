-- Terms and their trees, an argument at a time.
use Rattle.std.proofs.Common.{◌≡◌, ℕ, ◌+◌, ◌<◌, ◌≤◌, List, [], ◌∷◌, ◌++◌, length, drop, slice_index_or, append-nil, append_assoc, ap, sym, ◌∙◌, subst}
use Rattle.std.proofs.lemmas.List.{drop_all, map-append}
use denote.Bor.{Bor}
use Rattle.law_sig.specs.declared.tree.SymId.{SymId}
use Rattle.law_sig.specs.declared.tree.Tree.{Tree}
use Rattle.law_sig.specs.declared.tree.Tree.TheVariants.{App}
use Rattle.law_laws.proofs.ListFacts.{each_both}
use Rattle.law_bank.specs.declared.node.Head.TheVariants.{Sym}
use Rattle.law_bank.specs.declared.node.Node.{Node, out-Node}
use Rattle.law_bank.specs.Terms.{tree_of, trees_of}
use Rattle.law_bank.specs.Bank.{Terms, IsOf, AllOf, Grows}
use Rattle.law_bank.proofs.BankFacts.{sym_tree, all_stay}
use Rattle.law_term.proofs.Bound.{drop_get}

-- all arguments were written
pub all_written : (n : Node) (f : SymId) (written : List Tree) (i : ℕ) → (out-Node n).head ≡ Sym f → length (out-Node n).args.now ≤ i
    → written ++ trees_of (drop i (out-Node n).args.now) ≡ trees_of (out-Node n).args.now → App f written ≡ tree_of n
all_written n f written i e over w =
    ap (App f) (sym (append-nil written) ∙ ap (λ l. written ++ trees_of l) (sym (drop_all i (out-Node n).args.now over)) ∙ w) ∙ sym (sym_tree n f e)

-- one argument more was read
module _ (old new : Terms) (terms more : List (Bor Node)) (m : Bor Node) (g : Grows old new) (pushed : more ≡ terms ++ m ∷ []) where
  pub read_held : AllOf old terms → IsOf new m.now → AllOf new more
  read_held a h = subst (AllOf new) (sym pushed) (each_both (λ (b : Bor Node). IsOf new b.now) terms (m ∷ []) (all_stay old new terms g a) (h, tt))

  pub read_trees : (items : List Tree) (i : ℕ) (x : Tree) → i < length items → x ≡ slice_index_or items i x → tree_of m.now ≡ x
      → trees_of terms ++ drop i items ≡ items → trees_of more ++ drop (i + 1) items ≡ items
  read_trees items i x within is t w =
      ap (λ l. trees_of l ++ drop (i + 1) items) pushed
      ∙ ap (λ l. l ++ drop (i + 1) items) (map-append (λ (b : Bor Node). tree_of b.now) terms (m ∷ []))
      ∙ append_assoc (trees_of terms) (tree_of m.now ∷ []) (drop (i + 1) items)
      ∙ ap (λ z. trees_of terms ++ z ∷ drop (i + 1) items) (t ∙ is)
      ∙ ap (λ l. trees_of terms ++ l) (sym (drop_get items i x within)) ∙ w
