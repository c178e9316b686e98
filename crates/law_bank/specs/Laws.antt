-- Laws of banks, of bindings, and of the orders of terms of a bank.
use Rattle.std.specs.Prelude.{◌≡◌, ◌↔◌, ℕ, List, length, map, None, Some, if◌then◌else◌}
use Rattle.std.specs.declared.cmp.Ordering.{Ordering}
use Rattle.std.specs.declared.cmp.Ordering.TheVariants.{Less, Equal, Greater}
use Rattle.std.specs.Ordering.{nat_cmp, ordering_then}
use Rattle.std.specs.Cmp.Lexicographic.{slice_cmp}
use denote.Bor.{Bor}
use Rattle.law_sig.specs.Trees.{schema_of}
use Rattle.law_sig.specs.Signature.{result_of}
use Rattle.law_sig.specs.Chains.{is_bound}
use Rattle.law_sig.specs.Order.{compare_k}
use Rattle.law_sig.specs.Kbo.{HasVarsOf, Kbo}
use Rattle.law_sig.specs.declared.tree.SortId.{SortId}
use Rattle.law_sig.specs.declared.tree.SymId.{SymId}
use Rattle.law_sig.specs.declared.parts.SigParts.{SigParts}
use Rattle.law_bank.specs.declared.node.Node.{Node, out-Node}
use Rattle.law_bank.specs.Terms.{tree_of, trees_of, id_of}
use Rattle.law_rewriting.specs.Heads.{sorts_in}
use Rattle.law_bank.specs.Bank.{Terms, IsOf, IsShared, Grows, sorts_by}
use Rattle.law_bank.specs.Bindings.{Binding, bind_of, subst_of, AreRising, with_binding}
use Rattle.law_bank.specs.Orders.{AreComparable, first_other, roots_cmp, flat_cmp, kbo_cmp}

abbrev pub TermsStay : Type 0
TermsStay = (old new : Terms) (n : Node) → Grows old new → IsOf old n → IsOf new n

abbrev pub SameIdSameTree : Type 0
SameIdSameTree = (bank : Terms) (m n : Node) → IsOf bank m → IsOf bank n → id_of m ≡ id_of n → tree_of m ≡ tree_of n

abbrev pub SameTreeSameId : Type 0
SameTreeSameId = (bank : Terms) (m n : Node) → IsShared bank → IsOf bank m → IsOf bank n → tree_of m ≡ tree_of n → id_of m ≡ id_of n

-- a bank whose result sorts are those of a signature has the signature's sorts
abbrev pub SortsOfSignature : Type 0
SortsOfSignature = (parts : SigParts) (f : SymId) → sorts_in parts f ≡ sorts_by (map result_of parts.symbols) f

abbrev pub BindingIsPut : Type 0
BindingIsPut = (b : Binding) (bindings : List Binding) (sort : SortId) (index : ℕ) → AreRising bindings
    → subst_of (with_binding b bindings) sort index ≡ (if is_bound sort index (bind_of b) then tree_of b.2.now else subst_of bindings sort index)

abbrev pub BindingsRise : Type 0
BindingsRise = (b : Binding) (bindings : List Binding) → AreRising bindings → AreRising (with_binding b bindings)

-- K of two terms: the roots decide, and then the first arguments that are different terms, and then how many there are. K of
-- their schemas: the roots decide, and then the schemas of the arguments
pub record KIsDecided (parts : SigParts) (a b : Node) : Type 0 where
  pub roots : (o : Ordering) → roots_cmp a b ≡ o → (o ≡ Equal → ⊥) → compare_k parts (tree_of a) (tree_of b) ≡ o
  pub argument : (l r : Bor Node) → roots_cmp a b ≡ Equal → first_other (out-Node a).args.now (out-Node b).args.now ≡ Some (l, r)
      → compare_k parts (tree_of a) (tree_of b) ≡ compare_k parts (tree_of l.now) (tree_of r.now)
  pub count : roots_cmp a b ≡ Equal → first_other (out-Node a).args.now (out-Node b).args.now ≡ None
      → compare_k parts (tree_of a) (tree_of b) ≡ nat_cmp (length (out-Node a).args.now) (length (out-Node b).args.now)
  pub schemas : compare_k parts (schema_of (tree_of a)) (schema_of (tree_of b))
      ≡ ordering_then (flat_cmp a b) (slice_cmp (compare_k parts) (map schema_of (trees_of (out-Node a).args.now)) (map schema_of (trees_of (out-Node b).args.now)))

abbrev pub KDecided : Type 0
KDecided = (bank : Terms) (parts : SigParts) (a b : Node) → AreComparable bank parts a b → KIsDecided parts a b

-- the Knuth-Bendix order of two terms: the variables, the roots, and then the first arguments that are different terms
pub record KboIsDecided (parts : SigParts) (a b : Node) : Type 0 where
  pub less : kbo_cmp a b ≡ Less → Kbo parts (tree_of a) (tree_of b) → ⊥
  pub variables : Kbo parts (tree_of a) (tree_of b) → HasVarsOf (tree_of a) (tree_of b)
  pub greater : kbo_cmp a b ≡ Greater → HasVarsOf (tree_of a) (tree_of b) → Kbo parts (tree_of a) (tree_of b)
  pub argument : (l r : Bor Node) → kbo_cmp a b ≡ Equal → HasVarsOf (tree_of a) (tree_of b) → first_other (out-Node a).args.now (out-Node b).args.now ≡ Some (l, r)
      → Kbo parts (tree_of a) (tree_of b) ↔ Kbo parts (tree_of l.now) (tree_of r.now)
  pub none : kbo_cmp a b ≡ Equal → first_other (out-Node a).args.now (out-Node b).args.now ≡ None → Kbo parts (tree_of a) (tree_of b) → ⊥

abbrev pub KboDecided : Type 0
KboDecided = (bank : Terms) (parts : SigParts) (a b : Node) → AreComparable bank parts a b → KboIsDecided parts a b

-- the arguments by which two terms are compared are comparable
abbrev pub ArgumentsAreComparable : Type 0
ArgumentsAreComparable = (bank : Terms) (parts : SigParts) (a b : Node) (l r : Bor Node) → AreComparable bank parts a b
    → first_other (out-Node a).args.now (out-Node b).args.now ≡ Some (l, r) → AreComparable bank parts l.now r.now
