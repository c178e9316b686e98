-- A shelf has the spread schemas by weight and sort, in order.
use Rattle.std.proofs.Common.{◌≡◌, ℕ, zero, suc, [], ◌∷◌, List, length, map, Some, slice_index_or, refl, sym, ap, subst}
use Rattle.law_sig.specs.Lists.{In, Rising}
use Rattle.law_sig.specs.Trees.{schema_of}
use Rattle.law_sig.specs.Signature.{symbol_at, args_of}
use Rattle.law_sig.specs.Order.{IsBefore}
use Rattle.law_sig.specs.declared.tree.SortId.{SortId}
use Rattle.law_sig.specs.declared.tree.SymId.{SymId}
use Rattle.law_sig.specs.declared.tree.Tree.{Tree}
use Rattle.law_sig.specs.declared.parts.Sym.{Sym}
use Rattle.law_sig.specs.declared.parts.SigParts.{SigParts}
use Rattle.law_laws.proofs.ListFacts.{of_each}
use Rattle.law_listing.specs.Choices.{weighing}
use Rattle.law_listing.specs.Columns.{IsBelow, AreColumns}
use Rattle.law_listing.proofs.Rising.{rising_weaken}
use Rattle.law_listing.proofs.Staging.{before_schemas}
use Rattle.law_agenda.specs.Shelves.{Shelf, bucket, schemas_in, column, lists_for, sorts_of, lists_at, IsShelf, AreSchemas}

pub column_at : (shelf : Shelf) (sort : SortId) (k : ℕ) → slice_index_or (column shelf sort) k [] ≡ schemas_in (bucket shelf k sort)
column_at [] sort k = refl
column_at (level ∷ shelf) sort zero = refl
column_at (level ∷ shelf) sort (suc k) = column_at shelf sort k

pub columns_are : (parts : SigParts) (spreads : List Tree) (shelf : Shelf) → AreSchemas spreads → IsShelf parts spreads shelf
    → AreColumns parts (λ c. In c spreads) (length shelf) (λ k s. weighing k (column shelf s))
columns_are parts spreads shelf are is = record {
  sound = λ k s c at. is.sound k s c (subst (In c) (column_at shelf s k) at);
  full = λ k s c within declared at weighs sorted. subst (In c) (sym (column_at shelf s k)) (is.full k s c within declared at weighs sorted);
  rising = λ k s. subst (Rising (IsBelow parts)) (sym (column_at shelf s k)) (rising_weaken (IsBefore parts) (IsBelow parts) (schemas_in (bucket shelf k s))
      (λ t u p q h. before_schemas parts t u (schema k s t p) (schema k s u q) h) (is.rising k s));
}
  where
    schema : (k : ℕ) (s : SortId) (t : Tree) → In t (schemas_in (bucket shelf k s)) → schema_of t ≡ t
    schema k s t at = of_each (λ u. schema_of u ≡ u) (is.sound k s t at).0 are

pub lists_are : (parts : SigParts) (shelf : Shelf) (f : SymId) (symbol : Sym) → symbol_at parts f ≡ Some symbol → lists_at parts shelf f ≡ map (column shelf) (args_of symbol)
lists_are parts shelf f symbol is = ap (λ o. lists_for shelf (sorts_of o)) is
