-- The term that a written term states.
use Rattle.std.specs.Prelude.{◌≡◌, ℕ, List, [], ◌∷◌, Option, Some, None, IsSome}
use Rattle.law_sig.specs.Signature.{sort_of}
use Rattle.law_sig.specs.Tests.{all_present}
use Rattle.law_sig.specs.declared.tree.Tree.{Tree}
use Rattle.law_sig.specs.declared.tree.Tree.TheVariants.{Var, App}
use Rattle.law_sig.specs.declared.parts.SigParts.{SigParts}
use Rattle.law_lines.specs.declared.raw.RawHead.{RawHead}
use Rattle.law_lines.specs.declared.raw.RawHead.TheVariants as head
use Rattle.law_lines.specs.declared.raw.RawTerm.{RawTerm}
use Rattle.law_lines.specs.declared.raw.RawTerm.TheOpen.{RawTerm-F}
use Rattle.law_lines.specs.declared.raw.RawTerm.TheFolds.{fold-RawTerm}
use Rattle.law_typing.specs.Names.{number_of}
use Rattle.law_typing.specs.Naming.{named_term}

-- an answer: a well-sorted term that is written so; or none, where there is no such term
abbrev pub IsTyped : SigParts → RawTerm → Option Tree → Type 0
IsTyped parts term None = (tree : Tree) → named_term parts tree ≡ term → IsSome (sort_of parts tree) → ⊥
IsTyped parts term (Some tree) = (named_term parts tree ≡ term) × IsSome (sort_of parts tree)

-- with each name replaced by its number, and none where a name isn't declared, or something else than a name or a variable
-- stands there
abbrev pub symbol_over : Option ℕ → List Tree → Option Tree
symbol_over None args = None
symbol_over (Some number) args = Some (App (record { 0 = number }) args)

abbrev pub variable_of : Option ℕ → ℕ → List Tree → Option Tree
variable_of None index args = None
variable_of (Some sort) index [] = Some (Var (record { 0 = sort }) index)
variable_of (Some sort) index (arg ∷ args) = None

abbrev pub tree_over : SigParts → RawHead → Option (List Tree) → Option Tree
tree_over parts term None = None
tree_over parts (head.Name name) (Some args) = symbol_over (number_of parts.symbol_names name) args
tree_over parts (head.Var sort index) (Some args) = variable_of (number_of parts.sort_names sort) index args
tree_over parts (head.Param number) (Some args) = None
tree_over parts (head.Field number) (Some args) = None

abbrev pub tree_step : SigParts → RawTerm-F (Option Tree) → Option Tree
tree_step parts term = tree_over parts term.head (all_present term.args)

abbrev pub tree_of : SigParts → RawTerm → Option Tree
tree_of parts = fold-RawTerm (Option Tree) (tree_step parts)
