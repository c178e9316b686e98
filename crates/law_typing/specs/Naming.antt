-- Numbers of sorts and symbols written as their names.
use Rattle.std.specs.Prelude.{ℕ, List, [], slice_index_or}
use Rattle.law_sig.specs.declared.tree.SortId.{SortId}
use Rattle.law_sig.specs.declared.tree.SymId.{SymId}
use Rattle.law_sig.specs.declared.tree.Tree.{Tree}
use Rattle.law_sig.specs.declared.tree.Tree.TheOpen.{Tree-F}
use Rattle.law_sig.specs.declared.tree.Tree.TheOpen as o
use Rattle.law_sig.specs.declared.tree.Tree.TheFolds.{fold-Tree}
use Rattle.law_sig.specs.declared.tree.Body.{Body}
use Rattle.law_sig.specs.declared.tree.Body.TheOpen.{Body-F}
use Rattle.law_sig.specs.declared.tree.Body.TheOpen as b
use Rattle.law_sig.specs.declared.tree.Body.TheFolds.{fold-Body}
use Rattle.law_sig.specs.declared.parts.SigParts.{SigParts}
use Rattle.law_lines.specs.declared.raw.RawHead.{RawHead}
use Rattle.law_lines.specs.declared.raw.RawHead.TheVariants.{Name, Var, Param, Field}
use Rattle.law_lines.specs.declared.raw.RawTerm.{RawTerm}
use Rattle.law_lines.specs.declared.raw.RawTerm.TheViews.{roll-RawTerm}

-- the name of a sort, and of a symbol
abbrev pub sort_name : SigParts → SortId → List ℕ
sort_name parts sort = slice_index_or parts.sort_names sort.0 []

abbrev pub symbol_name : SigParts → SymId → List ℕ
symbol_name parts f = slice_index_or parts.symbol_names f.0 []

abbrev pub raw_term : RawHead → List RawTerm → RawTerm
raw_term head args = roll-RawTerm (record { head = head; args = args })

-- a term with each number replaced by its name
abbrev pub name_step : SigParts → Tree-F RawTerm → RawTerm
name_step parts (o.Var sort index) = raw_term (Var (sort_name parts sort) index) []
name_step parts (o.App head args) = raw_term (Name (symbol_name parts head)) args

abbrev pub named_term : SigParts → Tree → RawTerm
named_term parts = fold-Tree RawTerm (name_step parts)

-- a body likewise; whether a symbol is made or called is seen from its declaration
abbrev pub name_body_step : SigParts → Body-F RawTerm → RawTerm
name_body_step parts (b.Field number) = raw_term (Field number) []
name_body_step parts (b.Param number) = raw_term (Param number) []
name_body_step parts (b.Make head args) = raw_term (Name (symbol_name parts head)) args
name_body_step parts (b.Call head args) = raw_term (Name (symbol_name parts head)) args

abbrev pub named_body : SigParts → Body → RawTerm
named_body parts = fold-Body RawTerm (name_body_step parts)
