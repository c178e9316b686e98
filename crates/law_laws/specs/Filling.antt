-- Laws of terms of one schema.
use Rattle.std.specs.Prelude.{◌≡◌}
use Rattle.law_sig.specs.Trees.{schema_of, substituted}
use Rattle.law_sig.specs.General.{IsNumbered, filling}
use Rattle.law_sig.specs.declared.tree.Tree.{Tree}
use Rattle.law_laws.specs.Renaming.{renamed}

-- a term whose variables are so numbered becomes any term of its schema by such a renaming
abbrev pub NumberedTermsFill : Type 0
NumberedTermsFill = (g t : Tree) → IsNumbered g → schema_of g ≡ schema_of t → substituted (renamed (filling t)) g ≡ t
