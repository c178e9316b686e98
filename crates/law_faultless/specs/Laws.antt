-- What holds of all lines and the signatures that they state.
use Rattle.std.specs.Prelude.{◌≡◌, List, Option, None, Some, IsSome}
use Rattle.law_sig.specs.Signature.{sort_of}
use Rattle.law_sig.specs.WellFormed.{IsWellFormed}
use Rattle.law_sig.specs.declared.tree.Tree.{Tree}
use Rattle.law_sig.specs.declared.parts.SigParts.{SigParts}
use Rattle.law_lines.specs.declared.raw.RawLine.{RawLine}
use Rattle.law_typing.specs.LineFaults.{first_fault}
use Rattle.law_typing.specs.Naming.{named_term}
use Rattle.law_typing.specs.Typed.{IsTypedAs}
use Rattle.law_typing.specs.TypedTerm.{IsTyped, tree_of}

-- lines state one signature at most
abbrev pub OneSignature : Type 0
OneSignature = (lines : List RawLine) (p q : SigParts) → IsTypedAs lines p → IsTypedAs lines q → p ≡ q

-- of lines that state a signature no line shows a fault
abbrev pub TypedShowsNoFault : Type 0
TypedShowsNoFault = (lines : List RawLine) (parts : SigParts) → IsTypedAs lines parts → first_fault lines ≡ None

-- a well-sorted term of a well-formed signature, as that of any lines is, written by its names states that term
abbrev pub NamedStatesTerm : Type 0
NamedStatesTerm = (parts : SigParts) (tree : Tree) → IsWellFormed parts → IsSome (sort_of parts tree) → tree_of parts (named_term parts tree) ≡ Some tree

-- it is the one answer that `typed` may give to what `raw_term` gives of it
abbrev pub TypedOfRawTerm : Type 0
TypedOfRawTerm = (parts : SigParts) (tree : Tree) (found : Option Tree) → IsWellFormed parts → IsSome (sort_of parts tree)
    → IsTyped parts (named_term parts tree) found → found ≡ Some tree
