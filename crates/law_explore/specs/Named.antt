-- A law list with every number replaced by its name, as it is printed.
use Rattle.std.specs.Prelude.{◌≡◌, ℕ, suc, ◌+◌, ◌^◌, ◌<◌, List, [], ◌∷◌, length, map}
use Rattle.law_sig.specs.Tests.{Pools}
use Rattle.law_sig.specs.declared.tree.Tree.{Tree}
use Rattle.law_sig.specs.declared.parts.Equation.{Equation}
use Rattle.law_sig.specs.declared.parts.SigParts.{SigParts}
use Rattle.law_lines.specs.declared.raw.RawLine.{RawLine}
use Rattle.law_typing.specs.Naming.{sort_name, named_term}
use Rattle.law_cert_text.specs.declared.cert.RawValues.{RawValues}
use Rattle.law_cert_text.specs.declared.cert.Entry.{Entry}
use Rattle.law_cert_text.specs.declared.cert.Entry.TheVariants.{Law}
use Rattle.law_cert_text.specs.declared.cert.Mark.TheVariants.{Plain}
use Rattle.law_cert_text.specs.declared.cert.LawList.{LawList}
use Rattle.law_cert_text.specs.Certificates.{IsListText}
use Rattle.law_explore.specs.LawList.{IsLawListOf}

-- the values of the sorts from this number on
abbrev pub named_values : SigParts → ℕ → List (List Tree) → List RawValues
named_values parts sort [] = []
named_values parts sort (values ∷ others) =
    record { sort = sort_name parts (record { 0 = sort }); values = map (named_term parts) values } ∷ named_values parts (suc sort) others

abbrev pub named_pools : SigParts → Pools → List (List RawValues)
named_pools parts pools = map (named_values parts 0) pools

-- laws with the mark `plain`, and the numbers from this one on
abbrev pub named_laws : SigParts → ℕ → List Equation → List Entry
named_laws parts number [] = []
named_laws parts number (e ∷ es) = Law number Plain (named_term parts e.left) (named_term parts e.right) ∷ named_laws parts (suc number) es

-- the lines of the signature, the pools, and the laws, which are numbered after the background
abbrev pub named_list : List RawLine → SigParts → Pools → List Equation → LawList
named_list lines parts pools laws = record {
  sig = lines;
  pools = named_pools parts pools;
  laws = named_laws parts (length parts.settings.background + 1) laws;
}

-- the last law has a number that can be printed
abbrev pub HasFewLaws : SigParts → List Equation → Type 0
HasFewLaws parts laws = length parts.settings.background + length laws < 2 ^ 63

-- the law list of a signature, which covers its universe of at most so many terms, by its names; and the grammar spells it
pub record IsNamedLawList (lines : List RawLine) (parts : SigParts) (terms : ℕ) (list : LawList) : Type 0 where
  pub pools : Pools
  pub laws : List Equation
  pub list_of : IsLawListOf parts terms pools laws
  pub named : list ≡ named_list lines parts pools laws
  pub spelled : IsListText list
