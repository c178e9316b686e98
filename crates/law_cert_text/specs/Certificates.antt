-- Which certificates and law lists the grammar spells.
use Rattle.std.specs.Prelude.{ℕ, ◌+◌, ◌^◌, ◌<◌, ◌≤◌, zero, suc, List, [], ◌∷◌, length}
use Rattle.std.specs.List.{AllByRecursion}
use Rattle.law_lines.specs.declared.raw.RawTerm.{RawTerm}
use Rattle.law_lines.specs.declared.want.Bounds.TheVariants.{Kept}
use Rattle.law_lines.specs.declared.want.Place.TheVariants.{Equation}
use Rattle.law_lines.specs.Terms.{IsTerm}
use Rattle.law_lines.specs.Lines.{IsLine, IsName, IsNumber}
use Rattle.law_lines.specs.Signature.{IsRawSig}
use Rattle.law_cert_text.specs.declared.cert.Mark.{Mark}
use Rattle.law_cert_text.specs.declared.cert.Mark.TheVariants.{Plain}
use Rattle.law_cert_text.specs.declared.cert.RawBind.{RawBind}
use Rattle.law_cert_text.specs.declared.cert.RawStep.{RawStep}
use Rattle.law_cert_text.specs.declared.cert.Entry.{Entry}
use Rattle.law_cert_text.specs.declared.cert.Entry.TheVariants.{Law, Lemma, Spread, Killed, Live, Moved}
use Rattle.law_cert_text.specs.declared.cert.TreeLine.{TreeLine}
use Rattle.law_cert_text.specs.declared.cert.TreeLine.TheVariants.{Split, Class, Leaf}
use Rattle.law_cert_text.specs.declared.cert.SortTree.{SortTree}
use Rattle.law_cert_text.specs.declared.cert.RawValues.{RawValues}
use Rattle.law_cert_text.specs.declared.cert.Cert.{Cert}
use Rattle.law_cert_text.specs.declared.cert.LawList.{LawList}
use Rattle.law_cert_text.specs.Spelling.{values_line}

-- an index, or an argument number of a position
abbrev pub IsIndex : ℕ → Type 0
IsIndex n = n < 2 ^ 32

-- a written term with variables, at most 4,096 nodes and a depth of at most 256
abbrev pub IsWritten : RawTerm → Type 0
IsWritten term = IsTerm Kept Equation term

pub record IsBind (bind : RawBind) : Type 0 where
  pub sort : IsName Kept bind.sort
  pub index : IsIndex bind.index
  pub term : IsWritten bind.term

pub record IsStep (step : RawStep) : Type 0 where
  pub pos : AllByRecursion IsIndex step.pos
  pub eq : IsNumber step.eq
  pub binds : AllByRecursion IsBind step.binds

-- The mark `plain` stands in law lists alone, and the other marks in certificates alone.
abbrev pub IsEarned : Mark → Type 0
IsEarned Plain = ⊥
IsEarned mark = Unit {0}

abbrev pub IsEntry : Entry → Type 0
IsEntry (Law number mark left right) = IsNumber number × IsEarned mark × IsWritten left × IsWritten right
IsEntry (Lemma number left right steps) = IsNumber number × IsWritten left × IsWritten right × AllByRecursion IsStep steps
IsEntry (Spread term) = IsWritten term
IsEntry (Killed general target steps) = IsWritten general × IsWritten target × AllByRecursion IsStep steps
IsEntry (Live term) = IsWritten term
IsEntry (Moved term target steps) = IsWritten term × IsWritten target × AllByRecursion IsStep steps

abbrev pub IsPlain : Mark → Type 0
IsPlain Plain = Unit {0}
IsPlain mark = ⊥

abbrev pub IsPlainLaw : Entry → Type 0
IsPlainLaw (Law number mark left right) = IsNumber number × IsPlain mark × IsWritten left × IsWritten right
IsPlainLaw entry = ⊥

-- a law with any mark
abbrev pub IsLaw : Entry → Type 0
IsLaw (Law number mark left right) = IsNumber number × IsWritten left × IsWritten right
IsLaw entry = ⊥

-- The lines are so many term trees and then so many sort trees, each in prefix order. A term tree is a
-- leaf, or a split and its children; a sort tree is a class and the term tree of its terms, or a split
-- and its children. So a tree ends where its last child does.
abbrev pub AreTrees : (sorts terms : ℕ) → List TreeLine → Type 0
AreTrees zero zero [] = Unit {0}
AreTrees sorts (suc terms) (Leaf number ∷ lines) = AreTrees sorts terms lines
AreTrees sorts (suc terms) (Split test count ∷ lines) = AreTrees sorts (terms + count) lines
AreTrees (suc sorts) zero (Class numbers ∷ lines) = AreTrees sorts 1 lines
AreTrees (suc sorts) zero (Split test count ∷ lines) = AreTrees (sorts + count) zero lines
AreTrees sorts terms lines = ⊥

-- a split has at least two children, and a class at least one schema
abbrev pub IsNode : TreeLine → Type 0
IsNode (Split test count) = IsNumber test × IsNumber count × (2 ≤ count)
IsNode (Class numbers) = AllByRecursion IsNumber numbers × (0 < length numbers)
IsNode (Leaf number) = IsNumber number

pub record IsTree (tree : SortTree) : Type 0 where
  pub sort : IsName Kept tree.sort
  pub each : AllByRecursion IsNode tree.lines
  pub one : AreTrees 1 0 tree.lines

abbrev pub IsValues : RawValues → Type 0
IsValues values = IsLine Kept (values_line values)

pub record IsPool (pool : List RawValues) : Type 0 where
  pub some : 0 < length pool
  pub each : AllByRecursion IsValues pool

pub record ArePools (pools : List (List RawValues)) : Type 0 where
  pub some : 0 < length pools
  pub each : AllByRecursion IsPool pools

-- The grammar spells the certificate.
pub record IsCertText (cert : Cert) : Type 0 where
  pub sig : IsRawSig cert.sig
  pub pools : ArePools cert.pools
  pub entries : AllByRecursion IsEntry cert.entries
  pub trees : AllByRecursion IsTree cert.trees

-- The grammar spells the law list.
pub record IsListText (list : LawList) : Type 0 where
  pub sig : IsRawSig list.sig
  pub pools : ArePools list.pools
  pub laws : AllByRecursion IsPlainLaw list.laws
