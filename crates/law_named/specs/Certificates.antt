-- Laws of certificates by their names.
use Rattle.std.specs.Prelude.{◌≡◌, ◌↔◌, List, IsSome}
use Rattle.law_sig.specs.Laws.{IsCovered}
use Rattle.law_sig.specs.Signature.{sort_of}
use Rattle.law_sig.specs.WellFormed.{IsWellFormed, IsDeclared}
use Rattle.law_sig.specs.declared.tree.SortId.{SortId}
use Rattle.law_sig.specs.declared.tree.Tree.{Tree}
use Rattle.law_sig.specs.declared.parts.SigParts.{SigParts}
use Rattle.law_cert_text.specs.declared.cert.Cert.{Cert}
use Rattle.law_cert_text.specs.declared.cert.SortTree.{SortTree as WrittenTree}
use Rattle.law_cert_text.specs.Certificates.{IsCertText}
use Rattle.law_typing.specs.Naming.{sort_name, named_term}
use Rattle.law_typing.specs.Typed.{IsTypedAs}
use Rattle.law_valid.specs.declared.certificate.SortTree.{SortTree}
use Rattle.law_valid.specs.Stated.{stated, law_at}
use Rattle.law_valid.specs.declared.rule.Answer.{Answer}
use Rattle.law_valid.specs.declared.rule.Answer.TheVariants.{Yes}
use Rattle.law_named.specs.Named.{sort_named, term_named, pools_named, entries_named, AreTreesOf, Meaning, IsValidCert, JudgedCert}

-- the laws of a valid certificate cover its signature's universe, by its own pools
abbrev pub CertCovers : Type 0
CertCovers = (cert : Cert) (v : IsValidCert cert)
    → IsCovered v.means.parts (pools_named v.means.parts cert.pools) (stated law_at (entries_named v.means.parts cert.entries))

-- nothing is found wrong exactly where it is valid
abbrev pub CertYesIsValid : Type 0
CertYesIsValid = (cert : Cert) → JudgedCert cert Yes ↔ IsValidCert cert

-- its lines have one reading as trees
abbrev pub OneReading : Type 0
OneReading = (parts : SigParts) (raws : List WrittenTree) (trees others : List SortTree) → AreTreesOf parts raws trees → AreTreesOf parts raws others → trees ≡ others

-- a certificate that the grammar spells, and whose lines state a signature, states something over it
abbrev pub SpelledMeans : Type 0
SpelledMeans = (cert : Cert) (parts : SigParts) → IsCertText cert → IsTypedAs cert.sig parts → (m : Meaning cert) × (m.parts ≡ parts)

-- there is at most one answer
abbrev pub OneCertAnswer : Type 0
OneCertAnswer = (cert : Cert) (a b : Answer) → JudgedCert cert a → JudgedCert cert b → a ≡ b

-- over a signature, as that of any lines is, declared sorts and well-sorted terms are read back from their names
abbrev pub NamesReadBack : Type 0
NamesReadBack = (parts : SigParts) → IsWellFormed parts
    → ((sort : SortId) → IsDeclared parts sort → sort_named parts (sort_name parts sort) ≡ sort)
    × ((tree : Tree) → IsSome (sort_of parts tree) → term_named parts (named_term parts tree) ≡ tree)
