-- Laws of the order of checking, and of the order of entries in it.
use Rattle.std.specs.Prelude.{◌≡◌, ◌↔◌, List}
use Rattle.law_sig.specs.WellFormed.{IsWellFormed}
use Rattle.law_sig.specs.Tests.{Pools}
use Rattle.law_sig.specs.declared.parts.SigParts.{SigParts}
use Rattle.law_valid.specs.declared.certificate.Entry.{Entry}
use Rattle.law_valid.specs.declared.certificate.SortTree.{SortTree}
use Rattle.law_valid.specs.Valid.{IsValid}
use Rattle.law_valid.specs.Order.{Decision, at_start, GoInOrder, AreWhole}
use Rattle.law_valid.specs.Judged.{Judged}
use Rattle.law_valid.specs.declared.rule.Answer.{Answer}
use Rattle.law_valid.specs.declared.rule.Answer.TheVariants.{Yes}

-- no rule fails and no evaluation is over exactly where the certificate is valid
abbrev pub YesIsValid : Type 0
YesIsValid = (parts : SigParts) (pools : Pools) (entries : List Entry) (trees : List SortTree)
    → Judged parts pools entries trees Yes ↔ IsValid parts pools entries trees

-- there is at most one answer
abbrev pub OneAnswer : Type 0
OneAnswer = (parts : SigParts) (pools : Pools) (entries : List Entry) (trees : List SortTree) (a b : Answer)
    → Judged parts pools entries trees a → Judged parts pools entries trees b → a ≡ b

-- who goes in order to the end has exactly the considered schemas, each with exactly its instances, and the other way round
abbrev pub InOrderIsWhole : Type 0
InOrderIsWhole = (parts : SigParts) → IsWellFormed parts → (ds : List Decision) → GoInOrder (at_start parts) ds ↔ AreWhole parts ds
