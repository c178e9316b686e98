-- What a valid certificate proves.
use Rattle.std.specs.Prelude.{List}
use Rattle.law_sig.specs.Tests.{Pools}
use Rattle.law_sig.specs.Laws.{IsCovered}
use Rattle.law_sig.specs.declared.parts.SigParts.{SigParts}
use Rattle.law_valid.specs.declared.certificate.Entry.{Entry}
use Rattle.law_valid.specs.declared.certificate.SortTree.{SortTree}
use Rattle.law_valid.specs.Stated.{stated, law_at}
use Rattle.law_valid.specs.Valid.{IsValid}

-- the laws of a valid certificate cover: any two terms of the universe of one sort are told apart by a test, or are
-- derivable as equal from the background and the laws; and every law is one
abbrev pub ValidCovers : Type 0
ValidCovers = (parts : SigParts) (pools : Pools) (entries : List Entry) (trees : List SortTree)
    → IsValid parts pools entries trees → IsCovered parts pools (stated law_at entries)
