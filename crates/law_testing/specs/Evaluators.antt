-- What an evaluator is to those who call it.
use Rattle.std.specs.Prelude.{◌≡◌, List}
use Rattle.law_sig.specs.declared.tree.Tree.{Tree}
use Rattle.law_sig.specs.declared.parts.SigParts.{SigParts}
use Rattle.law_ids.specs.Values.{Grows}
use Rattle.law_ids.specs.Table.{PoolTable}
use Rattle.law_testing.specs.Values.{ArePools}

-- what an evaluator is to those who call it: the signature that it evaluates by, and the values of its bank
pub record Values : Type 0 where
  pub parts : SigParts
  pub bank : List Tree

-- the evaluator is this signature's, and so are the pools, whose values its bank has
pub record AreReady (parts : SigParts) (values : Values) (table : PoolTable) : Type 0 where
  pub own : values.parts ≡ parts
  pub pools : ArePools parts values.bank table

-- it is the same signature's, and its bank only grew
pub record Extends (old new : Values) : Type 0 where
  pub own : new.parts ≡ old.parts
  pub grows : Grows old.bank new.bank
