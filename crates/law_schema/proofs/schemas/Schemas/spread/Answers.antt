use Rattle.std.proofs.Common.{rules}
use Rattle.law_schema.proofs.Calls.{has_place, spread_known}
use Rattle.law_schema.proofs.schemas.Schemas.spread.Goals as goal

pub file-requires : goal.file-requires
file-requires c = has_place c.self.inside c.self.invariant c.in-Some.schema c.home-weight.result.0 c.home-weight.result.1 c.in-Some.is c.home-weight.ensures

pub invariant_of-self-2 : goal.invariant_of-self-2
invariant_of-self-2 c =
    spread_known c.self.inside c.self.invariant c.args.self.now c.self.view_is c.requires c.in-Some.schema c.in-Some.is c.home-weight.result.0 c.home-weight.result.1 c.home-weight.ensures c.in_ok-block.block
    c.as_slice.result.now c.as_slice-2.result.now c.as_slice.ensures.value c.as_slice-2.ensures.value c.in_ok-block.ensures c.len-number.result (search rules) c.new.result c.new.ensures c.push.new.self (search rules) c.file.new.columns c.in_ok-file.ensures.ok
