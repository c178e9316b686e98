use Rattle.std.proofs.Common.{ap₂, ◌∙◌}
use Rattle.law_explore.specs.Named.{named_list}
use Rattle.law_explore.proofs.listed.plain.Goals as goal

pub returns-clause-listed : goal.returns-clause-listed
returns-clause-listed c = record {
  pools = c.in_ok-pools.field-0.pools;
  laws = c.in_ok-pools.field-0.laws;
  list_of = c.in_ok-pools.ensures.listed;
  named = c.in_ok-named_list.ensures.named ∙ ap₂ (named_list c.args.raw c.args.sig.now) c.as_slice.ensures c.as_slice-2.ensures;
  spelled = c.in_ok-named_list.ensures.spelled;
}
