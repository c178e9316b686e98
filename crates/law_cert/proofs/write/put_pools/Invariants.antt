use Rattle.std.proofs.Common.{◌≡◌, ◌++◌, take}
use Rattle.std.specs.List.{flat_map}
use Rattle.law_lines.specs.Spelling.{text_of}
use Rattle.law_cert_text.specs.Spelling.{pool_lines}
use Rattle.law_cert.proofs.write.put_pools.Given as goal

abbrev pub invariant-loop-pool : goal.invariant-loop-pool
invariant-loop-pool l = l.out ≡ l.initial.out ++ text_of (flat_map pool_lines (take l.pool-index l.pools))
