use Rattle.std.proofs.Common.{◌≡◌, ◌+◌, length, take, map, nat_eq, if◌then◌else◌}
use Rattle.law_sig.specs.Lists.{total}
use Rattle.law_sig.specs.Signature.{vars_at, symbol_at}
use Rattle.law_sig.specs.Counts.{stopped, applications_of}
use Rattle.law_sig.specs.declared.tree.SymId.{SymId}
use Rattle.law_sig.proofs.counts.terms_of.Given as goal

abbrev pub invariant-loop-sym : goal.invariant-loop-sym
invariant-loop-sym l = l.count ≡ stopped ((if nat_eq (length l.rows) 1 then vars_at l.sig l.sort else 0)
    + total (take l.sym-index (map (λ (f : SymId). applications_of l.sig l.rows (length l.rows) l.sort f (symbol_at l.sig f)) l.sig.settings.explored)))
