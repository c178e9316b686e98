use Rattle.std.proofs.Common.{◌≡◌, ℕ, take}
use Rattle.std.specs.List.{filter}
use Rattle.law_sig.specs.Signature.{constructors}
use Rattle.law_draws.specs.Draws.{fits_over}
use Rattle.law_draws.specs.Choices.{level_of}
use Rattle.law_gen.proofs.choices.choices_over.Given as goal

abbrev pub invariant-loop-sym : goal.invariant-loop-sym
invariant-loop-sym l = (height : ℕ) → l.below ≡ level_of l.sig height → l.found ≡ filter (fits_over l.sig height) (take l.sym-index (constructors l.sig l.fn.sort))
