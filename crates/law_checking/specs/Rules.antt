-- Whether an entry's rule holds, by the equations that stand before it.
use Rattle.std.specs.Prelude.{◌≡◌, ◌↔◌, List, Bool, IsTrue}
use Rattle.law_sig.specs.Lists.{In}
use Rattle.law_sig.specs.declared.parts.Equation.{Equation}
use Rattle.law_sig.specs.declared.parts.SigParts.{SigParts}
use Rattle.law_valid.specs.declared.certificate.Entry.{Entry}
use Rattle.law_sig.specs.declared.chain.Step.{Step}
use Rattle.law_valid.specs.Stated.{stated, live_at, known}
use Rattle.law_valid.specs.Valid.{IsLemma, IsKilled, IsMoved}

-- after any entries that state these equations, it is a lemma exactly where this says so
abbrev pub TellsLemma : SigParts → List Equation → Equation → List Step → Bool → Type 0
TellsLemma parts equations q steps holds = (before : List Entry) → equations ≡ known parts before → IsTrue holds ↔ IsLemma parts before q steps

-- and a schema is killed
abbrev pub TellsKilled : SigParts → List Equation → Equation → List Step → Bool → Type 0
TellsKilled parts equations q steps holds = (before : List Entry) → equations ≡ known parts before → IsTrue holds ↔ IsKilled parts before q steps

-- and a term is moved, where it is known whether its target is an earlier live term
abbrev pub TellsMoved : SigParts → List Equation → Bool → Equation → List Step → Bool → Type 0
TellsMoved parts equations earlier q steps holds =
    (before : List Entry) → equations ≡ known parts before → (IsTrue earlier ↔ In q.right (stated live_at before)) → IsTrue holds ↔ IsMoved parts before q steps
