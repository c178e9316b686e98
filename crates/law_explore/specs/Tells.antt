-- When classes tell terms apart exactly as the tests do.
use Rattle.std.specs.Prelude.{◌≡◌, ◌↔◌, ℕ, List}
use Rattle.law_sig.specs.Lists.{In}
use Rattle.law_sig.specs.Signature.{sort_of}
use Rattle.law_sig.specs.Tests.{Pools, Same}
use Rattle.law_sig.specs.declared.tree.Tree.{Tree}
use Rattle.law_sig.specs.declared.parts.SigParts.{SigParts}

-- two of the terms have the same class exactly where they are of one sort and have the same values
abbrev pub Tells : SigParts → Pools → List Tree → (Tree → ℕ) → Type 0
Tells parts pools terms class = (s t : Tree) → In s terms → In t terms
    → (class s ≡ class t) ↔ ((sort_of parts s ≡ sort_of parts t) × Same parts pools s t)
