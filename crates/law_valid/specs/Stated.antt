-- What the entries of a certificate state, each in the order of the entries.
use Rattle.std.specs.Prelude.{List, [], ◌∷◌, ◌++◌}
use Rattle.law_sig.specs.Trees.{schema_of}
use Rattle.law_sig.specs.declared.tree.Tree.{Tree}
use Rattle.law_sig.specs.declared.parts.Equation.{Equation}
use Rattle.law_sig.specs.declared.parts.SigParts.{SigParts}
use Rattle.law_valid.specs.declared.certificate.Entry.{Entry}
use Rattle.law_valid.specs.declared.certificate.Entry.TheVariants as e

-- what is stated by each entry, one after another
abbrev pub stated : {E A : Type 0} → (E → List A) → List E → List A
stated f [] = []
stated f (x ∷ xs) = f x ++ stated f xs

-- the equations with a number: those of laws and lemmas
abbrev pub equation_at : Entry → List Equation
equation_at (e.Law n q) = q ∷ []
equation_at (e.Lemma n q steps) = q ∷ []
equation_at x = []

-- the laws alone
abbrev pub law_at : Entry → List Equation
law_at (e.Law n q) = q ∷ []
law_at x = []

-- the schemas: those that are spread, and those of killed ones
abbrev pub schema_at : Entry → List Tree
schema_at (e.Spread c) = c ∷ []
schema_at (e.Killed q steps) = schema_of q.left ∷ []
schema_at x = []

-- the spread schemas alone
abbrev pub spread_at : Entry → List Tree
spread_at (e.Spread c) = c ∷ []
spread_at x = []

-- the live terms
abbrev pub live_at : Entry → List Tree
live_at (e.Live t) = t ∷ []
live_at x = []

-- the terms, live or moved, up to the next schema
abbrev pub terms_after : List Entry → List Tree
terms_after [] = []
terms_after (e.Spread c ∷ xs) = []
terms_after (e.Killed q steps ∷ xs) = []
terms_after (e.Live t ∷ xs) = t ∷ terms_after xs
terms_after (e.Moved q steps ∷ xs) = q.left ∷ terms_after xs
terms_after (x ∷ xs) = terms_after xs

-- the equations that chains may name, in the order of their numbers: the background, then laws and lemmas
abbrev pub known : SigParts → List Entry → List Equation
known parts xs = parts.settings.background ++ stated equation_at xs
