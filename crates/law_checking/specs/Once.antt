-- Lists with the same items, and values that tell lists of them apart.
use Rattle.std.specs.Prelude.{◌≡◌, ◌↔◌, ℕ, List, [], ◌∷◌}
use Rattle.law_sig.specs.Lists.{In, Each, AreDistinct}
use Rattle.law_ids.specs.declared.ids.ValueId.{ValueId}

-- the same numbers, however often
abbrev pub HaveSame : List ℕ → List ℕ → Type 0
HaveSame ns ms = (n : ℕ) → In n ns ↔ In n ms

-- exactly these numbers, each once
pub record AreOnce (given wanted : List ℕ) : Type 0 where
  pub once : AreDistinct given
  pub same : HaveSame given wanted

-- all items are equal
abbrev pub AreAlike : List ValueId → Type 0
AreAlike vs = (v w : ValueId) → In v vs → In w vs → v ≡ w

-- the number of the first item of each list that has one
abbrev pub heads : List (List ValueId) → List ℕ
heads [] = []
heads ([] ∷ kids) = heads kids
heads ((v ∷ vs) ∷ kids) = v.0 ∷ heads kids

-- the items of one list are equal, and those of two lists differ
pub record AreTold (kids : List (List ValueId)) : Type 0 where
  pub alike : Each AreAlike kids
  pub distinct : AreDistinct (heads kids)
