-- Terms as words, by which a table finds them.
use Rattle.std.specs.Prelude.{◌≡◌, ℕ, zero, suc, ◌+◌, ◌*◌, ◌/◌, ◌%◌, if◌then◌else◌, nat_lt, List, [], ◌∷◌, ◌++◌, length, Bool, Option, Some, slice_get, MatchOption, Vec, bytes_eq}
use Rattle.std.specs.declared.alloc.Global.{Global}
use Rattle.law_sig.specs.Trees.{joined}
use Rattle.law_sig.specs.declared.tree.Tree.{Tree}
use Rattle.law_sig.specs.declared.tree.Tree.TheOpen.{Tree-F}
use Rattle.law_sig.specs.declared.tree.Tree.TheOpen as o
use Rattle.law_sig.specs.declared.tree.Tree.TheFolds.{fold-Tree}

-- a number in seven bits a byte, the lowest first, with 128 added to each byte but the last (LEB128), in so many bytes and one
-- more, the last of which has all that is left
abbrev pub bytes_in : ℕ → ℕ → List ℕ
bytes_in zero n = n ∷ []
bytes_in (suc more) n = if nat_lt n 128 then n ∷ [] else (128 + n % 128) ∷ bytes_in more (n / 128)

-- a number takes fewer bytes than it counts
abbrev pub number_bytes : ℕ → List ℕ
number_bytes n = bytes_in n n

-- a term as a word: no two terms have the same one
abbrev pub word_step : Tree-F (List ℕ) → List ℕ
word_step (o.Var sort index) = number_bytes (2 * sort.0) ++ number_bytes index
word_step (o.App head words) = number_bytes (2 * head.0 + 1) ++ (number_bytes (length words) ++ joined words)

abbrev pub word : Tree → List ℕ
word = fold-Tree (List ℕ) word_step

-- whether two vectors have the same items
abbrev pub same_items : Vec ℕ Global → Vec ℕ Global → Bool
same_items v w = bytes_eq v.items w.items

-- what is found for a vector of bytes
abbrev pub Finds : Type 0
Finds = Vec ℕ Global → Option ℕ

-- the word of one of these terms is found at a place of the term, and no other word is found
abbrev pub FindsTerms : List Tree → Finds → Type 0
FindsTerms terms found = (v : Vec ℕ Global) → MatchOption (found v)
    ((k : ℕ) (t : Tree) → slice_get terms k ≡ Some t → v.items ≡ word t → ⊥)
    (λ k. (t : Tree) × (slice_get terms k ≡ Some t) × (v.items ≡ word t))
