-- The terms that stand for others while a chain is replayed.
use Rattle.std.specs.Prelude.{◌+◌, ◌<◌, List, [], ◌∷◌, ◌++◌, length, take, drop, ◌≡◌, ℕ, map, Option, Some, None}
use Rattle.law_sig.specs.Lists.{Each}
use Rattle.law_sig.specs.Trees.{substituted}
use Rattle.law_sig.specs.declared.tree.SortId.{SortId}
use Rattle.law_sig.specs.declared.tree.Tree.{Tree}
use Rattle.law_sig.specs.declared.tree.Tree.TheVariants.{Var, App}
use Rattle.law_sig.specs.Chains.{bound_in, Rewrites}
use Rattle.law_replay.specs.declared.term.Term.{Term}
use Rattle.law_replay.specs.declared.term.Term.TheOpen.{Term-F}
use Rattle.law_replay.specs.declared.term.Term.TheOpen as t
use Rattle.law_replay.specs.declared.term.Term.TheFolds.{fold-Term}
use Rattle.law_replay.specs.declared.term.Opened.{Opened}
use Rattle.law_replay.specs.declared.term.Frame.{Frame}
use Rattle.law_replay.specs.declared.term.Path.{Path}

-- the term that is meant
abbrev pub meaning_step : Term-F Tree → Tree
meaning_step (t.Whole tree) = tree.now
meaning_step (t.Under side binds) = substituted (bound_in binds.now) side.now
meaning_step (t.Over f args) = App f args.now

abbrev pub meaning : Term → Tree
meaning = fold-Term Tree meaning_step

-- a variable
abbrev pub IsVariable : Tree → Type 0
IsVariable t = (sort : SortId) × (index : ℕ) × (t ≡ Var sort index)

-- the symbol and the arguments, and none of a variable
abbrev pub IsOpened : Tree → Option Opened → Type 0
IsOpened t None = IsVariable t
IsOpened t (Some o) = t ≡ App o.head (map meaning o.args.now)

-- one of the arguments, by its place
abbrev pub IsFrame : Frame → Type 0
IsFrame f = f.at < length f.args.now

-- a term with what stands above it, from the root down
abbrev pub wrapped : List Frame → Tree → Tree
wrapped [] t = t
wrapped (f ∷ fs) t = App f.head (map meaning (take f.at f.args.now) ++ wrapped fs t ∷ map meaning (drop (f.at + 1) f.args.now))

-- below these frames of t stands s: a replacement at the place in t is one at the rest of the place in s
pub record LeadsTo (t : Tree) (place : List ℕ) (frames : List Frame) (rest : List ℕ) (s : Tree) : Type 0 where
  pub held : Each IsFrame frames
  pub back : (from to u : Tree) → Rewrites from to rest s u → Rewrites from to place t (wrapped frames u)
  pub only : (from to u : Tree) → Rewrites from to place t u → (v : Tree) × Rewrites from to rest s v

-- what stands at a place, and none where nothing can be replaced there
abbrev pub IsReached : Tree → List ℕ → Option Path → Type 0
IsReached t place None = (from to u : Tree) → Rewrites from to place t u → ⊥
IsReached t place (Some p) = LeadsTo t place p.frames.items [] (meaning p.term)
