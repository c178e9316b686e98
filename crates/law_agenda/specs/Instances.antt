-- Instances of a spread schema, chosen from the live terms of its arguments' schemas.
use Rattle.std.specs.Prelude.{◌≡◌, ℕ, ◌-◌, ◌<◌, ◌≤◌, ◌↔◌, List, [], ◌∷◌, true, length, map, take, drop, Option, Some, None, IsTrue, slice_get}
use Rattle.std.specs.Option.{MatchOption}
use Rattle.law_sig.specs.Lists.{In, Each, Rising}
use Rattle.law_sig.specs.Trees.{schema_of}
use Rattle.law_sig.specs.Signature.{is_declared_sort, symbol_at, vars_at, sort_of}
use Rattle.law_sig.specs.Tests.{weight, is_explored, is_bounded}
use Rattle.law_sig.specs.Order.{IsBefore}
use Rattle.law_sig.specs.declared.tree.SortId.{SortId}
use Rattle.law_sig.specs.declared.tree.SymId.{SymId}
use Rattle.law_sig.specs.declared.tree.Tree.{Tree}
use Rattle.law_sig.specs.declared.tree.Tree.TheVariants.{Var, App}
use Rattle.law_sig.specs.declared.parts.SigParts.{SigParts}
use Rattle.law_sig.specs.Expected.{IsFirstAbove, IsSpent}
use Rattle.law_sig.specs.Schemas.{IsInstance}
use Rattle.law_agenda.specs.declared.candidates.Candidate.{Candidate}
use Rattle.law_agenda.specs.declared.candidates.Candidate.TheVariants as candidate
use Rattle.law_agenda.specs.declared.instances.Range.{Range}
use Rattle.law_agenda.specs.declared.instances.Instance.{Instance}
use Rattle.law_agenda.specs.declared.instances.Instance.TheVariants as instance
use Rattle.law_listing.specs.declared.pick.Pick.{Pick}
use Rattle.law_agenda.specs.declared.shelves.Spread.{Spread}
use Rattle.law_listing.specs.Choices.{counts_of, IsTermOf}
use Rattle.law_agenda.specs.Shelves.{Shelf, bucket, sorts_of}
use Rattle.law_agenda.specs.Walking.{IsWalk}

-- so many live terms from a place on
abbrev pub piece : List Tree → Range → List Tree
piece lives r = take (r.to - r.from) (drop r.from lives)

-- they are all of one weight
abbrev pub pieces : List Tree → List Range → List (List (List Tree))
pieces lives ranges = map (λ l. l ∷ []) (map (piece lives) ranges)

-- the ranges of what a row picks from a shelf
abbrev pub range_of : Option Spread → Range
range_of None = record { from = 0; to = 0 }
range_of (Some spread) = record { from = spread.from; to = spread.to }

abbrev pub ranges_of : Shelf → List SortId → List Pick → List Range
ranges_of shelf [] row = []
ranges_of shelf (s ∷ ss) [] = []
ranges_of shelf (s ∷ ss) (p ∷ row) = range_of (slice_get (bucket shelf p.weight s) p.at) ∷ ranges_of shelf ss row

-- how many terms each range has
abbrev pub range_counts : List Range → List (List ℕ)
range_counts ranges = map (λ (r : Range). (r.to - r.from) ∷ []) ranges

-- a range has exactly the live terms with a schema, in order
pub record IsRange (parts : SigParts) (lives : List Tree) (c : Tree) (r : Range) : Type 0 where
  pub within : r.to ≤ length lives
  pub members : (t : Tree) → In t (piece lives r) ↔ (In t lives × (schema_of t ≡ c))
  pub rising : Rising (IsBefore parts) (piece lives r)

-- each range has those of the schema at its place
abbrev pub AreRanges : SigParts → List Tree → List Tree → List Range → Type 0
AreRanges parts lives [] [] = Unit {0}
AreRanges parts lives [] (r ∷ rs) = ⊥
AreRanges parts lives (c ∷ cs) [] = ⊥
AreRanges parts lives (c ∷ cs) (r ∷ rs) = IsRange parts lives c r × AreRanges parts lives cs rs

-- an instance that may be the next one
abbrev pub IsInstanceOf : List Tree → Instance → Tree → Type 0
IsInstanceOf lives (instance.Var sort index count) t = t ≡ Var sort index
IsInstanceOf lives (instance.App f ranges walk) t = IsWalk walk (counts_of (pieces lives ranges)) 0 × IsTermOf (pieces lives ranges) f walk.row t

-- a schema over live terms: what is asked of it for going through its instances
pub record IsOpen (parts : SigParts) (lives : List Tree) (f : SymId) (cs : List Tree) (rs : List Range) : Type 0 where
  pub ranges : AreRanges parts lives cs rs
  pub explored : IsTrue (is_explored parts f)
  pub sort : SortId
  pub sorted : sort_of parts (App f cs) ≡ Some sort
  pub small : weight parts (App f cs) ≤ parts.settings.size
  pub bounded : Each (λ t. is_bounded parts t ≡ true) lives

-- a sort's variables
pub record IsOpenVar (parts : SigParts) (sort : SortId) : Type 0 where
  pub declared : IsTrue (is_declared_sort parts sort)
  pub some : 1 ≤ vars_at parts sort
  pub small : 1 ≤ parts.settings.size

-- the candidate is this schema, whose instances are gone through
abbrev pub IsOpened : SigParts → List Tree → Shelf → Candidate → Tree → Type 0
IsOpened parts lives shelf (candidate.Var sort) c = (c ≡ Var sort 0) × IsOpenVar parts sort
IsOpened parts lives shelf (candidate.App f walk) c = (f.0 < length parts.symbols) × (cs : List Tree) × (c ≡ App f cs) × IsOpen parts lives f cs (ranges_of shelf (sorts_of (symbol_at parts f)) walk.row)

-- the instance is one of this schema
abbrev pub IsHeld : SigParts → List Tree → Instance → Tree → Type 0
IsHeld parts lives (instance.Var sort index count) c = (c ≡ Var sort 0) × IsOpenVar parts sort × (count ≡ vars_at parts sort) × (index < count)
IsHeld parts lives (instance.App f ranges walk) c = (cs : List Tree) × (c ≡ App f cs) × IsOpen parts lives f cs ranges

-- the first instance, and the one that comes after a term; or there is none
abbrev pub FirstInstance : SigParts → List Tree → Tree → Option Instance → Type 0
FirstInstance parts lives c r = MatchOption r (IsSpent (IsBefore parts) (IsInstance parts lives c) [])
    (λ i. (t : Tree) × IsInstanceOf lives i t × IsHeld parts lives i c × IsFirstAbove (IsBefore parts) (IsInstance parts lives c) [] t)

abbrev pub NextInstance : SigParts → List Tree → Tree → Tree → Option Instance → Type 0
NextInstance parts lives c s r = MatchOption r (IsSpent (IsBefore parts) (IsInstance parts lives c) (s ∷ []))
    (λ i. (t : Tree) × IsInstanceOf lives i t × IsHeld parts lives i c × IsFirstAbove (IsBefore parts) (IsInstance parts lives c) (s ∷ []) t)
