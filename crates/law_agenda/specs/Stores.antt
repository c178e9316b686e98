-- All that is known of the spread schemas so far.
use Rattle.std.specs.Prelude.{◌≡◌, ℕ, ◌≤◌, ◌⊎◌, List, [], ◌∷◌, ◌++◌, Option, Some}
use Rattle.law_sig.specs.Lists.{In, Each, Rising}
use Rattle.law_sig.specs.Signature.{sort_of}
use Rattle.law_sig.specs.Tests.{weight}
use Rattle.law_sig.specs.Order.{IsBefore}
use Rattle.law_sig.specs.declared.tree.SortId.{SortId}
use Rattle.law_sig.specs.declared.tree.Tree.{Tree}
use Rattle.law_sig.specs.declared.parts.SigParts.{SigParts}
use Rattle.law_sig.specs.Schemas.{IsConsidered}
use Rattle.law_agenda.specs.declared.shelves.Spread.{Spread}
use Rattle.law_agenda.specs.declared.stores.Store.{Store}
use Rattle.law_agenda.specs.declared.candidates.Candidate.{Candidate}
use Rattle.law_agenda.specs.declared.candidates.Candidate.TheVariants as candidate
use Rattle.law_agenda.specs.Candidates.{IsCandidate, IsStock, NextOf}
use Rattle.law_agenda.specs.Shelves.{Shelf, bucket, schemas_in}

-- the spread schemas of the weight at hand
pub record IsLevel (parts : SigParts) (spreads : List Tree) (w : ℕ) (level : List Spread) : Type 0 where
  pub sound : (c : Tree) → In c (schemas_in level) → In c spreads × (weight parts c ≡ w)
  pub full : (c : Tree) → In c spreads → weight parts c ≡ w → In c (schemas_in level)
  pub rising : Rising (IsBefore parts) (schemas_in level)

pub record IsStore (parts : SigParts) (spreads : List Tree) (store : Store) : Type 0 where
  pub stock : IsStock parts spreads store.shelf store.weight
  pub level_is : IsLevel parts spreads store.weight store.level
  pub sorted : Each (λ c. (sort : SortId) × (sort_of parts c ≡ Some sort)) spreads
  pub light : Each (λ c. weight parts c ≤ store.weight) spreads
  pub weighs : 1 ≤ store.weight

-- a variable is met at weight 1
abbrev pub IsFitting : Store → Candidate → Type 0
IsFitting store (candidate.Var sort) = store.weight ≡ 1
IsFitting store (candidate.App f walk) = Unit {0}

-- a spread schema that stands on a shelf, or in the store
pub record IsShelved (shelf : Shelf) (e : Spread) : Type 0 where
  pub own : ℕ
  pub sort : SortId
  pub at : In e (bucket shelf own sort)

abbrev pub IsItem : Store → Spread → Type 0
IsItem store e = In e store.level ⊎ IsShelved store.shelf e

-- nothing else is in the second store
abbrev pub HasNoOther : Store → Store → Type 0
HasNoOther store more = (e : Spread) → IsItem more e → IsItem store e

-- a considered schema that stands after the spread ones
pub record IsClosed (parts : SigParts) (spreads : List Tree) (c : Tree) : Type 0 where
  pub considered : IsConsidered parts spreads c
  pub after : Each (λ d. IsBefore parts d c) spreads

-- what is found once a schema is in the store, after which it came
abbrev pub Closes : SigParts → Store → Candidate → Tree → Store → Option Candidate → Type 0
Closes parts store last c more next = (spreads : List Tree) → IsStore parts spreads store → IsCandidate parts store.shelf store.weight last c → IsFitting store last → IsClosed parts spreads c
    → IsStore parts (spreads ++ c ∷ []) more × NextOf parts more.shelf more.weight (IsConsidered parts (spreads ++ c ∷ [])) c next
