-- How a `Seq` stores its items, for the types that hold themselves through one. A list of `T` is seen as its own
-- shape; the fields keep it in a `Vec`, whose places are those of std.
use mathlib.Core.Path.{◌≡◌, refl, sym}
use mathlib.Core.List.{List, []}
use mathlib.Core.Former.{Former, this, list, via, children}
use base.Stored.{code_map}
use denote.RattleType.{RattleType}
use denote.HoleLaws.{Alike}
use denote.HolePlaces.{Recodes, struct_places, laid}
use denote.Hole.Carrier.{listed, list-listed}
use denote.Hole.Fix.{over}
use denote.Param.Weighed.{Weighed, w_list}
use denote.Model.Placed.{view_places}
use Rattle.std.specs.formers.vec.Vec as stored
use Rattle.std.specs.declared.alloc.Global.{Global}
use Rattle.std.specs.contracts.alloc.Global as global
use Rattle.std.specs.contracts.impls.GlobalAllocator.TheImpl.{ghosts}
use Rattle.law_sig.specs.declared.seq.Seq.TheInside.{Inside}
use Rattle.law_sig.specs.declared.seq.Seq.TheView.{view, invariant}
use Rattle.law_sig.specs.contracts.seq.Seq as seen
use Rattle.law_sig.specs.contracts.seq.Seq.TheInside as inner

-- a list of what `g` makes
abbrev pub the_former : Former {0} → Former {0}
the_former g = list g

-- the largest measure among the items
abbrev pub the_weighed : {g : Former {0}} → Weighed g → Weighed (the_former g)
the_weighed w = w_list w

-- a list may have no item
pub the_empty : List ⊥
the_empty = []

-- the items, in order
abbrev pub the_items : (X : Type 0) → List X → List X
the_items X items = items

pub the_items_listed : (X : Type 0) (items : List X) → listed _ (children (the_former this) X items) ≡ the_items X items
the_items_listed X items = list-listed X items

-- the one field, a `Vec` of what stands in the list
abbrev by_field : Former {0}
by_field = via (stored.the_former this Global) Inside (λ X seq. seq.items) (λ X vec. record { items = vec }) (λ X seq. refl) (λ X vec. refl)

module _ (R S : RattleType) (h : R.Denot → S.Denot) where
  pub the_places : Alike R S h → Alike (seen.the_row R) (seen.the_row S) ((the_former this).map R.Denot S.Denot h)
  the_places alike = view_places by_field (list this) view (λ X Y k u. refl) (λ X u. refl) R.Denot S.Denot h (seen.the_row R).coded (seen.the_row S).coded
      (invariant R.Denot) (invariant S.Denot) (λ u p q. refl) (λ u p q. refl) (λ u e. tt) (λ u e. tt)
      (over (inner.the_row R)) (over (inner.the_row S))
      (struct_places (inner.the_type R) (inner.the_type S) (stored.mapped h, tt) _ (λ d. refl) refl (laid _ _ _ (stored.the_places global.the_row ghosts R S h alike), tt))

  pub the_codes_placed : Recodes R S h → Recodes (seen.the_row R) (seen.the_row S) ((the_former this).map R.Denot S.Denot h)
  the_codes_placed same items = sym (code_map R.coded.code S.coded.code h (λ x. sym (same x)) items)
