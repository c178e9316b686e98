-- Decisions that are whole: their terms stand in the order of exploring, and each is an instance of a spread schema.
use Rattle.std.proofs.Common.{◌≡◌, ◌⊎◌, inl, inr, List, [], ◌∷◌, ◌++◌, sym, refl, ap, ◌∙◌, subst, subst₂}
use Rattle.law_sig.specs.Lists.{In, Each, Rising}
use Rattle.law_sig.specs.Lists.In.{here, there}
use Rattle.law_sig.specs.Order.{IsBefore}
use Rattle.law_sig.specs.Schemas.{AreExactly, IsInstance}
use Rattle.law_sig.specs.declared.tree.Tree.{Tree}
use Rattle.law_sig.specs.declared.parts.SigParts.{SigParts}
use Rattle.law_laws.proofs.ListFacts.{each_of, of_each, each_map, in_none, in_left, in_rest, each_both, rising_both}
use Rattle.law_laws.proofs.Orders.{schema_before}
use Rattle.law_valid.specs.Stated.{stated}
use Rattle.law_valid.specs.Order.{Decision, spread, killed, live, moved, spread_in, schema_in, live_in, terms_first, HaveInstances, AreWhole}

-- the terms, live or moved
abbrev pub term_in : Decision → List Tree
term_in (spread c) = []
term_in (killed c) = []
term_in (live t) = t ∷ []
term_in (moved t) = t ∷ []

-- those from the next schema on
abbrev pub from_schema : List Decision → List Decision
from_schema [] = []
from_schema (spread c ∷ ds) = spread c ∷ ds
from_schema (killed c ∷ ds) = killed c ∷ ds
from_schema (live t ∷ ds) = from_schema ds
from_schema (moved t ∷ ds) = from_schema ds

terms_parts : (ds : List Decision) → stated term_in ds ≡ terms_first ds ++ stated term_in (from_schema ds)
terms_parts [] = refl
terms_parts (spread c ∷ ds) = refl
terms_parts (killed c ∷ ds) = refl
terms_parts (live t ∷ ds) = ap (λ l. t ∷ l) (terms_parts ds)
terms_parts (moved t ∷ ds) = ap (λ l. t ∷ l) (terms_parts ds)

-- spread schemas are schemas, terms up to the next schema are terms, and so are live ones
in_first : {A : Type 0} {x y : A} {xs ys : List A} → (In x xs → In x ys) → (x ≡ y) ⊎ In x xs → In x (y ∷ ys)
in_first {x = x} {ys = ys} later (inl same) = subst (λ z. In x (z ∷ ys)) same here
in_first later (inr h) = there (later h)

pub spread_among : (c : Tree) (ds : List Decision) → In c (stated spread_in ds) → In c (stated schema_in ds)
spread_among c [] at = in_none at
spread_among c (spread d ∷ ds) at = in_first (spread_among c ds) (in_rest at)
spread_among c (killed d ∷ ds) at = there (spread_among c ds at)
spread_among c (live t ∷ ds) at = spread_among c ds at
spread_among c (moved t ∷ ds) at = spread_among c ds at

pub first_among : (t : Tree) (ds : List Decision) → In t (terms_first ds) → In t (stated term_in ds)
first_among t ds at = subst (In t) (sym (terms_parts ds)) (in_left (stated term_in (from_schema ds)) at)

pub live_among : (t : Tree) (ds : List Decision) → In t (stated live_in ds) → In t (stated term_in ds)
live_among t [] at = in_none at
live_among t (spread c ∷ ds) at = live_among t ds at
live_among t (killed c ∷ ds) at = live_among t ds at
live_among t (live u ∷ ds) at = in_first (live_among t ds) (in_rest at)
live_among t (moved u ∷ ds) at = there (live_among t ds at)

-- an instance of one of these schemas
abbrev pub IsOfSome : SigParts → List Tree → List Tree → Tree → Type 0
IsOfSome parts lives spreads t = (c : Tree) × In c spreads × IsInstance parts lives c t

-- terms in order, each an instance of one of these schemas
pub record AreOrdered (parts : SigParts) (lives spreads ts : List Tree) : Type 0 where
  pub rising : Rising (IsBefore parts) ts
  pub instances : Each (IsOfSome parts lives spreads) ts

module _ (parts : SigParts) (lives : List Tree) where
  no_more : {A : Type 0} (ts us : List A) → ts ≡ [] → ts ++ us ≡ us
  no_more ts us e = ap (λ l. l ++ us) e

  -- the instances of a schema, and then terms of later ones
  with_block : (c : Tree) (ds : List Decision) (ts us : List Tree) → AreExactly parts (IsInstance parts lives c) ts → Each (IsBefore parts c) (stated schema_in ds)
      → AreOrdered parts lives (stated spread_in ds) us → AreOrdered parts lives (c ∷ stated spread_in ds) (ts ++ us)
  with_block c ds ts us exact later rest = record {
    rising = rising_both (IsBefore parts) ts us exact.rising rest.rising (each_of _ ts (λ s at. each_map _ _ (across s ((exact.members s).0 at)) us rest.instances));
    instances = each_both _ ts us (each_of _ ts (λ s at. (c, here, (exact.members s).0 at))) (each_map _ _ (λ t h. (h.0, there h.1, h.2)) us rest.instances);
  }
    where
      across : (s : Tree) → IsInstance parts lives c s → (t : Tree) → IsOfSome parts lives (stated spread_in ds) t → IsBefore parts s t
      across s s_is t (d, d_in, t_is) = schema_before parts s t (subst₂ (IsBefore parts) (sym s_is.schema) (sym t_is.schema)
          (of_each (IsBefore parts c) (spread_among d ds d_in) later))

  ordered : (ds : List Decision) → HaveInstances parts lives ds → Rising (IsBefore parts) (stated schema_in ds)
      → AreOrdered parts lives (stated spread_in ds) (stated term_in (from_schema ds))
  ordered [] h r = record { rising = tt; instances = tt }
  ordered (spread c ∷ ds) h r = subst (AreOrdered parts lives (c ∷ stated spread_in ds)) (sym (terms_parts ds))
      (with_block c ds (terms_first ds) (stated term_in (from_schema ds)) h.0 r.0 (ordered ds h.1 r.1))
  ordered (killed c ∷ ds) h r = subst (AreOrdered parts lives (stated spread_in ds))
      (sym (terms_parts ds ∙ no_more (terms_first ds) (stated term_in (from_schema ds)) h.0)) (ordered ds h.1 r.1)
  ordered (live t ∷ ds) h r = ordered ds h r
  ordered (moved t ∷ ds) h r = ordered ds h r

pub whole_ordered : (parts : SigParts) (ds : List Decision) → AreWhole parts ds → AreOrdered parts (stated live_in ds) (stated spread_in ds) (stated term_in ds)
whole_ordered parts ds w = subst (AreOrdered parts (stated live_in ds) (stated spread_in ds))
    (sym (terms_parts ds ∙ no_more parts (stated live_in ds) (terms_first ds) (stated term_in (from_schema ds)) w.first)) (ordered parts (stated live_in ds) ds w.instances w.schemas.rising)
