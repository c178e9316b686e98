-- Values of a sort, sorts of a pool, and pools.
use Rattle.std.proofs.Common.{◌≡◌, ℕ, suc, ◌+◌, ◌<◌, ◌≤◌, List, [], ◌∷◌, ◌++◌, length, take, slice_get, slice_index_or, sym, refl, ap, ◌∙◌, subst, arith, ltb-true}
use Rattle.law_sig.specs.Lists.{Each, In}
use Rattle.law_sig.specs.Trees.{node_count}
use Rattle.law_sig.specs.Signature.{width_at}
use Rattle.law_sig.specs.Tests.{Pools}
use Rattle.law_sig.specs.WellFormed.{IsDeclared, IsWellFormed}
use Rattle.law_sig.specs.declared.tree.SortId.{SortId}
use Rattle.law_sig.specs.declared.tree.Tree.{Tree}
use Rattle.law_sig.specs.declared.parts.Settings.{Settings}
use Rattle.law_sig.specs.declared.parts.SigParts.{SigParts}
use Rattle.law_draws.specs.Sizes.{AreSmall, HasLarge, IsFirstIn, IsFirst}
use Rattle.law_gen.specs.Made.{WhereLarge, WhereTooLarge}
use Rattle.law_gen.specs.declared.error.GenErr.{GenErr}
use Rattle.law_gen.specs.declared.error.GenErr.TheVariants as err
use Rattle.law_gen.specs.declared.error.Stop.{Stop}
use Rattle.law_gen.specs.declared.error.Stop.TheVariants as stop
use Rattle.law_draws.proofs.ChoiceFacts.{at_place}
use Rattle.law_gen.proofs.Turns.{in_middle, get_middle, take_front}

-- the width of a sort, as the settings have it
pub width_is : (parts : SigParts) (sort : SortId) (s : Settings) (widths : List ℕ) → IsWellFormed parts → IsDeclared parts sort → s ≡ parts.settings → widths ≡ s.width
    → slice_index_or widths sort.0 0 ≡ width_at parts sort
width_is parts sort s widths well declared is is_widths =
    ap (λ l. slice_index_or l sort.0 0) (is_widths ∙ ap (λ (t : Settings). t.width) is)
    ∙ at_place parts.settings.width sort.0 0 1 (subst (λ n. sort.0 < n) (sym well.settings.width.one_each) (ltb-true sort.0 (length parts.sort_names) declared))

-- a value that is too large, among those drawn
pub large_among : (values done others : List Tree) (v : Tree) → values ≡ done ++ v ∷ others → 4096 < node_count v → HasLarge values
large_among values done others v is large = (v, subst (In v) (sym is) (in_middle done others v), large)

pub small_by : (room left : ℕ) (v w : Tree) → v ≡ w → room ≡ node_count w + left → room ≡ 4096 → node_count v ≤ 4096
small_by room left v w is taken is_room = omega (arith, ap node_count is)

pub large_at : (P : Type 0) (e : Stop) → e ≡ stop.TooLarge → WhereLarge P e → P
large_at P e is h = subst (WhereLarge P) is h

-- the first sort with such a value
pub first_in : (sorts done others : List (List Tree)) (values : List Tree) (sort : SortId) → sorts ≡ done ++ values ∷ others → length done ≡ sort.0 → HasLarge values → Each AreSmall done
    → IsFirstIn sorts sort
first_in sorts done others values sort is count large small = record {
  values = values;
  there = ap (λ l. slice_get l sort.0) is ∙ ap (λ n. slice_get (done ++ values ∷ others) n) (sym count) ∙ get_middle done others values;
  large = large;
  before = subst (Each AreSmall) (sym (ap (take sort.0) is ∙ ap (λ n. take n (done ++ values ∷ others)) (sym count) ∙ take_front done (values ∷ others))) small;
}

-- the first pool
pub first_of_all : (pools done others : Pools) (sorts : List (List Tree)) (pool : ℕ) (sort : SortId) → pools ≡ done ++ sorts ∷ others → length done ≡ pool → IsFirstIn sorts sort
    → Each (Each AreSmall) done → IsFirst pools pool sort
first_of_all pools done others sorts pool sort is count first small = record {
  sorts = sorts;
  there = ap (λ l. slice_get l pool) is ∙ ap (λ n. slice_get (done ++ sorts ∷ others) n) (sym count) ∙ get_middle done others sorts;
  first = first;
  before = subst (Each (Each AreSmall)) (sym (ap (take pool) is ∙ ap (λ n. take n (done ++ sorts ∷ others)) (sym count) ∙ take_front done (sorts ∷ others))) small;
}

pub length_more : {A : Type 0} (xs more : List A) (x : A) (n : ℕ) → more ≡ xs ++ x ∷ [] → length xs ≡ n → length more ≡ n + 1
length_more {A} xs more x n is count = ap length is ∙ one_more xs ∙ ap (λ m. m + 1) count
  where
    one_more : (ys : List A) → length (ys ++ x ∷ []) ≡ length ys + 1
    one_more [] = refl
    one_more (y ∷ ys) = ap suc (one_more ys) ∙ later (length ys)
      where
        later : (n : ℕ) → suc (n + 1) ≡ suc n + 1
        later n = omega arith

pub too_large_on : (P Q : ℕ → SortId → Type 0) → ((p : ℕ) (s : SortId) → P p s → Q p s) → (e : GenErr) → WhereTooLarge P e → WhereTooLarge Q e
too_large_on P Q f (err.ValueTooLarge pool sort) h = f pool sort h
too_large_on P Q f err.NoMemory h = tt
