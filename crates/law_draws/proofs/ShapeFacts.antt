-- The shape of what is drawn.
use Rattle.std.proofs.Common.{◌≡◌, ℕ, zero, suc, List, [], ◌∷◌, map, length, slice_index_or, refl, ap, ap₂, ◌∙◌}
use Rattle.rand_pcg.specs.Lcg.{Lcg}
use Rattle.law_sig.specs.Lists.{Each}
use Rattle.law_sig.specs.Signature.{width_at}
use Rattle.law_sig.specs.Tests.{first_of}
use Rattle.law_sig.specs.WellFormed.{IsWellFormed}
use Rattle.law_sig.specs.declared.tree.SortId.{SortId}
use Rattle.law_sig.specs.declared.parts.SigParts.{SigParts}
use Rattle.law_draws.specs.Draws.{Drawn, in_turn, value_drawn, values_drawn, sorts_of, pool_drawn, pools_drawn}
use Rattle.law_draws.proofs.First.{length_first}
use Rattle.law_draws.proofs.DrawFacts.{in_turn_length}

each_drawn : {S Y : Type 0} (P : Y → Type 0) (draw : S → Lcg → Drawn Y) → ((s : S) (g : Lcg) → P (draw s g).made) → (ss : List S) (g : Lcg) → Each P (in_turn draw ss g).made
each_drawn P draw have [] g = tt
each_drawn P draw have (s ∷ ss) g = (have s g, each_drawn P draw have ss (draw s g).after)

lengths_drawn : (parts : SigParts) (height : ℕ) (ss : List SortId) (g : Lcg) → map length (in_turn (values_drawn parts height) ss g).made ≡ map (width_at parts) ss
lengths_drawn parts height [] g = refl
lengths_drawn parts height (s ∷ ss) g =
    ap₂ ◌∷◌ (in_turn_length (value_drawn parts height) (first_of (width_at parts s) (λ place. s)) g ∙ length_first (width_at parts s) (λ place. s))
    (lengths_drawn parts height ss (values_drawn parts height s g).after)

all_places : (ws : List ℕ) (n : ℕ) → length ws ≡ n → map (λ (s : SortId). slice_index_or ws s.0 1) (first_of n (λ i. record { 0 = i })) ≡ ws
all_places [] zero e = refl
all_places [] (suc n) e = cc
all_places (w ∷ ws) zero e = cc
all_places (w ∷ ws) (suc n) e = ap (λ l. w ∷ l) (shifted n (λ i. record { 0 = suc i }) (λ i. record { 0 = i }) (λ i. refl) ∙ all_places ws n (let k : length ws ≡ n = cc in k))
  where
    shifted : (m : ℕ) (f g : ℕ → SortId) → ((i : ℕ) → slice_index_or (w ∷ ws) (f i).0 1 ≡ slice_index_or ws (g i).0 1)
        → map (λ (s : SortId). slice_index_or (w ∷ ws) s.0 1) (first_of m f) ≡ map (λ (s : SortId). slice_index_or ws s.0 1) (first_of m g)
    shifted zero f g same = refl
    shifted (suc m) f g same = ap₂ ◌∷◌ (same 0) (shifted m (λ i. f (suc i)) (λ i. g (suc i)) (λ i. same (suc i)))

pub pool_shape : (parts : SigParts) → IsWellFormed parts → (height : ℕ) (g : Lcg) → map length (pool_drawn parts height g).made ≡ parts.settings.width
pool_shape parts well height g = lengths_drawn parts height (sorts_of parts) g ∙ all_places parts.settings.width (length parts.sort_names) well.settings.width.one_each

pub pools_shape : (parts : SigParts) → IsWellFormed parts → (height count : ℕ) (g : Lcg) → Each (λ pool. map length pool ≡ parts.settings.width) (pools_drawn parts height count g).made
pools_shape parts well height count g =
    each_drawn (λ pool. map length pool ≡ parts.settings.width) (λ (number : ℕ). pool_drawn parts height) (λ number h. pool_shape parts well height h) (first_of count (λ number. number)) g

pub pools_count : (parts : SigParts) (height count : ℕ) (g : Lcg) → length (pools_drawn parts height count g).made ≡ count
pools_count parts height count g =
    in_turn_length (λ (number : ℕ). pool_drawn parts height) (first_of count (λ number. number)) g ∙ length_first count (λ number. number)
