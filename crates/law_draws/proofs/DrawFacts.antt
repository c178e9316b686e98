-- The constructor that a word chooses, and what its value is.
use Rattle.std.proofs.Common.{◌≡◌, ℕ, zero, suc, ◌-◌, ◌%◌, ◌<◌, ◌≤◌, Bool, true, false, cond, Some, option_map, List, [], ◌∷◌, length, slice_index_or, sym, refl, ap, ap₂, ◌∙◌, subst, arith}
use Rattle.std.proofs.Math.Nat.{mod-lt}
use Rattle.std.specs.List.{list_all, filter}
use Rattle.rand_pcg.specs.Lcg.{Lcg}
use Rattle.rand_pcg.specs.Pcg.{pcg32}
use Rattle.law_sig.specs.Lists.{Each}
use Rattle.law_sig.specs.Signature.{symbol_at, args_of, constructors}
use Rattle.law_sig.specs.WellFormed.{is_within_height, IsWellFormed}
use Rattle.law_sig.specs.declared.tree.SortId.{SortId}
use Rattle.law_sig.specs.declared.tree.SymId.{SymId}
use Rattle.law_sig.specs.declared.tree.Tree.{Tree}
use Rattle.law_sig.specs.declared.tree.Tree.TheVariants.{App}
use Rattle.law_sig.specs.declared.parts.Sym.{Sym}
use Rattle.law_sig.specs.declared.parts.SigParts.{SigParts}
use Rattle.law_laws.proofs.Sorts.{both_true}
use Rattle.law_draws.specs.Draws.{sorts_in, fits_over, choices, no_symbol, chosen, Drawn, in_turn, value_drawn}
use Rattle.law_draws.specs.Choices.{is_some_choice}
use Rattle.law_draws.proofs.ChoiceFacts.{IsMaker, makers, some_choice, sorts_are, sorts_declared, there_within}

record IsOpen (parts : SigParts) (n : ℕ) (f : SymId) : Type 0 where
  pub symbol : Sym
  pub there : symbol_at parts f ≡ Some symbol
  pub fits : fits_over parts n f ≡ true

each_open : (parts : SigParts) (n : ℕ) (sort : SortId) (fs : List SymId) → Each (IsMaker parts.symbols sort) fs → Each (IsOpen parts n) (filter (fits_over parts n) fs)
each_open parts n sort [] have = tt
each_open parts n sort (f ∷ fs) have = by (fits_over parts n f) refl (each_open parts n sort fs have.1)
  where
    by : (b : Bool) → fits_over parts n f ≡ b → Each (IsOpen parts n) (filter (fits_over parts n) fs) → Each (IsOpen parts n) (cond b (f ∷ filter (fits_over parts n) fs) (filter (fits_over parts n) fs))
    by true e others = (record { symbol = have.0.symbol; there = have.0.there; fits = e }, others)
    by false e others = others

pub each_index : {A : Type 0} (P : A → Type 0) (xs : List A) (at : ℕ) (d : A) → Each P xs → at < length xs → P (slice_index_or xs at d)
each_index P [] at d have h = absurd (omega arith)
each_index P (x ∷ xs) zero d have h = have.0
each_index P (x ∷ xs) (suc n) d have h = each_index P xs n d have.1 (omega arith)

some_length : (fs : List SymId) → is_some_choice fs ≡ true → 0 < length fs
some_length [] e = cc
some_length (f ∷ fs) e = omega arith

pub some_within : (parts : SigParts) (height : ℕ) (sort : SortId) (among : List SymId) → is_within_height parts height sort ≡ true → among ≡ choices parts height sort → 0 < length among
some_within parts height sort among within is = some_length among (ap is_some_choice is ∙ some_choice parts height sort ∙ within)

pub word_within : (parts : SigParts) (height : ℕ) (sort : SortId) (among : List SymId) (word : ℕ) → is_within_height parts height sort ≡ true → among ≡ choices parts height sort
    → word % length among < length among
word_within parts height sort among word within is = mod-lt word (some_within parts height sort among within is)

pub above_zero : (parts : SigParts) (height : ℕ) (sort : SortId) → is_within_height parts height sort ≡ true → 1 ≤ height
unfolding is_within_height
above_zero parts zero sort e = cc
above_zero parts (suc n) sort e = omega arith

chosen_open : (parts : SigParts) (n : ℕ) (sort : SortId) (word : ℕ) → is_within_height parts (suc n) sort ≡ true → IsOpen parts n (chosen (choices parts (suc n) sort) word)
chosen_open parts n sort word within = each_index (IsOpen parts n) (choices parts (suc n) sort) (word % length (choices parts (suc n) sort)) no_symbol
    (each_open parts n sort (constructors parts sort) (makers parts sort))
    (word_within parts (suc n) sort (choices parts (suc n) sort) word within refl)

at_height : (parts : SigParts) (height n : ℕ) (sort : SortId) (among : List SymId) (word : ℕ) → height ≡ suc n → is_within_height parts height sort ≡ true → among ≡ choices parts height sort
    → IsOpen parts n (chosen among word)
at_height parts height n sort among word e within is =
    subst (λ fs. IsOpen parts n (chosen fs word)) (ap (λ h. choices parts h sort) (sym e) ∙ sym is) (chosen_open parts n sort word (ap (λ h. is_within_height parts h sort) (sym e) ∙ within))

less_one : (height : ℕ) → 1 ≤ height → height ≡ suc (height - 1)
less_one height h = omega arith

pub chosen_within : (parts : SigParts) (height : ℕ) (sort : SortId) (among : List SymId) (word : ℕ) → is_within_height parts height sort ≡ true → among ≡ choices parts height sort
    → (chosen among word).0 < length parts.symbols
chosen_within parts height sort among word within is =
    let open_one = at_height parts height (height - 1) sort among word (less_one height (above_zero parts height sort within)) within is in
    there_within parts.symbols (chosen among word).0 open_one.symbol open_one.there

each_true : (P : SortId → Bool) (ss : List SortId) → list_all P ss ≡ true → Each (λ s. P s ≡ true) ss
each_true P [] e = tt
each_true P (s ∷ ss) e = let both = both_true (P s) (list_all P ss) e in (both.0, each_true P ss both.1)

drawn_by : (parts : SigParts) (n height : ℕ) (sort : SortId) (g : Lcg) → height ≡ suc n → value_drawn parts height sort g ≡ value_drawn parts (suc n) sort g
drawn_by parts n height sort g e = ap (λ h. value_drawn parts h sort g) e

pub record IsDrawing (parts : SigParts) (height : ℕ) (sort : SortId) (g : Lcg) (f : SymId) (sorts : List SortId) (after : Lcg) : Type 0 where
  pub made : (value_drawn parts height sort g).made ≡ App f (in_turn (value_drawn parts (height - 1)) sorts after).made
  pub left : (value_drawn parts height sort g).after ≡ (in_turn (value_drawn parts (height - 1)) sorts after).after
  pub positive : 1 ≤ height
  pub declared : Each (λ (s : SortId). s.0 < length parts.sort_names) sorts
  pub within : Each (λ s. is_within_height parts (height - 1) s ≡ true) sorts
  pub few : length sorts ≤ 8

pub drawing : (parts : SigParts) (height : ℕ) (sort : SortId) (g after : Lcg) (among : List SymId) (word : ℕ) (sorts : List SortId)
    → IsWellFormed parts → is_within_height parts height sort ≡ true → among ≡ choices parts height sort → word ≡ (pcg32 g).0 → after ≡ (pcg32 g).1
    → option_map args_of (symbol_at parts (chosen among word)) ≡ Some sorts → IsDrawing parts height sort g (chosen among word) sorts after
drawing parts height sort g after among word sorts well within is is_word is_after is_sorts =
    let n = height - 1 in
    let positive = above_zero parts height sort within in
    let e : height ≡ suc n = less_one height positive in
    let f = chosen among word in
    let same : chosen (choices parts (suc n) sort) (pcg32 g).0 ≡ f = ap₂ chosen (ap (λ h. choices parts h sort) (sym e) ∙ sym is) (sym is_word) in
    let args : sorts_in (symbol_at parts f) ≡ sorts = sorts_are (symbol_at parts f) sorts is_sorts in
    let fields : in_turn (value_drawn parts n) (sorts_in (symbol_at parts (chosen (choices parts (suc n) sort) (pcg32 g).0))) (pcg32 g).1 ≡ in_turn (value_drawn parts n) sorts after =
    ap₂ (in_turn (value_drawn parts n)) (ap (λ h. sorts_in (symbol_at parts h)) same ∙ args) (sym is_after) in
    let known = sorts_declared parts well f sorts is_sorts in
    record {
      made = ap (λ (d : Drawn Tree). d.made) (drawn_by parts n height sort g e) ∙ ap₂ (λ (h : SymId) (d : Drawn (List Tree)). App h d.made) same fields;
      left = ap (λ (d : Drawn Tree). d.after) (drawn_by parts n height sort g e) ∙ ap (λ (d : Drawn (List Tree)). d.after) fields;
      positive = positive;
      declared = known.0;
      within = each_true (is_within_height parts n) sorts (ap (list_all (is_within_height parts n)) (sym args) ∙ (at_height parts height n sort among word e within is).fits);
      few = known.1;
    }

pub in_turn_length : {S Y : Type 0} (draw : S → Lcg → Drawn Y) (ss : List S) (g : Lcg) → length (in_turn draw ss g).made ≡ length ss
in_turn_length draw [] g = refl
in_turn_length draw (s ∷ ss) g = ap suc (in_turn_length draw ss (draw s g).after)
