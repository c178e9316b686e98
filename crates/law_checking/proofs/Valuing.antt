-- The items of a split, one after another.
use Rattle.std.proofs.Common.{◌≡◌, ℕ, ◌+◌, ◌<◌, Option, Some, None, List, [], ◌∷◌, ◌++◌, length, take, drop, slice_index_or, option_and_then, sym, refl, ap, ◌∙◌, subst}
use Rattle.law_sig.specs.Lists.{Each, numbered}
use Rattle.law_sig.specs.Trees.{joined}
use Rattle.law_sig.specs.declared.tree.Tree.{Tree}
use Rattle.law_sig.specs.declared.parts.SigParts.{SigParts}
use Rattle.law_ids.specs.declared.ids.ValueId.{ValueId}
use Rattle.law_ids.specs.Values.{Grows, tree_of}
use Rattle.law_ids.proofs.Reading.{id_keeps}
use Rattle.law_draws.specs.Draws.{pools_by}
use Rattle.law_valid.specs.declared.rule.Answer.{Answer}
use Rattle.law_valid.specs.declared.rule.Answer.TheVariants.{No, Over}
use Rattle.law_valid.specs.declared.rule.Rule.{Rule}
use Rattle.law_valid.specs.Trees.{value_of}
use Rattle.law_valid.specs.Judged.{Valued, ItemValued, ItemsValued}
use Rattle.law_testing.specs.Values.{IsValue, val_by, Both}
use Rattle.law_testing.proofs.BothFacts.{both_more, both_map}
use Rattle.law_checking.specs.Splitting.{Nothing, IsNumberValue}
use Rattle.law_checking.proofs.Onces.{take_next, parted_at}

module _ (parts : SigParts) (rule : Rule) (entry : ℕ) (terms : List Tree) (test : ℕ) where
  abbrev pub Item : Option Tree → (Answer → Type 0) → Answer → Type 0
  Item = ItemValued parts (pools_by parts) rule entry test

  abbrev pub Items : List ℕ → (Answer → Type 0) → Answer → Type 0
  Items = ItemsValued parts (pools_by parts) rule entry terms test

  -- One item

  pub no_item : (number : ℕ) (o : Option Tree) → o ≡ numbered terms number → o ≡ None → Item (numbered terms number) Nothing (No rule entry)
  no_item number o is none = subst (λ k. Item k Nothing (No rule entry)) (sym none ∙ is) refl

  pub item_over : (number : ℕ) (t s : Tree) (o : Option Tree) → o ≡ numbered terms number → o ≡ Some t → val_by parts test t ≡ None → s ≡ t
      → Item (numbered terms number) Nothing (Over entry test s)
  item_over number t s o is there none same =
      subst (λ k. Item k Nothing (Over entry test s)) (sym there ∙ is)
      (subst (λ v. Valued v (Over entry test t) (λ w. Nothing) (Over entry test s)) (sym none) (ap (Over entry test) same))

  pub item_value : (bank : List Tree) (number : ℕ) (t : Tree) (v : ValueId) (o : Option Tree) → o ≡ numbered terms number → o ≡ Some t → IsValue parts bank test t v
      → IsNumberValue parts bank terms test number v
  item_value bank number t v o is there value = record { held = value.held; is = ap (option_and_then (val_by parts test)) (sym is ∙ there) ∙ value.is }

  valued_map : (rest more : Answer → Type 0) (a : Answer) (t : Tree) (v : Option Tree) → (rest a → more a)
      → Valued v (Over entry test t) (λ w. rest) a → Valued v (Over entry test t) (λ w. more) a
  valued_map rest more a t None f h = h
  valued_map rest more a t (Some v) f h = f h

  item_map : (rest more : Answer → Type 0) (a : Answer) (o : Option Tree) → (rest a → more a) → Item o rest a → Item o more a
  item_map rest more a None f h = h
  item_map rest more a (Some t) f h = valued_map rest more a t (val_by parts test t) f h

  item_passes : (rest : Answer → Type 0) (a : Answer) (v : Tree) (o : Option Tree) → option_and_then (val_by parts test) o ≡ Some v → rest a → Item o rest a
  item_passes rest a v None e h = absurd (let f : ⊥ = cc in f)
  item_passes rest a v (Some t) e h = subst (λ w. Valued w (Over entry test t) (λ u. rest) a) (sym e) h

  -- Items

  pub items_more : (rest : Answer → Type 0) (a : Answer) (xs ys : List ℕ) → Items xs Nothing a → Items (xs ++ ys) rest a
  items_more rest a [] ys h = absurd h
  items_more rest a (x ∷ xs) ys h = item_map (Items xs Nothing) (Items (xs ++ ys) rest) a (numbered terms x) (items_more rest a xs ys) h

  abbrev pub HasNumber : ℕ → Type 0
  HasNumber n = (v : Tree) × (value_of parts (pools_by parts) terms test n ≡ Some v)

  pub items_pass : (rest : Answer → Type 0) (a : Answer) (xs ys : List ℕ) → Each HasNumber xs → Items ys rest a → Items (xs ++ ys) rest a
  items_pass rest a [] ys have h = h
  items_pass rest a (x ∷ xs) ys have h = item_passes (Items (xs ++ ys) rest) a have.0.0 (numbered terms x) have.0.1 (items_pass rest a xs ys have.1 h)

  -- Values in a bank that grows

  abbrev pub Have : List Tree → ℕ → ValueId → Type 0
  Have bank = IsNumberValue parts bank terms test

  have_stays : (old new : List Tree) → Grows old new → (n : ℕ) (v : ValueId) → Have old n v → Have new n v
  have_stays old new grows n v is = let kept = id_keeps old new grows v is.held in record { held = kept.0; is = is.is ∙ ap Some (sym kept.1) }

  pub all_have : (bank : List Tree) (ns : List ℕ) (vs : List ValueId) → Both (Have bank) ns vs → Each HasNumber ns
  all_have bank [] [] both = tt
  all_have bank [] (v ∷ vs) both = absurd both
  all_have bank (n ∷ ns) [] both = absurd both
  all_have bank (n ∷ ns) (v ∷ vs) both = ((tree_of bank v, both.0.is), all_have bank ns vs both.1)

  pub all_kids_have : (bank : List Tree) (kids : List (List ℕ)) (vss : List (List ValueId)) → Both (Both (Have bank)) kids vss → Each HasNumber (joined kids)
  all_kids_have bank [] [] both = tt
  all_kids_have bank [] (vs ∷ vss) both = absurd both
  all_kids_have bank (ns ∷ kids) [] both = absurd both
  all_kids_have bank (ns ∷ kids) (vs ∷ vss) both = join ns (all_have bank ns vs both.0) (all_kids_have bank kids vss both.1)
    where
      join : (xs : List ℕ) → Each HasNumber xs → Each HasNumber (joined kids) → Each HasNumber (xs ++ joined kids)
      join [] h k = k
      join (x ∷ xs) h k = (h.0, join xs h.1 k)

  both_next : {A B : Type 0} (old new : A → B → Type 0) → ((x : A) (y : B) → old x y → new x y) → (xs : List A) (at : ℕ) (x : A) (ys more : List B) (y : B) → at < length xs
      → x ≡ slice_index_or xs at x → Both old (take at xs) ys → new x y → more ≡ ys ++ y ∷ [] → Both new (take (at + 1) xs) more
  both_next old new stays xs at x ys more y less is so_far own grows =
      subst (Both new (take (at + 1) xs)) (sym grows) (subst (λ l. Both new l (ys ++ y ∷ [])) (sym (take_next xs at x less is))
      (both_more new (take at xs) ys x y (both_map old new stays (take at xs) ys so_far) own))

  pub numbers_next : (old new : List Tree) → Grows old new → (numbers : List ℕ) (at n : ℕ) (vs more : List ValueId) (v : ValueId) → at < length numbers
      → n ≡ slice_index_or numbers at n → Both (Have old) (take at numbers) vs → Have new n v → more ≡ vs ++ v ∷ [] → Both (Have new) (take (at + 1) numbers) more
  numbers_next old new grows = both_next (Have old) (Have new) (have_stays old new grows)

  pub kids_next : (old new : List Tree) → Grows old new → (kids : List (List ℕ)) (at : ℕ) (ns : List ℕ) (vss more : List (List ValueId)) (vs : List ValueId) → at < length kids
      → ns ≡ slice_index_or kids at ns → Both (Both (Have old)) (take at kids) vss → Both (Have new) ns vs → more ≡ vss ++ vs ∷ []
      → Both (Both (Have new)) (take (at + 1) kids) more
  kids_next old new grows = both_next (Both (Have old)) (Both (Have new)) (both_map (Have old) (Have new) (have_stays old new grows))

  -- The first fault

  pub number_fails : (bank : List Tree) (numbers : List ℕ) (at n : ℕ) (vs : List ValueId) (a : Answer) → at < length numbers → n ≡ slice_index_or numbers at n
      → Both (Have bank) (take at numbers) vs → Item (numbered terms n) Nothing a → Items numbers Nothing a
  number_fails bank numbers at n vs a less is so_far fault =
      subst (λ l. Items l Nothing a) (sym (parted_at numbers at n less is))
      (items_pass Nothing a (take at numbers) (n ∷ drop (at + 1) numbers) (all_have bank (take at numbers) vs so_far)
      (item_map Nothing (Items (drop (at + 1) numbers) Nothing) a (numbered terms n) (λ none. absurd none) fault))

  joined_at : (kids : List (List ℕ)) (at : ℕ) (ns : List ℕ) → at < length kids → ns ≡ slice_index_or kids at ns
      → joined kids ≡ joined (take at kids) ++ (ns ++ joined (drop (at + 1) kids))
  joined_at kids at ns less is = ap joined (parted_at kids at ns less is) ∙ split (take at kids)
    where
      split : (xs : List (List ℕ)) → joined (xs ++ ns ∷ drop (at + 1) kids) ≡ joined xs ++ (ns ++ joined (drop (at + 1) kids))
      split [] = refl
      split (x ∷ xs) = ap (λ l. x ++ l) (split xs) ∙ sym (assoc x (joined xs) (ns ++ joined (drop (at + 1) kids)))
        where
          assoc : (a c d : List ℕ) → (a ++ c) ++ d ≡ a ++ (c ++ d)
          assoc [] c d = refl
          assoc (y ∷ a) c d = ap (λ l. y ∷ l) (assoc a c d)

  pub kid_fails : (bank : List Tree) (kids : List (List ℕ)) (at : ℕ) (ns : List ℕ) (vss : List (List ValueId)) (a : Answer) → at < length kids → ns ≡ slice_index_or kids at ns
      → Both (Both (Have bank)) (take at kids) vss → Items ns Nothing a → Items (joined kids) Nothing a
  kid_fails bank kids at ns vss a less is so_far fault =
      subst (λ l. Items l Nothing a) (sym (joined_at kids at ns less is))
      (items_pass Nothing a (joined (take at kids)) (ns ++ joined (drop (at + 1) kids)) (all_kids_have bank (take at kids) vss so_far)
      (items_more Nothing a ns (joined (drop (at + 1) kids)) fault))
