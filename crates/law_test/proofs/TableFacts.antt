-- A table of terms finds each of them by its word.
use Rattle.std.proofs.Common.{◌≡◌, ℕ, zero, suc, ◌⊎◌, inl, inr, Bool, true, false, if◌then◌else◌, List, [], ◌∷◌, ◌++◌, length, Option, Some, None, slice_get, MatchOption, Vec, sym, refl, ap, ◌∙◌, subst}
use Rattle.std.specs.declared.alloc.Global.{Global}
use lib.Pointwise.{bytes_decides}
use Rattle.law_sig.specs.Lists.{In}
use Rattle.law_sig.specs.Lists.In.{here, there}
use Rattle.law_sig.specs.declared.tree.Tree.{Tree}
use Rattle.law_test.specs.Words.{word, same_items, Finds, FindsTerms}
use Rattle.law_test.proofs.WordFacts.{word_same}

-- Finding

abbrev IsFoundAs : List Tree → List ℕ → Option ℕ → Type 0
IsFoundAs terms items o = MatchOption o
    ((k : ℕ) (t : Tree) → slice_get terms k ≡ Some t → items ≡ word t → ⊥)
    (λ k. (t : Tree) × (slice_get terms k ≡ Some t) × (items ≡ word t))

placed : {x : Tree} {xs : List Tree} → In x xs → (k : ℕ) × (slice_get xs k ≡ Some x)
placed here = (0, refl)
placed (there i) = (suc (placed i).0, (placed i).1)

pub found_at : (terms : List Tree) (found : Finds) → FindsTerms terms found → (v : Vec ℕ Global) (t : Tree) → v.items ≡ word t → (o : Option ℕ) → o ≡ found v
    → (k : ℕ) → o ≡ Some k → slice_get terms k ≡ Some t
found_at terms found finds v t spelled o is k e =
    let it = subst (IsFoundAs terms v.items) (sym is ∙ e) (finds v) in
    it.1 ∙ ap Some (word_same it.0 t (sym it.2 ∙ spelled))

pub found_none : (terms : List Tree) (found : Finds) → FindsTerms terms found → (v : Vec ℕ Global) (t : Tree) → v.items ≡ word t → (o : Option ℕ) → o ≡ found v
    → o ≡ None → In t terms → ⊥
found_none terms found finds v t spelled o is e i =
    let none = subst (IsFoundAs terms v.items) (sym is ∙ e) (finds v) in
    none (placed i).0 t (placed i).1 spelled

-- Adding

some_is : {A : Type 0} {x y : A} → Some x ≡ Some y → x ≡ y
some_is e = cc

at_end : (terms : List Tree) (t : Tree) → slice_get (terms ++ t ∷ []) (length terms) ≡ Some t
at_end [] t = refl
at_end (s ∷ terms) t = at_end terms t

kept : (terms : List Tree) (t s : Tree) (k : ℕ) → slice_get terms k ≡ Some s → slice_get (terms ++ t ∷ []) k ≡ Some s
kept [] t s k e = cc
kept (u ∷ terms) t s zero e = e
kept (u ∷ terms) t s (suc k) e = kept terms t s k e

-- what stands in a list with one item more
get_push : (terms : List Tree) (t s : Tree) (k : ℕ) → slice_get (terms ++ t ∷ []) k ≡ Some s → (slice_get terms k ≡ Some s) ⊎ (t ≡ s)
get_push [] t s zero e = inr cc
get_push [] t s (suc k) e = cc
get_push (u ∷ terms) t s zero e = inl e
get_push (u ∷ terms) t s (suc k) e = get_push terms t s k e

stays : (terms : List Tree) (t : Tree) (items : List ℕ) → (items ≡ word t → ⊥) → (o : Option ℕ) → IsFoundAs terms items o → IsFoundAs (terms ++ t ∷ []) items o
stays terms t items other None none = λ k s e spelled. elim (get_push terms t s k e) [
  | inl old ↦ none k s old spelled
  | inr new ↦ other (spelled ∙ ap word (sym new))
]
stays terms t items other (Some k) found = (found.0, kept terms t found.0 k found.1, found.2)

pub pushed : (terms more : List Tree) (old new : Finds) → FindsTerms terms old → (t : Tree) (v : Vec ℕ Global) → v.items ≡ word t → (at : ℕ) → at ≡ length terms
    → ((w : Vec ℕ Global) → new w ≡ (if same_items v w then Some at else old w)) → more ≡ terms ++ t ∷ [] → FindsTerms more new
pushed terms more old new finds t v spelled at long new_is grows w =
    subst (λ ts. IsFoundAs ts w.items (new w)) (sym grows) (of (same_items v w) refl (new_is w))
  where
    of : (b : Bool) → same_items v w ≡ b → new w ≡ (if b then Some at else old w) → IsFoundAs (terms ++ t ∷ []) w.items (new w)
    of true same e =
        let items : v.items ≡ w.items = (bytes_decides v.items w.items).0 same in
        subst (IsFoundAs (terms ++ t ∷ []) w.items) (sym e) (t, ap (slice_get (terms ++ t ∷ [])) long ∙ at_end terms t, sym items ∙ spelled)
    of false other e =
        subst (IsFoundAs (terms ++ t ∷ []) w.items) (sym e)
        (stays terms t w.items (λ is. let same = (bytes_decides v.items w.items).1 (spelled ∙ sym is) in cc) (old w) (finds w))
