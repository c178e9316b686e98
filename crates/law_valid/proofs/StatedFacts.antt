-- Facts about what entries state.
use Rattle.std.proofs.Common.{◌≡◌, ◌<◌, ◌⊎◌, inl, inr, List, [], ◌∷◌, ◌++◌, length, sym, refl, ap, ◌∙◌, subst, arith, append_assoc, append-nil}
use Rattle.law_sig.specs.Lists.{In}
use Rattle.law_laws.proofs.ListFacts.{in_none, in_split}
use Rattle.law_valid.specs.declared.certificate.Entry.{Entry}
use Rattle.law_valid.specs.Stated.{stated}

pub stated_parts : {E A : Type 0} (f : E → List A) (xs ys : List E) → stated f (xs ++ ys) ≡ stated f xs ++ stated f ys
stated_parts f [] ys = refl
stated_parts f (x ∷ xs) ys = ap (λ l. f x ++ l) (stated_parts f xs ys) ∙ sym (append_assoc (f x) (stated f xs) (stated f ys))

-- with one more entry, and with one that states nothing
pub grown : {E A : Type 0} (f : E → List A) (before : List E) (x : E) → stated f before ++ f x ≡ stated f (before ++ x ∷ [])
grown f before x = sym (stated_parts f before (x ∷ []) ∙ ap (λ l. stated f before ++ l) (append-nil (f x)))

pub kept : {E A : Type 0} (f : E → List A) (before : List E) (x : E) → f x ≡ [] → stated f before ≡ stated f (before ++ x ∷ [])
kept f before x none = sym (append-nil (stated f before)) ∙ ap (λ l. stated f before ++ l) (sym none) ∙ grown f before x

-- the entry that states something, and the entries around it
pub record IsStatedBy {A : Type 0} (f : Entry → List A) (a : A) (xs : List Entry) : Type 0 where
  pub before : List Entry
  pub entry : Entry
  pub after : List Entry
  pub split : xs ≡ before ++ entry ∷ after
  pub at : In a (f entry)

pub stated_by : {A : Type 0} (f : Entry → List A) (a : A) (xs : List Entry) → In a (stated f xs) → IsStatedBy f a xs
stated_by f a [] at = in_none at
stated_by f a (x ∷ xs) at = by (stated_by f a xs) (in_split (f x) (stated f xs) at)
  where
    by : (In a (stated f xs) → IsStatedBy f a xs) → In a (f x) ⊎ In a (stated f xs) → IsStatedBy f a (x ∷ xs)
    by later (inl h) = record { before = []; entry = x; after = xs; split = refl; at = h }
    by later (inr h) = let p = later h in record { before = x ∷ p.before; entry = p.entry; after = p.after; split = ap (λ l. x ∷ l) p.split; at = p.at }

-- it stands before what follows the entry
pub before_is_less : (xs before : List Entry) (x : Entry) (after : List Entry) → xs ≡ before ++ x ∷ after → length before < length xs
before_is_less xs before x after e = subst (λ l. length before < length l) (sym e) (less before)
  where
    less : (before : List Entry) → length before < length (before ++ x ∷ after)
    less [] = omega arith
    less (y ∷ before) = let h = less before in omega arith

-- entries split once, and the part before split again
pub split_again : (all xs rest before : List Entry) (x : Entry) (after : List Entry) → all ≡ xs ++ rest → xs ≡ before ++ x ∷ after → all ≡ before ++ x ∷ (after ++ rest)
split_again all xs rest before x after e k = e ∙ ap (λ l. l ++ rest) k ∙ append_assoc before (x ∷ after) rest
