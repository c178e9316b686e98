-- The lines of a tree in prefix order have one reading.
use Rattle.std.proofs.Common.{◌≡◌, ℕ, List, [], ◌∷◌, ◌++◌, map, length, sym, refl, ap, ap₂, ◌∙◌, append-nil, append_assoc, arith}
use Rattle.law_sig.specs.Lists.{Each}
use Rattle.law_sig.specs.Trees.{joined}
use Rattle.law_sig.specs.declared.tree.SortId.{SortId}
use Rattle.law_sig.specs.declared.parts.SigParts.{SigParts}
use Rattle.law_cert_text.specs.declared.cert.TreeLine.{TreeLine}
use Rattle.law_cert_text.specs.declared.cert.TreeLine.TheVariants as line
use Rattle.law_cert_text.specs.declared.cert.SortTree.{SortTree as WrittenTree}
use Rattle.law_valid.specs.declared.certificate.Branch.{Branch}
use Rattle.law_valid.specs.declared.certificate.Branch.TheOpen as b
use Rattle.law_valid.specs.declared.certificate.Branch.TheVariants.{Leaf, Split, rolls-Leaf, rolls-Split}
use Rattle.law_valid.specs.declared.certificate.Branch.TheFolds.{fold-roll-Branch}
use Rattle.law_valid.specs.declared.certificate.Class.{Class}
use Rattle.law_valid.specs.declared.certificate.SortTree.{SortTree}
use Rattle.law_named.specs.Named.{term_lines, term_lines_step, schema_lines, schema_lines_step, IsTreeOf, AreTreesOf}
use Rattle.law_valid.proofs.Apart.{branch_induct}

-- a tree is known by its lines, whatever follows them

abbrev IsKnown : (L : Type 0) → (Branch L → List TreeLine) → Branch L → Type 0
IsKnown L lines t = (u : Branch L) (xs ys : List TreeLine) → lines t ++ xs ≡ lines u ++ ys → (t ≡ u) × (xs ≡ ys)

branch_cases : (L : Type 0) (P : Branch L → Type 0) → ((l : L) → P (Leaf l)) → ((test : ℕ) (kids : List (Branch L)) → P (Split test kids)) → (t : Branch L) → P t
branch_cases L P at_leaf at_split = branch_induct L P at_leaf (λ test kids have. at_split test kids)

-- so are trees one after another, where they are as many
all_known : (L : Type 0) (lines : Branch L → List TreeLine) (kids others : List (Branch L)) → Each (IsKnown L lines) kids → length kids ≡ length others
    → (xs ys : List TreeLine) → joined (map lines kids) ++ xs ≡ joined (map lines others) ++ ys → (kids ≡ others) × (xs ≡ ys)
all_known L lines [] [] have as_many xs ys same = (refl, same)
all_known L lines [] (u ∷ others) have as_many xs ys same = absurd (omega arith)
all_known L lines (t ∷ kids) [] have as_many xs ys same = absurd (omega arith)
all_known L lines (t ∷ kids) (u ∷ others) have as_many xs ys same =
    let p = have.0 u (joined (map lines kids) ++ xs) (joined (map lines others) ++ ys)
    (sym (append_assoc (lines t) (joined (map lines kids)) xs) ∙ same ∙ append_assoc (lines u) (joined (map lines others)) ys) in
    let q = all_known L lines kids others have.1 (omega arith) xs ys p.1 in
    (ap₂ ◌∷◌ p.0 q.0, q.1)

-- the head and the rest of equal lists of lines
leaf_parts : (n m : ℕ) (xs ys : List TreeLine) → line.Leaf n ∷ xs ≡ line.Leaf m ∷ ys → (n ≡ m) × (xs ≡ ys)
leaf_parts n m xs ys same = (cc, cc)

class_parts : (ns ms : List ℕ) (xs ys : List TreeLine) → line.Class ns ∷ xs ≡ line.Class ms ∷ ys → (ns ≡ ms) × (xs ≡ ys)
class_parts ns ms xs ys same = (cc, cc)

split_parts : (n m k l : ℕ) (xs ys : List TreeLine) → line.Split n k ∷ xs ≡ line.Split m l ∷ ys → (n ≡ m) × (k ≡ l) × (xs ≡ ys)
split_parts n m k l xs ys same = (cc, cc, cc)

leaf_no_split : (n m k : ℕ) (xs ys : List TreeLine) → line.Leaf n ∷ xs ≡ line.Split m k ∷ ys → ⊥
leaf_no_split n m k xs ys same = cc

class_no_split : (ns : List ℕ) (m k : ℕ) (xs ys : List TreeLine) → line.Class ns ∷ xs ≡ line.Split m k ∷ ys → ⊥
class_no_split ns m k xs ys same = cc

-- Trees of terms

pub term-Leaf : (n : ℕ) → term_lines (Leaf n) ≡ line.Leaf n ∷ []
term-Leaf n = ap term_lines (sym (rolls-Leaf n)) ∙ fold-roll-Branch ℕ (List TreeLine) term_lines_step (b.Leaf n)

length_map : {A B : Type 0} (f : A → B) (xs : List A) → length (map f xs) ≡ length xs
length_map f [] = refl
length_map f (x ∷ xs) = let h : length (map f xs) ≡ length xs = length_map f xs in omega arith

pub term-Split : (test : ℕ) (kids : List (Branch ℕ)) → term_lines (Split test kids) ≡ line.Split test (length kids) ∷ joined (map term_lines kids)
term-Split test kids = ap term_lines (sym (rolls-Split test kids)) ∙ fold-roll-Branch ℕ (List TreeLine) term_lines_step (b.Split test kids)
    ∙ ap (λ n. line.Split test n ∷ joined (map term_lines kids)) (length_map term_lines kids)

terms_known : (t : Branch ℕ) → IsKnown ℕ term_lines t
terms_known = branch_induct ℕ (IsKnown ℕ term_lines)
    (λ n. branch_cases ℕ (λ u. (xs ys : List TreeLine) → term_lines (Leaf n) ++ xs ≡ term_lines u ++ ys → (Leaf n ≡ u) × (xs ≡ ys))
    (λ m xs ys same. let p = leaf_parts n m xs ys (ap (λ l. l ++ xs) (sym (term-Leaf n)) ∙ same ∙ ap (λ l. l ++ ys) (term-Leaf m)) in (ap Leaf p.0, p.1))
    (λ test kids xs ys same. absurd (leaf_no_split n test (length kids) xs (joined (map term_lines kids) ++ ys)
    (ap (λ l. l ++ xs) (sym (term-Leaf n)) ∙ same ∙ ap (λ l. l ++ ys) (term-Split test kids)))))
    (λ test kids have. branch_cases ℕ (λ u. (xs ys : List TreeLine) → term_lines (Split test kids) ++ xs ≡ term_lines u ++ ys → (Split test kids ≡ u) × (xs ≡ ys))
    (λ m xs ys same. absurd (leaf_no_split m test (length kids) ys (joined (map term_lines kids) ++ xs)
    (ap (λ l. l ++ ys) (sym (term-Leaf m)) ∙ sym same ∙ ap (λ l. l ++ xs) (term-Split test kids))))
    (λ other others xs ys same.
    let p = split_parts test other (length kids) (length others) (joined (map term_lines kids) ++ xs) (joined (map term_lines others) ++ ys)
    (ap (λ l. l ++ xs) (sym (term-Split test kids)) ∙ same ∙ ap (λ l. l ++ ys) (term-Split other others)) in
    let q = all_known ℕ term_lines kids others have p.1 xs ys p.2 in
    (ap₂ Split p.0 q.0, q.1)))

-- Trees of schemas

pub schema-Leaf : (class : Class) → schema_lines (Leaf class) ≡ line.Class class.schemas ∷ term_lines class.terms
schema-Leaf class = ap schema_lines (sym (rolls-Leaf class)) ∙ fold-roll-Branch Class (List TreeLine) schema_lines_step (b.Leaf class)

pub schema-Split : (test : ℕ) (kids : List (Branch Class)) → schema_lines (Split test kids) ≡ line.Split test (length kids) ∷ joined (map schema_lines kids)
schema-Split test kids = ap schema_lines (sym (rolls-Split test kids)) ∙ fold-roll-Branch Class (List TreeLine) schema_lines_step (b.Split test kids)
    ∙ ap (λ n. line.Split test n ∷ joined (map schema_lines kids)) (length_map schema_lines kids)

one_class : (c d : Class) → c.schemas ≡ d.schemas → c.terms ≡ d.terms → c ≡ d
one_class c d p q = ap₂ made p q
  where
    made : List ℕ → Branch ℕ → Class
    made schemas terms = record { schemas = schemas; terms = terms }

schemas_known : (t : Branch Class) → IsKnown Class schema_lines t
schemas_known = branch_induct Class (IsKnown Class schema_lines)
    (λ c. branch_cases Class (λ u. (xs ys : List TreeLine) → schema_lines (Leaf c) ++ xs ≡ schema_lines u ++ ys → (Leaf c ≡ u) × (xs ≡ ys))
    (λ d xs ys same.
    let p = class_parts c.schemas d.schemas (term_lines c.terms ++ xs) (term_lines d.terms ++ ys)
    (ap (λ l. l ++ xs) (sym (schema-Leaf c)) ∙ same ∙ ap (λ l. l ++ ys) (schema-Leaf d)) in
    let q = terms_known c.terms d.terms xs ys p.1 in
    (ap Leaf (one_class c d p.0 q.0), q.1))
    (λ test kids xs ys same. absurd (class_no_split c.schemas test (length kids) (term_lines c.terms ++ xs) (joined (map schema_lines kids) ++ ys)
    (ap (λ l. l ++ xs) (sym (schema-Leaf c)) ∙ same ∙ ap (λ l. l ++ ys) (schema-Split test kids)))))
    (λ test kids have. branch_cases Class (λ u. (xs ys : List TreeLine) → schema_lines (Split test kids) ++ xs ≡ schema_lines u ++ ys → (Split test kids ≡ u) × (xs ≡ ys))
    (λ d xs ys same. absurd (class_no_split d.schemas test (length kids) (term_lines d.terms ++ ys) (joined (map schema_lines kids) ++ xs)
    (ap (λ l. l ++ ys) (sym (schema-Leaf d)) ∙ sym same ∙ ap (λ l. l ++ xs) (schema-Split test kids))))
    (λ other others xs ys same.
    let p = split_parts test other (length kids) (length others) (joined (map schema_lines kids) ++ xs) (joined (map schema_lines others) ++ ys)
    (ap (λ l. l ++ xs) (sym (schema-Split test kids)) ∙ same ∙ ap (λ l. l ++ ys) (schema-Split other others)) in
    let q = all_known Class schema_lines kids others have p.1 xs ys p.2 in
    (ap₂ Split p.0 q.0, q.1)))

one_tree : (parts : SigParts) (raw : WrittenTree) (tree other : SortTree) → IsTreeOf parts raw tree → IsTreeOf parts raw other → tree ≡ other
one_tree parts raw tree other is also = ap₂ made (is.sort ∙ sym also.sort)
    (schemas_known tree.tree other.tree [] [] (append-nil (schema_lines tree.tree) ∙ sym is.lines ∙ also.lines ∙ sym (append-nil (schema_lines other.tree)))).0
  where
    made : SortId → Branch Class → SortTree
    made sort t = record { sort = sort; tree = t }

pub one_reading : (parts : SigParts) (raws : List WrittenTree) (trees others : List SortTree) → AreTreesOf parts raws trees → AreTreesOf parts raws others → trees ≡ others
one_reading parts [] [] [] are also = refl
one_reading parts [] [] (u ∷ others) are also = absurd also
one_reading parts [] (t ∷ trees) others are also = absurd are
one_reading parts (raw ∷ raws) [] others are also = absurd are
one_reading parts (raw ∷ raws) (t ∷ trees) [] are also = absurd also
one_reading parts (raw ∷ raws) (t ∷ trees) (u ∷ others) are also = ap₂ ◌∷◌ (one_tree parts raw t u are.0 also.0) (one_reading parts raws trees others are.1 also.1)
