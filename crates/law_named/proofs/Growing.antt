-- Lines that are trees in prefix order have a reading.
use Rattle.std.proofs.Common.{◌≡◌, ℕ, zero, suc, ◌+◌, List, [], ◌∷◌, ◌++◌, map, length, sym, refl, ap, ◌∙◌, append-nil, arith}
use Rattle.std.specs.List.{AllByRecursion}
use Rattle.law_sig.specs.Trees.{joined}
use Rattle.law_sig.specs.declared.parts.SigParts.{SigParts}
use Rattle.law_cert_text.specs.declared.cert.Cert.{Cert}
use Rattle.law_cert_text.specs.declared.cert.TreeLine.{TreeLine}
use Rattle.law_cert_text.specs.declared.cert.TreeLine.TheVariants as line
use Rattle.law_cert_text.specs.declared.cert.SortTree.{SortTree as WrittenTree}
use Rattle.law_cert_text.specs.Certificates.{AreTrees, IsTree, IsCertText}
use Rattle.law_typing.specs.Typed.{IsTypedAs}
use Rattle.law_valid.specs.declared.certificate.Branch.{Branch}
use Rattle.law_valid.specs.declared.certificate.Branch.TheVariants.{Leaf, Split}
use Rattle.law_valid.specs.declared.certificate.Class.{Class}
use Rattle.law_valid.specs.declared.certificate.SortTree.{SortTree}
use Rattle.law_named.specs.Named.{sort_named, term_lines, schema_lines, AreTreesOf, Meaning}
use Rattle.law_valid.proofs.Apart.{joined_parts, map_parts}
use Rattle.law_named.proofs.Reading.{term-Leaf, term-Split, schema-Leaf, schema-Split}

-- a list in two parts of these lengths
record AreParts {A : Type 0} (n m : ℕ) (xs : List A) : Type 0 where
  pub first : List A
  pub second : List A
  pub are : xs ≡ first ++ second
  pub long : length first ≡ n
  pub rest : length second ≡ m

parts_of : {A : Type 0} (n m : ℕ) (xs : List A) → length xs ≡ n + m → AreParts n m xs
parts_of zero m xs h = record { first = []; second = xs; are = refl; long = refl; rest = omega arith }
parts_of (suc n) m [] h = absurd (omega arith)
parts_of (suc n) m (x ∷ xs) h =
    let p = parts_of n m xs (omega arith) in
    let l = p.long in
    record { first = x ∷ p.first; second = p.second; are = ap (λ l. x ∷ l) p.are; long = omega arith; rest = p.rest }

none_left : {A : Type 0} (xs : List A) → length xs ≡ 0 → xs ≡ []
none_left [] h = refl
none_left (x ∷ xs) h = absurd (omega arith)

one_left : {A : Type 0} (xs : List A) → length xs ≡ 1 → (x : A) × (xs ≡ x ∷ [])
one_left [] h = absurd (omega arith)
one_left (x ∷ []) h = (x, refl)
one_left (x ∷ y ∷ xs) h = absurd (omega arith)

abbrev all_terms : List (Branch ℕ) → List TreeLine
all_terms ts = joined (map term_lines ts)

abbrev all_schemas : List (Branch Class) → List TreeLine
all_schemas ss = joined (map schema_lines ss)

-- so many trees of terms, and then so many of schemas
record AreRead (sorts terms : ℕ) (lines : List TreeLine) : Type 0 where
  pub schemas_read : List (Branch Class)
  pub terms_read : List (Branch ℕ)
  pub many : length schemas_read ≡ sorts
  pub few : length terms_read ≡ terms
  pub are : lines ≡ all_terms terms_read ++ all_schemas schemas_read

two_parts : {A : Type 0} (f : A → List TreeLine) (xs ys : List A) → joined (map f (xs ++ ys)) ≡ joined (map f xs) ++ joined (map f ys)
two_parts f xs ys = ap joined (map_parts f xs ys) ∙ joined_parts (map f xs) (map f ys)

-- a split takes its children from the front

split_term : (sorts terms test count : ℕ) (lines : List TreeLine) {n : ℕ} → n ≡ count + terms → (r : AreRead sorts n lines) → AreRead sorts (suc terms) (line.Split test count ∷ lines)
split_term sorts terms test count lines same r =
    let p = parts_of count terms r.terms_read (r.few ∙ same) in
    let n = p.rest in
    record {
      schemas_read = r.schemas_read;
      terms_read = Split test p.first ∷ p.second;
      many = r.many;
      few = omega arith;
      are = ap (λ l. line.Split test count ∷ l) (r.are ∙ ap (λ l. all_terms l ++ all_schemas r.schemas_read) p.are ∙ ap (λ l. l ++ all_schemas r.schemas_read) (two_parts term_lines p.first p.second))
          ∙ ap (λ k. line.Split test k ∷ ((all_terms p.first ++ all_terms p.second) ++ all_schemas r.schemas_read)) (sym p.long)
          ∙ ap (λ l. (l ++ all_terms p.second) ++ all_schemas r.schemas_read) (sym (term-Split test p.first));
    }

split_schema : (sorts test count : ℕ) (lines : List TreeLine) {n : ℕ} → n ≡ count + sorts → (r : AreRead n zero lines) → AreRead (suc sorts) zero (line.Split test count ∷ lines)
split_schema sorts test count lines same r =
    let p = parts_of count sorts r.schemas_read (r.many ∙ same) in
    let n = p.rest in
    record {
      schemas_read = Split test p.first ∷ p.second;
      terms_read = [];
      many = omega arith;
      few = refl;
      are = ap (λ l. line.Split test count ∷ l) (r.are ∙ ap (λ l. all_terms l ++ all_schemas r.schemas_read) (none_left r.terms_read r.few) ∙ ap all_schemas p.are ∙ two_parts schema_lines p.first p.second)
          ∙ ap (λ k. line.Split test k ∷ (all_schemas p.first ++ all_schemas p.second)) (sym p.long)
          ∙ ap (λ l. l ++ all_schemas p.second) (sym (schema-Split test p.first));
    }

leaf_term : (sorts terms number : ℕ) (lines : List TreeLine) → AreRead sorts terms lines → AreRead sorts (suc terms) (line.Leaf number ∷ lines)
leaf_term sorts terms number lines r =
    let n = r.few in
    record {
      schemas_read = r.schemas_read;
      terms_read = Leaf number ∷ r.terms_read;
      many = r.many;
      few = omega arith;
      are = ap (λ l. line.Leaf number ∷ l) r.are ∙ ap (λ l. (l ++ all_terms r.terms_read) ++ all_schemas r.schemas_read) (sym (term-Leaf number));
    }

leaf_schema : (sorts : ℕ) (numbers : List ℕ) (lines : List TreeLine) → AreRead sorts 1 lines → AreRead (suc sorts) zero (line.Class numbers ∷ lines)
leaf_schema sorts numbers lines r = by (one_left r.terms_read r.few)
  where
    by : (t : Branch ℕ) × (r.terms_read ≡ t ∷ []) → AreRead (suc sorts) zero (line.Class numbers ∷ lines)
    by (t, is) =
        let class : Class = record { schemas = numbers; terms = t } in
        let n = r.many in
        record {
          schemas_read = Leaf class ∷ r.schemas_read;
          terms_read = [];
          many = omega arith;
          few = refl;
          are = ap (λ l. line.Class numbers ∷ l) (r.are ∙ ap (λ l. all_terms l ++ all_schemas r.schemas_read) is ∙ ap (λ l. l ++ all_schemas r.schemas_read) (append-nil (term_lines t)))
              ∙ ap (λ l. l ++ all_schemas r.schemas_read) (sym (schema-Leaf class));
        }

read : (lines : List TreeLine) (sorts terms : ℕ) → AreTrees sorts terms lines → AreRead sorts terms lines
read [] zero zero h = record { schemas_read = []; terms_read = []; many = refl; few = refl; are = refl }
read [] zero (suc terms) h = absurd h
read [] (suc sorts) zero h = absurd h
read [] (suc sorts) (suc terms) h = absurd h
read (line.Leaf number ∷ lines) zero (suc terms) h = leaf_term zero terms number lines (read lines zero terms h)
read (line.Leaf number ∷ lines) (suc sorts) (suc terms) h = leaf_term (suc sorts) terms number lines (read lines (suc sorts) terms h)
read (line.Leaf number ∷ lines) zero zero h = absurd h
read (line.Leaf number ∷ lines) (suc sorts) zero h = absurd h
read (line.Split test count ∷ lines) zero (suc terms) h = split_term zero terms test count lines (omega arith) (read lines zero _ h)
read (line.Split test count ∷ lines) (suc sorts) (suc terms) h = split_term (suc sorts) terms test count lines (omega arith) (read lines (suc sorts) _ h)
read (line.Split test count ∷ lines) (suc sorts) zero h = split_schema sorts test count lines (omega arith) (read lines _ zero h)
read (line.Split test count ∷ lines) zero zero h = absurd h
read (line.Class numbers ∷ lines) (suc sorts) zero h = leaf_schema sorts numbers lines (read lines sorts 1 h)
read (line.Class numbers ∷ lines) zero zero h = absurd h
read (line.Class numbers ∷ lines) zero (suc terms) h = absurd h
read (line.Class numbers ∷ lines) (suc sorts) (suc terms) h = absurd h

-- one tree
tree_read : (lines : List TreeLine) → AreTrees 1 0 lines → (t : Branch Class) × (lines ≡ schema_lines t)
tree_read lines h = by (read lines 1 0 h)
  where
    by : AreRead 1 0 lines → (t : Branch Class) × (lines ≡ schema_lines t)
    by r =
        let (t, is) = one_left r.schemas_read r.many in
        (t, r.are ∙ ap (λ l. all_terms l ++ all_schemas r.schemas_read) (none_left r.terms_read r.few) ∙ ap all_schemas is ∙ append-nil (schema_lines t))

trees_read : (parts : SigParts) (raws : List WrittenTree) → AllByRecursion IsTree raws → (trees : List SortTree) × AreTreesOf parts raws trees
trees_read parts [] h = ([], tt)
trees_read parts (raw ∷ raws) h =
    let (t, is) = tree_read raw.lines h.0.one in
    let (trees, are) = trees_read parts raws h.1 in
    (record { sort = sort_named parts raw.sort; tree = t } ∷ trees, (record { sort = refl; lines = is }, are))

pub spelled_means : (cert : Cert) (parts : SigParts) → IsCertText cert → IsTypedAs cert.sig parts → (m : Meaning cert) × (m.parts ≡ parts)
spelled_means cert parts text typed =
    let (trees, are) = trees_read parts cert.trees text.trees in
    (record { parts = parts; typed = typed; trees = trees; trees_are = are }, refl)
